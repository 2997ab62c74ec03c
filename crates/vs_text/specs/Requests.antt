-- Requests in words: a name, and then its arguments.
use Rattle.std.specs.Prelude.{◌≡◌, ◌++◌, ℕ, List, [], ◌∷◌, codes}
use Rattle.vs_types.specs.Query.{IsQuery}
use Rattle.vs_types.specs.declared.addresses.depth.Depth.{Depth}
use Rattle.vs_types.specs.declared.addresses.access.Access.{Access}
use Rattle.vs_types.specs.declared.addresses.access.Mode.{Mode}
use Rattle.vs_types.specs.declared.requests.op.Action.TheVariants.{Map, Unmap, Protect}
use Rattle.vs_types.specs.declared.addresses.page.Page.{Page}
use Rattle.vs_types.specs.declared.addresses.page.Rights.{Rights}
use Rattle.vs_types.specs.declared.requests.request.Query.{Query}
use Rattle.vs_types.specs.declared.requests.request.Query.TheVariants as queries
use Rattle.vs_text.specs.Words.{access_text, hexadecimal, mode_text, rights_text, size_text, space, SpellsAddress}
use Rattle.vs_text.specs.declared.name.Name.{Name}
use Rattle.vs_text.specs.declared.name.Name.TheVariants as names

-- the name of a kind of request
abbrev pub name_text : Name → List ℕ
name_text names.Map = codes "map"
name_text names.Unmap = codes "unmap"
name_text names.Protect = codes "protect"
name_text names.Resolve = codes "resolve"
name_text names.Access = codes "access"

-- the kind of a request
abbrev pub name_of : Query → Name
name_of (queries.Update (Map page)) = names.Map
name_of (queries.Update (Unmap base)) = names.Unmap
name_of (queries.Update (Protect base rights)) = names.Protect
name_of (queries.Resolve address) = names.Resolve
name_of (queries.Access address mode access) = names.Access

-- the words are a page's: SIZE BASE PHYS RIGHTS
pub record SpellsPage (words : List (List ℕ)) (page : Page) : Type 0 where
  pub base : List ℕ
  pub phys : List ℕ
  pub words_are : words ≡ size_text page.size ∷ base ∷ phys ∷ rights_text page.rights ∷ []
  pub base_is : SpellsAddress base page.base
  pub phys_is : SpellsAddress phys page.phys

-- the words are one address
pub record SpellsOne (words : List (List ℕ)) (address : ℕ) : Type 0 where
  pub word : List ℕ
  pub words_are : words ≡ word ∷ []
  pub address_is : SpellsAddress word address

-- the words are those of a base and its new rights: BASE RIGHTS
pub record SpellsRights (words : List (List ℕ)) (base : ℕ) (rights : Rights) : Type 0 where
  pub word : List ℕ
  pub words_are : words ≡ word ∷ rights_text rights ∷ []
  pub base_is : SpellsAddress word base

-- the words are those of an access: MODE ACCESS VA
pub record SpellsAccess (words : List (List ℕ)) (address : ℕ) (mode : Mode) (access : Access) : Type 0 where
  pub word : List ℕ
  pub words_are : words ≡ mode_text mode ∷ access_text access ∷ word ∷ []
  pub address_is : SpellsAddress word address

-- the words are the arguments of the request
abbrev pub AreArguments : List (List ℕ) → Query → Type 0
AreArguments words (queries.Update (Map page)) = SpellsPage words page
AreArguments words (queries.Update (Unmap base)) = SpellsOne words base
AreArguments words (queries.Update (Protect base rights)) = SpellsRights words base rights
AreArguments words (queries.Resolve address) = SpellsOne words address
AreArguments words (queries.Access address mode access) = SpellsAccess words address mode access

-- the words are the name and the arguments of a request that is well formed at the depth
pub record SpellsQuery (depth : Depth) (words : List (List ℕ)) (query : Query) : Type 0 where
  pub arguments : List (List ℕ)
  pub words_are : words ≡ name_text (name_of query) ∷ arguments
  pub arguments_are : AreArguments arguments query
  pub well_formed : IsQuery depth query

-- as a request is written
unfoldable pub request_text : Query → List ℕ
request_text (queries.Update (Map page)) = codes "map " ++ (size_text page.size ++ (space ++ (hexadecimal page.base ++ (space
    ++ (hexadecimal page.phys ++ (space ++ rights_text page.rights))))))
request_text (queries.Update (Unmap base)) = codes "unmap " ++ hexadecimal base
request_text (queries.Update (Protect base rights)) = codes "protect " ++ (hexadecimal base ++ (space ++ rights_text rights))
request_text (queries.Resolve address) = codes "resolve " ++ hexadecimal address
request_text (queries.Access address mode access) = codes "access " ++ (mode_text mode ++ (space ++ (access_text access ++ (space ++ hexadecimal address))))
