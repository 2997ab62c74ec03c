-- Requests by name: what the words of each say, which is one thing at most.
use Rattle.std.proofs.Common.{◌≡◌, ◌↔◌, ℕ, List, Option, Some, None, Result, Ok, Err, MatchResult, refl, sym, ap, subst, ◌∙◌}
use Rattle.std.specs.Result.{result_ok}
use Rattle.vs_types.specs.Faults.{GivesUnless}
use Rattle.vs_types.specs.Finds.{Finds}
use Rattle.vs_types.specs.Operation.{action_fault}
use Rattle.vs_types.specs.Query.{IsQuery, query_fault}
use Rattle.vs_types.specs.declared.addresses.access.Access.{Access}
use Rattle.vs_types.specs.declared.addresses.access.Mode.{Mode}
use Rattle.vs_types.specs.declared.addresses.depth.Depth.{Depth}
use Rattle.vs_types.specs.declared.requests.op.Action.{Action}
use Rattle.vs_types.specs.declared.requests.op.Action.TheVariants.{Map, Unmap, Protect}
use Rattle.vs_types.specs.declared.requests.op.BadOp.{BadOp}
use Rattle.vs_types.specs.declared.addresses.page.Page.{Page}
use Rattle.vs_types.specs.declared.addresses.page.Rights.{Rights}
use Rattle.vs_types.specs.declared.requests.request.Query.{Query}
use Rattle.vs_types.specs.declared.requests.request.Query.TheVariants as queries
use Rattle.vs_text.specs.Requests.{name_of, AreArguments, SpellsAccess, SpellsOne, SpellsPage, SpellsRights}
use Rattle.vs_text.specs.inside.Named.{IsNamed}
use Rattle.vs_text.specs.declared.name.Name.{Name}
use Rattle.vs_text.specs.declared.name.Name.TheVariants as names
use Rattle.vs_text.proofs.Alone.{one_accessed, one_alone, one_page, one_protected}

-- the queries of a name are made of arguments that the words spell, one at most
pub record Kind (name : Name) (words : List (List ℕ)) (A : Type 0) (make : A → Query) (Spelled : A → Type 0) : Type 0 where
  named : (a : A) → name_of (make a) ≡ name
  arguments : (a : A) → Spelled a → AreArguments words (make a)
  pub made_of : (query : Query) → name_of query ≡ name → AreArguments words query → (a : A) × (query ≡ make a) × Spelled a
  pub one : (a b : A) → Spelled a → Spelled b → a ≡ b

pair : {A B : Type 0} {a c : A} {b d : B} → a ≡ c → b ≡ d → ◌≡◌ {A = A × B} (a, b) (c, d)
pair left right = cc

triple : {A B C : Type 0} {a d : A} {b e : B} {c f : C} → a ≡ d → b ≡ e → c ≡ f → ◌≡◌ {A = A × B × C} (a, b, c) (d, e, f)
triple left middle right = cc

pub map_kind : (words : List (List ℕ)) → Kind names.Map words (Page) (λ page. queries.Update (Map page)) (SpellsPage words)
map_kind words = record {
  named = λ a. refl;
  arguments = λ a spelled. spelled;
  made_of = made;
  one = one_page words;
} where
  made : (query : Query) → name_of query ≡ names.Map → AreArguments words query → (it : Page) × (query ≡ queries.Update (Map it)) × SpellsPage words it
  made (queries.Update (Map page)) is spelled = (page, refl, spelled)
  made (queries.Update (Unmap base)) is spelled = cc
  made (queries.Update (Protect base rights)) is spelled = cc
  made (queries.Resolve address) is spelled = cc
  made (queries.Access address mode access) is spelled = cc

pub unmap_kind : (words : List (List ℕ)) → Kind names.Unmap words (ℕ) (λ base. queries.Update (Unmap base)) (SpellsOne words)
unmap_kind words = record {
  named = λ a. refl;
  arguments = λ a spelled. spelled;
  made_of = made;
  one = one_alone words;
} where
  made : (query : Query) → name_of query ≡ names.Unmap → AreArguments words query → (it : ℕ) × (query ≡ queries.Update (Unmap it)) × SpellsOne words it
  made (queries.Update (Map page)) is spelled = cc
  made (queries.Update (Unmap base)) is spelled = (base, refl, spelled)
  made (queries.Update (Protect base rights)) is spelled = cc
  made (queries.Resolve address) is spelled = cc
  made (queries.Access address mode access) is spelled = cc

pub protect_kind : (words : List (List ℕ))
    → Kind names.Protect words (ℕ × Rights) (λ it. queries.Update (Protect it.0 it.1)) (λ it. SpellsRights words it.0 it.1)
protect_kind words = record {
  named = λ a. refl;
  arguments = λ a spelled. spelled;
  made_of = made;
  one = both;
} where
  both : (a b : ℕ × Rights) → SpellsRights words a.0 a.1 → SpellsRights words b.0 b.1 → a ≡ b
  both a b first second = let same = one_protected words a.0 b.0 a.1 b.1 first second in pair same.0 same.1

  made : (query : Query) → name_of query ≡ names.Protect → AreArguments words query
      → (it : ℕ × Rights) × (query ≡ queries.Update (Protect it.0 it.1)) × SpellsRights words it.0 it.1
  made (queries.Update (Protect base rights)) is spelled = ((base, rights), refl, spelled)
  made _ is spelled = cc

pub resolve_kind : (words : List (List ℕ)) → Kind names.Resolve words (ℕ) (λ address. queries.Resolve address) (SpellsOne words)
resolve_kind words = record {
  named = λ a. refl;
  arguments = λ a spelled. spelled;
  made_of = made;
  one = one_alone words;
} where
  made : (query : Query) → name_of query ≡ names.Resolve → AreArguments words query → (it : ℕ) × (query ≡ queries.Resolve it) × SpellsOne words it
  made (queries.Update (Map page)) is spelled = cc
  made (queries.Update (Unmap base)) is spelled = cc
  made (queries.Update (Protect base rights)) is spelled = cc
  made (queries.Resolve address) is spelled = (address, refl, spelled)
  made (queries.Access address mode access) is spelled = cc

pub access_kind : (words : List (List ℕ))
    → Kind names.Access words (ℕ × Mode × Access) (λ it. queries.Access it.0 it.1 it.2) (λ it. SpellsAccess words it.0 it.1 it.2)
access_kind words = record {
  named = λ a. refl;
  arguments = λ a spelled. spelled;
  made_of = made;
  one = all;
} where
  all : (a b : ℕ × Mode × Access) → SpellsAccess words a.0 a.1 a.2 → SpellsAccess words b.0 b.1 b.2 → a ≡ b
  all a b first second = let same = one_accessed words a.0 b.0 a.1 b.1 a.2 b.2 first second in triple same.0 same.1 same.2

  made : (query : Query) → name_of query ≡ names.Access → AreArguments words query
      → (it : ℕ × Mode × Access) × (query ≡ queries.Access it.0 it.1 it.2) × SpellsAccess words it.0 it.1 it.2
  made (queries.Update (Map page)) is spelled = cc
  made (queries.Access address mode access) is spelled = ((address, mode, access), refl, spelled)
  made _ is spelled = cc

-- words that spell no arguments of this name
pub unread : {A : Type 0} {make : A → Query} {Spelled : A → Type 0} (depth : Depth) (name : Name) (words : List (List ℕ)) → Kind name words A make Spelled
    → ((a : A) → Spelled a → ⊥) → (query : Query) → IsNamed depth name words query → ⊥
unread depth name words kind none query named =
    let made = kind.made_of query named.name_is named.arguments_are in
    none made.0 made.2

-- what is well formed has no fault
abbrev pub IsLaw : Type 0
IsLaw = (depth : Depth) (query : Query) → (query_fault depth query ≡ None) ↔ IsQuery depth query

-- the arguments are read, and then tested
pub tested : {A : Type 0} {make : A → Query} {Spelled : A → Type 0} (depth : Depth) (name : Name) (words : List (List ℕ))
    → Kind name words A make Spelled → IsLaw
    → (a : A) → Spelled a → (r : Result Query BadOp) → GivesUnless (query_fault depth (make a)) (make a) r → Finds (IsNamed depth name words) (result_ok r)
tested {make = make} {Spelled = Spelled} depth name words kind law a spelled (Ok query) given =
    let P : Query → Type 0 = IsNamed depth name words in
    subst P (sym given.1) (record {
      name_is = kind.named a;
      arguments_are = kind.arguments a spelled;
      well_formed = (law depth (make a)).0 given.0;
    })
tested {make = make} {Spelled = Spelled} depth name words kind law a spelled (Err fault) named = λ query is.
    let made = kind.made_of query is.name_is is.arguments_are in
    let same : query ≡ make a = made.1 ∙ ap make (kind.one made.0 a made.2 spelled) in
    let right = (law depth (make a)).1 (subst (IsQuery depth) same is.well_formed) in
    let wrong : None ≡ Some fault = sym right ∙ named in
    cc

-- the same of an operation
pub updated : {A : Type 0} {make : A → Action} {Spelled : A → Type 0} (depth : Depth) (name : Name) (words : List (List ℕ))
    → Kind name words A (λ a. queries.Update (make a)) Spelled → IsLaw
    → (a : A) → Spelled a → (r : Result Action BadOp) → GivesUnless (action_fault depth (make a)) (make a) r
    → (found : Option Query) → MatchResult r (λ action. found ≡ Some (queries.Update action)) (λ fault. found ≡ None) → Finds (IsNamed depth name words) found
updated {make = make} depth name words kind law a spelled (Ok action) given found is =
    let P = Finds (IsNamed depth name words) in
    subst P (sym is) (tested depth name words kind law a spelled (Ok (queries.Update action)) (given.0, ap (λ (it : Action). queries.Update it) given.1))
updated {make = make} depth name words kind law a spelled (Err fault) named found is =
    let P = Finds (IsNamed depth name words) in
    subst P (sym is) (tested depth name words kind law a spelled (Err fault) named)
