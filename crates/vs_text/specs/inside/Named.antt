-- What the arguments of a request say, by its name.
use Rattle.std.specs.Prelude.{◌≡◌, ℕ, List}
use Rattle.vs_types.specs.Query.{IsQuery}
use Rattle.vs_types.specs.declared.addresses.depth.Depth.{Depth}
use Rattle.vs_types.specs.declared.requests.request.Query.{Query}
use Rattle.vs_text.specs.Requests.{name_of, AreArguments}
use Rattle.vs_text.specs.declared.name.Name.{Name}

-- a request of this name with these arguments, which is well formed at the depth
pub record IsNamed (depth : Depth) (name : Name) (words : List (List ℕ)) (query : Query) : Type 0 where
  pub name_is : name_of query ≡ name
  pub arguments_are : AreArguments words query
  pub well_formed : IsQuery depth query
