-- A pass that gathers the replicas of others.
use Rattle.std.specs.Prelude.{ℕ, ◌+◌, ◌==◌, Bool, true, ◌&&◌, not, if◌then◌else◌, List, [], ◌∷◌, ◌++◌}
use Rattle.nr_ring.specs.Calls.{offshoot}
use Rattle.nr_ring.specs.declared.ring.view.View.{View}

-- the list has no such number
abbrev pub lacks : List ℕ → ℕ → Bool
lacks [] number = true
lacks (other ∷ others) number = not (other == number) && lacks others number

-- no replica is in both lists
abbrev pub are_apart : List ℕ → List ℕ → Bool
are_apart owned [] = true
are_apart owned (replica ∷ given) = lacks owned replica && are_apart owned given

-- the view of no pass: it has made an event, and has no right to make one
abbrev pub no_view : View
no_view = record { seen = []; mine = 0 ∷ []; owns = []; rights = 0; told = [] }

-- the view of a pass that takes over what another owns
abbrev pub taken_over : View → View → View
taken_over view other = record {
  seen = view.seen;
  mine = view.mine;
  owns = view.owns ++ other.owns;
  rights = view.rights + other.rights;
  told = other.seen ∷ view.told;
}

-- and the same said of any two views: no two passes own the same replica, so where two views do there is no such pass
abbrev pub gathered : View → View → View
gathered view other = if are_apart view.owns other.owns then taken_over view other else no_view

-- the part of a pass that has all that it owns, and none of its rights
abbrev pub owner_of : View → View
owner_of view = offshoot view view.owns 0
