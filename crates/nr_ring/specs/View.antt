-- What a pass knows of a history.
use Rattle.std.specs.Prelude.{◌≡◌, ◌≢◌, ℕ, ◌+◌, ◌==◌, if◌then◌else◌, List, [], ◌∷◌, ◌++◌, All, ⊤}
use Rattle.nr_ring.specs.declared.ring.log_event.LogEvent.{LogEvent}
use Rattle.nr_ring.specs.declared.ring.log_event.LogEvent.TheVariants.{Append, Advance}
use Rattle.nr_ring.specs.declared.ring.view.View.{View}

-- the events begin with these
abbrev pub StartsWith : List LogEvent → List LogEvent → Type 0
StartsWith events seen = (rest : List LogEvent) × (events ≡ seen ++ rest)

-- the event is no advance of the replica
abbrev pub IsElse : ℕ → LogEvent → Type 0
IsElse replica (Append batch) = ⊤
IsElse replica (Advance other to) = other ≢ replica

-- the events begin with these, and go on without an advance of the replica
abbrev pub HasSeenAdvances : ℕ → List LogEvent → List LogEvent → Type 0
HasSeenAdvances replica events seen = (rest : List LogEvent) × (events ≡ seen ++ rest) × All (IsElse replica) rest

-- the numbers, from this one on, of the events that a pass made, where the list names the maker of each
abbrev pub made_from : ℕ → ℕ → List ℕ → List ℕ
made_from number pass [] = []
made_from number pass (maker ∷ makers) = if maker == pass then number ∷ made_from (number + 1) pass makers else made_from (number + 1) pass makers

-- the numbers of the events that a pass made, counted from 0
abbrev pub made_by_pass : ℕ → List ℕ → List ℕ
made_by_pass pass makers = made_from 0 pass makers

-- what a pass knows is true of the history, in which it made just these events
pub record IsTrueOf (history : List LogEvent) (made : List ℕ) (view : View) : Type 0 where
  pub seen : StartsWith history view.seen
  pub told : All (StartsWith history) view.told
  pub owns : All (λ replica. HasSeenAdvances replica history view.seen) view.owns
  pub mine : view.mine ≡ made
