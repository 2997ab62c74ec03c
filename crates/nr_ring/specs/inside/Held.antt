-- What a pass holds beside its view.
use Rattle.std.specs.List.{range_with_len}
use Rattle.std.specs.Prelude.{◌≡◌, ℕ, ◌+◌, ◌-◌, ◌*◌, ◌<◌, ◌≤◌, ⊤, Bool, MatchBool, List, [], ◌∷◌, All, Option, None, Some, length, slice_index}
use Rattle.version_cell.specs.Passes.{CellPass}
use Rattle.vs_types.specs.declared.addresses.depth.Depth.{Depth}
use Rattle.vs_types.specs.declared.limits.TheConstants.{REPLICAS}
use Rattle.nr_ring.specs.LogHistory.{IsLogHistory, Log, MayFollow, completed, local_of, log_after, log_after_event, tail}
use Rattle.nr_ring.specs.View.{StartsWith}
use Rattle.nr_ring.specs.Calls.{HasLooked, HasMoved, MayMake, with_event, with_events}
use Rattle.nr_ring.specs.declared.ring.log_event.LogEvent.{LogEvent}
use Rattle.nr_ring.specs.declared.cells.stored.Stored.{Stored}
use Rattle.nr_ring.specs.declared.ring.view.View.{View}
use Rattle.nr_ring.specs.declared.ring.tails.Tails.{Tails}
use Rattle.nr_ring.specs.declared.cells.words.TheConstants.{TAIL_WORD, COMPLETED_WORD, COUNT_WORD, LAST_WORD, LOCAL_WORDS, RINGS, RING_WORDS}

-- the replica that a pass owns, as a list
abbrev pub owned : Option ℕ → List ℕ
owned None = []
owned (Some replica) = replica ∷ []

-- the replica, if there is one, is one of so many
abbrev pub IsBelow : ℕ → Option ℕ → Type 0
IsBelow replicas replica = (r : ℕ) → replica ≡ Some r → r < replicas

-- what the code says of a log, and of the ring of its last entry
pub record IsHeadOf (log : Log) (last : ℕ) (head : List ℕ) : Type 0 where
  pub tail_is : slice_index head TAIL_WORD ≡ tail log
  pub completed_is : slice_index head COMPLETED_WORD ≡ completed log
  pub locals_are : (replica : ℕ) → replica < REPLICAS → slice_index head (LOCAL_WORDS + replica) ≡ local_of log replica
  pub replicas_are : slice_index head COUNT_WORD ≡ length log.locals
  pub last_is : slice_index head LAST_WORD ≡ last

-- the value is all that the pass has seen, among which are the events that it made, and it begins with all that it was given. The pass
-- has one right to make events, and its own words are those of a ring
pub record Remembers (depth : Depth) (replicas passes places : ℕ) (replica : Option ℕ) (ring : ℕ) (pass : CellPass View Stored)
    : Type 0 where
  pub few : replicas ≤ REPLICAS
  pub few_rings : passes ≤ RINGS
  pub is_history : IsLogHistory depth replicas pass.view.seen
  pub value_is : pass.value.history ≡ pass.view.seen
  pub each_ring : length pass.value.rings ≡ tail (log_after replicas pass.view.seen)
  pub rings_below : All (λ ring. ring < passes) pass.value.rings
  pub ends : tail (log_after replicas pass.view.seen) ≤ places
  pub from_is : pass.from ≡ RING_WORDS * ring
  pub own_long : length pass.own ≡ RING_WORDS
  pub ring_below : ring < passes
  pub owns : pass.view.owns ≡ owned replica
  pub owned_below : IsBelow replicas replica
  pub rights : pass.view.rights ≡ 1
  pub mine : All (λ number. number < length pass.view.seen) pass.view.mine
  pub told : All (StartsWith pass.view.seen) pass.view.told

abbrev pub tails_of_head : List ℕ → Tails
tails_of_head head = record {
  tail = slice_index head TAIL_WORD;
  completed = slice_index head COMPLETED_WORD;
  local =
      slice_index head LOCAL_WORDS ∷ slice_index head (LOCAL_WORDS + 1) ∷ slice_index head (LOCAL_WORDS + 2) ∷ slice_index head (LOCAL_WORDS + 3) ∷ [];
}

-- the value of the cell of a new log
abbrev pub nothing_stored : Stored
nothing_stored = record { history = []; rings = [] }

-- the view of a pass that has seen and made nothing
abbrev pub new_view : List ℕ → ℕ → View
new_view owns rights = record { seen = []; mine = []; owns = owns; rights = rights; told = [] }

-- the replicas that the first pass still owns before it gives one away, and after that; none where it gives none
abbrev pub left_from : ℕ → Option ℕ → List ℕ
left_from replicas None = []
left_from replicas (Some replica) = range_with_len replica (replicas - replica)

abbrev pub rest_of : ℕ → Option ℕ → List ℕ
rest_of replicas None = []
rest_of replicas (Some replica) = range_with_len (replica + 1) (replicas - (replica + 1))

-- a pass may make these events, one after another, in a log of so many places
abbrev pub LeadTo : Depth → ℕ → ℕ → View → List LogEvent → Type 0
LeadTo depth replicas places view [] = ⊤
LeadTo depth replicas places view (event ∷ events) =
    MayFollow depth (log_after replicas view.seen) event × MayMake view event × LeadTo depth replicas places (with_event view event) events
    × (tail (log_after_event (log_after replicas view.seen) event) ≤ places)

-- what a try to make events shows: the pass made them, or it looked and another pass's event has come
abbrev pub MadeOrMoved : Depth → ℕ → List LogEvent → View → View → Bool → Type 0
MadeOrMoved depth replicas events before after made =
    MatchBool made (after ≡ with_events before events) (HasLooked depth replicas before after × HasMoved before after)
