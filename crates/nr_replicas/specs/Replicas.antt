-- What the calls of the replicas answer.
use Rattle.std.specs.Prelude.{◌≡◌, ℕ, ◌-◌, ◌<◌, ◌≤◌, [], All, Some, slice_get, ⊤}
use Rattle.vs_types.specs.declared.requests.answer.Answer.{Answer}
use Rattle.vs_types.specs.declared.addresses.depth.Depth.{Depth}
use Rattle.vs_types.specs.declared.log_entry.LogEntry.{LogEntry}
use Rattle.vs_types.specs.Config.{Layout}
use Rattle.vs_types.specs.declared.limits.TheConstants.{LOG_PLACES, RING}
use Rattle.vs_types.specs.Space.{Space}
use Rattle.nr_ring.specs.LogHistory.{Log, IsLogHistory, tail}
use Rattle.nr_ring.specs.Pass.{TableId}
use Rattle.nr_ring.specs.View.{HasSeenAdvances, StartsWith}
use Rattle.nr_ring.specs.declared.ring.view.View.{View}
use Rattle.nr_node.specs.Spaces.{answer_at, space_at}
use Rattle.nr_replicas.specs.declared.update_fault.UpdateFault.{UpdateFault}
use Rattle.nr_replicas.specs.declared.update_fault.UpdateFault.TheVariants.{Occupied, Ended, Stopped}

-- what contracts see of replicas without a name: which log is theirs, how they are laid out, and the place at which the last cut ended
pub record OpenState : Type 0 where
  pub log : TableId
  pub layout : Layout
  pub base : ℕ

-- a pass has seen more of its log, or as much: it made no event, owns what it owned, which nobody has advanced, and has its rights
pub record HasHeard (depth : Depth) (replicas : ℕ) (before after : View) : Type 0 where
  pub is_history : IsLogHistory depth replicas after.seen
  pub seen : StartsWith after.seen before.seen
  pub advances : All (λ replica. HasSeenAdvances replica after.seen before.seen) before.owns
  pub mine : after.mine ≡ before.mine
  pub owns : after.owns ≡ before.owns
  pub rights : after.rights ≡ before.rights

-- an update was answered: its entry is in the log at this place, which is not below that one, and the answer is its operation's there
pub record IsAnsweredAt (depth : Depth) (tables from : ℕ) (log : Log) (entry : LogEntry) (place : ℕ) (answer : Answer) : Type 0 where
  pub fresh : from ≤ place
  pub stands : slice_get log.entries place ≡ Some entry
  pub answered : answer ≡ answer_at depth tables log.entries place entry.op

-- why an update was not answered: its slot was not empty; the log has no room for a batch of 16; or it was stopped
abbrev pub IsFaultOf : ℕ → Log → UpdateFault → Type 0
IsFaultOf call log Occupied = ⊤
IsFaultOf call log (Ended ended) = (ended ≡ call) × (LOG_PLACES - RING < tail log)
IsFaultOf call log (Stopped stopped) = stopped ≡ call

-- a read was answered in the space after so many entries of the log, of which there are not fewer than these
pub record IsReadAt (depth : Depth) (tables from : ℕ) (log : Log) (answer_in : Space → Answer) (at : ℕ) (answer : Answer) : Type 0 where
  pub fresh : from ≤ at
  pub known : at ≤ tail log
  pub answered : answer ≡ answer_in (space_at depth tables log.entries at)

-- the name of no log
abbrev pub no_log : TableId
no_log = record { words = 0; slots = 0; views_name = 0; atom = 0; block = 0; offset = 0; slot_names = [] }
