-- What the laws of `src/laws.rt` say of two logs, and of who makes events.
use Rattle.std.specs.Prelude.{◌≡◌, ℕ, ◌≤◌, ◌<◌, ◌+◌, List, ◌++◌, Contains, length}
use mathlib.Core.Option.{some}
use lib.ListN.{get_elem?}
use Rattle.vs_types.specs.declared.log_entry.LogEntry.{LogEntry}
use Rattle.nr_ring.specs.declared.ring.view.View.{View}
use Rattle.vs_types.specs.declared.limits.TheConstants.{RING}
use Rattle.nr_ring.specs.LogHistory.{Log, tail, local_of, completed}
use Rattle.nr_ring.specs.declared.cells.words.TheConstants.{MOST_PLACES}

-- the later log begins with the entries of the earlier one, and no tail has fallen
pub record HasGoneOn (earlier later : Log) : Type 0 where
  pub entries : (rest : List LogEntry) × (later.entries ≡ earlier.entries ++ rest)
  pub replicas : length later.locals ≡ length earlier.locals
  pub locals : (replica : ℕ) → local_of earlier replica ≤ local_of later replica
  pub completed : completed earlier ≤ completed later

-- the two logs have the same tail and the same local tails
pub record HasSameTails (p q : Log) : Type 0 where
  pub tail : tail p ≡ tail q
  pub locals : (replica : ℕ) → local_of p replica ≡ local_of q replica

-- no replica has taken an entry that is not there, or is more than 16 entries behind
pub record FitsTheRing (log : Log) : Type 0 where
  pub written : (replica : ℕ) → local_of log replica ≤ tail log
  pub kept_up : (replica : ℕ) → replica < length log.locals → tail log ≤ local_of log replica + RING
  pub ends : tail log ≤ MOST_PLACES

-- the pass made the event of this number, and has a right to make events
pub record IsMaker (views : List View) (number pass : ℕ) : Type 0 where
  pub view : View
  pub is_there : get_elem? views pass ≡ some view
  pub made : Contains view.mine number
  pub right : 1 ≤ view.rights
