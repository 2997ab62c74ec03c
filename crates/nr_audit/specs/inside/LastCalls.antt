-- The last call of each thread, in rows or in entries. No public clause cites this file.
use Rattle.std.specs.Prelude.{◌≡◌, ℕ, ◌<◌, length, slice_index_or, Option, None, ⊤}
use Rattle.std.specs.Ordering.{nat_cmp}
use Rattle.std.specs.BTreeMap.{get}
use Rattle.nr_audit.specs.declared.histories.last_calls.LastCalls.{LastCalls}
use Rattle.nr_audit.specs.declared.histories.last_calls.LastCalls.TheVariants.{Rows, Entries}

-- the last call of a thread, if it has made one
abbrev pub last_of : LastCalls → ℕ → Option ℕ
last_of (Rows rows) thread = slice_index_or rows.items thread None
last_of (Entries entries) thread = get nat_cmp entries thread

-- a row is there for the thread, where there are rows
abbrev pub HasRowFor : ℕ → LastCalls → Type 0
HasRowFor thread (Rows rows) = thread < length rows.items
HasRowFor thread (Entries entries) = ⊤

-- as many rows are there as threads, where there are rows
abbrev pub HasRows : ℕ → LastCalls → Type 0
HasRows threads (Rows rows) = length rows.items ≡ threads
HasRows threads (Entries entries) = ⊤
