-- The rows of the last calls.
use Rattle.std.proofs.Common.{ℕ, ◌<◌, arith}
use Rattle.nr_audit.specs.declared.histories.last_calls.LastCalls.{LastCalls}
use Rattle.nr_audit.specs.declared.histories.last_calls.LastCalls.TheVariants.{Rows, Entries}
use Rattle.nr_audit.specs.inside.LastCalls.{HasRowFor, HasRows}

pub row_for : (threads thread : ℕ) (last : LastCalls) → HasRows threads last → thread < threads → HasRowFor thread last
row_for threads thread (Rows rows) many few = omega (arith, many, few)
row_for threads thread (Entries entries) many few = tt
