use Rattle.std.proofs.Common.{◌≡◌, ℕ, ◌<◌, Some}
use Rattle.vs_types.specs.declared.entries.entry.Meaning.TheVariants as entry
use Rattle.vs_space.specs.Path.{entry_in}
use Rattle.vs_space.proofs.tables.Tables.first_present.Given as goal

abbrev pub invariant-loop-index : goal.invariant-loop-index
invariant-loop-index g l = (i : ℕ) → i < l.index → entry_in l.level l.self.memory l.number i ≡ Some entry.Absent
