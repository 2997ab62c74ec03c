use Rattle.std.proofs.Common.{ap, subst, ◌∙◌}
use Rattle.vs_types.specs.LogEntry.{IsLogEntry, log_words}
use Rattle.vs_types.specs.declared.addresses.depth.Depth.TheVariants.{Five}
use Rattle.nr_ring.proofs.cells.packed.PackedEntry.words.Goals as goal

pub returns-clause-spell : goal.returns-clause-spell
returns-clause-spell c = c.self.invariant.spelled ∙ ap log_words c.self.view_is

pub returns-clause-fits : goal.returns-clause-fits
returns-clause-fits c = subst (IsLogEntry Five) c.self.view_is c.self.invariant.is_entry
