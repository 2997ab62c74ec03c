use Rattle.std.proofs.Common.{sym, subst, ◌∙◌}
use Rattle.vs_types.specs.LogEntry.{IsLogEntry}
use Rattle.vs_types.specs.declared.addresses.depth.Depth.TheVariants.{Five}
use Rattle.nr_ring.proofs.cells.packed.PackedEntry.entry.Goals as goal

pub entry_of-requires : goal.entry_of-requires
entry_of-requires c = (Five, _, c.self.invariant)

pub returns-clause-is : goal.returns-clause-is
returns-clause-is c = c.entry_of.ensures Five _ c.self.invariant ∙ c.self.view_is

pub returns-clause-fits : goal.returns-clause-fits
returns-clause-fits c = subst (IsLogEntry Five) (sym (c.entry_of.ensures Five _ c.self.invariant)) c.self.invariant.is_entry
