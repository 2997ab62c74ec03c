use Rattle.std.proofs.Common.{ap, ◌∙◌}
use Rattle.vs_types.specs.declared.addresses.depth.Depth.TheVariants.{Five}
use Rattle.nr_node.specs.inside.AppliedEntry.{AppliedEntry}
use Rattle.nr_node.proofs.applied_entry.AppliedEntry.entry.Goals as goal

pub of-requires : goal.of-requires
of-requires c = (Five, _, c.self.invariant)

pub returns : goal.returns
returns c = c.of.ensures Five _ c.self.invariant ∙ ap (λ (t : AppliedEntry). t.entry) c.self.view_is
