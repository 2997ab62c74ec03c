use Rattle.std.proofs.Common.{refl, ap, ◌∙◌}
use Rattle.vs_space.specs.Held.{numbered}
use Rattle.vs_space.proofs.Numbered.{stored, whole-empty, numbered-empty, numbers_none}
use Rattle.vs_space.proofs.Counts.{counted_none}
use Rattle.vs_space.proofs.tables.Tables.new.Goals as goal

pub invariant_of-result : goal.invariant_of-result
invariant_of-result g c = (
  whole-empty _ c.requires,
  numbers_none _ _ (ap (numbered (g.S.FrameStore.place c.args.store).base) c.requires ∙ numbered-empty _),
  counted_none _ _ c.requires,
)

pub returns : goal.returns
returns g c = stored _ refl (ap (numbered _) c.requires ∙ numbered-empty _)
