use Rattle.std.proofs.Common.{get_or}
use Rattle.nr_touch.proofs.IndexRows.{row_left}
use Rattle.nr_touch.proofs.releases.index.Index.forget.Goals as goal

pub loop-block-preserved : goal.loop-block-preserved
loop-block-preserved c = λ row differs has.
    row_left (get_or c.blocks-block-items.result c.loop-block.block-index 0) c.args.page.base c.loop-block.self.rows c.remove.new.self
    c.remove.ensures.updates row differs (c.loop-block.invariant row differs has)
