use Rattle.std.proofs.Common.{ap, ◌∙◌}
use Rattle.std.specs.FinMap as finite
use Rattle.vs_plain.specs.inside.Listed.{listed_space}
use Rattle.vs_plain.proofs.Listed.{put_listed}
use Rattle.vs_plain.proofs.page_map.PageMap.insert.Goals as goal

pub returns-clause-ok : goal.returns-clause-ok
returns-clause-ok c =
    let es = c.self.inside.by_base.entries in
    rw (← c.self.view_is) (put_listed es _ c.args.page.base c.of.result c.self.invariant c.insert.ensures.ordered c.in_ok-insert.ensures.updates.0
    ∙ ap (finite.insert (listed_space es) c.args.page.base) c.of.ensures)
