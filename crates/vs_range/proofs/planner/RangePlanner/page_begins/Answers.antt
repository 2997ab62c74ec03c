use Rattle.std.proofs.Common.{◌%◌, ap, ◌∙◌}
use Rattle.vs_types.specs.Page.{bytes_of}
use Rattle.vs_range.proofs.Taking.{aligned_at}
use Rattle.vs_range.proofs.planner.RangePlanner.page_begins.Goals as goal

pub returns-then-not-is_page : goal.returns-then-not-is_page
returns-then-not-is_page c = λ size at. c.is_page.ensures.none c.if-not-is_page.true at.page

pub returns-then-offset-ne0 : goal.returns-then-offset-ne0
returns-then-offset-ne0 c = λ size at. c.if-offset-ne0.true
    (ap (λ b. c.args.self.now.base % b) (c.bytes.ensures ∙ ap bytes_of c.at_level-size.ensures) ∙ aligned_at c.args.self.now c.args.word size at)
