use Rattle.std.proofs.Common.{◌≡◌, length, subst, arith}
use Rattle.vs_types.specs.declared.addresses.page.Page.{Page}
use Rattle.nr_touch.specs.inside.Listed.{IsListed}
use Rattle.nr_touch.proofs.ListedPages.{now_listed, still_listed}
use Rattle.nr_touch.proofs.ReachedPages.{was_there}
use Rattle.nr_touch.proofs.releases.lingering.Lingering.note.Goals as goal

pub returns-clause-others : goal.returns-clause-others
returns-clause-others c = λ gone page frame it.
    still_listed c.args.self.now (record { index = c.note.new.self; pages = c.push.new.self }) c.args.left.now.change.page c.in_ok-push.ensures.items
    c.in_ok-note.ensures.others gone page frame it

pub returns-clause-own : goal.returns-clause-own
returns-clause-own c = λ gone page frame within looks open_so.
    let pages = c.args.self.now.pages in
    let (there, is) = was_there c.args.left.now.change page looks in
    let many : c.len-number.result ≡ length pages.items = omega (arith, pages.ok.0) in
    subst (λ (q : Page). IsListed (record { index = c.note.new.self; pages = c.push.new.self }) gone q frame) is
    (now_listed c.args.self.now (record { index = c.note.new.self; pages = c.push.new.self }) c.args.left.now.change.page c.in_ok-push.ensures.items
    c.len-number.result many c.in_ok-note.ensures.own gone frame within)
