use Rattle.std.proofs.Common.{get_or, subst, arith}
use Rattle.vs_types.specs.declared.addresses.page.Page.{Page}
use Rattle.nr_touch.specs.inside.Indexed.{IsIndexed}
use Rattle.nr_touch.proofs.IndexRows.{one_further}
use Rattle.nr_touch.proofs.releases.index.Index.note_all.Goals as goal

pub loop-page-preserved : goal.loop-page-preserved
loop-page-preserved c =
    let inv = c.loop-page.invariant in
    let others = c.in_ok-note.ensures.others in
    record {
      own = one_further (λ (page : Page). IsIndexed c.note.new.self page) c.args.pages.now c.loop-page.page-index _ c.loop-page-test.true
          (λ k d l. others (get_or c.args.pages.now k d) (get_or c.args.pages.now k d).base (inv.own k d l)) c.in_ok-note.ensures.own;
      others = λ page was. others page page.base (inv.others page was);
    }

pub returns-clause-own : goal.returns-clause-own
returns-clause-own c = λ page has.
    let (k, l, is) = has in
    subst (λ (own : Page). IsIndexed c.loop-page.self own) is (c.loop-page.invariant.own k page (omega (arith, l)))
