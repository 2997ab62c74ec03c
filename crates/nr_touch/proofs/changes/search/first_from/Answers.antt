use Rattle.std.proofs.Common.{◌<◌, length, arith}
use Rattle.nr_touch.proofs.Found.{none_from}
use Rattle.nr_touch.proofs.changes.search.first_from.Goals as goal

pub returns-then-row-pages : goal.returns-then-row-pages
returns-then-row-pages c = let end = c.if-row-pages.true in λ j l own. c.search-row.ensures.less j (omega (arith, l, end)) own

pub returns-then-pages-row : goal.returns-then-pages-row
returns-then-pages-row c =
    none_from c.args.pages.now c.args.bounds.now c.requires c.args.of_page c.args.bound c.search-row.result c.search-row.ensures
    (let w = c.search-row.ensures.within in omega (arith, w, c.if-row-pages.false)) c.if-pages-row.true

pub returns : goal.returns
returns c =
    let there : c.search-row.result < length c.args.pages.now = let w = c.search-row.ensures.within in omega (arith, w, c.if-row-pages.false) in
    record {
      within = there;
      own = c.if-pages-row.false;
      reached = c.search-row.ensures.reached c.search-row.result (omega arith) there c.if-pages-row.false;
      before = c.search-row.ensures.less;
    }
