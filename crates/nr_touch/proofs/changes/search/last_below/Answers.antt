use Rattle.std.proofs.Common.{◌-◌, arith}
use Rattle.nr_touch.proofs.Found.{none_below}
use Rattle.nr_touch.proofs.changes.search.last_below.Goals as goal

pub returns-then-behind-eq0 : goal.returns-then-behind-eq0
returns-then-behind-eq0 c = let start = c.if-behind-eq0.true in λ j l own. c.search-behind.ensures.reached j (omega (arith, start)) l own

pub returns-then-pages-behind : goal.returns-then-pages-behind
returns-then-pages-behind c =
    none_below c.args.pages.now c.args.bounds.now c.requires c.args.of_page c.args.bound c.search-behind.result c.search-behind.ensures
    (let some = c.if-behind-eq0.false in omega (arith, some)) c.if-pages-behind.true

pub returns : goal.returns
returns c =
    let some = c.if-behind-eq0.false in
    let w = c.search-behind.ensures.within in
    record {
      within = omega (arith, w, some);
      own = c.if-pages-behind.false;
      less = c.search-behind.ensures.less (c.search-behind.result - 1) (omega (arith, some)) c.if-pages-behind.false;
      behind = λ j past. c.search-behind.ensures.reached j (omega (arith, past));
    }
