use Rattle.std.proofs.Common.{◌≡◌, ◌+◌, ◌-◌, ◌/◌, ◌<◌, get_or, length, sym, ◌∙◌, arith}
use Rattle.nr_touch.proofs.Found.{far_page, far_bound}
use Rattle.nr_touch.proofs.changes.search.search.Goals as goal

pub loop-low-preserved-then-is_before : goal.loop-low-preserved-then-is_before
loop-low-preserved-then-is_before c =
    let inv = c.loop-low.invariant in
    let pages = c.args.pages.now in
    let bounds = c.args.bounds.now in
    let m = c.loop-low.low + (c.loop-low.high - c.loop-low.low) / 2 in
    let test = c.loop-low-test.true in
    let within : m < length pages = omega (arith, test, inv.within) in
    let yes = c.if-is_before.true in
    let page = c.is_before.ensures.page yes in
    record {
      order = omega (arith, test);
      within = inv.within;
      before = λ j l. let up = far_page pages bounds c.requires j m (omega (arith, l)) within in omega (arith, up, page);
      less = λ j l own.
          let up = far_page pages bounds c.requires j m (omega (arith, l)) within in
          let same : get_or pages m 0 ≡ c.args.of_page = omega (arith, up, page, own) in
          let bound = c.is_before.ensures.bound yes same in
          let rises = far_bound pages bounds c.requires j m (omega (arith, l)) within (own ∙ sym same) in
          omega (arith, bound, rises, c.from.ensures);
      behind = inv.behind;
      reached = inv.reached;
    }

pub loop-low-preserved : goal.loop-low-preserved
loop-low-preserved c =
    let inv = c.loop-low.invariant in
    let pages = c.args.pages.now in
    let bounds = c.args.bounds.now in
    let m = c.loop-low.low + (c.loop-low.high - c.loop-low.low) / 2 in
    let test = c.loop-low-test.true in
    let no = c.if-is_before.false in
    let page = c.is_before.ensures.not_page no in
    record {
      order = omega (arith, test);
      within = omega (arith, test, inv.within);
      before = inv.before;
      less = inv.less;
      behind = λ j l there. let up = far_page pages bounds c.requires m j l there in omega (arith, up, page);
      reached = λ j l there own.
          let up = far_page pages bounds c.requires m j l there in
          let same : get_or pages m 0 ≡ c.args.of_page = omega (arith, up, page, own) in
          let bound = c.is_before.ensures.not_bound no same in
          let rises = far_bound pages bounds c.requires m j l there (same ∙ sym own) in
          omega (arith, bound, rises, c.from.ensures);
    }
