use Rattle.std.proofs.Common.{subst, arith}
use Rattle.nr_touch.specs.Touches.{IsAnsweredAt}
use Rattle.nr_touch.proofs.Excused.{newest, newest_is}
use Rattle.nr_touch.proofs.Tests.{no}
use Rattle.nr_touch.proofs.Walked.{allowed_so, last_within, says_at}
use Rattle.nr_touch.proofs.touches.excuse.is_as_now.Goals as goal

pub returns-then-last-first : goal.returns-then-last-first
returns-then-last-first c = λ b. no (λ (n, newer, is, answered).
    let (low, high) = (allowed_so b c.args.touch.now c.last_allowed-last.result
    c.last_allowed-last.ensures c.first_allowed-first.result c.finds_page.result c.finds_page.ensures c.first_allowed-first.ensures.in_range
    c.first_allowed-first.ensures.past n answered).0 is in
    omega (arith, low, high, c.if-last-first.true))

pub returns : goal.returns
returns c = λ b.
    let touch = c.args.touch.now in
    let last = c.last_allowed-last.result in
    let ahead = c.last_allowed-last.ensures in
    let within = last_within b touch last ahead in
    let at = says_at b touch last c.next-next.result c.answers.result c.next-next.ensures.next
    (λ now seen. c.answers.ensures now (c.look_until.ensures now seen)) within in (
      λ t. (
        last,
        newest b touch last ahead,
        (allowed_so b touch last ahead c.first_allowed-first.result c.finds_page.result c.finds_page.ensures
            c.first_allowed-first.ensures.in_range c.first_allowed-first.ensures.past last (at.0 t)).1
            (omega (arith, c.if-last-first.false), omega arith),
        at.0 t,
      ),
      λ (n, newer, is, answered). at.1 (subst (IsAnsweredAt b.start b.segment touch) (newest_is b touch last ahead n newer) answered),
    )
