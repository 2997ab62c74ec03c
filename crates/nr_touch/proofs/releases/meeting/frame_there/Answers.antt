use Rattle.std.proofs.Common.{inl, inr, sym, ◌∙◌, arith}
use Rattle.std.proofs.lemmas.Bool.{cases_lt, false≢true}
use Rattle.nr_touch.proofs.ReachedPages.{leads_alike}
use Rattle.nr_touch.proofs.releases.meeting.frame_there.Goals as goal

pub loop-frame-init : goal.loop-frame-init
loop-frame-init c = record {
  has = c.first_frame-frame.ensures.has;
  none = λ b leads. c.first_frame-frame.ensures.least leads.frame leads.has;
}

pub overflow_mul-offset : goal.overflow_mul-offset
overflow_mul-offset c =
    let within = c.end_frame-end.ensures.within c.loop-frame.frame c.loop-frame-test.true in
    let ends = c.requires.page.ends in
    omega (arith, within, ends)

pub is_met-requires-clause-base : goal.is_met-requires-clause-base
is_met-requires-clause-base c =
    let within = c.end_frame-end.ensures.within c.loop-frame.frame c.loop-frame-test.true in
    let ends = c.requires.page.ends in
    omega (arith, within, ends)

pub is_met-requires-clause-frame : goal.is_met-requires-clause-frame
is_met-requires-clause-frame c =
    let within = c.end_frame-end.ensures.within c.loop-frame.frame c.loop-frame-test.true in
    let low = c.requires.page.low in
    omega (arith, within, low)

pub returns-then-is_met-clause-finds : goal.returns-then-is_met-clause-finds
returns-then-is_met-clause-finds c = λ b. record {
  met = (c.is_met.ensures b).0 c.if-is_met.true;
  first = λ leads. c.loop-frame.invariant.none b leads;
}

pub returns-then-is_met-clause-within : goal.returns-then-is_met-clause-within
returns-then-is_met-clause-within c = c.end_frame-end.ensures.within c.loop-frame.frame c.loop-frame-test.true

pub next_frame-frame-requires-clause-within : goal.next_frame-frame-requires-clause-within
next_frame-frame-requires-clause-within c = c.end_frame-end.ensures.within c.loop-frame.frame c.loop-frame-test.true

pub loop-frame-smaller : goal.loop-frame-smaller
loop-frame-smaller c = let up = c.next_frame-frame.ensures.up in let test = c.loop-frame-test.true in omega (arith, up, test)

pub loop-frame-preserved : goal.loop-frame-preserved
loop-frame-preserved c =
    let next = c.next_frame-frame.ensures in
    let here = c.loop-frame.invariant.has in
    record {
      has = let up = next.up in omega (arith, up, here);
      none = λ b leads. elim (cases_lt leads.frame c.next_frame-frame.result) [
        | inl low ↦
            let from = c.loop-frame.invariant.none b leads in
            absurd (false≢true (sym c.if-is_met.false ∙ (c.is_met.ensures b).1
            (leads_alike c.requires.built b c.args.release.now c.args.page c.requires.page leads c.loop-frame.frame from here
            (next.own leads.frame from low) (next.earlier leads.frame from low))))
        | inr past ↦ past
      ];
    }

pub returns-clause-finds : goal.returns-clause-finds
returns-clause-finds c = λ b leads.
    let low = c.loop-frame.invariant.none b leads in
    let less = c.end_frame-end.ensures.behind leads.frame leads.within leads.has in
    omega (arith, low, less, c.loop-frame-test.false)
