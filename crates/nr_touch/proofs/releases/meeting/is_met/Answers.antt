use Rattle.std.proofs.Common.{sym, ◌∙◌, subst}
use Rattle.std.proofs.lemmas.Bool.{false≢true}
use Rattle.nr_touch.specs.Touches.{IsRightBehind}
use Rattle.nr_touch.specs.declared.touches.touch.Touch.{Touch}
use Rattle.nr_touch.proofs.releases.meeting.is_met.Goals as goal

pub returns-then-not-is_in : goal.returns-then-not-is_in
returns-then-not-is_in c = λ b. (
  λ t. absurd (false≢true t),
  λ met. absurd (false≢true (sym c.if-not-is_in.true ∙ c.is_in.ensures.1 met.has)),
)

pub returns : goal.returns
returns c = λ b.
    let right = c.is_right_behind.ensures b in (
      λ t. record {
        has = c.is_in.ensures.0 c.if-not-is_in.false;
        right = subst (λ (touch : Touch). IsRightBehind b.before b.start b.segment touch) c.probe-touch.ensures (right.0 t);
      },
      λ met. right.1 (subst (λ (touch : Touch). IsRightBehind b.before b.start b.segment touch) (sym c.probe-touch.ensures) met.right),
    )
