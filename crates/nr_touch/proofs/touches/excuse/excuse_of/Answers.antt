use Rattle.std.proofs.Common.{◌∙◌, inl, inr, sym}
use Rattle.std.proofs.lemmas.Bool.{false≢true}
use Rattle.nr_touch.specs.declared.touches.excuse.Excuse.TheVariants.{None, Lagging}
use Rattle.nr_touch.proofs.Excused.{excused_late}
use Rattle.nr_touch.proofs.cuts.Tails.{excused_of, parts_of}
use Rattle.nr_touch.proofs.touches.excuse.excuse_of.Goals as goal

pub returns-then-is_as_now : goal.returns-then-is_as_now
returns-then-is_as_now c = λ b. excused_of b c.args.touch.now None ((c.is_as_now.ensures b).0 c.if-is_as_now.true)

pub returns-then-is_in_time : goal.returns-then-is_in_time
returns-then-is_in_time c = λ b. excused_of b c.args.touch.now c.open_or_kept.result
    (excused_late _ b.start b.segment c.args.touch.now c.open_or_kept.result (inl ((c.is_in_time.ensures b).0 c.if-is_in_time.true))
    (λ now. false≢true (sym c.if-is_as_now.false ∙ (c.is_as_now.ensures b).1 now)) (c.open_or_kept.ensures b))

pub returns-then-is_left : goal.returns-then-is_left
returns-then-is_left c = λ b. excused_of b c.args.touch.now c.open_or_kept-then-is_left.result
    (excused_late _ b.start b.segment c.args.touch.now c.open_or_kept-then-is_left.result (inr ((c.is_left.ensures b).0 c.if-is_left.true))
    (λ now. false≢true (sym c.if-is_as_now.false ∙ (c.is_as_now.ensures b).1 now)) (c.open_or_kept-then-is_left.ensures b))

pub returns-then-is_of_lagging : goal.returns-then-is_of_lagging
returns-then-is_of_lagging c = λ b. excused_of b c.args.touch.now Lagging (
  (c.is_of_lagging.ensures b).0 c.if-is_of_lagging.true,
  λ in_time. elim in_time [
    | inl own ↦ false≢true (sym c.if-is_in_time.false ∙ (c.is_in_time.ensures b).1 own)
    | inr left ↦ false≢true (sym c.if-is_left.false ∙ (c.is_left.ensures b).1 left)
  ],
)

pub returns : goal.returns
returns c = λ b right.
    elim ((parts_of b c.args.touch.now).0 right) [
      | inl mine ↦ elim mine [
        | inl in_time ↦ false≢true (sym c.if-is_in_time.false ∙ (c.is_in_time.ensures b).1 in_time)
        | inr lagging ↦ false≢true (sym c.if-is_of_lagging.false ∙ (c.is_of_lagging.ensures b).1 lagging)
      ]
      | inr left ↦ false≢true (sym c.if-is_left.false ∙ (c.is_left.ensures b).1 left)
    ]
