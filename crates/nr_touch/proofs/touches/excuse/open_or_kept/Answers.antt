use Rattle.std.proofs.Common.{◌∙◌, sym}
use Rattle.std.proofs.lemmas.Bool.{false≢true}
use Rattle.nr_touch.proofs.touches.excuse.open_or_kept.Goals as goal

pub returns-then-is_up_to_date : goal.returns-then-is_up_to_date
returns-then-is_up_to_date c = λ b fault. (c.is_up_to_date.ensures b).0 c.if-is_up_to_date.true

pub returns : goal.returns
returns c = λ b.
    (c.is_fault.ensures.0 c.if-not-is_fault.false, λ is. false≢true (sym c.if-is_up_to_date.false ∙ (c.is_up_to_date.ensures b).1 is))
