use Rattle.std.proofs.Common.{sym, ap, ◌∙◌}
use Rattle.vs_range.specs.declared.run.Change.{Change}
use Rattle.vs_range.specs.Run.{word_after}
use Rattle.nrvs_plan_c.proofs.RunNumbers.{allowed_by, unflagged_by}
use Rattle.nrvs_plan_c.proofs.records.run_told.numbers_of.Goals as goal

pub returns-in-Allow : goal.returns-in-Allow
returns-in-Allow c = λ number word low.
    allowed_by word c.rights_bits.result number c.in-Allow.rights c.rights_bits.ensures
    ∙ ap (λ (change : Change). word_after change number word) (sym c.in-Allow.is)

pub returns-in-Unflag : goal.returns-in-Unflag
returns-in-Unflag c = λ number word low.
    unflagged_by word number low ∙ ap (λ (change : Change). word_after change number word) (sym c.in-Unflag.is)
