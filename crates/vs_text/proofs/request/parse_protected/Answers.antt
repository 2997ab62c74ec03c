use Rattle.std.proofs.Common.{ℕ, List, subst, sym, arith}
use Rattle.vs_text.specs.Words.{SpellsAddress}
use Rattle.vs_text.proofs.Texts.{text_at}
use Rattle.vs_text.proofs.request.parse_protected.Goals as goal

pub returns-in_err-base : goal.returns-in_err-base
returns-in_err-base c =
    rw c.from_residual.ensures (λ it spelled.
    c.in_err-base.ensures it.0 (subst (λ (word : List ℕ). SpellsAddress word it.0)
    (sym (text_at c.args.words.now 0 _ _ spelled.words_are (omega arith))) spelled.base_is))
