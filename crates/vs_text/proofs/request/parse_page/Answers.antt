use Rattle.std.proofs.Common.{ℕ, List, subst, sym, arith}
use Rattle.vs_text.specs.Words.{SpellsAddress}
use Rattle.vs_text.proofs.Texts.{text_at}
use Rattle.vs_text.proofs.request.parse_page.Goals as goal

pub returns-in_err-base : goal.returns-in_err-base
returns-in_err-base c =
    rw c.from_residual-in_err-base.ensures (λ page spelled.
    c.in_err-base.ensures page.base (subst (λ (word : List ℕ). SpellsAddress word page.base)
    (sym (text_at c.args.words.now 1 _ _ spelled.words_are (omega arith))) spelled.base_is))

pub returns-in_err-phys : goal.returns-in_err-phys
returns-in_err-phys c =
    rw c.from_residual-in_err-phys.ensures (λ page spelled.
    c.in_err-phys.ensures page.phys (subst (λ (word : List ℕ). SpellsAddress word page.phys)
    (sym (text_at c.args.words.now 2 _ _ spelled.words_are (omega arith))) spelled.phys_is))

pub returns-in_err-rights : goal.returns-in_err-rights
returns-in_err-rights c =
    rw c.from_residual-in_err-rights.ensures (λ page spelled.
    c.in_err-rights.ensures page.rights (text_at c.args.words.now 3 _ _ spelled.words_are (omega arith)))
