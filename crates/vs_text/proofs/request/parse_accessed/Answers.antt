use Rattle.std.proofs.Common.{ℕ, List, subst, sym, arith}
use Rattle.vs_text.specs.Words.{SpellsAddress}
use Rattle.vs_text.proofs.Texts.{text_at}
use Rattle.vs_text.proofs.request.parse_accessed.Goals as goal

pub returns-in_err-address : goal.returns-in_err-address
returns-in_err-address c =
    rw c.from_residual-in_err-address.ensures (λ it spelled.
    c.in_err-address.ensures it.0 (subst (λ (word : List ℕ). SpellsAddress word it.0)
    (sym (text_at c.args.words.now 2 _ _ spelled.words_are (omega arith))) spelled.address_is))
