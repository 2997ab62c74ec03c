use Rattle.std.proofs.Common.{ℕ, List, subst, sym}
use Rattle.vs_text.specs.Requests.{SpellsQuery}
use Rattle.nr_script.proofs.InLines.{rest_of}
use Rattle.nr_script.proofs.line.parse_asked.Goals as goal

pub returns-in_err-request : goal.returns-in_err-request
returns-in_err-request c =
    rw c.from_residual-in_err-request.ensures (λ it spelled.
    let same = rest_of c.args.words.now _ spelled.asks spelled.words_are in
    c.in_err-request.ensures it.1 (subst (λ (words : List (List ℕ)). SpellsQuery c.args.depth words it.1) (sym same) spelled.query_is))
