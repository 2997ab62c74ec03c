use Rattle.std.proofs.Common.{ℕ, ◌<◌, List, length, ap, ◌∙◌, rules}
use Rattle.std.specs.Borrow.{Bor}
use Rattle.vs_text.specs.Words.{texts}
use Rattle.nr_script.proofs.InLines.{found_in_words}
use Rattle.nr_script.proofs.line.parse_line.Goals as goal

pub returns : goal.returns
returns c =
    let line = c.args.line.now in
    let kept = texts c.as_slice.result.now in
    let is = ap (λ (them : List (Bor (List ℕ))). texts them) c.as_slice.ensures.value ∙ c.split_words-words.ensures in
    let some : 0 < length line = search rules in
    found_in_words c.args.depth line kept is some c.if-line-eq35.false c.parse_words.result c.parse_words.ensures
