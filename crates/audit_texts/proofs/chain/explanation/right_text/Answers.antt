use Rattle.std.proofs.Common.{◌≡◌, ◌∙◌, ◌++◌, ℕ, List, ap, codes, decimal, sym}
use Rattle.std.proofs.lemmas.List.{append_assoc}
use Rattle.std.proofs.lemmas.Result.{IfOk-weaker}
use Rattle.audit_texts.specs.Text.{line_end}
use Rattle.audit_texts.specs.ChainEvidence.{chain_counts_lines}
use Rattle.audit_texts.proofs.chain.explanation.right_text.Goals as goal

pub returns : goal.returns
returns c =
    let number = decimal c.args.counts.segments in
    let lines = chain_counts_lines c.args.counts in
    let same : codes "segments " ++ (number ++ (line_end ++ lines)) ≡ (codes "segments " ++ (number ++ line_end)) ++ lines =
    ap (λ (l : List ℕ). codes "segments " ++ l) (sym (append_assoc number line_end lines)) in
    IfOk-weaker c.format.result _ _ (λ text is. is ∙ same) (rw c.in_ok-lines.ensures at c.format.ensures.ok)
