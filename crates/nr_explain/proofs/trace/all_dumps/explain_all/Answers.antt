use Rattle.std.proofs.Common.{Vec, Global, ap, ◌∙◌}
use Rattle.nr_audit.proofs.PartsOfVerdicts.{is_trace}
use Rattle.nr_explain.specs.declared.trace.all_dumps.DumpExplanation.{DumpExplanation}
use Rattle.nr_explain.specs.inside.Explained.{IsExplanationOn}
use Rattle.nr_explain.proofs.Explanations.{full_of_right, full_of_wrong}
use Rattle.nr_explain.proofs.trace.all_dumps.explain_all.Goals as goal
use Rattle.nr_explain.proofs.trace.all_dumps.explain_all.Goals.{in-Yes, in-No+in_ok-dumps-in-No}

pub returns : goal.returns
returns c = λ bytes spelled.
    let trace = c.args.trace.now in
    let on : IsExplanationOn trace c.in_ok-explanation.explanation = c.in_ok-explanation.ensures (is_trace spelled) in
    elim c.match-explanation.branch [
      | in-Yes w ↦
          full_of_right bytes trace _ _ _ spelled on w.in-Yes.is
          (ap (λ (v : Vec DumpExplanation Global). v.items) w.dumps-is ∙ w.new-dumps.ensures.items)
      | in-No+in_ok-dumps-in-No w ↦
          full_of_wrong bytes trace _ _ _ spelled on w.in-No.is (rw (w.dumps-is, ← w.replica_of.ensures) w.in_ok-dumps-in-No.ensures)
    ]
