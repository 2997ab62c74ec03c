use Rattle.audit_numbers.proofs.Pieces.{found_at_end}
use Rattle.audit_numbers.proofs.judging.judge_end.Goals as goal

pub returns : goal.returns
returns c = λ bytes orders explain judged told. (
  found_at_end bytes orders c.args.chain c.end.result judged (c.end.ensures judged.run judged.kept),
  c.in_ok-explanation.ensures bytes explain told,
)
