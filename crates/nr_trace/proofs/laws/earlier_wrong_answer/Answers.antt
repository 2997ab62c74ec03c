use Rattle.nr_trace.specs.Orders.{before, recorded_order}
use Rattle.nr_trace.proofs.LawsOfLists.{Contains-from_in, in_from_Contains}
use Rattle.nr_trace.proofs.LawsOfFaults.{earlier_answer, answer_before}
use Rattle.nr_trace.proofs.laws.earlier_wrong_answer.Goals as goal

pub returns : goal.returns
returns c = λ start trace i j clean h k. (
  (λ e. Contains-from_in i (before j (recorded_order trace)) (earlier_answer start trace i j clean h k e)),
  (λ m. answer_before trace i j (in_from_Contains i (before j (recorded_order trace)) m)),
)
