use Rattle.vs_plan.proofs.FirstRoots.{zeros_are_empty, premise_again}
use Rattle.vs_plan.proofs.laws.premises_hold_again.Goals as goal

pub returns : goal.returns
returns c = record {
  first = λ depth memory root address whole clear. zeros_are_empty depth memory root clear address whole;
  next = premise_again;
}
