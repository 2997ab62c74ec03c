use Rattle.nr_trace.proofs.LawsOfPrecedence.{legal}
use Rattle.nr_trace.proofs.laws.recorded_order_is_legal.Goals as goal

pub returns : goal.returns
returns c = λ start trace clean in_time right. legal start trace clean in_time right
