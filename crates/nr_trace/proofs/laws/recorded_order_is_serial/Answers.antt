use Rattle.nr_trace.proofs.LawsOfOrder.{legal_but_precedence}
use Rattle.nr_trace.proofs.laws.recorded_order_is_serial.Goals as goal

pub returns : goal.returns
returns c = λ start trace clean right. legal_but_precedence start trace clean right
