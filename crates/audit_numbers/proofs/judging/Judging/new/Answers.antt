use Rattle.audit_numbers.proofs.Pieces.{nothing_judged}
use Rattle.audit_numbers.proofs.judging.Judging.new.Goals as goal

pub returns : goal.returns
returns c = (nothing_judged c.new.result c.new.ensures, c.begin_telling.ensures)
