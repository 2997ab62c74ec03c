use Rattle.std.proofs.Common.{refl, sym}
use Rattle.audit_numbers.proofs.Pieces.{nothing_told}
use Rattle.audit_numbers.proofs.telling.begin_telling.Goals as goal

pub returns-then-explain : goal.returns-then-explain
returns-then-explain c = (sym c.if-explain.true, nothing_told c.new.result c.new.ensures)
