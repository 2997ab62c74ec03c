use Rattle.vs_types.proofs.Looks.{done_fresh, done_looks}
use Rattle.vs_types.proofs.laws.done_adds_the_page.Goals as goal

pub returns-clause-fresh : goal.returns-clause-fresh
returns-clause-fresh c = λ depth limit space page address is. done_fresh limit is page address

pub returns-clause-looks : goal.returns-clause-looks
returns-clause-looks c = λ depth limit space page is good. done_looks limit is page good
