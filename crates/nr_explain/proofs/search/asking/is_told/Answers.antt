use Rattle.nr_explain.proofs.Asking.{told_same}
use Rattle.nr_explain.proofs.search.asking.is_told.Goals as goal

pub returns-clause-is : goal.returns-clause-is
returns-clause-is c =
    told_same c.args.space.now c.args.request c.in_ok-answer.answer c.args.told c.is_same.result c.in_ok-answer.ensures.answer
    c.is_same.ensures
