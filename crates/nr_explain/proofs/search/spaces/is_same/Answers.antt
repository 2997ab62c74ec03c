use Rattle.vs_types.proofs.AnswerEquality.{same_answers}
use Rattle.nr_explain.proofs.search.spaces.is_same.Goals as goal

pub returns : goal.returns
returns c = same_answers c.args.left c.args.right c.eq.result c.eq.ensures
