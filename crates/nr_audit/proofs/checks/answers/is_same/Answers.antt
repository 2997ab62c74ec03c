use Rattle.vs_types.proofs.AnswerEquality.{same_answers}
use Rattle.nr_audit.proofs.checks.answers.is_same.Goals as goal

pub returns : goal.returns
returns c = same_answers c.args.recorded c.args.given c.eq.result c.eq.ensures
