use Rattle.nr_record.proofs.Draws.{draw_keeps, draw_tells}
use Rattle.nr_record.proofs.laws.draws_keep_the_rule.Goals as goal

pub returns-clause-kept : goal.returns-clause-kept
returns-clause-kept c = draw_keeps

pub returns-clause-drawn : goal.returns-clause-drawn
returns-clause-drawn c = draw_tells
