use Rattle.nr_trace.proofs.LawsOfSteps.{floor_at_start, floor_after_reply, floor_after_other}
use Rattle.nr_trace.proofs.laws.floors_rise_by_replies.Goals as goal

pub returns-clause-start : goal.returns-clause-start
returns-clause-start c = floor_at_start

pub returns-clause-reply : goal.returns-clause-reply
returns-clause-reply c = floor_after_reply

pub returns-clause-other : goal.returns-clause-other
returns-clause-other c = floor_after_other
