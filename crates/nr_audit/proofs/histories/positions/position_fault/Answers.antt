use Rattle.std.proofs.lemmas.Bool.{iff_false}
use Rattle.nr_audit.proofs.PositionFaults.{first_not_placed, first_past_log, none_at_reply}
use Rattle.nr_audit.proofs.histories.positions.position_fault.Goals as goal

pub returns-then-is_misplaced : goal.returns-then-is_misplaced
returns-then-is_misplaced c = λ answer is.
    first_not_placed c.args.history.now c.args.index c.args.call c.args.at answer is (c.is_misplaced.ensures.0 c.if-is_misplaced.true)

pub returns-then-is_past_log : goal.returns-then-is_past_log
returns-then-is_past_log c = λ answer is.
    first_past_log c.args.history.now c.args.index c.args.call c.args.at answer is (iff_false c.is_misplaced.ensures c.if-is_misplaced.false)
    (c.is_past_log.ensures.0 c.if-is_past_log.true)

pub returns : goal.returns
returns c = λ answer is.
    none_at_reply c.args.history.now c.args.index c.args.call c.args.at answer is (iff_false c.is_misplaced.ensures c.if-is_misplaced.false)
    (iff_false c.is_past_log.ensures c.if-is_past_log.false)
