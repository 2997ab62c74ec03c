use Rattle.std.proofs.Common.{inl, inr}
use Rattle.nr_audit.proofs.checks.touches.is_quiet.Goals as goal

pub returns-then-has_no_log : goal.returns-then-has_no_log
returns-then-has_no_log c = λ said. record {
  untouched = λ some. let there = c.has_touches.ensures.1 some in let none = c.if-has_touches.false in cc;
  leaves = inl (c.has_no_log.ensures.empty c.if-has_no_log.true);
  in_range = c.has_no_log.ensures.in_range;
}

pub returns : goal.returns
returns c = λ said. record {
  untouched = λ some. let there = c.has_touches.ensures.1 some in let none = c.if-has_touches.false in cc;
  leaves = inr (record {
    none = c.is_none.ensures.0 c.if-not-is_none.false;
    answered = c.are_answered.ensures c.if-not-are_answered.false;
    plain = c.are_plain.ensures.plain said;
  });
  in_range = c.has_no_log.ensures.in_range;
}
