use Rattle.std.proofs.Common.{refl}
use Rattle.std.proofs.lemmas.Bool.{iff_false}
use Rattle.nr_audit.proofs.checks.answers.pass_place.Goals as goal

pub returns-in_ok-compare_dumps : goal.returns-in_ok-compare_dumps
returns-in_ok-compare_dumps c = record {
  placed = λ here. (refl, c.in_ok-compare_dumps.ensures);
  other = λ apart. absurd (apart (c.is_placed.ensures.is.0 c.if-is_placed.true));
}

pub returns-else-is_placed : goal.returns-else-is_placed
returns-else-is_placed c = record {
  placed = λ here. absurd (iff_false c.is_placed.ensures.is c.if-is_placed.false here);
  other = λ apart. (refl, refl);
}
