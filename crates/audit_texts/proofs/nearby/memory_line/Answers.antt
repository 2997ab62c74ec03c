use Rattle.audit_texts.specs.NearbyText.{memory_line}
use Rattle.audit_texts.proofs.nearby.memory_line.Goals as goal

pub returns-in_ok-place-in-Some : goal.returns-in_ok-place-in-Some
unfolding memory_line
returns-in_ok-place-in-Some c = rw c.in-Some.is (rw (c.in_ok-phys-in-Some.ensures, c.in_ok-place-in-Some.ensures) at c.format.ensures.ok)
