use Rattle.std.proofs.Common.{subst}
use Rattle.audit_numbers.specs.Chains.{IsTold}
use Rattle.audit_numbers.proofs.telling.end_told.Goals as goal

pub returns-in_ok-end-in-Some : goal.returns-in_ok-end-in-Some
returns-in_ok-end-in-Some c = λ bytes explain told.
    let there = subst (IsTold bytes explain) c.in-Some.is told in
    (there.0, c.in_ok-end-in-Some.ensures bytes there.1)
