-- What no step makes less: what is completed, what is applied, the log.
use Rattle.std.proofs.Common.{◌≡◌, ℕ, ◌≤◌, ap, arith}
use Rattle.nr_machine.specs.Words.{told_by}
use Rattle.nr_machine.specs.Actor.{learned}
use Rattle.nr_machine.specs.World.{Act, World, MayAct, acted}
use Rattle.nr_machine.specs.World.Act.{Begins, Does, Applies, Ends, ReadBegins, ReadEnds}
use Rattle.nr_machine.proofs.Cases.{at_cases}
use Rattle.nr_machine.proofs.Held.{IsHeld, operation_holds}
use Rattle.nr_machine.proofs.Stated.{goes_on}

pub completed_rises : (nodes : ℕ) (w : World) (act : Act) → nodes ≤ 64 → IsHeld nodes w → MayAct nodes w act
    → w.words.completed ≤ (acted w act).words.completed
completed_rises nodes w (Does n operation) most held may = (operation_holds nodes w n operation held may.0 most may.1).completed
completed_rises nodes w (Begins n batch) most held may = omega arith
completed_rises nodes w (Applies n) most held may = omega arith
completed_rises nodes w (Ends n) most held may = omega arith
completed_rises nodes w (ReadBegins n) most held may = omega arith
completed_rises nodes w (ReadEnds c) most held may = omega arith

pub applied_rises : (nodes : ℕ) (w : World) (act : Act) → MayAct nodes w act → (m : ℕ)
    → (w.actor m).applied ≤ ((acted w act).actor m).applied
applied_rises nodes w (Does n operation) may m =
    at_cases (λ a. (w.actor m).applied ≤ a.applied) w.actor n (learned n (w.actor n) operation (told_by w.words operation)) m
    (λ e. let one = (goes_on nodes n (w.actor n) operation (told_by w.words operation) may.1).applied in
    let same : (w.actor m).applied ≡ (w.actor n).applied = ap (λ (k : ℕ). (w.actor k).applied) e in omega (arith, one, same))
    (λ apart. omega arith)
applied_rises nodes w (Begins n batch) may m =
    at_cases (λ a. (w.actor m).applied ≤ a.applied) w.actor n _ m
    (λ e. let same : (w.actor m).applied ≡ (w.actor n).applied = ap (λ (k : ℕ). (w.actor k).applied) e in omega (arith, same))
    (λ apart. omega arith)
applied_rises nodes w (Applies n) may m =
    at_cases (λ a. (w.actor m).applied ≤ a.applied) w.actor n _ m
    (λ e. let same : (w.actor m).applied ≡ (w.actor n).applied = ap (λ (k : ℕ). (w.actor k).applied) e in omega (arith, same))
    (λ apart. omega arith)
applied_rises nodes w (Ends n) may m =
    at_cases (λ a. (w.actor m).applied ≤ a.applied) w.actor n _ m
    (λ e. let same : (w.actor m).applied ≡ (w.actor n).applied = ap (λ (k : ℕ). (w.actor k).applied) e in omega (arith, same))
    (λ apart. omega arith)
applied_rises nodes w (ReadBegins n) may m = omega arith
applied_rises nodes w (ReadEnds c) may m = omega arith
