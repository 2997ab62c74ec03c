-- Calls whose updates are given to a machine: each once.
use Rattle.std.proofs.Common.{◌≡◌, ℕ, zero, suc, ◌<◌, Bool, true, false, List, [], ◌∷◌, length, refl, ap, sym, ◌∙◌, arith}
use Rattle.vs_types.specs.declared.log_entry.LogEntry.{LogEntry}
use Rattle.nr_trace.specs.declared.recordings.event.Event.{Event}
use Rattle.nr_machine.specs.declared.words.Update.{Update}
use Rattle.nr_machine.specs.Actor.{update_at}
use Rattle.nr_machine.specs.Words.{with_at}
use Rattle.nr_machine.proofs.Cases.{at_cases, at_it}
use Rattle.nr_machine_runs.specs.Recorded.{IsCallAt, MayGive, given_with}

abbrev pub nth_call : (Update → LogEntry) → List Update → ℕ → ℕ
nth_call means batch i = (means (update_at batch i)).call

pub given_stays : (means : Update → LogEntry) (given : ℕ → Bool) (batch : List Update) (x : ℕ) → given x ≡ true
    → given_with means given batch x ≡ true
given_stays means given [] x is = is
given_stays means given (update ∷ batch) x is =
    given_stays means (with_at given (means update).call true) batch x
    (at_cases (λ b. b ≡ true) given (means update).call true x (λ e. refl) (λ apart. is))

pub given_all : (means : Update → LogEntry) (given : ℕ → Bool) (batch : List Update) (i : ℕ) → i < length batch
    → given_with means given batch (nth_call means batch i) ≡ true
given_all means given [] i lt = absurd (omega (arith, lt))
given_all means given (update ∷ batch) zero lt =
    given_stays means (with_at given (means update).call true) batch (means update).call (at_it given (means update).call true)
given_all means given (update ∷ batch) (suc i) lt = given_all means (with_at given (means update).call true) batch i (omega (arith, lt))

pub calls_are : (means : Update → LogEntry) (events : List Event) (n : ℕ) (given : ℕ → Bool) (batch : List Update)
    → MayGive means events n given batch
    → (i : ℕ) → i < length batch → IsCallAt events n (means (update_at batch i))
calls_are means events n given [] may i lt = absurd (omega (arith, lt))
calls_are means events n given (update ∷ batch) may zero lt = may.0
calls_are means events n given (update ∷ batch) may (suc i) lt =
    calls_are means events n (with_at given (means update).call true) batch may.2 i (omega (arith, lt))

pub not_before : (means : Update → LogEntry) (events : List Event) (n : ℕ) (given : ℕ → Bool) (batch : List Update)
    → MayGive means events n given batch
    → (i : ℕ) → i < length batch → given (nth_call means batch i) ≡ false
not_before means events n given [] may i lt = absurd (omega (arith, lt))
not_before means events n given (update ∷ batch) may zero lt = may.1
not_before means events n given (update ∷ batch) may (suc i) lt =
    at_cases (λ b. b ≡ false → given (nth_call means batch i) ≡ false) given (means update).call true (nth_call means batch i)
    (λ e is. absurd (cc)) (λ apart is. is)
    (not_before means events n (with_at given (means update).call true) batch may.2 i (omega (arith, lt)))

pub each_once : (means : Update → LogEntry) (events : List Event) (n : ℕ) (given : ℕ → Bool) (batch : List Update)
    → MayGive means events n given batch
    → (i j : ℕ) → i < j → j < length batch → nth_call means batch i ≡ nth_call means batch j → ⊥
each_once means events n given [] may i j lt within same = omega (arith, within)
each_once means events n given (update ∷ batch) may i zero lt within same = omega (arith, lt)
each_once means events n given (update ∷ batch) may zero (suc j) lt within same =
    let none = not_before means events n (with_at given (means update).call true) batch may.2 j (omega (arith, within)) in
    let marked : with_at given (means update).call true (nth_call means batch j) ≡ true =
    ap (with_at given (means update).call true) (sym same) ∙ at_it given (means update).call true in
    let wrong : true ≡ false = sym marked ∙ none in
    absurd (cc)
each_once means events n given (update ∷ batch) may (suc i) (suc j) lt within same =
    each_once means events n (with_at given (means update).call true) batch may.2 i j (omega (arith, lt)) (omega (arith, within)) same
