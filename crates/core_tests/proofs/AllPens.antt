-- When a list of pens holds all pens of a clock.
use Rattle.std.proofs.Common.{◌≡◌, ℕ, [], ◌∷◌, ap, sym, subst, ◌∙◌, arith}
use Rattle.std.specs.List.{range_with_len}
use Rattle.std.proofs.lemmas.List.Sums.{sum_by-cons}
use Rattle.std.proofs.lemmas.List.Elements.{All-cons}
use Rattle.vs_types.specs.declared.requests.answer.Answer.{Answer}
use Rattle.vs_types.specs.declared.requests.request.Query.{Query}
use Rattle.nr_record.specs.Pen.{AreAllPens, ClockId, PenState, new_pen, with_call, with_reply}

-- a pen of the clock and of the thread, for one call
pub record IsPen (clock : ClockId) (thread : ℕ) (pen : PenState) : Type 0 where
  pub of_clock : pen.clock ≡ clock
  pub of_thread : pen.thread ≡ thread
  pub for_one : pen.quota ≡ 1

pub one_call : {clock : ClockId} {thread : ℕ} {fresh called replied : PenState} (stamp later call at : ℕ) (request : Query) (answer : Answer)
    → fresh ≡ new_pen clock thread 1 → called ≡ with_call fresh stamp request → replied ≡ with_reply called later call at answer
    → IsPen clock thread replied
one_call stamp later call at request answer f c r = record {
  of_clock = ap (λ p. p.clock) r ∙ ap (λ p. p.clock) c ∙ ap (λ p. p.clock) f;
  of_thread = ap (λ p. p.thread) r ∙ ap (λ p. p.thread) c ∙ ap (λ p. p.thread) f;
  for_one = ap (λ p. p.quota) r ∙ ap (λ p. p.quota) c ∙ ap (λ p. p.quota) f;
}

pub all_of_one : {clock : ClockId} {pen : PenState} → IsPen clock 0 pen → clock.layout.threads ≡ 1 → clock.calls ≡ 1 → AreAllPens clock (pen ∷ [])
all_of_one {clock} {pen} p threads calls = record {
  of_clock = All-cons (λ q. q.clock ≡ clock) pen [] p.of_clock (λ k d lt. absurd (omega arith));
  threads = subst (λ n. (pen.thread ∷ []) ≡ range_with_len 0 n) (sym threads) (ap (λ t. t ∷ []) p.of_thread);
  quotas = (let c = sum_by-cons (λ q. q.quota) pen [] in omega (arith, c, p.for_one, calls));
}

pub all_of_two : {clock : ClockId} {first second : PenState} → IsPen clock 0 first → IsPen clock 1 second → clock.layout.threads ≡ 2
    → clock.calls ≡ 2 → AreAllPens clock (first ∷ second ∷ [])
all_of_two {clock} {first} {second} p q threads calls = record {
  of_clock = All-cons (λ r. r.clock ≡ clock) first (second ∷ []) p.of_clock
      (All-cons (λ r. r.clock ≡ clock) second [] q.of_clock (λ k d lt. absurd (omega arith)));
  threads = subst (λ n. (first.thread ∷ second.thread ∷ []) ≡ range_with_len 0 n) (sym threads)
      (ap (λ t. t ∷ second.thread ∷ []) p.of_thread ∙ ap (λ t. 0 ∷ t ∷ []) q.of_thread);
  quotas = (let c = sum_by-cons (λ r. r.quota) first (second ∷ []) in let d = sum_by-cons (λ r. r.quota) second [] in
      omega (arith, c, d, p.for_one, q.for_one, calls));
}
