-- A history is well formed where no fault holds of its calls and replies, and only there.
use Rattle.std.proofs.Common.{◌≡◌, ℕ, zero, suc, ◌<◌, ◌≤◌, ◌⊎◌, inl, inr, Bool, true, false, ◌==◌, Some, None, is_some, option_and_then, refl, sym, subst}
use Rattle.std.proofs.Common.{arith, if◌then◌else◌}
use Rattle.std.specs.Prelude.{◌↔◌}
use Rattle.std.proofs.lemmas.Bool.{both_ways, cases_Bool, cases_lt, cases_order}
use Rattle.vs_types.specs.Space.{Space}
use Rattle.nr_trace.specs.Recording.{Recording}
use Rattle.nr_trace.specs.Calls.{Invocation, call_of, Response, reply_of, Answers, Precedes, IsWellFormedHistory}
use Rattle.nr_trace.specs.Faults.{HasFault}
use Rattle.nr_trace.specs.Laws.{IsFaultlessFrom}
use Rattle.nr_trace.specs.declared.refusals.fault.Fault.TheVariants.{ThreadOpen, NoSuchCall, AnsweredTwice}
use Rattle.nr_trace.proofs.LawsOfCalls.{answers_from, behind_its_call, is_some_from, reply_that_answers}

-- some number below another passes a test, or none does
some_below : (test : ℕ → Bool) (end : ℕ) → ((index : ℕ) × (index < end) × (test index ≡ true)) ⊎ ((index : ℕ) → index < end → test index ≡ true → ⊥)
some_below test zero = inr (λ index l. absurd (omega arith))
some_below test (suc n) = by_last (cases_Bool (test n)) (some_below test n) where
  by_order : (index : ℕ) → ((i : ℕ) → i < n → test i ≡ true → ⊥) → test n ≡ false → (index < n) ⊎ (n ≤ index) → index < suc n → test index ≡ true → ⊥
  by_order index none last (inl lower) l h = none index lower h
  by_order index none last (inr same) l h = both_ways (test n) last (subst (λ i. test i ≡ true) (omega arith) h)

  by_last : (test n ≡ true) ⊎ (test n ≡ false) → ((index : ℕ) × (index < n) × (test index ≡ true)) ⊎ ((index : ℕ) → index < n → test index ≡ true → ⊥)
      → ((index : ℕ) × (index < suc n) × (test index ≡ true)) ⊎ ((index : ℕ) → index < suc n → test index ≡ true → ⊥)
  by_last (inl h) rest = inl (n, omega arith, h)
  by_last (inr last) (inl (index, l, h)) = inl (index, omega arith, h)
  by_last (inr last) (inr none) = inr (λ index. by_order index none last (cases_lt index n))

-- no fault of calls and replies holds at any event
abbrev pub HasNoCallFault : Recording → Type 0
HasNoCallFault trace = (index : ℕ) → (HasFault trace (ThreadOpen index) → ⊥) × (HasFault trace (NoSuchCall index) → ⊥)
    × (HasFault trace (AnsweredTwice index) → ⊥)

module _ (trace : Recording) (clean : HasNoCallFault trace) where
  -- of two replies to a call the second would be a fault
  not_after : (first second call : ℕ) → first < second → Answers trace first call → Answers trace second call → ⊥
  not_after first second call l a b =
      let (reply, is, named) = reply_that_answers trace second call b in
      (clean second).2 (reply, is, (first, l, subst (Answers trace first) (sym named) a))

  answered_once : (first second call : ℕ) → Answers trace first call → Answers trace second call → first ≡ second
  answered_once first second call a b = by_order (cases_order first second) where
    by_order : (first ≡ second) ⊎ ((first < second) ⊎ (second < first)) → first ≡ second
    by_order (inl e) = e
    by_order (inr (inl l)) = absurd (not_after first second call l a b)
    by_order (inr (inr l)) = absurd (not_after second first call l b a)

  -- the second call of a thread would be a fault where the first has no reply before it
  answered_between : (first second : ℕ) (made next : Invocation) → first < second → call_of trace first ≡ Some made → call_of trace second ≡ Some next
      → made.thread ≡ next.thread → Precedes trace first second
  answered_between first second made next l is_made is_next same =
      by_search (some_below (λ index. is_some (option_and_then (λ (reply : Response). if reply.call == first then Some reply else None) (reply_of trace index)))
      second) where
        by_search : ((index : ℕ) × (index < second) × Answers trace index first) ⊎ ((index : ℕ) → index < second → Answers trace index first → ⊥)
            → Precedes trace first second
        by_search (inl (index, lower, answers)) = (is_some_from (call_of trace second) next is_next, index, lower, answers)
        by_search (inr none) = absurd ((clean second).0 (record {
          made = next;
          is_made = is_next;
          earlier = first;
          earlier_made = made;
          is_earlier = l;
          is_earlier_made = is_made;
          same_thread = same;
          not_answered = none;
        }))

  pub well_formed : IsWellFormedHistory trace
  well_formed = record {
    of_calls = λ index reply is. behind_its_call trace index reply (clean index).1 is;
    once = answered_once;
    one_open = answered_between;
  }

module _ (trace : Recording) (history : IsWellFormedHistory trace) where
  pub no_call_fault : HasNoCallFault trace
  no_call_fault index = (
    λ opens.
        let between = history.one_open opens.earlier index opens.earlier_made opens.made opens.is_earlier opens.is_earlier_made
        opens.is_made opens.same_thread in
        opens.not_answered between.1 between.2 between.3,
    λ such. such.2 (history.of_calls index such.0 such.1),
    λ twice.
        let (reply, is, (earlier, l, answers)) = twice in
        let same = history.once earlier index reply.call answers (answers_from trace index reply.call reply is refl) in
        omega (arith, l, same),
  )

pub history_if_faultless : (start : Space) (trace : Recording) → IsFaultlessFrom start trace → IsWellFormedHistory trace
history_if_faultless start trace faultless =
    well_formed trace (λ index. (faultless (ThreadOpen index), faultless (NoSuchCall index), faultless (AnsweredTwice index)))

pub well_formed_as_faults : (trace : Recording) → IsWellFormedHistory trace ↔ HasNoCallFault trace
well_formed_as_faults trace = (λ history. no_call_fault trace history, λ clean. well_formed trace clean)
