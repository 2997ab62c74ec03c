-- The history of a joined run is well formed, where all calls of the first are answered.
use Rattle.std.proofs.Common.{◌≡◌, ℕ, ◌+◌, ◌<◌, ◌⊎◌, inl, inr, length, Some, sym, ◌∙◌, subst, arith}
use Rattle.nr_trace.specs.Recording.{Recording}
use Rattle.nr_trace.specs.Calls.{Invocation, call_of, IsCall, reply_to, IsAnswered, Answers, Precedes, IsWellFormedHistory}
use Rattle.nr_trace.proofs.LawsOfCalls.{answers_from, is_some_from, reply_below, reply_event, the_some}
use Rattle.nr_trace.specs.Joined.{joined_traces}
use Rattle.nr_trace.proofs.Lists.{split_at}
use Rattle.nr_trace.proofs.Parts.{call_left, call_right, answers_to_left, answers_to_right}
use Rattle.nr_chain.proofs.History.{history_both, history_from}

-- an answered call is answered by some event
pub answering : (trace : Recording) (call : ℕ) → IsAnswered trace call → (index : ℕ) × (index < length trace.events) × Answers trace index call
answering trace call answered =
    let (reply, is) = the_some (reply_to trace call) answered in
    let (index, here, named) = reply_event trace call reply is in
    (index, reply_below trace index reply here, answers_from trace index call reply here named)

module _ (first second : Recording) (before : IsWellFormedHistory first) (behind : IsWellFormedHistory second)
    (closed : (call : ℕ) → IsCall first call → IsAnswered first call) where
  abbrev Waits : ℕ → ℕ → Type 0
  Waits i j = (made next : Invocation) → i < j → call_of (joined_traces first second) i ≡ Some made → call_of (joined_traces first second) j ≡ Some next
      → made.thread ≡ next.thread → Precedes (joined_traces first second) i j

  in_first : (i j : ℕ) → i < length first.events → j < length first.events → Waits i j
  in_first i j l m made next order is_made is_next same =
      let between = before.one_open i j made next order (sym (call_left first second i l) ∙ is_made) (sym (call_left first second j m) ∙ is_next) same in
      (is_some_from (call_of (joined_traces first second) j) next is_next, between.1, between.2, answers_to_left first second between.1 i between.3)

  across : (i k : ℕ) → i < length first.events → Waits i (length first.events + k)
  across i k l made next order is_made is_next same =
      let own = is_some_from (call_of first i) made (sym (call_left first second i l) ∙ is_made) in
      let (index, within, answers) = answering first i (closed i own) in
      let lower : index < length first.events + k = omega arith in
      (is_some_from (call_of (joined_traces first second) (length first.events + k)) next is_next, index, lower, answers_to_left first second index i answers)

  in_second : (i j : ℕ) → Waits (length first.events + i) (length first.events + j)
  in_second i j made next order is_made is_next same =
      let own_order : i < j = omega arith in
      let between =
      behind.one_open i j made next own_order (sym (call_right first second i) ∙ is_made) (sym (call_right first second j) ∙ is_next) same in
      let own_lower : between.1 < j = between.2 in
      let lower : length first.events + between.1 < length first.events + j = omega arith in (
        is_some_from (call_of (joined_traces first second) (length first.events + j)) next is_next,
        length first.events + between.1,
        lower,
        answers_to_right first second between.1 i between.3,
      )

  waits : (i j : ℕ) → Waits i j
  waits i j made next order is_made is_next same = by_sides (split_at (length first.events) i) (split_at (length first.events) j) where
    by_sides : (i < length first.events) ⊎ ((k : ℕ) × (i ≡ length first.events + k)) → (j < length first.events) ⊎ ((k : ℕ) × (j ≡ length first.events + k))
        → Precedes (joined_traces first second) i j
    by_sides (inl l) (inl m) = in_first i j l m made next order is_made is_next same
    by_sides (inl l) (inr (k, e)) =
        subst (λ (n : ℕ). Precedes (joined_traces first second) i n) (sym e)
        (across i k l made next (subst (λ (n : ℕ). i < n) e order) is_made
        (subst (λ (n : ℕ). call_of (joined_traces first second) n ≡ Some next) e is_next) same)
    by_sides (inr (k, e)) (inl m) = absurd (omega arith)
    by_sides (inr (k, e)) (inr (p, f)) =
        let lower : length first.events + k < length first.events + p = omega arith in
        subst (λ (n : ℕ). Precedes (joined_traces first second) n j) (sym e)
        (subst (λ (n : ℕ). Precedes (joined_traces first second) (length first.events + k) n) (sym f)
        (in_second k p made next lower (subst (λ (n : ℕ). call_of (joined_traces first second) n ≡ Some made) e is_made)
        (subst (λ (n : ℕ). call_of (joined_traces first second) n ≡ Some next) f is_next) same))

  pub well_formed_both : IsWellFormedHistory (joined_traces first second)
  well_formed_both =
      let history = history_both first second (history_from first before) (history_from second behind) in
      record { of_calls = history.of_calls; once = history.once; one_open = waits }
