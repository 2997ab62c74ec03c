-- The history of a joined run.
use Rattle.std.proofs.Common.{◌≡◌, ℕ, ◌+◌, ◌<◌, ◌⊎◌, inl, inr, length, Some, ap, sym, ◌∙◌, subst, arith}
use Rattle.nr_trace.specs.Recording.{Recording}
use Rattle.nr_trace.specs.Calls.{Invocation, call_of, IsCall, Response, reply_of, Answers, IsWellFormedHistory}
use Rattle.nr_trace.specs.Joined.{joined_traces}
use Rattle.nr_chain.specs.Run.{IsHistory}
use Rattle.nr_trace.proofs.Lists.{split_at}
use Rattle.nr_trace.proofs.Parts.{call_left, call_right, reply_left, reply_from_right, HasEarlierCalls, answered_left, answered_right}
use Rattle.nr_trace.proofs.Parts.{is_call_from_left, is_call_from_right}

pub earlier_calls : (trace : Recording) → IsHistory trace → HasEarlierCalls trace
earlier_calls trace history index reply is = (history.of_calls index reply is).0

module _ (first second : Recording) (before : IsHistory first) (behind : IsHistory second) where
  replied_left : (index : ℕ) (reply : Response) → index < length first.events → reply_of (joined_traces first second) index ≡ Some reply
      → (reply.call < index) × IsCall (joined_traces first second) reply.call
  replied_left index reply l is =
      let (lower, is_call) = before.of_calls index reply (sym (reply_left first second index l) ∙ is) in
      (lower, is_call_from_left first second reply.call (omega arith) is_call)

  replied_right : (index : ℕ) (reply : Response) → reply_of (joined_traces first second) (length first.events + index) ≡ Some reply
      → (reply.call < length first.events + index) × IsCall (joined_traces first second) reply.call
  replied_right index reply is =
      let (own, own_is, same) = reply_from_right first second index reply is in
      let (lower, is_call) = behind.of_calls index own own_is in
      let number : length first.events + own.call ≡ reply.call = ap (λ (r : Response). r.call) same in
      (omega arith, subst (IsCall (joined_traces first second)) number (is_call_from_right first second own.call is_call))

  replied : (index : ℕ) (reply : Response) → reply_of (joined_traces first second) index ≡ Some reply
      → (reply.call < index) × IsCall (joined_traces first second) reply.call
  replied index reply is = by_side (split_at (length first.events) index) where
    by_side : (index < length first.events) ⊎ ((k : ℕ) × (index ≡ length first.events + k))
        → (reply.call < index) × IsCall (joined_traces first second) reply.call
    by_side (inl l) = replied_left index reply l is
    by_side (inr (k, e)) =
        let (lower, is_call) = replied_right k reply (subst (λ (i : ℕ). reply_of (joined_traces first second) i ≡ Some reply) e is) in
        (omega arith, is_call)

  answered_once : (i j call : ℕ) → Answers (joined_traces first second) i call → Answers (joined_traces first second) j call → i ≡ j
  answered_once i j call a b = by_side (split_at (length first.events) call) where
    by_side : (call < length first.events) ⊎ ((k : ℕ) × (call ≡ length first.events + k)) → i ≡ j
    by_side (inl l) =
        let (i_within, i_answers) = answered_left first second i call l a in
        let (j_within, j_answers) = answered_left first second j call l b in
        before.once i j call i_answers j_answers
    by_side (inr (k, e)) =
        let (own_i, i_is, i_answers) = answered_right first second i k (earlier_calls first before)
        (subst (λ (c : ℕ). Answers (joined_traces first second) i c) e a) in
        let (own_j, j_is, j_answers) = answered_right first second j k (earlier_calls first before)
        (subst (λ (c : ℕ). Answers (joined_traces first second) j c) e b) in
        let same : own_i ≡ own_j = behind.once own_i own_j k i_answers j_answers in
        omega arith

  abbrev IsAnsweredBefore : ℕ → ℕ → ℕ → Type 0
  IsAnsweredBefore i j index = (made next : Invocation) → i < j → call_of (joined_traces first second) i ≡ Some made
      → call_of (joined_traces first second) j ≡ Some next
      → made.thread ≡ next.thread → Answers (joined_traces first second) index i → index < j

  both_left : (i j index : ℕ) → i < length first.events → j < length first.events → IsAnsweredBefore i j index
  both_left i j index l m made next order is_made is_next same h =
      let (within, answers) = answered_left first second index i l h in
      before.one_open i j index made next order (sym (call_left first second i l) ∙ is_made) (sym (call_left first second j m) ∙ is_next) same answers

  apart : (i k index : ℕ) → i < length first.events → IsAnsweredBefore i (length first.events + k) index
  apart i k index l made next order is_made is_next same h =
      let (within, answers) = answered_left first second index i l h in
      omega arith

  both_right : (i j index : ℕ) → IsAnsweredBefore (length first.events + i) (length first.events + j) index
  both_right i j index made next order is_made is_next same h =
      let (own, is, answers) = answered_right first second index i (earlier_calls first before) h in
      let lower : i < j = omega arith in
      let answered : own < j =
      behind.one_open i j own made next lower (sym (call_right first second i) ∙ is_made) (sym (call_right first second j) ∙ is_next) same answers in
      omega arith

  waits : (i j index : ℕ) → IsAnsweredBefore i j index
  waits i j index made next order is_made is_next same h = by_sides (split_at (length first.events) i) (split_at (length first.events) j) where
    by_sides : (i < length first.events) ⊎ ((k : ℕ) × (i ≡ length first.events + k)) → (j < length first.events) ⊎ ((k : ℕ) × (j ≡ length first.events + k))
        → index < j
    by_sides (inl l) (inl m) = both_left i j index l m made next order is_made is_next same h
    by_sides (inl l) (inr (k, e)) =
        subst (λ (n : ℕ). index < n) (sym e)
        (apart i k index l made next (subst (λ (n : ℕ). i < n) e order) is_made
        (subst (λ (n : ℕ). call_of (joined_traces first second) n ≡ Some next) e is_next) same h)
    by_sides (inr (k, e)) (inl m) = absurd (omega arith)
    by_sides (inr (k, e)) (inr (p, f)) =
        let lower : length first.events + k < length first.events + p = omega arith in
        let answered : index < length first.events + p =
        both_right k p index made next lower (subst (λ (n : ℕ). call_of (joined_traces first second) n ≡ Some made) e is_made)
        (subst (λ (n : ℕ). call_of (joined_traces first second) n ≡ Some next) f is_next) same
        (subst (λ (n : ℕ). Answers (joined_traces first second) index n) e h) in
        omega arith

  pub history_both : IsHistory (joined_traces first second)
  history_both = record { of_calls = replied; once = answered_once; one_open = waits }

-- threads that wait for each reply wait for each that comes
pub history_from : (trace : Recording) → IsWellFormedHistory trace → IsHistory trace
history_from trace history = record {
  of_calls = history.of_calls;
  once = history.once;
  one_open = one_reply;
} where
  one_reply : (first second index : ℕ) (made next : Invocation) → first < second → call_of trace first ≡ Some made → call_of trace second ≡ Some next
      → made.thread ≡ next.thread → Answers trace index first → index < second
  one_reply first second index made next order is_made is_next same h =
      let between = history.one_open first second made next order is_made is_next same in
      let one : between.1 ≡ index = history.once between.1 index first between.3 h in
      let lower : between.1 < second = between.2 in
      omega arith
