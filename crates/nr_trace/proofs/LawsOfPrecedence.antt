-- Where no call comes too early, the recorded order keeps precedence.
use Rattle.std.proofs.Common.{◌≡◌, ℕ, zero, suc, ◌+◌, ◌<◌, ◌≤◌, ◌⊎◌, inl, inr, max, List, [], ◌∷◌, length, take, map, fold, slice_get, Contains, Option, Some}
use Rattle.std.proofs.Common.{None, refl, ap, sym, ◌∙◌, subst, arith}
use Rattle.std.specs.Prelude.{filter_map}
use Rattle.std.specs.List.{cons_option}
use Rattle.std.proofs.lemmas.Bool.{cases_order, cases_lt}
use Rattle.std.proofs.lemmas.Option.{same_Some, none-some}
use Rattle.vs_types.specs.Space.{Space}
use Rattle.nr_trace.specs.Recording.{Recording}
use Rattle.nr_trace.specs.Calls.{operation_of, IsOrdered, IsUpdate, IsRead, Response, reply_in, reply_of, reply_to, Precedes}
use Rattle.nr_trace.specs.Orders.{below, before, reads_at, recorded_order, known_by, floor, IsLegalFrom}
use Rattle.nr_trace.specs.Faults.{HasFault, HasFaultFrom, StandsAfter}
use Rattle.nr_trace.specs.Laws.{HasCleanLog}
use Rattle.nr_trace.specs.declared.refusals.fault.Fault.TheVariants.{Early, WrongAnswer}
use Rattle.nr_trace.proofs.LawsOfLists.{In, Contains-from_in, in_from_Contains, in_left, in_right, in_filtered, in_mapped, below_in}
use Rattle.nr_trace.proofs.LawsOfCalls.{reply_in_event, reply_that_answers, reply_is_first, reply_behind_call, answered_stands, no_operation, ordered_no_touch}
use Rattle.nr_trace.proofs.LawsOfCalls.{the_some}
use Rattle.nr_trace.proofs.LawsOfOrder.{saw, saw_from_read, reads_at_in, blocks, blocks_in, earlier_reads, before_update, before_read, member_stands}
use Rattle.nr_trace.proofs.LawsOfOrder.{legal_but_precedence, stands_ordered}

-- ---- floors

pub in_taken : {X : Type 0} (xs : List X) (i n : ℕ) (x : X) → i < n → slice_get xs i ≡ Some x → In x (take n xs)
in_taken [] i n x l e = absurd (none-some x e)
in_taken (y ∷ ys) i zero x l e = absurd (omega arith)
in_taken (y ∷ ys) zero (suc n) x l e = inl (same_Some y x e)
in_taken (y ∷ ys) (suc i) (suc n) x l e = inr (in_taken ys i n x (omega arith) e)

in_filter_map : {X Y : Type 0} (h : X → Option Y) (xs : List X) (x : X) (y : Y) → In x xs → h x ≡ Some y → In y (filter_map h xs)
in_filter_map h [] x y i e = i
in_filter_map h (z ∷ zs) x y (inl f) e =
    let g : h z ≡ Some y = ap h f ∙ e in
    rw g (inl refl)
in_filter_map {X} {Y} h (z ∷ zs) x y (inr i) e = onto (in_filter_map h zs x y i e) (h z) where
  onto : In y (filter_map h zs) → (o : Option Y) → In y (cons_option o (filter_map h zs))
  onto j None = j
  onto j (Some w) = inr j

max_grows : (a : ℕ) (xs : List ℕ) → a ≤ fold max a xs
max_grows a [] = omega arith
max_grows a (x ∷ xs) = let h = max_grows (max a x) xs in omega arith

max_reaches : (a n : ℕ) (xs : List ℕ) → In n xs → n ≤ fold max a xs
max_reaches a n [] i = absurd i
max_reaches a n (x ∷ xs) (inl e) = let h = max_grows (max a x) xs in omega arith
max_reaches a n (x ∷ xs) (inr i) = max_reaches (max a x) n xs i

-- what is known by a reply before a call was made is no more than its floor
pub known_below_floor : (trace : Recording) (index call : ℕ) (reply : Response) → index < call → reply_of trace index ≡ Some reply
    → known_by trace reply ≤ floor trace call
known_below_floor trace index call reply l e =
    let (event, at, is) = reply_in_event (slice_get trace.events index) reply e in
    max_reaches 0 (known_by trace reply) (map (known_by trace) (filter_map reply_in (take call trace.events)))
    (in_mapped (known_by trace) (filter_map reply_in (take call trace.events)) reply
    (in_filter_map reply_in (take call trace.events) event reply (in_taken trace.events index call event l at) is))

pub known_of_update : (trace : Recording) (reply : Response) → IsUpdate trace reply.call → known_by trace reply ≡ reply.at + 1
known_of_update trace reply u =
    let (action, e) = the_some (operation_of trace reply.call) u in
    rw e refl

pub known_of_read : (trace : Recording) (reply : Response) → IsRead trace reply.call → known_by trace reply ≡ reply.at
known_of_read trace reply r =
    let e = no_operation trace reply.call r in
    let f = ordered_no_touch trace reply.call (inr r) in
    rw (e, f) refl

-- ---- precedence

in_front_of : (trace : Recording) (m n first second : ℕ) → HasCleanLog trace → m < n → n ≤ length trace.log → StandsAfter trace first m
    → StandsAfter trace second n → In first (before second (recorded_order trace))
in_front_of trace m n first second clean l k h (inl (u, e)) =
    rw (before_update trace n second clean u e) (in_left first (blocks trace n) (reads_at trace n) (blocks_in trace m n first l h))
in_front_of trace m n first second clean l k h (inr r) =
    rw (before_read trace n second clean k r) (in_left first (blocks trace n) (earlier_reads trace n second) (blocks_in trace m n first l h))

read_in_front : (trace : Recording) (n first second : ℕ) (reply : Response) → HasCleanLog trace → n ≤ length trace.log → first < second → IsRead trace first
    → reply_to trace first ≡ Some reply → reply.at ≡ n → StandsAfter trace second n
    → In first (before second (recorded_order trace))
read_in_front trace n first second reply clean k l r f g (inl (u, e)) =
    rw (before_update trace n second clean u e) (in_right first (blocks trace n) (reads_at trace n) (reads_at_in trace n first (r, reply, f, g)))
read_in_front trace n first second reply clean k l r f g (inr s) =
    rw (before_read trace n second clean k s)
    (in_right first (blocks trace n) (earlier_reads trace n second)
    (in_filtered (saw trace n) first (below second) (below_in first second l) (saw_from_read trace n first (r, reply, f, g))))

-- a reply known before the second call was made, to a first call that comes after `reply.at` entries
first_in_front : (trace : Recording) (first second n : ℕ) (reply : Response) → HasCleanLog trace → n ≤ length trace.log
    → StandsAfter trace second n → first < second
    → reply_to trace first ≡ Some reply → reply.call ≡ first → known_by trace reply ≤ n → IsOrdered trace first
    → In first (before second (recorded_order trace))
first_in_front trace first second n reply clean k h l f g known (inl u) =
    let is = known_of_update trace reply (subst (IsUpdate trace) (sym g) u) in
    in_front_of trace reply.at n first second clean (omega arith) k (answered_stands trace first reply clean (inl u) f).0 h
first_in_front trace first second n reply clean k h l f g known (inr r) =
    let is = known_of_read trace reply (subst (IsRead trace) (sym g) r) in
    let at_most : reply.at ≤ n = omega arith in
    by_order at_most (cases_order reply.at n) where
      by_order : reply.at ≤ n → (reply.at ≡ n) ⊎ ((reply.at < n) ⊎ (n < reply.at)) → In first (before second (recorded_order trace))
      by_order m (inl e) = read_in_front trace n first second reply clean k l r f e h
      by_order m (inr (inl less)) = in_front_of trace reply.at n first second clean less k (answered_stands trace first reply clean (inr r) f).0 h
      by_order m (inr (inr more)) = absurd (omega arith)

floor_kept : (trace : Recording) → ((call : ℕ) → HasFault trace (Early call) → ⊥) → (call n : ℕ) → StandsAfter trace call n → floor trace call ≤ n
floor_kept trace in_time call n h = by_order (cases_lt n (floor trace call)) where
  by_order : (n < floor trace call) ⊎ (floor trace call ≤ n) → floor trace call ≤ n
  by_order (inl l) = absurd (in_time call (n, h, l))
  by_order (inr l) = l

pub keeps_precedence : (trace : Recording) → HasCleanLog trace → ((call : ℕ) → HasFault trace (Early call) → ⊥) → (first second n : ℕ) → n ≤ length trace.log
    → StandsAfter trace second n → IsOrdered trace first → Precedes trace first second
    → In first (before second (recorded_order trace))
keeps_precedence trace clean in_time first second n k h ordered precedes =
    let (reply, e, g) = reply_that_answers trace precedes.1 first precedes.3 in
    let behind = reply_behind_call trace precedes.1 reply clean e in
    let known = known_below_floor trace precedes.1 second reply precedes.2 e in
    let kept = floor_kept trace in_time second n h in
    let earlier : reply.call < precedes.1 = behind.0 in
    let later : precedes.1 < second = precedes.2 in
    let l : first < second = omega arith in
    let f : reply_to trace first ≡ Some reply = ap (reply_to trace) (sym g) ∙ reply_is_first trace precedes.1 reply clean e in
    first_in_front trace first second n reply clean k h l f g (omega arith) ordered

pub legal : (start : Space) (trace : Recording) → HasCleanLog trace → ((call : ℕ) → HasFault trace (Early call) → ⊥)
    → ((call : ℕ) → HasFaultFrom start trace (WrongAnswer call) → ⊥) → IsLegalFrom start trace (recorded_order trace)
legal start trace clean in_time right =
    let but = legal_but_precedence start trace clean right in
    record {
      members = but.members;
      precedence =
          λ first second a b p. in_front first second
          (ordered first (member_stands trace first clean (in_from_Contains first (recorded_order trace) a)))
          (member_stands trace second clean (in_from_Contains second (recorded_order trace) b)) p;
      answers = but.answers;
    } where
      ordered : (call : ℕ) → (n : ℕ) × (n ≤ length trace.log) × StandsAfter trace call n → IsOrdered trace call
      ordered call (n, l, h) = stands_ordered trace call n h

      in_front : (first second : ℕ) → IsOrdered trace first → (n : ℕ) × (n ≤ length trace.log) × StandsAfter trace second n → Precedes trace first second
          → Contains (before second (recorded_order trace)) first
      in_front first second o (n, l, h) p =
          Contains-from_in first (before second (recorded_order trace)) (keeps_precedence trace clean in_time first second n l h o p)
