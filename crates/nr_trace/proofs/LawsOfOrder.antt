-- The recorded order, where no fault holds of the events, the log or a reply's place.
use Rattle.std.proofs.Common.{◌≡◌, ◌≢◌, ℕ, zero, suc, ◌+◌, ◌<◌, ◌≤◌, ◌⊎◌, inl, inr, Bool, true, false, ◌&&◌, ◌==◌, nat_eq, List, [], ◌∷◌, ◌++◌, length, take}
use Rattle.std.proofs.Common.{filter, slice_get, Contains, Option, Some, None, is_some, option_to_list, refl, ap, ap₂, sym, ◌∙◌, arith, eq-eqb, eqb-true}
use Rattle.std.specs.Prelude.{flat_map}
use Rattle.std.specs.Option.{option_map_or}
use Rattle.std.specs.List.{IsDistinct}
use Rattle.std.proofs.lemmas.Bool.{false≢true, cases_eq, and_parts, and_from}
use Rattle.std.proofs.lemmas.List.{append_assoc, append-nil, take_all}
use Rattle.std.proofs.lemmas.List.Concat.{flat_map-append}
use Rattle.std.proofs.lemmas.List.Elements.{filter_map-append, filter-append}
use Rattle.std.proofs.lemmas.Option.{slice_get_within}
use Rattle.vs_types.specs.Step.{after_all}
use Rattle.vs_types.specs.Space.{Space}
use Rattle.vs_types.specs.declared.requests.answer.Answer.{Answer}
use Rattle.vs_types.specs.declared.requests.request.Query.{Query}
use Rattle.nr_trace.specs.Recording.{Recording}
use Rattle.nr_trace.specs.Spelling.{answer_fields}
use Rattle.nr_trace.specs.Calls.{request_of, operation_of, address_of, IsOrdered, IsUpdate, IsRead, Response, reply_to, IsAnswered}
use Rattle.nr_trace.specs.Orders.{below, before, updates, operations, space_from, answer_in, reads_at, recorded_order}
use Rattle.nr_trace.specs.Faults.{HasFaultFrom, StandsAfter}
use Rattle.nr_trace.specs.Laws.{HasCleanLog, IsSerialFrom}
use Rattle.nr_trace.specs.declared.refusals.fault.Fault.TheVariants.{WrongAnswer}
use Rattle.nr_trace.proofs.LawsOfUnits.{answer_apart}
use Rattle.nr_trace.proofs.LawsOfLists.{In, Contains-from_in, in_from_Contains, in_left, in_right, in_either, in_filter, in_filtered, in_flat_map}
use Rattle.nr_trace.proofs.LawsOfLists.{in_flat_mapped, in_below, below_in, below_split, distinct_append, distinct_filter, option_distinct, below_distinct}
use Rattle.nr_trace.proofs.LawsOfLists.{flat_map_distinct, flat_map_next, before_split, option_parts, take-next}
use Rattle.nr_trace.proofs.LawsOfCalls.{the_some, is_some_from, not_both, read_is_call, call_within, no_operation, answered_stands}
use Rattle.nr_trace.proofs.LawsOfCalls.{placed_is_update, stands_once}

-- ---- the reads and the update of a place

abbrev pub saw : Recording → ℕ → ℕ → Bool
saw trace n call = is_some (address_of trace call) && option_map_or (λ reply. reply.at == n) (reply_to trace call) false

at_from_test : (o : Option Response) (n : ℕ) → option_map_or (λ (reply : Response). reply.at == n) o false ≡ true
    → (reply : Response) × (o ≡ Some reply) × (reply.at ≡ n)
at_from_test None n h = absurd (false≢true h)
at_from_test (Some reply) n h = (reply, refl, eqb-true reply.at n h)

test_from_at : (o : Option Response) (n : ℕ) (reply : Response) → o ≡ Some reply → reply.at ≡ n
    → option_map_or (λ (reply : Response). reply.at == n) o false ≡ true
test_from_at o n reply e f = rw e (eq-eqb reply.at n f)

abbrev ReadBehind : Recording → ℕ → ℕ → Type 0
ReadBehind trace call n = IsRead trace call × (reply : Response) × (reply_to trace call ≡ Some reply) × (reply.at ≡ n)

pub read_from_saw : (trace : Recording) (n call : ℕ) → saw trace n call ≡ true → ReadBehind trace call n
read_from_saw trace n call h =
    let (is_read, test) = and_parts (is_some (address_of trace call)) _ h in
    let (reply, e, f) = at_from_test (reply_to trace call) n test in
    (is_read, reply, e, f)

pub saw_from_read : (trace : Recording) (n call : ℕ) → ReadBehind trace call n → saw trace n call ≡ true
saw_from_read trace n call (is_read, reply, e, f) = and_from (is_some (address_of trace call)) _ is_read (test_from_at (reply_to trace call) n reply e f)

pub in_reads_at : (trace : Recording) (n call : ℕ) → In call (reads_at trace n) → ReadBehind trace call n
in_reads_at trace n call i = read_from_saw trace n call (in_filter (saw trace n) call (below (length trace.events)) i).1

pub reads_at_in : (trace : Recording) (n call : ℕ) → ReadBehind trace call n → In call (reads_at trace n)
reads_at_in trace n call h = in_filtered (saw trace n) call (below (length trace.events))
    (below_in call (length trace.events) (call_within trace call (read_is_call trace call h.0))) (saw_from_read trace n call h)

abbrev pub block : Recording → ℕ → List ℕ
block trace n = reads_at trace n ++ option_to_list (slice_get trace.log n)

pub in_block : (trace : Recording) (n call : ℕ) → HasCleanLog trace → In call (block trace n) → StandsAfter trace call n
in_block trace n call clean i = by_side (in_either call (reads_at trace n) (option_to_list (slice_get trace.log n)) i) where
  by_side : In call (reads_at trace n) ⊎ In call (option_to_list (slice_get trace.log n)) → StandsAfter trace call n
  by_side (inl j) = inr (in_reads_at trace n call j)
  by_side (inr j) =
      let e = option_parts call (slice_get trace.log n) j in
      inl (placed_is_update trace n call clean e, e)

pub block_in : (trace : Recording) (n call : ℕ) → StandsAfter trace call n → In call (block trace n)
block_in trace n call (inl (u, e)) = in_right call (reads_at trace n) (option_to_list (slice_get trace.log n)) (rw e (inl refl))
block_in trace n call (inr h) = in_left call (reads_at trace n) (option_to_list (slice_get trace.log n)) (reads_at_in trace n call h)

-- ---- the members of the order

-- what comes after fewer than n entries, or places an entry before n
abbrev pub blocks : Recording → ℕ → List ℕ
blocks trace n = flat_map (block trace) (below n)

pub in_blocks : (trace : Recording) (n call : ℕ) → HasCleanLog trace → In call (blocks trace n) → (m : ℕ) × (m < n) × StandsAfter trace call m
in_blocks trace n call clean i =
    let (m, j, k) = in_flat_map (block trace) call (below n) i in
    (m, in_below m n j, in_block trace m call clean k)

pub blocks_in : (trace : Recording) (m n call : ℕ) → m < n → StandsAfter trace call m → In call (blocks trace n)
blocks_in trace m n call l h = in_flat_mapped (block trace) call m (below n) (below_in m n l) (block_in trace m call h)

-- a member of the order comes after some entries
pub member_stands : (trace : Recording) (call : ℕ) → HasCleanLog trace → In call (recorded_order trace)
    → (n : ℕ) × (n ≤ length trace.log) × StandsAfter trace call n
member_stands trace call clean i =
    let (n, l, h) = in_blocks trace (length trace.log + 1) call clean i in
    (n, omega arith, h)

-- and what comes after some entries is a member
pub standing_is_member : (trace : Recording) (n call : ℕ) → n ≤ length trace.log → StandsAfter trace call n → In call (recorded_order trace)
standing_is_member trace n call l h = blocks_in trace n (length trace.log + 1) call (omega arith) h

pub stands_ordered : (trace : Recording) (call n : ℕ) → StandsAfter trace call n → IsOrdered trace call
stands_ordered trace call n (inl (u, e)) = inl u
stands_ordered trace call n (inr h) = inr h.0

stands_answered : (trace : Recording) (call n : ℕ) → StandsAfter trace call n → IsAnswered trace call ⊎ IsUpdate trace call
stands_answered trace call n (inl (u, e)) = inr u
stands_answered trace call n (inr (r, reply, e, f)) = inl (is_some_from (reply_to trace call) reply e)

block_distinct : (trace : Recording) (n : ℕ) → HasCleanLog trace → IsDistinct nat_eq (block trace n)
block_distinct trace n clean =
    distinct_append (reads_at trace n) (option_to_list (slice_get trace.log n))
    (distinct_filter (saw trace n) (below (length trace.events)) (below_distinct (length trace.events))) (option_distinct (slice_get trace.log n))
    (λ call i j. not_both trace call (placed_is_update trace n call clean (option_parts call (slice_get trace.log n) j)) (in_reads_at trace n call i).0)

pub order_distinct : (trace : Recording) → HasCleanLog trace → IsDistinct nat_eq (recorded_order trace)
order_distinct trace clean =
    flat_map_distinct (block trace) (length trace.log + 1) (λ n l. block_distinct trace n clean)
    (λ call m n l k i j. apart call m n l (stands_once trace call m n clean (in_block trace m call clean i) (in_block trace n call clean j))) where
      apart : (call m n : ℕ) → m < n → m ≡ n → ⊥
      apart call m n l e = omega arith

-- ---- what comes before a member

order_split : (trace : Recording) (n : ℕ) → n ≤ length trace.log → (rest : List ℕ) × (recorded_order trace ≡ blocks trace n ++ (block trace n ++ rest))
order_split trace n l =
    let (later, is) = below_split n (length trace.log + 1) (omega arith) in
    (flat_map (block trace) later, ap (flat_map (block trace)) is ∙ flat_map-append (block trace) (below n) (n ∷ later))

not_in_blocks : (trace : Recording) (n call : ℕ) → HasCleanLog trace → StandsAfter trace call n → In call (blocks trace n) → ⊥
not_in_blocks trace n call clean h i =
    let (m, l, k) = in_blocks trace n call clean i in
    let e = stands_once trace call m n clean k h in
    omega arith

intersection : (xs ys zs : List ℕ) (call : ℕ) → xs ++ ((ys ++ call ∷ []) ++ zs) ≡ (xs ++ ys) ++ call ∷ zs
intersection xs ys zs call = ap (λ ws. xs ++ ws) (append_assoc ys (call ∷ []) zs) ∙ sym (append_assoc xs ys (call ∷ zs))

pub before_update : (trace : Recording) (n call : ℕ) → HasCleanLog trace → IsUpdate trace call → slice_get trace.log n ≡ Some call
    → before call (recorded_order trace) ≡ blocks trace n ++ reads_at trace n
before_update trace n call clean u e =
    let (rest, is) = order_split trace n (within (slice_get_within trace.log n call e)) in
    let split : recorded_order trace ≡ (blocks trace n ++ reads_at trace n) ++ call ∷ rest =
    is ∙ ap (λ o. blocks trace n ++ ((reads_at trace n ++ option_to_list o) ++ rest)) e ∙ intersection (blocks trace n) (reads_at trace n) rest call in
    ap (before call) split ∙ before_split call (blocks trace n ++ reads_at trace n) rest
    (λ i. nowhere (in_either call (blocks trace n) (reads_at trace n) i)) where
      within : n < length trace.log → n ≤ length trace.log
      within l = omega arith

      nowhere : In call (blocks trace n) ⊎ In call (reads_at trace n) → ⊥
      nowhere (inl i) = not_in_blocks trace n call clean (inl (u, e)) i
      nowhere (inr i) = not_both trace call u (in_reads_at trace n call i).0

-- the reads after n entries with lower numbers than this one
abbrev pub earlier_reads : Recording → ℕ → ℕ → List ℕ
earlier_reads trace n call = filter (saw trace n) (below call)

reads_split : (trace : Recording) (n call : ℕ) → ReadBehind trace call n → (later : List ℕ) × (reads_at trace n ≡ earlier_reads trace n call ++ call ∷ later)
reads_split trace n call h =
    let (later, is) = below_split call (length trace.events) (call_within trace call (read_is_call trace call h.0)) in
    let test = saw_from_read trace n call h in
    let kept : filter (saw trace n) (call ∷ later) ≡ call ∷ filter (saw trace n) later = rw test refl in (
      filter (saw trace n) later,
      ap (filter (saw trace n)) is ∙ filter-append (saw trace n) (below call) (call ∷ later)
          ∙ ap (λ ys. earlier_reads trace n call ++ ys) kept,
    )

intersection_inside : (xs ys zs ws us : List ℕ) (call : ℕ) → xs ++ (((ys ++ call ∷ zs) ++ ws) ++ us) ≡ (xs ++ ys) ++ call ∷ ((zs ++ ws) ++ us)
intersection_inside xs ys zs ws us call =
    ap (λ vs. xs ++ (vs ++ us)) (append_assoc ys (call ∷ zs) ws) ∙ ap (λ vs. xs ++ vs) (append_assoc ys (call ∷ (zs ++ ws)) us)
    ∙ sym (append_assoc xs ys (call ∷ ((zs ++ ws) ++ us)))

pub before_read : (trace : Recording) (n call : ℕ) → HasCleanLog trace → n ≤ length trace.log → ReadBehind trace call n
    → before call (recorded_order trace) ≡ blocks trace n ++ earlier_reads trace n call
before_read trace n call clean l h =
    let (rest, is) = order_split trace n l in
    let (later, reads) = reads_split trace n call h in
    let option = option_to_list (slice_get trace.log n) in
    let split : recorded_order trace ≡ (blocks trace n ++ earlier_reads trace n call) ++ call ∷ ((later ++ option) ++ rest) =
    is ∙ ap (λ ys. blocks trace n ++ ((ys ++ option) ++ rest)) reads
    ∙ intersection_inside (blocks trace n) (earlier_reads trace n call) later option rest call in
    ap (before call) split ∙ before_split call (blocks trace n ++ earlier_reads trace n call) ((later ++ option) ++ rest)
    (λ i. nowhere (in_either call (blocks trace n) (earlier_reads trace n call) i)) where
      not_below : In call (below call) → ⊥
      not_below i = let l = in_below call call i in omega arith

      nowhere : In call (blocks trace n) ⊎ In call (earlier_reads trace n call) → ⊥
      nowhere (inl i) = not_in_blocks trace n call clean (inr h) i
      nowhere (inr i) = not_below (in_filter (saw trace n) call (below call) i).0

-- ---- operations and updates of the order

no_operations : (trace : Recording) (calls : List ℕ) → ((call : ℕ) → In call calls → IsRead trace call) → operations trace calls ≡ []
no_operations trace [] h = refl
no_operations trace (call ∷ calls) h =
    let e = no_operation trace call (h call (inl refl)) in
    rw e (no_operations trace calls (λ c i. h c (inr i)))

operations_of_blocks : (trace : Recording) (n : ℕ) → operations trace (blocks trace n) ≡ operations trace (take n trace.log)
operations_of_blocks trace zero = refl
operations_of_blocks trace (suc n) =
    ap (operations trace) (flat_map_next (block trace) n)
    ∙ filter_map-append (operation_of trace) (blocks trace n) (block trace n)
    ∙ ap₂ ◌++◌ (operations_of_blocks trace n)
    (filter_map-append (operation_of trace) (reads_at trace n) (option_to_list (slice_get trace.log n))
    ∙ ap (λ ys. ys ++ operations trace (option_to_list (slice_get trace.log n)))
    (no_operations trace (reads_at trace n) (λ call i. (in_reads_at trace n call i).0)))
    ∙ sym (filter_map-append (operation_of trace) (take n trace.log) (option_to_list (slice_get trace.log n)))
    ∙ sym (ap (operations trace) (take-next n trace.log))

with_reads : (trace : Recording) (n : ℕ) (reads : List ℕ) → ((call : ℕ) → In call reads → IsRead trace call)
    → operations trace (blocks trace n ++ reads) ≡ operations trace (take n trace.log)
with_reads trace n reads h =
    filter_map-append (operation_of trace) (blocks trace n) reads
    ∙ ap₂ ◌++◌ (operations_of_blocks trace n) (no_operations trace reads h)
    ∙ append-nil (operations trace (take n trace.log))

-- before a call that comes after n entries come the operations of the first n places
pub operations_before : (trace : Recording) (n call : ℕ) → HasCleanLog trace → n ≤ length trace.log → StandsAfter trace call n
    → operations trace (before call (recorded_order trace)) ≡ operations trace (take n trace.log)
operations_before trace n call clean l (inl (u, e)) =
    ap (operations trace) (before_update trace n call clean u e) ∙ with_reads trace n (reads_at trace n) (λ c i. (in_reads_at trace n c i).0)
operations_before trace n call clean l (inr h) =
    ap (operations trace) (before_read trace n call clean l h)
    ∙ with_reads trace n (earlier_reads trace n call) (λ c i. (read_from_saw trace n c (in_filter (saw trace n) c (below call) i).1).0)

pub space_before : (start : Space) (trace : Recording) (n call : ℕ) → HasCleanLog trace → n ≤ length trace.log → StandsAfter trace call n
    → space_from start trace (before call (recorded_order trace)) ≡ space_from start trace (take n trace.log)
space_before start trace n call clean l h = ap (after_all trace.layout.depth trace.layout.tables start) (operations_before trace n call clean l h)

no_updates : (trace : Recording) (calls : List ℕ) → ((call : ℕ) → In call calls → IsRead trace call) → updates trace calls ≡ []
no_updates trace [] h = refl
no_updates trace (call ∷ calls) h =
    let e = no_operation trace call (h call (inl refl)) in
    rw e (no_updates trace calls (λ c i. h c (inr i)))

one_update : (trace : Recording) (o : Option ℕ) → ((call : ℕ) → o ≡ Some call → IsUpdate trace call) → updates trace (option_to_list o) ≡ option_to_list o
one_update trace None h = refl
one_update trace (Some call) h =
    let e = h call refl in
    rw e refl

updates_of_blocks : (trace : Recording) (n : ℕ) → HasCleanLog trace → updates trace (blocks trace n) ≡ take n trace.log
updates_of_blocks trace zero clean = refl
updates_of_blocks trace (suc n) clean =
    ap (updates trace) (flat_map_next (block trace) n)
    ∙ filter-append (λ call. is_some (operation_of trace call)) (blocks trace n) (block trace n)
    ∙ ap₂ ◌++◌ (updates_of_blocks trace n clean)
    (filter-append (λ call. is_some (operation_of trace call)) (reads_at trace n) (option_to_list (slice_get trace.log n))
    ∙ ap₂ ◌++◌ (no_updates trace (reads_at trace n) (λ call i. (in_reads_at trace n call i).0))
    (one_update trace (slice_get trace.log n) (λ call e. placed_is_update trace n call clean e)))
    ∙ sym (take-next n trace.log)

-- the updates of the order are the log
pub updates_of_order : (trace : Recording) → HasCleanLog trace → updates trace (recorded_order trace) ≡ trace.log
updates_of_order trace clean = updates_of_blocks trace (length trace.log + 1) clean ∙ take_all (length trace.log + 1) trace.log (omega arith)

-- ---- answers

pub same_or_not : (a b : Answer) → (a ≡ b) ⊎ (a ≢ b)
same_or_not a b =
    by_parts (cases_eq (answer_fields a).code (answer_fields b).code) (cases_eq (answer_fields a).size (answer_fields b).size)
    (cases_eq (answer_fields a).rights (answer_fields b).rights) (cases_eq (answer_fields a).value (answer_fields b).value) where
      by_parts : ((answer_fields a).code ≡ (answer_fields b).code) ⊎ ((answer_fields a).code ≡ (answer_fields b).code → ⊥)
          → ((answer_fields a).size ≡ (answer_fields b).size) ⊎ ((answer_fields a).size ≡ (answer_fields b).size → ⊥)
          → ((answer_fields a).rights ≡ (answer_fields b).rights) ⊎ ((answer_fields a).rights ≡ (answer_fields b).rights → ⊥)
          → ((answer_fields a).value ≡ (answer_fields b).value) ⊎ ((answer_fields a).value ≡ (answer_fields b).value → ⊥)
          → (a ≡ b) ⊎ (a ≢ b)
      by_parts (inl c) (inl s) (inl r) (inl v) = inl (answer_apart a b (λ i. record { code = c i; size = s i; rights = r i; value = v i }))
      by_parts (inr n) s r v = inr (λ e. n (ap (λ x. (answer_fields x).code) e))
      by_parts (inl c) (inr n) r v = inr (λ e. n (ap (λ x. (answer_fields x).size) e))
      by_parts (inl c) (inl s) (inr n) v = inr (λ e. n (ap (λ x. (answer_fields x).rights) e))
      by_parts (inl c) (inl s) (inl r) (inr n) = inr (λ e. n (ap (λ x. (answer_fields x).value) e))

pub right_answer : (start : Space) (trace : Recording) → ((call : ℕ) → HasFaultFrom start trace (WrongAnswer call) → ⊥)
    → (call : ℕ) (request : Query) (reply : Response) → request_of trace call ≡ Some request → reply_to trace call ≡ Some reply
    → reply.answer ≡ answer_in trace.layout (space_from start trace (before call (recorded_order trace))) request
right_answer start trace right call request reply e f =
    by_case (same_or_not reply.answer (answer_in trace.layout (space_from start trace (before call (recorded_order trace))) request)) where
      by_case : (reply.answer ≡ answer_in trace.layout (space_from start trace (before call (recorded_order trace))) request) ⊎
          (reply.answer ≢ answer_in trace.layout (space_from start trace (before call (recorded_order trace))) request)
          → reply.answer ≡ answer_in trace.layout (space_from start trace (before call (recorded_order trace))) request
      by_case (inl h) = h
      by_case (inr n) = absurd (right call (record { request = request; asks = e; reply = reply; is_reply = f; differs = n }))

pub legal_but_precedence : (start : Space) (trace : Recording) → HasCleanLog trace → ((call : ℕ) → HasFaultFrom start trace (WrongAnswer call) → ⊥)
    → IsSerialFrom start trace (recorded_order trace)
legal_but_precedence start trace clean right = record {
  members = record {
    once = order_distinct trace clean;
    calls = λ call m. ordered call (member_stands trace call clean (in_from_Contains call (recorded_order trace) m));
    answered = λ call c a. stands call c (the_some (reply_to trace call) a);
    others = λ call m. kind call (member_stands trace call clean (in_from_Contains call (recorded_order trace) m));
  };
  answers = right_answer start trace right;
} where
  ordered : (call : ℕ) → (n : ℕ) × (n ≤ length trace.log) × StandsAfter trace call n → IsOrdered trace call
  ordered call (n, l, h) = stands_ordered trace call n h

  kind : (call : ℕ) → (n : ℕ) × (n ≤ length trace.log) × StandsAfter trace call n → IsAnswered trace call ⊎ IsUpdate trace call
  kind call (n, l, h) = stands_answered trace call n h

  stands : (call : ℕ) → IsOrdered trace call → (reply : Response) × (reply_to trace call ≡ Some reply) → Contains (recorded_order trace) call
  stands call is_ordered (reply, e) =
      let both = answered_stands trace call reply clean is_ordered e in
      Contains-from_in call (recorded_order trace) (standing_is_member trace reply.at call both.1 both.0)
