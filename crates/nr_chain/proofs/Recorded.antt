-- The order that a joined run records: that of the first, and behind it that of the second.
use Rattle.std.proofs.Common.{◌≡◌, ℕ, zero, suc, ◌+◌, ◌<◌, ◌≤◌, ◌⊎◌, inl, inr, Bool, true, false, ◌&&◌, ◌==◌, List, [], ◌++◌, length, filter, map, slice_get}
use Rattle.std.proofs.Common.{Option, Some, None, is_some, option_to_list, option_map, refl, ap, ap₂, sym, ◌∙◌, arith, eq-eqb, ne_eqb}
use Rattle.std.specs.Prelude.{flat_map}
use Rattle.std.specs.Option.{option_map_or}
use Rattle.std.proofs.lemmas.Bool.{cases_eq}
use Rattle.std.proofs.lemmas.List.{append_assoc, append-nil, length-append, length-map, map-append}
use Rattle.std.proofs.lemmas.List.Concat.{flat_map-append}
use Rattle.std.proofs.lemmas.List.Elements.{filter-append}
use Rattle.std.proofs.lemmas.Option.{slice_get-map, slice_get_past}
use Rattle.vs_types.proofs.Lists.{get_left, get_right}
use Rattle.nr_trace.specs.Recording.{Recording}
use Rattle.nr_trace.specs.Calls.{address_of, Response, reply_to}
use Rattle.nr_trace.specs.Orders.{below, reads_at, recorded_order}
use Rattle.nr_trace.specs.Laws.{HasCleanLog}
use Rattle.nr_trace.proofs.LawsOfLists.{In, in_below, flat_map_next}
use Rattle.nr_trace.proofs.LawsOfCalls.{answered_stands, reply_behind_call}
use Rattle.nr_trace.proofs.LawsOfOrder.{saw, block, in_reads_at}
use Rattle.nr_trace.specs.Joined.{event_behind, calls_behind, joined_traces}
use Rattle.nr_trace.proofs.Lists.{filter_same, filter-map, none_kept, below_behind, flat_map_same, flat_map-map, nil_if_none}
use Rattle.nr_trace.proofs.Lists.{to_list_of_mapped}
use Rattle.nr_trace.proofs.Parts.{address_left, address_right, reply_behind, HasEarlierCalls, reply_to_left, reply_to_right}

-- ---- the reads that saw so many entries

abbrev is_at : ℕ → Option Response → Bool
is_at n o = option_map_or (λ (reply : Response). reply.at == n) o false

same_test : (places at n : ℕ) → ((places + at) == (places + n)) ≡ (at == n)
same_test places at n = by_case (cases_eq at n) where
  by_case : (at ≡ n) ⊎ (at ≡ n → ⊥) → ((places + at) == (places + n)) ≡ (at == n)
  by_case (inl e) = eq-eqb (places + at) (places + n) (ap (λ k. places + k) e) ∙ sym (eq-eqb at n e)
  by_case (inr m) = ne_eqb (places + at) (places + n) (λ e. m (omega arith)) ∙ sym (ne_eqb at n m)

at_behind : (events places n : ℕ) (o : Option Response) → is_at (places + n) (option_map (reply_behind events places) o) ≡ is_at n o
at_behind events places n None = refl
at_behind events places n (Some reply) = same_test places reply.at n

at_before : (events places n : ℕ) (o : Option Response) → n < places → is_at n (option_map (reply_behind events places) o) ≡ false
at_before events places n None l = refl
at_before events places n (Some reply) l = ne_eqb (places + reply.at) n (λ e. omega arith)

and_false : (b : Bool) → (b && false) ≡ false
and_false true = refl
and_false false = refl

saw_left : (first second : Recording) (n call : ℕ) → call < length first.events → saw (joined_traces first second) n call ≡ saw first n call
saw_left first second n call l =
    ap₂ (λ (a : Option ℕ) (o : Option Response). is_some a && is_at n o) (address_left first second call l) (reply_to_left first second call l)

saw_right : (first second : Recording) (n call : ℕ) → HasEarlierCalls first
    → saw (joined_traces first second) (length first.log + n) (length first.events + call) ≡ saw second n call
saw_right first second n call earlier =
    ap₂ (λ (a : Option ℕ) (o : Option Response). is_some a && is_at (length first.log + n) o) (address_right first second call)
    (reply_to_right first second call earlier)
    ∙ ap (λ (b : Bool). is_some (address_of second call) && b) (at_behind (length first.events) (length first.log) n (reply_to second call))

saw_before : (first second : Recording) (n call : ℕ) → HasEarlierCalls first → n < length first.log
    → saw (joined_traces first second) n (length first.events + call) ≡ false
saw_before first second n call earlier l =
    ap₂ (λ (a : Option ℕ) (o : Option Response). is_some a && is_at n o) (address_right first second call) (reply_to_right first second call earlier)
    ∙ ap (λ (b : Bool). is_some (address_of second call) && b) (at_before (length first.events) (length first.log) n (reply_to second call) l)
    ∙ and_false (is_some (address_of second call))

pub events_of_both : (first second : Recording) → length (joined_traces first second).events ≡ length first.events + length second.events
events_of_both first second =
    length-append first.events (map (event_behind (length first.events) (length first.log)) second.events)
    ∙ ap (λ (k : ℕ). length first.events + k) (length-map second.events (event_behind (length first.events) (length first.log)))

reads_in_parts : (first second : Recording) (n : ℕ)
    → reads_at (joined_traces first second) n
    ≡ reads_at first n ++ filter (saw (joined_traces first second) n) (calls_behind (length first.events) (below (length second.events)))
reads_in_parts first second n =
    ap (λ (calls : List ℕ). filter (saw (joined_traces first second) n) calls)
    (ap below (events_of_both first second) ∙ below_behind (length first.events) (length second.events))
    ∙ filter-append (saw (joined_traces first second) n) (below (length first.events)) (calls_behind (length first.events) (below (length second.events)))
    ∙ ap (λ (reads : List ℕ). reads ++ filter (saw (joined_traces first second) n) (calls_behind (length first.events) (below (length second.events))))
    (filter_same (saw (joined_traces first second) n) (saw first n) (below (length first.events))
    (λ call i. saw_left first second n call (in_below call (length first.events) i)))

reads_before : (first second : Recording) (n : ℕ) → HasEarlierCalls first → n < length first.log
    → reads_at (joined_traces first second) n ≡ reads_at first n
reads_before first second n earlier l =
    reads_in_parts first second n
    ∙ ap (λ (reads : List ℕ). reads_at first n ++ reads)
    (none_kept (saw (joined_traces first second) n) (λ (call : ℕ). length first.events + call) (below (length second.events))
    (λ call. saw_before first second n call earlier l))
    ∙ append-nil (reads_at first n)

reads_behind : (first second : Recording) (n : ℕ) → HasEarlierCalls first
    → reads_at (joined_traces first second) (length first.log + n)
    ≡ reads_at first (length first.log + n) ++ calls_behind (length first.events) (reads_at second n)
reads_behind first second n earlier =
    reads_in_parts first second (length first.log + n)
    ∙ ap (λ (reads : List ℕ). reads_at first (length first.log + n) ++ reads)
    (filter-map (saw (joined_traces first second) (length first.log + n)) (λ (call : ℕ). length first.events + call) (below (length second.events))
    ∙ ap (calls_behind (length first.events))
    (filter_same (λ (call : ℕ). saw (joined_traces first second) (length first.log + n) (length first.events + call)) (saw second n)
    (below (length second.events)) (λ call i. saw_right first second n call earlier)))

-- ---- the reads and the update of a place

block_before : (first second : Recording) (n : ℕ) → HasEarlierCalls first → n < length first.log → block (joined_traces first second) n ≡ block first n
block_before first second n earlier l =
    ap₂ (λ (reads : List ℕ) (o : Option ℕ). reads ++ option_to_list o) (reads_before first second n earlier l)
    (get_left first.log (calls_behind (length first.events) second.log) n l)

block_behind : (first second : Recording) (n : ℕ) → HasEarlierCalls first
    → block (joined_traces first second) (length first.log + n)
    ≡ reads_at first (length first.log + n) ++ calls_behind (length first.events) (block second n)
block_behind first second n earlier =
    ap₂ ◌++◌ (reads_behind first second n earlier)
    (ap option_to_list (get_right first.log (calls_behind (length first.events) second.log) n
    ∙ slice_get-map (λ (call : ℕ). length first.events + call) second.log n)
    ∙ to_list_of_mapped (λ (call : ℕ). length first.events + call) (slice_get second.log n))
    ∙ append_assoc (reads_at first (length first.log + n)) (calls_behind (length first.events) (reads_at second n))
    (calls_behind (length first.events) (option_to_list (slice_get second.log n)))
    ∙ ap (λ (calls : List ℕ). reads_at first (length first.log + n) ++ calls)
    (sym (map-append (λ (call : ℕ). length first.events + call) (reads_at second n) (option_to_list (slice_get second.log n))))

-- no read saw more entries than there are
none_past : (trace : Recording) (n : ℕ) → HasCleanLog trace → reads_at trace (length trace.log + suc n) ≡ []
none_past trace n clean = nil_if_none (reads_at trace (length trace.log + suc n)) past where
  past : (call : ℕ) → In call (reads_at trace (length trace.log + suc n)) → ⊥
  past call i =
      let (is_read, reply, is, at) = in_reads_at trace (length trace.log + suc n) call i in
      let within : reply.at ≤ length trace.log = (answered_stands trace call reply clean (inr is_read) is).1 in
      omega arith

blocks_behind : (first second : Recording) → HasCleanLog first → HasEarlierCalls first → (n : ℕ)
    → flat_map (λ (k : ℕ). block (joined_traces first second) (length first.log + k)) (below (suc n))
    ≡ reads_at first (length first.log) ++ calls_behind (length first.events) (flat_map (block second) (below (suc n)))
blocks_behind first second clean earlier zero =
    let none_more : length first.log + 0 ≡ length first.log = omega arith in
    flat_map_next (λ (k : ℕ). block (joined_traces first second) (length first.log + k)) 0
    ∙ block_behind first second 0 earlier
    ∙ ap (λ (n : ℕ). reads_at first n ++ calls_behind (length first.events) (block second 0)) none_more
    ∙ ap (λ (calls : List ℕ). reads_at first (length first.log) ++ calls_behind (length first.events) calls) (sym (flat_map_next (block second) 0))
blocks_behind first second clean earlier (suc n) =
    flat_map_next (λ (k : ℕ). block (joined_traces first second) (length first.log + k)) (suc n)
    ∙ ap₂ ◌++◌ (blocks_behind first second clean earlier n)
    (block_behind first second (suc n) earlier
    ∙ ap (λ (reads : List ℕ). reads ++ calls_behind (length first.events) (block second (suc n))) (none_past first n clean))
    ∙ append_assoc (reads_at first (length first.log)) (calls_behind (length first.events) (flat_map (block second) (below (suc n))))
    (calls_behind (length first.events) (block second (suc n)))
    ∙ ap (λ (calls : List ℕ). reads_at first (length first.log) ++ calls)
    (sym (map-append (λ (call : ℕ). length first.events + call) (flat_map (block second) (below (suc n))) (block second (suc n))))
    ∙ ap (λ (calls : List ℕ). reads_at first (length first.log) ++ calls_behind (length first.events) calls) (sym (flat_map_next (block second) (suc n)))

-- ---- the whole

order_of_blocks : (trace : Recording) → recorded_order trace ≡ flat_map (block trace) (below (suc (length trace.log)))
order_of_blocks trace =
    let next : length trace.log + 1 ≡ suc (length trace.log) = omega arith in
    ap (λ (n : ℕ). flat_map (block trace) (below n)) next

first_order : (trace : Recording) → recorded_order trace ≡ flat_map (block trace) (below (length trace.log)) ++ reads_at trace (length trace.log)
first_order trace =
    order_of_blocks trace ∙ flat_map_next (block trace) (length trace.log)
    ∙ ap (λ (calls : List ℕ). flat_map (block trace) (below (length trace.log)) ++ calls)
    (ap (λ (o : Option ℕ). reads_at trace (length trace.log) ++ option_to_list o) (slice_get_past trace.log (length trace.log) (omega arith))
    ∙ append-nil (reads_at trace (length trace.log)))

pub places_of_both : (first second : Recording) → suc (length (joined_traces first second).log) ≡ length first.log + suc (length second.log)
places_of_both first second =
    let parts : length (joined_traces first second).log ≡ length first.log + length second.log =
    length-append first.log (calls_behind (length first.events) second.log)
    ∙ ap (λ (k : ℕ). length first.log + k) (length-map second.log (λ (call : ℕ). length first.events + call)) in
    omega arith

pub recorded_both : (first second : Recording) → HasCleanLog first
    → recorded_order (joined_traces first second) ≡ recorded_order first ++ calls_behind (length first.events) (recorded_order second)
recorded_both first second clean =
    order_of_blocks (joined_traces first second)
    ∙ ap (λ (n : ℕ). flat_map (block (joined_traces first second)) (below n)) (places_of_both first second)
    ∙ ap (flat_map (block (joined_traces first second))) (below_behind (length first.log) (suc (length second.log)))
    ∙ flat_map-append (block (joined_traces first second)) (below (length first.log)) (calls_behind (length first.log) (below (suc (length second.log))))
    ∙ ap₂ ◌++◌
    (flat_map_same (block (joined_traces first second)) (block first) (below (length first.log))
    (λ n i. block_before first second n earlier (in_below n (length first.log) i)))
    (flat_map-map (block (joined_traces first second)) (λ (n : ℕ). length first.log + n) (below (suc (length second.log)))
    ∙ blocks_behind first second clean earlier (length second.log))
    ∙ sym (append_assoc (flat_map (block first) (below (length first.log))) (reads_at first (length first.log))
    (calls_behind (length first.events) (flat_map (block second) (below (suc (length second.log))))))
    ∙ ap₂ (λ (before behind : List ℕ). before ++ calls_behind (length first.events) behind) (sym (first_order first)) (sym (order_of_blocks second)) where
      earlier : HasEarlierCalls first
      earlier index reply is = (reply_behind_call first index reply clean is).0
