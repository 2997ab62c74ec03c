-- The log of a joined run, what comes after so many of its entries, and what raises a floor.
use Rattle.std.proofs.Common.{◌≡◌, ℕ, zero, suc, ◌+◌, ◌<◌, ◌≤◌, ◌⊎◌, inl, inr, max, List, [], ◌∷◌, length, take, map, fold, slice_get, Option, Some, None}
use Rattle.std.proofs.Common.{IsSome, option_and_then, option_map, refl, ap, ap₂, sym, ◌∙◌, subst, arith}
use Rattle.std.specs.Prelude.{filter_map}
use Rattle.std.specs.Option.{option_map_or}
use Rattle.std.specs.List.{cons_option}
use Rattle.std.proofs.lemmas.Bool.{cases_lt}
use Rattle.std.proofs.lemmas.Option.{none-some, slice_get-map, slice_get_within}
use Rattle.vs_types.specs.declared.requests.op.Action.{Action}
use Rattle.nr_trace.specs.declared.recordings.event.Asked.{Asked}
use Rattle.vs_types.proofs.Lists.{get_left, get_right}
use Rattle.nr_trace.specs.Recording.{Recording}
use Rattle.nr_trace.specs.Calls.{operation_of, touch_of, IsOrdered, IsRead, Response, reply_in, reply_of, reply_to}
use Rattle.nr_trace.specs.Orders.{known_by, floor}
use Rattle.nr_trace.specs.Faults.{StandsAfter}
use Rattle.nr_trace.proofs.LawsOfLists.{In, in_map}
use Rattle.nr_trace.proofs.LawsOfPrecedence.{known_below_floor}
use Rattle.nr_trace.specs.Joined.{calls_behind, joined_traces}
use Rattle.nr_trace.proofs.Lists.{split_at, of_mapped}
use Rattle.nr_trace.proofs.Parts.{operation_left, operation_right, address_left, address_right, touch_left, touch_right, reply_behind, HasEarlierCalls}
use Rattle.nr_trace.proofs.Parts.{reply_to_left, reply_to_right}
use Rattle.nr_trace.proofs.Parts.{is_update_left, is_update_from_left, is_update_right, is_update_from_right, is_read_right}

pub is_read_left : (first second : Recording) (call : ℕ) → call < length first.events → IsRead (joined_traces first second) call → IsRead first call
is_read_left first second call l h = subst IsSome (address_left first second call l) h

pub is_read_from_left : (first second : Recording) (call : ℕ) → call < length first.events → IsRead first call → IsRead (joined_traces first second) call
is_read_from_left first second call l h = subst IsSome (sym (address_left first second call l)) h

pub is_read_from_right : (first second : Recording) (call : ℕ) → IsRead second call → IsRead (joined_traces first second) (length first.events + call)
is_read_from_right first second call h = subst IsSome (sym (address_right first second call)) h

pub is_ordered_left : (first second : Recording) (call : ℕ) → call < length first.events → IsOrdered (joined_traces first second) call → IsOrdered first call
is_ordered_left first second call l (inl u) = inl (is_update_left first second call l u)
is_ordered_left first second call l (inr r) = inr (is_read_left first second call l r)

pub is_ordered_from_left : (first second : Recording) (call : ℕ) → call < length first.events → IsOrdered first call
    → IsOrdered (joined_traces first second) call
is_ordered_from_left first second call l (inl u) = inl (is_update_from_left first second call l u)
is_ordered_from_left first second call l (inr r) = inr (is_read_from_left first second call l r)

pub is_ordered_right : (first second : Recording) (call : ℕ) → IsOrdered (joined_traces first second) (length first.events + call) → IsOrdered second call
is_ordered_right first second call (inl u) = inl (is_update_right first second call u)
is_ordered_right first second call (inr r) = inr (is_read_right first second call r)

pub is_ordered_from_right : (first second : Recording) (call : ℕ) → IsOrdered second call
    → IsOrdered (joined_traces first second) (length first.events + call)
is_ordered_from_right first second call (inl u) = inl (is_update_from_right first second call u)
is_ordered_from_right first second call (inr r) = inr (is_read_from_right first second call r)

-- ---- the log

pub placed_left : (first second : Recording) (place call : ℕ) → slice_get first.log place ≡ Some call
    → slice_get (joined_traces first second).log place ≡ Some call
placed_left first second place call is =
    get_left first.log (calls_behind (length first.events) second.log) place (slice_get_within first.log place call is) ∙ is

pub placed_right : (first second : Recording) (place call : ℕ) → slice_get second.log place ≡ Some call
    → slice_get (joined_traces first second).log (length first.log + place) ≡ Some (length first.events + call)
placed_right first second place call is =
    get_right first.log (calls_behind (length first.events) second.log) place
    ∙ slice_get-map (λ (c : ℕ). length first.events + c) second.log place ∙ ap (option_map (λ (c : ℕ). length first.events + c)) is

pub placed_in_right : (first second : Recording) (place call : ℕ) → slice_get (joined_traces first second).log (length first.log + place) ≡ Some call
    → (own : ℕ) × (slice_get second.log place ≡ Some own) × (length first.events + own ≡ call)
placed_in_right first second place call is =
    of_mapped (λ (c : ℕ). length first.events + c) (slice_get second.log place) call
    (sym (get_right first.log (calls_behind (length first.events) second.log) place ∙ slice_get-map (λ (c : ℕ). length first.events + c) second.log place) ∙ is)

abbrev pub PlacedRight : Recording → Recording → ℕ → ℕ → Type 0
PlacedRight first second place call =
    (at : ℕ) × (place ≡ length first.log + at) × (own : ℕ) × (slice_get second.log at ≡ Some own) × (call ≡ length first.events + own)

pub placed_in : (first second : Recording) (place call : ℕ) → slice_get (joined_traces first second).log place ≡ Some call
    → (slice_get first.log place ≡ Some call) ⊎ PlacedRight first second place call
placed_in first second place call is = by_side (split_at (length first.log) place) where
  by_side : (place < length first.log) ⊎ ((k : ℕ) × (place ≡ length first.log + k))
      → (slice_get first.log place ≡ Some call) ⊎ PlacedRight first second place call
  by_side (inl l) = inl (sym (get_left first.log (calls_behind (length first.events) second.log) place l) ∙ is)
  by_side (inr (k, e)) =
      let (own, own_is, same) = placed_in_right first second k call (subst (λ (p : ℕ). slice_get (joined_traces first second).log p ≡ Some call) e is) in
      inr (k, e, own, own_is, sym same)

-- a call of the first run has its place in that
pub placed_before : (first second : Recording) (place call : ℕ) → call < length first.events → slice_get (joined_traces first second).log place ≡ Some call
    → slice_get first.log place ≡ Some call
placed_before first second place call l is = by_side (placed_in first second place call is) where
  by_side : (slice_get first.log place ≡ Some call) ⊎ PlacedRight first second place call → slice_get first.log place ≡ Some call
  by_side (inl here) = here
  by_side (inr (at, e, own, own_is, same)) = absurd (omega arith)

-- the log of the run has its own calls
abbrev pub HasOwnPlaces : Recording → Type 0
HasOwnPlaces trace = (place call : ℕ) → slice_get trace.log place ≡ Some call → call < length trace.events

-- ---- what comes after so many entries

pub stands_left : (first second : Recording) (call entries : ℕ) → call < length first.events → StandsAfter first call entries
    → StandsAfter (joined_traces first second) call entries
stands_left first second call entries l (inl (u, e)) = inl (is_update_from_left first second call l u, placed_left first second entries call e)
stands_left first second call entries l (inr (r, reply, is, e)) =
    inr (is_read_from_left first second call l r, reply, reply_to_left first second call l ∙ is, e)

pub stood_left : (first second : Recording) (call entries : ℕ) → call < length first.events → StandsAfter (joined_traces first second) call entries
    → StandsAfter first call entries
stood_left first second call entries l (inl (u, e)) = inl (is_update_left first second call l u, placed_before first second entries call l e)
stood_left first second call entries l (inr (r, reply, is, e)) =
    inr (is_read_left first second call l r, reply, sym (reply_to_left first second call l) ∙ is, e)

pub stands_right : (first second : Recording) (call entries : ℕ) → HasEarlierCalls first → StandsAfter second call entries
    → StandsAfter (joined_traces first second) (length first.events + call) (length first.log + entries)
stands_right first second call entries earlier (inl (u, e)) = inl (is_update_from_right first second call u, placed_right first second entries call e)
stands_right first second call entries earlier (inr (r, reply, is, e)) =
    inr (
      is_read_from_right first second call r,
      reply_behind (length first.events) (length first.log) reply,
      reply_to_right first second call earlier ∙ ap (option_map (reply_behind (length first.events) (length first.log))) is,
      ap (λ (n : ℕ). length first.log + n) e,
    )

pub stood_right : (first second : Recording) (call entries : ℕ) → HasEarlierCalls first → HasOwnPlaces first
    → StandsAfter (joined_traces first second) (length first.events + call) entries
    → (own : ℕ) × (entries ≡ length first.log + own) × StandsAfter second call own
stood_right first second call entries earlier own_places (inl (u, e)) = by_side (placed_in first second entries (length first.events + call) e) where
  by_side : (slice_get first.log entries ≡ Some (length first.events + call)) ⊎ PlacedRight first second entries (length first.events + call)
      → (own : ℕ) × (entries ≡ length first.log + own) × StandsAfter second call own
  by_side (inl here) =
      let l = own_places entries (length first.events + call) here in
      absurd (omega arith)
  by_side (inr (at, is, own, own_is, same)) =
      let one : own ≡ call = omega arith in
      (at, is, inl (is_update_right first second call u, own_is ∙ ap Some one))
stood_right first second call entries earlier own_places (inr (r, reply, is, e)) =
    let (own, own_is, same) = of_mapped (reply_behind (length first.events) (length first.log)) (reply_to second call) reply
    (sym (reply_to_right first second call earlier) ∙ is) in
    let at : length first.log + own.at ≡ reply.at = ap (λ (a : Response). a.at) same in
    (own.at, sym e ∙ sym at, inr (is_read_right first second call r, own, own_is, refl))

-- ---- what is known by a reply

pub known_left : (first second : Recording) (reply : Response) → reply.call < length first.events
    → known_by (joined_traces first second) reply ≡ known_by first reply
known_left first second reply l =
    ap₂ (λ (o : Option Action) (t : Option Asked). option_map_or (λ (action : Action). reply.at + 1) o (option_map_or (λ (touch : Asked). 0) t reply.at))
    (operation_left first second reply.call l) (touch_left first second reply.call l)

-- how many entries are known, behind so many places: as many more, but by a reply to a touch none
abbrev pub KnowsBehind : ℕ → ℕ → ℕ → Type 0
KnowsBehind places own known = (known ≤ places + own) × (0 < own → known ≡ places + own)

abbrev known_from : ℕ → Option Action → Option Asked → ℕ
known_from at o t = option_map_or (λ (action : Action). at + 1) o (option_map_or (λ (touch : Asked). 0) t at)

known_behind : (places at : ℕ) (o : Option Action) (t : Option Asked) → KnowsBehind places (known_from at o t) (known_from (places + at) o t)
known_behind places at None (Some touch) = (omega arith, λ some. absurd (omega arith))
known_behind places at _ _ = (omega arith, λ some. omega arith)

pub known_right : (first second : Recording) (reply : Response)
    → KnowsBehind (length first.log) (known_by second reply)
    (known_by (joined_traces first second) (reply_behind (length first.events) (length first.log) reply))
known_right first second reply =
    subst (KnowsBehind (length first.log) (known_by second reply))
    (sym (ap₂ (known_from (length first.log + reply.at)) (operation_right first second reply.call) (touch_right first second reply.call)))
    (known_behind (length first.log) reply.at (operation_of second reply.call) (touch_of second reply.call))

-- ---- floors

-- a reply before the call by which more entries are known
abbrev pub KnowsMore : Recording → ℕ → ℕ → Type 0
KnowsMore trace call entries = (index : ℕ) × (reply : Response) × (index < call) × (reply_of trace index ≡ Some reply) × (entries < known_by trace reply)

pub floor_above : (trace : Recording) (call entries : ℕ) → KnowsMore trace call entries → entries < floor trace call
floor_above trace call entries (index, reply, lower, is, more) =
    let known = known_below_floor trace index call reply lower is in
    omega arith

max_of : (a n : ℕ) (xs : List ℕ) → n < fold max a xs → (n < a) ⊎ ((x : ℕ) × In x xs × (n < x))
max_of a n [] l = inl l
max_of a n (x ∷ xs) l = by_side (max_of (max a x) n xs l) where
  by_order : n < max a x → (n < a) ⊎ (a ≤ n) → (n < a) ⊎ ((y : ℕ) × In y (x ∷ xs) × (n < y))
  by_order m (inl h) = inl h
  by_order m (inr h) = inr (x, inl refl, omega arith)

  by_side : (n < max a x) ⊎ ((y : ℕ) × In y xs × (n < y)) → (n < a) ⊎ ((y : ℕ) × In y (x ∷ xs) × (n < y))
  by_side (inl m) = by_order m (cases_lt n a)
  by_side (inr (y, i, m)) = inr (y, inr i, m)

given_at : {X Y : Type 0} (h : X → Option Y) (xs : List X) (y : Y) → In y (filter_map h xs) → (i : ℕ) × (x : X) × (slice_get xs i ≡ Some x) × (h x ≡ Some y)
given_at h [] y i = absurd i
given_at {X} {Y} h (x ∷ xs) y i = by_first (λ j. given_at h xs y j) (h x) refl i where
  by_first : (In y (filter_map h xs) → (k : ℕ) × (z : X) × (slice_get xs k ≡ Some z) × (h z ≡ Some y)) → (o : Option Y) → h x ≡ o
      → In y (cons_option o (filter_map h xs)) → (k : ℕ) × (z : X) × (slice_get (x ∷ xs) k ≡ Some z) × (h z ≡ Some y)
  by_first more None e j = let (k, z, a, b) = more j in (suc k, z, a, b)
  by_first more (Some w) e (inl same) = (0, x, refl, e ∙ ap Some same)
  by_first more (Some w) e (inr j) = let (k, z, a, b) = more j in (suc k, z, a, b)

get_taken : {X : Type 0} (xs : List X) (n i : ℕ) (x : X) → slice_get (take n xs) i ≡ Some x → (i < n) × (slice_get xs i ≡ Some x)
get_taken [] zero i x e = absurd (none-some x e)
get_taken (y ∷ ys) (suc n) zero x e = (omega arith, e)
get_taken (y ∷ ys) (suc n) (suc i) x e = let (l, f) = get_taken ys n i x e in (omega arith, f)
get_taken _ _ i x e = absurd (none-some x e)

pub knows_more : (trace : Recording) (call entries : ℕ) → entries < floor trace call → KnowsMore trace call entries
knows_more trace call entries l = by_side (max_of 0 entries (map (known_by trace) (filter_map reply_in (take call trace.events))) l) where
  by_side : (entries < 0) ⊎ ((k : ℕ) × In k (map (known_by trace) (filter_map reply_in (take call trace.events))) × (entries < k))
      → KnowsMore trace call entries
  by_side (inl m) = absurd (omega arith)
  by_side (inr (k, i, m)) =
      let (reply, j, same) = in_map (known_by trace) (filter_map reply_in (take call trace.events)) k i in
      let (index, event, at, gives) = given_at reply_in (take call trace.events) reply j in
      let (lower, here) = get_taken trace.events call index event at in
      let is : reply_of trace index ≡ Some reply = ap (option_and_then reply_in) here ∙ gives in
      let more : entries < known_by trace reply = omega arith in
      (index, reply, lower, is, more)
