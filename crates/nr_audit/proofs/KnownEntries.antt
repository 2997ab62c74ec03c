-- How many entries a replica is known to have applied, by the greatest number that is kept of each.
use Rattle.std.proofs.Common.{◌≡◌, ◌==◌, ℕ, zero, suc, ◌+◌, ◌<◌, ◌≤◌, ◌⊎◌, inl, inr, Bool, max, List, [], ◌∷◌, take, map, fold, get_or, slice_get}
use Rattle.std.proofs.Common.{Option, Some, None, option_and_then, option_map, if◌then◌else◌, refl, sym, ap, ◌∙◌, subst, eq-eqb, ne_eqb, arith}
use Rattle.std.specs.Prelude.{filter_map, IfSome}
use Rattle.std.specs.List.{cons_option}
use Rattle.std.specs.Option.{option_map_or}
use Rattle.std.proofs.lemmas.Bool.{cases_eq, cases_lt}
use Rattle.std.proofs.lemmas.Option.{none-some, same_Some}
use Rattle.nr_trace.specs.Recording.{Recording}
use Rattle.nr_trace.specs.declared.recordings.event.Asked.{Asked}
use Rattle.nr_trace.specs.Calls.{Invocation, call_of, unordered_in, touch_of, Response, reply_in, reply_of}
use Rattle.nr_trace.specs.Orders.{known_by}
use Rattle.nr_trace.proofs.LawsOfCalls.{reply_in_event}
use Rattle.nr_trace.proofs.LawsOfLists.{In, in_map, in_mapped}
use Rattle.nr_trace.proofs.LawsOfPrecedence.{in_taken}
use Rattle.nr_audit.specs.Touches.{known_at, known_to, known_when}
use Rattle.nr_audit.specs.inside.LastEvents.{call_at}
use Rattle.nr_audit.specs.inside.Prefixes.{AreNeeds, IsReplyAt, with_known}
use Rattle.nr_audit.proofs.NeededEntries.{needs_after_reply, needs_stay, no_reply_at}

-- ---- the greatest of some numbers

at_least : (a : ℕ) (xs : List ℕ) → a ≤ fold max a xs
at_least a [] = omega arith
at_least a (x ∷ xs) = let more = at_least (max a x) xs in omega (arith, more)

in_greatest : (a n : ℕ) (xs : List ℕ) → In n xs → n ≤ fold max a xs
in_greatest a n [] i = absurd i
in_greatest a n (x ∷ xs) (inl same) = let more = at_least (max a x) xs in omega (arith, same, more)
in_greatest a n (x ∷ xs) (inr later) = in_greatest (max a x) n xs later

greatest_of : (a n : ℕ) (xs : List ℕ) → n < fold max a xs → (n < a) ⊎ ((x : ℕ) × In x xs × (n < x))
greatest_of a n [] l = inl l
greatest_of a n (x ∷ xs) l = by_side (greatest_of (max a x) n xs l) where
  by_order : n < max a x → (n < a) ⊎ (a ≤ n) → (n < a) ⊎ ((y : ℕ) × In y (x ∷ xs) × (n < y))
  by_order m (inl h) = inl h
  by_order m (inr h) = inr (x, inl refl, omega (arith, m, h))

  by_side : (n < max a x) ⊎ ((y : ℕ) × In y xs × (n < y)) → (n < a) ⊎ ((y : ℕ) × In y (x ∷ xs) × (n < y))
  by_side (inl m) = by_order m (cases_lt n a)
  by_side (inr (y, i, m)) = inr (y, inr i, m)

-- ---- elements

in_given : {X Y : Type 0} (h : X → Option Y) (xs : List X) (x : X) (y : Y) → In x xs → h x ≡ Some y → In y (filter_map h xs)
in_given h [] x y i e = absurd i
in_given {X} {Y} h (z ∷ zs) x y (inl same) e =
    subst (λ (o : Option Y). In y (cons_option o (filter_map h zs))) (sym (ap h same ∙ e)) (inl refl)
in_given {X} {Y} h (z ∷ zs) x y (inr later) e = behind (h z) (in_given h zs x y later e) where
  behind : (o : Option Y) → In y (filter_map h zs) → In y (cons_option o (filter_map h zs))
  behind None i = i
  behind (Some w) i = inr i

given_at : {X Y : Type 0} (h : X → Option Y) (xs : List X) (y : Y) → In y (filter_map h xs) → (i : ℕ) × (x : X) × (slice_get xs i ≡ Some x) × (h x ≡ Some y)
given_at h [] y i = absurd i
given_at {X} {Y} h (x ∷ xs) y i = by_first (λ j. given_at h xs y j) (h x) refl i where
  by_first : (In y (filter_map h xs) → (k : ℕ) × (z : X) × (slice_get xs k ≡ Some z) × (h z ≡ Some y)) → (o : Option Y) → h x ≡ o
      → In y (cons_option o (filter_map h xs)) → (k : ℕ) × (z : X) × (slice_get (x ∷ xs) k ≡ Some z) × (h z ≡ Some y)
  by_first more None e j = let (k, z, a, b) = more j in (suc k, z, a, b)
  by_first more (Some w) e (inl same) = (0, x, refl, e ∙ ap Some same)
  by_first more (Some w) e (inr j) = let (k, z, a, b) = more j in (suc k, z, a, b)

get_taken : {X : Type 0} (xs : List X) (n i : ℕ) (x : X) → slice_get (take n xs) i ≡ Some x → (i < n) × (slice_get xs i ≡ Some x)
get_taken [] zero i x e = absurd (none-some x e)
get_taken (y ∷ ys) (suc n) zero x e = (omega arith, e)
get_taken (y ∷ ys) (suc n) (suc i) x e = let (l, f) = get_taken ys n i x e in (omega (arith, l), f)
get_taken _ _ i x e = absurd (none-some x e)

-- ---- what a reply shows

abbrev shown_by : ℕ → ℕ → Option Invocation → ℕ
shown_by replica known made = option_map_or (λ (m : Invocation). if m.replica == replica then known else 0) made 0

shown_here : (replica known : ℕ) (made : Option Invocation) (own : Invocation) → made ≡ Some own → own.replica ≡ replica → shown_by replica known made ≡ known
shown_here replica known made own is here =
    ap (shown_by replica known) is ∙ ap (λ (b : Bool). if b then known else 0) (eq-eqb own.replica replica here)

shown_of : (n replica known : ℕ) (made : Option Invocation) → n < shown_by replica known made
    → (own : Invocation) × (made ≡ Some own) × (own.replica ≡ replica) × (n < known)
shown_of n replica known None l = absurd (omega (arith, l))
shown_of n replica known (Some own) l = by_replica (cases_eq own.replica replica) where
  by_replica : (own.replica ≡ replica) ⊎ (own.replica ≡ replica → ⊥) → (it : Invocation) × (Some own ≡ Some it) × (it.replica ≡ replica) × (n < known)
  by_replica (inl here) = (own, refl, here, subst (λ (b : Bool). n < (if b then known else 0)) (eq-eqb own.replica replica here) l)
  by_replica (inr apart) =
      absurd (let low = subst (λ (b : Bool). n < (if b then known else 0)) (ne_eqb own.replica replica apart) l in omega (arith, low))

pub known_below : (segment : Recording) (event replica index : ℕ) (reply : Response) → IsReplyAt segment event replica index reply
    → known_by segment reply ≤ known_at segment replica event
known_below segment event replica index reply at =
    let (own, there, is) = reply_in_event (slice_get segment.events index) reply at.is_reply in
    let most = in_greatest 0 (known_to segment replica reply) (map (known_to segment replica) (filter_map reply_in (take event segment.events)))
    (in_mapped (known_to segment replica) (filter_map reply_in (take event segment.events)) reply
    (in_given reply_in (take event segment.events) own reply (in_taken segment.events index event own at.below there) is)) in
    let same = shown_here replica (known_by segment reply) (call_of segment reply.call) at.made at.is_made at.here in
    omega (arith, most, same)

abbrev pub KnowsAt : Recording → ℕ → ℕ → ℕ → Type 0
KnowsAt segment event replica n = (index : ℕ) × (reply : Response) × IsReplyAt segment event replica index reply × (n < known_by segment reply)

pub knows_at : (segment : Recording) (event replica n : ℕ) → n < known_at segment replica event → KnowsAt segment event replica n
knows_at segment event replica n l =
    by_side (greatest_of 0 n (map (known_to segment replica) (filter_map reply_in (take event segment.events))) l) where
      by_side : (n < 0) ⊎ ((k : ℕ) × In k (map (known_to segment replica) (filter_map reply_in (take event segment.events))) × (n < k))
          → KnowsAt segment event replica n
      by_side (inl m) = absurd (omega (arith, m))
      by_side (inr (k, i, m)) =
          let (reply, j, same) = in_map (known_to segment replica) (filter_map reply_in (take event segment.events)) k i in
          let (index, own, at, gives) = given_at reply_in (take event segment.events) reply j in
          let (lower, here) = get_taken segment.events event index own at in
          let is : reply_of segment index ≡ Some reply = ap (option_and_then reply_in) here ∙ gives in
          let (made, is_made, there, more) = shown_of n replica (known_by segment reply) (call_of segment reply.call) (omega (arith, m, same)) in
          (index, reply, record { below = lower; is_reply = is; made = made; is_made = is_made; here = there }, more)

-- the greatest number that is kept of a replica is what it is known to have applied
pub known_is : (segment : Recording) (event : ℕ) (needs : List ℕ) → AreNeeds segment event needs → (replica : ℕ)
    → get_or needs replica 0 ≡ known_at segment replica event
known_is segment event needs are replica = both up down where
  both : {a b : ℕ} → a ≤ b → b ≤ a → a ≡ b
  both l m = omega (arith, l, m)

  up : get_or needs replica 0 ≤ known_at segment replica event
  up = elim (cases_lt 0 (get_or needs replica 0)) [
    | inl some ↦
        let known = are.reached replica some in
        let below = known_below segment event replica known.index known.reply known.at in
        let just = known.just in
        omega (arith, below, just)
    | inr none ↦ omega (arith, none)
  ]

  down : known_at segment replica event ≤ get_or needs replica 0
  down = elim (cases_lt (get_or needs replica 0) (known_at segment replica event)) [
    | inl more ↦
        let (index, reply, at, l) = knows_at segment event replica (get_or needs replica 0) more in
        let most = are.most replica index reply at in
        absurd (omega (arith, most, l))
    | inr fine ↦ fine
  ]

-- ---- of a call

-- the call of a touch
pub made_of : (trace : Recording) (call : ℕ) (asked : Asked) → touch_of trace call ≡ Some asked → (made : Invocation) × (call_of trace call ≡ Some made)
made_of trace call asked asks = by (call_of trace call) refl where
  by : (made : Option Invocation) → call_of trace call ≡ made → (own : Invocation) × (call_of trace call ≡ Some own)
  by None is =
      absurd (none-some asked (
      sym (ap (option_and_then (λ (own : Invocation). unordered_in own.asked)) is) ∙ asks))
  by (Some made) is = (made, is)

pub known_when_at : (segment : Recording) (call replica : ℕ) → option_map (λ (made : Invocation). made.replica) (call_of segment call) ≡ Some replica
    → known_when segment call ≡ known_at segment replica call
known_when_at segment call replica e = by (call_of segment call) e where
  by : (made : Option Invocation) → option_map (λ (m : Invocation). m.replica) made ≡ Some replica
      → option_map_or (λ (m : Invocation). known_at segment m.replica call) made 0 ≡ known_at segment replica call
  by None e = absurd (none-some replica e)
  by (Some made) e = ap (λ (r : ℕ). known_at segment r call) (same_Some made.replica replica e)

pub known_when_none : (segment : Recording) (call : ℕ) → option_map (λ (made : Invocation). made.replica) (call_of segment call) ≡ None
    → known_when segment call ≡ 0
known_when_none segment call e = by (call_of segment call) e where
  by : (made : Option Invocation) → option_map (λ (m : Invocation). m.replica) made ≡ None
      → option_map_or (λ (m : Invocation). known_at segment m.replica call) made 0 ≡ 0
  by None e = refl
  by (Some made) e = absurd (none-some made.replica (sym e))

-- ---- past an event

-- the event is a reply, by its position
reply_at : (segment : Recording) (event at : ℕ) → option_map (λ (reply : Response). reply.at) (reply_of segment event) ≡ Some at
    → (reply : Response) × (reply_of segment event ≡ Some reply) × (reply.at ≡ at)
reply_at segment event at e = by (reply_of segment event) refl e where
  by : (o : Option Response) → reply_of segment event ≡ o → option_map (λ (reply : Response). reply.at) o ≡ Some at
      → (reply : Response) × (reply_of segment event ≡ Some reply) × (reply.at ≡ at)
  by None is e = absurd (none-some at e)
  by (Some reply) is e = (reply, is, same_Some reply.at at e)

pub past_reply : (segment : Recording) (event at call known : ℕ) (old new : List ℕ)
    → option_map (λ (reply : Response). reply.at) (reply_of segment event) ≡ Some at → call ≡ call_at segment event
    → ((reply : Response) → reply.call ≡ call → reply.at ≡ at → known ≡ known_by segment reply)
    → IfSome (call_of segment call) (λ (made : Invocation). made.replica < 4) → new ≡ with_known old (call_of segment call) known
    → AreNeeds segment event old → AreNeeds segment (event + 1) new
past_reply segment event at call known old new e of_call shows within raised are =
    let (reply, is, there) = reply_at segment event at e in
    let names : reply.call ≡ call = sym (of_call ∙ ap (λ (o : Option Response). option_map_or (λ (r : Response). r.call) o event) is) in
    let same : with_known old (call_of segment reply.call) (known_by segment reply) ≡ new =
    ap (λ (c : ℕ). with_known old (call_of segment c) (known_by segment reply)) names
    ∙ ap (with_known old (call_of segment call)) (sym (shows reply names there)) ∙ sym raised in
    subst (AreNeeds segment (event + 1)) same
    (needs_after_reply segment event old reply is
    (subst (λ (c : ℕ). IfSome (call_of segment c) (λ (made : Invocation). made.replica < 4)) (sym names) within) are)

pub past_other : (segment : Recording) (event : ℕ) (needs : List ℕ) → option_map (λ (reply : Response). reply.at) (reply_of segment event) ≡ None
    → AreNeeds segment event needs → AreNeeds segment (event + 1) needs
past_other segment event needs e are =
    needs_stay segment event needs (λ replica reply. no_reply_at segment event replica reply (by (reply_of segment event) e)) are where
      by : (o : Option Response) → option_map (λ (reply : Response). reply.at) o ≡ None → o ≡ None
      by None e = refl
      by (Some reply) e = absurd (none-some reply.at (sym e))
