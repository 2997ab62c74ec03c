-- The calls that overlap another one.
use Rattle.std.proofs.Common.{◌≡◌, ◌↔◌, ℕ, ◌+◌, ◌-◌, ◌<◌, ◌≤◌, ◌^◌, ◌⊎◌, inl, inr, ◌&&◌, ◌||◌, Bool, true, false, cond, List, length}
use Rattle.std.proofs.Common.{get_or, Option, Some, None, IsTrue, refl, sym, ap, subst, ◌∙◌, arith}
use Rattle.std.specs.Prelude.{IsSomeAnd, count_by, max}
use Rattle.std.specs.List.{list_any}
use Rattle.std.proofs.lemmas.Bool.Decides.{Decides-and, Decides-ltb}
use Rattle.std.proofs.lemmas.Bool.{and_from, and_parts, cases_lt, false_from_ne_true}
use Rattle.std.proofs.lemmas.Bool.{or_cases, or_left, or_right}
use Rattle.nr_trace.specs.Recording.{Recording}
use Rattle.nr_trace.specs.Orders.{below}
use Rattle.nr_touch.specs.Beside.{is_over}
use Rattle.nr_touch.specs.Replies.{AreReplies}
use Rattle.nr_touch.proofs.Overs.{any_below, count_more, count_same, not_below, one_test, over_is}
use Rattle.nr_audit.specs.Meetings.{is_asked, is_open_at, meets, overlaps}
use Rattle.nr_audit.specs.inside.Meetings.{Asks, HasMet, IsCountedTo, IsReachOf}
use Rattle.nr_audit.specs.declared.histories.meetings.Latest.{Latest}

-- ---- calls that are open

module _ (trace : Recording) (replies : List ℕ) (are : AreReplies trace replies) where
  open_is : (first second : ℕ) → first < length replies → second < 2 ^ 32
      → (is_open_at trace first second ≡ true) ↔ ((first < second) × (second ≤ get_or replies first 0))
  open_is first second within fits =
      Decides-and _ _ (Decides-ltb first second) (not_below (get_or replies first 0) second _ (over_is trace replies are first second within fits))

  module _ (few : length trace.events < 2 ^ 32) where
    fits : (n : ℕ) → n < length trace.events → (n < length replies) × (n < 2 ^ 32)
    fits n low = let each = are.one_each in (omega (arith, each), omega (arith, few))

    abbrev MeetsLater : ℕ → Type 0
    MeetsLater call = (later : ℕ) × (call < later) × (later < length trace.events) × Asks trace later × (later ≤ get_or replies call 0)

    -- the call is answered
    abbrev IsOver : ℕ → Type 0
    IsOver call = get_or replies call 0 < length trace.events

    abbrev any : ℕ → Bool
    any call = list_any (overlaps trace call) (below (length trace.events))

    meets_so : (call : ℕ) → call < length trace.events → meets trace call ≡ true → IsOver call × (HasMet trace replies call ⊎ MeetsLater call)
    meets_so call within t =
        let parts = and_parts (is_asked trace call) (is_over trace call (length trace.events) && any call) t in
        let (over, some) = and_parts (is_over trace call (length trace.events)) (any call) parts.1 in
        let (other, low, with_it) = (any_below (overlaps trace call) (length trace.events)).0 some in
        let (asks, either) = and_parts (is_asked trace other) (is_open_at trace call other || is_open_at trace other call) with_it in (
          (over_is trace replies are call (length trace.events) (fits call within).0 few).0 over,
          (elim (or_cases (is_open_at trace call other) (is_open_at trace other call) either) [
            | inl later ↦ (let (less, more) = (open_is call other (fits call within).0 (fits other low).1).0 later in inr (other, less, low, asks, more))
            | inr earlier ↦ (let (less, more) = (open_is other call (fits other low).0 (fits call within).1).0 earlier in inl (other, less, asks, more))
          ]),
        )

    so_meets : (call : ℕ) → call < length trace.events → Asks trace call → IsOver call → HasMet trace replies call ⊎ MeetsLater call → meets trace call ≡ true
    so_meets call within own over either =
        and_from (is_asked trace call) (is_over trace call (length trace.events) && any call) own
        (and_from (is_over trace call (length trace.events)) (any call)
        ((over_is trace replies are call (length trace.events) (fits call within).0 few).1 over) (elim either [
          | inl met ↦ (let (other, less, asks, more) = met in
              let meets_it = and_from (is_asked trace other) _ asks (or_right (is_open_at trace call other) (is_open_at trace other call)
              ((open_is other call (fits other (omega arith)).0 (fits call within).1).1 (less, more))) in
              (any_below (overlaps trace call) (length trace.events)).1 (other, omega arith, meets_it))
          | inr later ↦ (let (other, less, low, asks, more) = later in
              let meets_it = and_from (is_asked trace other) _ asks (or_left (is_open_at trace call other) (is_open_at trace other call)
              ((open_is call other (fits call within).0 (fits other low).1).1 (less, more))) in
              (any_below (overlaps trace call) (length trace.events)).1 (other, low, meets_it))
        ]))

    -- a number that asks nothing doesn't meet another call
    silent : (call : ℕ) → (Asks trace call → ⊥) → meets trace call ≡ false
    silent call none = false_from_ne_true (meets trace call)
        (λ t. none (and_parts (is_asked trace call) (is_over trace call (length trace.events) && any call) t).0)

    skip : (first end : ℕ) → first ≤ end → ((n : ℕ) → first ≤ n → n < end → Asks trace n → ⊥)
        → count_by (meets trace) (below end) ≡ count_by (meets trace) (below first)
    skip first end low none =
        let whole : first + (end - first) ≡ end = omega arith in
        subst (λ (e : ℕ). count_by (meets trace) (below e) ≡ count_by (meets trace) (below first)) whole
        (count_same (meets trace) first (end - first) (λ n from to. silent n (none n from (omega arith))))

    -- how many there are up to the next call, or to the end of the events
    counted_to : (end : ℕ) (last : Option Latest) (count : ℕ) (b : Bool) → end ≤ length trace.events → IsCountedTo trace replies end last count
        → IsTrue b ↔ IsSomeAnd last (λ latest. IsOver latest.call × (IsTrue latest.has_met ⊎ MeetsLater latest.call))
        → count + cond b 1 0 ≡ count_by (meets trace) (below end)
    counted_to end None count b within is says =
        let none = skip 0 end (omega arith) (λ n from to asks. is.0 n to asks) in
        let no : b ≡ false = false_from_ne_true b (λ t. says.0 t) in
        let nothing : ◌≡◌ {A = ℕ} (cond b 1 0) 0 = ap (λ (x : Bool). cond {A = ℕ} x 1 0) no in
        let zero = is.1 in
        let empty : count_by (meets trace) (below 0) ≡ 0 = refl in
        omega (arith, none, nothing, zero, empty)
    counted_to end (Some latest) count b within is says =
        let low = is.0 in
        let rest = skip (latest.call + 1) end (omega arith) (λ n from to asks. is.3 n (omega arith) to asks) in
        let step = count_more (meets trace) latest.call in
        let before = is.5 in
        let same : ◌≡◌ {A = ℕ} (cond (meets trace latest.call) 1 0) (cond b 1 0) = ap (λ (x : Bool). cond {A = ℕ} x 1 0) (one_test (meets trace latest.call) b
        (λ t. let (over, either) = meets_so latest.call (omega arith) t in says.1 (
          over,
          elim either [
            | inl met ↦ inl (is.4.1 met)
            | inr later ↦ inr later
          ],
        ))
        (λ t. let (over, either) = says.0 t in so_meets latest.call (omega arith) is.2 over (elim either [
          | inl met ↦ inl (is.4.0 met)
          | inr later ↦ inr later
        ]))) in
        omega (arith, rest, step, before, same)

    -- the next call is made while the last one is open, if any later one is
    next_is_later : (end : ℕ) (latest : Latest) (count : ℕ) → end < length trace.events → Asks trace end
        → IsCountedTo trace replies end (Some latest) count → (end ≤ get_or replies latest.call 0) ↔ MeetsLater latest.call
    next_is_later end latest count within asks is = (
      (λ stays. (end, is.0, within, asks, stays)),
      (λ (other, less, low, too, stays). elim (cases_lt other end) [
        | inl earlier ↦ absurd (is.3 other less earlier too)
        | inr past ↦ omega arith
      ]),
    )

    -- no call is made behind the last one
    none_is_later : (latest : Latest) (count : ℕ) → IsCountedTo trace replies (length trace.events) (Some latest) count → IsOver latest.call
        → (length trace.events ≤ get_or replies latest.call 0) ↔ MeetsLater latest.call
    none_is_later latest count is over = (
      (λ stays. absurd (omega arith)),
      (λ (other, less, low, too, stays). absurd (is.3 other less low too)),
    )

    -- that the last call is still open as another is made, or at the end, says that it meets a later one
    widened : (end call : ℕ) (last : Option Latest) (count : ℕ) (b : Bool) → IsCountedTo trace replies end last count
        → ((latest : Latest) → last ≡ Some latest → IsOver latest.call → (call ≤ get_or replies latest.call 0) ↔ MeetsLater latest.call)
        → IsTrue b ↔ IsSomeAnd last (λ latest. (latest.reply < length trace.events) × (IsTrue latest.has_met ⊎ (call ≤ latest.reply)))
        → IsTrue b ↔ IsSomeAnd last (λ latest. IsOver latest.call × (IsTrue latest.has_met ⊎ MeetsLater latest.call))
    widened end call None count b is stays says = says
    widened end call (Some latest) count b is stays says = (there, back) where
      reads : latest.reply ≡ get_or replies latest.call 0
      reads = is.1

      there : IsTrue b → IsOver latest.call × (IsTrue latest.has_met ⊎ MeetsLater latest.call)
      there t =
          let (over, either) = says.0 t in
          let own = subst (λ (r : ℕ). r < length trace.events) reads over in (
            own,
            elim either [
              | inl met ↦ inl met
              | inr still ↦ inr ((stays latest refl own).0 (subst (λ (r : ℕ). call ≤ r) reads still))
            ],
          )

      back : IsOver latest.call × (IsTrue latest.has_met ⊎ MeetsLater latest.call) → IsTrue b
      back (own, either) = says.1 (
        subst (λ (r : ℕ). r < length trace.events) (sym reads) own,
        elim either [
          | inl met ↦ inl met
          | inr later ↦ inr (subst (λ (r : ℕ). call ≤ r) (sym reads) ((stays latest refl own).1 later))
        ],
      )

    -- a call more
    pub next_call : (end : ℕ) (last : Option Latest) (count new reach reply : ℕ) (has_met b : Bool) → end < length trace.events → Asks trace end
        → IsCountedTo trace replies end last count → IsReachOf trace replies end reach → IsTrue has_met ↔ (end < reach)
        → IsTrue b ↔ IsSomeAnd last (λ latest. (latest.reply < length trace.events) × (IsTrue latest.has_met ⊎ (end ≤ latest.reply)))
        → new ≡ count + cond b 1 0 → reply ≡ get_or replies end 0
        → IsCountedTo trace replies (end + 1) (Some (record { call = end; reply = reply; has_met = has_met })) new
    next_call end last count new reach reply has_met b within asks is reaches met says sum reads = (
      omega arith,
      reads,
      asks,
      (λ call low high. absurd (omega arith)),
      (there, back),
      sum ∙ counted_to end last count b (omega arith) is (widened end end last count b is
          (λ latest same over. next_is_later end latest count within asks (subst (λ (l : Option Latest). IsCountedTo trace replies end l count) same is)) says),
    ) where
      there : IsTrue has_met → HasMet trace replies end
      there t = elim reaches.met [
        | inl none ↦ (let more = met.0 t in absurd (omega arith))
        | inr it ↦ (let (call, low, asks, at) = it in let more = met.0 t in (call, low, asks, omega arith))
      ]

      back : HasMet trace replies end → IsTrue has_met
      back (call, low, asks, stays) = met.1 (let less = reaches.all call low asks in omega arith)

    -- no call
    pub no_call : (end : ℕ) (last : Option Latest) (count : ℕ) → (Asks trace end → ⊥) → IsCountedTo trace replies end last count
        → IsCountedTo trace replies (end + 1) last count
    no_call end None count none is = (
      (λ call low asks. elim (cases_lt call end) [
        | inl lt ↦ is.0 call lt asks
        | inr here ↦ none (subst (Asks trace) (omega arith) asks)
      ]),
      is.1,
    )
    no_call end (Some latest) count none is = (
      (let low = is.0 in omega arith),
      is.1,
      is.2,
      (λ call low high asks. elim (cases_lt call end) [
        | inl lt ↦ is.3 call low lt asks
        | inr here ↦ none (subst (Asks trace) (omega arith) asks)
      ]),
      is.4,
      is.5,
    )

    -- all of them
    pub all_counted : (last : Option Latest) (count new : ℕ) (b : Bool) → IsCountedTo trace replies (length trace.events) last count
        → IsTrue b ↔ IsSomeAnd last (λ latest. (latest.reply < length trace.events) × (IsTrue latest.has_met ⊎ (length trace.events ≤ latest.reply)))
        → new ≡ count + cond b 1 0 → new ≡ count_by (meets trace) (below (length trace.events))
    all_counted last count new b is says sum =
        sum ∙ counted_to (length trace.events) last count b (omega arith) is
        (widened (length trace.events) (length trace.events) last count b is
        (λ latest same over. none_is_later latest count (subst (λ (l : Option Latest). IsCountedTo trace replies (length trace.events) l count) same is) over)
        says)

-- ---- how far replies reach

module _ (trace : Recording) (replies : List ℕ) where
  pub reach_stays : (end reach : ℕ) → (Asks trace end → ⊥) → IsReachOf trace replies end reach → IsReachOf trace replies (end + 1) reach
  reach_stays end reach none is = record {
    all = λ call low asks. elim (cases_lt call end) [
      | inl lt ↦ is.all call lt asks
      | inr here ↦ absurd (none (subst (Asks trace) (omega arith) asks))
    ];
    met = elim is.met [
      | inl none ↦ inl none
      | inr it ↦ (let (call, low, asks, at) = it in inr (call, omega arith, asks, at))
    ];
  }

  pub reach_grows : (end reach new : ℕ) → Asks trace end → new ≡ max reach (get_or replies end 0 + 1) → IsReachOf trace replies end reach
      → IsReachOf trace replies (end + 1) new
  reach_grows end reach new asks sum is = record {
    all = λ call low own. elim (cases_lt call end) [
      | inl lt ↦ (let less = is.all call lt own in omega (arith, sum))
      | inr here ↦ (let same : call ≡ end = omega arith in let equal = ap (λ k. get_or replies k 0) same in omega (arith, sum, equal))
    ];
    met = elim (cases_lt reach (get_or replies end 0 + 1)) [
      | inl longer ↦ inr (end, omega arith, asks, omega (arith, sum))
      | inr shorter ↦ elim is.met [
        | inl none ↦ inl (omega (arith, sum))
        | inr it ↦ (let (call, low, own, at) = it in inr (call, omega arith, own, omega (arith, sum)))
      ]
    ];
  }
