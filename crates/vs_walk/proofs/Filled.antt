-- The words of a frame of which those that are not 0 are kept.
use Rattle.std.proofs.Common.{◌≡◌, ℕ, zero, suc, ◌+◌, ◌-◌, ◌^◌, ◌<◌, ◌≤◌, ◌≢◌, List, [], ◌∷◌, ◌++◌, Result, Ok, Err, length, get_or, refl, inl, inr, sym, ap, subst, ◌∙◌}
use Rattle.std.proofs.Common.{arith, append_assoc}
use Rattle.std.specs.Prelude.{All, MatchResult, replicate}
use Rattle.std.specs.Ordering.{nat_cmp, is_lt}
use Rattle.std.specs.Cmp.{nat_cmp_total, nat_cmp_is, ranked}
use Rattle.std.specs.List.Sorted.{IsBinarySearchResult, IsSearchInRange}
use Rattle.std.specs.declared.cmp.Ordering.TheVariants.{Less, Equal, Greater}
use Rattle.std.proofs.lemmas.List.{length-append, length-replicate, append-nil, replicate_more, get_or_append_left, get_or-append_right, get_or_past}
use Rattle.std.proofs.lemmas.List.Elements.{All-nil, All-cons, All-head, All-tail, All-push, All-append, All-replicate, All-get_or}
use Rattle.std.proofs.lemmas.List.Sorted.{searchable_from_sorted}
use Rattle.std.proofs.lemmas.Bool.{cases_lt}
use Rattle.vs_types.specs.declared.addresses.frame.TheConstants.{FRAME_WORDS}
use Rattle.vs_types.specs.Frame.{IsFrame}
use Rattle.vs_walk.specs.inside.Borrowed.{IsFrom, IsNext}
use Rattle.vs_walk.specs.inside.Kept.{IsKept, Rise, filled, place_of, nonzero_of}
use Rattle.vs_walk.specs.inside.Traversed.{AreZeros}

-- ---- places that rise

pub rise_short : (from : ℕ) (ps : List ℕ) (to : ℕ) → Rise from ps to → from + length ps ≤ to
rise_short from [] to rise = omega (arith, rise)
rise_short from (p ∷ ps) to rise = omega (arith, rise.0, rise_short (p + 1) ps to rise.1)

rise_further : (from : ℕ) (ps : List ℕ) (to further : ℕ) → to ≤ further → Rise from ps to → Rise from ps further
rise_further from [] to further up rise = omega (arith, rise, up)
rise_further from (p ∷ ps) to further up rise = (rise.0, rise_further (p + 1) ps to further up rise.1)

rise_push : (from : ℕ) (ps : List ℕ) (to : ℕ) → Rise from ps to → Rise from (ps ++ to ∷ []) (to + 1)
rise_push from [] to rise = (rise, omega arith)
rise_push from (p ∷ ps) to rise = (rise.0, rise_push (p + 1) ps to rise.1)

at_least : (from : ℕ) (ps : List ℕ) (to k d : ℕ) → Rise from ps to → k < length ps → from ≤ get_or ps k d
at_least from (p ∷ ps) to zero d rise lt = rise.0
at_least from (p ∷ ps) to (suc k) d rise lt = omega (arith, rise.0, at_least (p + 1) ps to k d rise.1 (omega arith))
at_least from [] to k d rise lt = absurd (omega arith)

pub below : (from : ℕ) (ps : List ℕ) (to k d : ℕ) → Rise from ps to → k < length ps → get_or ps k d < to
below from (p ∷ ps) to zero d rise lt = omega (arith, rise_short (p + 1) ps to rise.1)
below from (p ∷ ps) to (suc k) d rise lt = below (p + 1) ps to k d rise.1 (omega arith)
below from [] to k d rise lt = absurd (omega arith)

pub rises : (from : ℕ) (ps : List ℕ) (to i j d : ℕ) → Rise from ps to → i < j → j < length ps → get_or ps i d < get_or ps j d
rises from (p ∷ ps) to zero (suc j) d rise less lt = omega (arith, at_least (p + 1) ps to j d rise.1 (omega arith))
rises from (p ∷ ps) to (suc i) (suc j) d rise less lt = rises (p + 1) ps to i j d rise.1 (omega arith) (omega arith)
rises from _ to i j d rise less lt = absurd (omega arith)

-- ---- the words at these places

pub length_filled : (from : ℕ) (ps ws : List ℕ) (to : ℕ) → length ps ≡ length ws → Rise from ps to → length (filled from ps ws to) ≡ to - from
length_filled from [] ws to as_many rise = length-replicate {A = ℕ} (to - from) 0
length_filled from (p ∷ ps) (w ∷ ws) to as_many rise =
    let rest = length_filled (p + 1) ps ws to (omega arith) rise.1 in
    let short = rise_short (p + 1) ps to rise.1 in
    omega (arith, rise.0, rest, short, length-append (replicate (p - from) 0) (w ∷ filled (p + 1) ps ws to), length-replicate {A = ℕ} (p - from) 0)
length_filled from (p ∷ ps) [] to as_many rise = absurd (omega arith)

zero_comes : (from : ℕ) (ps ws : List ℕ) (to : ℕ) → length ps ≡ length ws → Rise from ps to → filled from ps ws (to + 1) ≡ filled from ps ws to ++ 0 ∷ []
zero_comes from [] ws to as_many rise =
    ap (λ n. replicate n 0) (omega (arith, rise)) ∙ sym (replicate_more (to - from) 0)
zero_comes from (p ∷ ps) (w ∷ ws) to as_many rise =
    ap (λ l. replicate (p - from) 0 ++ (w ∷ l)) (zero_comes (p + 1) ps ws to (omega arith) rise.1)
    ∙ sym (append_assoc (replicate (p - from) 0) (w ∷ filled (p + 1) ps ws to) (0 ∷ []))
zero_comes from (p ∷ ps) [] to as_many rise = absurd (omega arith)

word_comes : (from : ℕ) (ps ws : List ℕ) (to w : ℕ) → length ps ≡ length ws
    → filled from (ps ++ to ∷ []) (ws ++ w ∷ []) (to + 1) ≡ filled from ps ws to ++ w ∷ []
word_comes from [] [] to w as_many =
    let none : to + 1 - (to + 1) ≡ 0 = omega arith in
    ap (λ n. replicate (to - from) 0 ++ (w ∷ replicate n 0)) none
word_comes from (p ∷ ps) (v ∷ ws) to w as_many =
    ap (λ l. replicate (p - from) 0 ++ (v ∷ l)) (word_comes (p + 1) ps ws to w (omega arith))
    ∙ sym (append_assoc (replicate (p - from) 0) (v ∷ filled (p + 1) ps ws to) (w ∷ []))
word_comes from _ _ to w as_many = absurd (omega arith)

-- one word more of a frame
pub filled_more : (ps ws : List ℕ) (come w : ℕ) → IsKept ps ws come
    → filled 0 (ps ++ place_of come w) (ws ++ nonzero_of w) (come + 1) ≡ filled 0 ps ws come ++ w ∷ []
filled_more ps ws come zero is =
    ap (λ l. filled 0 l (ws ++ []) (come + 1)) (append-nil ps) ∙ ap (λ l. filled 0 ps l (come + 1)) (append-nil ws)
    ∙ zero_comes 0 ps ws come is.as_many is.rise
filled_more ps ws come (suc w) is = word_comes 0 ps ws come (suc w) is.as_many

pub kept_more : (ps ws : List ℕ) (come w : ℕ) → IsKept ps ws come → w < 2 ^ 64 → IsKept (ps ++ place_of come w) (ws ++ nonzero_of w) (come + 1)
kept_more ps ws come zero is fits =
    subst (λ l. IsKept l (ws ++ []) (come + 1)) (sym (append-nil ps)) (subst (λ l. IsKept ps l (come + 1)) (sym (append-nil ws)) record {
      as_many = is.as_many;
      rise = rise_further 0 ps come (come + 1) (omega arith) is.rise;
      nonzero = is.nonzero;
      fit = is.fit;
    })
kept_more ps ws come (suc w) is fits = record {
  as_many = omega (arith, is.as_many, length-append ps (come ∷ []), length-append ws (suc w ∷ []));
  rise = rise_push 0 ps come is.rise;
  nonzero = All-push (λ v. 0 < v) ws (suc w) is.nonzero (omega arith);
  fit = All-push (λ v. v < 2 ^ 64) ws (suc w) is.fit fits;
}

pub kept_none : IsKept [] [] 0
kept_none = record { as_many = refl; rise = omega arith; nonzero = All-nil (λ v. 0 < v); fit = All-nil (λ v. v < 2 ^ 64) }

All_filled : (P : ℕ → Type 0) (from : ℕ) (ps ws : List ℕ) (to : ℕ) → P 0 → All P ws → All P (filled from ps ws to)
All_filled P from [] ws to none all = All-replicate P (to - from) 0 none
All_filled P from (p ∷ ps) [] to none all = All-replicate P (to - from) 0 none
All_filled P from (p ∷ ps) (w ∷ ws) to none all =
    All-append P (replicate (p - from) 0) (w ∷ filled (p + 1) ps ws to) (All-replicate P (p - from) 0 none)
    (All-cons P w (filled (p + 1) ps ws to) (All-head P w ws all) (All_filled P (p + 1) ps ws to none (All-tail P w ws all)))

pub length_kept : (ps ws : List ℕ) (come : ℕ) → IsKept ps ws come → length (filled 0 ps ws come) ≡ come
length_kept ps ws come is = length_filled 0 ps ws come is.as_many is.rise ∙ (let all : come - 0 ≡ come = omega arith in all)

pub is_frame : (ps ws : List ℕ) → IsKept ps ws FRAME_WORDS → IsFrame (filled 0 ps ws FRAME_WORDS)
is_frame ps ws is = record {
  whole = length_kept ps ws FRAME_WORDS is;
  fit = All_filled (λ w. w < 2 ^ 64) 0 ps ws FRAME_WORDS (omega arith) is.fit;
}

-- ---- the word at an index

zero_at : (n i : ℕ) → ◌≡◌ {A = ℕ} (get_or (replicate n 0) i 0) 0
zero_at (suc n) (suc i) = zero_at n i
zero_at _ _ = refl

-- behind the zeros and the first word
behind : (from p w : ℕ) (rest : List ℕ) (i : ℕ) → from ≤ p → p + 1 ≤ i → get_or (replicate (p - from) 0 ++ (w ∷ rest)) (i - from) 0
    ≡ get_or rest (i - (p + 1)) 0
behind from p w rest i low high =
    let next : i - from - (p - from) ≡ suc (i - (p + 1)) = omega (arith, low, high) in
    get_or-append_right (replicate (p - from) 0) (w ∷ rest) (p - from) (i - from) 0 (length-replicate {A = ℕ} (p - from) 0) (omega (arith, low, high))
    ∙ ap (λ n. get_or (w ∷ rest) n 0) next

kept_at : (from : ℕ) (ps ws : List ℕ) (to k : ℕ) → length ps ≡ length ws → Rise from ps to → k < length ps
    → get_or (filled from ps ws to) (get_or ps k 0 - from) 0 ≡ get_or ws k 0
kept_at from (p ∷ ps) (w ∷ ws) to zero as_many rise lt =
    let here : p - from - (p - from) ≡ 0 = omega arith in
    get_or-append_right (replicate (p - from) 0) (w ∷ filled (p + 1) ps ws to) (p - from) (p - from) 0
    (length-replicate {A = ℕ} (p - from) 0) (omega arith)
    ∙ ap (λ n. get_or (w ∷ filled (p + 1) ps ws to) n 0) here
kept_at from (p ∷ ps) (w ∷ ws) to (suc k) as_many rise lt =
    behind from p w (filled (p + 1) ps ws to) (get_or ps k 0) rise.0 (at_least (p + 1) ps to k 0 rise.1 (omega arith))
    ∙ kept_at (p + 1) ps ws to k (omega arith) rise.1 (omega arith)
kept_at from _ _ to k as_many rise lt = absurd (omega arith)

zero_elsewhere : (from : ℕ) (ps ws : List ℕ) (to i : ℕ) → length ps ≡ length ws → Rise from ps to → from ≤ i
    → ((k : ℕ) → k < length ps → get_or ps k 0 ≢ i) → get_or (filled from ps ws to) (i - from) 0 ≡ 0
zero_elsewhere from [] ws to i as_many rise low other = zero_at (to - from) (i - from)
zero_elsewhere from (p ∷ ps) (w ∷ ws) to i as_many rise low other = elim (cases_lt i p) [
  | inl less ↦
      get_or_append_left (replicate (p - from) 0) (w ∷ filled (p + 1) ps ws to) 0 (i - from)
      (omega (arith, less, low, rise.0, length-replicate {A = ℕ} (p - from) 0))
      ∙ zero_at (p - from) (i - from)
  | inr more ↦
      let above : p + 1 ≤ i = let ne = other 0 (omega arith) in omega (arith, more, ne) in
      behind from p w (filled (p + 1) ps ws to) i rise.0 above
      ∙ zero_elsewhere (p + 1) ps ws to i (omega arith) rise.1 above (λ k lt. other (suc k) (omega arith))
]
zero_elsewhere from (p ∷ ps) [] to i as_many rise low other = absurd (omega arith)

-- a word that is kept
pub word_at : (ps ws : List ℕ) (to k : ℕ) → IsKept ps ws to → k < length ps → get_or (filled 0 ps ws to) (get_or ps k 0) 0 ≡ get_or ws k 0
word_at ps ws to k is lt =
    let here : get_or ps k 0 ≡ get_or ps k 0 - 0 = omega arith in
    ap (λ n. get_or (filled 0 ps ws to) n 0) here ∙ kept_at 0 ps ws to k is.as_many is.rise lt

-- another one
pub no_word_at : (ps ws : List ℕ) (to i : ℕ) → IsKept ps ws to → ((k : ℕ) → k < length ps → get_or ps k 0 ≢ i) → get_or (filled 0 ps ws to) i 0 ≡ 0
no_word_at ps ws to i is other =
    let here : i ≡ i - 0 = omega arith in
    ap (λ n. get_or (filled 0 ps ws to) n 0) here ∙ zero_elsewhere 0 ps ws to i is.as_many is.rise (omega arith) other

-- ---- where a search ends

-- places that rise, from one of them on
from_place : (ps : List ℕ) (to start at : ℕ) → Rise 0 ps to → start ≤ get_or ps at 0 → (k : ℕ) → at ≤ k → k < length ps → start ≤ get_or ps k 0
from_place ps to start at rise up k more lt = elim (cases_lt at k) [
  | inl less ↦ omega (arith, up, rises 0 ps to at k 0 rise less lt)
  | inr other ↦ let same : at ≡ k = omega (arith, more, other) in omega (arith, up, ap (λ n. get_or ps n 0) same)
]

pub guessed_place : (ps : List ℕ) (to start at : ℕ) → Rise 0 ps to → 0 < at → at < length ps → get_or ps (at - 1) 0 < start → start ≤ get_or ps at 0
    → IsFrom ps start at
guessed_place ps to start at rise some lt under over = record {
  within = omega (arith, lt);
  below = λ k less. elim (cases_lt k (at - 1)) [
    | inl low ↦ omega (arith, under, rises 0 ps to k (at - 1) 0 rise low (omega (arith, lt)))
    | inr high ↦ let same : k ≡ at - 1 = omega (arith, less, high) in omega (arith, under, ap (λ n. get_or ps n 0) same)
  ];
  from = from_place ps to start at rise over;
}

pub searched_place : (ps : List ℕ) (to start : ℕ) (r : Result ℕ ℕ) → Rise 0 ps to → IsSearchInRange r (length ps)
    → IsBinarySearchResult (λ p. nat_cmp p start) ps r → MatchResult r (IsFrom ps start) (IsFrom ps start)
searched_place ps to start (Ok at) rise bound is =
    let here : get_or ps at 0 ≡ start = ranked _ _ Equal (sym (is 0)) in
    record {
      within = omega (arith, bound);
      below = λ k less. omega (arith, rises 0 ps to k at 0 rise less bound, here);
      from = from_place ps to start at rise (omega (arith, here));
    }
searched_place ps to start (Err at) rise bound is =
    let parts = is (searchable_from_sorted nat_cmp_total (λ n. n) ps start (λ k d low lt.
    let up : get_or ps k d < get_or ps (k + 1) d = rises 0 ps to k (k + 1) d rise (omega arith) lt in
    ap is_lt (sym (nat_cmp_is (get_or ps (k + 1) d) (get_or ps k d) Greater up)))) in
    record {
      within = bound;
      below = λ k less. ranked (get_or ps k 0) start Less (sym (parts.0 k 0 (omega arith) less));
      from = λ k more lt. let over : start < get_or ps k 0 = ranked (get_or ps k 0) start Greater (sym (parts.1 k 0 more lt)) in omega (arith, over);
    }

-- no place is the index where the one found isn't
other_places : (ps : List ℕ) (to i at : ℕ) → Rise 0 ps to → IsFrom ps i at → (at < length ps → get_or ps at 0 ≢ i)
    → (k : ℕ) → k < length ps → get_or ps k 0 ≢ i
other_places ps to i at rise is other k lt = elim (cases_lt k at) [
  | inl low ↦ λ same. let under = is.below k low in omega (arith, under, same)
  | inr high ↦ λ same. elim (cases_lt at k) [
    | inl less ↦ let up = rises 0 ps to at k 0 rise less lt in let first = is.from at (omega arith) (omega (arith, less, lt)) in omega (arith, up, first, same)
    | inr not_less ↦ let here : at ≡ k = omega (arith, high, not_less) in
        other (omega (arith, lt, here)) (ap (λ n. get_or ps n 0) here ∙ same)
  ]
]

pub no_word_found : (ps ws : List ℕ) (i at : ℕ) → IsKept ps ws FRAME_WORDS → IsFrom ps i at → (at < length ps → get_or ps at 0 ≢ i)
    → get_or (filled 0 ps ws FRAME_WORDS) i 0 ≡ 0
no_word_found ps ws i at kept is other = no_word_at ps ws FRAME_WORDS i kept (other_places ps FRAME_WORDS i at kept.rise is other)

-- the words up to the place that was found
pub zeros_up_to : (ps ws : List ℕ) (start at end : ℕ) → IsKept ps ws FRAME_WORDS → IsFrom ps start at → (at < length ps → end ≤ get_or ps at 0)
    → AreZeros (filled 0 ps ws FRAME_WORDS) start end
zeros_up_to ps ws start at end kept is last i low less = no_word_at ps ws FRAME_WORDS i kept (λ k lt. elim (cases_lt k at) [
  | inl before ↦ λ same. let under = is.below k before in omega (arith, under, low, same)
  | inr high ↦ λ same.
      let first = last (omega (arith, high, lt)) in
      let up = from_place ps FRAME_WORDS (get_or ps at 0) at kept.rise (omega arith) k high lt in
      omega (arith, first, up, less, same)
])

-- the word that was found
pub next_found : (ps ws : List ℕ) (start at place : ℕ) → IsKept ps ws FRAME_WORDS → IsFrom ps start at → at < length ps
    → IsNext (filled 0 ps ws FRAME_WORDS) start record { index = get_or ps at 0; word = get_or ws at 0; next_place = place }
next_found ps ws start at place kept is lt =
    let word = word_at ps ws FRAME_WORDS at kept lt in
    let more : 0 < get_or ws at 0 = All-get_or (λ w. 0 < w) ws at 0 (omega (arith, lt, kept.as_many)) kept.nonzero in
    record {
      behind = is.from at (omega arith) lt;
      within = let up = below 0 ps FRAME_WORDS at 0 kept.rise lt in omega (arith, up);
      zeros = zeros_up_to ps ws start at (get_or ps at 0) kept is (λ _. omega arith);
      found = λ _ none. omega (arith, more, word, none);
      word = sym word;
    }

pub none_found : (ps ws : List ℕ) (start at : ℕ) → IsKept ps ws FRAME_WORDS → IsFrom ps start at → length ps ≤ at → start ≤ FRAME_WORDS
    → IsNext (filled 0 ps ws FRAME_WORDS) start record { index = FRAME_WORDS; word = 0; next_place = 0 }
none_found ps ws start at kept is all within = record {
  behind = within;
  within = omega arith;
  zeros = zeros_up_to ps ws start at FRAME_WORDS kept is (λ lt. absurd (omega (arith, lt, all)));
  found = λ less. absurd (omega (arith, less));
  word = sym (get_or_past (filled 0 ps ws FRAME_WORDS) FRAME_WORDS 0 (omega (arith, length_kept ps ws FRAME_WORDS kept)));
}
