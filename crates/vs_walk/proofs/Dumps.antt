-- Lists of frames whose numbers rise, and the memories that they are.
use Rattle.std.proofs.Common.{◌≡◌, ℕ, zero, suc, ◌+◌, ◌^◌, ◌<◌, ◌≢◌, Bool, true, false, cond, List, [], ◌∷◌, ◌++◌, length, map, Some, None, Result, Ok, Err}
use Rattle.std.proofs.Common.{get_or, refl, inl, inr, sym, ap, subst, ◌∙◌, arith}
use Rattle.std.specs.Prelude.{All, IsTrue, slice_index, ◌&&◌, MatchResult, zip}
use Rattle.std.specs.FinMap as finite
use Rattle.std.specs.FinMap.Entries.{put, find, is_sorted, below_all, by_order}
use Rattle.std.specs.Ordering.{nat_cmp, eq_by_cmp, is_lt, is_eq, ordering_index}
use Rattle.std.specs.Cmp.{nat_cmp_total, nat_cmp_is, ranked}
use Rattle.std.specs.List.Sorted.{IsBinarySearchResult, IsSearchInRange, IsNonDecreasingBy}
use Rattle.std.specs.declared.cmp.Ordering.TheVariants.{Less, Equal, Greater}
use Rattle.std.proofs.lemmas.List.{get_or-map, length-append, map-append}
use Rattle.std.proofs.lemmas.List.Elements.{All-head, All-tail, All-push}
use Rattle.std.proofs.lemmas.List.Sorted.{searchable_from_sorted}
use Rattle.std.proofs.lemmas.Bool.{cases_lt}
use lib.Dec.{T}
use Rattle.vs_types.specs.declared.limits.TheConstants.{FRAMES}
use Rattle.vs_types.specs.Frame.{IsFrame}
use Rattle.vs_walk.specs.Memory.{Memory}
use Rattle.vs_walk.specs.Dump.{AreParts}

truth : (b : Bool) → IsTrue b → T b
truth b e = subst T (sym e) tt

both : (a b : Bool) → IsTrue a → IsTrue b → IsTrue (a && b)
both true b p q = q
both false b p q = p

first : (a b : Bool) → IsTrue (a && b) → IsTrue a
first true b p = refl
first false b p = p

second : (a b : Bool) → IsTrue (a && b) → IsTrue b
second true b p = p
second false b p = cc

less_is : (x y : ℕ) → IsTrue (is_lt (nat_cmp x y)) → x < y
less_is x y h = elim (nat_cmp x y) as (λ r. r ≡ nat_cmp x y → IsTrue (is_lt r) → x < y) [
  | Less ↦ λ e h. ranked x y Less e
  | Equal ↦ λ e h. cc
  | Greater ↦ λ e h. cc
] refl h

is_less : (x y : ℕ) → x < y → IsTrue (is_lt (nat_cmp x y))
is_less x y h = subst (λ r. IsTrue (is_lt r)) (nat_cmp_is x y Less h) refl

pub put_last : (es : List (ℕ × List ℕ)) (k : ℕ) (v : List ℕ) → All (λ held. held < k) (map (λ e. e.0) es) → put nat_cmp k v es ≡ es ++ (k, v) ∷ []
put_last [] k v h = refl
put_last (e ∷ es) k v h =
    subst (λ r. by_order r ((k, v) ∷ e ∷ es) ((e.0, v) ∷ es) (e ∷ put nat_cmp k v es) ≡ (e ∷ es) ++ (k, v) ∷ [])
    (nat_cmp_is k e.0 Greater (All-head (λ held. held < k) e.0 (map (λ f. f.0) es) h))
    (ap (λ fs. e ∷ fs) (put_last es k v (All-tail (λ held. held < k) e.0 (map (λ f. f.0) es) h)))

below_push : (x : ℕ) (es : List (ℕ × List ℕ)) (k : ℕ) (v : List ℕ) → x < k → IsTrue (below_all nat_cmp x es) → IsTrue (below_all nat_cmp x (es ++ (k, v) ∷ []))
below_push x [] k v lt h = both _ _ (is_less x k lt) refl
below_push x (e ∷ es) k v lt h = both _ _ (first _ _ h) (below_push x es k v lt (second _ _ h))

pub rising_push : (es : List (ℕ × List ℕ)) (k : ℕ) (v : List ℕ) → All (λ held. held < k) (map (λ e. e.0) es) → IsTrue (is_sorted nat_cmp es)
    → IsTrue (is_sorted nat_cmp (es ++ (k, v) ∷ []))
rising_push [] k v h s = refl
rising_push (e ∷ es) k v h s =
    both _ _ (below_push e.0 es k v (All-head (λ held. held < k) e.0 (map (λ f. f.0) es) h) (first _ _ s))
    (rising_push es k v (All-tail (λ held. held < k) e.0 (map (λ f. f.0) es) h) (second _ _ s))

-- the entries of the memory that a list of rising frames is
pub entries_stand : (es : List (ℕ × List ℕ)) → IsTrue (is_sorted nat_cmp es) → finite.entries (finite.from_sorted {R = nat_cmp} es) ≡ es
entries_stand es s = finite.entries-from_sorted nat_cmp es (truth _ s)

-- a list of frames whose numbers rise, and the memory that it is
pub record IsStanding (es : List (ℕ × List ℕ)) (memory : Memory) : Type 0 where
  pub is : finite.from_sorted es ≡ memory
  pub rising : IsTrue (is_sorted nat_cmp es)

pub entries_of : (es : List (ℕ × List ℕ)) (memory : Memory) → IsStanding es memory → finite.entries memory ≡ es
entries_of es memory stands = ap finite.entries (sym stands.is) ∙ entries_stand es stands.rising

pub len_of : (es : List (ℕ × List ℕ)) (memory : Memory) → IsStanding es memory → finite.len memory ≡ length es
len_of es memory stands = finite.len-entries memory ∙ ap length (entries_of es memory stands)

pub get_of : (es : List (ℕ × List ℕ)) (memory : Memory) (q : ℕ) → IsStanding es memory → finite.get memory q ≡ find nat_cmp q es
get_of es memory q stands = ap (λ (m : Memory). finite.get m q) (sym stands.is) ∙ finite.get-from_sorted nat_cmp es q (truth _ stands.rising)

-- a frame above all that are held goes to the end
pub from_sorted_push : (es : List (ℕ × List ℕ)) (k : ℕ) (v : List ℕ) → All (λ held. held < k) (map (λ e. e.0) es) → IsTrue (is_sorted nat_cmp es)
    → finite.from_sorted {R = nat_cmp} (es ++ (k, v) ∷ []) ≡ finite.insert (finite.from_sorted {R = nat_cmp} es) k v
from_sorted_push es k v h s =
    finite.same_entries_map _ _ (entries_stand _ (rising_push es k v h s)
    ∙ sym (finite.entries-insert nat_cmp_total (finite.from_sorted {R = nat_cmp} es) k v ∙ ap (put nat_cmp k v) (entries_stand es s) ∙ put_last es k v h))

-- what stays of the parts of a dump where a frame is added
pub parts_push : {applied root : ℕ} (es : List (ℕ × List ℕ)) (k : ℕ) (v : List ℕ) → AreParts applied root es → All (λ held. held < k) (map (λ e. e.0) es)
    → k < 2 ^ 40 → length es < FRAMES → IsFrame v → AreParts applied root (es ++ (k, v) ∷ [])
parts_push es k v parts above below room whole = record {
  applied_fits = parts.applied_fits;
  root_fits = parts.root_fits;
  few = omega (arith, length-append es ((k, v) ∷ []));
  rising = rising_push es k v above parts.rising;
  in_range = All-push (λ frame. frame.0 < 2 ^ 40) es (k, v) parts.in_range below;
  whole = All-push (λ frame. IsFrame frame.1) es (k, v) parts.whole whole;
}

-- an earlier frame has a lower number
below_at : (x : ℕ) (es : List (ℕ × List ℕ)) (k : ℕ) (d : ℕ × List ℕ) → IsTrue (below_all nat_cmp x es) → k < length es → x < (get_or es k d).0
below_at x [] k d h lt = absurd (omega arith)
below_at x (e ∷ es) zero d h lt = less_is x e.0 (first _ _ h)
below_at x (e ∷ es) (suc k) d h lt = below_at x es k d (second _ _ h) (omega arith)

pub numbers_rise : (es : List (ℕ × List ℕ)) (i j : ℕ) (d : ℕ × List ℕ) → IsTrue (is_sorted nat_cmp es) → i < j → j < length es
    → (get_or es i d).0 < (get_or es j d).0
numbers_rise (e ∷ es) zero (suc j) d s lt within = below_at e.0 es j d (first _ _ s) (omega arith)
numbers_rise (e ∷ es) (suc i) (suc j) d s lt within = numbers_rise es i j d (second _ _ s) (omega arith) (omega arith)
numbers_rise _ i _ d s lt within = absurd (omega arith)

tied : (q k : ℕ) → q ≡ k → eq_by_cmp nat_cmp q k ≡ true
tied q k e = ap is_eq (sym (nat_cmp_is q k Equal e))

apart_greater : (q k : ℕ) → k < q → eq_by_cmp nat_cmp q k ≡ false
apart_greater q k e = ap is_eq (sym (nat_cmp_is q k Greater e))

-- a frame is found by its number
pub find_at : (es : List (ℕ × List ℕ)) (q k : ℕ) (d : ℕ × List ℕ) → IsTrue (is_sorted nat_cmp es) → k < length es → (get_or es k d).0 ≡ q
    → find nat_cmp q es ≡ Some (get_or es k d).1
find_at [] q k d s lt is = absurd (omega arith)
find_at (e ∷ es) q zero d s lt is = ap (λ b. cond b (Some e.1) (find nat_cmp q es)) (tied q e.0 (sym is))
find_at (e ∷ es) q (suc k) d s lt is =
    ap (λ b. cond b (Some e.1) (find nat_cmp q es)) (apart_greater q e.0 (subst (λ n. e.0 < n) is (below_at e.0 es k d (first _ _ s) (omega arith))))
    ∙ find_at es q k d (second _ _ s) (omega arith) is

apart : (q k : ℕ) → k ≢ q → eq_by_cmp nat_cmp q k ≡ false
apart q k ne = elim (nat_cmp q k) as (λ r. r ≡ nat_cmp q k → is_eq r ≡ false) [
  | Less ↦ λ e. refl
  | Equal ↦ λ e. absurd (ne (sym (ranked q k Equal e)))
  | Greater ↦ λ e. refl
] refl

-- and there is none where each number differs
pub find_none : (es : List (ℕ × List ℕ)) (q : ℕ) → ((k : ℕ) (d : ℕ × List ℕ) → k < length es → (get_or es k d).0 ≢ q) → find nat_cmp q es ≡ None
find_none [] q h = refl
find_none (e ∷ es) q h =
    ap (λ b. cond b (Some e.1) (find nat_cmp q es)) (apart q e.0 (h 0 e (omega arith)))
    ∙ find_none es q (λ k d lt. h (suc k) d (omega arith))

-- ---- numbers, and the words of the frames that have them

length_pairs : (ns : List ℕ) (ws : List (List ℕ)) → length ns ≡ length ws → length (zip ns ws) ≡ length ns
length_pairs [] ws paired = refl
length_pairs (n ∷ ns) [] paired = absurd (omega arith)
length_pairs (n ∷ ns) (w ∷ ws) paired = ap suc (length_pairs ns ws (omega arith))

pair_at : (ns : List ℕ) (ws : List (List ℕ)) (k : ℕ) (e : ℕ × List ℕ) → length ns ≡ length ws → k < length ns
    → get_or (zip ns ws) k e ≡ (get_or ns k e.0, get_or ws k e.1)
pair_at (n ∷ ns) (w ∷ ws) zero e paired lt = refl
pair_at (n ∷ ns) (w ∷ ws) (suc k) e paired lt = pair_at ns ws k e (omega arith) (omega arith)
pair_at _ _ k e paired lt = absurd (omega arith)

pub pairs_push : (ns : List ℕ) (ws : List (List ℕ)) (n : ℕ) (w : List ℕ) → length ns ≡ length ws
    → zip (ns ++ n ∷ []) (ws ++ w ∷ []) ≡ zip ns ws ++ (n, w) ∷ []
pairs_push [] [] n w paired = refl
pairs_push (m ∷ ns) (v ∷ ws) n w paired = ap (λ l. (m, v) ∷ l) (pairs_push ns ws n w (omega arith))
pairs_push _ _ n w paired = absurd (omega arith)

climbs : (ns : List ℕ) (ws : List (List ℕ)) (q : ℕ) → length ns ≡ length ws → IsTrue (is_sorted nat_cmp (zip ns ws))
    → IsNonDecreasingBy (λ n. ordering_index (nat_cmp n q)) ns
climbs ns ws q paired s =
    searchable_from_sorted nat_cmp_total (λ n. n) ns q (λ k d low lt.
    let e : ℕ × List ℕ = (d, []) in
    let up : (get_or (zip ns ws) k e).0 < (get_or (zip ns ws) (k + 1) e).0 =
    numbers_rise (zip ns ws) k (k + 1) e s (omega arith) (omega (arith, lt, length_pairs ns ws paired)) in
    let here : (get_or (zip ns ws) k e).0 ≡ get_or ns k d = ap (λ p. p.0) (pair_at ns ws k e paired (omega (arith, lt))) in
    let next : (get_or (zip ns ws) (k + 1) e).0 ≡ get_or ns (k + 1) d = ap (λ p. p.0) (pair_at ns ws (k + 1) e paired lt) in
    let rise : get_or ns k d < get_or ns (k + 1) d = omega (arith, up, here, next) in
    ap is_lt (sym (nat_cmp_is (get_or ns (k + 1) d) (get_or ns k d) Greater rise)))

-- what a binary search gives among numbers that rise
pub searched : (ns : List ℕ) (ws : List (List ℕ)) (q : ℕ) (r : Result ℕ ℕ) → length ns ≡ length ws → IsTrue (is_sorted nat_cmp (zip ns ws))
    → IsSearchInRange r (length ns) → IsBinarySearchResult (λ n. nat_cmp n q) ns r
    → MatchResult r (λ k. (w : List ℕ) → find nat_cmp q (zip ns ws) ≡ Some (get_or ws k w))
    (λ _. find nat_cmp q (zip ns ws) ≡ None)
searched ns ws q (Ok k) paired s bound at = λ w.
    let e : ℕ × List ℕ = (0, w) in
    find_at (zip ns ws) q k e s (omega (arith, bound, length_pairs ns ws paired))
    (ap (λ p. p.0) (pair_at ns ws k e paired bound) ∙ ranked _ _ Equal (sym (at 0)))
    ∙ ap (λ p. Some p.1) (pair_at ns ws k e paired bound)
searched ns ws q (Err i) paired s bound at =
    let parts = at (climbs ns ws q paired s) in
    find_none (zip ns ws) q (λ k e lt.
    let within : k < length ns = omega (arith, lt, length_pairs ns ws paired) in
    let other : get_or ns k e.0 ≢ q = elim (cases_lt k i) [
      | inl low ↦ λ is. let less = ranked (get_or ns k e.0) q Less (sym (parts.0 k e.0 (omega arith) low)) in omega (arith, less)
      | inr high ↦ λ is. let more = ranked (get_or ns k e.0) q Greater (sym (parts.1 k e.0 high within)) in omega (arith, more)
    ] in
    λ is. other (sym (ap (λ p. p.0) (pair_at ns ws k e paired within)) ∙ is))

pub no_frames : finite.from_sorted {X = List ℕ} {R = nat_cmp} [] ≡ finite.empty
no_frames = finite.empty_of_len _ (finite.len-entries _ ∙ ap length (entries_stand [] refl))

pub numbers_push : (memory : Memory) (k : ℕ) (v : List ℕ) → All (λ held. held < k) (finite.keys memory)
    → finite.keys (finite.insert memory k v) ≡ finite.keys memory ++ k ∷ []
numbers_push memory k v above =
    ap (map (λ e. e.0)) (finite.entries-insert nat_cmp_total memory k v ∙ put_last (finite.entries memory) k v above)
    ∙ map-append (λ e. e.0) (finite.entries memory) ((k, v) ∷ [])

pub count_push : (memory : Memory) (k : ℕ) (v : List ℕ) → All (λ held. held < k) (finite.keys memory)
    → finite.len (finite.insert memory k v) ≡ finite.len memory + 1
count_push memory k v above =
    finite.len-entries (finite.insert memory k v)
    ∙ ap length (finite.entries-insert nat_cmp_total memory k v ∙ put_last (finite.entries memory) k v above)
    ∙ length-append (finite.entries memory) ((k, v) ∷ []) ∙ ap (λ n. n + 1) (sym (finite.len-entries memory))

pub no_numbers : finite.keys (finite.empty {X = List ℕ} {R = nat_cmp}) ≡ []
no_numbers = ap finite.keys (sym no_frames) ∙ ap (map (λ e. e.0)) (entries_stand [] refl)

-- ---- the frames that a dump keeps

pub frame_count : (ns : List ℕ) (ws : List (List ℕ)) (memory : Memory) → length ns ≡ length ws → IsStanding (zip ns ws) memory
    → finite.len memory ≡ length ns
frame_count ns ws memory paired stands = len_of (zip ns ws) memory stands ∙ length_pairs ns ws paired

pub number_at : (ns : List ℕ) (ws : List (List ℕ)) (memory : Memory) (k d : ℕ) → length ns ≡ length ws → IsStanding (zip ns ws) memory
    → k < length ns → slice_index (finite.keys memory) k ≡ get_or ns k d
number_at ns ws memory k d paired stands lt =
    let e : ℕ × List ℕ = (d, []) in
    ap (λ es. slice_index (map (λ p. p.0) es) k) (entries_of _ _ stands)
    ∙ get_or-map (λ p. p.0) (zip ns ws) k e 0 (omega (arith, lt, length_pairs ns ws paired))
    ∙ ap (λ p. p.0) (pair_at ns ws k e paired lt)
