-- Rows of an index: one more, one less, and those that a search for a block finds.
use Rattle.std.proofs.Common.{◌≡◌, ℕ, ◌+◌, ◌<◌, ◌≤◌, ◌⊎◌, inl, inr, Bool, true, false, cond, List, [], ◌∷◌, get_or, length, Contains, IsTrue, refl, sym, ap, ◌∙◌}
use Rattle.std.proofs.Common.{◌++◌, Option, Some, None, IfSome, eqb, subst, arith, filter}
use Rattle.std.specs.BTreeMap.{is_at}
use Rattle.std.specs.BTreeMap.Range.{range_contains}
use Rattle.std.specs.BTreeSet.{BTreeSet, contains, keys_between, Updates}
use Rattle.std.specs.Cmp.{IsTotalOrder}
use Rattle.std.specs.Ordering.{MatchOrdering, is_gt, nat_cmp, ordering_then}
use Rattle.std.specs.declared.cmp.Ordering.{Ordering}
use Rattle.std.specs.declared.cmp.Ordering.TheVariants.{Less, Equal, Greater}
use Rattle.std.specs.declared.ops.Bound.TheVariants.{Included}
use Rattle.std.specs.Option.{option_eq}
use Rattle.std.proofs.lemmas.Bool.{cases_Bool, cases_lt, eqb-true, false≢true}
use Rattle.std.proofs.lemmas.Cmp.{nat_cmp_total, on_total, ranked, then_total}
use Rattle.std.proofs.lemmas.List.{get_or_default}
use Rattle.std.proofs.lemmas.List.Elements.{Contains-push_cases}
use Rattle.std.proofs.lemmas.Map.Lookups.{CmpEqualImpliesEq, exact_pairs, exact_unsigned}
use Rattle.std.proofs.lemmas.Map.Views.{btree_set_contains_iff, range_contains-from_IsInRange, tells_apart}
use Rattle.vs_types.specs.declared.addresses.page.Page.{Page}
use Rattle.vs_types.specs.declared.addresses.page.Size.TheVariants.{K4, M2, G1}
use Rattle.nr_touch.specs.inside.Blocks.{blocks_at, IsBlockOf}
use Rattle.nr_touch.specs.inside.Indexed.{row_cmp, IsIndexedAs}
use Rattle.nr_touch.specs.declared.releases.index.Index.{Index}
use Rattle.vs_types.proofs.Lists.{Contains-cases, Contains-head, Contains-tail, not_in_nil}

-- ---- the order of rows

row_order : IsTotalOrder row_cmp
row_order = then_total (on_total (λ (r : ℕ × ℕ). r.0) nat_cmp_total) (on_total (λ (r : ℕ × ℕ). r.1) nat_cmp_total)

exact_rows : CmpEqualImpliesEq row_cmp
exact_rows = exact_pairs nat_cmp nat_cmp exact_unsigned exact_unsigned

at_most_by : (k o : Ordering) (block a b : ℕ) → MatchOrdering k (block < block) (block ≡ block) (block < block) → MatchOrdering o (a < b) (a ≡ b) (b < a)
    → a ≤ b → is_gt (ordering_then k o) ≡ false
at_most_by Less o block a b m n l = absurd (omega (arith, m))
at_most_by Greater o block a b m n l = absurd (omega (arith, m))
at_most_by Equal Less block a b m n l = refl
at_most_by Equal Equal block a b m n l = refl
at_most_by Equal Greater block a b m n l = absurd (omega (arith, n, l))

-- rows of one block come by base
pub at_most : (block a b : ℕ) → a ≤ b → is_gt (row_cmp (block, a) (block, b)) ≡ false
at_most block a b = at_most_by (nat_cmp block block) (nat_cmp a b) block a b (ranked block block (nat_cmp block block) refl) (ranked a b (nat_cmp a b) refl)

apart : (block base : ℕ) (q : ℕ × ℕ) → (q.1 ≡ base → ⊥) → is_at (row_cmp (block, base)) q ≡ false
apart block base q differs = elim (cases_Bool (is_at (row_cmp (block, base)) q)) [
  | inl same ↦ absurd (differs (sym (ap (λ (r : ℕ × ℕ). r.1) (tells_apart exact_rows (block, base) q same))))
  | inr other ↦ other
]

-- ---- one row more, or one less

stays_by : (here has : Bool) → has ≡ true → cond here true has ≡ true
stays_by true has t = refl
stays_by false has t = t

pub row_stays : (row : ℕ × ℕ) (old new : BTreeSet (ℕ × ℕ)) → Updates row_cmp old new row true → (q : ℕ × ℕ) → IsTrue (contains row_cmp old q)
    → IsTrue (contains row_cmp new q)
row_stays row old new updates q has = updates.0 q ∙ stays_by (is_at (row_cmp row) q) (contains row_cmp old q) has

pub row_left : (block base : ℕ) (old new : BTreeSet (ℕ × ℕ)) → Updates row_cmp old new (block, base) false → (q : ℕ × ℕ) → (q.1 ≡ base → ⊥)
    → IsTrue (contains row_cmp old q) → IsTrue (contains row_cmp new q)
row_left block base old new updates q differs has = updates.2 q (apart block base q differs) ∙ has

-- ---- what holds of each of a list, and of one more

pub one_more : {X : Type 0} (P : X → Type 0) (xs : List X) (y : X) → ((x : X) → Contains xs x → P x) → P y → (x : X) → Contains (xs ++ y ∷ []) x → P x
one_more P xs y before here x has = elim (Contains-push_cases xs y x has) [
  | inl was ↦ before x was
  | inr same ↦ subst P same here
]

pub one_further : {X : Type 0} (P : X → Type 0) (xs : List X) (i : ℕ) (e : X) → i < length xs → ((k : ℕ) (d : X) → k < i → P (get_or xs k d))
    → P (get_or xs i e) → (k : ℕ) (d : X) → k < i + 1 → P (get_or xs k d)
one_further P xs i e within before here k d l = elim (cases_lt k i) [
  | inl less ↦ before k d less
  | inr past ↦
      let at : i ≡ k = omega (arith, past, l) in
      subst (λ (n : ℕ). P (get_or xs n d)) at (subst P (get_or_default xs i e d within) here)
]

-- the last base is this one
pub same_last : (last : Option ℕ) (base : ℕ) (P : ℕ → Type 0) → option_eq eqb last (Some base) ≡ true → IfSome last P → P base
same_last None base P e h = absurd (false≢true e)
same_last (Some n) base P e h = subst P (eqb-true n base e) h

-- ---- the rows of a page

block_within : (page : Page) (block : ℕ) → IsBlockOf page block → (k : ℕ) × (k < 4) × (get_or (blocks_at page) k 0 ≡ block)
block_within page block (inl (K4, is)) = (0, omega arith, sym is)
block_within page block (inl (M2, is)) = (1, omega arith, sym is)
block_within page block (inl (G1, is)) = (2, omega arith, sym is)
block_within page block (inr is) = (3, omega arith, sym is)

pub page_rows : (index : Index) (page : Page) (key : ℕ)
    → ((k : ℕ) → k < 4 → IsTrue (contains row_cmp index.rows (get_or (blocks_at page) k 0, key))) → IsIndexedAs index page key
page_rows index page key each block of =
    let (k, l, is) = block_within page block of in subst (λ (b : ℕ). IsTrue (contains row_cmp index.rows (b, key))) is (each k l)

-- ---- the rows of a block

in_more : {X : Type 0} (p : X → Bool) (y : X) (ys : List X) (x : X) → p x ≡ true → (Contains ys x → Contains (filter p ys) x)
    → (y ≡ x) ⊎ Contains ys x → Contains (filter p (y ∷ ys)) x
in_more p y ys x t later (inl same) =
    let passes : p y ≡ true = ap p same ∙ t in
    subst (λ (b : Bool). Contains (cond b (y ∷ filter p ys) (filter p ys)) x) (sym passes)
    (subst (Contains (y ∷ filter p ys)) same (Contains-head y (filter p ys)))
in_more p y ys x t later (inr has) = by (p y) where
  by : (b : Bool) → Contains (cond b (y ∷ filter p ys) (filter p ys)) x
  by true = Contains-tail y (filter p ys) x (later has)
  by false = later has

in_filter : {X : Type 0} (p : X → Bool) (xs : List X) (x : X) → Contains xs x → p x ≡ true → Contains (filter p xs) x
in_filter p [] x has t = absurd (not_in_nil x has)
in_filter p (y ∷ ys) x has t = in_more p y ys x t (λ later. in_filter p ys x later t) (Contains-cases y ys x has)

-- a key is found between two bounds
pub key_found : {K : Type 0} {R : K → K → Ordering} → IsTotalOrder R → CmpEqualImpliesEq R → (keys : BTreeSet K) (found : List K) (least greatest key : K)
    → found ≡ keys_between R (Included least) (Included greatest) keys → is_gt (R least key) ≡ false → is_gt (R key greatest) ≡ false
    → IsTrue (contains R keys key) → Contains found key
key_found {K} {R} order exact keys found least greatest key is from upto has =
    subst (λ (xs : List K). Contains xs key) (sym is)
    (in_filter (range_contains R (Included least) (Included greatest)) keys.keys key ((btree_set_contains_iff order exact keys key).0 has)
    (range_contains-from_IsInRange order (Included least) (Included greatest) key (from, upto)))

no_greater_by : (o : Ordering) (a b : ℕ) → MatchOrdering o (a < b) (a ≡ b) (b < a) → a ≤ b → is_gt o ≡ false
no_greater_by Less a b m l = refl
no_greater_by Equal a b m l = refl
no_greater_by Greater a b m l = absurd (omega (arith, m, l))

pub no_greater : (a b : ℕ) → a ≤ b → is_gt (nat_cmp a b) ≡ false
no_greater a b l = no_greater_by (nat_cmp a b) a b (ranked a b (nat_cmp a b) refl) l

-- a row is found between a row of its block from which it comes on, and the greatest
pub row_found : (rows : BTreeSet (ℕ × ℕ)) (found : List (ℕ × ℕ)) (least greatest : ℕ × ℕ) (block first base end : ℕ) → least ≡ (block, first)
    → greatest ≡ (block, end) → found ≡ keys_between row_cmp (Included least) (Included greatest) rows → first ≤ base → base ≤ end
    → IsTrue (contains row_cmp rows (block, base)) → Contains found (block, base)
row_found rows found least greatest block first base end low high is from fits has =
    key_found row_order exact_rows rows found least greatest (block, base) is
    (subst (λ (row : ℕ × ℕ). is_gt (row_cmp row (block, base)) ≡ false) (sym low) (at_most block first base from))
    (subst (λ (row : ℕ × ℕ). is_gt (row_cmp (block, base) row) ≡ false) (sym high) (at_most block base end fits)) has
