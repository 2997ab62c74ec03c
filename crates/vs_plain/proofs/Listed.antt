-- Spaces by the ordered entries of a map.
use Rattle.std.proofs.Common.{◌≡◌, ℕ, ◌≤◌, Bool, true, false, cond, T, ◌&&◌, List, [], ◌∷◌, ◌++◌, map, Option, Some, None, option_map, refl, sym, ap, ◌∙◌}
use Rattle.std.proofs.Common.{subst, arith, nat_cmp, is_eq, is_lt, is_gt, is_some, IsSome, IfSome, slice_get, ⊎_elim, Less, Bor, BTreeMap}
use Rattle.std.specs.Cmp.{nat_cmp_total, eq_by_cmp_equiv}
use Rattle.std.specs.Ordering.{eq_by_cmp}
use Rattle.std.specs.FinMap as finite
use Rattle.std.specs.FinMap.{nat_cmp-IsAntisymmetric}
use Rattle.std.specs.FinMap.Entries as in_order
use Rattle.std.specs.Map.{keys_of, lookup}
use Rattle.std.specs.Map.Iter.{TakesLast, deref_pair}
use Rattle.std.specs.BTreeMap.{is_at, get}
use Rattle.std.specs.BTreeMap.Range.{IsRangeOf, IsEntryInRange, IsLeBy}
use Rattle.std.proofs.lemmas.Bool.{cases_lt}
use Rattle.std.specs.declared.ops.Bound.TheVariants.{Included, Unbounded}
use Rattle.std.proofs.lemmas.Map.Keys.{le_from_not_gt, ge_from_not_lt, IsStrictlyIncreasing-from_sorted}
use Rattle.std.proofs.lemmas.Bool.Decides.{nat_tests}
use Rattle.std.specs.List.{AllByRecursion}
use Rattle.std.specs.List.Sorted.{IsStrictlySortedBy, IsStrictlyIncreasing}
use Rattle.vs_types.specs.Space.{no_pages, pages, Holds}
use Rattle.vs_types.specs.declared.addresses.page.Page.{Page}
use Rattle.vs_plain.specs.declared.mapping.Mapping.{Mapping}
use Rattle.vs_plain.specs.inside.Listed.{page_from, page_of, listed_space}
use Rattle.vs_plain.specs.inside.PageMap.{IsLastUpTo, IsFirstFrom}

abbrev pub Rise : List (ℕ × Mapping) → Type 0
Rise es = IsStrictlySortedBy nat_cmp (keys_of es)

-- the entries, each with its page
abbrev with_pages : List (ℕ × Mapping) → List (ℕ × Page)
with_pages es = map (λ e. (e.0, page_of e)) es

-- what is mapped at a base
abbrev found : List (ℕ × Mapping) → ℕ → Option Mapping
found es q = lookup (is_at (nat_cmp q)) es

both : (a b : Bool) → T a → T b → T (a && b)
both true b p q = q
both false b p q = absurd p

below_all_of : (x : ℕ) (es : List (ℕ × Mapping)) → AllByRecursion (λ y. nat_cmp x y ≡ Less) (keys_of es) → T (in_order.below_all nat_cmp x (with_pages es))
below_all_of x [] h = tt
below_all_of x (e ∷ es) h = both _ _ (subst (λ r. T (is_lt r)) (sym h.0) tt) (below_all_of x es h.1)

sorted_of : (es : List (ℕ × Mapping)) → Rise es → T (in_order.is_sorted nat_cmp (with_pages es))
unfolding IsStrictlySortedBy
sorted_of [] h = tt
sorted_of (e ∷ es) h = both _ _ (below_all_of e.0 es h.0) (sorted_of es h.1)

same_number : (a b : ℕ) → is_eq (nat_cmp a b) ≡ true → a ≡ b
same_number a b e = grind (arith, nat_tests)

-- of what is at a base the page begins there
here_or : (a q : ℕ) (mapping : Mapping) (b : Bool) (other : Option Mapping) → (b ≡ true → a ≡ q)
    → cond b (Some (page_from a mapping)) (option_map (page_from q) other) ≡ option_map (page_from q) (cond b (Some mapping) other)
here_or a q mapping true other same = ap (λ base. Some (page_from base mapping)) (same refl)
here_or a q mapping false other same = refl

find_is : (q : ℕ) (es : List (ℕ × Mapping)) → in_order.find nat_cmp q (with_pages es) ≡ option_map (page_from q) (found es q)
find_is q [] = refl
find_is q (e ∷ es) =
    ap (cond (is_eq (nat_cmp q e.0)) (Some (page_of e))) (find_is q es)
    ∙ here_or e.0 q e.1 (is_eq (nat_cmp q e.0)) (found es q) (λ at. sym (same_number q e.0 at))

-- what the space has at a base is what is mapped there
get_listed : (es : List (ℕ × Mapping)) (q : ℕ) → Rise es → finite.get (listed_space es) q ≡ option_map (page_from q) (found es q)
get_listed es q h = finite.get-from_sorted nat_cmp (with_pages es) q (sorted_of es h) ∙ find_is q es

pub got_listed : (es : List (ℕ × Mapping)) (q : ℕ) (mapping : Option Mapping) → Rise es → mapping ≡ found es q
    → option_map (page_from q) mapping ≡ finite.get (listed_space es) q
got_listed es q mapping h is = ap (option_map (page_from q)) is ∙ sym (get_listed es q h)

pages_of : (es : List (ℕ × Mapping)) → map (λ e. e.1) (with_pages es) ≡ map page_of es
pages_of [] = refl
pages_of (e ∷ es) = ap (λ ps. page_of e ∷ ps) (pages_of es)

-- the pages of the space are those of the entries, in their order
pub pages_listed : (es : List (ℕ × Mapping)) → Rise es → map page_of es ≡ pages (listed_space es)
pages_listed es h = sym (ap (map (λ e. e.1)) (finite.entries-from_sorted nat_cmp (with_pages es) (sorted_of es h)) ∙ pages_of es)

bases_are_keys : (es : List (ℕ × Mapping)) → map (λ p. p.base) (map page_of es) ≡ keys_of es
bases_are_keys [] = refl
bases_are_keys (e ∷ es) = ap (λ ks. e.0 ∷ ks) (bases_are_keys es)

pub bases_rise : (es : List (ℕ × Mapping)) → Rise es → IsStrictlyIncreasing (map (λ p. p.base) (map page_of es))
bases_rise es h = subst IsStrictlyIncreasing (sym (bases_are_keys es)) (IsStrictlyIncreasing-from_sorted (keys_of es) h)

pub nothing_listed : (es : List (ℕ × Mapping)) → es ≡ [] → Rise es → listed_space es ≡ no_pages
nothing_listed es e h =
    finite.same_map nat_cmp_total nat_cmp-IsAntisymmetric _ _ (λ q.
    get_listed es q h ∙ ap (λ x. option_map (page_from q) (found x q)) e ∙ sym (finite.get-empty nat_cmp q))

-- entries that look up as others with a mapping put at a base
pub put_listed : (es fs : List (ℕ × Mapping)) (base : ℕ) (mapping : Mapping) → Rise es → Rise fs
    → ((q : ℕ) → found fs q ≡ cond (is_at (nat_cmp base) q) (Some mapping) (found es q))
    → listed_space fs ≡ finite.insert (listed_space es) base (page_from base mapping)
put_listed es fs base mapping h t is =
    finite.same_map nat_cmp_total nat_cmp-IsAntisymmetric _ _ (λ q.
    get_listed fs q t ∙ ap (option_map (page_from q)) (is q)
    ∙ sym (here_or base q mapping (is_at (nat_cmp base) q) (found es q) (same_number base q))
    ∙ ap (λ b. cond b (Some (page_from base mapping)) (option_map (page_from q) (found es q))) ((eq_by_cmp_equiv nat_cmp_total).symm base q)
    ∙ ap (cond (eq_by_cmp nat_cmp q base) (Some (page_from base mapping))) (sym (get_listed es q h))
    ∙ sym (finite.get-insert nat_cmp_total (listed_space es) base (page_from base mapping) q))

none_or : (q : ℕ) (b : Bool) (other : Option Mapping) → option_map (page_from q) (cond b None other) ≡ cond b None (option_map (page_from q) other)
none_or q true other = refl
none_or q false other = refl

-- entries that look up as others with nothing at a base
pub cut_listed : (es fs : List (ℕ × Mapping)) (base : ℕ) → Rise es → Rise fs
    → ((q : ℕ) → found fs q ≡ cond (is_at (nat_cmp base) q) None (found es q))
    → listed_space fs ≡ finite.remove (listed_space es) base
cut_listed es fs base h t is =
    finite.same_map nat_cmp_total nat_cmp-IsAntisymmetric _ _ (λ q.
    get_listed fs q t ∙ ap (option_map (page_from q)) (is q) ∙ none_or q (is_at (nat_cmp base) q) (found es q)
    ∙ ap (λ b. cond b None (option_map (page_from q) (found es q))) ((eq_by_cmp_equiv nat_cmp_total).symm base q)
    ∙ ap (cond (eq_by_cmp nat_cmp q base) None) (sym (get_listed es q h)) ∙ sym (finite.get-remove nat_cmp_total (listed_space es) base q))

-- ---- neighbours, by ranges of the map

is_some-option_map : {X Y : Type 0} (f : X → Y) (o : Option X) → is_some (option_map f o) ≡ is_some o
is_some-option_map f None = refl
is_some-option_map f (Some x) = refl

module _ (m : BTreeMap ℕ Mapping) (h : Rise m.entries) (address : ℕ) (r : List (ℕ × Mapping)) where
  has : (e : ℕ × Mapping) → get nat_cmp m e.0 ≡ Some e.1 → Holds (listed_space m.entries) (page_of e)
  has e got = get_listed m.entries e.0 h ∙ ap (option_map (page_from e.0)) got

  up_to : (q a : ℕ) → q ≤ a → is_gt (nat_cmp q a) ≡ false
  up_to q a l = grind (arith, nat_tests)

  is_there : (q : Page) → Holds (listed_space m.entries) q → IsSome (get nat_cmp m q.base)
  is_there q holds = sym (is_some-option_map (page_from q.base) (get nat_cmp m q.base)) ∙ ap is_some (sym (get_listed m.entries q.base h) ∙ holds)

  absent : (q : Page) → Holds (listed_space m.entries) q → get nat_cmp m q.base ≡ None → ⊥
  absent q holds none = let there = is_there q holds in cc

  last_from_range : IsRangeOf nat_cmp Unbounded (Included address) m r → (e : ℕ × Mapping) (t : List (ℕ × Mapping)) → r ≡ t ++ e ∷ []
      → IsLastUpTo (listed_space m.entries) address (Some (page_of e))
  last_from_range range e t is =
      let entry = range.3 e t is in (
        has e entry.1,
        le_from_not_gt e.0 address entry.0.1,
        λ q holds l. ge_from_not_lt e.0 q.base (range.4 e t is q.base (tt, up_to q.base address l) (is_there q holds)),
      )

  no_last_from_range : IsRangeOf nat_cmp Unbounded (Included address) m r → r ≡ [] → IsLastUpTo (listed_space m.entries) address None
  no_last_from_range range is q holds =
      ⊎_elim (λ l. l) (λ l. absurd (absent q holds (range.5 is q.base (tt, up_to q.base address l)))) (cases_lt address q.base)

  -- the last entry of the range, as an iterator that has it left gives it
  pub last_given : IsRangeOf nat_cmp Unbounded (Included address) m r → (t : List (ℕ × Mapping)) (given : Option (Bor ℕ × Bor Mapping))
      → TakesLast deref_pair r given t → IsLastUpTo (listed_space m.entries) address (option_map (λ e. page_from e.0.now e.1.now) given)
  last_given range t None steps = no_last_from_range range steps.0
  last_given range t (Some e) steps = last_from_range range (e.0.now, e.1.now) t steps

  pub first_from_range : IsRangeOf nat_cmp (Included address) Unbounded m r → (e : ℕ × Mapping) (t : List (ℕ × Mapping)) → r ≡ e ∷ t
      → IsFirstFrom (listed_space m.entries) address (Some (page_of e))
  first_from_range range e t is =
      let first : slice_get r 0 ≡ Some e = ap (λ x. slice_get x 0) is in
      let entry : IsEntryInRange nat_cmp (Included address) Unbounded m e =
      subst (λ o. IfSome o (IsEntryInRange nat_cmp (Included address) Unbounded m)) first range.1 in (
        has e entry.1,
        le_from_not_gt address e.0 entry.0.0,
        λ q holds l.
            let least : is_gt (nat_cmp e.0 q.base) ≡ false =
            subst (λ o. IfSome o (λ e. IsLeBy nat_cmp e.0 q.base)) first (range.2 q.base (up_to address q.base l, tt) (is_there q holds)) in
            le_from_not_gt e.0 q.base least,
      )

  pub no_first_from_range : IsRangeOf nat_cmp (Included address) Unbounded m r → r ≡ [] → IsFirstFrom (listed_space m.entries) address None
  no_first_from_range range is q holds =
      ⊎_elim (λ l. l) (λ l. absurd (absent q holds (range.5 is q.base (up_to address q.base l, tt)))) (cases_lt q.base address)
