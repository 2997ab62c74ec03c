-- The frames that are marked, as an ordered set and an ordered list keep them.
use Rattle.std.proofs.Common.{◌≡◌, ℕ, ◌<◌, ◌↔◌, Bool, true, false, cond, not, ◌⊎◌, List, ◌∷◌, Result, Ok, Err, refl, sym, ap, subst, ◌∙◌, inl, inr, ⊎_elim}
use Rattle.std.proofs.Common.{arith, IsTrue, Contains, nat_cmp, Less, Equal, Greater, Ordering, is_eq, BTreeSet, is_ok}
use Rattle.std.specs.BTreeSet as sorted
use Rattle.std.specs.BTreeMap.{is_at}
use Rattle.std.specs.Cmp.{nat_cmp_total}
use Rattle.std.specs.List.{AllPairs}
use Rattle.std.specs.List.Sorted.{IsStrictlySortedBy, IsBinarySearchResult}
use Rattle.std.proofs.lemmas.Bool.{cases_lt}
use Rattle.std.proofs.lemmas.List.{get_or_default}
use Rattle.std.proofs.lemmas.List.Kept.{AllPairs-from_increasing}
use Rattle.std.proofs.lemmas.List.Sorted.{searched}
use Rattle.std.proofs.lemmas.Map.Keys.{IsStrictlyIncreasing-from_sorted, non_decreasing_from_sorted}
use Rattle.std.proofs.lemmas.Map.Lookups.{exact_unsigned}
use Rattle.std.proofs.lemmas.Map.Views.{btree_set_contains_iff}
use Rattle.vs_types.proofs.Lists.{Contains-head, Contains-tail, Contains-cases}
use Rattle.vs_walk.specs.Reached.{AreJust}

pub holds_iff : (s : BTreeSet ℕ) (k : ℕ) → IsTrue (sorted.contains nat_cmp s k) ↔ Contains s.keys k
holds_iff = btree_set_contains_iff nat_cmp_total exact_unsigned

pub new_iff : (s : BTreeSet ℕ) (k : ℕ) (new : Bool) → new ≡ not (sorted.contains nat_cmp s k) → IsTrue (not new) ↔ Contains s.keys k
new_iff s k new is =
    let same : not new ≡ sorted.contains nat_cmp s k = ap not is ∙ not_not (sorted.contains nat_cmp s k) in
    (λ h. (holds_iff s k).0 (sym same ∙ h), λ h. same ∙ (holds_iff s k).1 h) where
      not_not : (b : Bool) → not (not b) ≡ b
      not_not true = refl
      not_not false = refl

pub rising_pairs : (ks : List ℕ) → IsStrictlySortedBy nat_cmp ks → AllPairs (λ a b. a < b) ks
rising_pairs ks s = AllPairs-from_increasing ks (IsStrictlyIncreasing-from_sorted ks s)

pub added_just : (s t : BTreeSet ℕ) (k : ℕ) → sorted.Updates nat_cmp s t k true → AreJust t.keys (k ∷ s.keys)
added_just s t k updates q = (to, from) where
  either : (b c : Bool) → is_at (nat_cmp k) q ≡ b → cond b true c ≡ true → (k ≡ q) ⊎ (c ≡ true)
  either true c is h = inl (same_key (nat_cmp k q) refl is) where
    same_key : (r : Ordering) → nat_cmp k q ≡ r → is_eq r ≡ true → k ≡ q
    same_key Less e h = cc
    same_key Equal e h = exact_unsigned k q e
    same_key Greater e h = cc
  either false c is h = inr h

  to : Contains t.keys q → Contains (k ∷ s.keys) q
  to h =
      let there : cond (is_at (nat_cmp k) q) true (sorted.contains nat_cmp s q) ≡ true = sym (updates.0 q) ∙ (holds_iff t q).1 h in
      ⊎_elim
      (λ same. subst (Contains (k ∷ s.keys)) same (Contains-head k s.keys))
      (λ old. Contains-tail k s.keys q ((holds_iff s q).0 old))
      (either (is_at (nat_cmp k) q) (sorted.contains nat_cmp s q) refl there)

  stays : (b c : Bool) → c ≡ true → cond b true c ≡ true
  stays true c h = refl
  stays false c h = h

  from : Contains (k ∷ s.keys) q → Contains t.keys q
  from h = ⊎_elim
      (λ same. subst (Contains t.keys) same ((holds_iff t k).0 updates.1))
      (λ old. (holds_iff t q).0 (updates.0 q ∙ stays (is_at (nat_cmp k) q) (sorted.contains nat_cmp s q) ((holds_iff s q).1 old)))
      (Contains-cases k s.keys q h)

-- what a binary search finds in a rising list is in it, and what it does not find is not
pub searched_iff : (ks : List ℕ) (k : ℕ) (r : Result ℕ ℕ) → IsBinarySearchResult (λ y. nat_cmp y k) ks r → IsStrictlySortedBy nat_cmp ks
    → IsTrue (is_ok r) ↔ Contains ks k
searched_iff ks k (Ok i) at rising =
    let is = searched ks k (Ok i) at (λ i j. non_decreasing_from_sorted ks rising i j 0) in
    (λ h. (i, is.0, get_or_default ks i k 0 is.0 ∙ is.1), λ h. refl)
searched_iff ks k (Err i) at rising =
    let is = searched ks k (Err i) at (λ i j. non_decreasing_from_sorted ks rising i j 0) in (
      λ h. cc,
      λ h.
          let here = sym (get_or_default ks h.0 k 0 h.1) ∙ h.2 in
          ⊎_elim
          (λ low. let below = is.1 h.0 low in absurd (omega arith))
          (λ high. let above = is.2 h.0 high h.1 in absurd (omega arith))
          (cases_lt h.0 i),
    )
