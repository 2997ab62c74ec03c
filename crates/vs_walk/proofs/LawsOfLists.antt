-- Lists that are put together of parts: what all their elements are, each two of them, and the first that passes a test.
use Rattle.std.proofs.Common.{◌≡◌, ◌≢◌, ℕ, zero, suc, ◌+◌, ◌-◌, ◌<◌, ◌≤◌, Bool, true, false, cond, List, [], ◌∷◌, ◌++◌, Option, Some, None, length, get_or}
use Rattle.std.proofs.Common.{flat_map, find, refl, sym, ap, subst, ◌∙◌, ⊎_elim, arith, Contains}
use Rattle.std.specs.Prelude.{All}
use Rattle.std.specs.List.{AllPairs, enumerate_from, filter_map}
use Rattle.std.proofs.lemmas.Bool.{cases_lt}
use Rattle.std.proofs.lemmas.List.{get_or_append_left, get_or-append_right, length-append}
use Rattle.std.proofs.lemmas.List.Elements.{All-nil, All-append, All-head, All-tail, Contains-append_left, Contains-append_right, Contains-append_cases}
use Rattle.std.proofs.lemmas.List.Elements.{filter_map-append}
use Rattle.vs_types.proofs.Lists.{not_in_nil}

module _ {X : Type 0} where
  -- ---- each two elements

  pub all_pairs_nil : (R : X → X → Type 0) → AllPairs R []
  all_pairs_nil R i j d lt within = absurd (omega arith)

  pub all_pairs_one : (R : X → X → Type 0) (x : X) → AllPairs R (x ∷ [])
  all_pairs_one R x i j d lt within = absurd (omega arith)

  pub all_pairs_append : (R : X → X → Type 0) (xs ys : List X) → AllPairs R xs → AllPairs R ys → All (λ x. All (R x) ys) xs → AllPairs R (xs ++ ys)
  all_pairs_append R xs ys left right across i j d lt within =
      ⊎_elim
      (λ low. subst (λ z. R (get_or (xs ++ ys) i d) z) (sym (get_or_append_left xs ys d j low))
      (subst (λ z. R z (get_or xs j d)) (sym (get_or_append_left xs ys d i (omega arith))) (left i j d lt low)))
      (λ high. subst (λ z. R (get_or (xs ++ ys) i d) z) (sym (get_or-append_right xs ys (length xs) j d refl high))
      (⊎_elim
      (λ low. subst (λ z. R z (get_or ys (j - length xs) d)) (sym (get_or_append_left xs ys d i low))
      (across i d low (j - length xs) d (omega (arith, length-append xs ys))))
      (λ above. subst (λ z. R z (get_or ys (j - length xs) d)) (sym (get_or-append_right xs ys (length xs) i d refl above))
      (right (i - length xs) (j - length xs) d (omega arith) (omega (arith, length-append xs ys))))
      (cases_lt i (length xs))))
      (cases_lt j (length xs))

  -- ---- the first element that passes

  pub find_left : (test : X → Bool) (xs ys : List X) → find test ys ≡ None → find test (xs ++ ys) ≡ find test xs
  find_left test [] ys none = none
  find_left test (x ∷ xs) ys none = ap (λ rest. cond (test x) (Some x) rest) (find_left test xs ys none)

  pub find_right : (test : X → Bool) (xs ys : List X) → find test xs ≡ None → find test (xs ++ ys) ≡ find test ys
  find_right test [] ys none = refl
  find_right test (x ∷ xs) ys none =
      elim (test x) as (λ b. cond b (Some x) (find test xs) ≡ None → cond b (Some x) (find test (xs ++ ys)) ≡ find test ys) [
        | true ↦ λ is. cc
        | false ↦ λ is. find_right test xs ys is
      ] none

  pub find_none : (test : X → Bool) (xs : List X) → All (λ x. test x ≡ false) xs → find test xs ≡ None
  find_none test [] h = refl
  find_none test (x ∷ xs) h =
      ap (λ b. cond b (Some x) (find test xs)) (All-head (λ x. test x ≡ false) x xs h)
      ∙ find_none test xs (All-tail (λ x. test x ≡ false) x xs h)

-- ---- the words of a table, each with its index

module _ {X : Type 0} (f : ℕ × ℕ → List X) where
  -- what holds of all that is met at each word
  pub all_at_words : (P : X → Type 0) (words : List ℕ) (from : ℕ) → ((k : ℕ) → k < length words → All P (f (from + k, get_or words k 0)))
      → All P (flat_map f (enumerate_from from words))
  all_at_words P [] from each = All-nil P
  all_at_words P (word ∷ words) from each =
      All-append P (f (from, word)) (flat_map f (enumerate_from (from + 1) words))
      (subst (λ k. All P (f (k, word))) (omega arith) (each 0 (omega arith)))
      (all_at_words P words (from + 1) (λ k lt. subst (λ i. All P (f (i, get_or words k 0))) (omega arith) (each (suc k) (omega arith))))

  -- what is met at one word is met
  pub contained_at_word : (words : List ℕ) (from k : ℕ) (x : X) → k < length words → Contains (f (from + k, get_or words k 0)) x
      → Contains (flat_map f (enumerate_from from words)) x
  contained_at_word [] from k x lt is = absurd (omega arith)
  contained_at_word (word ∷ words) from zero x lt is =
      Contains-append_left (f (from, word)) (flat_map f (enumerate_from (from + 1) words)) x (subst (λ i. Contains (f (i, word)) x) (omega arith) is)
  contained_at_word (word ∷ words) from (suc k) x lt is =
      Contains-append_right (f (from, word)) (flat_map f (enumerate_from (from + 1) words)) x
      (contained_at_word words (from + 1) k x (omega arith) (subst (λ i. Contains (f (i, get_or words k 0)) x) (omega arith) is))

  -- and what is met, is met at one word
  pub contained_at_some_word : (words : List ℕ) (from : ℕ) (x : X) → Contains (flat_map f (enumerate_from from words)) x
      → (k : ℕ) × (k < length words) × Contains (f (from + k, get_or words k 0)) x
  contained_at_some_word [] from x is = absurd (not_in_nil x is)
  contained_at_some_word (word ∷ words) from x is = ⊎_elim
      (λ here. (0, omega arith, subst (λ i. Contains (f (i, word)) x) (omega arith) here))
      (λ there.
      let later = contained_at_some_word words (from + 1) x there in
      (suc later.0, omega (arith, later.1), subst (λ i. Contains (f (i, get_or words later.0 0)) x) (omega arith) later.2))
      (Contains-append_cases (f (from, word)) (flat_map f (enumerate_from (from + 1) words)) x is)

module _ {X Y : Type 0} (f : ℕ × ℕ → List X) (g : X → Option Y) (test : Y → Bool) where
  -- where nothing that passes is at any word
  pub find_nowhere : (words : List ℕ) (from : ℕ) → ((k word : ℕ) → from ≤ k → find test (filter_map g (f (k, word))) ≡ None)
      → find test (filter_map g (flat_map f (enumerate_from from words))) ≡ None
  find_nowhere [] from none = refl
  find_nowhere (word ∷ words) from none =
      ap (find test) (filter_map-append g (f (from, word)) (flat_map f (enumerate_from (from + 1) words)))
      ∙ find_right test (filter_map g (f (from, word))) (filter_map g (flat_map f (enumerate_from (from + 1) words))) (none from word (omega arith))
      ∙ find_nowhere words (from + 1) (λ k word low. none k word (omega arith))

  -- where what passes can be at one word alone
  pub find_at_word : (words : List ℕ) (from index : ℕ) → ((k word : ℕ) → k ≢ from + index → find test (filter_map g (f (k, word))) ≡ None)
      → find test (filter_map g (f (from + index, 0))) ≡ None → find test (filter_map g (flat_map f (enumerate_from from words))) ≡ find test
      (filter_map g (f (from + index, get_or words index 0)))
  find_at_word [] from index none absent = sym absent
  find_at_word (word ∷ words) from zero none absent =
      ap (find test) (filter_map-append g (f (from, word)) (flat_map f (enumerate_from (from + 1) words)))
      ∙ find_left test (filter_map g (f (from, word))) (filter_map g (flat_map f (enumerate_from (from + 1) words)))
      (find_nowhere words (from + 1) (λ k word low. none k word (omega arith)))
      ∙ ap (λ i. find test (filter_map g (f (i, word)))) (omega arith)
  find_at_word (word ∷ words) from (suc index) none absent =
      ap (find test) (filter_map-append g (f (from, word)) (flat_map f (enumerate_from (from + 1) words)))
      ∙ find_right test (filter_map g (f (from, word))) (filter_map g (flat_map f (enumerate_from (from + 1) words))) (none from word (omega arith))
      ∙ find_at_word words (from + 1) index (λ k word other. none k word (omega arith))
      (subst (λ i. find test (filter_map g (f (i, 0))) ≡ None) (omega arith) absent)
      ∙ ap (λ i. find test (filter_map g (f (i, get_or words index 0)))) (omega arith)
