-- The frames of a store by their numbers.
use Rattle.std.proofs.Common.{◌≡◌, ◌≢◌, ℕ, suc, ◌+◌, ◌-◌, ◌<◌, ◌≤◌, cond, T, List, [], ◌∷◌, map, length, Option, Some, None, ⊎_elim, refl, sym}
use Rattle.std.proofs.Common.{ap, subst, ◌∙◌, arith}
use Rattle.std.proofs.lemmas.Bool.{cases_lt, cases_eq}
use Rattle.std.proofs.lemmas.Option.{none-some}
use Rattle.std.specs.Ordering.{nat_cmp, is_eq}
use Rattle.std.specs.Cmp.{nat_cmp_total, nat_cmp_is, ranked}
use Rattle.std.specs.declared.cmp.Ordering.TheVariants.{Less, Equal, Greater}
use Rattle.std.specs.FinMap as finite
use Rattle.std.specs.FinMap.Entries as entries
use Rattle.std.specs.Prelude.{IsSome, option_map, unwrap_or, slice_index, slice_set}
use Rattle.std.proofs.lemmas.List.{length-set, length-replicate}
use Rattle.vs_arena.specs.Store.{Store, StorePlace, Lenders, IsInUse, IsFree, words_of, zeros}
use Rattle.vs_types.proofs.Maps.{get-insert_same, get-insert_other, get-remove_same, get-remove_other}
use Rattle.vs_arena.proofs.Stores.{get_in_use}
use Rattle.vs_walk.specs.Memory.{Memory, AreWhole}
use Rattle.vs_space.specs.Held.{numbered, Held, held_in, word_at, with_word, AreNumbered}

cmp_shift : (b x y : ℕ) → nat_cmp (b + x) (b + y) ≡ nat_cmp x y
cmp_shift b x y = elim (nat_cmp x y) as (λ r. r ≡ nat_cmp x y → nat_cmp (b + x) (b + y) ≡ r) [
  | Less ↦ λ e. let h = ranked x y Less e in sym (nat_cmp_is (b + x) (b + y) Less (omega arith))
  | Equal ↦ λ e. let h = ranked x y Equal e in sym (nat_cmp_is (b + x) (b + y) Equal (omega arith))
  | Greater ↦ λ e. let h = ranked x y Greater e in sym (nat_cmp_is (b + x) (b + y) Greater (omega arith))
] refl

abbrev shift : ℕ → List (ℕ × List ℕ) → List (ℕ × List ℕ)
shift b es = map (λ e. (b + e.0, e.1)) es

below_shift : (b x : ℕ) (es : List (ℕ × List ℕ)) → entries.below_all nat_cmp (b + x) (shift b es) ≡ entries.below_all nat_cmp x es
below_shift b x [] = refl
below_shift b x (e ∷ es) = let rest = below_shift b x es in let here = cmp_shift b x e.0 in cc

sorted_shift : (b : ℕ) (es : List (ℕ × List ℕ)) → entries.is_sorted nat_cmp (shift b es) ≡ entries.is_sorted nat_cmp es
sorted_shift b [] = refl
sorted_shift b (e ∷ es) = let rest = sorted_shift b es in let here = below_shift b e.0 es in cc

find_shift : (b q : ℕ) (es : List (ℕ × List ℕ)) → entries.find nat_cmp (b + q) (shift b es) ≡ entries.find nat_cmp q es
find_shift b q [] = refl
find_shift b q (e ∷ es) = let rest = find_shift b q es in let here = cmp_shift b q e.0 in cc

find_below : (b q : ℕ) (es : List (ℕ × List ℕ)) → q < b → entries.find nat_cmp q (shift b es) ≡ None
find_below b q [] h = refl
find_below b q (e ∷ es) h =
    let rest = find_below b q es h in
    let here : Less ≡ nat_cmp q (b + e.0) = nat_cmp_is q (b + e.0) Less (omega arith) in
    ap (λ r. cond (is_eq r) (Some e.1) (entries.find nat_cmp q (shift b es))) (sym here) ∙ rest

sorted : (b : ℕ) (store : Store) → T (entries.is_sorted nat_cmp (shift b (finite.entries store)))
sorted b store = subst T (sym (sorted_shift b (finite.entries store))) (finite.entries_sorted store)

pub get_numbered : (base : ℕ) (store : Store) (index : ℕ) → finite.get (numbered base store) (base + index) ≡ finite.get store index
unfolding numbered
get_numbered base store index = finite.get-from_sorted nat_cmp _ _ (sorted base store) ∙ find_shift base index (finite.entries store)
    ∙ sym (finite.get-entries store index)

pub get_below_base : (base : ℕ) (store : Store) (q : ℕ) → q < base → finite.get (numbered base store) q ≡ None
unfolding numbered
get_below_base base store q h = finite.get-from_sorted nat_cmp _ _ (sorted base store) ∙ find_below base q (finite.entries store) h

length_shift : (b : ℕ) (es : List (ℕ × List ℕ)) → length (shift b es) ≡ length es
length_shift b [] = refl
length_shift b (e ∷ es) = ap suc (length_shift b es)

pub len_numbered : (base : ℕ) (store : Store) → finite.len (numbered base store) ≡ finite.len store
unfolding numbered
len_numbered base store =
    finite.len-entries _ ∙ ap length (finite.entries-from_sorted nat_cmp _ (sorted base store)) ∙ length_shift base (finite.entries store)
    ∙ sym (finite.len-entries store)

-- two memories with the same frames at each number from the base on, and none below
same_numbered : (base : ℕ) (m n : Memory) → ((q : ℕ) → q < base → finite.get m q ≡ finite.get n q)
    → ((i : ℕ) → finite.get m (base + i) ≡ finite.get n (base + i)) → m ≡ n
same_numbered base m n below from = finite.same_map nat_cmp_total finite.nat_cmp-IsAntisymmetric m n (λ q.
    ⊎_elim (λ low. below q low)
    (λ high. let at : base + (q - base) ≡ q = omega arith in subst (λ k. finite.get m k ≡ finite.get n k) at (from (q - base)))
    (cases_lt q base))

pub numbered-insert : (base : ℕ) (store : Store) (index : ℕ) (words : List ℕ)
    → numbered base (finite.insert store index words) ≡ finite.insert (numbered base store) (base + index) words
numbered-insert base store index words =
    same_numbered base _ _
    (λ q low. get_below_base base _ q low ∙ sym (get-insert_other _ _ words q (λ e. omega arith) ∙ get_below_base base store q low))
    (λ i. get_numbered base _ i ∙ ⊎_elim
    (λ (same : i ≡ index). subst (λ k. finite.get (finite.insert store index words) k ≡ finite.get (finite.insert (numbered base store) (base + index) words)
    (base + k)) (sym same) (get-insert_same store index words ∙ sym (get-insert_same (numbered base store) (base + index) words)))
    (λ (other : i ≢ index). get-insert_other store index words i other
    ∙ sym (get-insert_other (numbered base store) (base + index) words (base + i) (λ e. other (omega arith)) ∙ get_numbered base store i))
    (cases_eq i index))

pub numbered-remove : (base : ℕ) (store : Store) (index : ℕ) → numbered base (finite.remove store index) ≡ finite.remove (numbered base store) (base + index)
numbered-remove base store index =
    same_numbered base _ _
    (λ q low. get_below_base base _ q low ∙ sym (get-remove_other _ _ q (λ e. omega arith) ∙ get_below_base base store q low))
    (λ i. get_numbered base _ i ∙ ⊎_elim
    (λ (same : i ≡ index). subst (λ k. finite.get (finite.remove store index) k ≡ finite.get (finite.remove (numbered base store) (base + index)) (base + k))
    (sym same) (get-remove_same store index ∙ sym (get-remove_same (numbered base store) (base + index))))
    (λ (other : i ≢ index). get-remove_other store index i other
    ∙ sym (get-remove_other (numbered base store) (base + index) (base + i) (λ e. other (omega arith)) ∙ get_numbered base store i))
    (cases_eq i index))

pub numbered-empty : (base : ℕ) → numbered base finite.empty ≡ finite.empty
numbered-empty base = finite.empty_of_len _ (len_numbered base _ ∙ finite.len-empty nat_cmp (List ℕ))

-- ---- frames of the store as frames of the memory

pub none_at : (base : ℕ) (store : Store) (number : ℕ) → ((f : ℕ) → base + f ≡ number → IsFree store f) → finite.get (numbered base store) number ≡ None
none_at base store number free = ⊎_elim
    (λ low. get_below_base base store number low)
    (λ high. let at : base + (number - base) ≡ number = omega arith in
    subst (λ q. finite.get (numbered base store) q ≡ None) at (get_numbered base store (number - base) ∙ free (number - base) at))
    (cases_lt number base)

pub some_at : (base : ℕ) (store : Store) (number f : ℕ) → base + f ≡ number → IsInUse store f
    → finite.get (numbered base store) number ≡ Some (words_of store f)
some_at base store number f at used = subst (λ q. finite.get (numbered base store) q ≡ Some (words_of store f)) at
    (get_numbered base store f ∙ get_in_use store f used)

pub words_at : (base : ℕ) (store : Store) (number f : ℕ) (words : List ℕ) → base + f ≡ number → IsInUse store f
    → finite.get (numbered base store) number ≡ Some words → words_of store f ≡ words
words_at base store number f words at used got =
    let same : Some (words_of store f) ≡ Some words = sym (some_at base store number f at used) ∙ got in cc

-- the frame of the store with the number of a frame in use
pub named : (base : ℕ) (store : Store) (number : ℕ) → IsSome (finite.get (numbered base store) number) → (f : ℕ) × (base + f ≡ number) × IsInUse store f
named base store number used = ⊎_elim
    (λ low. let none : IsSome {T = List ℕ} None = subst IsSome (get_below_base base store number low) used in absurd (cc))
    (λ high. let at : base + (number - base) ≡ number = omega arith in
    (number - base, at, subst IsSome (get_numbered base store (number - base)) (subst (λ q. IsSome (finite.get (numbered base store) q)) (sym at) used)))
    (cases_lt number base)

pub word_numbered : (base : ℕ) (store : Store) (number f index : ℕ) → base + f ≡ number → IsInUse store f
    → word_at (numbered base store) number index ≡ Some (slice_index (words_of store f) index)
unfolding word_at
word_numbered base store number f index at used = ap (option_map (λ words. slice_index words index)) (some_at base store number f at used)

pub word_is : (base : ℕ) (store : Store) (number f index word : ℕ) → base + f ≡ number → IsInUse store f
    → word_at (numbered base store) number index ≡ Some word → slice_index (words_of store f) index ≡ word
word_is base store number f index word at used got =
    let same : Some (slice_index (words_of store f) index) ≡ Some word = sym (word_numbered base store number f index at used) ∙ got in cc

pub with_word_numbered : (base : ℕ) (store : Store) (number f index word : ℕ) → base + f ≡ number → IsInUse store f
    → numbered base (finite.insert store f (slice_set (words_of store f) index word)) ≡ with_word (numbered base store) number index word
unfolding with_word
with_word_numbered base store number f index word at used =
    numbered-insert base store f _
    ∙ ap (λ n. finite.insert (numbered base store) n (slice_set (words_of store f) index word)) at
    ∙ ap (λ (o : Option (List ℕ)). finite.insert (numbered base store) number (slice_set (unwrap_or o []) index word))
    (sym (some_at base store number f at used))

abbrev pub held : Lenders → ℕ → ℕ → Memory → Held
held lenders base limit memory = record { base = base; limit = limit; memory = memory; lenders = lenders }

pub whole_numbered : (base : ℕ) (store : Store) → AreWhole store → AreWhole (numbered base store)
whole_numbered base store is = λ n words got. ⊎_elim
    (λ low. absurd (none-some words (sym (get_below_base base store n low) ∙ got)))
    (λ high. is (n - base) words (sym (get_numbered base store (n - base)) ∙ (subst (λ q. finite.get (numbered base store) q ≡ Some words) (omega arith) got)))
    (cases_lt n base)

pub whole-empty : (store : Store) → store ≡ finite.empty → AreWhole store
whole-empty store e = λ i words got. absurd (none-some words (sym (ap (λ (s : Store). finite.get s i) e ∙ finite.get-empty nat_cmp i) ∙ got))

pub whole-insert : (store : Store) (f : ℕ) (own : List ℕ) → length own ≡ 512 → AreWhole store → AreWhole (finite.insert store f own)
whole-insert store f own long is = λ i words got. ⊎_elim
    (λ (same : i ≡ f). let mine : Some own ≡ Some words = sym (get-insert_same store f own)
    ∙ subst (λ k. finite.get (finite.insert store f own) k ≡ Some words) same got in let one : own ≡ words = cc in
    subst (λ (ws : List ℕ). length ws ≡ 512) one long)
    (λ (other : i ≢ f). is i words (sym (get-insert_other store f own i other) ∙ got))
    (cases_eq i f)

pub whole-set : (store : Store) (f index word : ℕ) → IsInUse store f → AreWhole store
    → AreWhole (finite.insert store f (slice_set (words_of store f) index word))
whole-set store f index word used is = whole-insert store f _ (length-set (words_of store f) index word ∙ is f (words_of store f) (get_in_use store f used)) is

pub whole-zeros : (store : Store) (f : ℕ) → AreWhole store → AreWhole (finite.insert store f zeros)
whole-zeros store f is = whole-insert store f zeros (length-replicate {A = ℕ} 512 0) is

pub whole-remove : (store : Store) (f : ℕ) → AreWhole store → AreWhole (finite.remove store f)
whole-remove store f is = λ i words got. ⊎_elim
    (λ (same : i ≡ f). absurd (none-some words (sym (get-remove_same store f) ∙ subst (λ k. finite.get (finite.remove store f) k ≡ Some words) same got)))
    (λ (other : i ≢ f). is i words (sym (get-remove_other store f i other) ∙ got))
    (cases_eq i f)

pub stored : (store : Store) {place place' : StorePlace} {m : Memory} → place' ≡ place → numbered place.base store ≡ m
    → held_in place' store ≡ held place.lenders place.base place.size m
stored store same_place e = rw (same_place, e) refl

-- but for their memory, they are as they were
pub same_but_memory : (old now new : Held) (m : Memory) → new ≡ record now { memory = m } → now ≡ record old { memory = now.memory }
    → new ≡ record old { memory = new.memory }
same_but_memory old now new m is same =
    is ∙ ap (λ (h : Held). held h.lenders h.base h.limit m) same ∙ ap (held old.lenders old.base old.limit) (sym (ap (λ (h : Held). h.memory) is))

-- ---- the numbers of the frames in use

pub numbers_stored : (store : Store) {place place' : StorePlace} {m : Memory} → place' ≡ place → numbered place.base store ≡ m
    → AreNumbered (held place.lenders place.base place.size m) → AreNumbered (held_in place' store)
numbers_stored store same_place e is = subst AreNumbered (sym (stored store same_place e)) is

pub numbers_none : (base limit : ℕ) {lenders : Lenders} {m : Memory} → m ≡ finite.empty → AreNumbered (held lenders base limit m)
numbers_none base limit {m = m} e = record { from_base = λ n used. absurd (nothing n used); below = λ n used. absurd (nothing n used) } where
  nothing : (n : ℕ) → IsSome (finite.get m n) → ⊥
  nothing n used = let none : IsSome {T = List ℕ} None = subst IsSome (ap (λ (s : Memory). finite.get s n) e ∙ finite.get-empty nat_cmp n) used in cc

module _ {h : Held} (is : AreNumbered h) where
  pub numbers_insert : (k : ℕ) (words : List ℕ) → h.base ≤ k → k < h.base + h.limit → AreNumbered (record h { memory = finite.insert h.memory k words })
  numbers_insert k words low high = record {
    from_base = λ n used. ⊎_elim
        (λ (same : n ≡ k). omega arith)
        (λ (other : n ≢ k). is.from_base n (subst IsSome (get-insert_other h.memory k words n other) used))
        (cases_eq n k);
    below = λ n used. ⊎_elim
        (λ (same : n ≡ k). omega arith)
        (λ (other : n ≢ k). is.below n (subst IsSome (get-insert_other h.memory k words n other) used))
        (cases_eq n k);
  }

  pub numbers_written : (n i w : ℕ) → IsSome (finite.get h.memory n) → AreNumbered (record h { memory = with_word h.memory n i w })
  unfolding with_word
  numbers_written n i w used = numbers_insert n _ (is.from_base n used) (is.below n used)

  pub numbers_removed : (k : ℕ) → AreNumbered (record h { memory = finite.remove h.memory k })
  numbers_removed k = record { from_base = λ n used. is.from_base n (before n used); below = λ n used. is.below n (before n used) } where
    before : (n : ℕ) → IsSome (finite.get (finite.remove h.memory k) n) → IsSome (finite.get h.memory n)
    before n used = ⊎_elim
        (λ (same : n ≡ k). let none : IsSome {T = List ℕ} None =
        subst IsSome (ap (finite.get (finite.remove h.memory k)) same ∙ get-remove_same h.memory k) used
        in absurd (cc))
        (λ (other : n ≢ k). subst IsSome (get-remove_other h.memory k n other) used)
        (cases_eq n k)
