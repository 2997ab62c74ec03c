-- Loops over lists.
use Rattle.std.proofs.Common.{◌≡◌, ℕ, zero, suc, ◌+◌, ◌<◌, Bool, true, false, cond, List, [], ◌∷◌, ◌++◌, length, map, take, drop, get_or, Some, None, refl}
use Rattle.std.proofs.Common.{add-one, ap, arith, sym, subst, ◌∙◌, nat_eq}
use Rattle.std.specs.Prelude.{find, All}
use Rattle.std.proofs.Math.Seq.{drop-cons}
use Rattle.std.proofs.lemmas.List.{length-drop, map_more}
use Rattle.std.proofs.lemmas.List.Elements.{All-map}
use Rattle.std.proofs.lemmas.Slice.Zip.{all_zipped_more}
use Rattle.std.specs.List.{AllZip}
use Rattle.vs_types.specs.Operation.{IsAction}
use Rattle.vs_types.specs.declared.addresses.depth.Depth.{Depth}
use Rattle.nr_core.specs.Steps.{is_some_left, note}
use Rattle.nr_core.specs.declared.states.stage.Answered.{Answered}
use Rattle.nr_core.specs.declared.states.stage.Collected.{Collected}

more : (i : ℕ) → suc i ≡ i + 1
more i = omega arith

-- the first element that passes is here
pub found_at : {A : Type 0} (p : A → Bool) (xs : List A) (i : ℕ) (d : A) → find p (take i xs) ≡ None → i < length xs → p (get_or xs i d) ≡ true
    → find p xs ≡ Some (get_or xs i d)
found_at p [] i d none within passes = absurd (omega (arith, within))
found_at p (x ∷ xs) zero d none within passes = rw passes refl
found_at p (x ∷ xs) (suc i) d none within passes =
    elim (p x) as (λ b. p x ≡ b → cond b (Some x) (find p (take i xs)) ≡ None → cond b (Some x) (find p xs) ≡ Some (get_or xs i d)) [
      | true ↦ λ e wrong. let wrong' : Some x ≡ None = wrong in cc
      | false ↦ λ e rest. found_at p xs i d rest (omega (arith, within)) passes
    ] refl none

-- and none comes before
none_next : {A : Type 0} (p : A → Bool) (xs : List A) (i : ℕ) (d : A) → find p (take i xs) ≡ None → i < length xs → p (get_or xs i d) ≡ false
    → find p (take (suc i) xs) ≡ None
none_next p [] i d none within fails = absurd (omega (arith, within))
none_next p (x ∷ xs) zero d none within fails = rw fails refl
none_next p (x ∷ xs) (suc i) d none within fails =
    elim (p x) as (λ b. p x ≡ b → cond b (Some x) (find p (take i xs)) ≡ None → cond b (Some x) (find p (take (suc i) xs)) ≡ None) [
      | true ↦ λ e wrong. wrong
      | false ↦ λ e rest. none_next p xs i d rest (omega (arith, within)) fails
    ] refl none

pub none_more : {A : Type 0} (p : A → Bool) (xs : List A) (i : ℕ) (d : A) → find p (take i xs) ≡ None → i < length xs → p (get_or xs i d) ≡ false
    → find p (take (i + 1) xs) ≡ None
none_more p xs i d none within fails = subst (λ n. find p (take n xs) ≡ None) (more i) (none_next p xs i d none within fails)

-- what is left of a list, and its first
pub drop_next : {A : Type 0} (xs : List A) (n : ℕ) (x : A) (ys : List A) → drop n xs ≡ x ∷ ys → (n < length xs) × (drop (n + 1) xs ≡ ys)
drop_next xs n x ys is =
    let within : n < length xs = omega (arith, length-drop n xs, ap length is) in
    let both : get_or xs n x ∷ drop (suc n) xs ≡ x ∷ ys = sym (drop-cons xs n x within) ∙ is in
    let rest : drop (suc n) xs ≡ ys = cc in
    (within, rw add-one rest)

-- what is left of a batch
pub some_left : (batch : List Collected) → (length batch ≡ 0 → ⊥) → is_some_left batch ≡ true
some_left [] some = absurd (some refl)
some_left (u ∷ batch) some = refl

pub none_left : (batch : List Collected) → length batch ≡ 0 → is_some_left batch ≡ false
none_left [] none = refl
none_left (u ∷ batch) none = absurd (omega (arith, none))

-- a note leaves the entries
note_entry : (answered : Answered) (u : Collected) → (note answered u).entry ≡ u.entry
note_entry answered u =
    elim (nat_eq u.entry.call answered.call) as (λ b. (cond b (record u { noted = Some answered }) u).entry ≡ u.entry) [ true ↦ refl | false ↦ refl ]

pub noted_good : (depth : Depth) (answered : Answered) (batch : List Collected) → All (λ u. IsAction depth u.entry.op) batch
    → All (λ u. IsAction depth u.entry.op) (map (note answered) batch)
noted_good depth answered batch all =
    All-map (λ (u : Collected). IsAction depth u.entry.op) (note answered) batch
    (λ k d within. subst (λ e. IsAction depth e.op) (sym (note_entry answered (get_or batch k d))) (all k d within))

pub zipped_more : {A B C : Type 0} (R : B → C → Type 0) (f : A → B) (xs : List A) (ys : List C) (i : ℕ) (x : A) (y : C) → i < length xs → get_or xs i x ≡ x
    → AllZip R (map f (take i xs)) ys → R (f x) y → AllZip R (map f (take (i + 1) xs)) (ys ++ y ∷ [])
zipped_more R f xs ys i x y within is all here =
    subst (λ l. AllZip R l (ys ++ y ∷ [])) (sym (map_more f xs i x within ∙ ap (λ z. map f (take i xs) ++ f z ∷ []) is))
    (all_zipped_more R (map f (take i xs)) ys (f x) y all here)
