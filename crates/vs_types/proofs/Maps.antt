-- What a finite map has at a key after a change, and how many entries it then has.
use Rattle.std.proofs.Common.{◌≡◌, ◌≢◌, ℕ, ◌+◌, ◌-◌, cond, eqb, refl, sym, ap, ◌∙◌, arith}
use Rattle.std.specs.Prelude.{Some, None, is_some}
use Rattle.std.specs.FinMap as finite
use Rattle.std.specs.Ordering.{nat_cmp}
use Rattle.std.specs.Cmp.{nat_cmp_total, unsigned_tied}
use Rattle.std.proofs.lemmas.Bool.{eq-eqb, ne_eqb}
use Rattle.std.proofs.lemmas.Option.{none-some}

pub get-insert : {X : Type 0} (m : finite.FinMap nat_cmp X) (k : ℕ) (v : X) (q : ℕ)
    → finite.get (finite.insert m k v) q ≡ cond (eqb q k) (Some v) (finite.get m q)
get-insert m k v q = finite.get-insert nat_cmp_total m k v q ∙ ap (λ b. cond b (Some v) (finite.get m q)) (unsigned_tied q k)

pub get-remove : {X : Type 0} (m : finite.FinMap nat_cmp X) (k q : ℕ) → finite.get (finite.remove m k) q ≡ cond (eqb q k) None (finite.get m q)
get-remove m k q = finite.get-remove nat_cmp_total m k q ∙ ap (λ b. cond b None (finite.get m q)) (unsigned_tied q k)

pub get-insert_same : {X : Type 0} (m : finite.FinMap nat_cmp X) (k : ℕ) (v : X) → finite.get (finite.insert m k v) k ≡ Some v
get-insert_same m k v = get-insert m k v k ∙ ap (λ b. cond b (Some v) (finite.get m k)) (eq-eqb k k refl)

pub get-insert_other : {X : Type 0} (m : finite.FinMap nat_cmp X) (k : ℕ) (v : X) (q : ℕ) → q ≢ k
    → finite.get (finite.insert m k v) q ≡ finite.get m q
get-insert_other m k v q h = get-insert m k v q ∙ ap (λ b. cond b (Some v) (finite.get m q)) (ne_eqb q k h)

pub get-remove_same : {X : Type 0} (m : finite.FinMap nat_cmp X) (k : ℕ) → finite.get (finite.remove m k) k ≡ None
get-remove_same m k = get-remove m k k ∙ ap (λ b. cond b None (finite.get m k)) (eq-eqb k k refl)

pub get-remove_other : {X : Type 0} (m : finite.FinMap nat_cmp X) (k q : ℕ) → q ≢ k → finite.get (finite.remove m k) q ≡ finite.get m q
get-remove_other m k q h = get-remove m k q ∙ ap (λ b. cond b None (finite.get m q)) (ne_eqb q k h)

pub len-insert_free : {X : Type 0} (m : finite.FinMap nat_cmp X) (k : ℕ) (v : X) → finite.get m k ≡ None
    → finite.len (finite.insert m k v) ≡ finite.len m + 1
len-insert_free m k v h = finite.len-insert nat_cmp_total m k v ∙ ap (λ o. cond (is_some o) (finite.len m) (finite.len m + 1)) h

pub len-insert_used : {X : Type 0} (m : finite.FinMap nat_cmp X) (k : ℕ) (v own : X) → finite.get m k ≡ Some own
    → finite.len (finite.insert m k v) ≡ finite.len m
len-insert_used m k v own h = finite.len-insert nat_cmp_total m k v ∙ ap (λ o. cond (is_some o) (finite.len m) (finite.len m + 1)) h

pub len-remove_used : {X : Type 0} (m : finite.FinMap nat_cmp X) (k : ℕ) (own : X) → finite.get m k ≡ Some own
    → finite.len (finite.remove m k) + 1 ≡ finite.len m
len-remove_used m k own h =
    let fewer = finite.len-remove nat_cmp_total m k ∙ ap (λ o. cond (is_some o) (finite.len m - 1) (finite.len m)) h in
    let some : finite.len m ≡ 0 → ⊥ =
    λ none. none-some own (sym (ap (λ n. finite.get n k) (finite.empty_of_len m none) ∙ finite.get-empty nat_cmp k) ∙ h) in
    omega arith
