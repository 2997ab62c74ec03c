-- Lists of numbers: what they have, and how many different ones.
use Rattle.std.proofs.Common.{◌≡◌, ℕ, ◌+◌, Bool, true, false, cond, nat_eq, List, ◌∷◌, map, filter, length, Contains, ◌⊎◌, inl, inr, ⊎_elim, refl, ◌∙◌, arith}
use Rattle.std.specs.Cmp.{both_ways, nat_eq_equiv}
use Rattle.std.specs.Set.{is_member, unique_keys, distinct_count}
use Rattle.std.proofs.lemmas.Bool.{eq-eqb, eqb-true, or_left, or_right, or_cases}
use Rattle.std.proofs.lemmas.Bool.Decides.{Decides-eqb}
use Rattle.std.proofs.lemmas.Map.Made.{is_member-Decides, length-from_keys}
use Rattle.vs_types.proofs.Lists.{kept_from, kept_to, unique_has, unique_distinct}

-- two lists with the same numbers have as many different ones
pub same_count : (xs ys : List ℕ) → ((q : ℕ) → is_member nat_eq xs q ≡ true → is_member nat_eq ys q ≡ true)
    → ((q : ℕ) → is_member nat_eq ys q ≡ true → is_member nat_eq xs q ≡ true) → distinct_count nat_eq xs ≡ distinct_count nat_eq ys
same_count xs ys forth back =
    length-from_keys nat_eq_equiv (unique_keys nat_eq xs) ys (unique_distinct xs) (λ q. unique_has xs q ∙ both_ways _ _ (forth q) (back q))

-- one number more counts where it is new
pub count_more : (x : ℕ) (xs : List ℕ) → distinct_count nat_eq (x ∷ xs) ≡ cond (is_member nat_eq xs x) 0 1 + distinct_count nat_eq xs
count_more x xs =
    elim (is_member nat_eq xs x) as (λ b. length (cond b (unique_keys nat_eq xs) (x ∷ unique_keys nat_eq xs)) ≡ cond b 0 1 + distinct_count nat_eq xs)
    [ true ↦ omega arith | false ↦ omega arith ]

pub member_here : (n : ℕ) (ns : List ℕ) → is_member nat_eq (n ∷ ns) n ≡ true
member_here n ns = or_left (nat_eq n n) (is_member nat_eq ns n) (eq-eqb n n refl)

pub member_later : (n : ℕ) (ns : List ℕ) (k : ℕ) → is_member nat_eq ns k ≡ true → is_member nat_eq (n ∷ ns) k ≡ true
member_later n ns k m = or_right (nat_eq k n) (is_member nat_eq ns k) m

pub member_cases : (n : ℕ) (ns : List ℕ) (k : ℕ) → is_member nat_eq (n ∷ ns) k ≡ true → (k ≡ n) ⊎ (is_member nat_eq ns k ≡ true)
member_cases n ns k m = ⊎_elim (λ e. inl (eqb-true k n e)) (λ h. inr h) (or_cases (nat_eq k n) (is_member nat_eq ns k) m)

-- ---- numbers of the elements that pass a test

pub member_comes : {X : Type 0} (f : X → ℕ) (test : X → Bool) (xs : List X) (q : ℕ) → is_member nat_eq (map f (filter test xs)) q ≡ true
    → (x : X) × Contains xs x × (test x ≡ true) × (f x ≡ q)
member_comes f test xs q m = kept_from f test xs q ((is_member-Decides Decides-eqb (map f (filter test xs)) q).0 m)

pub member_goes : {X : Type 0} (f : X → ℕ) (test : X → Bool) (xs : List X) (x : X) → Contains xs x → test x ≡ true
    → is_member nat_eq (map f (filter test xs)) (f x) ≡ true
member_goes f test xs x h t = (is_member-Decides Decides-eqb (map f (filter test xs)) (f x)).1 (kept_to f test xs x h t)
