-- Fields of five bits after a number, packed into one.
use Rattle.std.proofs.Common.{◌≡◌, ◌≢◌, ℕ, zero, suc, ◌+◌, ◌-◌, ◌*◌, ◌/◌, ◌%◌, ◌^◌, ◌<◌, ◌≤◌, nat_le, List, [], ◌∷◌, ◌++◌, length, get_or, set, refl, ap, sym}
use Rattle.std.proofs.Common.{◌∙◌, subst, arith}
use Rattle.std.proofs.Math.Nat.{div-div-eq-div-mul, mul-le-mul_left, mul-le-mul_right, pow-le-pow_right, pow-succ'}
use Rattle.std.proofs.lemmas.Nat.{pow-add}
use Rattle.nr_ring.specs.inside.Codes.{above, for_each, packed, room_of, rooms_of}

abbrev pub Small : List ℕ → Type 0
Small fields = (k : ℕ) → get_or fields k 0 < 32

above_more : (code n : ℕ) → above code (suc n) ≡ above code n / 32
above_more code n =
    let e : 5 * suc n ≡ 5 * n + 5 = omega arith in
    ap (λ (k : ℕ). code / 2 ^ k) e ∙ (ap (λ (z : ℕ). code / z) (pow-add 2 (5 * n) 5) ∙ sym (div-div-eq-div-mul code (2 ^ (5 * n)) 32))

pub above_packed : (number : ℕ) (fields : List ℕ) → Small fields → above (packed number fields) (length fields) ≡ number
above_packed number [] small = omega arith
above_packed number (field ∷ fields) small =
    let low : field < 32 = small 0 in
    let all = packed (number * 32 + field) fields in
    let rest = above_packed (number * 32 + field) fields (λ k. small (suc k)) in
    above_more all (length fields) ∙ (ap (λ (z : ℕ). z / 32) rest ∙ omega (arith, low))

pub field_packed : (number : ℕ) (fields : List ℕ) (r : ℕ) → Small fields → r < length fields
    → above (packed number fields) (length fields - (r + 1)) % 32 ≡ get_or fields r 0
field_packed number [] r small lt = absurd (omega arith)
field_packed number (field ∷ fields) zero small lt =
    let low : field < 32 = small 0 in
    let all = packed (number * 32 + field) fields in
    let at : suc (length fields) - 1 ≡ length fields = omega arith in
    let rest = above_packed (number * 32 + field) fields (λ k. small (suc k)) in
    ap (λ (n : ℕ). above all n % 32) at ∙ (ap (λ (z : ℕ). z % 32) rest ∙ omega (arith, low))
field_packed number (field ∷ fields) (suc r) small lt =
    let all = packed (number * 32 + field) fields in
    let at : suc (length fields) - (suc r + 1) ≡ length fields - (r + 1) = omega arith in
    ap (λ (n : ℕ). above all n % 32) at ∙ field_packed (number * 32 + field) fields r (λ k. small (suc k)) (omega arith)

-- a greater number before fields
pub packed_after : (number number' : ℕ) (fields fields' : List ℕ) → number < number' → length fields ≡ length fields' → Small fields
    → packed number fields < packed number' fields'
packed_after number number' [] [] lt long small = lt
packed_after number number' [] (f ∷ fs) lt long small = absurd (omega arith)
packed_after number number' (f ∷ fs) [] lt long small = absurd (omega arith)
packed_after number number' (f ∷ fs) (f' ∷ fs') lt long small =
    let low : f < 32 = small 0 in
    packed_after (number * 32 + f) (number' * 32 + f') fs fs' (omega (arith, low)) (omega arith) (λ k. small (suc k))

-- one field that is greater, after equal ones
pub packed_raised : (number : ℕ) (fields fields' : List ℕ) (r : ℕ) → r < length fields → length fields ≡ length fields' → Small fields
    → ((k : ℕ) → k < r → get_or fields k 0 ≡ get_or fields' k 0) → get_or fields r 0 < get_or fields' r 0
    → packed number fields < packed number fields'
packed_raised number [] fields' r lt long small same up = absurd (omega arith)
packed_raised number (f ∷ fs) [] r lt long small same up = absurd (omega arith)
packed_raised number (f ∷ fs) (f' ∷ fs') zero lt long small same up =
    packed_after (number * 32 + f) (number * 32 + f') fs fs' (omega arith) (omega arith) (λ k. small (suc k))
packed_raised number (f ∷ fs) (f' ∷ fs') (suc r) lt long small same up =
    let first : f ≡ f' = same 0 (omega arith) in
    let At : ℕ → Type 0 = λ z. packed (number * 32 + f) fs < packed (number * 32 + z) fs' in
    subst At first
    (packed_raised (number * 32 + f) fs fs' r (omega arith) (omega arith) (λ k. small (suc k)) (λ k below. same (suc k) (omega arith)) up)

-- one field more at the end
pub packed_end : (number : ℕ) (fields : List ℕ) (field : ℕ) → packed number (fields ++ field ∷ []) ≡ packed number fields * 32 + field
packed_end number [] field = refl
packed_end number (f ∷ fs) field = packed_end (number * 32 + f) fs field

-- it is small where its fields are
pub packed_low : (number : ℕ) (fields : List ℕ) → ((k : ℕ) → get_or fields k 0 ≤ 16106127376) → packed number fields + 536870912 ≤
    (number + 536870912) * 32 ^ length fields
packed_low number [] low = omega arith
packed_low number (f ∷ fs) low =
    let first : f ≤ 16106127376 = low 0 in
    let p = 32 ^ length fs in
    let more : number * 32 + f + 536870912 ≤ (number + 536870912) * 32 = omega (arith, first) in
    let rest = packed_low (number * 32 + f) fs (λ k. low (suc k)) in
    let power : (number + 536870912) * 32 ^ suc (length fs) ≡ (number + 536870912) * 32 * p =
    ap (λ (z : ℕ). (number + 536870912) * z) (pow-succ' 32 (length fs)) ∙ omega arith in
    omega (arith, rest, mul-le-mul_right p more, power)

pub few_low : (number : ℕ) (fields : List ℕ) → number ≤ 16106127360 → length fields ≤ 4 → ((k : ℕ) → get_or fields k 0 ≤ 16106127376)
    → packed number fields < 2 ^ 54
few_low number fields le few low =
    let power : 32 ^ length fields ≤ 2 ^ 20 = pow-le-pow_right {n = 32} (omega arith) few in
    let all = packed_low number fields low in
    omega (arith, all, le, mul-le-mul_left (number + 536870912) power)

-- ---- rooms

pub rooms_long : (tail : ℕ) (locals : List ℕ) (first count : ℕ) → length (rooms_of tail locals first count) ≡ length locals
rooms_long tail [] first count = refl
rooms_long tail (l ∷ ls) first count = ap suc (rooms_long tail ls (first + 1) count)

pub room_in : (tail : ℕ) (locals : List ℕ) (first count k : ℕ) → k < length locals
    → get_or (rooms_of tail locals first count) k 0 ≡ room_of tail (get_or locals k 0) (nat_le (first + k + 1) count)
room_in tail [] first count k lt = absurd (omega arith)
room_in tail (l ∷ ls) first count zero lt = ap (λ (n : ℕ). room_of tail l (nat_le n count)) (omega arith)
room_in tail (l ∷ ls) first count (suc k) lt =
    room_in tail ls (first + 1) count k (omega arith) ∙ ap (λ (n : ℕ). room_of tail (get_or ls k 0) (nat_le n count)) (omega arith)

-- ---- values for each replica

pub listed : (of : ℕ → ℕ) (first n k : ℕ) → k < n → get_or (for_each of first n) k 0 ≡ of (first + k)
listed of first zero k lt = absurd (omega arith)
listed of first (suc n) zero lt = ap of (omega arith)
listed of first (suc n) (suc k) lt = listed of (first + 1) n k (omega arith) ∙ ap of (omega arith)

pub same_listed : (of by : ℕ → ℕ) (first n : ℕ) → ((k : ℕ) → first ≤ k → k < first + n → of k ≡ by k) → for_each of first n ≡ for_each by first n
same_listed of by first zero same = refl
same_listed of by first (suc n) same =
    λ i. same first (omega arith) (omega arith) i ∷ same_listed of by (first + 1) n (λ k low lt. same k (omega arith) (omega arith)) i

pub set_listed : (of by : ℕ → ℕ) (first n r to : ℕ) → r < n → to ≡ by (first + r) → ((k : ℕ) → k ≢ first + r → of k ≡ by k)
    → set (for_each of first n) r to ≡ for_each by first n
set_listed of by first zero r to lt here same = absurd (omega arith)
set_listed of by first (suc n) zero to lt here same =
    let at : first + 0 ≡ first = omega arith in
    λ i. (here ∙ ap by at) i ∷ same_listed of by (first + 1) n (λ k low up. same k (λ e. omega arith)) i
set_listed of by first (suc n) (suc r) to lt here same =
    let at : first + suc r ≡ first + 1 + r = omega arith in
    λ i. same first (λ e. omega arith) i
    ∷ set_listed of by (first + 1) n r to (omega arith) (here ∙ ap by at) (λ k other. same k (λ e. other (e ∙ at))) i
