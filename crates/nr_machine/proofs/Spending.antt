-- What is left of a call at each step: plain arithmetic.
use Rattle.std.proofs.Common.{◌≡◌, ℕ, zero, suc, ◌+◌, ◌-◌, ◌*◌, ◌<◌, ◌≤◌, nat_lt, Bool, true, false, cond, Option, Some, None, List, [], ◌∷◌, length, refl, ap, sym, subst, ◌∙◌, arith}
use Rattle.std.proofs.Math.Nat.{mul-le-mul_left}
use Rattle.std.proofs.lemmas.Bool.Decides.{nat_tests}
use Rattle.nr_machine.specs.declared.node.Node.{Node}
use Rattle.nr_machine.specs.declared.words.Update.{Update}
use Rattle.nr_machine.specs.Bound.{Spends, attempt_of, left, price, total, wants_at}
use Rattle.nr_machine.specs.Fields.{batch_of}

pub attempt_most : (nodes : ℕ) (updates : List Update) → attempt_of nodes updates ≤ nodes + 2 * length updates + 1
attempt_most nodes [] = omega arith
attempt_most nodes (update ∷ updates) = omega arith

pub attempt_some : (nodes : ℕ) (updates : List Update) → 0 < length updates → attempt_of nodes updates ≡ nodes + 2 * length updates + 1
attempt_some nodes [] some = absurd (omega (arith, some))
attempt_some nodes (update ∷ updates) some = refl

pub cond_most : (b : Bool) (a : ℕ) → cond b a 0 ≤ a
cond_most true a = omega arith
cond_most false a = omega arith

pub cond_some : (b : Bool) (a : ℕ) → b ≡ true → cond b a 0 ≡ a
cond_some true a is = refl
cond_some false a is = absurd (cc)

-- it saw no further entries
pub quietly : (x seen later p before : ℕ) {F : Type 0} → later ≡ seen → x + 1 ≤ before → F
    → (seen ≤ later) × (x + 1 ≤ before + p * (later - seen))
quietly x seen later p before {F} same spent fit = (omega (arith, same), omega (arith, spent))

-- it looked at the head: what was left at an earlier tail is left, but for the price of what was appended since
pub looks_on : (x w s t n a : ℕ) → s ≤ n → x + 1 ≤ 5 + w + 6 * (n - t) → x + 1 ≤ 5 + w + 6 * (s - t) + (a + 6) * (n - s)
looks_on x w s t n a le spent = let more : 6 * (n - t) ≤ 6 * (s - t) + 6 * (n - s) = omega (arith, le) in omega (arith, spent, more)

-- an attempt was lost to an entry
pub lost : (x w s t n a : ℕ) → w ≤ a → s < n → x + 1 ≤ 5 + w + 6 * (n - t) → x + 1 ≤ 5 + 6 * (s - t) + (a + 6) * (n - s)
lost x w s t n a most lt spent =
    let k : a * 1 ≤ a * (n - s) = mul-le-mul_left a (let one : 1 ≤ n - s = omega (arith, lt) in one) in
    let more : 6 * (n - t) ≤ 6 * (s - t) + 6 * (n - s) = omega (arith, lt) in
    omega (arith, spent, most, k, more)

-- it has appended: its own entries are to be taken
pub won : (s l t applied a : ℕ) → applied ≡ t → t ≤ s
    → 2 * (s + l - t) + (s + l - applied) + 2 + 2 + 1 ≤ 5 + 6 * (s - t) + (a + 6) * (s + l - s)
won s l t applied a even le =
    let own : s + l - s ≡ l = omega arith in
    let all : s + l - t ≡ s - t + l = omega (arith, le) in
    omega (arith, even, own, all)

pub flushed_again : (b : Bool) (a d : ℕ) → b ≡ true → d ≡ 0 → 5 + cond b a 0 + 6 * d + 1 ≤ 1 + cond b (5 + a) 2
flushed_again true a d is none = omega (arith, none)
flushed_again false a d is none = absurd (cc)

pub flushed_last : (b : Bool) (a : ℕ) → 2 + 1 ≤ 1 + cond b (5 + a) 2
flushed_last true a = omega arith
flushed_last false a = omega arith

-- what it does once it has seen a tail
pub stores_next : (b : Bool) (a nodes count d : ℕ) → b ≡ true → a ≡ nodes + 2 * count + 1
    → 2 * (count - 0) + 5 + 6 * d + 1 ≤ 5 + cond b a 0 + 6 * d
stores_next true a nodes count d is is_a = omega (arith, is_a)
stores_next false a nodes count d is is_a = absurd (cc)

pub scans_next : (b : Bool) (a nodes count d : ℕ) → b ≡ true → a ≡ nodes + 2 * count + 1
    → nodes - 0 + 2 * count + 5 + 6 * d + 1 ≤ 5 + cond b a 0 + 6 * d
scans_next true a nodes count d is is_a = omega (arith, is_a)
scans_next false a nodes count d is is_a = absurd (cc)

pub loads_next : (b : Bool) (a seen taken applied : ℕ) → taken < seen → applied ≡ taken
    → 2 * (seen - taken) + (seen - applied) + 2 + cond b (5 + a) 2 + 1 ≤ 5 + cond b a 0 + 6 * (seen - taken)
loads_next true a seen taken applied lt even = omega (arith, lt, even)
loads_next false a seen taken applied lt even = omega (arith, lt, even)

pub wants_some : (standing : Option ℕ) (count : ℕ) → wants_at standing count ≡ true → 0 < count
wants_some None count is = grind (arith, nat_tests, is)
wants_some (Some first) count is = absurd (cc)

pub wants_none : (standing : Option ℕ) (count : ℕ) → standing ≡ None → 0 < count → wants_at standing count ≡ true
wants_none None count none some = grind (arith, nat_tests, some)
wants_none (Some first) count none some = absurd (cc)

-- so many steps spend no more than there is
pub spent_in_all : (machine : ℕ → Node) (lagged : ℕ → ℕ) (count : ℕ)
    → ((i : ℕ) → i < count → Spends (lagged i) (machine i) (machine (i + 1)))
    → count + left (machine count)
    ≤ left (machine 0) + price (machine 0) * ((machine count).seen - (machine 0).seen) + ((machine 0).nodes + 2) * total lagged count
spent_in_all machine lagged count spends = (within count (omega arith)).3 where
  Within : ℕ → Type 0
  Within k = ((machine k).nodes ≡ (machine 0).nodes) × (batch_of (machine k) ≡ batch_of (machine 0))
      × ((machine 0).seen ≤ (machine k).seen)
      × (k + left (machine k)
      ≤ left (machine 0) + price (machine 0) * ((machine k).seen - (machine 0).seen) + ((machine 0).nodes + 2) * total lagged k)

  both : (p a b c : ℕ) → a ≤ b → b ≤ c → p * (b - a) + p * (c - b) ≡ p * (c - a)
  both p a b c one two =
      let all : b - a + (c - b) ≡ c - a = omega (arith, one, two) in
      let sum : p * (b - a + (c - b)) ≡ p * (c - a) = ap (λ (y : ℕ). p * y) all in
      omega (arith, sum)

  step : (k x y p q m n l t a b c before : ℕ) → p ≡ q → m ≡ n → a ≤ b → b ≤ c → k + x ≤ before + q * (b - a) + (n + 2) * t
      → y + 1 ≤ x + p * (c - b) + (m + 2) * l → k + 1 + y ≤ before + q * (c - a) + (n + 2) * (t + l)
  step k x y p q m n l t a b c before same_price same_nodes one two so_far now =
      let now_as : y + 1 ≤ x + q * (c - b) + (n + 2) * l =
      subst (λ (r : ℕ). y + 1 ≤ x + q * (c - b) + (r + 2) * l) same_nodes
      (subst (λ (r : ℕ). y + 1 ≤ x + r * (c - b) + (m + 2) * l) same_price now) in
      let sum : q * (b - a) + q * (c - b) ≡ q * (c - a) = both q a b c one two in
      omega (arith, so_far, now_as, sum)

  within : (k : ℕ) → k ≤ count → Within k
  within zero le = (refl, refl, omega arith, omega arith)
  within (suc k) le =
      let (nodes, batch, seen, so_far) = within k (omega (arith, le)) in
      let next = spends k (omega (arith, le)) in
      let at : k + 1 ≡ suc k = omega arith in
      subst Within at (
        next.nodes ∙ nodes,
        next.batch ∙ batch,
        (let later = next.seen in omega (arith, seen, later)),
        subst (λ (t : ℕ). k + 1 + left (machine (k + 1))
            ≤ left (machine 0) + price (machine 0) * ((machine (k + 1)).seen - (machine 0).seen) + ((machine 0).nodes + 2) * t)
            (ap (total lagged) (sym at))
            (step k (left (machine k)) (left (machine (k + 1))) (price (machine k)) (price (machine 0)) (machine k).nodes (machine 0).nodes
            (lagged k) (total lagged k)
            (machine 0).seen (machine k).seen (machine (k + 1)).seen (left (machine 0))
            (ap (λ (m : ℕ). attempt_of m (batch_of (machine k)) + 6) nodes
            ∙ ap (λ (us : List Update). attempt_of (machine 0).nodes us + 6) batch)
            nodes seen next.seen so_far next.spent),
      )
