-- What the rule of the slots says of an operation is so.
use Rattle.std.proofs.Common.{◌≡◌, ℕ, ◌+◌, ◌%◌, ◌≤◌, Bool, true, inl, inr, arith}
use Rattle.std.proofs.lemmas.Bool.{cases_lt, cases_Bool}
use Rattle.std.proofs.lemmas.Grind.{not_there}
use Rattle.vs_types.specs.Depth.{is_canonical}
use Rattle.vs_types.specs.Operation.{IsAction, IsBase}
use Rattle.vs_types.specs.Page.{IsPage, bytes_of}
use Rattle.vs_types.specs.declared.addresses.depth.Depth.{Depth}
use Rattle.vs_types.specs.declared.requests.op.Action.{Action}
use Rattle.vs_types.specs.declared.requests.op.Action.TheVariants.{Map, Unmap, Protect}
use Rattle.vs_types.specs.declared.addresses.page.Page.{Page}
use Rattle.vs_types.specs.declared.addresses.page.TheConstants.Page.{PHYS_END}

le_from : {A : Type 0} (m n : ℕ) → ∥ A ∥₁ → (A → m ≤ n) → m ≤ n
le_from m n a so = elim (cases_lt n m) [ inl below ↦ absurd (not_there a (λ x. omega (arith, so x))) | inr above ↦ above ]

same_from : {A : Type 0} (m n : ℕ) → ∥ A ∥₁ → (A → m ≡ n) → m ≡ n
same_from m n a so =
    let low : m ≤ n = le_from m n a (λ x. omega (arith, so x)) in
    let high : n ≤ m = le_from n m a (λ x. omega (arith, so x)) in
    omega arith

true_from : {A : Type 0} (b : Bool) → ∥ A ∥₁ → (A → b ≡ true) → b ≡ true
true_from b a so = elim (cases_Bool b) [ inl set ↦ set | inr unset ↦ absurd (not_there a (λ x. let e = so x in cc)) ]

base_from : (depth : Depth) (base : ℕ) → ∥ IsBase depth base ∥₁ → IsBase depth base
base_from depth base is = record {
  canonical = true_from (is_canonical depth base) is (λ b. b.canonical);
  aligned = same_from (base % 4096) 0 is (λ b. b.aligned);
}

page_from : (depth : Depth) (page : Page) → ∥ IsPage depth page ∥₁ → IsPage depth page
page_from depth page is = record {
  canonical = true_from (is_canonical depth page.base) is (λ p. p.canonical);
  aligned = same_from (page.base % bytes_of page.size) 0 is (λ p. p.aligned);
  phys_aligned = same_from (page.phys % bytes_of page.size) 0 is (λ p. p.phys_aligned);
  phys_range = le_from (page.phys + bytes_of page.size) PHYS_END is (λ p. p.phys_range);
}

pub action_from : (depth : Depth) (op : Action) → ∥ IsAction depth op ∥₁ → IsAction depth op
action_from depth (Map page) is = page_from depth page is
action_from depth (Unmap base) is = base_from depth base is
action_from depth (Protect base rights) is = base_from depth base is
