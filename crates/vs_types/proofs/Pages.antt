-- What pages cover.
use Rattle.std.proofs.Common.{◌≡◌, ℕ, ◌+◌, ◌-◌, ◌*◌, ◌%◌, ◌^◌, ◌<◌, ◌≤◌, max, IsTrue, ◌↔◌, ◌⊎◌, inl, inr, ⊎_elim, sym, ap, arith}
use Rattle.std.proofs.lemmas.Bool.Decides.{nat_tests}
use Rattle.std.proofs.Common.{nat_lt, nat_le, ◌||◌, ◌&&◌, ◌∙◌, add-zero, pow_pos, le_trans, lt_of_lt_of_le}
use Rattle.std.proofs.lemmas.Nat.{pow-add, mod-mul-add}
use Rattle.vs_types.specs.Depth.{levels, half_bytes, IsCanonical}
use Rattle.vs_types.specs.declared.addresses.depth.Depth.{Depth}
use Rattle.vs_types.specs.declared.addresses.depth.Depth.TheVariants.{Four, Five}
use Rattle.vs_types.specs.declared.addresses.page.Page.{Page}
use Rattle.vs_types.specs.declared.addresses.page.Size.{Size}
use Rattle.vs_types.specs.declared.addresses.page.Size.TheVariants.{K4}
use Rattle.vs_types.specs.Page.{level_of, bytes_of, end_of, covers, overlaps, IsPageBelow}

pub bytes_positive : (size : Size) → 0 < bytes_of size
bytes_positive K4 = omega arith
bytes_positive _ = omega arith

-- a page has the addresses from its base up to its end
pub covers_means : (p : Page) (a : ℕ) → IsTrue (covers p a) ↔ ((p.base ≤ a) × (a < end_of p))
covers_means p a = (λ h. grind (arith, nat_tests), λ h. grind (arith, nat_tests))

pub covers_base : (p : Page) → IsTrue (covers p p.base)
covers_base p = (covers_means p p.base).1 (omega arith, omega (arith, bytes_positive p.size))

pub overlaps_means : (p q : Page) → IsTrue (overlaps p q) ↔ ((p.base < end_of q) × (q.base < end_of p))
overlaps_means p q = (λ h. grind (arith, nat_tests), λ h. grind (arith, nat_tests))

-- two pages overlap where some address is in both
pub overlaps_shares : (p q : Page) → IsTrue (overlaps p q) ↔ ((a : ℕ) × IsTrue (covers p a) × IsTrue (covers q a))
overlaps_shares p q = (
  λ h.
      let ends = (overlaps_means p q).0 h in (
        max p.base q.base,
        (covers_means p (max p.base q.base)).1 (omega arith, omega (arith, ends, bytes_positive p.size, bytes_positive q.size)),
        (covers_means q (max p.base q.base)).1 (omega arith, omega (arith, ends, bytes_positive p.size, bytes_positive q.size)),
      ),
  λ h.
      let left = (covers_means p h.0).0 h.1 in
      let right = (covers_means q h.0).0 h.2 in
      (overlaps_means p q).1 (omega arith, omega arith),
)

-- two pages with the same parts are equal
pub same_page : (p q : Page) → p.base ≡ q.base → p.size ≡ q.size → p.phys ≡ q.phys → p.rights ≡ q.rights → p ≡ q
same_page p q base size phys rights = λ i. record { base = base i; size = size i; phys = phys i; rights = rights i }

-- ---- the addresses of a page are canonical

-- no depth has fewer levels than there are sizes
pub three_levels : (depth : Depth) → 3 ≤ levels depth
three_levels Four = omega arith
three_levels Five = omega arith

-- a power of two divides each greater one
pub pow_multiple : (e k : ℕ) → k ≤ e → 2 ^ e % 2 ^ k ≡ 0
pow_multiple e k le =
    let parts : 2 ^ e ≡ 2 ^ (e - k) * 2 ^ k + 0 = ap (λ n. 2 ^ n) (split e k le) ∙ pow-add 2 (e - k) k ∙ sym (add-zero _) in
    ap (λ n. n % 2 ^ k) parts ∙ mod-mul-add (2 ^ (e - k)) (2 ^ k) 0 (pow_pos k)
  where
    split : (e k : ℕ) → k ≤ e → e ≡ (e - k) + k
    split e k le = omega arith

pub level_some : (size : Size) → 0 < level_of size
level_some K4 = omega arith
level_some _ = omega arith

pub level_at_most : (size : Size) → level_of size ≤ 3
level_at_most K4 = omega arith
level_at_most _ = omega arith

-- pages fit into each half exactly
pub half_multiple : (depth : Depth) (size : Size) → half_bytes depth % bytes_of size ≡ 0
half_multiple depth size = pow_multiple (12 + 9 * levels depth - 1) (3 + 9 * level_of size) (omega (arith, three_levels depth, level_at_most size))

all_multiple : (size : Size) → 2 ^ 64 % bytes_of size ≡ 0
all_multiple size = pow_multiple 64 (3 + 9 * level_of size) (omega (arith, level_at_most size))

-- a page that begins before a multiple of its size ends there or before
pub ends_before : (size : Size) (base end : ℕ) → base % bytes_of size ≡ 0 → end % bytes_of size ≡ 0 → base < end → base + bytes_of size ≤ end
ends_before K4 base end b e lt = omega arith
ends_before _ base end b e lt = omega arith

-- two aligned addresses, of which one is less than a page above the other
pub same_aligned : (size : Size) (a b : ℕ) → a % bytes_of size ≡ 0 → b % bytes_of size ≡ 0 → b ≤ a → a < b + bytes_of size → b ≡ a
same_aligned K4 a b p q le lt = omega arith
same_aligned _ a b p q le lt = omega arith

canonical_test : (half all a : ℕ) → IsTrue (nat_lt a half || (nat_le (all - half) a && nat_lt a all)) ↔ ((a < half) ⊎ ((all - half ≤ a) × (a < all)))
canonical_test half all a = (λ h. grind (arith, nat_tests), λ h. grind (arith, nat_tests))

pub canonical_means : (depth : Depth) (a : ℕ) → IsCanonical depth a ↔ ((a < half_bytes depth) ⊎ ((2 ^ 64 - half_bytes depth ≤ a) × (a < 2 ^ 64)))
canonical_means depth a = canonical_test (half_bytes depth) (2 ^ 64) a

-- a canonical address has 64 bits
pub canonical_fits : (depth : Depth) (a : ℕ) → IsCanonical depth a → a < 2 ^ 64
canonical_fits depth a is = ⊎_elim (λ low. lt_of_lt_of_le low (half_fits depth)) (λ high. high.1) ((canonical_means depth a).0 is) where
  half_fits : (d : Depth) → half_bytes d ≤ 2 ^ 64
  half_fits Four = omega arith
  half_fits Five = omega arith

pub covered_canonical : (limit : ℕ) (depth : Depth) (page : Page) (a : ℕ) → IsPageBelow limit depth page → IsTrue (covers page a) → IsCanonical depth a
covered_canonical limit depth page a is covered =
    let at = (covers_means page a).0 covered in
    (canonical_means depth a).1 (⊎_elim
    (λ low. inl (lt_of_lt_of_le at.1 (ends_before page.size page.base (half_bytes depth) is.aligned (half_multiple depth page.size) low)))
    (λ high. inr (le_trans high.0 at.0, lt_of_lt_of_le at.1 (ends_before page.size page.base (2 ^ 64) is.aligned (all_multiple page.size) high.1)))
    ((canonical_means depth page.base).0 is.canonical))
