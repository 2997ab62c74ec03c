-- A page that shares memory with a release leads into a block that the release is about.
use Rattle.std.proofs.Common.{◌≡◌, ℕ, ◌+◌, ◌*◌, ◌-◌, ◌/◌, ◌%◌, ◌<◌, ◌≤◌, ◌⊎◌, inl, inr, refl, sym, ap, ◌∙◌, arith}
use Rattle.vs_types.specs.Page.{bytes_of}
use Rattle.vs_types.specs.declared.addresses.page.Page.{Page}
use Rattle.vs_types.specs.declared.addresses.page.Size.{Size}
use Rattle.vs_types.specs.declared.addresses.page.Size.TheVariants.{K4, M2, G1}
use Rattle.nr_touch.specs.Releases.{HasPhys}
use Rattle.nr_touch.specs.inside.Changes.{number_at}
use Rattle.nr_touch.specs.inside.Blocks.{whole, IsBlockFor, IsBlockOf}
use Rattle.nr_touch.specs.declared.releases.release.Release.{Release}
use Rattle.nr_touch.proofs.Sizes.{own_number}

-- two stretches at multiples of their sizes that share a number: the smaller one lies in the greater one
lies_in : (t s : Size) (q p x : ℕ) → q % bytes_of t ≡ 0 → p % bytes_of s ≡ 0 → q ≤ x → x < q + bytes_of t → p ≤ x → x < p + bytes_of s
    → ((p ≤ q) × (q < p + bytes_of s)) ⊎ ((q ≤ p) × (p < q + bytes_of t))
lies_in K4 K4 q p x a b low high up down = inl (omega (arith, a, b, low, high, up, down), omega (arith, a, b, low, high, up, down))
lies_in M2 K4 q p x a b low high up down = inr (omega (arith, a, b, low, high, up, down), omega (arith, a, b, low, high, up, down))
lies_in G1 K4 q p x a b low high up down = inr (omega (arith, a, b, low, high, up, down), omega (arith, a, b, low, high, up, down))
lies_in G1 M2 q p x a b low high up down = inr (omega (arith, a, b, low, high, up, down), omega (arith, a, b, low, high, up, down))
lies_in _ _ q p x a b low high up down = inl (omega (arith, a, b, low, high, up, down), omega (arith, a, b, low, high, up, down))

some_bytes : (size : Size) (n : ℕ) → n < n + bytes_of size
some_bytes K4 n = omega arith
some_bytes _ n = omega arith

pub shares_block : (page : Page) (release : Release) (phys : ℕ) → page.phys % bytes_of page.size ≡ 0 → release.phys % bytes_of release.size ≡ 0
    → page.phys ≤ phys → phys < page.phys + bytes_of page.size → HasPhys release phys → (block : ℕ) × IsBlockOf page block × IsBlockFor release block
shares_block page release phys a b low high (up, down) =
    by (lies_in page.size release.size page.phys release.phys phys a b low high up down) where
      by : ((release.phys ≤ page.phys) × (page.phys < release.phys + bytes_of release.size))
          ⊎ ((page.phys ≤ release.phys) × (release.phys < page.phys + bytes_of page.size))
          → (block : ℕ) × IsBlockOf page block × IsBlockFor release block
      by (inl (p, q)) =
          let there = own_number release.size release.phys page.phys b p q in
          let here = own_number release.size release.phys release.phys b (omega arith) (some_bytes release.size release.phys) in
          (number_at page.phys release.size, inl (release.size, refl), inl (sym there ∙ here))
      by (inr (p, q)) =
          let there = own_number page.size page.phys release.phys a p q in
          let here = own_number page.size page.phys page.phys a (omega arith) (some_bytes page.size page.phys) in
          (whole page.phys page.size, inr refl, inr (page.size, ap (λ (n : ℕ). n + 3) (sym here ∙ there)))

-- ---- frames of 4,096 bytes

-- a multiple of a size is one of 4,096
pub of_frames : (size : Size) (n : ℕ) → n % bytes_of size ≡ 0 → n % 4096 ≡ 0
of_frames K4 n e = omega arith
of_frames _ n e = omega arith

-- a page has all addresses of a frame, or none
pub frame_covered : (size : Size) (base a b : ℕ) → base % bytes_of size ≡ 0 → a / 4096 ≡ b / 4096 → base ≤ a → a < base + bytes_of size
    → (base ≤ b) × (b < base + bytes_of size)
frame_covered K4 base a b e same low high = (omega (arith, e, same, low, high), omega (arith, e, same, low, high))
frame_covered _ base a b e same low high = (omega (arith, e, same, low, high), omega (arith, e, same, low, high))

-- the number of the frame of an offset, and the offset of the frame
pub record InFrame (base a : ℕ) : Type 0 where
  pub same : a / 4096 ≡ (base + ((a - base) / 4096) * 4096) / 4096
  pub low : base + ((a - base) / 4096) * 4096 ≤ a
  pub high : a < (base + ((a - base) / 4096) * 4096) + 4096

pub in_frame : (base a : ℕ) → base % 4096 ≡ 0 → base ≤ a → InFrame base a
in_frame base a e low = record { same = omega (arith, e, low); low = omega (arith, e, low); high = omega (arith, e, low) }
