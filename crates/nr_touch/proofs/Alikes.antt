-- Up to where the addresses behind one have the same changes.
use Rattle.std.proofs.Common.{◌≡◌, ℕ, ◌+◌, ◌-◌, ◌%◌, ◌<◌, ◌≤◌, inl, inr, List, Contains, get_or, length, min, arith}
use Rattle.std.proofs.lemmas.Bool.{cases_lt}
use Rattle.vs_types.specs.Page.{bytes_of, level_of}
use Rattle.vs_types.specs.declared.addresses.page.Size.{Size}
use Rattle.vs_types.specs.declared.addresses.page.Size.TheVariants.{K4, M2, G1}
use Rattle.vs_types.proofs.Pages.{covers_means, level_at_most}
use Rattle.nr_touch.specs.inside.Alike.{AreAlikeTo, IsAlikeIn, IsBefore}
use Rattle.nr_touch.specs.inside.Bounds.{IsBoundary}
use Rattle.nr_touch.specs.inside.Changes.{number_at}
use Rattle.nr_touch.specs.inside.Columns.{AreColumns, Covers, IsNumbered, IsOf}
use Rattle.nr_touch.specs.declared.changes.change.PlacedChange.{PlacedChange}
use Rattle.nr_touch.specs.declared.changes.history.History.{History}
use Rattle.nr_touch.proofs.Blocks.{of_frames}
use Rattle.nr_touch.proofs.Found.{as_many, element, far_page, page_at}
use Rattle.nr_touch.proofs.Sizes.{number_covered}

-- the base of the page of a size that has the address
base_at : (size : Size) (a base : ℕ) → base % bytes_of size ≡ 0 → base ≤ a → a < base + bytes_of size → base ≡ a - a % bytes_of size
base_at K4 a base e low high = omega (arith, e, low, high)
base_at _ a base e low high = omega (arith, e, low, high)

module _ (changes : List PlacedChange) (numbered : (c : PlacedChange) → Contains changes c → IsNumbered c) (address small large huge behind last : ℕ)
    (of_small : IsAlikeIn changes address K4 small) (of_large : IsAlikeIn changes address M2 large) (of_huge : IsAlikeIn changes address G1 huge)
    (before : IsBefore changes address behind) (low : last ≤ min (min (min small large) huge) behind) where
  within : (size : Size) (c : PlacedChange) → Contains changes c → IsOf (number_at address size) c → last < address - address % bytes_of size + bytes_of size
  within K4 c has of = let w = of_small.within c has of in omega (arith, w, low)
  within M2 c has of = let w = of_large.within c has of in omega (arith, w, low)
  within G1 c has of = let w = of_huge.within c has of in omega (arith, w, low)

  forth : (b : ℕ) → address ≤ b → b ≤ last → (c : PlacedChange) → Contains changes c → Covers address c → Covers b c
  forth b from high c has covered =
      let page = c.change.page in
      let at = (covers_means page address).0 covered in
      let w = within page.size c has (number_covered c address (numbered c has) covered) in
      let base = base_at page.size address page.base (numbered c has).aligned at.0 at.1 in
      (covers_means page b).1 (omega (arith, at.0, from), omega (arith, w, base, high))

  back : (b : ℕ) → address ≤ b → b ≤ last → (c : PlacedChange) → Contains changes c → Covers b c → Covers address c
  back b from high c has covered =
      let page = c.change.page in
      let at = (covers_means page b).0 covered in
      elim (cases_lt address page.base) [
        | inl later ↦ absurd (let far = before.none c has later in omega (arith, far, low, high, at.0))
        | inr begun ↦ (covers_means page address).1 (begun, omega (arith, at.1, from))
      ]

  pub alike_to : address ≤ last → AreAlikeTo changes address last
  alike_to up = record { up = up; alike = λ b from high c has. (forth b from high c has, back b from high c has) }

-- ---- the first page behind an address

far_up : (address number last first : ℕ) → address + 4095 ≤ first → first % 4096 < 4 → number ≡ first → last + 1 ≡ number - number % 4096 → address ≤ last
far_up address number last first least small is at = omega (arith, least, small, is, at)

small_by : (base level number first : ℕ) → number ≡ base + level → first ≡ number → level ≤ 3 → base % 4096 ≡ 0 → first % 4096 < 4
small_by base level number first own its most aligned = omega (arith, own, its, most, aligned)

next_base : (base level own_number own first number last : ℕ) → own_number ≡ base + level → own ≡ own_number → level ≤ 3 → base % 4096 ≡ 0 → first ≤ own
    → number ≡ first → last + 1 ≡ number - number % 4096 → last < base
next_base base level own_number own first number last is its most aligned up same at = omega (arith, is, its, most, aligned, up, same, at)

some_up : (address number first : ℕ) → address + 4095 ≤ first → first % 4096 < 4 → number ≡ first → 1 ≤ number - number % 4096
some_up address number first least small is = omega (arith, least, small, is)

module _ (h : History) (are : AreColumns h) (address k : ℕ) (aligned : address % 4096 ≡ 0)
    (found : IsBoundary h.pages.items h.places.items (address + 4095) 0 k) where
  -- a change of a page that begins behind the address lies from the boundary on
  later : (c : PlacedChange) (j : ℕ) → j < length h.changes.items → get_or h.changes.items j c ≡ c → address < c.change.page.base → k ≤ j
  later c j l is far =
      let known = are.numbered c (j, l, is) in
      let number = page_at h are j c l is in
      let base = of_frames c.change.page.size c.change.page.base known.aligned in
      let own = known.number in
      elim (cases_lt j k) [
        | inl early ↦ let most = found.before j early in absurd (omega (arith, most, number, own, base, aligned, far))
        | inr past ↦ past
      ]

  pub none_behind : length h.pages.items ≤ k → (last : ℕ) → address ≤ last → IsBefore h.changes.items address last
  none_behind all last up = record {
    up = up;
    none = λ c (j, l, is) far. absurd (let past = later c j l is far in let many = as_many h are in omega (arith, past, all, many, l));
  }

  within_next : k < length h.pages.items → k < length h.changes.items
  within_next there = let many = as_many h are in omega (arith, there, many)

  least : k < length h.pages.items → address + 4095 ≤ get_or h.pages.items k 0
  least there = found.behind k (omega arith) there

  small : k < length h.pages.items → get_or h.pages.items k 0 % 4096 < 4
  small there =
      let it = element h.changes.items k (within_next there) in
      let known = are.numbered it.0 (k, within_next there, it.1) in
      small_by it.0.change.page.base (level_of it.0.change.page.size) it.0.number (get_or h.pages.items k 0) known.number
      (page_at h are k it.0 (within_next there) it.1) (level_at_most it.0.change.page.size)
      (of_frames it.0.change.page.size it.0.change.page.base known.aligned)

  pub before_next : k < length h.pages.items → (number last : ℕ) → number ≡ get_or h.pages.items k 0 → last + 1 ≡ number - number % 4096
      → IsBefore h.changes.items address last
  before_next there number last is at = record {
    up = far_up address number last (get_or h.pages.items k 0) (least there) (small there) is at;
    none = λ c (j, l, same) far.
        let past = later c j l same far in
        let many = as_many h are in
        let up = far_page h.pages.items h.places.items are.by_place k j past (omega (arith, many, l)) in
        let known = are.numbered c (j, l, same) in
        next_base c.change.page.base (level_of c.change.page.size) c.number (get_or h.pages.items j 0) (get_or h.pages.items k 0) number last
        known.number (page_at h are j c l same) (level_at_most c.change.page.size)
        (of_frames c.change.page.size c.change.page.base known.aligned) up is at;
  }

  pub some_base : k < length h.pages.items → (number : ℕ) → number ≡ get_or h.pages.items k 0 → 1 ≤ number - number % 4096
  some_base there number is = some_up address number (get_or h.pages.items k 0) (least there) (small there) is
