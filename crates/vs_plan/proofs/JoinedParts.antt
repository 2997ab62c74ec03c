-- A join of all parts of a page: a space stays one, and each address looks as before but for the size.
use Rattle.std.proofs.Common.{◌≡◌, ◌≢◌, ℕ, suc, ◌+◌, ◌-◌, ◌%◌, ◌<◌, ◌≤◌, true, false, Some, None, IsTrue, refl, sym, ap, subst, ◌∙◌, arith}
use Rattle.vs_types.specs.Depth.{entry_bytes, IsCanonical}
use Rattle.vs_types.specs.Entry.{size_at}
use Rattle.vs_types.specs.Laws.{as_in, LooksChanged}
use Rattle.vs_types.specs.Page.{bytes_of, covers}
use Rattle.vs_types.specs.Space.{Space, IsSpace, page_at}
use Rattle.vs_types.specs.Step.{look, Stepped}
use Rattle.vs_types.specs.declared.requests.answer.Answer.TheVariants as answers
use Rattle.vs_types.specs.declared.addresses.depth.Depth.{Depth}
use Rattle.vs_types.specs.declared.addresses.page.Page.{Page}
use Rattle.vs_types.specs.declared.addresses.page.Size.{Size}
use Rattle.vs_types.specs.declared.addresses.page.Size.TheVariants.{K4, M2, G1}
use Rattle.vs_types.proofs.Pages.{bytes_positive, covers_means, same_page}
use Rattle.vs_types.proofs.Spaces.{page_at_means, look_of_page}
use Rattle.vs_plan.specs.Changes.{smaller, larger, part, HasParts, join, join_refusal, not_first, leads_to}
use Rattle.vs_plan.proofs.Changing.{why_here}
use Rattle.vs_plan.proofs.JoinedSpace.{in_place, IsSmallAt, large, is_joined_space, join_is, joined_looks}
use Rattle.vs_plan.proofs.Joining.{MayJoin, may_join}
use Rattle.vs_plan.proofs.PartSpaces.{part_at}

-- ---- numbers

larger_back : (size : Size) → size ≢ K4 → larger (smaller size) ≡ size
larger_back K4 some = absurd (some refl)
larger_back _ some = refl

-- the place of an address in an aligned page
place_in : (size : Size) (base a : ℕ) → base % bytes_of size ≡ 0 → base ≤ a → a < base + bytes_of size → a % bytes_of size ≡ a - base
place_in K4 base a aligned low high = omega (arith, aligned, low, high)
place_in _ base a aligned low high = omega (arith, aligned, low, high)

record HasLevels (size : Size) (low : ℕ) : Type 0 where
  some : 1 ≤ low
  few : low ≤ 2
  size_is : size_at (suc low) ≡ size
  small_is : smaller size ≡ size_at low
  bytes_are : bytes_of size ≡ entry_bytes (suc low)

levels_of : (size : Size) → size ≢ K4 → (low : ℕ) × HasLevels size low
levels_of K4 some = absurd (some refl)
levels_of M2 some = (1, record { some = omega arith; few = omega arith; size_is = refl; small_is = refl; bytes_are = refl })
levels_of G1 some = (2, record { some = omega arith; few = omega arith; size_is = refl; small_is = refl; bytes_are = refl })

module _ {depth : Depth} {space : Space} (is : IsSpace depth space) (page : Page) (large_size : page.size ≢ K4) (parts : HasParts space page)
    (allowed : join_refusal space page.base ≡ None) where
  first_base : (part page 0).base ≡ page.base
  first_base = omega arith

  first_phys : (part page 0).phys ≡ page.phys
  first_phys = omega arith

  -- the first part is the page at the base
  first_here : page_at space page.base ≡ Some (part page 0)
  first_here = (page_at_means is page.base (part page 0)).1 (
    parts 0 (omega arith),
    (covers_means (part page 0) page.base).1 (omega (arith, first_base), omega (arith, first_base, bytes_positive (smaller page.size))),
  )

  may : MayJoin page.base page.phys (smaller page.size)
  may = subst (λ p. MayJoin page.base p (smaller page.size)) first_phys
      (subst (λ b. MayJoin b (part page 0).phys (smaller page.size)) first_base
      (may_join (part page 0).base (part page 0).phys (smaller page.size)
      (sym (why_here page.base (λ (q : Page). not_first q.base q.phys q.size) (part page 0) first_here first_base) ∙ allowed)))

  at : (low : ℕ) × HasLevels page.size low
  at = levels_of page.size large_size

  aligned : page.base % bytes_of page.size ≡ 0
  aligned = sym (ap (λ z. page.base % bytes_of z) (larger_back page.size large_size)) ∙ may.aligned

  phys_aligned : page.phys % bytes_of page.size ≡ 0
  phys_aligned = sym (ap (λ z. page.phys % bytes_of z) (larger_back page.size large_size)) ∙ may.phys_aligned

  one : large at.0 page.base page.phys page.rights ≡ page
  one = same_page (large at.0 page.base page.phys page.rights) page refl at.1.size_is refl refl

  -- the part at an address
  found_part : (a : ℕ) → IsTrue (covers page a) → (i : ℕ) × (i < 512) × IsTrue (covers (part page i) a)
  found_part a covered =
      let lies = (covers_means page a).0 covered in
      let in_part = part_at page.size page.base a large_size lies.0 lies.1 in
      (in_part.0, in_part.1, (covers_means (part page in_part.0) a).1 (in_part.2, in_part.3))

  part_place : (a i : ℕ) → IsTrue (covers (part page i) a) → (part page i).phys + (a - (part page i).base) ≡ page.phys + (a - page.base)
  part_place a i covered = let lies = (covers_means (part page i) a).0 covered in omega (arith, lies)

  small_part : (a : ℕ) → IsTrue (covers (large at.0 page.base page.phys page.rights) a) → (q : Page) × IsSmallAt space at.0 page.phys page.rights a q
  small_part a covers_large =
      let covered = subst (λ (z : Page). IsTrue (covers z a)) one covers_large in
      let lies = (covers_means page a).0 covered in
      let found = found_part a covered in
      let place : a % entry_bytes (suc at.0) ≡ a - page.base =
      sym (ap (λ n. a % n) at.1.bytes_are) ∙ place_in page.size page.base a aligned lies.0 lies.1 in (
        part page found.0,
        record {
          held = parts found.0 found.1;
          covered = found.2;
          place = part_place a found.0 found.2 ∙ ap (λ n. page.phys + n) (sym place);
          size = at.1.small_is;
          rights = refl;
        },
      )

  canonical : IsCanonical depth page.base
  canonical = subst (IsCanonical depth) first_base (is.well_formed (part page 0) (parts 0 (omega arith))).canonical

  base_in : page.base % entry_bytes (suc at.0) ≡ 0
  base_in = sym (ap (λ n. page.base % n) at.1.bytes_are) ∙ aligned

  phys_in : page.phys % entry_bytes (suc at.0) ≡ 0
  phys_in = sym (ap (λ n. page.phys % n) at.1.bytes_are) ∙ phys_aligned

  joined_to : (join space page.base).space ≡ in_place space (large at.0 page.base page.phys page.rights)
  joined_to = ap (λ (s : Stepped). s.space)
      (join_is space page.base at.0 page.phys page.rights (part page 0) at.1.some at.1.few first_here first_base at.1.small_is first_phys refl)

  pub join_stays_space : IsSpace depth (join space page.base).space
  join_stays_space =
      subst (IsSpace depth) (sym joined_to)
      (is_joined_space is page.base at.0 page.phys page.rights canonical at.1.some at.1.few base_in phys_in small_part)

  looks : LooksChanged (large at.0 page.base page.phys page.rights) (as_in (large at.0 page.base page.phys page.rights)) space
      (in_place space (large at.0 page.base page.phys page.rights))
  looks = joined_looks is page.base at.0 page.phys page.rights canonical at.1.some at.1.few base_in phys_in small_part

  pub join_alike : (address : ℕ) → leads_to (look (join space page.base).space address) ≡ leads_to (look space address)
  join_alike address =
      ap (λ (s : Space). leads_to (look s address)) joined_to
      ∙ elim (covers (large at.0 page.base page.phys page.rights) address) as (λ b. covers (large at.0 page.base page.phys page.rights) address ≡ b
      → leads_to (look (in_place space (large at.0 page.base page.phys page.rights)) address) ≡ leads_to (look space address)) [
        | true ↦ λ covered.
            let found = found_part address (subst (λ (z : Page). IsTrue (covers z address)) one covered) in
            ap leads_to (looks.there address covered)
            ∙ ap (λ (p : ℕ). leads_to (answers.Mapped p K4 page.rights)) (sym (part_place address found.0 found.2))
            ∙ sym (ap leads_to (look_of_page is address (part page found.0) (parts found.0 found.1) found.2))
        | false ↦ λ uncovered. ap leads_to (looks.elsewhere address uncovered)
      ] refl
