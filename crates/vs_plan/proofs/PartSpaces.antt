-- A space in which the parts of a page are in its place: it is a space, and each address looks as before but for the size.
use Rattle.std.proofs.Common.{◌≡◌, ◌≢◌, ℕ, zero, suc, ◌+◌, ◌-◌, ◌*◌, ◌/◌, ◌%◌, ◌^◌, ◌<◌, ◌≤◌, true, false, None, Some, IsTrue, ◌⊎◌, inl, inr, ⊎_elim, refl, sym}
use Rattle.std.proofs.Common.{ap, subst, ◌∙◌, arith}
use Rattle.std.proofs.lemmas.Bool.{cases_eq}
use Rattle.std.specs.FinMap as finite
use Rattle.vs_types.specs.Laws.{LooksChanged}
use Rattle.vs_types.specs.Page.{bytes_of, covers, IsPage}
use Rattle.vs_types.specs.Space.{Space, Holds, IsSpace, page_at}
use Rattle.vs_types.specs.Step.{look}
use Rattle.vs_types.specs.declared.requests.answer.Answer.TheVariants as answers
use Rattle.vs_types.specs.declared.addresses.depth.Depth.{Depth}
use Rattle.vs_types.specs.declared.addresses.page.Page.{Page}
use Rattle.vs_types.specs.declared.addresses.page.Size.{Size}
use Rattle.vs_types.specs.declared.addresses.page.Size.TheVariants.{K4, M2, G1}
use Rattle.vs_types.proofs.Pages.{covers_base, covers_means, covered_canonical}
use Rattle.vs_types.proofs.Maps.{get-insert_same, get-insert_other, get-remove_other}
use Rattle.vs_types.proofs.Spaces.{page_at_means, page_at_same, look_of_page, look_same, insert_cases, remove_cases}
use Rattle.vs_plan.proofs.Changing.{change_here, why_here, change_cases}
use Rattle.vs_plan.specs.Changes.{smaller, smallest, part, with_parts, split, split_refusal, leads_to}

-- ---- where parts lie

-- the addresses of a part are the page's
part_in : (size : Size) (base a i : ℕ) → size ≢ K4 → i < 512 → base + i * bytes_of (smaller size) ≤ a
    → a < base + i * bytes_of (smaller size) + bytes_of (smaller size) → (base ≤ a) × (a < base + bytes_of size)
part_in K4 base a i large low from to = absurd (large refl)
part_in _ base a i large low from to = (omega arith, omega arith)

-- each address of the page is one of a part's
pub part_at : (size : Size) (base a : ℕ) → size ≢ K4 → base ≤ a → a < base + bytes_of size
    → (i : ℕ) × (i < 512) × (base + i * bytes_of (smaller size) ≤ a) × (a < base + i * bytes_of (smaller size) + bytes_of (smaller size))
part_at K4 base a large from to = absurd (large refl)
part_at M2 base a large from to = ((a - base) / 4096, omega arith, omega arith, omega arith)
part_at G1 base a large from to = ((a - base) / 2097152, omega arith, omega arith, omega arith)

-- and of no other's
one_part : (size : Size) (base a i j : ℕ) → base + i * bytes_of (smaller size) ≤ a → a < base + i * bytes_of (smaller size) + bytes_of (smaller size)
    → base + j * bytes_of (smaller size) ≤ a → a < base + j * bytes_of (smaller size) + bytes_of (smaller size) → i ≡ j
one_part K4 base a i j from to from' to' = omega arith
one_part _ base a i j from to from' to' = omega arith

part_aligned : (size : Size) (base i : ℕ) → size ≢ K4 → base % bytes_of size ≡ 0 → (base + i * bytes_of (smaller size)) % bytes_of (smaller size) ≡ 0
part_aligned K4 base i large at = absurd (large refl)
part_aligned _ base i large at = omega arith

part_range : (size : Size) (phys i limit : ℕ) → size ≢ K4 → i < 512 → phys + bytes_of size ≤ limit
    → phys + i * bytes_of (smaller size) + bytes_of (smaller size) ≤ limit
part_range K4 phys i limit large low at = absurd (large refl)
part_range _ phys i limit large low at = omega arith

-- ---- what is held

-- each part is
has_part : (page : Page) (s : Space) (n i : ℕ) → i < n → finite.get (with_parts s page n) (page.base + i * bytes_of (smaller page.size)) ≡ Some (part page i)
unfolding with_parts
has_part page s zero i low = absurd (omega arith)
has_part page s (suc n) i low = ⊎_elim
    (λ (same : i ≡ n). subst (λ k. finite.get (finite.insert (with_parts s page n) (page.base + n * bytes_of (smaller page.size)) (part page n))
    (page.base + k * bytes_of (smaller page.size)) ≡ Some (part page k)) (sym same)
    (get-insert_same (with_parts s page n) (page.base + n * bytes_of (smaller page.size)) (part page n)))
    (λ (other : i ≢ n).
    get-insert_other (with_parts s page n) (page.base + n * bytes_of (smaller page.size)) (part page n) (page.base + i * bytes_of (smaller page.size))
    (λ e. other (apart page.size page.base e))
    ∙ has_part page s n i (omega (arith, low, other)))
    (cases_eq i n)
  where
    apart : (size : Size) (base : ℕ) → base + i * bytes_of (smaller size) ≡ base + n * bytes_of (smaller size) → i ≡ n
    apart K4 base e = omega arith
    apart _ base e = omega arith

-- what is held is a part, or was held before
held_before : (page : Page) (s : Space) (n q : ℕ) (p : Page) → finite.get (with_parts s page n) q ≡ Some p
    → ((i : ℕ) × (i < n) × (q ≡ page.base + i * bytes_of (smaller page.size)) × (p ≡ part page i)) ⊎ (finite.get s q ≡ Some p)
unfolding with_parts
held_before page s zero q p got = inr got
held_before page s (suc n) q p got = ⊎_elim
    (λ here. inl (n, omega arith, here.0, here.1))
    (λ before. ⊎_elim
    (λ part_is. inl (part_is.0, omega (arith, part_is.1), part_is.2, part_is.3))
    (λ old. inr old)
    (held_before page s n q p before.1))
    (insert_cases (with_parts s page n) (page.base + n * bytes_of (smaller page.size)) (part page n) q p got)

-- what is under another base stays
held_still : (page : Page) (s : Space) (n q : ℕ) → ((i : ℕ) → i < n → q ≢ page.base + i * bytes_of (smaller page.size))
    → finite.get (with_parts s page n) q ≡ finite.get s q
unfolding with_parts
held_still page s zero q apart = refl
held_still page s (suc n) q apart =
    get-insert_other (with_parts s page n) (page.base + n * bytes_of (smaller page.size)) (part page n) q (apart n (omega arith))
    ∙ held_still page s n q (λ i low. apart i (omega arith))

-- ---- the space

-- the space with the parts of a page in its place
abbrev pub split_space : Space → Page → Space
split_space space page = with_parts (finite.remove space page.base) page 512

module _ {depth : Depth} {space : Space} (is : IsSpace depth space) {page : Page} (holds : Holds space page) (large : page.size ≢ K4) where
  good : IsPage depth page
  good = is.well_formed page holds

  page_covers : (a i : ℕ) → i < 512 → IsTrue (covers (part page i) a) → IsTrue (covers page a)
  page_covers a i low covered =
      let at = (covers_means (part page i) a).0 covered in
      (covers_means page a).1 (part_in page.size page.base a i large low at.0 at.1)

  part_good : (i : ℕ) → i < 512 → IsPage depth (part page i)
  part_good i low = record {
    canonical = covered_canonical (2 ^ 51) depth page (part page i).base good (page_covers (part page i).base i low (covers_base (part page i)));
    aligned = part_aligned page.size page.base i large good.aligned;
    phys_aligned = part_aligned page.size page.phys i large good.phys_aligned;
    phys_range = part_range page.size page.phys i (2 ^ 51) large low good.phys_range;
  }

  -- what is held is a part, or a page that was held and lies apart
  held : (q : ℕ) (p : Page) → finite.get (split_space space page) q ≡ Some p
      → ((i : ℕ) × (i < 512) × (q ≡ page.base + i * bytes_of (smaller page.size)) × (p ≡ part page i)) ⊎ ((q ≢ page.base) × (finite.get space q ≡ Some p))
  held q p got = ⊎_elim (λ new. inl new) (λ old. inr (remove_cases space page.base q p old)) (held_before page (finite.remove space page.base) 512 q p got)

  -- a page that was held and has an address of a part is the page
  meets : (p : Page) (a i : ℕ) → i < 512 → Holds space p → IsTrue (covers (part page i) a) → IsTrue (covers p a) → page ≡ p
  meets p a i low held_p by_part by_p = is.apart page p a holds held_p (page_covers a i low by_part) by_p

  pub space_split : IsSpace depth (split_space space page)
  space_split = record {
    under_base = λ q p got. ⊎_elim
        (λ new. ap (λ (z : Page). z.base) new.3 ∙ sym new.2)
        (λ old. is.under_base q p old.1)
        (held q p got);
    well_formed = λ p got. ⊎_elim
        (λ new. subst (IsPage depth) (sym new.3) (part_good new.0 new.1))
        (λ old. is.well_formed p old.1)
        (held p.base p got);
    apart = λ p q a got_p got_q by_p by_q. ⊎_elim
        (λ new_p. ⊎_elim
        (λ new_q. both p q a new_p.0 new_q.0 new_p.3 new_q.3 by_p by_q)
        (λ old_q.
        let same = meets q a new_p.0 new_p.1 old_q.1 (subst (λ (z : Page). IsTrue (covers z a)) new_p.3 by_p) by_q in
        absurd (old_q.0 (sym (ap (λ (z : Page). z.base) same))))
        (held q.base q got_q))
        (λ old_p. ⊎_elim
        (λ new_q.
        let same = meets p a new_q.0 new_q.1 old_p.1 (subst (λ (z : Page). IsTrue (covers z a)) new_q.3 by_q) by_p in
        absurd (old_p.0 (sym (ap (λ (z : Page). z.base) same))))
        (λ old_q. is.apart p q a old_p.1 old_q.1 by_p by_q)
        (held q.base q got_q))
        (held p.base p got_p);
  } where
    both : (p q : Page) (a i j : ℕ) → p ≡ part page i → q ≡ part page j → IsTrue (covers p a) → IsTrue (covers q a) → p ≡ q
    both p q a i j p_is q_is by_p by_q =
        let at_p = (covers_means (part page i) a).0 (subst (λ (z : Page). IsTrue (covers z a)) p_is by_p) in
        let at_q = (covers_means (part page j) a).0 (subst (λ (z : Page). IsTrue (covers z a)) q_is by_q) in
        p_is ∙ ap (part page) (one_part page.size page.base a i j at_p.0 at_p.1 at_q.0 at_q.1) ∙ sym q_is

  -- where the page was, each address looks as before but for the size
  pub looks_split : LooksChanged page (λ address. answers.Mapped (page.phys + (address - page.base)) (smaller page.size) page.rights) space
      (split_space space page)
  looks_split = record {
    there = λ a covered.
        let at = (covers_means page a).0 covered in
        let in_part = part_at page.size page.base a large at.0 at.1 in
        let i = in_part.0 in
        let place : page.phys + i * bytes_of (smaller page.size) + (a - (page.base + i * bytes_of (smaller page.size))) ≡ page.phys + (a - page.base) =
        omega (arith, in_part.2) in
        look_of_page space_split a (part page i) (has_part page (finite.remove space page.base) 512 i in_part.1)
        ((covers_means (part page i) a).1 (in_part.2, in_part.3))
        ∙ ap (λ p. answers.Mapped p (smaller page.size) page.rights) place;
    elsewhere = λ a uncovered. look_same (split_space space page) space a (page_at_same space_split is a (λ p by_p. (
      λ got. ⊎_elim
          (λ new. let covered = page_covers a new.0 new.1 (subst (λ (z : Page). IsTrue (covers z a)) new.3 by_p) in absurd (cc))
          (λ old. old.1)
          (held p.base p got),
      λ got.
          let other : (b : ℕ) → IsTrue (covers page b) → IsTrue (covers p b) → ⊥ = λ b by_page by_other.
          let covered = subst (λ (z : Page). IsTrue (covers z a)) (sym (is.apart page p b holds got by_page by_other)) by_p in cc in
          held_still page (finite.remove space page.base) 512 p.base
          (λ i low e. other p.base (page_covers p.base i low (subst (λ b. IsTrue (covers (part page i) b)) (sym e) (covers_base (part page i))))
          (covers_base p))
          ∙ get-remove_other space page.base p.base
          (λ e. other p.base (subst (λ b. IsTrue (covers page b)) (sym e) (covers_base page)) (covers_base p))
          ∙ got,
    )));
  }

-- ---- what a split does to a space

pub split_there : (space : Space) (base : ℕ) (page : Page) → page_at space base ≡ Some page → page.base ≡ base
    → split space base ≡ record { space = split_space space page; answer = answers.Changed page.rights }
split_there space base page e same = change_here space base (split_space space) page e same

pub refused_there : (space : Space) (base : ℕ) (page : Page) → page_at space base ≡ Some page → page.base ≡ base → split_refusal space base ≡ smallest page.size
refused_there space base page e same = why_here base (λ (z : Page). smallest z.size) page e same

has_parts : (size : Size) → smallest size ≡ None → size ≢ K4
has_parts K4 none e = cc
has_parts _ none e = cc

-- the space after a split that isn't refused is the one before, or has the parts of a page in its place
split_cases : (space : Space) (base : ℕ) → split_refusal space base ≡ None → (P : Space → Type 0) → P space
    → ((page : Page) → page_at space base ≡ Some page → page.size ≢ K4 → P (split_space space page)) → P (split space base).space
split_cases space base allowed P stays changes = change_cases space base (split_space space) P stays (λ page e same.
    changes page e (has_parts page.size (sym (refused_there space base page e same) ∙ allowed)))

pub split_stays_space : {depth : Depth} {space : Space} → IsSpace depth space → (base : ℕ) → split_refusal space base ≡ None
    → IsSpace depth (split space base).space
split_stays_space {depth} {space} is base allowed = split_cases space base allowed (IsSpace depth) is
    (λ page e large. space_split is ((page_at_means is base page).0 e).0 large)

pub split_alike : {depth : Depth} {space : Space} → IsSpace depth space → (base : ℕ) → split_refusal space base ≡ None → (address : ℕ)
    → leads_to (look (split space base).space address) ≡ leads_to (look space address)
split_alike {depth} {space} is base allowed address =
    split_cases space base allowed (λ (s : Space). leads_to (look s address) ≡ leads_to (look space address)) refl
    (λ page e large.
    let holds = ((page_at_means is base page).0 e).0 in
    let looks = looks_split is holds large in
    elim (covers page address) as (λ b. covers page address ≡ b → leads_to (look (split_space space page) address) ≡ leads_to (look space address)) [
      | true ↦ λ covered. ap leads_to (looks.there address covered) ∙ sym (ap leads_to (look_of_page is address page holds covered))
      | false ↦ λ uncovered. ap leads_to (looks.elsewhere address uncovered)
    ] refl)
