-- The space with a page in the place of smaller ones, wherever they lie.
use Rattle.std.proofs.Common.{◌≡◌, ◌≢◌, ℕ, ◌+◌, ◌%◌, ◌^◌, ◌<◌, ◌≤◌, Bool, true, false, Some, None, IsTrue, IsFalse, ⊎_elim, refl}
use Rattle.std.proofs.Common.{sym, ap, subst, ◌∙◌, arith}
use Rattle.std.specs.Prelude.{not, ◌==◌}
use Rattle.std.proofs.lemmas.Bool.{cases_lt, eqb-true}
use Rattle.vs_types.specs.Laws.{as_in, LooksChanged}
use Rattle.vs_types.specs.Page.{level_of, bytes_of, covers, IsPage}
use Rattle.vs_types.specs.Space.{Space, Holds, IsSpace, page_at}
use Rattle.vs_types.specs.declared.addresses.depth.Depth.{Depth}
use Rattle.vs_types.specs.declared.addresses.page.Page.{Page}
use Rattle.vs_types.specs.declared.addresses.page.Rights.{Rights}
use Rattle.vs_types.specs.declared.addresses.page.Size.{Size}
use Rattle.vs_types.specs.declared.addresses.page.Size.TheVariants.{K4, M2, G1}
use Rattle.vs_types.specs.declared.requests.answer.Answer.TheVariants as answers
use Rattle.vs_types.proofs.Pages.{covers_base, covers_means}
use Rattle.vs_types.proofs.Maps.{get-insert_same, get-insert_other}
use Rattle.vs_types.proofs.Spaces.{page_at_means, page_at_same, look_of_page, look_same, insert_cases, insert_space}
use Rattle.vs_plan.specs.Changes.{larger, without_parts, collapse, collapse_refusal, misplaced, not_over}
use Rattle.vs_plan.proofs.Changing.{change_cases, change_here, why_here}
use Rattle.vs_plan.proofs.JoinedSpace.{in_place, off_held, off_kept, off_space}
use Rattle.vs_plan.proofs.Remapping.{phys_good}
use Rattle.vs_plan.proofs.Requests.{passed, not_false}

-- ---- numbers

-- a page that begins in a larger aligned one lies in it
lies_in : (size other : Size) (base b a : ℕ) → level_of other ≤ level_of size → base % bytes_of size ≡ 0 → b % bytes_of other ≡ 0
    → base ≤ b → b < base + bytes_of size → a < b + bytes_of other → a < base + bytes_of size
lies_in K4 K4 base b a small at even from to high = omega (arith, at, even, from, to, high)
lies_in K4 M2 base b a small at even from to high = absurd (omega (arith, small))
lies_in K4 G1 base b a small at even from to high = absurd (omega (arith, small))
lies_in M2 K4 base b a small at even from to high = omega (arith, at, even, from, to, high)
lies_in M2 M2 base b a small at even from to high = omega (arith, at, even, from, to, high)
lies_in M2 G1 base b a small at even from to high = absurd (omega (arith, small))
lies_in G1 K4 base b a small at even from to high = omega (arith, at, even, from, to, high)
lies_in G1 M2 base b a small at even from to high = omega (arith, at, even, from, to, high)
lies_in G1 G1 base b a small at even from to high = omega (arith, at, even, from, to, high)

-- one that is larger begins where that does
begins_as : (size other : Size) (base b : ℕ) → level_of size < level_of other → base % bytes_of size ≡ 0 → b % bytes_of other ≡ 0
    → base ≤ b → b < base + bytes_of size → b ≡ base
begins_as K4 K4 base b large at even from to = absurd (omega (arith, large))
begins_as K4 M2 base b large at even from to = omega (arith, at, even, from, to)
begins_as K4 G1 base b large at even from to = omega (arith, at, even, from, to)
begins_as M2 K4 base b large at even from to = absurd (omega (arith, large))
begins_as M2 M2 base b large at even from to = absurd (omega (arith, large))
begins_as M2 G1 base b large at even from to = omega (arith, at, even, from, to)
begins_as G1 K4 base b large at even from to = absurd (omega (arith, large))
begins_as G1 M2 base b large at even from to = absurd (omega (arith, large))
begins_as G1 G1 base b large at even from to = absurd (omega (arith, large))

-- ---- one page in the place of those that begin in it, one of which begins where it does

module _ {depth : Depth} {space : Space} (is : IsSpace depth space) (page : Page) (good : IsPage depth page) (first : Page)
    (here : page_at space page.base ≡ Some first) (begins : first.base ≡ page.base) where
  first_there : Holds space first × IsTrue (covers first page.base)
  first_there = (page_at_means is page.base first).0 here

  -- a page of the space that has an address of the page begins in it
  begins_there : (q : Page) (a : ℕ) → Holds space q → IsTrue (covers q a) → IsTrue (covers page a) → IsTrue (covers page q.base)
  begins_there q a held at covered =
      let own = (covers_means q a).0 at in
      let lies = (covers_means page a).0 covered in
      ⊎_elim
      (λ (below : q.base < page.base).
      let over : IsTrue (covers q page.base) = (covers_means q page.base).1 (omega (arith, below), omega (arith, own.1, lies.0)) in
      let one : q ≡ first = is.apart q first page.base held first_there.0 over first_there.1 in
      absurd (omega (arith, below, begins, ap (λ (z : Page). z.base) one)))
      (λ (from : page.base ≤ q.base). (covers_means page q.base).1 (from, omega (arith, own.0, lies.1)))
      (cases_lt q.base page.base)

  pub is_collapsed_space : IsSpace depth (in_place space page)
  is_collapsed_space = insert_space (off_space space page is) page good (λ q a held other at covered.
      let was = off_held space page q.base q held in
      let again = begins_there q a was.1 at covered in
      let gone = was.0 in
      absurd (cc))

  module _ (smaller_first : level_of first.size < level_of page.size) where
    -- a page of the space that begins in the page lies in it
    begins_in : (q : Page) → Holds space q → IsTrue (covers page q.base) → (a : ℕ) → IsTrue (covers q a) → IsTrue (covers page a)
    begins_in q held covered a at =
        let lies = (covers_means page q.base).0 covered in
        let own = (covers_means q a).0 at in
        let even = (is.well_formed q held).aligned in
        ⊎_elim
        (λ (large : level_of page.size < level_of q.size).
        let same : q.base ≡ page.base = begins_as page.size q.size page.base q.base large good.aligned even lies.0 lies.1 in
        let one : q ≡ first = is.apart q first page.base held first_there.0 (subst (λ b. IsTrue (covers q b)) same (covers_base q)) first_there.1 in
        let sizes : level_of q.size ≡ level_of first.size = ap (λ (z : Page). level_of z.size) one in
        absurd (omega (arith, large, smaller_first, sizes)))
        (λ (small : level_of q.size ≤ level_of page.size).
        (covers_means page a).1 (
          omega (arith, lies.0, own.0),
          lies_in page.size q.size page.base q.base a small good.aligned even lies.0 lies.1 own.1,
        ))
        (cases_lt (level_of page.size) (level_of q.size))

    pub collapsed_looks : LooksChanged page (as_in page) space (in_place space page)
    collapsed_looks = record {
      there = λ a covered. look_of_page is_collapsed_space a page (get-insert_same (without_parts space page) page.base page) covered;
      elsewhere = λ a uncovered. look_same (in_place space page) space a
          (page_at_same is_collapsed_space is a (λ q at. (forth a uncovered q at, back a uncovered q at)));
    } where
      forth : (a : ℕ) → IsFalse (covers page a) → (q : Page) → IsTrue (covers q a) → Holds (in_place space page) q → Holds space q
      forth a uncovered q at held = ⊎_elim
          (λ new. let again = subst (λ (z : Page). IsTrue (covers z a)) new.1 at in absurd (cc))
          (λ old. (off_held space page q.base q old.1).1)
          (insert_cases (without_parts space page) page.base page q.base q held)

      back : (a : ℕ) → IsFalse (covers page a) → (q : Page) → IsTrue (covers q a) → Holds space q → Holds (in_place space page) q
      back a uncovered q at held = by (covers page q.base) refl where
        by : (c : Bool) → covers page q.base ≡ c → Holds (in_place space page) q
        by true covered = let again = begins_in q held covered a at in absurd (cc)
        by false off = get-insert_other (without_parts space page) page.base page q.base (λ same. let at_base = covers_base page in
            let again = subst (λ k. covers page k ≡ false) same off in absurd (cc)) ∙ off_kept space page q.base off ∙ held

-- ---- what is refused

-- where a page of the next larger size may lie
pub record MayLie (base phys : ℕ) (size : Size) : Type 0 where
  pub small : size ≢ G1
  pub aligned : base % bytes_of (larger size) ≡ 0
  pub phys_aligned : phys % bytes_of (larger size) ≡ 0
  pub within : phys + bytes_of (larger size) ≤ 2 ^ 51

misplaced_good : (base phys bits : ℕ) (size : Size) → misplaced base phys bits size ≡ None
    → (base % bytes_of size ≡ 0) × (phys % bytes_of size ≡ 0) × (phys + bytes_of size ≤ 2 ^ 51)
misplaced_good base phys bits size none =
    let first = passed (not (base % bytes_of size == 0)) _ _ none in
    let place = phys_good phys bits size first.1 in
    (eqb-true (base % bytes_of size) 0 (not_false (base % bytes_of size == 0) first.0), place.0, place.1)

pub may_lie : (base phys bits : ℕ) (size : Size) → not_over base phys bits size ≡ None → MayLie base phys size
may_lie base phys bits K4 none = let good = misplaced_good base phys bits M2 none in
    record { small = λ e. cc; aligned = good.0; phys_aligned = good.1; within = good.2 }
may_lie base phys bits M2 none = let good = misplaced_good base phys bits G1 none in
    record { small = λ e. cc; aligned = good.0; phys_aligned = good.1; within = good.2 }
may_lie base phys bits G1 none = absurd (cc)

-- ---- what a collapse does

-- the page that takes the place of the others
abbrev pub over : Page → ℕ → Rights → Page
over page phys rights = record page { size = larger page.size; phys = phys; rights = rights }

pub collapse_is : (space : Space) (base phys : ℕ) (rights : Rights) (q : Page) → page_at space base ≡ Some q → q.base ≡ base
    → collapse space base phys rights ≡ record { space = in_place space (over q phys rights); answer = answers.Changed q.rights }
collapse_is space base phys rights q here begins = change_here space base (λ (p : Page). in_place space (over p phys rights)) q here begins

pub over_good : {depth : Depth} {space : Space} → IsSpace depth space → (q : Page) → Holds space q → (phys : ℕ) (rights : Rights)
    → MayLie q.base phys q.size → IsPage depth (over q phys rights)
over_good is q held phys rights may =
    record { canonical = (is.well_formed q held).canonical; aligned = may.aligned; phys_aligned = may.phys_aligned; phys_range = may.within }

pub collapse_stays_space : {depth : Depth} {space : Space} → IsSpace depth space → (base phys : ℕ) (rights : Rights) (bits : ℕ)
    → collapse_refusal space base phys bits ≡ None → IsSpace depth (collapse space base phys rights).space
collapse_stays_space {depth} {space} is base phys rights bits none =
    change_cases space base (λ (p : Page). in_place space (over p phys rights)) (IsSpace depth) is (λ q here begins.
    let may = may_lie q.base phys bits q.size (sym (why_here base (λ (p : Page). not_over p.base phys bits p.size) q here begins) ∙ none) in
    is_collapsed_space is (over q phys rights) (over_good is q ((page_at_means is base q).0 here).0 phys rights may) q
    (subst (λ b. page_at space b ≡ Some q) (sym begins) here) refl)
