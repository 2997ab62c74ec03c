-- The space with a page in the place of smaller ones that have just its addresses.
use Rattle.std.proofs.Common.{◌≡◌, ℕ, zero, suc, ◌+◌, ◌-◌, ◌*◌, ◌/◌, ◌%◌, ◌^◌, ◌<◌, ◌≤◌, Bool, true, false, cond, Some, None, IsTrue, IsFalse, ⊎_elim, refl}
use Rattle.std.proofs.Common.{sym, ap, subst, ◌∙◌, arith}
use Rattle.std.specs.Prelude.{not}
use Rattle.std.specs.FinMap as finite
use Rattle.vs_types.specs.Depth.{levels, entry_bytes, IsCanonical}
use Rattle.vs_types.specs.Entry.{size_at}
use Rattle.vs_types.specs.Laws.{as_in, LooksChanged}
use Rattle.vs_types.specs.Page.{level_of, bytes_of, covers, IsPage, IsPageBelow}
use Rattle.vs_types.specs.Space.{Space, Holds, IsSpace, page_at}
use Rattle.vs_types.specs.Step.{look, Stepped}
use Rattle.vs_types.specs.declared.addresses.depth.Depth.{Depth}
use Rattle.vs_types.specs.declared.addresses.page.Page.{Page}
use Rattle.vs_types.specs.declared.addresses.page.Rights.{Rights}
use Rattle.vs_types.specs.declared.requests.answer.Answer.TheVariants as answers
use Rattle.vs_types.proofs.Pages.{same_page, covers_base, covers_means, covered_canonical}
use Rattle.vs_types.proofs.Maps.{get-insert_same, get-insert_other}
use Rattle.vs_types.proofs.Spaces.{page_at_means, page_at_same, look_of_page, look_same, insert_cases, insert_space}
use Rattle.vs_walk.specs.Memory.{Memory}
use Rattle.vs_walk.specs.Walk.{walk, as_walk, TranslatesAs}
use Rattle.vs_walk.specs.declared.walk.Walk.TheVariants.{NotMapped, Mapped}
use Rattle.vs_space.specs.Path.{SamePath}
use Rattle.vs_space.specs.Table.{IsTableOf}
use Rattle.vs_space.proofs.Regions.{stretch_same, in_block, path_covers, translates_changed, walked_to_nothing, level_back}
use Rattle.vs_plan.specs.Changes.{smaller, larger, part, HasParts, whole_of, without_parts, join}
use Rattle.vs_plan.proofs.Changing.{change_here}
use Rattle.vs_plan.proofs.Pages.{table_from}
use Rattle.vs_plan.proofs.Splitting.{smaller_at}

-- ---- numbers

pub larger_at : (level : ℕ) → 1 ≤ level → level ≤ 2 → larger (size_at level) ≡ size_at (suc level)
larger_at zero some few = absurd (omega (arith, some))
larger_at (suc (suc (suc level))) some few = absurd (omega (arith, few))
larger_at _ some few = refl

-- a stretch of small pages lies in an aligned large one that has an address of it
lies_within : (level base b low : ℕ) → 1 ≤ level → level ≤ 2 → base % entry_bytes (suc level) ≡ 0 → low % entry_bytes level ≡ 0
    → base ≤ b → b < base + entry_bytes (suc level) → low ≤ b → b < low + entry_bytes level
    → (base ≤ low) × (low + entry_bytes level ≤ base + entry_bytes (suc level))
lies_within zero base b low some few aligned even a c d e = absurd (omega (arith, some))
lies_within (suc (suc (suc level))) base b low some few aligned even a c d e = absurd (omega (arith, few))
lies_within _ base b low some few aligned even a c d e = (omega (arith, aligned, even, a, c, d, e), omega (arith, aligned, even, a, c, d, e))

-- where the last of the small pages lies
last_lies : (level base low phys place limit : ℕ) → 1 ≤ level → level ≤ 2 → base % entry_bytes (suc level) ≡ 0 → low % entry_bytes level ≡ 0
    → low ≤ base + 511 * entry_bytes level → base + 511 * entry_bytes level < low + entry_bytes level
    → place + (base + 511 * entry_bytes level - low) ≡ phys + (base + 511 * entry_bytes level) % entry_bytes (suc level) → place + entry_bytes level ≤ limit
    → phys + entry_bytes (suc level) ≤ limit
last_lies zero base low phys place limit some few aligned even a b at fits = absurd (omega (arith, some))
last_lies (suc (suc (suc level))) base low phys place limit some few aligned even a b at fits = absurd (omega (arith, few))
last_lies _ base low phys place limit some few aligned even a b at fits = omega (arith, aligned, even, a, b, at, fits)

last_in : (level base : ℕ) → 1 ≤ level → level ≤ 2 → base + 511 * entry_bytes level < base + entry_bytes (suc level)
last_in zero base some few = absurd (omega (arith, some))
last_in (suc (suc (suc level))) base some few = absurd (omega (arith, few))
last_in _ base some few = omega arith

-- the small page at its own place
part_high : (level base n : ℕ) → 1 ≤ level → level ≤ 2 → n < 512 → base + n * entry_bytes level < base + entry_bytes (suc level)
part_high zero base n some few low = absurd (omega (arith, some))
part_high (suc (suc (suc level))) base n some few low = absurd (omega (arith, few))
part_high _ base n some few low = omega (arith, low)

part_begins : (level base n low : ℕ) → 1 ≤ level → level ≤ 2 → base % entry_bytes (suc level) ≡ 0 → low % entry_bytes level ≡ 0
    → low ≤ base + n * entry_bytes level → base + n * entry_bytes level < low + entry_bytes level → low ≡ base + n * entry_bytes level
part_begins zero base n low some few aligned even a b = absurd (omega (arith, some))
part_begins (suc (suc (suc level))) base n low some few aligned even a b = absurd (omega (arith, few))
part_begins _ base n low some few aligned even a b = omega (arith, aligned, even, a, b)

part_phys : (level base n phys place : ℕ) → 1 ≤ level → level ≤ 2 → base % entry_bytes (suc level) ≡ 0 → n < 512
    → place + (base + n * entry_bytes level - (base + n * entry_bytes level)) ≡ phys + (base + n * entry_bytes level) % entry_bytes (suc level)
    → place ≡ phys + n * entry_bytes level
part_phys zero base n phys place some few aligned low at = absurd (omega (arith, some))
part_phys (suc (suc (suc level))) base n phys place some few aligned low at = absurd (omega (arith, few))
part_phys _ base n phys place some few aligned low at = omega (arith, aligned, low, at)

-- ---- the pages of a space off a page

-- the space with a page in the place of those that begin in it
abbrev pub in_place : Space → Page → Space
in_place space page = finite.insert (without_parts space page) page.base page

module _ (space : Space) (page : Page) where
  get_off : (base : ℕ) → finite.get (without_parts space page) base ≡ cond (not (covers page base)) (finite.get space base) None
  get_off base = finite.get-retain_keys space (λ k. not (covers page k)) base
      (λ other tie. ap (λ k. not (covers page k)) (sym (finite.nat_cmp-IsAntisymmetric base other tie)))

  pub off_held : (base : ℕ) (q : Page) → finite.get (without_parts space page) base ≡ Some q → (covers page base ≡ false) × (finite.get space base ≡ Some q)
  off_held base q got = by (covers page base) refl (sym (get_off base) ∙ got) where
    by : (c : Bool) → covers page base ≡ c → cond (not c) (finite.get space base) None ≡ Some q → (covers page base ≡ false) × (finite.get space base ≡ Some q)
    by true covered is = absurd (cc)
    by false uncovered is = (uncovered, is)

  pub off_kept : (base : ℕ) → covers page base ≡ false → finite.get (without_parts space page) base ≡ finite.get space base
  off_kept base uncovered = get_off base ∙ ap (λ c. cond (not c) (finite.get space base) None) uncovered

  pub off_space : {depth : Depth} → IsSpace depth space → IsSpace depth (without_parts space page)
  off_space is = record {
    under_base = λ base q got. is.under_base base q (off_held base q got).1;
    well_formed = λ q held. is.well_formed q (off_held q.base q held).1;
    apart = λ p q a h k. is.apart p q a (off_held p.base p h).1 (off_held q.base q k).1;
  }

-- ---- one page in the place of smaller ones

-- a page of the space, of the size of this level's entries, at an address of a page of the next larger size with this physical address
-- and these rights
pub record IsSmallAt (space : Space) (level phys : ℕ) (given : Rights) (b : ℕ) (q : Page) : Type 0 where
  pub held : Holds space q
  pub covered : IsTrue (covers q b)
  pub place : q.phys + (b - q.base) ≡ phys + b % entry_bytes (suc level)
  pub size : q.size ≡ size_at level
  pub rights : q.rights ≡ given

-- the larger page
abbrev pub large : ℕ → ℕ → ℕ → Rights → Page
large level base phys given = record { base = base; size = size_at (suc level); phys = phys; rights = given }

pub bytes_large : (level : ℕ) → level ≤ 2 → bytes_of (size_at (suc level)) ≡ entry_bytes (suc level)
bytes_large level few = ap entry_bytes (level_back (suc level) (omega arith) (omega (arith, few)))

bytes_small : (level : ℕ) → 1 ≤ level → level ≤ 2 → (q : Page) → q.size ≡ size_at level → bytes_of q.size ≡ entry_bytes level
bytes_small level some few q same = ap bytes_of same ∙ ap entry_bytes (level_back level (omega (arith, some)) (omega (arith, few)))

-- where its addresses are
module _ (level base phys : ℕ) (given : Rights) (few : level ≤ 2) where
  pub spans : (b : ℕ) → IsTrue (covers (large level base phys given) b) → (base ≤ b) × (b < base + entry_bytes (suc level))
  spans b covered = subst (λ n. (base ≤ b) × (b < base + n)) (bytes_large level few) ((covers_means (large level base phys given) b).0 covered)

  pub spanned : (b : ℕ) → base ≤ b → b < base + entry_bytes (suc level) → IsTrue (covers (large level base phys given) b)
  spanned b low high = (covers_means (large level base phys given) b).1 (subst (λ n. (base ≤ b) × (b < base + n)) (sym (bytes_large level few)) (low, high))

  pub loose : (depth : Depth) → IsCanonical depth base → base % entry_bytes (suc level) ≡ 0 → phys % entry_bytes (suc level) ≡ 0
      → IsPageBelow (phys + bytes_of (size_at (suc level))) depth (large level base phys given)
  loose depth canonical aligned phys_aligned = record {
    canonical = canonical;
    aligned = ap (λ n. base % n) (bytes_large level few) ∙ aligned;
    phys_aligned = ap (λ n. phys % n) (bytes_large level few) ∙ phys_aligned;
    phys_range = omega arith;
  }

module _ {depth : Depth} {space : Space} (is : IsSpace depth space) (base level phys : ℕ) (given : Rights) (canonical : IsCanonical depth base)
    (some : 1 ≤ level) (few : level ≤ 2) (aligned : base % entry_bytes (suc level) ≡ 0) (phys_aligned : phys % entry_bytes (suc level) ≡ 0)
    (small_at : (b : ℕ) → IsTrue (covers (large level base phys given) b) → (q : Page) × IsSmallAt space level phys given b q) where
  abbrev page : Page
  page = large level base phys given

  -- each lies in the large one
  small_within : (b : ℕ) (q : Page) → IsTrue (covers page b) → IsSmallAt space level phys given b q
      → (base ≤ q.base) × (q.base + bytes_of q.size ≤ base + entry_bytes (suc level))
  small_within b q covered at_b =
      let at = spans level base phys given few b covered in
      let good = is.well_formed q at_b.held in
      let bytes = bytes_small level some few q at_b.size in
      let own = (covers_means q b).0 at_b.covered in
      subst (λ n. (base ≤ q.base) × (q.base + n ≤ base + entry_bytes (suc level))) (sym bytes)
      (lies_within level base b q.base some few aligned (subst (λ n. q.base % n ≡ 0) bytes good.aligned) at.0 at.1 own.0
      (subst (λ n. b < q.base + n) bytes own.1))

  pub good : IsPage depth page
  good =
      let last_high = last_in level base some few in
      let covered = spanned level base phys given few (base + 511 * entry_bytes level) (omega arith) last_high in
      let at = small_at (base + 511 * entry_bytes level) covered in
      let q = at.0 in
      let small = is.well_formed q at.1.held in
      let bytes = bytes_small level some few q at.1.size in
      let own = (covers_means q (base + 511 * entry_bytes level)).0 at.1.covered in
      let rough = loose level base phys given few depth canonical aligned phys_aligned in
      record {
        canonical = canonical;
        aligned = rough.aligned;
        phys_aligned = rough.phys_aligned;
        phys_range = subst (λ n. phys + n ≤ 2 ^ 51) (sym (bytes_large level few))
            (last_lies level base q.base phys q.phys (2 ^ 51) some few aligned (subst (λ n. q.base % n ≡ 0) bytes small.aligned) own.0
            (subst (λ n. base + 511 * entry_bytes level < q.base + n) bytes own.1) at.1.place (subst (λ n. q.phys + n ≤ 2 ^ 51) bytes small.phys_range));
      }

  -- a page of the space that begins in the large one lies in it
  begins_in : (q : Page) → Holds space q → IsTrue (covers page q.base) → (a : ℕ) → IsTrue (covers q a) → IsTrue (covers page a)
  begins_in q held covered a at =
      let small = small_at q.base covered in
      let one : q ≡ small.0 = is.apart q small.0 q.base held small.1.held (covers_base q) small.1.covered in
      let lies = subst (λ (z : Page). (base ≤ z.base) × (z.base + bytes_of z.size ≤ base + entry_bytes (suc level))) (sym one)
      (small_within q.base small.0 covered small.1) in
      let own = (covers_means q a).0 at in
      spanned level base phys given few a (omega (arith, lies.0, own.0)) (omega (arith, lies.1, own.1))

  -- a page of the space that has an address of the large one begins in it
  begins_there : (q : Page) (a : ℕ) → Holds space q → IsTrue (covers q a) → IsTrue (covers page a) → IsTrue (covers page q.base)
  begins_there q a held at covered =
      let small = small_at a covered in
      let one : q ≡ small.0 = is.apart q small.0 a held small.1.held at small.1.covered in
      let lies = subst (λ (z : Page). (base ≤ z.base) × (z.base + bytes_of z.size ≤ base + entry_bytes (suc level))) (sym one)
      (small_within a small.0 covered small.1) in
      let own = (covers_means q a).0 at in
      let here = spans level base phys given few a covered in
      spanned level base phys given few q.base lies.0 (omega (arith, own.0, here.1))

  -- they are its parts
  pub parts_there : HasParts space page
  parts_there n low =
      let b = base + n * entry_bytes level in
      let high = part_high level base n some few low in
      let covered = spanned level base phys given few b (omega arith) high in
      let at = small_at b covered in
      let q = at.0 in
      let bytes = bytes_small level some few q at.1.size in
      let own = (covers_means q b).0 at.1.covered in
      let even = subst (λ k. q.base % k ≡ 0) bytes (is.well_formed q at.1.held).aligned in
      let begins : q.base ≡ b = part_begins level base n q.base some few aligned even own.0 (subst (λ k. b < q.base + k) bytes own.1) in
      let small = smaller_at level some (omega (arith, few)) in
      let step : bytes_of (smaller (size_at (suc level))) ≡ entry_bytes level = ap bytes_of small
      ∙ ap entry_bytes (level_back level (omega (arith, some)) (omega (arith, few))) in
      let place : q.phys ≡ phys + n * entry_bytes level = part_phys level base n phys q.phys some few aligned low
      (ap (λ k. q.phys + (b - k)) (sym begins) ∙ at.1.place) in
      let is_part : q ≡ part page n = same_page q (part page n) (begins ∙ ap (λ k. base + n * k) (sym step)) (at.1.size ∙ sym small)
      (place ∙ ap (λ k. phys + n * k) (sym step)) at.1.rights in
      subst (Holds space) is_part at.1.held

  pub is_joined_space : IsSpace depth (in_place space page)
  is_joined_space = insert_space (off_space space page is) page good (λ q a held other at covered.
      let was = off_held space page q.base q held in
      let again = begins_there q a was.1 at covered in
      let gone = was.0 in
      absurd (cc))

  pub joined_looks : LooksChanged page (as_in page) space (in_place space page)
  joined_looks = record {
    there = λ a covered. look_of_page is_joined_space a page (get-insert_same (without_parts space page) base page) covered;
    elsewhere = λ a uncovered. look_same (in_place space page) space a
        (page_at_same is_joined_space is a (λ q at. (forth a uncovered q at, back a uncovered q at)));
  } where
    forth : (a : ℕ) → IsFalse (covers page a) → (q : Page) → IsTrue (covers q a) → Holds (in_place space page) q → Holds space q
    forth a uncovered q at held = ⊎_elim
        (λ new. let again = subst (λ (z : Page). IsTrue (covers z a)) new.1 at in absurd (cc))
        (λ old. (off_held space page q.base q old.1).1)
        (insert_cases (without_parts space page) base page q.base q held)

    back : (a : ℕ) → IsFalse (covers page a) → (q : Page) → IsTrue (covers q a) → Holds space q → Holds (in_place space page) q
    back a uncovered q at held = by (covers page q.base) refl where
      by : (c : Bool) → covers page q.base ≡ c → Holds (in_place space page) q
      by true covered = let again = begins_in q held covered a at in absurd (cc)
      by false off = get-insert_other (without_parts space page) base page q.base (λ same. let first = covers_base page in
          let here = subst (λ k. covers page k ≡ false) same off in absurd (cc)) ∙ off_kept space page q.base off ∙ held

-- ---- a memory in which all addresses of the page are walked to smaller ones

module _ {depth : Depth} {m : Memory} {root : ℕ} {space : Space} (of : IsTableOf (table_from depth m root) space) (base level phys : ℕ) (given : Rights)
    (canonical : IsCanonical depth base) (some : 1 ≤ level) (few : level ≤ 2) (aligned : base % entry_bytes (suc level) ≡ 0)
    (phys_aligned : phys % entry_bytes (suc level) ≡ 0)
    (walks : (b : ℕ) → SamePath (levels depth) (suc level) base b
    → walk depth m root b ≡ Mapped (phys + b % entry_bytes (suc level)) (size_at level) given) where
  is_canonical : (b : ℕ) → IsTrue (covers (large level base phys given) b) → IsCanonical depth b
  is_canonical b covered = covered_canonical (phys + bytes_of (size_at (suc level))) depth (large level base phys given) b
      (loose level base phys given few depth canonical aligned phys_aligned) covered

  path : (b : ℕ) → IsTrue (covers (large level base phys given) b) → SamePath (levels depth) (suc level) base b
  path b covered =
      let at = spans level base phys given few b covered in
      let exponent : 3 + 9 * suc level ≡ 12 + 9 * level = omega arith in
      stretch_same (levels depth) level base b
      (subst (λ n. base / 2 ^ n ≡ b / 2 ^ n) exponent (in_block (3 + 9 * suc level) base b aligned at.0 at.1))

  pub small_walked : (b : ℕ) → IsTrue (covers (large level base phys given) b) → (q : Page) × IsSmallAt space level phys given b q
  small_walked b covered =
      elim (page_at space b) as (λ o. page_at space b ≡ o → (q : Page) × IsSmallAt space level phys given b q) [
        | None ↦ λ e.
            let nothing : walk depth m root b ≡ NotMapped = walked_to_nothing of b (is_canonical b covered) e in
            let there = walks b (path b covered) in
            absurd (cc)
        | Some q ↦ λ e.
            let looks : look space b ≡ answers.Mapped (q.phys + (b - q.base)) q.size q.rights = rw e refl in
            let walked : Mapped (q.phys + (b - q.base)) q.size q.rights ≡ Mapped (phys + b % entry_bytes (suc level)) (size_at level) given =
            sym (ap as_walk looks) ∙ sym (of.translates b (is_canonical b covered)) ∙ walks b (path b covered) in
            let at = (page_at_means of.is_space b q).0 e in
            (q, record { held = at.0; covered = at.1; place = cc; size = cc; rights = cc })
      ] refl

  pub joined_translates : (m' : Memory)
      → ((b : ℕ) → SamePath (levels depth) (suc level) base b
      → walk depth m' root b ≡ Mapped (phys + b % entry_bytes (suc level)) (size_at (suc level)) given)
      → ((b : ℕ) → (SamePath (levels depth) (suc level) base b → ⊥) → walk depth m' root b ≡ walk depth m root b)
      → TranslatesAs depth m' root (in_place space (large level base phys given))
  joined_translates m' there elsewhere =
      let own : level_of (size_at (suc level)) ≡ suc level = level_back (suc level) (omega arith) (omega (arith, few)) in
      let is_page = good of.is_space base level phys given canonical some few aligned phys_aligned small_walked in
      translates_changed m' of is_page (joined_looks of.is_space base level phys given canonical some few aligned phys_aligned small_walked)
      (λ b is_b same.
      let at = (path_covers depth (large level base phys given) is_page b is_b same).1 in
      let offset : b % entry_bytes (suc level) ≡ b - base = omega (arith, subst (λ n. base + b % n ≡ b) (bytes_large level few) at) in
      there b (subst (λ l. SamePath (levels depth) l base b) own same) ∙ ap (λ n. Mapped (phys + n) (size_at (suc level)) given) offset)
      (λ b is_b apart. elsewhere b (λ same. apart (subst (λ l. SamePath (levels depth) l base b) (sym own) same)))

-- ---- what a join does

-- the space after the join of a page
abbrev pub join_after : Space → Page → Space
join_after space page = finite.insert (without_parts space (whole_of page)) page.base (whole_of page)

pub join_is : (space : Space) (base level phys : ℕ) (given : Rights) (q : Page) → 1 ≤ level → level ≤ 2 → page_at space base ≡ Some q → q.base ≡ base
    → q.size ≡ size_at level → q.phys ≡ phys → q.rights ≡ given
    → join space base ≡ record {
      space = in_place space (record { base = base; size = size_at (suc level); phys = phys; rights = given });
      answer = answers.Changed given;
    }
join_is space base level phys given q some few here begins size place rights =
    let one : ◌≡◌ {A = Page} (whole_of q) (record { base = base; size = size_at (suc level); phys = phys; rights = given }) =
    same_page (whole_of q) (record { base = base; size = size_at (suc level); phys = phys; rights = given })
    begins (ap larger size ∙ larger_at level some few) place rights in
    change_here space base (join_after space) q here begins
    ∙ ap (λ (z : Page). let s : Stepped = record { space = in_place space z; answer = answers.Changed z.rights } in s) one
