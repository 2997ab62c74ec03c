-- Which addresses take one path: those of an aligned stretch. What a walk's end says of the space.
use Rattle.std.proofs.Common.{◌≡◌, ◌≢◌, ℕ, zero, suc, ◌+◌, ◌-◌, ◌*◌, ◌/◌, ◌%◌, ◌^◌, ◌<◌, ◌≤◌, ◌↔◌, true, false, Some, None, IsTrue, refl, sym, ap, subst, ◌∙◌}
use Rattle.std.proofs.Common.{mod-lt, arith}
use lib.Pow.{pow_pos, split, shr-shr}
use Rattle.std.proofs.lemmas.Nat.{div-mul-add}
use Rattle.std.specs.Prelude.{slice_index}
use Rattle.vs_types.specs.Depth.{levels, entry_bytes, table_bytes, index_at, IsCanonical}
use Rattle.vs_types.specs.Entry.{size_at}
use Rattle.vs_types.specs.Page.{level_of, bytes_of, covers, IsPage}
use Rattle.vs_types.specs.Space.{Space, Holds, page_at}
use Rattle.vs_types.specs.Step.{look}
use Rattle.vs_types.specs.Laws.{LooksChanged}
use Rattle.vs_types.specs.declared.addresses.depth.Depth.{Depth}
use Rattle.vs_types.specs.declared.addresses.page.Page.{Page}
use Rattle.vs_types.specs.declared.addresses.page.Rights.{Rights}
use Rattle.vs_types.specs.declared.addresses.page.Size.{Size}
use Rattle.vs_types.specs.declared.entries.entry.Meaning.TheVariants as entry
use Rattle.vs_types.specs.declared.requests.answer.Answer.{Answer}
use Rattle.vs_types.specs.declared.requests.answer.Answer.TheVariants as answers
use Rattle.vs_types.proofs.Pages.{three_levels, level_at_most, covers_means, level_some}
use Rattle.vs_types.proofs.Spaces.{page_at_means, look_of_none}
use Rattle.vs_walk.specs.Memory.{Memory}
use Rattle.vs_walk.specs.Walk.{walk, as_walk, TranslatesAs}
use Rattle.vs_walk.specs.declared.walk.Walk.{Walk}
use Rattle.vs_walk.specs.declared.walk.Walk.TheVariants.{NotMapped, Mapped}
use Rattle.vs_walk.proofs.Walks.{leaf_level}
use Rattle.vs_space.specs.Path.{found_at, table_at, SamePath}
use Rattle.vs_space.specs.Table.{PageTable, IsTableOf}
use Rattle.vs_space.specs.Tree.{IsTree}
use Rattle.vs_space.proofs.Canonical.{top_same}
use Rattle.vs_space.proofs.Paths.{words_found, walk_leaf}

-- ---- stretches

parts_same : (x y : ℕ) → x / 512 ≡ y / 512 → x % 512 ≡ y % 512 → x ≡ y
parts_same x y p q = omega arith

-- addresses that take the same path to a table lie in its stretch
pub same_stretch : (depth : Depth) (level a b : ℕ) → IsCanonical depth a → IsCanonical depth b → level < levels depth → SamePath (levels depth) (suc level) a b
    → a / table_bytes level ≡ b / table_bytes level
same_stretch depth level a b is_a is_b low same = by (levels depth - 1 - level) level (omega arith) same where
  by : (d level : ℕ) → d + level ≡ levels depth - 1 → SamePath (levels depth) (suc level) a b → a / table_bytes level ≡ b / table_bytes level
  by zero level e same =
      let highest : level ≡ levels depth - 1 = omega arith in
      subst (λ l. a / table_bytes l ≡ b / table_bytes l) (sym highest) (top_same depth a b is_a is_b (same (levels depth) (omega arith) (omega arith)))
  by (suc d) level e same =
      let up : 12 + 9 * suc level ≡ 12 + 9 * level + 9 = omega arith in
      let own : 3 + 9 * suc level ≡ 12 + 9 * level = omega arith in
      let above = by d (suc level) (omega arith) (λ i from to. same i (omega arith) to) in
      let high : a / table_bytes level / 512 ≡ b / table_bytes level / 512 =
      shr-shr a (12 + 9 * level) 9 ∙ ap (λ n. a / 2 ^ n) (sym up) ∙ above ∙ ap (λ n. b / 2 ^ n) up ∙ sym (shr-shr b (12 + 9 * level) 9) in
      let here : a / table_bytes level % 512 ≡ b / table_bytes level % 512 =
      subst (λ n. a / 2 ^ n % 512 ≡ b / 2 ^ n % 512) own (same (suc level) (omega arith) (omega arith)) in
      parts_same (a / table_bytes level) (b / table_bytes level) high here

-- addresses of one stretch take the same path to its table
pub stretch_same : (top level a b : ℕ) → a / table_bytes level ≡ b / table_bytes level → SamePath top (suc level) a b
stretch_same top level a b same = λ i from to.
    let d = 9 * (i - suc level) in
    let bits : 3 + 9 * i ≡ 12 + 9 * level + d = omega arith in
    ap (λ n. a / 2 ^ n % 512) bits
    ∙ ap (λ x. x % 512) (sym (shr-shr a (12 + 9 * level) d) ∙ ap (λ x. x / 2 ^ d) same ∙ shr-shr b (12 + 9 * level) d)
    ∙ ap (λ n. b / 2 ^ n % 512) (sym bits)

-- an aligned stretch has the addresses with its quotient
pub block : (e base b : ℕ) → base % 2 ^ e ≡ 0 → base / 2 ^ e ≡ b / 2 ^ e → (base ≤ b) × (b < base + 2 ^ e) × (base + b % 2 ^ e ≡ b)
block e base b at same =
    let whole = split base e in
    let part = split b e in
    let times : base / 2 ^ e * 2 ^ e ≡ b / 2 ^ e * 2 ^ e = ap (λ x. x * 2 ^ e) same in
    let rest : b % 2 ^ e < 2 ^ e = mod-lt b (pow_pos e) in
    (omega arith, omega arith, omega arith)

pub in_block : (e base b : ℕ) → base % 2 ^ e ≡ 0 → base ≤ b → b < base + 2 ^ e → base / 2 ^ e ≡ b / 2 ^ e
in_block e base b at low high =
    let whole = split base e in
    let parts : b ≡ base / 2 ^ e * 2 ^ e + (b - base) = omega arith in
    sym (ap (λ x. x / 2 ^ e) parts ∙ div-mul-add (base / 2 ^ e) (2 ^ e) (b - base) (omega arith))

-- a page has the canonical addresses that take its path
module _ (depth : Depth) (q : Page) (good : IsPage depth q) where
  below : ℕ
  below = level_of q.size - 1

  own : level_of q.size ≡ suc (level_of q.size - 1)
  own = omega (arith, level_some q.size)

  exponent : 12 + 9 * (level_of q.size - 1) ≡ 3 + 9 * level_of q.size
  exponent = omega (arith, level_some q.size)

  pub covers_path : (b : ℕ) → IsTrue (covers q b) → SamePath (levels depth) (level_of q.size) q.base b
  covers_path b covered =
      let at = (covers_means q b).0 covered in
      subst (λ l. SamePath (levels depth) l q.base b) (sym own)
      (stretch_same (levels depth) (level_of q.size - 1) q.base b
      (subst (λ n. q.base / 2 ^ n ≡ b / 2 ^ n) (sym exponent) (in_block (3 + 9 * level_of q.size) q.base b good.aligned at.0 at.1)))

  pub path_covers : (b : ℕ) → IsCanonical depth b → SamePath (levels depth) (level_of q.size) q.base b
      → IsTrue (covers q b) × (q.base + b % bytes_of q.size ≡ b)
  path_covers b canonical same =
      let quotient = subst (λ n. q.base / 2 ^ n ≡ b / 2 ^ n) exponent
      (same_stretch depth (level_of q.size - 1) q.base b good.canonical canonical (omega (arith, three_levels depth, level_at_most q.size))
      (subst (λ l. SamePath (levels depth) l q.base b) own same)) in
      let at = block (3 + 9 * level_of q.size) q.base b good.aligned quotient in
      ((covers_means q b).1 (at.0, at.1), at.2)

-- ---- what a walk says of the space

pub level_back : (level : ℕ) → 0 < level → level ≤ 3 → level_of (size_at level) ≡ level
level_back zero some few = absurd (omega arith)
level_back (suc (suc (suc (suc level)))) some few = absurd (omega arith)
level_back _ some few = refl

-- how a page table walks an address
abbrev pub walk_in : PageTable → ℕ → Walk
walk_in t a = walk t.depth t.memory t.root a

module _ {t : PageTable} {space : Space} (of : IsTableOf t space) (a : ℕ) (canonical : IsCanonical t.depth a) where
  -- where an address is walked to nothing, no page is there
  pub nothing_at : walk_in t a ≡ NotMapped → page_at space a ≡ None
  nothing_at is =
      elim (page_at space a) as (λ o. page_at space a ≡ o → o ≡ None) [
        | None ↦ λ e. refl
        | Some q ↦ λ e. let looks : look space a ≡ answers.Mapped (q.phys + (a - q.base)) q.size q.rights = rw e refl in
            let walked : NotMapped ≡ Mapped (q.phys + (a - q.base)) q.size q.rights = sym is ∙ of.translates a canonical ∙ ap as_walk looks in cc
      ] refl

  -- where no page is, an address is walked to nothing
  pub walked_to_nothing : page_at space a ≡ None → walk_in t a ≡ NotMapped
  walked_to_nothing e = of.translates a canonical ∙ ap as_walk (look_of_none space a e)

  -- where a page is, an address is mapped
  pub walked_to_page : (q : Page) → page_at space a ≡ Some q → walk_in t a ≢ NotMapped
  walked_to_page q e is = let none = nothing_at is in cc

  -- the page at an address that is mapped
  page_walked : (phys : ℕ) (size : Size) (rights : Rights) → walk_in t a ≡ Mapped phys size rights
      → (q : Page) × (page_at space a ≡ Some q) × (q.phys + (a - q.base) ≡ phys) × (q.size ≡ size) × (q.rights ≡ rights)
  page_walked phys size rights is =
      elim (page_at space a) as (λ o. page_at space a ≡ o
      → (q : Page) × (page_at space a ≡ Some q) × (q.phys + (a - q.base) ≡ phys) × (q.size ≡ size) × (q.rights ≡ rights)) [
        | None ↦ λ e. let nothing = walked_to_nothing e in cc
        | Some q ↦ λ e.
            let looks : look space a ≡ answers.Mapped (q.phys + (a - q.base)) q.size q.rights = rw e refl in
            let walked : Mapped (q.phys + (a - q.base)) q.size q.rights ≡ Mapped phys size rights =
            sym (ap as_walk looks) ∙ sym (of.translates a canonical) ∙ is in
            (q, e, cc, cc, cc)
      ] refl

-- the page whose leaf is met in the table of a level on the path of an address
pub record IsLeafPage (depth : Depth) (space : Space) (a level phys : ℕ) (own : Rights) (q : Page) : Type 0 where
  pub here : page_at space a ≡ Some q
  pub held : Holds space q
  pub covered : IsTrue (covers q a)
  pub good : IsPage depth q
  pub level_is : level_of q.size ≡ level
  pub size : q.size ≡ size_at level
  pub base : q.base + a % bytes_of q.size ≡ a
  pub phys_is : q.phys ≡ phys
  pub rights : q.rights ≡ own

-- addresses of a page that begins there take the path of that address
pub page_path : {depth : Depth} {space : Space} {a level phys : ℕ} {own : Rights} {q : Page} → IsLeafPage depth space a level phys own q → q.base ≡ a → (b : ℕ)
    → SamePath (levels depth) (level_of q.size) q.base b ↔ SamePath (levels depth) level a b
page_path {depth} {a = a} {q = q} leaf begins b =
    subst (λ l. SamePath (levels depth) (level_of q.size) q.base b ↔ SamePath (levels depth) l a b) leaf.level_is
    (subst (λ x. SamePath (levels depth) (level_of q.size) q.base b ↔ SamePath (levels depth) (level_of q.size) x b) begins (λ same. same, λ same. same))

-- where an address is walked as a leaf of a level says, its page
pub mapped_page : {t : PageTable} {space : Space} → IsTableOf t space → (a level phys : ℕ) (own : Rights) → IsCanonical t.depth a → 1 ≤ level → level ≤ 3
    → walk_in t a ≡ Mapped (phys + a % entry_bytes level) (size_at level) own → (q : Page) × IsLeafPage t.depth space a level phys own q
mapped_page {t} {space} of a level phys own canonical some few walked =
    let page = page_walked of a canonical (phys + a % entry_bytes level) (size_at level) own walked in
    let q = page.0 in
    let there = (page_at_means of.is_space a q).0 page.1 in
    let good = of.is_space.well_formed q there.0 in
    let same : level_of q.size ≡ level = ap level_of page.3 ∙ level_back level (omega arith) few in
    let bytes : entry_bytes level ≡ bytes_of q.size = ap entry_bytes (sym same) in
    let spans = (covers_means q a).0 there.1 in
    let in_page = block (3 + 9 * level_of q.size) q.base a good.aligned (in_block (3 + 9 * level_of q.size) q.base a good.aligned spans.0 spans.1) in
    let offset : a % entry_bytes level ≡ a % bytes_of q.size = ap (λ n. a % n) bytes in (
      q,
      record {
        here = page.1;
        held = there.0;
        covered = there.1;
        good = good;
        level_is = same;
        size = page.3;
        base = in_page.2;
        phys_is = omega (arith, page.2, in_page.2, offset);
        rights = page.4;
      },
    )

pub leaf_page : {t : PageTable} {space : Space} → IsTree (levels t.depth) t.memory t.root → IsTableOf t space → (a level n phys : ℕ) (own : Rights)
    → IsCanonical t.depth a → 1 ≤ level → table_at (levels t.depth) t.memory t.root level a ≡ Some n
    → found_at level t.memory n a ≡ Some (entry.Leaf phys own) → (q : Page) × IsLeafPage t.depth space a level phys own q
leaf_page {t} {space} tree of a level n phys own canonical some at found =
    let words = words_found level t.memory n a (entry.Leaf phys own) found in
    mapped_page of a level phys own canonical some (leaf_level level (slice_index words.0 (index_at level a)) phys own words.2).0
    (walk_leaf tree a level n phys own some at found)

-- ---- a space with another look at the addresses of a page

pub translates_changed : {t : PageTable} (m' : Memory) {before after : Space} {q : Page} {inside : ℕ → Answer} → IsTableOf t before → IsPage t.depth q
    → LooksChanged q inside before after
    → ((b : ℕ) → IsCanonical t.depth b → SamePath (levels t.depth) (level_of q.size) q.base b → walk t.depth m' t.root b ≡ as_walk (inside b))
    → ((b : ℕ) → IsCanonical t.depth b → (SamePath (levels t.depth) (level_of q.size) q.base b → ⊥) → walk t.depth m' t.root b ≡ walk_in t b)
    → TranslatesAs t.depth m' t.root after
translates_changed {t} m' {before} {after} {q} {inside} of good looks there elsewhere = λ b canonical.
    elim (covers q b) as (λ c. covers q b ≡ c → walk t.depth m' t.root b ≡ as_walk (look after b)) [
      | true ↦ λ covered. there b canonical (covers_path t.depth q good b covered) ∙ ap as_walk (sym (looks.there b covered))
      | false ↦ λ uncovered.
          elsewhere b canonical (λ same. let covered = (path_covers t.depth q good b canonical same).0 in cc)
          ∙ of.translates b canonical ∙ ap as_walk (sym (looks.elsewhere b uncovered))
    ] refl
