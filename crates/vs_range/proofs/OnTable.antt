-- Pages that follow one another in one table: their addresses, and their ways.
use Rattle.std.proofs.Common.{◌≡◌, ℕ, suc, ◌+◌, ◌-◌, ◌*◌, ◌/◌, ◌%◌, ◌<◌, ◌≤◌, Some, None, ⊎_elim, sym, ap, ◌∙◌, arith}
use Rattle.std.proofs.lemmas.Bool.{cases_lt}
use Rattle.vs_types.specs.Depth.{levels, table_bytes, index_at, IsCanonical}
use Rattle.vs_types.specs.Entry.{meaning}
use Rattle.vs_types.specs.Page.{level_of, bytes_of}
use Rattle.vs_types.specs.Space.{Space}
use Rattle.vs_types.specs.declared.addresses.depth.Depth.{Depth}
use Rattle.vs_types.specs.declared.addresses.depth.Depth.TheVariants.{Four, Five}
use Rattle.vs_types.specs.declared.addresses.page.Rights.{Rights}
use Rattle.vs_types.specs.declared.addresses.page.Size.{Size}
use Rattle.vs_types.specs.declared.addresses.page.Size.TheVariants.{K4, M2, G1}
use Rattle.vs_walk.specs.Memory.{Memory}
use Rattle.vs_space.specs.Held.{word_at}
use Rattle.vs_space.specs.Path.{found_at, table_in, table_at, SamePath}
use Rattle.vs_space.proofs.Paths.{same_table, table_below, none_past, reached_within}
use Rattle.vs_space.proofs.Prunes.{canonical_stretch}
use Rattle.vs_space.proofs.Regions.{stretch_same}
use Rattle.vs_plan.specs.declared.plans.request.Request.{Request}
use Rattle.vs_plan.specs.declared.plans.target.Target.{Target}
use Rattle.vs_plan.specs.Premise.{IsPremise, HasOwnWay}
use Rattle.vs_plan.specs.Request.{IsRequest, IsWhole, address_of}
use Rattle.vs_plan.specs.Way.{IsWay}
use Rattle.vs_plan.proofs.Parts.{EndAt}
use Rattle.vs_plan.proofs.Stored.{found_word}
use Rattle.vs_plan.proofs.Ways.{way_table, way_shared}

-- ---- addresses

-- where the page so many pages on begins
abbrev pub page_on : Size → ℕ → ℕ → ℕ
page_on size base number = base + number * bytes_of size

pub record IsPageOn (size : Size) (base number : ℕ) : Type 0 where
  pub index : index_at (level_of size) (page_on size base number) ≡ index_at (level_of size) base + number
  pub stretch : base / table_bytes (level_of size) ≡ page_on size base number / table_bytes (level_of size)
  pub aligned : page_on size base number % bytes_of size ≡ 0

pub is_page_on : (size : Size) (base number : ℕ) → base % bytes_of size ≡ 0 → index_at (level_of size) base + number < 512 → IsPageOn size base number
is_page_on K4 base number aligned room =
    record { index = omega (arith, aligned, room); stretch = omega (arith, aligned, room); aligned = omega (arith, aligned) }
is_page_on M2 base number aligned room =
    record { index = omega (arith, aligned, room); stretch = omega (arith, aligned, room); aligned = omega (arith, aligned) }
is_page_on G1 base number aligned room =
    record { index = omega (arith, aligned, room); stretch = omega (arith, aligned, room); aligned = omega (arith, aligned) }

pub level_few : (size : Size) → (1 ≤ level_of size) × (level_of size ≤ 3)
level_few K4 = (omega arith, omega arith)
level_few M2 = (omega arith, omega arith)
level_few G1 = (omega arith, omega arith)

four_levels : (depth : Depth) → 4 ≤ levels depth
four_levels Four = omega arith
four_levels Five = omega arith

pub same_way : (depth : Depth) (size : Size) (base number : ℕ) → IsPageOn size base number
    → SamePath (levels depth) (suc (level_of size)) base (page_on size base number)
same_way depth size base number on = stretch_same (levels depth) (level_of size) base (page_on size base number) on.stretch

pub canonical_on : (depth : Depth) (size : Size) (base number : ℕ) → IsCanonical depth base → IsPageOn size base number
    → IsCanonical depth (page_on size base number)
canonical_on depth size base number is on =
    canonical_stretch depth base (page_on size base number) (12 + 9 * level_of size) is (omega (arith, (level_few size).1, four_levels depth)) on.stretch

-- what may be asked of a page may be asked of another one in its table
pub asked_on : (target : Target) (first on : Request) → IsRequest target first → IsCanonical target.depth (address_of on) → IsWhole target on
    → IsRequest target on
asked_on target first on asked canonical whole = record { phys_bits = asked.phys_bits; root = asked.root; canonical = canonical; whole = whole }

-- ---- a way that ends in the same table

-- where its entry leads to no table, an address has no table but those of the other
pub own_shared : {depth : Depth} {m : Memory} {root base level number : ℕ} (a : ℕ) → 1 ≤ level → table_at (levels depth) m root level base ≡ Some number
    → table_in (found_at level m number a) ≡ None → SamePath (levels depth) (suc level) base a → HasOwnWay depth m root base → HasOwnWay depth m root a
own_shared {depth} {m} {root} {base} {level} {number} a some reached ends same own = record {
  once = λ l q other b at there. ⊎_elim
      (λ (under : l < level).
      let within = reached_within (levels depth) root m level base number reached in
      let here : table_at (levels depth) m root level a ≡ Some number = sym (same_table (levels depth) root m level base a same) ∙ reached in
      let none = none_past (levels depth) root m (level - 1) l a (omega (arith, within)) (omega arith)
      (table_below (levels depth) root m level (level - 1) a number (omega arith) here ∙ ends) in
      absurd (cc))
      (λ (from : level ≤ l).
      let both = own.once l q other b (same_table (levels depth) root m l base a (λ i low high. same i (omega arith) high) ∙ at) there in
      (both.0, λ i low high. sym (same i (omega arith) high) ∙ both.1 i low high))
      (cases_lt l level);
}

-- ---- the table

-- the way of the base ends in this table, or leads through it
pub record IsAtTable (target : Target) (memory : Memory) (space : Space) (size : Size) (base number : ℕ) (given : Rights) : Type 0 where
  pub premise : IsPremise target.depth memory target.root base space
  pub way : IsWay target.depth memory target.root base (level_of size) number given

pub end_on : {target : Target} {memory : Memory} {space : Space} {size : Size} {base number : ℕ} {given : Rights}
    → IsAtTable target memory space size base number given → IsCanonical target.depth base → (on : ℕ) → IsPageOn size base on → (word : ℕ)
    → word_at memory number (index_at (level_of size) base + on) ≡ Some word → table_in (Some (meaning (level_of size) word)) ≡ None
    → EndAt target memory space (level_of size) number given word (page_on size base on)
end_on {target} {memory} {space} {size} {base} {number} {given} at canonical on is word word_is ends =
    let a = page_on size base on in
    let told : word_at memory number (index_at (level_of size) a) ≡ Some word = ap (word_at memory number) is.index ∙ word_is in
    record {
      premise = record {
        whole = at.premise.whole;
        is_space = at.premise.is_space;
        translates = at.premise.translates;
        own = own_shared a (level_few size).0 (way_table (level_of size) number given at.way)
            (ap table_in (found_word (level_of size) memory number a word told) ∙ ends) (same_way target.depth size base on is) at.premise.own;
      };
      way = way_shared a (level_of size) number given at.way (same_way target.depth size base on is);
      word_is = told;
      canonical = canonical_on target.depth size base on canonical is;
    }
