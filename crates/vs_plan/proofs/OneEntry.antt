-- What one store into the entry for a base changes, of the walks of all addresses.
use Rattle.std.proofs.Common.{◌≡◌, ℕ, zero, suc, ◌+◌, ◌-◌, ◌*◌, ◌/◌, ◌%◌, ◌≤◌, Some, IsSome, ◌⊎◌, inl, inr, ⊎_elim, sym, ap, subst, ◌∙◌, arith}
use Rattle.std.specs.FinMap as finite
use Rattle.std.proofs.lemmas.Option.{same_Some}
use Rattle.vs_types.specs.Depth.{levels, entry_bytes, index_at, IsCanonical}
use Rattle.vs_types.specs.Entry.{size_at}
use Rattle.vs_types.specs.Page.{bytes_of, level_of, intersection}
use Rattle.vs_types.specs.declared.addresses.depth.Depth.{Depth}
use Rattle.vs_types.specs.declared.addresses.page.Rights.{Rights}
use Rattle.vs_types.specs.declared.addresses.page.Size.{Size}
use Rattle.vs_types.specs.declared.entries.entry.Meaning.TheVariants as entry
use Rattle.vs_walk.specs.Memory.{Memory}
use Rattle.vs_walk.specs.Walk.{walk}
use Rattle.vs_walk.specs.declared.walk.Walk.TheVariants.{Mapped}
use Rattle.vs_walk.proofs.TranslatedBits.{entry_is_table}
use Rattle.vs_space.specs.Held.{with_word}
use Rattle.vs_space.specs.Path.{found_at, table_at, SamePath}
use Rattle.vs_space.proofs.Paths.{table_first, table_before, reached_within}
use Rattle.vs_space.proofs.Regions.{same_stretch, stretch_same, block, level_back}
use Rattle.vs_space.proofs.Writes.{same_or_not}
use Rattle.vs_plan.specs.declared.plans.plan.Store.{Store}
use Rattle.vs_plan.specs.Premise.{HasOwnWay}
use Rattle.vs_plan.specs.Stores.{stored}
use Rattle.vs_plan.specs.Way.{IsWay, Begins, Leads}
use Rattle.vs_plan.proofs.EntryStores.{walked_off}
use Rattle.vs_plan.proofs.Stays.{ChangesPageAlone, ChangesRangeAlone, mapped_same}
use Rattle.vs_plan.proofs.Ways.{walk_at}

-- ---- a table that is reached has a way

way_down : (depth : Depth) (m : Memory) (root a d level n : ℕ) → d + level ≡ levels depth → table_at (levels depth) m root level a ≡ Some n
    → (rights : Rights) × IsWay depth m root a level n rights
way_down depth m root a zero level n is at =
    let top : level ≡ levels depth = omega arith in
    let first : table_at (levels depth) m root level a ≡ Some root =
    subst (λ l. table_at (levels depth) m root l a ≡ Some root) (sym top) (table_first (levels depth) root m a) in
    let same : root ≡ n = same_Some root n (sym first ∙ at) in
    subst (λ l. (rights : Rights) × IsWay depth m root a l n rights) (sym top)
    (subst (λ x. (rights : Rights) × IsWay depth m root a (levels depth) x rights) same (_, Begins))
way_down depth m root a (suc d) level n is at =
    let above = table_before (levels depth) root m level a n (omega arith) at in
    let way = way_down depth m root a d (suc level) above.0 (omega arith) above.2 in
    (intersection way.0 above.1, Leads level above.0 n way.0 above.1 way.1 above.3)

pub way_of : (depth : Depth) (m : Memory) (root a level n : ℕ) → table_at (levels depth) m root level a ≡ Some n
    → (rights : Rights) × IsWay depth m root a level n rights
way_of depth m root a level n at =
    let within = reached_within (levels depth) root m level a n at in
    way_down depth m root a (levels depth - level) level n (omega arith) at

-- addresses that take a leaf are mapped by it
pub leaf_walk : {depth : Depth} {m : Memory} {root a n : ℕ} {rights : Rights} (low phys : ℕ) (own : Rights) → IsWay depth m root a (suc low) n rights
    → found_at (suc low) m n a ≡ Some (entry.Leaf phys own) → (b : ℕ) → SamePath (levels depth) (suc low) a b
    → walk depth m root b ≡ Mapped (phys + b % entry_bytes (suc low)) (size_at (suc low)) (intersection rights own)
leaf_walk low phys own way found b same = walk_at way (omega arith) (entry.Leaf phys own) found b same

-- ---- one store, into the entry for a base

pub record IsAt (depth : Depth) (m : Memory) (root base low : ℕ) (s : Store) : Type 0 where
  pub own : HasOwnWay depth m root base
  pub reached : table_at (levels depth) m root (suc low) base ≡ Some s.frame
  pub index : s.index ≡ index_at (suc low) base
  pub used : IsSome (finite.get m s.frame)
  pub canonical : IsCanonical depth base

module _ {depth : Depth} {m : Memory} {root base low : ℕ} {s : Store} (at : IsAt depth m root base low s) where
  within : suc low ≤ levels depth
  within = reached_within (levels depth) root m (suc low) base s.frame at.reached

  -- an address is walked as before, or takes the entry
  pub off_or_on : (address : ℕ) → IsCanonical depth address
      → (walk depth (stored m s) root address ≡ walk depth m root address) ⊎ (base / entry_bytes (suc low) ≡ address / entry_bytes (suc low))
  off_or_on address canonical = ⊎_elim
      (λ same. inr (subst (λ bytes. base / bytes ≡ address / bytes) (sym (entry_is_table low))
      (same_stretch depth low base address at.canonical canonical (omega (arith, within)) same)))
      (λ apart. inl (subst (λ i. walk depth (with_word m s.frame i s.new) root address ≡ walk depth m root address) (sym at.index)
      (walked_off at.own at.reached at.used s.new address apart)))
      (same_or_not (levels depth) (suc low) base address)

  -- where the entry was a page's
  pub page_alone : (phys : ℕ) (own : Rights) → found_at (suc low) m s.frame base ≡ Some (entry.Leaf phys own) → suc low ≤ 3
      → ChangesPageAlone depth root m (stored m s) base
  page_alone phys own found few address mapped size rights canonical walked = ⊎_elim
      (λ same. inl same)
      (λ there.
      let path : SamePath (levels depth) (suc low) base address =
      stretch_same (levels depth) low base address (subst (λ bytes. base / bytes ≡ address / bytes) (entry_is_table low) there) in
      let here = leaf_walk low phys own (way_of depth m root base (suc low) s.frame at.reached).1 found address path in
      let size_is : size ≡ size_at (suc low) = (mapped_same (sym walked ∙ here)).1 in
      let level_is : level_of size ≡ suc low = ap level_of size_is ∙ level_back (suc low) (omega arith) few in
      inr (subst (λ l. address / entry_bytes l ≡ base / entry_bytes l) (sym level_is) (sym there)))
      (off_or_on address canonical)

  -- where the range is that of the entry
  pub range_alone : (range : Size) → level_of range ≡ suc low → base % bytes_of range ≡ 0 → ChangesRangeAlone depth root m (stored m s) base range
  range_alone range level_is aligned address mapped size rights canonical walked = ⊎_elim
      (λ same. inl same)
      (λ there.
      let lies = block (3 + 9 * level_of range) base address aligned (subst (λ l. base / entry_bytes l ≡ address / entry_bytes l) (sym level_is) there) in
      inr (lies.0, lies.1))
      (off_or_on address canonical)
