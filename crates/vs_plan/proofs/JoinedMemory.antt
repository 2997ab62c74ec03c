-- What a memory is like after one store that writes the entry of a large page in the place of the link to a table of smaller pages.
use Rattle.std.proofs.Common.{◌≡◌, ◌≢◌, ℕ, suc, ◌+◌, ◌%◌, ◌<◌, ◌≤◌, Some, None, refl, sym, ap, ◌∙◌, arith}
use Rattle.std.specs.Prelude.{Bool, true, false, ◌&&◌}
use Rattle.vs_types.specs.Depth.{levels, entry_bytes}
use Rattle.vs_types.specs.Entry.{meaning, size_at}
use Rattle.vs_types.specs.Page.{intersection}
use Rattle.vs_types.specs.declared.addresses.depth.Depth.{Depth}
use Rattle.vs_types.specs.declared.addresses.page.Rights.{Rights}
use Rattle.vs_types.specs.declared.entries.entry.Meaning.TheVariants as entry
use Rattle.vs_walk.specs.Memory.{Memory}
use Rattle.vs_walk.specs.Walk.{walk}
use Rattle.vs_walk.specs.declared.walk.Walk.TheVariants.{Mapped}
use Rattle.vs_space.specs.Path.{found_at, table_in, table_at, SamePath}
use Rattle.vs_plan.specs.Way.{IsWay, Begins, Leads}
use Rattle.vs_plan.proofs.EntryStores.{IsOwnTable, walk_here, fewer, none_here, after_store}
use Rattle.vs_plan.proofs.Runs.{IsRun, run_walk}
use Rattle.vs_plan.proofs.Ways.{way_table, way_walk}

-- ---- the link to the last table of a way

pub record IsLinkedBy (depth : Depth) (m : Memory) (root a level number above_number : ℕ) (rights above given : Rights) : Type 0 where
  pub way : IsWay depth m root a (suc level) above_number above
  pub found : found_at (suc level) m above_number a ≡ Some (entry.Table number given)
  pub both : rights ≡ intersection above given

pub linked_by : {depth : Depth} {m : Memory} {root a : ℕ} (level number : ℕ) (rights : Rights) → IsWay depth m root a level number rights → level < levels depth
    → (above_number : ℕ) × (above : Rights) × (given : Rights) × IsLinkedBy depth m root a level number above_number rights above given
linked_by level number rights Begins low = absurd (omega arith)
linked_by level number rights (Leads below above_number next above given way found) low =
    (above_number, above, given, record { way = way; found = found; both = refl })

all_three : (a b c : Bool) → ((a && b) && c) ≡ (a && (b && c))
all_three true b c = refl
all_three false b c = refl

both_ways : (a b c : Rights) → intersection (intersection a b) c ≡ intersection a (intersection b c)
both_ways a b c = λ i. record {
  write = all_three a.write b.write c.write i;
  user = all_three a.user b.user c.user i;
  exec = all_three a.exec b.exec c.exec i;
}

-- ---- a table of pages that follow on from each other

-- how the addresses of the table are walked
pub walk_run : {depth : Depth} {m : Memory} {root base level number : ℕ} {rights : Rights} → IsWay depth m root base level number rights
    → 1 ≤ level → (phys : ℕ) (own : Rights) → IsRun m level number phys own → (b : ℕ) → SamePath (levels depth) (suc level) base b
    → walk depth m root b ≡ Mapped (phys + b % entry_bytes (suc level)) (size_at level) (intersection rights own)
walk_run {m = m} {level = level} {number} {rights} way some phys own run b same =
    way_walk level number rights way b same ∙ run_walk m level number phys own some run rights b

-- ---- where what is written in the place of the link leads to no table, no way leads to the table any more

pub unlinked_by : (new : ℕ) {depth : Depth} {m : Memory} {root base level number above_number : ℕ} {rights : Rights}
    (here : IsOwnTable depth m root (suc level) base above_number) → IsWay depth m root base level number rights
    → table_in (Some (meaning (suc level) new)) ≡ None → (j b : ℕ) → table_at (levels depth) (after_store here new) root j b ≢ Some number
unlinked_by new {level = level} {number} {rights = rights} here way ends j b reached =
    let at = here.own.once level number j b (way_table level number rights way) (fewer here new ends b j number reached) in
    let none = none_here here new ends b j (omega (arith, at.0)) at.1 in
    cc

-- ---- the entry of one page is written in the place of the link

module _ (own : Rights) (new : ℕ) {depth : Depth} {m : Memory} {root base level number above_number phys : ℕ} {rights above given : Rights}
    (here : IsOwnTable depth m root (suc level) base above_number) (way : IsWay depth m root base level number rights)
    (linked : IsLinkedBy depth m root base level number above_number rights above given)
    (says : meaning (suc level) new ≡ entry.Leaf phys (intersection given own)) where
  -- addresses of the page are walked to the same physical addresses, with the same rights
  pub walk_joined : (b : ℕ) → SamePath (levels depth) (suc level) base b
      → walk depth (after_store here new) root b ≡ Mapped (phys + b % entry_bytes (suc level)) (size_at (suc level)) (intersection rights own)
  walk_joined b same =
      walk_here here new linked.way (omega arith) (entry.Leaf phys (intersection given own)) says b same
      ∙ ap (Mapped (phys + b % entry_bytes (suc level)) (size_at (suc level)))
      (sym (both_ways above given own) ∙ ap (λ r. intersection r own) (sym linked.both))

  -- no way leads to the table any more
  pub unreached : (j b : ℕ) → table_at (levels depth) (after_store here new) root j b ≢ Some number
  unreached j b reached = unlinked_by new here way (ap (λ e. table_in (Some e)) says) j b reached
