-- Ways through tables: all that the traversal visits is at the end of one.
use Rattle.std.proofs.Common.{◌≡◌, ℕ, zero, suc, ◌+◌, ◌-◌, ◌*◌, ◌<◌, ◌≤◌, List, [], ◌∷◌, Some, None, length, get_or, flat_map, refl, sym, subst, ⊎_elim}
use Rattle.std.proofs.Common.{arith, Contains}
use Rattle.std.specs.Prelude.{⊤}
use Rattle.std.specs.FinMap as finite
use Rattle.std.specs.List.{enumerate_from}
use Rattle.vs_types.specs.Depth.{levels, entry_bytes}
use Rattle.vs_types.specs.Page.{intersection}
use Rattle.vs_types.specs.Entry.{meaning, size_at}
use Rattle.vs_types.specs.declared.addresses.depth.Depth.{Depth}
use Rattle.vs_types.specs.declared.addresses.page.Page.{Page}
use Rattle.vs_types.specs.declared.addresses.page.Rights.{Rights}
use Rattle.vs_types.specs.declared.entries.entry.Meaning.{Meaning}
use Rattle.vs_types.specs.declared.entries.entry.Meaning.TheVariants as entry
use Rattle.vs_types.proofs.Lists.{Contains-cases, not_in_nil}
use Rattle.vs_walk.specs.Memory.{Memory}
use Rattle.vs_walk.specs.Walk.{all_rights}
use Rattle.vs_walk.specs.Traversal.{Visit, OfFrame, OfLeaf, OfReservedBit, ReachedTable, canonical_from, entry_visits, table_visits, traversal}
use Rattle.vs_walk.proofs.LawsOfLists.{contained_at_some_word}
use Rattle.vs_walk.proofs.LawsOfVisits.{at_word_met, table_met, missing_met, nothing_met}
use Rattle.vs_walk.proofs.TranslatedBits.{no_table_below}
use Rattle.nr_explain.specs.Facts.{IsPath, LeadsOn}
use Rattle.nr_explain.specs.inside.Ways.{IsReservedAt}
use Rattle.nr_explain.specs.declared.trace.evidence.TableEntry.{TableEntry}

-- what is visited at the frame of a table of this level
abbrev pub IsVisitedAt : Memory → ℕ → ℕ → Visit → Type 0
IsVisitedAt memory level number (OfFrame frame) = frame ≡ number
IsVisitedAt memory level number (OfLeaf page) = ⊤
IsVisitedAt memory level number (OfReservedBit frame index) = (frame ≡ number) × IsReservedAt memory level number index

-- a way from the frame of a table of this level to where the visit is
pub record HasWay (memory : Memory) (level number : ℕ) (visit : Visit) : Type 0 where
  pub way : List TableEntry
  pub end : ℕ
  pub frame : ℕ
  pub leads : IsPath memory level number end frame way
  pub visited : IsVisitedAt memory end frame visit

-- a visit at the table itself
at_once : (memory : Memory) (level number : ℕ) (here visit : Visit) → here ≡ visit → IsVisitedAt memory level number here → HasWay memory level number visit
at_once memory level number here visit same is = record {
  way = [];
  end = level;
  frame = number;
  leads = (refl, refl);
  visited = subst (λ v. IsVisitedAt memory level number v) same is;
}

pub lower : (level : ℕ) → level ≡ suc level - 1
lower level = omega arith

-- a visit below an entry that leads on
pub further : (memory : Memory) (level number next : ℕ) (visit : Visit) (step : TableEntry) → step.level ≡ suc level → step.frame ≡ number
    → LeadsOn memory step next
    → HasWay memory level next visit → HasWay memory (suc level) number visit
further memory level number next visit step at of leads below = record {
  way = step ∷ below.way;
  end = below.end;
  frame = below.frame;
  leads = (at, of, (next, leads, subst (λ l. IsPath memory l next below.end below.frame below.way) (lower level) below.leads));
  visited = below.visited;
}

abbrev LowerHave : Depth → Memory → ℕ → Visit → Type 0
LowerHave depth memory level visit = (next : ReachedTable) → Contains (table_visits depth memory level next) visit → HasWay memory level next.number visit

-- the page that an entry maps
abbrev pub page_by : Depth → ℕ → ReachedTable → ℕ → ℕ → Rights → Page
page_by depth level table index phys own = record {
  base = canonical_from depth (table.start + index * entry_bytes level);
  size = size_at level;
  phys = phys;
  rights = intersection table.rights own;
}

entry_way : (depth : Depth) (memory : Memory) (level : ℕ) (table : ReachedTable) (words : List ℕ) (index : ℕ) (means : Meaning) (visit : Visit)
    → LowerHave depth memory level visit → finite.get memory table.number ≡ Some words → index < length words
    → meaning (suc level) (get_or words index 0) ≡ means → Contains
    (entry_visits depth (suc level) table index (λ next. table_visits depth memory level next) means) visit
    → HasWay memory (suc level) table.number visit
entry_way depth memory level table words index entry.Absent visit lower is within says met = absurd (not_in_nil visit met)
entry_way depth memory level table words index entry.Reserved visit lower is within says met = ⊎_elim
    (λ same. at_once memory (suc level) table.number (OfReservedBit table.number index) visit same
    (refl, record { words = words; there = is; within = within; reserved = says }))
    (λ later. absurd (not_in_nil visit later))
    (Contains-cases (OfReservedBit table.number index) [] visit met)
entry_way depth memory level table words index (entry.Leaf phys own) visit lower is within says met = ⊎_elim
    (λ same. at_once memory (suc level) table.number (OfLeaf (page_by depth (suc level) table index phys own)) visit same tt)
    (λ later. absurd (not_in_nil visit later))
    (Contains-cases (OfLeaf (page_by depth (suc level) table index phys own)) [] visit met)
entry_way depth memory level table words index (entry.Table number own) visit lower is within says met =
    let step : TableEntry = record { level = suc level; frame = table.number; index = index; word = get_or words index 0 } in
    further memory level table.number number visit step refl refl
    (record { words = words; own = own; there = is; within = within; read = refl; leads = says })
    (lower (record { number = number; start = table.start + index * entry_bytes (suc level); rights = intersection table.rights own }) met)

pub table_way : (depth : Depth) (memory : Memory) (level : ℕ) (table : ReachedTable) (visit : Visit)
    → Contains (table_visits depth memory level table) visit → HasWay memory level table.number visit
table_way depth memory zero table visit met = absurd (not_in_nil visit (subst (λ ms. Contains ms visit) (nothing_met depth memory table) met))
table_way depth memory (suc level) table visit met =
    elim (finite.get memory table.number) as (λ o. finite.get memory table.number ≡ o → HasWay memory (suc level) table.number visit) [
      | None ↦ λ is. ⊎_elim
          (λ same. at_once memory (suc level) table.number (OfFrame table.number) visit same refl)
          (λ later. absurd (not_in_nil visit later))
          (Contains-cases (OfFrame table.number) [] visit (subst (λ ms. Contains ms visit) (missing_met depth memory level table is) met))
      | Some words ↦ λ is. ⊎_elim
          (λ same. at_once memory (suc level) table.number (OfFrame table.number) visit same refl)
          (λ later.
          let at = contained_at_some_word (at_word_met depth memory level table) words 0 visit later in
          entry_way depth memory level table words at.0 (meaning (suc level) (get_or words at.0 0)) visit
          (λ next. table_way depth memory level next visit) is
          (omega (arith, at.1)) refl
          (subst (λ i. Contains (at_word_met depth memory level table (i, get_or words at.0 0)) visit) (omega arith) at.2))
          (Contains-cases (OfFrame table.number) (flat_map (at_word_met depth memory level table) (enumerate_from 0 words)) visit
          (subst (λ ms. Contains ms visit) (table_met depth memory level table words is) met))
    ] refl

-- a frame that is visited is at the end of a way from the root
pub way_to_frame : (depth : Depth) (memory : Memory) (root number : ℕ) → Contains (traversal depth memory root) (OfFrame number)
    → (way : List TableEntry) × ((end : ℕ) × IsPath memory (levels depth) root end number way)
way_to_frame depth memory root number met =
    let has = table_way depth memory (levels depth) (record { number = root; start = 0; rights = all_rights }) (OfFrame number) met in
    (has.way, (has.end, subst (λ n. IsPath memory (levels depth) root has.end n has.way) (sym has.visited) has.leads))

-- and so does the table of a word with a reserved bit set
pub way_to_reserved : (depth : Depth) (memory : Memory) (root number index : ℕ) → Contains (traversal depth memory root) (OfReservedBit number index)
    → (way : List TableEntry) × ((end : ℕ) × IsPath memory (levels depth) root end number way × IsReservedAt memory end number index)
way_to_reserved depth memory root number index met =
    let has = table_way depth memory (levels depth) (record { number = root; start = 0; rights = all_rights }) (OfReservedBit number index) met in (
      has.way,
      (
        has.end,
        subst (λ n. IsPath memory (levels depth) root has.end n has.way) (sym has.visited.0) has.leads,
        subst (λ n. IsReservedAt memory has.end n index) (sym has.visited.0) has.visited.1,
      ),
    )

-- a table leads on from above the lowest level alone
pub leads_above : (level word number : ℕ) (own : Rights) → 1 ≤ level → meaning level word ≡ entry.Table number own → 1 < level
leads_above zero word number own some is = absurd (omega arith)
leads_above (suc zero) word number own some is = absurd (no_table_below word number own is)
leads_above (suc (suc level)) word number own some is = omega arith

-- each step of a way goes one level down
pub levels_of_way : (memory : Memory) (level number end target : ℕ) (way : List TableEntry) → 1 ≤ level → IsPath memory level number end target way
    → (1 ≤ end) × (end + length way ≡ level)
levels_of_way memory level number end target [] some is = (omega (arith, is.0), omega (arith, is.0))
levels_of_way memory level number end target (step ∷ way) some is =
    let leads = is.2.1 in
    let above : 1 < level = leads_above level step.word is.2.0 leads.own some
    (subst (λ l. meaning l step.word ≡ entry.Table is.2.0 leads.own) is.0 leads.leads) in
    let below = levels_of_way memory (level - 1) is.2.0 end target way (omega arith) is.2.2 in
    (below.0, omega (arith, below.1))
