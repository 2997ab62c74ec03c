-- The traversal of a memory's tables, from the root on: each table's words by index, the table below an entry before
-- the next entry. Its first fault, the frames that it reaches and the pages that it finds.
use Rattle.std.specs.Prelude.{ℕ, zero, suc, ◌+◌, ◌*◌, not, nat_eq, List, [], ◌∷◌, ◌++◌, flat_map, filter_map, Option, Some, None}
use Rattle.std.specs.Prelude.{if◌then◌else◌}
use Rattle.std.specs.List.{list_any, enumerate_from}
use Rattle.std.specs.FinMap as finite
pub use Rattle.vs_types.specs.Depth.{canonical_from}
use Rattle.vs_types.specs.Depth.{levels, entry_bytes}
use Rattle.vs_types.specs.Page.{intersection}
use Rattle.vs_types.specs.Entry.{meaning, size_at}
use Rattle.vs_types.specs.declared.addresses.depth.Depth.{Depth}
use Rattle.vs_types.specs.declared.addresses.page.Page.{Page}
use Rattle.vs_types.specs.declared.addresses.page.Rights.{Rights}
use Rattle.vs_types.specs.declared.entries.entry.Meaning.{Meaning}
use Rattle.vs_types.specs.declared.entries.entry.Meaning.TheVariants as entry
use Rattle.vs_walk.specs.Dump.{Image}
use Rattle.vs_walk.specs.Memory.{Memory}
use Rattle.vs_walk.specs.Walk.{all_rights}
use Rattle.vs_walk.specs.declared.walk.WalkFault.{WalkFault}
use Rattle.vs_walk.specs.declared.walk.WalkFault.TheVariants.{Missing, Shared, Reserved}

-- what a traversal visits, where tables map pages of this type
pub data VisitOf (P : Type 0) : Type 0 where
  -- an entry, or the beginning, leads to the frame of this number
  OfFrame : (number : ℕ) → VisitOf P
  -- an entry maps a page
  OfLeaf : (page : P) → VisitOf P
  -- the word of a frame at an index has a reserved bit set
  OfReservedBit : (number index : ℕ) → VisitOf P

-- a visit in x86's own tables
abbrev pub Visit : Type 0
Visit = VisitOf Page

-- the place of a table: its frame, the translated bits at which it begins, and what the entries above it allow
pub record TableOf (R : Type 0) : Type 0 where
  pub number : ℕ
  pub start : ℕ
  pub rights : R

-- the place of one of x86's own tables
abbrev pub ReachedTable : Type 0
ReachedTable = TableOf Rights

-- the visits at the entry of this index, in a table of this level; below goes through the next table
abbrev pub entry_visits : Depth → ℕ → ReachedTable → ℕ → (ReachedTable → List Visit) → Meaning → List Visit
entry_visits depth level table index below entry.Absent = []
entry_visits depth level table index below entry.Reserved = OfReservedBit table.number index ∷ []
entry_visits depth level table index below (entry.Leaf phys own) =
    OfLeaf (record {
      base = canonical_from depth (table.start + index * entry_bytes level);
      size = size_at level;
      phys = phys;
      rights = intersection table.rights own;
    }) ∷ []
entry_visits depth level table index below (entry.Table number own) =
    below (record { number = number; start = table.start + index * entry_bytes level; rights = intersection table.rights own })

-- the visits of the words of a table, or none if the frame is missing
abbrev pub words_visits : {P : Type 0} → Option (List ℕ) → (List ℕ → List (VisitOf P)) → List (VisitOf P)
words_visits None go = []
words_visits (Some words) go = go words

-- the visits in a table of this level and below it
unfoldable pub table_visits : Depth → Memory → ℕ → ReachedTable → List Visit
table_visits depth memory zero table = []
table_visits depth memory (suc level) table =
    OfFrame table.number ∷ words_visits (finite.get memory table.number) (λ words.
    flat_map (λ place. entry_visits depth (suc level) table place.0 (λ next. table_visits depth memory level next) (meaning (suc level) place.1))
    (enumerate_from 0 words))

-- all visits from the root on
abbrev pub traversal : Depth → Memory → ℕ → List Visit
traversal depth memory root = table_visits depth memory (levels depth) (record { number = root; start = 0; rights = all_rights })

-- the frame that a visit reaches, if it is one of a frame
abbrev pub reached_by : {P : Type 0} → VisitOf P → Option ℕ
reached_by (OfFrame number) = Some number
reached_by _ = None

-- the page that a visit finds, if it is one of a leaf
abbrev pub found_by : {P : Type 0} → VisitOf P → Option P
found_by (OfLeaf page) = Some page
found_by _ = None

-- the frames that are reached, in the order of the visits
abbrev pub reached : {P : Type 0} → List (VisitOf P) → List ℕ
reached = filter_map reached_by

-- the pages that are found, in the order of the visits
abbrev pub found : {P : Type 0} → List (VisitOf P) → List P
found = filter_map found_by

-- the pages that the tables of a dump lead to, in the order in which they are found
abbrev pub found_in : Depth → Image → List Page
found_in depth dump = found (traversal depth dump.frames dump.root)

-- what is wrong with a visit after these
abbrev pub visit_fault : {P : Type 0} → Memory → List (VisitOf P) → VisitOf P → Option WalkFault
visit_fault memory earlier (OfFrame number) =
    if not (finite.contains_key memory number) then Some (Missing number)
    else if list_any (nat_eq number) (reached earlier) then Some (Shared number)
    else None
visit_fault memory earlier (OfLeaf page) = None
visit_fault memory earlier (OfReservedBit number index) = Some (Reserved number index)

-- the first fault, or else the second one
abbrev or_else : Option WalkFault → Option WalkFault → Option WalkFault
or_else (Some fault) other = Some fault
or_else None other = other

-- the first thing that is wrong with visits that come after these
abbrev pub first_fault_after : {P : Type 0} → Memory → List (VisitOf P) → List (VisitOf P) → Option WalkFault
first_fault_after memory earlier [] = None
first_fault_after memory earlier (visit ∷ later) = or_else (visit_fault memory earlier visit) (first_fault_after memory (earlier ++ visit ∷ []) later)

-- the first fault of the traversal from the root on
abbrev pub walk_fault : Depth → Memory → ℕ → Option WalkFault
walk_fault depth memory root = first_fault_after memory [] (traversal depth memory root)
