-- Tables in any format of entries: how an address is walked through them, and the traversal of all of them.
use Rattle.std.specs.Prelude.{ℕ, zero, suc, ◌+◌, ◌*◌, ◌%◌, List, [], ◌∷◌, flat_map, Option, Some, None, slice_index}
use Rattle.std.specs.List.{enumerate_from}
use Rattle.std.specs.FinMap as finite
use Rattle.vs_types.specs.Depth.{entry_bytes, index_at}
use Rattle.vs_types.specs.Entry.{size_at}
use Rattle.vs_types.specs.Format.{Format}
use Rattle.vs_types.specs.declared.addresses.page.Rights.{Rights}
use Rattle.vs_types.specs.declared.entries.kind.EntryKind.{EntryKind}
use Rattle.vs_types.specs.declared.entries.kind.EntryKind.TheVariants as entry
use Rattle.vs_walk.specs.Memory.{Memory}
use Rattle.vs_walk.specs.Traversal.{VisitOf, OfFrame, OfLeaf, OfReservedBit, TableOf, first_fault_after, words_visits}
use Rattle.vs_walk.specs.declared.walk.Walk.{Walk}
use Rattle.vs_walk.specs.declared.walk.Walk.TheVariants as ends
use Rattle.vs_walk.specs.declared.walk.WalkFault.{WalkFault}
use Rattle.vs_walk.specs.declared.walk.WalkOf.{WalkOf}
use Rattle.vs_walk.specs.declared.walk.WalkOf.TheVariants.{NotMapped, Reserved, Missing, Mapped}

-- ---- one address

-- the walk at an entry of a table of this level, where the entries above it allow these rights; below goes on in the next table
abbrev pub walk_entry_in : {R P : Type 0} → Format R P → ℕ → R → ℕ → (ℕ → R → WalkOf R) → EntryKind R → WalkOf R
walk_entry_in f level rights address below entry.Absent = NotMapped
walk_entry_in f level rights address below entry.Reserved = Reserved
walk_entry_in f level rights address below (entry.Leaf phys own) = Mapped (phys + address % entry_bytes level) (size_at level) (f.both rights own)
walk_entry_in f level rights address below (entry.Table number own) = below number (f.both rights own)

-- the walk in these words, if the frame is there
abbrev pub walk_words_in : {R : Type 0} → Option (List ℕ) → (List ℕ → WalkOf R) → WalkOf R
walk_words_in None go = Missing
walk_words_in (Some words) go = go words

-- the walk from the frame of this number on, the table of a level
unfoldable pub walk_from_in : {R P : Type 0} → Format R P → Memory → ℕ → ℕ → R → ℕ → WalkOf R
walk_from_in f memory zero number rights address = Missing
walk_from_in f memory (suc level) number rights address =
    walk_words_in (finite.get memory number) (λ words.
    walk_entry_in f (suc level) rights address (λ next own. walk_from_in f memory level next own address)
    (f.kind (suc level) (slice_index words (index_at (suc level) address))))

-- the walk from the root on
abbrev pub walk_in : {R P : Type 0} → Format R P → Memory → ℕ → ℕ → WalkOf R
walk_in f memory root address = walk_from_in f memory f.levels root f.all address

-- a walk through x86's own tables
abbrev pub walk_of : WalkOf Rights → Walk
walk_of NotMapped = ends.NotMapped
walk_of Reserved = ends.Reserved
walk_of Missing = ends.Missing
walk_of (Mapped phys size rights) = ends.Mapped phys size rights

-- ---- all tables

-- the visits at the entry of this index, in a table of this level; below goes through the next table
abbrev pub entry_visits_in : {R P : Type 0} → Format R P → ℕ → TableOf R → ℕ → (TableOf R → List (VisitOf P)) → EntryKind R → List (VisitOf P)
entry_visits_in f level table index below entry.Absent = []
entry_visits_in f level table index below entry.Reserved = OfReservedBit table.number index ∷ []
entry_visits_in f level table index below (entry.Leaf phys own) =
    OfLeaf (f.page (f.address_at (table.start + index * entry_bytes level)) (size_at level) phys (f.both table.rights own)) ∷ []
entry_visits_in f level table index below (entry.Table number own) =
    below (record { number = number; start = table.start + index * entry_bytes level; rights = f.both table.rights own })

-- the visits in a table of this level and below it
unfoldable pub table_visits_in : {R P : Type 0} → Format R P → Memory → ℕ → TableOf R → List (VisitOf P)
table_visits_in f memory zero table = []
table_visits_in f memory (suc level) table =
    OfFrame table.number ∷ words_visits (finite.get memory table.number) (λ words.
    flat_map (λ place. entry_visits_in f (suc level) table place.0 (λ next. table_visits_in f memory level next) (f.kind (suc level) place.1))
    (enumerate_from 0 words))

-- all visits from the root on
abbrev pub traversal_in : {R P : Type 0} → Format R P → Memory → ℕ → List (VisitOf P)
traversal_in f memory root = table_visits_in f memory f.levels (record { number = root; start = 0; rights = f.all })

-- the first fault of the traversal from the root on
abbrev pub walk_fault_in : {R P : Type 0} → Format R P → Memory → ℕ → Option WalkFault
walk_fault_in f memory root = first_fault_after memory [] (traversal_in f memory root)
