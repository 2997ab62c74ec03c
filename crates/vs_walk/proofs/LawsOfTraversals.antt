-- What the traversal says: of walks, of the frames that are reached, and of its fault.
use Rattle.std.proofs.Common.{◌≡◌, ◌≢◌, ℕ, zero, suc, ◌+◌, ◌*◌, ◌<◌, true, false, List, [], ◌∷◌, ◌++◌, Option, Some, None, length, get_or, nat_eq, flat_map}
use Rattle.std.proofs.Common.{refl, sym, ap, subst, ◌∙◌, ◌⊎◌, ⊎_elim, arith, Contains, IsTrue, slice_index}
use Rattle.std.specs.Prelude.{All}
use Rattle.std.specs.FinMap as finite
use Rattle.std.specs.List.{enumerate_from, IsDistinct}
use Rattle.std.proofs.lemmas.Bool.{eqb-true}
use Rattle.std.proofs.lemmas.Map.Views.{Contains-from_any}
use Rattle.std.proofs.lemmas.List.Elements.{filter_map-append, Contains-append_right}
use Rattle.vs_types.specs.Depth.{levels, entry_bytes, IsCanonical}
use Rattle.vs_types.specs.Page.{intersection}
use Rattle.vs_types.specs.Entry.{meaning}
use Rattle.vs_types.specs.declared.addresses.depth.Depth.{Depth}
use Rattle.vs_types.specs.declared.addresses.page.Page.{Page}
use Rattle.vs_types.specs.declared.entries.entry.Meaning.{Meaning}
use Rattle.vs_types.specs.declared.entries.entry.Meaning.TheVariants as entry
use Rattle.vs_types.proofs.Lists.{Contains-head, Contains-cases, not_in_nil}
use Rattle.vs_walk.specs.Memory.{Memory, AreWhole}
use Rattle.vs_walk.specs.Walk.{all_rights, walk}
use Rattle.vs_walk.specs.Traversal.{Visit, OfFrame, OfLeaf, OfReservedBit, ReachedTable, entry_visits, table_visits, traversal, reached_by, reached, found}
use Rattle.vs_walk.specs.Traversal.{walk_fault}
use Rattle.vs_types.specs.Space.{page_covering}
use Rattle.vs_walk.specs.Laws.{as_found, LeadsTo, IsTableAt, IsRoot, IsBelow, IsReservedWord}
use Rattle.vs_walk.specs.declared.walk.Walk.{Walk}
use Rattle.vs_walk.specs.declared.walk.Walk.TheVariants.{NotMapped, Reserved, Missing}
use Rattle.vs_walk.specs.declared.walk.WalkFault.TheVariants as faults
use Rattle.vs_walk.proofs.LawsOfLists.{contained_at_some_word}
use Rattle.vs_walk.proofs.LawsOfVisits.{at_word_met, table_met, missing_met, nothing_met, first_met, word_is_met, met_is_reached}
use Rattle.vs_walk.proofs.LawsOfWalks.{unfaulted, walk_is_found}
use Rattle.vs_walk.proofs.LawsOfFirstFaults.{IsFine, all_fine, reached_there, all_distinct, fine_from, faultless_from, all_new, fault_at, SaysFault, fault_says}
use Rattle.vs_walk.proofs.LawsOfMetFaults.{GoesWell, walk_well, level_below, some_levels, some_walk}

-- ---- walks

same_unfaulted : (end : Walk) → end ≢ Reserved → end ≢ Missing → end ≡ unfaulted end
same_unfaulted Reserved fine there = absurd (fine refl)
same_unfaulted Missing fine there = absurd (there refl)
same_unfaulted _ fine there = refl

nothing_found : (address : ℕ) (page : Option Page) → NotMapped ≡ as_found address page → page ≡ None
nothing_found address None is = refl
nothing_found address (Some page) is = cc

pub each_walk : (depth : Depth) (memory : Memory) (root address : ℕ) → AreWhole memory → IsCanonical depth address → walk depth memory root address ≢ Reserved
    → walk depth memory root address ≢ Missing → walk depth memory root address ≡ as_found address (page_covering address (found (traversal depth memory root)))
each_walk depth memory root address whole canonical fine there =
    same_unfaulted (walk depth memory root address) fine there ∙ walk_is_found depth memory root address whole canonical

pub none_covers : (depth : Depth) (memory : Memory) (root address : ℕ) → AreWhole memory → IsCanonical depth address
    → (walk depth memory root address ≡ Reserved) ⊎ (walk depth memory root address ≡ Missing)
    → page_covering address (found (traversal depth memory root)) ≡ None
none_covers depth memory root address whole canonical wrong =
    nothing_found address (page_covering address (found (traversal depth memory root)))
    (sym (⊎_elim (λ is. ap unfaulted is) (λ is. ap unfaulted is) wrong) ∙ walk_is_found depth memory root address whole canonical)

pub visits_fine : (depth : Depth) (memory : Memory) (root : ℕ) → walk_fault depth memory root ≡ None → All (IsFine memory) (traversal depth memory root)
visits_fine depth memory root none = all_fine memory [] (traversal depth memory root) none

pub faultless_well : (depth : Depth) (memory : Memory) (root address : ℕ) → walk_fault depth memory root ≡ None → GoesWell (walk depth memory root address)
faultless_well depth memory root address none = walk_well depth memory root address (visits_fine depth memory root none)

pub faultless_walk : (depth : Depth) (memory : Memory) (root address : ℕ) → AreWhole memory → IsCanonical depth address → walk_fault depth memory root ≡ None
    → walk depth memory root address ≡ as_found address (page_covering address (found (traversal depth memory root)))
faultless_walk depth memory root address whole canonical none =
    let well = faultless_well depth memory root address none in
    each_walk depth memory root address whole canonical well.0 well.1

-- ---- the frames that are reached

pub root_first : (depth : Depth) (memory : Memory) (root : ℕ) → (others : List ℕ) × (reached (traversal depth memory root) ≡ root ∷ others)
root_first depth memory root =
    let table : ReachedTable = record { number = root; start = 0; rights = all_rights } in
    let low = level_below (levels depth) (some_levels depth) in
    let first = first_met depth memory low.0 table in
    (reached first.0, ap reached (ap (λ level. table_visits depth memory level table) low.1 ∙ first.1))

pub reached_held : (depth : Depth) (memory : Memory) (root : ℕ) → walk_fault depth memory root ≡ None
    → All (λ number. IsTrue (finite.contains_key memory number)) (reached (traversal depth memory root))
reached_held depth memory root none = reached_there memory (traversal depth memory root) (visits_fine depth memory root none)

pub reached_distinct : (depth : Depth) (memory : Memory) (root : ℕ) → walk_fault depth memory root ≡ None
    → IsDistinct nat_eq (reached (traversal depth memory root))
reached_distinct depth memory root none = all_distinct memory [] (traversal depth memory root) none

-- and where that holds and no reserved bit is met, there is no fault
pub no_fault : (depth : Depth) (memory : Memory) (root : ℕ)
    → All (λ number. IsTrue (finite.contains_key memory number)) (reached (traversal depth memory root))
    → IsDistinct nat_eq (reached (traversal depth memory root))
    → ((number index : ℕ) → Contains (traversal depth memory root) (OfReservedBit number index) → ⊥) → walk_fault depth memory root ≡ None
no_fault depth memory root there apart none =
    faultless_from memory [] (traversal depth memory root) (fine_from memory (traversal depth memory root) there none) apart
    (all_new (reached (traversal depth memory root)))

-- ---- faults

no_value : (memory : Memory) (number : ℕ) → finite.contains_key memory number ≡ false → finite.get memory number ≡ None
no_value memory number is = elim (finite.get memory number) as (λ o. finite.get memory number ≡ o → o ≡ None) [
  | None ↦ λ at. refl
  | Some words ↦ λ at. let bad : true ≡ false = rw at at is in cc
] refl

in_between : (ms before after : List Visit) (visit : Visit) → ms ≡ before ++ visit ∷ after → Contains ms visit
in_between ms before after visit is = subst (λ xs. Contains xs visit) (sym is) (Contains-append_right before (visit ∷ after) visit (Contains-head visit after))

pub missing_reached : (depth : Depth) (memory : Memory) (root number : ℕ) → walk_fault depth memory root ≡ Some (faults.Missing number)
    → Contains (traversal depth memory root) (OfFrame number) × (finite.get memory number ≡ None)
missing_reached depth memory root number some =
    let at = fault_at memory [] (traversal depth memory root) (faults.Missing number) some in
    let says : SaysFault memory at.before at.visit (faults.Missing number) = fault_says memory at.before at.visit (faults.Missing number) at.wrong in (
      subst (Contains (traversal depth memory root)) says.0 (in_between (traversal depth memory root) at.before at.after at.visit at.is),
      no_value memory number
          says.1,
    )

pub missing_absent : (depth : Depth) (memory : Memory) (root number : ℕ) → walk_fault depth memory root ≡ Some (faults.Missing number)
    → (finite.contains_key memory number ≡ false) × Contains (reached (traversal depth memory root)) number
missing_absent depth memory root number some =
    let met = missing_reached depth memory root number some in
    (rw met.1, met_is_reached (traversal depth memory root) number met.0)

pub shared_held : (depth : Depth) (memory : Memory) (root number : ℕ) → walk_fault depth memory root ≡ Some (faults.Shared number)
    → finite.contains_key memory number ≡ true
shared_held depth memory root number some =
    let at = fault_at memory [] (traversal depth memory root) (faults.Shared number) some in
    let says : SaysFault memory at.before at.visit (faults.Shared number) = fault_says memory at.before at.visit (faults.Shared number) at.wrong in
    says.1

pub shared_reached : (depth : Depth) (memory : Memory) (root number : ℕ) → walk_fault depth memory root ≡ Some (faults.Shared number)
    → (before after : List ℕ) × (reached (traversal depth memory root) ≡ before ++ number ∷ after) × Contains before number
shared_reached depth memory root number some =
    let at = fault_at memory [] (traversal depth memory root) (faults.Shared number) some in
    let says : SaysFault memory at.before at.visit (faults.Shared number) = fault_says memory at.before at.visit (faults.Shared number) at.wrong in
    let before : reached (traversal depth memory root) ≡ reached at.before ++ number ∷ reached at.after =
    ap reached (at.is ∙ ap (λ visit. at.before ++ visit ∷ at.after) says.0) ∙ filter_map-append reached_by at.before (OfFrame number ∷ at.after) in
    (reached at.before, reached at.after, before, Contains-from_any eqb-true number (reached at.before) says.2)

pub reserved_met : (depth : Depth) (memory : Memory) (root number index : ℕ) → walk_fault depth memory root ≡ Some (faults.Reserved number index)
    → Contains (traversal depth memory root) (OfReservedBit number index)
reserved_met depth memory root number index some =
    let at = fault_at memory [] (traversal depth memory root) (faults.Reserved number index) some in
    let says : SaysFault memory at.before at.visit (faults.Reserved number index) =
    fault_says memory at.before at.visit (faults.Reserved number index) at.wrong in
    subst (Contains (traversal depth memory root)) says (in_between (traversal depth memory root) at.before at.after at.visit at.is)

-- where a reserved bit is met
pub record IsReservedIn (depth : Depth) (memory : Memory) (root level : ℕ) (table : ReachedTable) (number index : ℕ) : Type 0 where
  pub has : IsReservedWord depth memory root number index
  pub reaches : Contains (table_visits depth memory level table) (OfFrame number)

abbrev LowerReserved : Depth → Memory → ℕ → ℕ → ℕ → ℕ → Type 0
LowerReserved depth memory root level number index =
    (next : ReachedTable) → IsTableAt depth memory root level next.number → Contains (table_visits depth memory level next) (OfReservedBit number index)
    → IsReservedIn depth memory root level next number index

frame_met : Visit → ℕ
frame_met (OfFrame number) = number
frame_met (OfLeaf page) = 0
frame_met (OfReservedBit number index) = number

index_met : Visit → ℕ
index_met (OfFrame number) = number
index_met (OfLeaf page) = 0
index_met (OfReservedBit number index) = index

same_frame : (number index other at : ℕ) → ◌≡◌ {A = Visit} (OfReservedBit number index) (OfReservedBit other at) → number ≡ other
unfolding frame_met
same_frame number index other at is = ap frame_met is

same_index : (number index other at : ℕ) → ◌≡◌ {A = Visit} (OfReservedBit number index) (OfReservedBit other at) → index ≡ at
unfolding index_met
same_index number index other at is = ap index_met is

entry_reserved : (depth : Depth) (memory : Memory) (root level : ℕ) (table : ReachedTable) (words : List ℕ) (k number index : ℕ) (means : Meaning)
    → IsTableAt depth memory root (suc level) table.number → LowerReserved depth memory root level number index
    → finite.get memory table.number ≡ Some words → k < length words → meaning (suc level) (get_or words k 0) ≡ means
    → Contains (entry_visits depth (suc level) table k (λ next. table_visits depth memory level next) means) (OfReservedBit number index)
    → IsReservedIn depth memory root (suc level) table number index
entry_reserved depth memory root level table words k number index entry.Absent here lower is lt says met =
    absurd (not_in_nil (OfReservedBit number index) met)
entry_reserved depth memory root level table words k number index entry.Reserved here lower is lt says met = ⊎_elim
    (λ same.
    let frame = same_frame table.number k number index same in
    let place = same_index table.number k number index same in
    record {
      has = record {
        level = suc level;
        words = words;
        table = subst (IsTableAt depth memory root (suc level)) frame here;
        there = subst (λ n. finite.get memory n ≡ Some words) frame is;
        within = subst (λ i. i < length words) place lt;
        reserved = subst (λ i. meaning (suc level) (slice_index words i) ≡ entry.Reserved) place says;
      };
      reaches = let first = first_met depth memory level table in
          subst (λ ms. Contains ms (OfFrame number)) (sym first.1)
          (subst (λ n. Contains (OfFrame n ∷ first.0) (OfFrame number)) (sym frame) (Contains-head (OfFrame number) first.0));
    })
    (λ later. absurd (not_in_nil (OfReservedBit number index) later))
    (Contains-cases (OfReservedBit table.number k) [] (OfReservedBit number index) met)
entry_reserved depth memory root level table words k number index (entry.Leaf phys own) here lower is lt says met = ⊎_elim
    (λ same. cc)
    (λ later. absurd (not_in_nil (OfReservedBit number index) later))
    (Contains-cases _ [] (OfReservedBit number index) met)
entry_reserved depth memory root level table words k number index (entry.Table next own) here lower is lt says met =
    let leads : LeadsTo memory (suc level) table.number next = record { words = words; index = k; own = own; there = is; within = lt; leads = says } in
    let below = lower (record { number = next; start = table.start + k * entry_bytes (suc level); rights = intersection table.rights own })
    (IsBelow level table.number next here leads) met in
    record {
      has = below.has;
      reaches = word_is_met depth memory level table words k (OfFrame number) is lt (rw says below.reaches);
    }

table_reserved : (depth : Depth) (memory : Memory) (root level : ℕ) (table : ReachedTable) (number index : ℕ)
    → IsTableAt depth memory root level table.number → Contains (table_visits depth memory level table) (OfReservedBit number index)
    → IsReservedIn depth memory root level table number index
table_reserved depth memory root zero table number index here met =
    absurd (not_in_nil (OfReservedBit number index) (subst (λ ms. Contains ms (OfReservedBit number index)) (nothing_met depth memory table) met))
table_reserved depth memory root (suc level) table number index here met =
    elim (finite.get memory table.number) as (λ o. finite.get memory table.number ≡ o → IsReservedIn depth memory root (suc level) table number index) [
      | None ↦ λ is. ⊎_elim
          (λ same. cc)
          (λ later. absurd (not_in_nil (OfReservedBit number index) later))
          (Contains-cases (OfFrame table.number) [] (OfReservedBit number index)
          (subst (λ ms. Contains ms (OfReservedBit number index)) (missing_met depth memory level table is) met))
      | Some words ↦ λ is. ⊎_elim
          (λ same. cc)
          (λ later.
          let at = contained_at_some_word (at_word_met depth memory level table) words 0 (OfReservedBit number index) later in
          entry_reserved depth memory root level table words at.0 number index (meaning (suc level) (get_or words at.0 0)) here
          (λ next lies. table_reserved depth memory root level next number index lies) is at.1 refl
          (subst (λ i. Contains (at_word_met depth memory level table (i, get_or words at.0 0)) (OfReservedBit number index)) (omega arith) at.2))
          (Contains-cases (OfFrame table.number) (flat_map (at_word_met depth memory level table) (enumerate_from 0 words)) (OfReservedBit number index)
          (subst (λ ms. Contains ms (OfReservedBit number index)) (table_met depth memory level table words is) met))
    ] refl

pub reserved_reached : (depth : Depth) (memory : Memory) (root number index : ℕ) → walk_fault depth memory root ≡ Some (faults.Reserved number index)
    → IsReservedWord depth memory root number index × Contains (reached (traversal depth memory root)) number
reserved_reached depth memory root number index some =
    let is = table_reserved depth memory root (levels depth) (record { number = root; start = 0; rights = all_rights }) number index IsRoot
    (reserved_met depth memory root number index some) in
    (is.has, met_is_reached (traversal depth memory root) number is.reaches)

-- ---- the walks that meet a fault

pub missing_walk : (depth : Depth) (memory : Memory) (root number : ℕ) → AreWhole memory → walk_fault depth memory root ≡ Some (faults.Missing number)
    → (address : ℕ) × IsCanonical depth address × (walk depth memory root address ≡ Missing)
missing_walk depth memory root number whole some =
    let met = missing_reached depth memory root number some in
    some_walk depth memory root (OfFrame number) Missing whole (met.1, refl) met.0

pub reserved_walk : (depth : Depth) (memory : Memory) (root number index : ℕ) → AreWhole memory
    → walk_fault depth memory root ≡ Some (faults.Reserved number index)
    → (address : ℕ) × IsCanonical depth address × (walk depth memory root address ≡ Reserved)
reserved_walk depth memory root number index whole some =
    some_walk depth memory root (OfReservedBit number index) Reserved whole refl (reserved_met depth memory root number index some)
