-- The worked examples' tables: their frames, the walks through them and the traversals.
use Rattle.std.proofs.Common.{◌≡◌, ℕ, ◌+◌, ◌%◌, List, [], ◌∷◌, Some, None, refl, ap, ◌∙◌, arith}
use Rattle.std.specs.FinMap as finite
use Rattle.std.specs.Cmp.{nat_cmp_total}
use Rattle.vs_types.specs.Depth.{index_at}
use Rattle.vs_types.specs.Page.{intersection}
use Rattle.vs_types.specs.Entry.{meaning}
use Rattle.vs_types.specs.declared.addresses.depth.Depth.TheVariants.{Four, Five}
use Rattle.vs_types.specs.declared.addresses.page.Rights.{Rights}
use Rattle.vs_types.specs.declared.addresses.page.Size.TheVariants.{K4, M2}
use Rattle.vs_types.specs.declared.entries.entry.Meaning.TheVariants as entry
use Rattle.vs_walk.specs.Walk.{all_rights, walk}
use Rattle.vs_walk.specs.Traversal.{Visit, OfFrame, OfLeaf, OfReservedBit, traversal, first_fault_after, walk_fault}
use Rattle.vs_walk.specs.Examples.{one_word, no_words, page_tables, high_tables, three_tables, one_table, two_empty_frames, one_empty_frame}
use Rattle.vs_walk.specs.declared.walk.Walk.TheVariants.{NotMapped, Reserved, Missing, Mapped}
use Rattle.vs_walk.specs.declared.walk.WalkFault.TheVariants as faults
use Rattle.vs_walk.proofs.Walks.{walk_missing}
use Rattle.vs_walk.proofs.LawsOfVisits.{missing_met}
use Rattle.vs_walk.proofs.ExamplesOfOneWord.{at_word, beside_word, visits_of_word, visits_of_nothing, fine, shared, missing}

-- ---- a page of 4 KiB

page_frame_1 : (d l : ℕ) → finite.get (page_tables d l) 1 ≡ Some (one_word 0 0x2007)
page_frame_1 d l = finite.get-from_entries nat_cmp_total ((1, one_word 0 0x2007) ∷ (2, one_word 0 0x3007) ∷ (3, one_word 2 d) ∷ (4, one_word 0 l) ∷ []) 1

page_frame_2 : (d l : ℕ) → finite.get (page_tables d l) 2 ≡ Some (one_word 0 0x3007)
page_frame_2 d l = finite.get-from_entries nat_cmp_total ((1, one_word 0 0x2007) ∷ (2, one_word 0 0x3007) ∷ (3, one_word 2 d) ∷ (4, one_word 0 l) ∷ []) 2

page_frame_3 : (d l : ℕ) → finite.get (page_tables d l) 3 ≡ Some (one_word 2 d)
page_frame_3 d l = finite.get-from_entries nat_cmp_total ((1, one_word 0 0x2007) ∷ (2, one_word 0 0x3007) ∷ (3, one_word 2 d) ∷ (4, one_word 0 l) ∷ []) 3

page_frame_4 : (d l : ℕ) → finite.get (page_tables d l) 4 ≡ Some (one_word 0 l)
page_frame_4 d l = finite.get-from_entries nat_cmp_total ((1, one_word 0 0x2007) ∷ (2, one_word 0 0x3007) ∷ (3, one_word 2 d) ∷ (4, one_word 0 l) ∷ []) 4

pub page_walk : (d l address phys : ℕ) (above own : Rights) → index_at 4 address ≡ 0 → index_at 3 address ≡ 0 → index_at 2 address ≡ 2 → index_at 1 address ≡ 0
    → meaning 2 d ≡ entry.Table 4 above → meaning 1 l ≡ entry.Leaf phys own
    → walk Four (page_tables d l) 1 address ≡ Mapped (phys + address % 4096) K4 (intersection (intersection all_rights above) own)
page_walk d l address phys above own at_4 at_3 at_2 at_1 leads maps =
    at_word (page_tables d l) 3 1 all_rights address 0 0x2007 (entry.Table 2 all_rights) (page_frame_1 d l) (omega arith) at_4 refl
    ∙ at_word (page_tables d l) 2 2 all_rights address 0 0x3007 (entry.Table 3 all_rights) (page_frame_2 d l) (omega arith) at_3 refl
    ∙ at_word (page_tables d l) 1 3 all_rights address 2 d (entry.Table 4 above) (page_frame_3 d l) (omega arith) at_2 leads
    ∙ at_word (page_tables d l) 0 4 (intersection all_rights above) address 0 l (entry.Leaf phys own) (page_frame_4 d l) (omega arith) at_1 maps

pub page_walk_beside : walk Four (page_tables 0x4007 0x1007) 1 0x401000 ≡ NotMapped
page_walk_beside =
    let m = page_tables 0x4007 0x1007 in
    at_word m 3 1 all_rights 0x401000 0 0x2007 (entry.Table 2 all_rights) (page_frame_1 0x4007 0x1007) (omega arith) refl refl
    ∙ at_word m 2 2 all_rights 0x401000 0 0x3007 (entry.Table 3 all_rights) (page_frame_2 0x4007 0x1007) (omega arith) refl refl
    ∙ at_word m 1 3 all_rights 0x401000 2 0x4007 (entry.Table 4 all_rights) (page_frame_3 0x4007 0x1007) (omega arith) refl refl
    ∙ beside_word m 0 4 all_rights 0x401000 0 0x1007 (page_frame_4 0x4007 0x1007) (omega arith)

abbrev pub visits_of_page : List Visit
visits_of_page = OfFrame 1 ∷ OfFrame 2 ∷ OfFrame 3 ∷ OfFrame 4 ∷ OfLeaf (record { base = 0x400000; size = K4; phys = 0x1000; rights = all_rights }) ∷ []

pub page_visits : traversal Four (page_tables 0x4007 0x1007) 1 ≡ visits_of_page
page_visits =
    let m = page_tables 0x4007 0x1007 in
    visits_of_word Four m 3 0 0x2007 (record { number = 1; start = 0; rights = all_rights }) (entry.Table 2 all_rights) (page_frame_1 0x4007 0x1007)
    (omega arith) refl
    ∙ ap (λ ms. OfFrame 1 ∷ ms) (visits_of_word Four m 2 0 0x3007 (record { number = 2; start = 0; rights = all_rights }) (entry.Table 3 all_rights)
    (page_frame_2 0x4007 0x1007) (omega arith) refl
    ∙ ap (λ ms. OfFrame 2 ∷ ms) (visits_of_word Four m 1 2 0x4007 (record { number = 3; start = 0; rights = all_rights }) (entry.Table 4 all_rights)
    (page_frame_3 0x4007 0x1007) (omega arith) refl
    ∙ ap (λ ms. OfFrame 3 ∷ ms) (visits_of_word Four m 0 0 0x1007 (record { number = 4; start = 0x400000; rights = all_rights }) (entry.Leaf 0x1000 all_rights)
    (page_frame_4 0x4007 0x1007) (omega arith) refl)))

pub page_faultless : walk_fault Four (page_tables 0x4007 0x1007) 1 ≡ None
page_faultless =
    let m = page_tables 0x4007 0x1007 in
    ap (first_fault_after m []) page_visits
    ∙ fine m [] (OfFrame 2 ∷ OfFrame 3 ∷ OfFrame 4 ∷ OfLeaf (record { base = 0x400000; size = K4; phys = 0x1000; rights = all_rights }) ∷ []) 1 _
    (page_frame_1 0x4007 0x1007) refl
    ∙ fine m (OfFrame 1 ∷ []) (OfFrame 3 ∷ OfFrame 4 ∷ OfLeaf (record { base = 0x400000; size = K4; phys = 0x1000; rights = all_rights }) ∷ []) 2 _
    (page_frame_2 0x4007 0x1007) refl
    ∙ fine m (OfFrame 1 ∷ OfFrame 2 ∷ []) (OfFrame 4 ∷ OfLeaf (record { base = 0x400000; size = K4; phys = 0x1000; rights = all_rights }) ∷ []) 3 _
    (page_frame_3 0x4007 0x1007) refl
    ∙ fine m (OfFrame 1 ∷ OfFrame 2 ∷ OfFrame 3 ∷ []) (OfLeaf (record { base = 0x400000; size = K4; phys = 0x1000; rights = all_rights }) ∷ []) 4 _
    (page_frame_4 0x4007 0x1007) refl

-- ---- three tables

three_frame_1 : (w : ℕ) → finite.get (three_tables w) 1 ≡ Some (one_word 0 0x2007)
three_frame_1 w = finite.get-from_entries nat_cmp_total ((1, one_word 0 0x2007) ∷ (2, one_word 0 0x3007) ∷ (3, one_word 1 w) ∷ []) 1

three_frame_2 : (w : ℕ) → finite.get (three_tables w) 2 ≡ Some (one_word 0 0x3007)
three_frame_2 w = finite.get-from_entries nat_cmp_total ((1, one_word 0 0x2007) ∷ (2, one_word 0 0x3007) ∷ (3, one_word 1 w) ∷ []) 2

three_frame_3 : (w : ℕ) → finite.get (three_tables w) 3 ≡ Some (one_word 1 w)
three_frame_3 w = finite.get-from_entries nat_cmp_total ((1, one_word 0 0x2007) ∷ (2, one_word 0 0x3007) ∷ (3, one_word 1 w) ∷ []) 3

pub reserved_walk : walk Four (three_tables 0x202087) 1 0x200000 ≡ Reserved
reserved_walk =
    let m = three_tables 0x202087 in
    at_word m 3 1 all_rights 0x200000 0 0x2007 (entry.Table 2 all_rights) (three_frame_1 0x202087) (omega arith) refl refl
    ∙ at_word m 2 2 all_rights 0x200000 0 0x3007 (entry.Table 3 all_rights) (three_frame_2 0x202087) (omega arith) refl refl
    ∙ at_word m 1 3 all_rights 0x200000 1 0x202087 entry.Reserved (three_frame_3 0x202087) (omega arith) refl refl

pub other_page_walk : walk Four (three_tables 0x201087) 1 0x200000 ≡ Mapped 0x200000 M2 all_rights
other_page_walk =
    let m = three_tables 0x201087 in
    at_word m 3 1 all_rights 0x200000 0 0x2007 (entry.Table 2 all_rights) (three_frame_1 0x201087) (omega arith) refl refl
    ∙ at_word m 2 2 all_rights 0x200000 0 0x3007 (entry.Table 3 all_rights) (three_frame_2 0x201087) (omega arith) refl refl
    ∙ at_word m 1 3 all_rights 0x200000 1 0x201087 (entry.Leaf 0x200000 all_rights) (three_frame_3 0x201087) (omega arith) refl refl

reserved_visits : traversal Four (three_tables 0x202087) 1 ≡ OfFrame 1 ∷ OfFrame 2 ∷ OfFrame 3 ∷ OfReservedBit 3 1 ∷ []
reserved_visits =
    let m = three_tables 0x202087 in
    visits_of_word Four m 3 0 0x2007 (record { number = 1; start = 0; rights = all_rights }) (entry.Table 2 all_rights) (three_frame_1 0x202087)
    (omega arith) refl
    ∙ ap (λ ms. OfFrame 1 ∷ ms) (visits_of_word Four m 2 0 0x3007 (record { number = 2; start = 0; rights = all_rights }) (entry.Table 3 all_rights)
    (three_frame_2 0x202087) (omega arith) refl
    ∙ ap (λ ms. OfFrame 2 ∷ ms) (visits_of_word Four m 1 1 0x202087 (record { number = 3; start = 0; rights = all_rights }) entry.Reserved
    (three_frame_3 0x202087) (omega arith) refl))

pub reserved_bit : walk_fault Four (three_tables 0x202087) 1 ≡ Some (faults.Reserved 3 1)
reserved_bit =
    let m = three_tables 0x202087 in
    ap (first_fault_after m []) reserved_visits
    ∙ fine m [] (OfFrame 2 ∷ OfFrame 3 ∷ OfReservedBit 3 1 ∷ []) 1 _ (three_frame_1 0x202087) refl
    ∙ fine m (OfFrame 1 ∷ []) (OfFrame 3 ∷ OfReservedBit 3 1 ∷ []) 2 _ (three_frame_2 0x202087) refl
    ∙ fine m (OfFrame 1 ∷ OfFrame 2 ∷ []) (OfReservedBit 3 1 ∷ []) 3 _ (three_frame_3 0x202087) refl

other_page_visits : traversal Four (three_tables 0x201087) 1 ≡ OfFrame 1 ∷ OfFrame 2 ∷ OfFrame 3 ∷ OfLeaf
    (record { base = 0x200000; size = M2; phys = 0x200000; rights = all_rights }) ∷ []
other_page_visits =
    let m = three_tables 0x201087 in
    visits_of_word Four m 3 0 0x2007 (record { number = 1; start = 0; rights = all_rights }) (entry.Table 2 all_rights) (three_frame_1 0x201087)
    (omega arith) refl
    ∙ ap (λ ms. OfFrame 1 ∷ ms) (visits_of_word Four m 2 0 0x3007 (record { number = 2; start = 0; rights = all_rights }) (entry.Table 3 all_rights)
    (three_frame_2 0x201087) (omega arith) refl
    ∙ ap (λ ms. OfFrame 2 ∷ ms) (visits_of_word Four m 1 1 0x201087 (record { number = 3; start = 0; rights = all_rights }) (entry.Leaf 0x200000 all_rights)
    (three_frame_3 0x201087) (omega arith) refl))

pub other_page : walk_fault Four (three_tables 0x201087) 1 ≡ None
other_page =
    let m = three_tables 0x201087 in
    ap (first_fault_after m []) other_page_visits
    ∙ fine m [] (OfFrame 2 ∷ OfFrame 3 ∷ OfLeaf (record { base = 0x200000; size = M2; phys = 0x200000; rights = all_rights }) ∷ []) 1 _
    (three_frame_1 0x201087) refl
    ∙ fine m (OfFrame 1 ∷ []) (OfFrame 3 ∷ OfLeaf (record { base = 0x200000; size = M2; phys = 0x200000; rights = all_rights }) ∷ []) 2 _
    (three_frame_2 0x201087) refl
    ∙ fine m (OfFrame 1 ∷ OfFrame 2 ∷ []) (OfLeaf (record { base = 0x200000; size = M2; phys = 0x200000; rights = all_rights }) ∷ []) 3 _
    (three_frame_3 0x201087) refl

-- ---- one table

only_frame : (w : ℕ) → finite.get (one_table w) 1 ≡ Some (one_word 0 w)
only_frame w = finite.get-from_entries nat_cmp_total ((1, one_word 0 w) ∷ []) 1

no_frame_2 : (w : ℕ) → finite.get (one_table w) 2 ≡ None
no_frame_2 w = finite.get-from_entries nat_cmp_total ((1, one_word 0 w) ∷ []) 2

shared_visits : traversal Four (one_table 0x1007) 1 ≡ OfFrame 1 ∷ OfFrame 1 ∷ OfFrame 1 ∷ OfFrame 1 ∷ OfLeaf
    (record { base = 0; size = K4; phys = 0x1000; rights = all_rights }) ∷ []
shared_visits =
    let m = one_table 0x1007 in
    visits_of_word Four m 3 0 0x1007 (record { number = 1; start = 0; rights = all_rights }) (entry.Table 1 all_rights) (only_frame 0x1007) (omega arith) refl
    ∙ ap (λ ms. OfFrame 1 ∷ ms) (visits_of_word Four m 2 0 0x1007 (record { number = 1; start = 0; rights = all_rights }) (entry.Table 1 all_rights)
    (only_frame 0x1007) (omega arith) refl
    ∙ ap (λ ms. OfFrame 1 ∷ ms) (visits_of_word Four m 1 0 0x1007 (record { number = 1; start = 0; rights = all_rights }) (entry.Table 1 all_rights)
    (only_frame 0x1007) (omega arith) refl
    ∙ ap (λ ms. OfFrame 1 ∷ ms) (visits_of_word Four m 0 0 0x1007 (record { number = 1; start = 0; rights = all_rights }) (entry.Leaf 0x1000 all_rights)
    (only_frame 0x1007) (omega arith) refl)))

pub shared_frame : walk_fault Four (one_table 0x1007) 1 ≡ Some (faults.Shared 1)
shared_frame =
    let m = one_table 0x1007 in
    ap (first_fault_after m []) shared_visits
    ∙ fine m [] (OfFrame 1 ∷ OfFrame 1 ∷ OfFrame 1 ∷ OfLeaf (record { base = 0; size = K4; phys = 0x1000; rights = all_rights }) ∷ []) 1 _
    (only_frame 0x1007) refl
    ∙ shared m (OfFrame 1 ∷ []) (OfFrame 1 ∷ OfFrame 1 ∷ OfLeaf (record { base = 0; size = K4; phys = 0x1000; rights = all_rights }) ∷ []) 1 _
    (only_frame 0x1007) refl

missing_visits : traversal Four (one_table 0x2007) 1 ≡ OfFrame 1 ∷ OfFrame 2 ∷ []
missing_visits =
    let m = one_table 0x2007 in
    visits_of_word Four m 3 0 0x2007 (record { number = 1; start = 0; rights = all_rights }) (entry.Table 2 all_rights) (only_frame 0x2007) (omega arith) refl
    ∙ ap (λ ms. OfFrame 1 ∷ ms) (missing_met Four m 2 (record { number = 2; start = 0; rights = all_rights }) (no_frame_2 0x2007))

pub missing_frame : walk_fault Four (one_table 0x2007) 1 ≡ Some (faults.Missing 2)
missing_frame =
    let m = one_table 0x2007 in
    ap (first_fault_after m []) missing_visits
    ∙ fine m [] (OfFrame 2 ∷ []) 1 _ (only_frame 0x2007) refl
    ∙ missing m (OfFrame 1 ∷ []) [] 2 (no_frame_2 0x2007)

pub missing_walk : walk Four (one_table 0x2007) 1 0 ≡ Missing
missing_walk =
    let m = one_table 0x2007 in
    at_word m 3 1 all_rights 0 0 0x2007 (entry.Table 2 all_rights) (only_frame 0x2007) (omega arith) refl refl
    ∙ walk_missing m 2 2 all_rights 0 (no_frame_2 0x2007)

-- ---- empty tables

empty_frame : finite.get two_empty_frames 1 ≡ Some no_words
empty_frame = finite.get-from_entries nat_cmp_total ((1, no_words) ∷ (2, no_words) ∷ []) 1

pub stray_visits : traversal Four two_empty_frames 1 ≡ OfFrame 1 ∷ []
stray_visits = visits_of_nothing Four two_empty_frames 3 (record { number = 1; start = 0; rights = all_rights }) empty_frame

pub stray_frame : walk_fault Four two_empty_frames 1 ≡ None
stray_frame = ap (first_fault_after two_empty_frames []) stray_visits ∙ fine two_empty_frames [] [] 1 _ empty_frame refl

no_root : finite.get one_empty_frame 5 ≡ None
no_root = finite.get-from_entries nat_cmp_total ((1, no_words) ∷ []) 5

pub missing_root : walk_fault Four one_empty_frame 5 ≡ Some (faults.Missing 5)
missing_root =
    ap (first_fault_after one_empty_frame []) (missing_met Four one_empty_frame 3 (record { number = 5; start = 0; rights = all_rights }) no_root)
    ∙ missing one_empty_frame [] [] 5 no_root

-- ---- five levels

abbrev high_rows : List (ℕ × List ℕ)
high_rows = (1, one_word 256 0x2007) ∷ (2, one_word 0 0x3007) ∷ (3, one_word 0 0x4007) ∷ (4, one_word 0 0x5007) ∷ (5, one_word 0 0x3007) ∷ []

high_frame_1 : finite.get high_tables 1 ≡ Some (one_word 256 0x2007)
high_frame_1 = finite.get-from_entries nat_cmp_total high_rows 1

high_frame_2 : finite.get high_tables 2 ≡ Some (one_word 0 0x3007)
high_frame_2 = finite.get-from_entries nat_cmp_total high_rows 2

high_frame_3 : finite.get high_tables 3 ≡ Some (one_word 0 0x4007)
high_frame_3 = finite.get-from_entries nat_cmp_total high_rows 3

high_frame_4 : finite.get high_tables 4 ≡ Some (one_word 0 0x5007)
high_frame_4 = finite.get-from_entries nat_cmp_total high_rows 4

high_frame_5 : finite.get high_tables 5 ≡ Some (one_word 0 0x3007)
high_frame_5 = finite.get-from_entries nat_cmp_total high_rows 5

pub high_walk : walk Five high_tables 1 0xFF00000000000123 ≡ Mapped 0x3123 K4 all_rights
high_walk =
    at_word high_tables 4 1 all_rights 0xFF00000000000123 256 0x2007 (entry.Table 2 all_rights) high_frame_1 (omega arith) refl refl
    ∙ at_word high_tables 3 2 all_rights 0xFF00000000000123 0 0x3007 (entry.Table 3 all_rights) high_frame_2 (omega arith) refl refl
    ∙ at_word high_tables 2 3 all_rights 0xFF00000000000123 0 0x4007 (entry.Table 4 all_rights) high_frame_3 (omega arith) refl refl
    ∙ at_word high_tables 1 4 all_rights 0xFF00000000000123 0 0x5007 (entry.Table 5 all_rights) high_frame_4 (omega arith) refl refl
    ∙ at_word high_tables 0 5 all_rights 0xFF00000000000123 0 0x3007 (entry.Leaf 0x3000 all_rights) high_frame_5 (omega arith) refl refl

pub high_walk_with_four : walk Four high_tables 1 0xFFFF800000000123 ≡ Mapped 0x5123 K4 all_rights
high_walk_with_four =
    at_word high_tables 3 1 all_rights 0xFFFF800000000123 256 0x2007 (entry.Table 2 all_rights) high_frame_1 (omega arith) refl refl
    ∙ at_word high_tables 2 2 all_rights 0xFFFF800000000123 0 0x3007 (entry.Table 3 all_rights) high_frame_2 (omega arith) refl refl
    ∙ at_word high_tables 1 3 all_rights 0xFFFF800000000123 0 0x4007 (entry.Table 4 all_rights) high_frame_3 (omega arith) refl refl
    ∙ at_word high_tables 0 4 all_rights 0xFFFF800000000123 0 0x5007 (entry.Leaf 0x5000 all_rights) high_frame_4 (omega arith) refl refl

pub high_walk_below : walk Five high_tables 1 0x123 ≡ NotMapped
high_walk_below = beside_word high_tables 4 1 all_rights 0x123 256 0x2007 high_frame_1 (omega arith)

pub high_visits : traversal Five high_tables 1
    ≡ OfFrame 1 ∷ OfFrame 2 ∷ OfFrame 3 ∷ OfFrame 4 ∷ OfFrame 5 ∷ OfLeaf
    (record { base = 0xFF00000000000000; size = K4; phys = 0x3000; rights = all_rights }) ∷ []
high_visits =
    visits_of_word Five high_tables 4 256 0x2007
    (record { number = 1; start = 0; rights = all_rights }) (entry.Table 2 all_rights) high_frame_1 (omega arith) refl
    ∙ ap (λ ms. OfFrame 1 ∷ ms) (visits_of_word Five high_tables 3 0 0x3007
    (record { number = 2; start = 0x100000000000000; rights = all_rights }) (entry.Table 3 all_rights) high_frame_2 (omega arith) refl
    ∙ ap (λ ms. OfFrame 2 ∷ ms) (visits_of_word Five high_tables 2 0 0x4007
    (record { number = 3; start = 0x100000000000000; rights = all_rights }) (entry.Table 4 all_rights) high_frame_3 (omega arith) refl
    ∙ ap (λ ms. OfFrame 3 ∷ ms) (visits_of_word Five high_tables 1 0 0x5007
    (record { number = 4; start = 0x100000000000000; rights = all_rights }) (entry.Table 5 all_rights) high_frame_4 (omega arith) refl
    ∙ ap (λ ms. OfFrame 4 ∷ ms) (visits_of_word Five high_tables 0 0 0x3007
    (record { number = 5; start = 0x100000000000000; rights = all_rights }) (entry.Leaf 0x3000 all_rights) high_frame_5 (omega arith) refl))))

pub high_visits_with_four : traversal Four high_tables 1
    ≡ OfFrame 1 ∷ OfFrame 2 ∷ OfFrame 3 ∷ OfFrame 4 ∷ OfLeaf (record { base = 0xFFFF800000000000; size = K4; phys = 0x5000; rights = all_rights }) ∷ []
high_visits_with_four =
    visits_of_word Four high_tables 3 256 0x2007
    (record { number = 1; start = 0; rights = all_rights }) (entry.Table 2 all_rights) high_frame_1 (omega arith) refl
    ∙ ap (λ ms. OfFrame 1 ∷ ms) (visits_of_word Four high_tables 2 0 0x3007
    (record { number = 2; start = 0x800000000000; rights = all_rights }) (entry.Table 3 all_rights) high_frame_2 (omega arith) refl
    ∙ ap (λ ms. OfFrame 2 ∷ ms) (visits_of_word Four high_tables 1 0 0x4007
    (record { number = 3; start = 0x800000000000; rights = all_rights }) (entry.Table 4 all_rights) high_frame_3 (omega arith) refl
    ∙ ap (λ ms. OfFrame 3 ∷ ms) (visits_of_word Four high_tables 0 0 0x5007
    (record { number = 4; start = 0x800000000000; rights = all_rights }) (entry.Leaf 0x5000 all_rights) high_frame_4 (omega arith) refl)))

pub high_faultless : walk_fault Five high_tables 1 ≡ None
high_faultless =
    let page : List Visit = OfLeaf (record { base = 0xFF00000000000000; size = K4; phys = 0x3000; rights = all_rights }) ∷ [] in
    ap (first_fault_after high_tables []) high_visits
    ∙ fine high_tables [] (OfFrame 2 ∷ OfFrame 3 ∷ OfFrame 4 ∷ OfFrame 5 ∷ page) 1 _ high_frame_1 refl
    ∙ fine high_tables (OfFrame 1 ∷ []) (OfFrame 3 ∷ OfFrame 4 ∷ OfFrame 5 ∷ page) 2 _ high_frame_2 refl
    ∙ fine high_tables (OfFrame 1 ∷ OfFrame 2 ∷ []) (OfFrame 4 ∷ OfFrame 5 ∷ page) 3 _ high_frame_3 refl
    ∙ fine high_tables (OfFrame 1 ∷ OfFrame 2 ∷ OfFrame 3 ∷ []) (OfFrame 5 ∷ page) 4 _ high_frame_4 refl
    ∙ fine high_tables (OfFrame 1 ∷ OfFrame 2 ∷ OfFrame 3 ∷ OfFrame 4 ∷ []) page 5 _ high_frame_5 refl

pub root_bit : walk_fault Five (one_table 0x87) 1 ≡ Some (faults.Reserved 1 0)
root_bit =
    ap (first_fault_after (one_table 0x87) [])
    (visits_of_word Five (one_table 0x87) 4 0 0x87 (record { number = 1; start = 0; rights = all_rights }) entry.Reserved (only_frame 0x87) (omega arith) refl)
    ∙ fine (one_table 0x87) [] (OfReservedBit 1 0 ∷ []) 1 _ (only_frame 0x87) refl

pub empty_root : walk_fault Five one_empty_frame 1 ≡ None
empty_root =
    ap (first_fault_after one_empty_frame []) (visits_of_nothing Five one_empty_frame 4
    (record { number = 1; start = 0; rights = all_rights }) only_empty_frame)
    ∙ fine one_empty_frame [] [] 1 _ only_empty_frame refl
  where
    only_empty_frame : finite.get one_empty_frame 1 ≡ Some no_words
    only_empty_frame = finite.get-from_entries nat_cmp_total ((1, no_words) ∷ []) 1
