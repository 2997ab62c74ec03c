-- A plan that unmaps parts of a page: the table that is linked has a gap, which is as if each of the parts were unmapped after a split.
use Rattle.std.proofs.Common.{◌≡◌, ◌≢◌, ℕ, zero, suc, ◌+◌, ◌-◌, ◌*◌, ◌%◌, ◌^◌, ◌<◌, ◌≤◌, List, [], ◌∷◌, length, Some, None, inl, inr, ⊎_elim, refl}
use Rattle.std.proofs.Common.{sym, ap, subst, ◌∙◌, arith}
use Rattle.std.specs.Prelude.{IsTrue, slice_index, slice_set, unwrap_or}
use Rattle.std.specs.FinMap as finite
use Rattle.std.proofs.lemmas.Bool.{cases_eq, cases_lt}
use Rattle.std.proofs.lemmas.List.Elements.{All-nil, All-cons}
use Rattle.std.proofs.lemmas.Option.{same_Some}
use Rattle.vs_types.specs.Depth.{levels, entry_bytes, index_at, IsCanonical}
use Rattle.vs_types.specs.Entry.{meaning, size_at, table_word, all_rights}
use Rattle.vs_types.specs.Page.{level_of, bytes_of, covers, intersection}
use Rattle.vs_types.specs.Space.{Space, IsSpace}
use Rattle.vs_types.specs.Step.{Stepped, step}
use Rattle.vs_types.specs.declared.requests.op.Action.TheVariants.{Unmap}
use Rattle.vs_types.specs.declared.addresses.page.Page.{Page}
use Rattle.vs_types.specs.declared.addresses.page.Rights.{Rights}
use Rattle.vs_types.specs.declared.entries.entry.Meaning.TheVariants as entry
use Rattle.vs_types.specs.declared.requests.answer.Answer.TheVariants as answers
use Rattle.vs_types.proofs.Lists.{Contains-head}
use Rattle.vs_types.proofs.Maps.{get-insert_same, get-insert_other}
use Rattle.vs_types.proofs.Pages.{covers_means, covered_canonical}
use Rattle.vs_walk.specs.Memory.{Memory, AreWhole}
use Rattle.vs_walk.specs.Walk.{TranslatesAs}
use Rattle.vs_walk.proofs.Walks.{leaf_level}
use Rattle.vs_space.specs.Held.{word_at, with_word}
use Rattle.vs_space.specs.Path.{entry_in, table_in, table_at, SamePath}
use Rattle.vs_space.proofs.LeafSteps.{begins_at, removed_translates}
use Rattle.vs_space.proofs.Numbered.{whole-insert}
use Rattle.vs_space.proofs.Paths.{none_past, reached_within, same_table, table_below}
use Rattle.vs_space.proofs.Prunes.{found_entry, word_in}
use Rattle.vs_space.proofs.Regions.{IsLeafPage, covers_path, level_back, page_path}
use Rattle.vs_space.proofs.Writes.{get_written, get_written_other}
use Rattle.vs_plan.specs.declared.plans.plan.Fill.{Fill}
use Rattle.vs_plan.specs.declared.plans.plan.Flush.TheVariants as flushes
use Rattle.vs_plan.specs.declared.plans.plan.Reply.TheVariants as replies
use Rattle.vs_plan.specs.declared.plans.plan.Store.{Store}
use Rattle.vs_plan.specs.declared.plans.request.Request.TheVariants.{UnmapPart}
use Rattle.vs_plan.specs.declared.plans.target.Target.{Target}
use Rattle.vs_types.specs.Bits.{bits_in, page_word}
use Rattle.vs_plan.specs.Changes.{part, smaller, split, unmap_each, unmap_part}
use Rattle.vs_plan.specs.Other.{HasSameTables}
use Rattle.vs_plan.specs.Premise.{HasOwnWay, IsPremise, IsSpare}
use Rattle.vs_plan.specs.Right.{IsEntryOf, IsMeantBy, OfPage, IsNewTable}
use Rattle.vs_plan.specs.Stores.{fill_words, filled, stepping, stored, with_gap}
use Rattle.vs_plan.specs.Target.{frames_end}
use Rattle.vs_plan.specs.Way.{IsWay, Leads}
use Rattle.vs_plan.proofs.Asking.{entry_of}
use Rattle.vs_plan.proofs.Changing.{change_here}
use Rattle.vs_plan.proofs.Dividing.{never_refused, parts_fill}
use Rattle.vs_plan.proofs.EntryStores.{IsOwnTable, fewer, found_stored, walk_here, walk_off, way_stays, whole_store}
use Rattle.vs_plan.proofs.Filled.{own_as, table_as, translates_as, walk_as, way_as, word_as, insert_same}
use Rattle.vs_plan.proofs.PartSpaces.{space_split, split_space}
use Rattle.vs_plan.proofs.PartsUnmapped.{unmap_stays}
use Rattle.vs_plan.proofs.Pages.{page_here, premise_table}
use Rattle.vs_plan.proofs.Parts.{none_named, Parts, safe_one, store_at, words_apart, EndAt}
use Rattle.vs_plan.proofs.Runs.{IsRun}
use Rattle.vs_plan.proofs.Splitting.{LiesLarge, are_bits_in, large_at, own_parts, parts_reached, run_filled, smaller_at, split_is, split_translates}
use Rattle.vs_plan.proofs.Splitting.{stepping_long, walk_parts}
use Rattle.vs_plan.proofs.Stored.{found_word, used_word}
use Rattle.vs_plan.proofs.Ways.{way_shared, way_table}

-- ---- words with a gap

gap_long : (gap count : ℕ) (words : List ℕ) → length (with_gap gap count words) ≡ length words
unfolding with_gap
gap_long zero zero words = refl
gap_long zero (suc count) [] = refl
gap_long zero (suc count) (word ∷ words) = ap suc (gap_long zero count words)
gap_long (suc gap) count [] = refl
gap_long (suc gap) count (word ∷ words) = ap suc (gap_long gap count words)

gap_none : (gap : ℕ) (words : List ℕ) → with_gap gap 0 words ≡ words
unfolding with_gap
gap_none zero words = refl
gap_none (suc gap) [] = refl
gap_none (suc gap) (word ∷ words) = ap (λ ws. word ∷ ws) (gap_none gap words)

-- it grows by a word that becomes 0
gap_more : (gap count i : ℕ) (words : List ℕ) → i ≡ gap + count → i < length words
    → slice_set (with_gap gap count words) i 0 ≡ with_gap gap (suc count) words
unfolding with_gap
gap_more zero zero i [] is low = absurd (omega arith)
gap_more zero zero zero (word ∷ words) is low = refl
gap_more zero zero (suc i) (word ∷ words) is low = absurd (omega (arith, is))
gap_more zero (suc count) i [] is low = absurd (omega arith)
gap_more zero (suc count) zero (word ∷ words) is low = absurd (omega (arith, is))
gap_more zero (suc count) (suc i) (word ∷ words) is low = ap (λ ws. 0 ∷ ws) (gap_more zero count i words (omega (arith, is)) (omega (arith, low)))
gap_more (suc gap) count i [] is low = absurd (omega arith)
gap_more (suc gap) count zero (word ∷ words) is low = absurd (omega (arith, is))
gap_more (suc gap) count (suc i) (word ∷ words) is low = ap (λ ws. word ∷ ws) (gap_more gap count i words (omega (arith, is)) (omega (arith, low)))

-- behind it the words are as they were
gap_past : (gap count i : ℕ) (words : List ℕ) → gap + count ≤ i → slice_index (with_gap gap count words) i ≡ slice_index words i
unfolding with_gap
gap_past zero zero i words past = refl
gap_past zero (suc count) i [] past = refl
gap_past zero (suc count) zero (word ∷ words) past = absurd (omega (arith, past))
gap_past zero (suc count) (suc i) (word ∷ words) past = gap_past zero count i words (omega (arith, past))
gap_past (suc gap) count i [] past = refl
gap_past (suc gap) count zero (word ∷ words) past = absurd (omega (arith, past))
gap_past (suc gap) count (suc i) (word ∷ words) past = gap_past gap count i words (omega (arith, past))

-- ---- numbers

part_index : (low base i : ℕ) → 1 ≤ low → suc low ≤ 3 → base % entry_bytes (suc low) ≡ 0 → i < 512 → index_at low (base + i * entry_bytes low) ≡ i
part_index zero base i some few at lt = absurd (omega (arith, some))
part_index (suc (suc (suc low))) base i some few at lt = absurd (omega (arith, few))
part_index _ base i some few at lt = omega (arith, at, lt)

part_even : (low base i : ℕ) → 1 ≤ low → suc low ≤ 3 → base % entry_bytes (suc low) ≡ 0 → (base + i * entry_bytes low) % entry_bytes low ≡ 0
part_even zero base i some few at = absurd (omega (arith, some))
part_even (suc (suc (suc low))) base i some few at = absurd (omega (arith, few))
part_even _ base i some few at = omega (arith, at)

part_high : (low base i : ℕ) → 1 ≤ low → suc low ≤ 3 → i < 512 → base + i * entry_bytes low < base + entry_bytes (suc low)
part_high zero base i some few lt = absurd (omega (arith, some))
part_high (suc (suc (suc low))) base i some few lt = absurd (omega (arith, few))
part_high _ base i some few lt = omega (arith, lt)

-- ---- at the entry of a page of 2 MiB or 1 GiB, the parts of which have entries of the level below

module _ (target : Target) {memory : Memory} {space : Space} {base low number word phys : ℕ} {given own : Rights}
    (end : EndAt target memory space (suc low) number given word base) (some : 1 ≤ low) (says : meaning (suc low) word ≡ entry.Leaf phys own)
    (aligned : base % bytes_of (size_at (suc low)) ≡ 0) {frame : ℕ} (within : frame < frames_end target)
    (spare : IsSpare target.depth memory target.root frame) (leads : meaning (suc low) (table_word frame) ≡ entry.Table frame all_rights) (first : ℕ) where
  few : suc low ≤ 3
  few = (leaf_level (suc low) word phys own says).0

  page : (q : Page) × IsLeafPage target.depth space base (suc low) phys (intersection given own) q
  page = page_here end.way (omega arith) end.word_is end.premise end.canonical says

  begins : page.0.base ≡ base
  begins = begins_at page.1 aligned

  lies : LiesLarge low phys
  lies = record {
    some = some;
    few = few;
    aligned = subst (λ p. p % entry_bytes (suc low) ≡ 0) page.1.phys_is (subst (λ l. page.0.phys % entry_bytes l ≡ 0) page.1.level_is page.1.good.phys_aligned);
    range = subst (λ p. p + entry_bytes (suc low) ≤ 2 ^ 51) page.1.phys_is
        (subst (λ l. page.0.phys + entry_bytes l ≤ 2 ^ 51) page.1.level_is page.1.good.phys_range);
  }

  back : level_of (size_at (suc low)) ≡ suc low
  back = level_back (suc low) (omega arith) few

  base_aligned : base % entry_bytes (suc low) ≡ 0
  base_aligned = subst (λ l. base % entry_bytes l ≡ 0) back aligned

  step_is : bytes_of (smaller (size_at (suc low))) ≡ entry_bytes low
  step_is = ap bytes_of (smaller_at low some few) ∙ ap entry_bytes (level_back low (omega (arith, some)) (omega (arith, few)))

  -- with so many parts in the gap
  abbrev fill : ℕ → Fill
  fill n = record (parts_fill frame base (suc low) word phys own) { gap = first; gap_count = n }

  abbrev run_words : List ℕ
  run_words = stepping (parts_fill frame base (suc low) word phys own).first (parts_fill frame base (suc low) word phys own).step 512

  run_long : length run_words ≡ 512
  run_long = stepping_long (parts_fill frame base (suc low) word phys own).first (parts_fill frame base (suc low) word phys own).step 512

  abbrev before : ℕ → Memory
  before n = filled memory (Some (fill n))

  abbrev s : Store
  s = store_at number (index_at (suc low) base) word (table_word frame)

  abbrev linked : ℕ → Memory
  linked n = stored (before n) s

  reached : table_at (levels target.depth) memory target.root (suc low) base ≡ Some number
  reached = way_table (suc low) number given end.way

  same : (n : ℕ) → HasSameTables target.depth target.root memory (before n)
  same n = insert_same target.depth target.root memory frame (fill_words (fill n)) spare.unreached

  way : (n : ℕ) → IsWay target.depth (before n) target.root base (suc low) number given
  way n = way_as target.depth target.root memory (before n) (same n) end.way

  word_is : (n : ℕ) → word_at (before n) number (index_at (suc low) base) ≡ Some word
  word_is n = word_as target.depth target.root memory (before n) (same n) (suc low) base number (index_at (suc low) base) reached ∙ end.word_is

  here : (n : ℕ) → IsOwnTable target.depth (before n) target.root (suc low) base number
  here n = record {
    own = own_as target.depth target.root memory (before n) (same n) base end.premise.own;
    whole = whole-insert memory frame (fill_words (fill n))
        (gap_long first n run_words ∙ run_long) end.premise.whole;
    used = used_word (before n) number (index_at (suc low) base) word (word_is n);
    at = table_as target.depth target.root memory (before n) (same n) (suc low) base ∙ reached;
  }

  unreached : (n level b : ℕ) → table_at (levels target.depth) (before n) target.root level b ≢ Some frame
  unreached n level b at = spare.unreached level b (sym (table_as target.depth target.root memory (before n) (same n) level b) ∙ at)

  frame_apart : frame ≢ number
  frame_apart e = spare.unreached (suc low) base (reached ∙ ap Some (sym e))

  frame_words : (n : ℕ) → finite.get (linked n) frame ≡ Some (fill_words (fill n))
  frame_words n = get_written_other (before n) number (index_at (suc low) base) (table_word frame) frame frame_apart
      ∙ get-insert_same memory frame (fill_words (fill n))

  -- other frames are the same whatever the gap
  off_frame : (n f : ℕ) → f ≢ frame → finite.get (linked n) f ≡ finite.get (stored memory s) f
  off_frame n f other = ⊎_elim
      (λ (at : f ≡ number).
      ap (finite.get (linked n)) at ∙ get_written (before n) number (index_at (suc low) base) (table_word frame)
      ∙ ap (λ o. Some (slice_set (unwrap_or o []) (index_at (suc low) base) (table_word frame)))
      (get-insert_other memory frame (fill_words (fill n)) number (λ e. frame_apart (sym e)))
      ∙ sym (ap (finite.get (stored memory s)) at ∙ get_written memory number (index_at (suc low) base) (table_word frame)))
      (λ (off : f ≢ number).
      get_written_other (before n) number (index_at (suc low) base) (table_word frame) f off
      ∙ get-insert_other memory frame (fill_words (fill n)) f other
      ∙ sym (get_written_other memory number (index_at (suc low) base) (table_word frame) f off))
      (cases_eq f number)

  -- the way on to the table that was filled
  way_on_down : (n b : ℕ) → SamePath (levels target.depth) (suc low) base b
      → IsWay target.depth (linked n) target.root b low frame (intersection given all_rights)
  way_on_down n b path = Leads low number frame given all_rights
      (way_shared b (suc low) number given (way_stays (here n) (table_word frame) base (suc low) number given (omega arith) (way n))
      (λ i from to. path i (omega arith) to))
      (found_stored (here n) (table_word frame) b path ∙ ap Some leads)

  run : IsRun (before 0) low frame phys own
  run = run_filled (before 0) low frame base phys (bits_in (size_at (suc low)) word) (fill 0).first own lies (are_bits_in (size_at (suc low)) word)
      (ap (λ z. page_word (record { base = base; size = z; rights = own; phys = phys }) (bits_in (size_at (suc low)) word)) (smaller_at low some few))
      (get-insert_same memory frame (fill_words (fill 0)) ∙ ap Some (gap_none first run_words) ∙ ap (λ st. Some (stepping (fill 0).first st 512)) step_is)

  -- ---- a part

  abbrev at : ℕ → ℕ
  at i = base + i * entry_bytes low

  covered : (i : ℕ) → i < 512 → IsTrue (covers page.0 (at i))
  covered i lt = (covers_means page.0 (at i)).1 (
    omega (arith, begins),
    subst (λ l. at i < page.0.base + entry_bytes l) (sym page.1.level_is) (omega (arith, begins, part_high low base i some few lt)),
  )

  canonical : (i : ℕ) → i < 512 → IsCanonical target.depth (at i)
  canonical i lt = covered_canonical (2 ^ 51) target.depth page.0 (at i) page.1.good (covered i lt)

  path_at : (i : ℕ) → i < 512 → SamePath (levels target.depth) (suc low) base (at i)
  path_at i lt = (page_path page.1 begins (at i)).0 (covers_path target.depth page.0 page.1.good (at i) (covered i lt))

  -- the entry of a part, behind the gap
  word_past : (n i : ℕ) → first + n ≤ i → word_at (linked n) frame i ≡ Some (slice_index run_words i)
  word_past n i past = word_in (linked n) frame i (fill_words (fill n)) (frame_words n) ∙ ap Some (gap_past first n i run_words past)

  part_says : (i : ℕ) → i < 512 → meaning low (slice_index run_words i) ≡ entry.Leaf (phys + i * entry_bytes low) own
  part_says i lt =
      let index = part_index low base i some few base_aligned lt in
      let told : word_at (before 0) frame (index_at low (at i)) ≡ Some (slice_index run_words i) =
      ap (word_at (before 0) frame) index
      ∙ word_in (before 0) frame i (fill_words (fill 0)) (get-insert_same memory frame (fill_words (fill 0)))
      ∙ ap (λ ws. Some (slice_index ws i)) (gap_none first run_words) in
      same_Some (meaning low (slice_index run_words i)) (entry.Leaf (phys + i * entry_bytes low) own)
      (sym (found_word low (before 0) frame (at i) (slice_index run_words i) told)
      ∙ found_entry low (before 0) frame (at i)
      ∙ ap (λ k. entry_in low (before 0) frame k) index ∙ run i lt)

  -- ---- the space after so many unmaps

  abbrev space_at : ℕ → Space
  space_at n = unmap_each target.depth (split_space space page.0) page.0 first n

  split_as : split space base ≡ record { space = split_space space page.0; answer = answers.Changed (intersection given own) }
  split_as = split_is (premise_table end.premise) page.1 some few aligned

  is_space : (n : ℕ) → IsSpace target.depth (space_at n)
  is_space n = unmap_stays (space_split end.premise.is_space page.1.held (λ e. large_at low some (sym page.1.size ∙ e))) page.0 first n

  -- ---- with so many parts in the gap, the memory translates as after so many unmaps, and no table is reached that isn't without a gap

  record IsAt (n : ℕ) : Type 0 where
    translates : TranslatesAs target.depth (linked n) target.root (space_at n)
    fewer_there : (b j q : ℕ) → table_at (levels target.depth) (linked n) target.root j b ≡ Some q
        → table_at (levels target.depth) (linked 0) target.root j b ≡ Some q

  own_whole : (c : ℕ) → HasOwnWay target.depth memory target.root c → HasOwnWay target.depth (linked 0) target.root c
  own_whole c has = own_parts (here 0) (way 0) frame low phys (table_word frame) own refl some leads run (unreached 0) c
      (own_as target.depth target.root memory (before 0) (same 0) c has)

  own_there : {n : ℕ} → IsAt n → (c : ℕ) → HasOwnWay target.depth memory target.root c → HasOwnWay target.depth (linked n) target.root c
  own_there is c has = let whole = own_whole c has in
      record { once = λ j q k b r t. whole.once j q k b (is.fewer_there c j q r) (is.fewer_there b k q t) }

  begin_at : IsAt 0
  unfolding unmap_each
  begin_at = record {
    translates = subst (λ (t : Stepped). TranslatesAs target.depth (linked 0) target.root t.space) split_as
        (split_translates (premise_table end.premise) page.1 some few aligned (linked 0)
        (λ b path. walk_parts (here 0) (way 0) frame low phys (table_word frame) own refl some leads run (unreached 0) b path)
        (λ b apart. walk_off (here 0) (table_word frame) b apart ∙ walk_as target.depth target.root memory (before 0) (same 0) b));
    fewer_there = λ b j q r. r;
  }

  module _ (n : ℕ) (is : IsAt n) (room : first + n < 512) where
    abbrev i : ℕ
    i = first + n

    index_is : index_at low (at i) ≡ i
    index_is = part_index low base i some few base_aligned room

    told : word_at (linked n) frame (index_at low (at i)) ≡ Some (slice_index run_words i)
    told = ap (word_at (linked n) frame) index_is ∙ word_past n i (omega arith)

    down : IsWay target.depth (linked n) target.root (at i) low frame (intersection given all_rights)
    down = way_on_down n (at i) (path_at i room)

    at_frame : table_at (levels target.depth) (linked n) target.root low (at i) ≡ Some frame
    at_frame = way_table low frame (intersection given all_rights) down

    -- no other way leads to the tables on its way
    own_at : HasOwnWay target.depth (linked n) target.root (at i)
    own_at = record {
      once = λ j q k b r t. ⊎_elim
          (λ (past : j < low).
          let found = found_word low (linked n) frame (at i) (slice_index run_words i) told ∙ ap Some (part_says i room) in
          let none : table_at (levels target.depth) (linked n) target.root (low - 1) (at i) ≡ None =
          table_below (levels target.depth) target.root (linked n) low (low - 1) (at i) frame (omega (arith, some)) at_frame ∙ ap table_in found in
          let high = reached_within (levels target.depth) target.root (linked n) low (at i) frame at_frame in
          let nothing = none_past (levels target.depth) target.root (linked n) (low - 1) j (at i) (omega (arith, high)) (omega (arith, past)) none in
          absurd (cc))
          (λ (from : low ≤ j).
          let path : SamePath (levels target.depth) (suc j) base (at i) = λ l le top. path_at i room l (omega (arith, le, from)) top in
          let base_own = own_there is base end.premise.own in
          let both = base_own.once j q k b (same_table (levels target.depth) target.root (linked n) j base (at i) path ∙ r) t in
          (both.0, λ l le top. sym (path l le top) ∙ both.1 l le top))
          (cases_lt j low);
    }

    whole_at : AreWhole (linked n)
    whole_at = whole_store (here n) (table_word frame)

    premise_at : IsPremise target.depth (linked n) target.root (at i) (space_at n)
    premise_at = record { whole = whole_at; is_space = is_space n; translates = is.translates; own = own_at }

    found_page : (q : Page) × IsLeafPage target.depth (space_at n) (at i) low (phys + i * entry_bytes low) (intersection (intersection given all_rights) own) q
    found_page = page_here down some told premise_at (canonical i room) (part_says i room)

    part_table : IsOwnTable target.depth (linked n) target.root low (at i) frame
    part_table = record {
      own = own_at;
      whole = whole_at;
      used = used_word (linked n) frame (index_at low (at i)) (slice_index run_words i) told;
      at = at_frame;
    }

    abbrev cleared : Memory
    cleared = with_word (linked n) frame (index_at low (at i)) 0

    -- the memory in which the part's entry is cleared is the one with the next gap
    alike : (f : ℕ) → finite.get (linked (suc n)) f ≡ finite.get cleared f
    alike f = ⊎_elim
        (λ (there : f ≡ frame).
        ap (finite.get (linked (suc n))) there ∙ frame_words (suc n)
        ∙ ap Some (sym (gap_more first n i run_words refl (omega (arith, room, run_long))))
        ∙ ap (λ k. Some (slice_set (fill_words (fill n)) k 0)) (sym index_is)
        ∙ ap (λ o. Some (slice_set (unwrap_or o []) (index_at low (at i)) 0)) (sym (frame_words n))
        ∙ sym (ap (finite.get cleared) there ∙ get_written (linked n) frame (index_at low (at i)) 0))
        (λ (other : f ≢ frame).
        off_frame (suc n) f other ∙ sym (off_frame n f other) ∙ sym (get_written_other (linked n) frame (index_at low (at i)) 0 f other))
        (cases_eq f frame)

    same_next : HasSameTables target.depth target.root cleared (linked (suc n))
    same_next = λ level address q r. alike q

    part_base : (part page.0 i).base ≡ at i
    part_base = ap (λ b. b + i * bytes_of (smaller page.0.size)) begins
        ∙ ap (λ z. base + i * bytes_of (smaller z)) page.1.size ∙ ap (λ m. base + i * m) step_is

    low_aligned : at i % bytes_of (size_at low) ≡ 0
    low_aligned = subst (λ l. at i % entry_bytes l ≡ 0) (sym (level_back low (omega (arith, some)) (omega (arith, few))))
        (part_even low base i some few base_aligned)

    next_at : IsAt (suc n)
    unfolding unmap_each
    next_at = record {
      translates = translates_as target.depth target.root cleared (linked (suc n)) same_next (space_at (suc n))
          (subst (λ b. TranslatesAs target.depth cleared target.root (step target.depth 0 (space_at n) (Unmap b)).space) (sym part_base)
          (removed_translates 0 (premise_table premise_at) found_page.1 (begins_at found_page.1 low_aligned) cleared
          (λ b is_b path. walk_here part_table 0 down some entry.Absent refl b path)
          (λ b is_b apart. walk_off part_table 0 b apart)));
      fewer_there = λ b j q r. is.fewer_there b j q (fewer part_table 0 refl b j q
          (sym (table_as target.depth target.root cleared (linked (suc n)) same_next j b) ∙ r));
    }

  all_at : (n : ℕ) → first + n ≤ 512 → IsAt n
  all_at zero fits = begin_at
  all_at (suc n) fits = next_at n (all_at n (omega (arith, fits))) (omega (arith, fits))

  -- ---- the plan

  entry_here : IsEntryOf target memory base (size_at (suc low)) word
  entry_here = entry_of end.way end.word_is says

  unmap_as : (count : ℕ) → unmap_part target.depth space base first count
      ≡ record { space = space_at count; answer = answers.Changed (intersection given own) }
  unmap_as count = change_here space base (λ (q : Page). unmap_each target.depth (split_space space q) q first count) page.0 page.1.here begins
      ∙ ap (λ r. let t : Stepped = record { space = space_at count; answer = answers.Changed r } in t) page.1.rights

  pub gap_parts : (count : ℕ) → first + count ≤ 512
      → Parts target (UnmapPart base first count) memory space (Some frame ∷ []) (replies.Answer (answers.Changed (intersection given own)))
      (bits_in (size_at (suc low)) word) (Some (fill count)) (s ∷ []) (flushes.Range base (size_at (suc low))) []
  unfolding entry_here
  gap_parts count fits =
      let now = all_at count fits in
      record {
        reply = sym (ap (λ (t : Stepped). t.answer) (unmap_as count));
        due = never_refused target (suc low) end (omega (arith, some)) says aligned;
        fits = tt;
        put = (
          fill count,
          refl,
          record {
            size = size_at (suc low);
            phys = phys;
            own = own;
            entry_is = entry_here;
            frame = refl;
            at = refl;
            aligned = aligned;
            says = ap (λ l. meaning l word) back ∙ says;
            large = large_at low some;
            given = Contains-head (Some frame) [];
            within = within;
            spare = spare;
            first = refl;
            step = refl;
            gap_is = refl;
            count_is = refl;
            link = refl;
          },
          refl,
        );
        safe = safe_one s (translates_as target.depth target.root memory (before count) (same count) space end.premise.translates)
            (subst (λ (t : Stepped). TranslatesAs target.depth (linked count) target.root t.space) (sym (unmap_as count)) now.translates);
        found = (word_is count, tt);
        meant = All-cons (IsMeantBy target memory (UnmapPart base first count) []) s []
            (OfPage (record { level = suc low; reached = reached; index = refl }) (ap (λ e. table_in (Some e)) says)) (All-nil _);
        nothing = λ none. absurd (none (λ e. cc));
        written = refl;
        already = tt;
        changing = All-cons (λ (t : Store). t.old ≢ t.new) s []
            (words_apart (suc low) word (table_word frame) (λ alike. let both = sym says ∙ alike ∙ leads in cc)) (All-nil _);
        one_way = tt;
        told = (size_at (suc low), word, entry_here, refl);
        flushed = (size_at (suc low), entry_here, refl);
        unlinked = All-nil _;
        pruned = tt;
        named_once = none_named;
        whole = whole_store (here count) (table_word frame);
        own = λ a has. own_there now a has;
        reaches = λ j b q r. ⊎_elim
            (λ old. inl (sym (table_as target.depth target.root memory (before 0) (same 0) j b) ∙ old))
            (λ one. inr (subst (IsNewTable target memory (Some (fill count)) (s ∷ [])) one
            (record { spare = spare; written = Contains-head frame (number ∷ []) })))
            (parts_reached (here 0) (way 0) frame low phys (table_word frame) own refl some leads run (unreached 0) b j q (now.fewer_there b j q r));
      }

pub unmapped_parts : (target : Target) (level : ℕ) {memory : Memory} {space : Space} {base number word phys : ℕ} {given own : Rights}
    → EndAt target memory space level number given word base → 1 < level → meaning level word ≡ entry.Leaf phys own
    → base % bytes_of (size_at level) ≡ 0 → (frame : ℕ) → frame < frames_end target → IsSpare target.depth memory target.root frame
    → meaning level (table_word frame) ≡ entry.Table frame all_rights → (first count : ℕ) → first + count ≤ 512
    → Parts target (UnmapPart base first count) memory space (Some frame ∷ []) (replies.Answer (answers.Changed (intersection given own)))
    (bits_in (size_at level) word)
    (Some (record (parts_fill frame base level word phys own) { gap = first; gap_count = count }))
    (store_at number (index_at level base) word (table_word frame) ∷ [])
    (flushes.Range base (size_at level)) []
unmapped_parts target zero end some says aligned frame within spare leads first count fits = absurd (omega arith)
unmapped_parts target (suc low) end some says aligned frame within spare leads first count fits =
    gap_parts target end (omega arith) says aligned within spare leads first count fits
