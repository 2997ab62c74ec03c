-- A plan that splits a page.
use Rattle.std.proofs.Common.{◌≡◌, ◌≢◌, ℕ, zero, suc, ◌+◌, ◌%◌, ◌^◌, ◌<◌, ◌≤◌, List, [], ◌∷◌, length, Some, None, inl, inr, ⊎_elim, refl, sym, ap, subst, ◌∙◌, arith}
use Rattle.std.proofs.lemmas.List.Elements.{All-nil, All-cons}
use Rattle.vs_types.specs.Depth.{levels, entry_bytes, index_at}
use Rattle.vs_types.specs.Entry.{meaning, size_at, table_word, all_rights}
use Rattle.vs_types.specs.Page.{level_of, bytes_of, intersection}
use Rattle.vs_types.specs.Space.{Space}
use Rattle.vs_types.specs.Step.{Stepped}
use Rattle.vs_types.specs.declared.addresses.page.Page.{Page}
use Rattle.vs_types.specs.declared.addresses.page.Rights.{Rights}
use Rattle.vs_types.specs.declared.addresses.page.Size.{Size}
use Rattle.vs_types.specs.declared.addresses.page.Size.TheVariants.{K4}
use Rattle.vs_types.specs.declared.entries.entry.Meaning.TheVariants as entry
use Rattle.vs_types.specs.declared.requests.answer.Answer.TheVariants as answers
use Rattle.vs_types.proofs.Lists.{Contains-head}
use Rattle.vs_walk.specs.Memory.{Memory}
use Rattle.vs_walk.proofs.Walks.{leaf_level}
use Rattle.vs_space.specs.Held.{word_at}
use Rattle.vs_space.specs.Path.{table_in, table_at}
use Rattle.vs_types.proofs.Maps.{get-insert_same}
use Rattle.vs_space.proofs.Numbered.{whole-insert}
use Rattle.vs_space.proofs.Regions.{IsLeafPage, level_back}
use Rattle.vs_plan.specs.declared.plans.plan.Fill.{Fill}
use Rattle.vs_plan.specs.declared.plans.plan.Flush.TheVariants as flushes
use Rattle.vs_plan.specs.declared.plans.plan.Reply.TheVariants as replies
use Rattle.vs_plan.specs.declared.plans.plan.Store.{Store}
use Rattle.vs_plan.specs.declared.plans.request.Request.TheVariants.{Split}
use Rattle.vs_plan.specs.declared.plans.target.Target.{Target}
use Rattle.vs_types.specs.Bits.{bits_in, page_word}
use Rattle.vs_plan.specs.Changes.{smaller, smallest, split_refusal}
use Rattle.vs_plan.specs.Premise.{IsSpare}
use Rattle.vs_plan.specs.Right.{IsEntryOf, IsMeantBy, OfPage, IsNewTable}
use Rattle.vs_plan.specs.Stores.{stepping, fill_words, filled, stored, with_gap}
use Rattle.vs_plan.specs.Target.{frames_end}
use Rattle.vs_plan.proofs.Asking.{entry_of}
use Rattle.vs_plan.proofs.EntryStores.{IsOwnTable, walk_off, whole_store}
use Rattle.vs_plan.proofs.Filled.{own_as, table_as, translates_as, walk_as, way_as, word_as, insert_same}
use Rattle.vs_plan.proofs.PartSpaces.{refused_there}
use Rattle.vs_plan.proofs.Pages.{page_here, premise_table}
use Rattle.vs_plan.proofs.Parts.{none_named, Parts, safe_one, store_at, words_apart, EndAt}
use Rattle.vs_plan.proofs.Runs.{IsRun}
use Rattle.vs_plan.proofs.Splitting.{LiesLarge, are_bits_in, large_at, own_parts, parts_reached, run_filled, smaller_at, split_is, split_translates}
use Rattle.vs_plan.proofs.Splitting.{stepping_long, walk_parts}
use Rattle.vs_plan.proofs.Stored.{used_word}
use Rattle.vs_plan.proofs.Ways.{way_table}
use Rattle.vs_plan.specs.Other.{HasSameTables}
use Rattle.vs_plan.specs.Way.{IsWay}

-- the fill of a split: the entries of the parts of the page of this entry
abbrev pub parts_fill : ℕ → ℕ → ℕ → ℕ → ℕ → Rights → Fill
parts_fill frame base level word phys own = record {
  frame = frame;
  first = page_word (record { base = base; size = smaller (size_at level); rights = own; phys = phys }) (bits_in (size_at level) word);
  step = bytes_of (smaller (size_at level));
  gap = 0;
  gap_count = 0;
}

-- at the entry of a page of 2 MiB or 1 GiB, the parts of which have entries of the level below
module _ (target : Target) {memory : Memory} {space : Space} {base low number word phys : ℕ} {given own : Rights}
    (end : EndAt target memory space (suc low) number given word base) (some : 1 ≤ low) (says : meaning (suc low) word ≡ entry.Leaf phys own)
    (aligned : base % bytes_of (size_at (suc low)) ≡ 0) where
  few : suc low ≤ 3
  few = (leaf_level (suc low) word phys own says).0

  page : (q : Page) × IsLeafPage target.depth space base (suc low) phys (intersection given own) q
  page = page_here end.way (omega arith) end.word_is end.premise end.canonical says

  lies : LiesLarge low phys
  lies = record {
    some = some;
    few = few;
    aligned = subst (λ p. p % entry_bytes (suc low) ≡ 0) page.1.phys_is (subst (λ l. page.0.phys % entry_bytes l ≡ 0) page.1.level_is page.1.good.phys_aligned);
    range = subst (λ p. p + entry_bytes (suc low) ≤ 2 ^ 51) page.1.phys_is
        (subst (λ l. page.0.phys + entry_bytes l ≤ 2 ^ 51) page.1.level_is page.1.good.phys_range);
  }

  back : level_of (size_at (suc low)) ≡ suc low
  back = level_back (suc low) (omega arith) few

  step_is : bytes_of (smaller (size_at (suc low))) ≡ entry_bytes low
  step_is = ap bytes_of (smaller_at low some few) ∙ ap entry_bytes (level_back low (omega (arith, some)) (omega (arith, few)))

  not_refused : split_refusal space base ≡ None
  not_refused = refused_there space base page.0 page.1.here begins ∙ by page.0.size (λ e. large_at low some (sym page.1.size ∙ e)) where
    begins : page.0.base ≡ base
    begins = let offset : base % bytes_of page.0.size ≡ base % bytes_of (size_at (suc low)) = ap (λ n. base % n) (ap bytes_of page.1.size) in
        omega (arith, page.1.base, offset, aligned)

    by : (size : Size) → size ≢ K4 → smallest size ≡ None
    by K4 large = absurd (large refl)
    by _ large = refl

  module _ {frame : ℕ} (within : frame < frames_end target) (spare : IsSpare target.depth memory target.root frame)
      (leads : meaning (suc low) (table_word frame) ≡ entry.Table frame all_rights) where
    abbrev fill : Fill
    fill = parts_fill frame base (suc low) word phys own

    abbrev words : List ℕ
    words = fill_words fill

    -- it has no gap
    all_words : words ≡ stepping fill.first fill.step 512
    unfolding with_gap
    all_words = refl

    abbrev m : Memory
    m = filled memory (Some fill)

    abbrev s : Store
    s = store_at number (index_at (suc low) base) word (table_word frame)

    reached : table_at (levels target.depth) memory target.root (suc low) base ≡ Some number
    reached = way_table (suc low) number given end.way

    same : HasSameTables target.depth target.root memory m
    same = insert_same target.depth target.root memory frame words spare.unreached

    way : IsWay target.depth m target.root base (suc low) number given
    way = way_as target.depth target.root memory m same end.way

    unreached : (level b : ℕ) → table_at (levels target.depth) m target.root level b ≢ Some frame
    unreached level b reached = spare.unreached level b (sym (table_as target.depth target.root memory m same level b) ∙ reached)

    word_is : word_at m number (index_at (suc low) base) ≡ Some word
    word_is = word_as target.depth target.root memory m same (suc low) base number (index_at (suc low) base) reached ∙ end.word_is

    here : IsOwnTable target.depth m target.root (suc low) base number
    here = record {
      own = own_as target.depth target.root memory m same base end.premise.own;
      whole = whole-insert memory frame words (ap (λ (ws : List ℕ). length ws) all_words ∙ stepping_long fill.first fill.step 512) end.premise.whole;
      used = used_word m number (index_at (suc low) base) word word_is;
      at = table_as target.depth target.root memory m same (suc low) base ∙ reached;
    }

    run : IsRun m low frame phys own
    run = run_filled m low frame base phys (bits_in (size_at (suc low)) word) fill.first own lies (are_bits_in (size_at (suc low)) word)
        (ap (λ z. page_word (record { base = base; size = z; rights = own; phys = phys }) (bits_in (size_at (suc low)) word)) (smaller_at low some few))
        (get-insert_same memory frame words ∙ ap Some all_words ∙ ap (λ st. Some (stepping fill.first st 512)) step_is)

    entry_here : IsEntryOf target memory base (size_at (suc low)) word
    entry_here = entry_of end.way end.word_is says

    parts_at : Parts target (Split base) memory space (Some frame ∷ []) (replies.Answer (answers.Changed (intersection given own)))
        (bits_in (size_at (suc low)) word) (Some fill) (s ∷ []) (flushes.Range base (size_at (suc low))) []
    unfolding entry_here
    parts_at = record {
      reply = sym (ap (λ (t : Stepped). t.answer) (split_is (premise_table end.premise) page.1 some few aligned));
      due = not_refused;
      fits = tt;
      put = (
        fill,
        refl,
        record {
          size = size_at (suc low);
          phys = phys;
          own = own;
          entry_is = entry_here;
          frame = refl;
          at = refl;
          aligned = aligned;
          says = ap (λ l. meaning l word) back ∙ says;
          large = large_at low some;
          given = Contains-head (Some frame) [];
          within = within;
          spare = spare;
          first = refl;
          step = refl;
          gap_is = refl;
          count_is = refl;
          link = refl;
        },
        refl,
      );
      safe = safe_one s (translates_as target.depth target.root memory m same space end.premise.translates)
          (split_translates (premise_table end.premise) page.1 some few aligned (stored m s)
          (λ b path. walk_parts here way frame low phys (table_word frame) own refl some leads run unreached b path)
          (λ b apart. walk_off here (table_word frame) b apart ∙ walk_as target.depth target.root memory m same b));
      found = (word_is, tt);
      meant = All-cons (IsMeantBy target memory (Split base) []) s []
          (OfPage (record { level = suc low; reached = reached; index = refl }) (ap (λ e. table_in (Some e)) says)) (All-nil _);
      nothing = λ none. absurd (none (λ e. cc));
      written = refl;
      already = tt;
      changing = All-cons (λ (t : Store). t.old ≢ t.new) s [] (words_apart (suc low) word (table_word frame) (λ same. let both = sym says ∙ same ∙ leads in cc))
          (All-nil _);
      one_way = tt;
      told = (size_at (suc low), word, entry_here, refl);
      flushed = (size_at (suc low), entry_here, refl);
      unlinked = All-nil _;
      pruned = tt;
      named_once = none_named;
      whole = whole_store here (table_word frame);
      own = λ a has. own_parts here way frame low phys (table_word frame) own refl some leads run unreached a
          (own_as target.depth target.root memory m same a has);
      reaches = λ j b q at. ⊎_elim
          (λ old. inl (sym (table_as target.depth target.root memory m same j b) ∙ old))
          (λ same. inr (subst (IsNewTable target memory (Some fill) (s ∷ [])) same
          (record { spare = spare; written = Contains-head frame (number ∷ []) })))
          (parts_reached here way frame low phys (table_word frame) own refl some leads run unreached b j q at);
    }

pub split_parts : (target : Target) (level : ℕ) {memory : Memory} {space : Space} {base number word phys : ℕ} {given own : Rights}
    → EndAt target memory space level number given word base → 1 < level → meaning level word ≡ entry.Leaf phys own
    → base % bytes_of (size_at level) ≡ 0 → (frame : ℕ) → frame < frames_end target → IsSpare target.depth memory target.root frame
    → meaning level (table_word frame) ≡ entry.Table frame all_rights
    → Parts target (Split base) memory space (Some frame ∷ []) (replies.Answer (answers.Changed (intersection given own))) (bits_in (size_at level) word)
    (Some (parts_fill frame base level word phys own)) (store_at number (index_at level base) word (table_word frame) ∷ [])
    (flushes.Range base (size_at level)) []
split_parts target zero end some says aligned frame within spare leads = absurd (omega arith)
split_parts target (suc low) end some says aligned frame within spare leads = parts_at target end (omega arith) says aligned within spare leads

-- a page that begins there and has parts is split
pub never_refused : (target : Target) (level : ℕ) {memory : Memory} {space : Space} {base number word phys : ℕ} {given own : Rights}
    → EndAt target memory space level number given word base → 1 < level → meaning level word ≡ entry.Leaf phys own
    → base % bytes_of (size_at level) ≡ 0 → split_refusal space base ≡ None
never_refused target zero end some says aligned = absurd (omega arith)
never_refused target (suc low) end some says aligned = not_refused target end (omega arith) says aligned
