-- Lent memory in whose words the accessed flag and the dirty flag change: the page table in it stays.
use Rattle.std.proofs.Common.{◌≡◌, ℕ, zero, suc, ◌<◌, Bool, true, false, List, [], ◌∷◌, length, get_or, take, Some, None, refl, sym, ap, subst, ◌∙◌, arith}
use Rattle.std.specs.Prelude.{is_some, slice_index, slice_index_or, All, if◌then◌else◌, ◌+◌}
use Rattle.std.specs.List.{AllZip}
use Rattle.std.proofs.lemmas.List.Elements.{length_all_zip, AllZip-get_or}
use Rattle.vs_types.specs.Frame.{IsFrame}
use Rattle.vs_types.specs.Space.{Space}
use Rattle.vs_arena.specs.Store.{Store, Lenders}
use Rattle.vs_arena.specs.Marked.{marked_frames, IsGivenBack, IsArena}
use Rattle.vs_arena.specs.Lent.{frames_in}
use Rattle.vs_arena.specs.LentMarks.{IsLentArena, uses_of_first}
use Rattle.vs_arena.specs.declared.mark.FrameMark.{FrameMark}
use Rattle.vs_arena.proofs.MarkedFrames.{get-marked_frames}
use Rattle.vs_space.specs.Flags.{IsSameButFlags, AreSameButFlags}
use Rattle.vs_space.specs.Table.{IsTableOf}
use Rattle.vs_space.proofs.FlaggedWords.{flagged_fits, flagged_zeros}
use Rattle.vs_space.proofs.Flagged.{flagged_len, flagged_kept, flagged_space}
use Rattle.nrvs_c.specs.Flags.{IsLentSameButFlags}
use Rattle.nrvs_c.specs.Table.{depth_in, lent_table, lent_status}
use Rattle.nrvs_c.specs.Call.{IsSound}
use Rattle.nrvs_c.specs.declared.table.Table.{Table}

abbrev Words : Type 0
Words = List (List ℕ)

-- ---- frames

take_flagged : (n : ℕ) (words after : Words) → IsLentSameButFlags words after → IsLentSameButFlags (take n words) (take n after)
take_flagged (suc n) [] (frame ∷ after) are = absurd are
take_flagged (suc n) (frame ∷ words) [] are = absurd are
take_flagged (suc n) (frame ∷ words) (next ∷ after) are = (are.0, take_flagged n words after are.1)
take_flagged _ _ _ are = tt

frame_flagged : (words after : Words) → IsLentSameButFlags words after → (index : ℕ) → AllZip IsSameButFlags (get_or words index []) (get_or after index [])
frame_flagged [] [] are index = tt
frame_flagged (frame ∷ words) (next ∷ after) are zero = are.0
frame_flagged (frame ∷ words) (next ∷ after) are (suc index) = frame_flagged words after are.1 index
frame_flagged _ _ are index = absurd are

module _ (uses : List Bool) (words after : Words) (are : IsLentSameButFlags words after) where
  abbrev frames : Words → Store
  frames = marked_frames uses

  frames_flagged : AreSameButFlags (frames words) (frames after)
  frames_flagged = record {
    frames = λ q. ap is_some (get-marked_frames uses after q) ∙ same (slice_index_or uses q false) _ _ ∙ sym (ap is_some (get-marked_frames uses words q));
    words = λ q first second got next.
        by q (slice_index_or uses q false) first second (sym (get-marked_frames uses words q) ∙ got) (sym (get-marked_frames uses after q) ∙ next);
  } where
    same : (mark : Bool) (first second : List ℕ) → is_some (if mark then Some first else None) ≡ is_some (if mark then Some second else None)
    same true first second = refl
    same false first second = refl

    by : (q : ℕ) (mark : Bool) (first second : List ℕ) → (if mark then Some (get_or words q []) else None) ≡ Some first
        → (if mark then Some (get_or after q []) else None) ≡ Some second → AllZip IsSameButFlags first second
    by q false first second got next = absurd (cc)
    by q true first second got next =
        let before : get_or words q [] ≡ first = cc in
        let now : get_or after q [] ≡ second = cc in
        subst (λ (f : List ℕ). AllZip IsSameButFlags f second) before
        (subst (λ (f : List ℕ). AllZip IsSameButFlags (get_or words q []) f) now (frame_flagged words after are q))

  -- ---- the arena

  frame_stays : (first second : List ℕ) → AllZip IsSameButFlags first second → IsFrame first → IsFrame second
  frame_stays first second flagged is = record {
    whole = sym (length_all_zip IsSameButFlags first second flagged) ∙ is.whole;
    fit = λ k d within.
        let low : k < length first = omega (arith, length_all_zip IsSameButFlags first second flagged, within) in
        flagged_fits (AllZip-get_or IsSameButFlags first second k d d flagged low) (is.fit k d low);
  }

  all_frames : All IsFrame words → All IsFrame after
  all_frames is = λ k d within.
      let low : k < length words = omega (arith, length_all_zip (AllZip IsSameButFlags) words after are, within) in
      frame_stays _ _ (AllZip-get_or (AllZip IsSameButFlags) words after k d d are low) (is k d low)

  arena_stays : {base size : ℕ} {notes free : List ℕ} → IsArena base size words uses notes free → IsArena base size after uses notes free
  arena_stays {free = free} is = record {
    few_frames = is.few_frames;
    numbers_fit = is.numbers_fit;
    ever_taken = is.ever_taken;
    words_for_each = sym (length_all_zip (AllZip IsSameButFlags) words after are) ∙ is.words_for_each;
    notes_for_each = is.notes_for_each;
    whole_frames = all_frames is.whole_frames;
    given_back = λ k within. cleared (slice_index free k) (is.given_back k within);
    given_once = is.given_once;
    counted = ap (λ n. n + length free) (flagged_len frames_flagged) ∙ is.counted;
  } where
    cleared : (index : ℕ) → IsGivenBack words uses index → IsGivenBack after uses index
    cleared index given = record {
      within = given.within;
      unmarked = given.unmarked;
      clear = flagged_zeros 512 (get_or after index [])
          (subst (λ (f : List ℕ). AllZip IsSameButFlags f (get_or after index [])) given.clear (frame_flagged words after are index));
    }

-- ---- handles

module _ (handle : Table) (words after : Words) (marks : List FrameMark) (are : IsLentSameButFlags words after) where
  long : length after ≡ length words
  long = sym (length_all_zip (AllZip IsSameButFlags) words after are)

  in_use : AreSameButFlags (frames_in handle.taken marks words) (frames_in handle.taken marks after)
  in_use = frames_flagged (uses_of_first handle.taken marks) (take handle.taken words) (take handle.taken after) (take_flagged handle.taken words after are)

  pub status_stays : lent_status handle after marks ≡ lent_status handle words marks
  status_stays = rw long refl

  laid_out : IsLentArena handle.base handle.taken handle.given handle.last words marks
      → IsLentArena handle.base handle.taken handle.given handle.last after marks
  laid_out is = record {
    arena = rw long (arena_stays (uses_of_first handle.taken marks) (take handle.taken words) (take handle.taken after)
        (take_flagged handle.taken words after are) is.arena);
    taken_within = rw long is.taken_within;
    given_within = is.given_within;
    marks_for_each = rw long is.marks_for_each;
    last_below = is.last_below;
  }

  pub sound_stays : IsSound handle words marks → IsSound handle after marks
  sound_stays sound = λ usable. let was = sound (sym status_stays ∙ usable) in record {
    laid_out = laid_out was.laid_out;
    keeps = rw long (flagged_kept (depth_in handle) handle.root handle.base (length words) in_use _ was.keeps);
  }

  pub space_stays : (lenders : Lenders) {space : Space} → IsTableOf (lent_table lenders handle words marks) space
      → IsTableOf (lent_table lenders handle after marks) space
  space_stays lenders of = rw long (flagged_space (depth_in handle) handle.root handle.base (length words) in_use lenders of)
