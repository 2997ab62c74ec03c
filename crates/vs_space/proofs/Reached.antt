-- Each frame in use stays reached, and whole: an entry is written, a table is linked, an empty table is taken out.
use Rattle.std.proofs.Common.{◌≡◌, ◌≢◌, ℕ, suc, ◌-◌, ◌<◌, ◌≤◌, List, Some, None, ⊎_elim, refl, sym, ap, subst, ◌∙◌, arith}
use Rattle.std.specs.Prelude.{IsSome}
use Rattle.std.proofs.lemmas.Bool.{cases_eq, cases_lt}
use Rattle.std.proofs.lemmas.List.{length-set}
use Rattle.std.specs.FinMap as finite
use Rattle.std.proofs.lemmas.Option.{same_Some}
use Rattle.vs_types.specs.Depth.{index_at}
use Rattle.vs_arena.specs.Store.{zeros}
use Rattle.vs_walk.specs.Memory.{Memory, AreWhole}
use Rattle.vs_space.specs.Held.{with_word}
use Rattle.vs_space.specs.Path.{found_at, table_in, table_at, SamePath}
use Rattle.vs_space.specs.Tree.{IsTree, IsReached, AreWritten}
use Rattle.vs_types.specs.Bits.{IsWritten}
use Rattle.vs_types.proofs.Maps.{get-insert_other, get-remove_same, get-remove_other}
use Rattle.vs_space.proofs.Numbered.{whole-insert}
use Rattle.vs_space.proofs.Paths.{table_below, none_past, same_table, found_same}
use Rattle.vs_space.proofs.Writes.{IsTreeAt, used_at, within, at_same, after_write, words_in, table_off_path, table_above, same_or_not, used_before}
use Rattle.vs_space.proofs.Trees.{unreached_table}
use Rattle.vs_space.proofs.Links.{IsLink, linked, still_clear, table_take, cut_alike}
use Rattle.vs_space.proofs.Written.{written_zero, written_alike, written_clear, written_on}

-- ---- frames in use

-- a write keeps each frame whole
pub whole_written : (m : Memory) (n i w : ℕ) → IsSome (finite.get m n) → AreWhole m → AreWhole (with_word m n i w)
unfolding with_word
whole_written m n i w used is = whole-insert m n _ (length-set _ i w ∙ is n _ (words_in m n used)) is

-- what is in use once a frame is freed isn't that frame
not_given : (m : Memory) (f q : ℕ) → IsSome (finite.get (finite.remove m f) q) → q ≢ f
not_given m f q now same =
    let none : IsSome {T = List ℕ} None = subst IsSome (ap (finite.get (finite.remove m f)) same ∙ get-remove_same m f) now in
    cc

kept_before : (m : Memory) (f q : ℕ) → IsSome (finite.get (finite.remove m f) q) → IsSome (finite.get m q)
kept_before m f q now = subst IsSome (get-remove_other m f q (not_given m f q now)) now

-- ---- the entry for an address is written in the table of a level on its path

module _ {top : ℕ} {m : Memory} {root level a n : ℕ} (here : IsTreeAt top m root level a n) (w : ℕ) where
  pub whole_write : AreWhole (after_write here w)
  whole_write = whole_written m n (index_at level a) w (used_at here) here.whole

  -- a path that doesn't go on past the entry is
  stands_off : (j b q : ℕ) → (SamePath top level a b → j < level → ⊥) → table_at top m root j b ≡ Some q
      → table_at top (after_write here w) root j b ≡ Some q
  stands_off j b q off reached = ⊎_elim
      (λ same. ⊎_elim
      (λ (past : j < level). absurd (off same past))
      (λ (le : level ≤ j). table_above here w b j le ∙ reached)
      (cases_lt j level))
      (λ apart. table_off_path here w b j apart ∙ reached)
      (same_or_not top level a b)

  -- where the entry led to no table, each path is
  module _ (ended : table_in (found_at level m n a) ≡ None) where
    ended_at : (b j : ℕ) → SamePath top level a b → j < level → table_at top m root j b ≡ None
    ended_at b j same past =
        none_past top root m (level - 1) j b (omega (arith, within here)) (omega arith)
        (table_below top root m level (level - 1) b n (omega arith) (at_same here b same)
        ∙ ap table_in (sym (found_same level m n a b (same level (omega arith) (within here)))) ∙ ended)

    stands : (j b q : ℕ) → table_at top m root j b ≡ Some q → table_at top (after_write here w) root j b ≡ Some q
    stands j b q reached = stands_off j b q (λ same past. let nowhere = ended_at b j same past in cc) reached

    pub reached_write : IsWritten level w → IsReached top m root → IsReached top (after_write here w) root
    reached_write written is = record {
      path = λ q now.
          let old = is.path q (used_before m n (index_at level a) w q (used_at here) now) in
          (old.0, old.1, stands old.0 old.1 q old.2, written_on here w written old.0 old.1 q old.2 old.3);
    }

-- ---- a frame that wasn't in use is linked at an absent entry

pub reached_link : {top : ℕ} {m : Memory} {root level a n w f below : ℕ} → IsTree top m root → finite.get m f ≡ None
    → IsLink top (finite.insert m f zeros) root level a n w f below → IsWritten level w → IsReached top m root
    → IsReached top (with_word (finite.insert m f zeros) n (index_at level a) w) root
reached_link {top} {m} {root} {level} {a} {n} {w} {f} {below} tree free link written is = record {
  path = λ q now. ⊎_elim
      (λ (same : q ≡ f). (
        below,
        a,
        linked link a (λ i from to. refl) ∙ ap Some (sym same),
        subst (AreWritten below (after_write link.here w)) (sym same) (written_clear below _ f (still_clear link)),
      ))
      (λ (other : q ≢ f).
      let before = used_before (finite.insert m f zeros) n (index_at level a) w q (used_at link.here) now in
      let old = is.path q (subst IsSome (get-insert_other m f zeros q other) before) in
      let there = table_take tree f free old.0 old.1 ∙ old.2 in (
        old.0,
        old.1,
        stands link.here w (ap table_in link.absent) old.0 old.1 q there,
        written_on link.here w written old.0 old.1 q there
            (written_alike old.0 m (finite.insert m f zeros) q (get-insert_other m f zeros q other) old.3),
      ))
      (cases_eq q f);
}

-- ---- the entry that leads to a table that leads to none is cleared, and the frame freed

pub reached_unlink : {top : ℕ} {m : Memory} {root level a n below f : ℕ} (here : IsTreeAt top m root level a n) (one : level ≡ suc below)
    (down : table_at top m root below a ≡ Some f) → ((b j : ℕ) → SamePath top level a b → j < below → table_at top m root j b ≡ None)
    → IsReached top m root → IsReached top (finite.remove (after_write here 0) f) root
reached_unlink {top} {m} {root} {level} {a} {n} {below} {f} here one down empty is = record {
  path = λ q now.
      let cut = after_write here 0 in
      let other = not_given cut f q now in
      let old = is.path q (used_before m n (index_at level a) 0 q (used_at here) (kept_before cut f q now)) in
      let off : SamePath top level a old.1 → old.0 < level → ⊥ = λ same past. ⊎_elim
      (λ (at : old.0 ≡ below).
      other (same_Some q f (sym old.2 ∙ ap (λ j. table_at top m root j old.1) at
      ∙ sym (same_table top root m below a old.1 (λ i from to. same i (omega arith) to)) ∙ down)))
      (λ (apart : old.0 ≢ below). none_some (sym (empty old.1 old.0 same (omega (arith, past, apart))) ∙ old.2))
      (cases_eq old.0 below) in (
        old.0,
        old.1,
        unreached_table top root cut (finite.remove cut f) (cut_alike here one down) old.0 old.1 ∙ stands_off here 0 old.0 old.1 q off old.2,
        written_alike old.0 cut (finite.remove cut f) q (get-remove_other cut f q other)
            (written_on here 0 (written_zero level) old.0 old.1 q old.2 old.3),
      );
} where
  none_some : {q : ℕ} → None ≡ Some q → ⊥
  none_some e = cc
