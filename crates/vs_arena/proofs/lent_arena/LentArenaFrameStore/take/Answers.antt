use Rattle.std.proofs.Common.{◌≡◌, ◌+◌, ◌-◌, ◌<◌, ◌≤◌, true, [], ◌∷◌, ◌++◌, set, get_or, ◌^◌, length, take, sym, ap, subst, ◌∙◌, arith}
use Rattle.std.specs.FinMap as finite
use Rattle.vs_arena.specs.Store.{IsFree, zeros}
use Rattle.vs_arena.specs.Lent.{LentFrames}
use Rattle.vs_arena.specs.Marked.{marked_frames, marked_notes}
use Rattle.vs_arena.specs.LentMarks.{uses_of_first, notes_of_first}
use Rattle.vs_arena.proofs.Marked.{marked-mark, marked-push}
use Rattle.vs_arena.proofs.MarkedFrames.{IsFree-from_mark, last_given, marked_frames-again, marked_frames-push}
use Rattle.vs_types.specs.declared.limits.TheConstants.{TABLES}
use Rattle.vs_arena.proofs.LentArenas.{blank, length-uses, taken_marks, used_count, marked_again, uses-again, notes-again, rest, popped, last_taken}
use Rattle.vs_arena.proofs.LentArenas.{IsLentArena-again, is_past, uses-first, notes-first, words-first, IsLentArena-first}
use Rattle.vs_arena.proofs.lent_arena.LentArenaFrameStore.take.Goals as goal

-- ---- a frame that was freed

pub bounds-self-inside-index : goal.bounds-self-inside-index
bounds-self-inside-index c =
    let more : c.self.inside.given ≡ c.self.inside.given - 1 + 1 = omega (arith, c.if-self-gt0.true) in
    omega (arith, last_taken c.self.invariant (c.self.inside.given - 1) more, taken_marks c.self.invariant)

pub bounds-self-inside-index-then-self-gt0 : goal.bounds-self-inside-index-then-self-gt0
bounds-self-inside-index-then-self-gt0 c =
    let more : c.self.inside.given ≡ c.self.inside.given - 1 + 1 = omega (arith, c.if-self-gt0.true) in
    omega (arith, last_taken c.self.invariant (c.self.inside.given - 1) more, taken_marks c.self.invariant)

pub at_index-requires : goal.at_index-requires
at_index-requires c =
    let more : c.self.inside.given ≡ c.self.inside.given - 1 + 1 = omega (arith, c.if-self-gt0.true) in
    let few : c.self.inside.taken ≤ TABLES = omega (arith, c.self.invariant.taken_within, c.self.invariant.arena.few_frames) in
    omega (arith, last_taken c.self.invariant (c.self.inside.given - 1) more, few)

pub invariant_of-self : goal.invariant_of-self
invariant_of-self c =
    let more : c.self.inside.given ≡ c.self.inside.given - 1 + 1 = omega (arith, c.if-self-gt0.true) in
    let fits : (get_or c.self.inside.marks.now c.self.inside.last blank).before < 2 ^ 16 = omega arith in
    IsLentArena-again c.self.invariant (c.self.inside.given - 1) more fits

pub returns-then-self-gt0-clause-was_free : goal.returns-then-self-gt0-clause-was_free
returns-then-self-gt0-clause-was_free c =
    let more : c.self.inside.given ≡ c.self.inside.given - 1 + 1 = omega (arith, c.if-self-gt0.true) in
    let fewer = c.self.inside.given - 1 in
    let index = c.self.inside.last in
    let was = last_given c.self.invariant.arena (rest c.self.invariant fewer more) index (popped c.self.invariant fewer more) in
    rw c.at_index.ensures (subst (λ (a : LentFrames). IsFree a.frames index) c.self.view_is
    (IsFree-from_mark (uses_of_first c.self.inside.taken c.self.inside.marks.now) (take c.self.inside.taken c.self.inside.words.now) index was.unmarked))

pub returns-then-self-gt0-clause-within : goal.returns-then-self-gt0-clause-within
returns-then-self-gt0-clause-within c =
    let more : c.self.inside.given ≡ c.self.inside.given - 1 + 1 = omega (arith, c.if-self-gt0.true) in
    let fewer = c.self.inside.given - 1 in
    let index = c.self.inside.last in
    let was = last_given c.self.invariant.arena (rest c.self.invariant fewer more) index (popped c.self.invariant fewer more) in
    let lent : index < length c.self.inside.words.now = omega (arith, was.within, length-uses c.self.invariant, c.self.invariant.taken_within) in
    omega (arith, c.at_index.ensures, lent, ap (λ (a : LentFrames). a.size) c.self.view_is)

pub returns-then-self-gt0-clause-cleared : goal.returns-then-self-gt0-clause-cleared
returns-then-self-gt0-clause-cleared c =
    let more : c.self.inside.given ≡ c.self.inside.given - 1 + 1 = omega (arith, c.if-self-gt0.true) in
    let fewer = c.self.inside.given - 1 in
    let index = c.self.inside.last in
    let words = take c.self.inside.taken c.self.inside.words.now in
    ap (λ u. marked_frames u words) (uses-again c.self.invariant index)
    ∙ marked_frames-again c.self.invariant.arena (rest c.self.invariant fewer more) index (popped c.self.invariant fewer more)
    ∙ ap (λ i. finite.insert (marked_frames (uses_of_first c.self.inside.taken c.self.inside.marks.now) words) i zeros) (sym c.at_index.ensures)
    ∙ ap (λ (a : LentFrames). finite.insert a.frames c.at_index.result zeros) c.self.view_is

pub returns-then-self-gt0-clause-noted : goal.returns-then-self-gt0-clause-noted
returns-then-self-gt0-clause-noted c =
    let more : c.self.inside.given ≡ c.self.inside.given - 1 + 1 = omega (arith, c.if-self-gt0.true) in
    let fewer = c.self.inside.given - 1 in
    let index = c.self.inside.last in
    let was = last_given c.self.invariant.arena (rest c.self.invariant fewer more) index (popped c.self.invariant fewer more) in
    let marks = uses_of_first c.self.inside.taken c.self.inside.marks.now in
    let kept = notes_of_first c.self.inside.taken c.self.inside.marks.now in
    ap (λ u. marked_notes u (notes_of_first c.self.inside.taken (marked_again c.self.invariant index))) (uses-again c.self.invariant index)
    ∙ ap (λ n. marked_notes (set marks index true) n) (notes-again c.self.invariant index)
    ∙ marked-mark 0 marks kept index 0 was.within (omega (arith, was.within, c.self.invariant.arena.notes_for_each))
    ∙ ap (λ i. finite.insert (marked_notes marks kept) i 0) (sym c.at_index.ensures)
    ∙ ap (λ (a : LentFrames). finite.insert a.notes c.at_index.result 0) c.self.view_is

-- ---- a frame that was never taken

pub invariant_of-self-2 : goal.invariant_of-self-2
invariant_of-self-2 c =
    let room : c.self.inside.taken < length c.self.inside.words.now = omega (arith, c.if-index-self.false, c.self.invariant.taken_within) in
    rw c.cleared_words.ensures (IsLentArena-first c.self.invariant room)

pub returns-clause-was_free : goal.returns-clause-was_free
returns-clause-was_free c =
    rw c.at_index-2.ensures (subst (λ (a : LentFrames). IsFree a.frames c.self.inside.taken) c.self.view_is
    (IsFree-from_mark (uses_of_first c.self.inside.taken c.self.inside.marks.now) (take c.self.inside.taken c.self.inside.words.now) c.self.inside.taken
    (is_past c.self.invariant c.self.inside.taken (omega arith))))

pub returns-clause-cleared : goal.returns-clause-cleared
returns-clause-cleared c =
    let room : c.self.inside.taken < length c.self.inside.words.now = omega (arith, c.if-index-self.false, c.self.invariant.taken_within) in
    let marks = uses_of_first c.self.inside.taken c.self.inside.marks.now in
    let words = take c.self.inside.taken c.self.inside.words.now in
    let again = uses_of_first (c.self.inside.taken + 1) (marked_again c.self.invariant c.self.inside.taken) in
    ap (λ own. marked_frames again (take (c.self.inside.taken + 1) (set c.self.inside.words.now c.self.inside.taken own))) c.cleared_words.ensures
    ∙ ap (λ ws. marked_frames again ws) (words-first c.self.invariant room)
    ∙ ap (λ u. marked_frames u (words ++ zeros ∷ [])) (uses-first c.self.invariant room)
    ∙ marked_frames-push marks words zeros c.self.invariant.arena.words_for_each
    ∙ ap (λ i. finite.insert (marked_frames marks words) i zeros) (length-uses c.self.invariant ∙ sym c.at_index-2.ensures)
    ∙ ap (λ (a : LentFrames). finite.insert a.frames c.at_index-2.result zeros) c.self.view_is

pub returns-clause-noted : goal.returns-clause-noted
returns-clause-noted c =
    let room : c.self.inside.taken < length c.self.inside.words.now = omega (arith, c.if-index-self.false, c.self.invariant.taken_within) in
    let marks = uses_of_first c.self.inside.taken c.self.inside.marks.now in
    let kept = notes_of_first c.self.inside.taken c.self.inside.marks.now in
    let again = uses_of_first (c.self.inside.taken + 1) (marked_again c.self.invariant c.self.inside.taken) in
    ap (λ n. marked_notes again n) (notes-first c.self.invariant room)
    ∙ ap (λ u. marked_notes u (kept ++ 0 ∷ [])) (uses-first c.self.invariant room)
    ∙ marked-push 0 marks kept 0 c.self.invariant.arena.notes_for_each
    ∙ ap (λ i. finite.insert (marked_notes marks kept) i 0) (length-uses c.self.invariant ∙ sym c.at_index-2.ensures)
    ∙ ap (λ (a : LentFrames). finite.insert a.notes c.at_index-2.result 0) c.self.view_is

-- ---- no frame is left

pub returns-then-index-self-clause-all_in_use : goal.returns-then-index-self-clause-all_in_use
returns-then-index-self-clause-all_in_use c = subst (λ (a : LentFrames). finite.len a.frames ≡ a.size) c.self.view_is
    (omega (arith, used_count c.self.invariant, c.if-self-gt0.false, c.if-index-self.true))
