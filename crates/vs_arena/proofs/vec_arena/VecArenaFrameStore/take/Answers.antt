use Rattle.std.proofs.Common.{◌≡◌, ◌<◌, length, sym, ap, subst, ◌∙◌, arith}
use Rattle.std.proofs.lemmas.List.{append-nil}
use Rattle.std.specs.FinMap as finite
use Rattle.vs_arena.specs.Store.{IsFree, zeros}
use Rattle.vs_arena.specs.Arena.{Arena}
use Rattle.vs_arena.proofs.Marked.{marked-mark, marked-push}
use Rattle.vs_arena.proofs.MarkedFrames.{IsFree-from_mark, IsFree-past, last_given, marked_frames-again, marked_frames-push, IsArena-again, IsArena-first}
use Rattle.vs_arena.proofs.vec_arena.VecArenaFrameStore.take.Goals as goal

-- ---- a frame that was freed

pub invariant_of-self : goal.invariant_of-self
invariant_of-self c = (
  IsArena-again c.self.invariant.0 c.pop.new.self.items c.in-Some.index c.in-Some.ensures.items 0,
  record {
    marks = c.self.invariant.1.marks;
    notes = c.self.invariant.1.notes;
    free = rw c.in-Some.ensures.capacity c.self.invariant.1.free;
  },
  c.self.invariant.2,
)

pub returns-in-Some-clause-was_free : goal.returns-in-Some-clause-was_free
returns-in-Some-clause-was_free c =
    rw c.at_index.ensures (subst (λ (a : Arena). IsFree a.frames c.in-Some.index) c.self.view_is
    (IsFree-from_mark c.self.inside.marks.items c.self.inside.words.items c.in-Some.index
    (last_given c.self.invariant.0 c.pop.new.self.items c.in-Some.index c.in-Some.ensures.items).unmarked))

pub returns-in-Some-clause-cleared : goal.returns-in-Some-clause-cleared
returns-in-Some-clause-cleared c =
    rw c.at_index.ensures (marked_frames-again c.self.invariant.0 c.pop.new.self.items c.in-Some.index c.in-Some.ensures.items)
    ∙ ap (λ (a : Arena). finite.insert a.frames c.at_index.result zeros) c.self.view_is

pub returns-in-Some-clause-noted : goal.returns-in-Some-clause-noted
returns-in-Some-clause-noted c =
    let within = (last_given c.self.invariant.0 c.pop.new.self.items c.in-Some.index c.in-Some.ensures.items).within in
    rw c.at_index.ensures (marked-mark 0 c.self.inside.marks.items c.self.inside.notes.items c.in-Some.index 0 within
    (omega (arith, within, c.self.invariant.0.notes_for_each)))
    ∙ ap (λ (a : Arena). finite.insert a.notes c.at_index.result 0) c.self.view_is

-- ---- a frame that was never taken

pub invariant_of-self-2 : goal.invariant_of-self-2
invariant_of-self-2 c =
    let at : c.len-index.result ≡ length c.self.inside.marks.items = omega (arith, c.len-index.ensures, c.self.inside.marks.ok.0) in
    let room : length c.self.inside.marks.items < c.self.inside.size = omega (arith, at, c.if-index-self.false, c.self.invariant.0.ever_taken) in
    let same : c.pop.new.self.items ≡ c.self.inside.free.items = sym (c.in_default.ensures.items ∙ append-nil c.pop.new.self.items) in (
      rw (c.push_reserved.ensures.items, c.push_reserved-2.ensures.items, c.push_reserved-3.ensures.items, same, c.cleared_words.ensures)
          (IsArena-first c.self.invariant.0 0 room),
      record {
        marks = rw c.push_reserved-2.ensures.capacity c.self.invariant.1.marks;
        notes = rw c.push_reserved-3.ensures.capacity c.self.invariant.1.notes;
        free = rw c.in_default.ensures.capacity c.self.invariant.1.free;
      },
      rw c.push_reserved.ensures.capacity c.self.invariant.2,
    )

pub returns-clause-cleared : goal.returns-clause-cleared
returns-clause-cleared c =
    let at : c.len-index.result ≡ length c.self.inside.marks.items = omega (arith, c.len-index.ensures, c.self.inside.marks.ok.0) in
    let room : length c.self.inside.marks.items < c.self.inside.size = omega (arith, at, c.if-index-self.false, c.self.invariant.0.ever_taken) in
    rw (c.push_reserved.ensures.items, c.push_reserved-2.ensures.items, c.cleared_words.ensures, c.at_index-2.ensures, at)
    (marked_frames-push c.self.inside.marks.items c.self.inside.words.items zeros c.self.invariant.0.words_for_each)
    ∙ ap (λ (a : Arena). finite.insert a.frames c.at_index-2.result zeros) c.self.view_is

pub returns-clause-was_free : goal.returns-clause-was_free
returns-clause-was_free c =
    let at : c.len-index.result ≡ length c.self.inside.marks.items = omega (arith, c.len-index.ensures, c.self.inside.marks.ok.0) in
    let room : length c.self.inside.marks.items < c.self.inside.size = omega (arith, at, c.if-index-self.false, c.self.invariant.0.ever_taken) in
    rw (c.at_index-2.ensures, at) (subst (λ (a : Arena). IsFree a.frames (length c.self.inside.marks.items)) c.self.view_is
    (IsFree-past c.self.inside.marks.items c.self.inside.words.items))

pub returns-clause-noted : goal.returns-clause-noted
returns-clause-noted c =
    let at : c.len-index.result ≡ length c.self.inside.marks.items = omega (arith, c.len-index.ensures, c.self.inside.marks.ok.0) in
    let room : length c.self.inside.marks.items < c.self.inside.size = omega (arith, at, c.if-index-self.false, c.self.invariant.0.ever_taken) in
    rw (c.push_reserved-2.ensures.items, c.push_reserved-3.ensures.items, c.at_index-2.ensures, at)
    (marked-push 0 c.self.inside.marks.items c.self.inside.notes.items 0 c.self.invariant.0.notes_for_each)
    ∙ ap (λ (a : Arena). finite.insert a.notes c.at_index-2.result 0) c.self.view_is
