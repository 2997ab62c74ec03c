use Rattle.std.proofs.Common.{◌≡◌, ◌<◌, ◌++◌, true, length, get_or, set, [], ◌∷◌, sym, ap, subst, ◌∙◌, arith}
use Rattle.std.proofs.lemmas.List.{length-set, append-nil}
use Rattle.std.specs.Prelude.{Some, None}
use Rattle.std.specs.FinMap as finite
use Rattle.vs_arena.specs.Store.{IsFree, zeros}
use Rattle.vs_arena.specs.Arena.{Arena}
use Rattle.vs_arena.specs.Marked.{marked_frames}
use Rattle.vs_arena.specs.inside.RawArena.{values}
use Rattle.vs_arena.proofs.Marked.{marked-mark, marked-push}
use Rattle.vs_arena.proofs.MarkedFrames.{IsFree-from_mark, IsFree-past, last_given, marked_frames-again, marked_frames-push, IsArena-again}
use Rattle.vs_arena.proofs.RawArenas.{IsRawArena-kept, IsRawArena-first, next_empty, values-push}
use Rattle.vs_arena.proofs.raw_arena.RawArenaFrameStore.take.Goals as goal

-- ---- a frame that was freed

pub invariant_of-self : goal.invariant_of-self
invariant_of-self c = (
  IsRawArena-kept c.self.invariant.0 (IsArena-again c.self.invariant.0.arena c.pop.new.self.items c.in-Some.index c.in-Some.ensures.items 0),
  record {
    marks = c.self.invariant.1.marks;
    notes = c.self.invariant.1.notes;
    free = rw c.in-Some.ensures.capacity c.self.invariant.1.free;
  },
  c.self.invariant.2,
  c.self.invariant.3,
  c.self.invariant.4,
  c.self.invariant.5,
)

pub returns-in-Some-clause-was_free : goal.returns-in-Some-clause-was_free
returns-in-Some-clause-was_free c =
    rw c.at_index.ensures (subst (λ (a : Arena). IsFree a.frames c.in-Some.index) c.self.view_is
    (IsFree-from_mark c.self.inside.marks.items (values c.self.inside.region.places) c.in-Some.index
    (last_given c.self.invariant.0.arena c.pop.new.self.items c.in-Some.index c.in-Some.ensures.items).unmarked))

pub returns-in-Some-clause-cleared : goal.returns-in-Some-clause-cleared
returns-in-Some-clause-cleared c =
    rw c.at_index.ensures (marked_frames-again c.self.invariant.0.arena c.pop.new.self.items c.in-Some.index c.in-Some.ensures.items)
    ∙ ap (λ (a : Arena). finite.insert a.frames c.at_index.result zeros) c.self.view_is

pub returns-in-Some-clause-noted : goal.returns-in-Some-clause-noted
returns-in-Some-clause-noted c =
    let within = (last_given c.self.invariant.0.arena c.pop.new.self.items c.in-Some.index c.in-Some.ensures.items).within in
    rw c.at_index.ensures (marked-mark 0 c.self.inside.marks.items c.self.inside.notes.items c.in-Some.index 0 within
    (omega (arith, within, c.self.invariant.0.arena.notes_for_each)))
    ∙ ap (λ (a : Arena). finite.insert a.notes c.at_index.result 0) c.self.view_is

-- ---- a frame that was never taken

pub write-requires : goal.write-requires
write-requires c =
    let at : c.len-index.result ≡ length c.self.inside.marks.items = omega (arith, c.len-index.ensures, c.self.inside.marks.ok.0) in
    let room : length c.self.inside.marks.items < c.self.inside.size = omega (arith, at, c.if-index-self.false, c.self.invariant.0.arena.ever_taken) in
    let raw = c.self.invariant.0 in let places = c.self.inside.region.places in
    let next : length (values places) < c.self.inside.size = omega (arith, room, raw.arena.words_for_each) in (
      omega (arith, at, room, c.self.invariant.2),
      ap (λ i. get_or places i None) (at ∙ sym raw.arena.words_for_each) ∙ next_empty c.self.inside.size places raw.laid next,
    )

pub invariant_of-self-2 : goal.invariant_of-self-2
invariant_of-self-2 c =
    let at : c.len-index.result ≡ length c.self.inside.marks.items = omega (arith, c.len-index.ensures, c.self.inside.marks.ok.0) in
    let room : length c.self.inside.marks.items < c.self.inside.size = omega (arith, at, c.if-index-self.false, c.self.invariant.0.arena.ever_taken) in
    let same : c.pop.new.self.items ≡ c.self.inside.free.items = sym (c.in_default.ensures.items ∙ append-nil c.pop.new.self.items) in (
      rw (c.write.ensures.1, c.push_reserved.ensures.items, c.push_reserved-2.ensures.items, same, c.cleared_words.ensures)
          (IsRawArena-first c.self.invariant.0 c.len-index.result 0 at room),
      record {
        marks = rw c.push_reserved.ensures.capacity c.self.invariant.1.marks;
        notes = rw c.push_reserved-2.ensures.capacity c.self.invariant.1.notes;
        free = rw c.in_default.ensures.capacity c.self.invariant.1.free;
      },
      ap length c.write.ensures.1 ∙ length-set c.self.inside.region.places c.len-index.result _ ∙ c.self.invariant.2,
      c.self.invariant.3 ∙ sym c.write.ensures.0,
      c.self.invariant.4,
      c.self.invariant.5,
    )

pub returns-clause-cleared : goal.returns-clause-cleared
returns-clause-cleared c =
    let at : c.len-index.result ≡ length c.self.inside.marks.items = omega (arith, c.len-index.ensures, c.self.inside.marks.ok.0) in
    let room : length c.self.inside.marks.items < c.self.inside.size = omega (arith, at, c.if-index-self.false, c.self.invariant.0.arena.ever_taken) in
    let raw = c.self.invariant.0 in let places = c.self.inside.region.places in
    let next : length (values places) < c.self.inside.size = omega (arith, room, raw.arena.words_for_each) in
    let pushed = ap (λ i. values (set places i (Some zeros))) (at ∙ sym raw.arena.words_for_each) ∙ values-push c.self.inside.size places raw.laid next zeros in
    rw (c.write.ensures.1, c.push_reserved.ensures.items, c.cleared_words.ensures)
    (ap (λ ws. marked_frames (c.self.inside.marks.items ++ true ∷ []) ws) pushed)
    ∙ marked_frames-push c.self.inside.marks.items (values places) zeros raw.arena.words_for_each
    ∙ ap (λ i. finite.insert (marked_frames c.self.inside.marks.items (values places)) i zeros) (sym at ∙ sym c.at_index-2.ensures)
    ∙ ap (λ (a : Arena). finite.insert a.frames c.at_index-2.result zeros) c.self.view_is

pub returns-clause-was_free : goal.returns-clause-was_free
returns-clause-was_free c =
    let at : c.len-index.result ≡ length c.self.inside.marks.items = omega (arith, c.len-index.ensures, c.self.inside.marks.ok.0) in
    let room : length c.self.inside.marks.items < c.self.inside.size = omega (arith, at, c.if-index-self.false, c.self.invariant.0.arena.ever_taken) in
    rw (c.at_index-2.ensures, at) (subst (λ (a : Arena). IsFree a.frames (length c.self.inside.marks.items)) c.self.view_is
    (IsFree-past c.self.inside.marks.items (values c.self.inside.region.places)))

pub returns-clause-noted : goal.returns-clause-noted
returns-clause-noted c =
    let at : c.len-index.result ≡ length c.self.inside.marks.items = omega (arith, c.len-index.ensures, c.self.inside.marks.ok.0) in
    let room : length c.self.inside.marks.items < c.self.inside.size = omega (arith, at, c.if-index-self.false, c.self.invariant.0.arena.ever_taken) in
    rw (c.push_reserved.ensures.items, c.push_reserved-2.ensures.items, c.at_index-2.ensures, at)
    (marked-push 0 c.self.inside.marks.items c.self.inside.notes.items 0 c.self.invariant.0.arena.notes_for_each)
    ∙ ap (λ (a : Arena). finite.insert a.notes c.at_index-2.result 0) c.self.view_is
