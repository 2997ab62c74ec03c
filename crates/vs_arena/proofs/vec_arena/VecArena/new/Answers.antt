use Rattle.vs_arena.proofs.MarkedFrames.{IsArena-new, empty_arena}
use Rattle.vs_arena.proofs.vec_arena.VecArena.new.Goals as goal

pub invariant_of-result : goal.invariant_of-result
invariant_of-result c = (
  rw (c.in_ok-words.ensures.items, c.in_ok-marks.ensures.items, c.in_ok-notes.ensures.items, c.in_ok-free.ensures.items)
      (IsArena-new c.args.base c.args.n c.requires.few c.requires.in_range),
  record {
    marks = c.in_ok-marks.ensures.capacity;
    notes = c.in_ok-notes.ensures.capacity;
    free = c.in_ok-free.ensures.capacity;
  },
  c.in_ok-words.ensures.capacity,
)

pub returns : goal.returns
returns c = empty_arena c.args.base c.args.n c.in_ok-words.words.items c.in_ok-notes.notes.items c.in_ok-marks.ensures.items
