use Rattle.std.proofs.Common.{length, ap, ◌∙◌}
use Rattle.std.specs.Prelude.{None}
use Rattle.std.proofs.lemmas.List.{length-replicate}
use Rattle.vs_arena.specs.inside.RawArena.{values}
use Rattle.vs_arena.proofs.MarkedFrames.{empty_arena}
use Rattle.vs_arena.proofs.RawArenas.{IsRawArena-new}
use Rattle.vs_arena.proofs.raw_arena.RawArena.new.Goals as goal

pub invariant_of-result : goal.invariant_of-result
invariant_of-result c = (
  rw (c.in_ok-marks.ensures.items, c.in_ok-notes.ensures.items, c.in_ok-free.ensures.items)
      (IsRawArena-new c.args.base c.args.n c.requires.few c.requires.in_range c.in_ok-region.ensures.0),
  record {
    marks = c.in_ok-marks.ensures.capacity;
    notes = c.in_ok-notes.ensures.capacity;
    free = c.in_ok-free.ensures.capacity;
  },
  ap length c.in_ok-region.ensures.0 ∙ length-replicate c.args.n None,
  c.in_ok-region.ensures.1,
  c.in_ok-region.ensures.2,
  c.in_ok-region.ensures.3,
)

pub returns : goal.returns
returns c = empty_arena c.args.base c.args.n (values c.in_ok-region.region.places) c.in_ok-notes.notes.items c.in_ok-marks.ensures.items
