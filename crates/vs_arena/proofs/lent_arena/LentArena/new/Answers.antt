use Rattle.vs_arena.specs.Arena.{Arena}
use Rattle.vs_arena.specs.Lent.{LentFrames}
use Rattle.vs_arena.proofs.LentArenas.{IsLentArena-new}
use Rattle.vs_arena.proofs.MarkedFrames.{empty_arena}
use Rattle.vs_arena.proofs.lent_arena.LentArena.new.Goals as goal
use Rattle.std.proofs.Common.{length, [], ◌∷◌, refl, ap}

pub invariant_of-result : goal.invariant_of-result
invariant_of-result c = IsLentArena-new c.args.base c.args.words.now c.args.marks.now c.requires.few c.requires.in_range c.requires.marked

pub returns : goal.returns
returns c =
    ap (λ (a : Arena). let lent : LentFrames = record {
      base = a.base;
      size = a.size;
      frames = a.frames;
      notes = a.notes;
      lenders = c.args.words.ghost_name ∷ c.args.marks.ghost_name ∷ [];
    } in lent) (empty_arena c.args.base (length c.args.words.now) [] [] refl)
