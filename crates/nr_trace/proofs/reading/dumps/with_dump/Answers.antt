use Rattle.std.proofs.Common.{List, [], ◌∷◌, ◌++◌, refl, ap, ◌∙◌}
use Rattle.vs_walk.specs.Dump.{Image}
use Rattle.nr_trace.proofs.reading.dumps.with_dump.Goals as goal

pub returns : goal.returns
returns c = (
  c.push.new.self,
  refl,
  c.in_ok-push.ensures.items ∙ ap (λ (ds : List Image). ds ++ c.args.dump ∷ []) c.make_room.ensures.same,
)
