use Rattle.nr_touch.specs.inside.Changes.{AreRepliesBelow}
use Rattle.nr_touch.proofs.changes.replay.replies.Given as goal

abbrev pub invariant-loop-index : goal.invariant-loop-index
invariant-loop-index l = AreRepliesBelow l.trace l.replies.items l.index
