use Rattle.std.proofs.Common.{◌≡◌, ◌+◌, ◌++◌, drop, length}
use Rattle.nr_node.specs.Calls.{answered_from}
use Rattle.nr_node.proofs.replica.Replica.answer_from.Given as goal

abbrev pub invariant-loop-waiting : goal.invariant-loop-waiting
invariant-loop-waiting g l = (l.place ≡ l.fn.first + l.waiting-index) × (length l.answers.items ≡ l.waiting-index)
    × (answered_from l.self.depth l.self.tables l.self.entries l.fn.first l.batch.items
    ≡ l.answers.items ++ answered_from l.self.depth l.self.tables l.self.entries l.place (drop l.waiting-index l.batch.items))
