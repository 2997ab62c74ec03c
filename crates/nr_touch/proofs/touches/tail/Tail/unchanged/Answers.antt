use Rattle.std.proofs.Common.{ℕ, Option, Some, None}
use Rattle.nr_trace.specs.Run.{Run}
use Rattle.nr_touch.specs.Tails.{IsTailOf}
use Rattle.nr_touch.specs.declared.touches.tail.Tail.{Tail}
use Rattle.nr_touch.proofs.touches.tail.Tail.unchanged.Goals as goal

-- what is left doesn't go by how many of its changes were left before
same : (before : Option Run) (tail : Tail) (count : ℕ) → IsTailOf before tail → IsTailOf before (record tail { kept = count })
same None tail count of_it = of_it
same (Some run) tail count of_it = record { orderly = of_it.orderly; left = of_it.left; index = of_it.index }

pub returns-clause-tail : goal.returns-clause-tail
returns-clause-tail c = λ before of_it. same before c.args.self c.len-kept.result of_it
