use Rattle.std.proofs.Common.{◌≡◌, ◌++◌, map}
use Rattle.nr_serve.specs.inside.Ending.{answers_of, passes_of, pens_of}
use Rattle.nr_serve.proofs.endings.ending.parts_of.Given as goal

abbrev pub invariant-loop-worker : goal.invariant-loop-worker
invariant-loop-worker g l = record {
  pens : l.pens.items ++ pens_of l.worker-iterator.rest.items ≡ pens_of l.fn.workers.items;
  passes : l.passes.items ++ passes_of l.worker-iterator.rest.items ≡ passes_of l.fn.workers.items;
  answers : map (λ said. said.items) l.answers.items ++ answers_of l.worker-iterator.rest.items ≡ answers_of l.fn.workers.items;
}
