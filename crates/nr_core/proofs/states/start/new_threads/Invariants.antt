use Rattle.std.proofs.Common.{◌≡◌, ◌++◌, map}
use Rattle.nr_core.specs.inside.Parts.{thread_of}
use Rattle.nr_core.proofs.states.start.new_threads.Given as goal

abbrev pub invariant-loop-script : goal.invariant-loop-script
invariant-loop-script l = l.threads.items ++ map thread_of l.script-iterator.rest.items ≡ map thread_of l.fn.scripts.items
