use Rattle.std.proofs.Common.{◌≡◌, ◌+◌, ◌++◌, length, map}
use Rattle.nr_serve.specs.inside.Working.{jobs_from}
use Rattle.nr_serve.proofs.threading.threads.jobs_of.Given as goal

abbrev pub invariant-loop-script : goal.invariant-loop-script
invariant-loop-script g l =
    (l.jobs.items ++ jobs_from (length l.jobs.items) (map (λ script. script.items) l.script-iterator.rest.items) l.pens.rest.items l.passes.rest.items
    ≡ jobs_from 0 (map (λ script. script.items) l.fn.scripts.items) l.fn.pens.items l.fn.passes.items)
    × (length l.pens.rest.items ≡ length l.script-iterator.rest.items)
    × (length l.passes.rest.items ≡ length l.script-iterator.rest.items)
    × (length l.jobs.items + length l.script-iterator.rest.items ≡ length l.fn.scripts.items)
