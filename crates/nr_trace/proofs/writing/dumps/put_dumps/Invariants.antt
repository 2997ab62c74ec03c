use Rattle.std.proofs.Common.{◌≡◌, ◌++◌, take}
use Rattle.std.specs.List.{flat_map}
use Rattle.nr_trace.specs.Spelling.{dump}
use Rattle.nr_trace.proofs.writing.dumps.put_dumps.Given as goal

abbrev pub invariant-loop-held : goal.invariant-loop-held
invariant-loop-held l = l.out.items ≡ l.fn.out.items ++ flat_map dump (take l.held-index l.dumps)
