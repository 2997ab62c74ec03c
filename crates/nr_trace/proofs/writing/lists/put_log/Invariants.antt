use Rattle.std.proofs.Common.{◌≡◌, ◌++◌, take}
use Rattle.std.specs.List.{flat_map}
use Rattle.nr_trace.specs.Spelling.{log_word}
use Rattle.nr_trace.proofs.writing.lists.put_log.Given as goal

abbrev pub invariant-loop-call : goal.invariant-loop-call
invariant-loop-call l = l.out.items ≡ l.fn.out.items ++ flat_map log_word (take l.call-index l.log)
