use Rattle.std.proofs.Common.{◌≡◌, [], map}
use Rattle.std.specs.List.{range_with_len}
use Rattle.nr_script.specs.Script.{requests_by}
use Rattle.nr_script.proofs.reading.Reading.new.Given as goal

abbrev pub invariant-loop-thread : goal.invariant-loop-thread
invariant-loop-thread l = map (λ list. list.items) l.lists.items ≡ map (requests_by []) (range_with_len 0 l.thread)
