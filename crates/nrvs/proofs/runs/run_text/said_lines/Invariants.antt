use Rattle.std.proofs.Common.{◌≡◌, map, take, string_bytes}
use Rattle.std.specs.List.{enumerate_from, flat_map}
use Rattle.nrvs.specs.RunText.{thread_lines}
use Rattle.nrvs.proofs.runs.run_text.said_lines.Given as goal

-- the threads so far
abbrev pub invariant-loop-thread : goal.invariant-loop-thread
invariant-loop-thread l = string_bytes l.text ≡ flat_map thread_lines (enumerate_from 0 (map (λ said. said.items) (take l.thread l.threads)))
