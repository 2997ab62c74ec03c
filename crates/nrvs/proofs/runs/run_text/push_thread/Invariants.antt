use Rattle.std.proofs.Common.{◌≡◌, ◌++◌, take, string_bytes}
use Rattle.std.specs.List.{flat_map}
use Rattle.nrvs.specs.RunText.{said_line}
use Rattle.nrvs.proofs.runs.run_text.push_thread.Given as goal

-- the calls so far
abbrev pub invariant-loop-call : goal.invariant-loop-call
invariant-loop-call l = string_bytes l.text ≡ string_bytes l.initial.text ++ flat_map (said_line l.thread) (take l.call-index l.said)
