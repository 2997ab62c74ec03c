use Rattle.std.proofs.Common.{◌≡◌, ◌++◌, take, string_bytes}
use Rattle.std.specs.List.{flat_map}
use Rattle.audit_texts.specs.FullExplained.{dump_lines}
use Rattle.audit_texts.proofs.lines.full.push_dumps.Given as goal

-- the dumps so far
abbrev pub invariant-loop-dump : goal.invariant-loop-dump
invariant-loop-dump l = string_bytes l.text ≡ string_bytes l.initial.text ++ flat_map dump_lines (take l.dump-index l.dumps)
