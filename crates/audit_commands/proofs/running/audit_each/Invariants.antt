use Rattle.std.proofs.Common.{ℕ, List, Bor, map, take}
use Rattle.audit_commands.specs.Tasks.{AuditsEach}
use Rattle.audit_commands.proofs.running.audit_each.Given as goal

-- the files so far
abbrev pub invariant-loop-name : goal.invariant-loop-name
invariant-loop-name g l =
    AuditsEach l.as_json (g.F.FilesByName.file_bytes l.files) (map (λ (name : Bor (List ℕ)). name.now) (take l.name-index l.names))
    (g.W.Write.contents l.initial.output)
    (g.W.Write.contents l.output) l.worst
