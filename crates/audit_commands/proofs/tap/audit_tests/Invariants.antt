use Rattle.std.proofs.Common.{ℕ, List, Bor, map, take}
use Rattle.audit_commands.specs.Tasks.{WritesTests}
use Rattle.audit_commands.proofs.tap.audit_tests.Given as goal

-- the tests so far
abbrev pub invariant-loop-index : goal.invariant-loop-index
invariant-loop-index g l =
    WritesTests (g.F.FilesByName.file_bytes l.files) (map (λ (name : Bor (List ℕ)). name.now) (take l.index l.names)) (g.W.Write.contents l.initial.output)
    (g.W.Write.contents l.output) l.worst
