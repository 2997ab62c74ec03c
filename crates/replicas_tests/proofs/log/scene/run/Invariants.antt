use Rattle.std.proofs.Common.{◌+◌}
use Rattle.replicas_tests.proofs.log.scene.run.Given as goal

-- the log is laid out so
abbrev pub ghosts-run_on_log : goal.ghosts-run_on_log
ghosts-run_on_log g a = record { depth = a.layout.depth; replicas = a.layout.replicas; passes = a.layout.replicas + a.layout.others; places = a.layout.places }
