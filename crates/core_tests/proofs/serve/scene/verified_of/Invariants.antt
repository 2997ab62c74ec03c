use Rattle.std.proofs.Common.{◌+◌}
use Rattle.core_tests.proofs.serve.scene.verified_of.Given as goal

-- the log is laid out as the configuration says
abbrev pub ghosts-run_on_log : goal.ghosts-run_on_log
ghosts-run_on_log g a = record { depth = a.config.depth; replicas = a.config.replicas; passes = a.config.replicas + a.config.threads; places = 65536 }
