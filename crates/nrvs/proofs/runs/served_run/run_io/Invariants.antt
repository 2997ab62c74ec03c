use Rattle.std.proofs.Common.{◌+◌}
use Rattle.nrvs.proofs.runs.served_run.run_io.Given as goal

-- the log is laid out as the configuration says
abbrev pub ghosts-run_named : goal.ghosts-run_named
ghosts-run_named g a = record { depth = a.config.depth; replicas = a.config.replicas; passes = a.config.replicas + a.config.threads; places = 65536 }
