use Rattle.std.proofs.Common.{◌+◌}
use Rattle.replicas_tests.proofs.cuts.go_on.Given as goal

-- the log is laid out as the configuration says
abbrev pub ghosts-cut_often : goal.ghosts-cut_often
ghosts-cut_often g a = record { depth = a.config.depth; replicas = a.config.replicas; passes = a.config.replicas + a.config.threads; places = 200000 }
