use Rattle.std.proofs.Common.{◌+◌}
use Rattle.replicas_tests.proofs.cuts.cuts.Given as goal

-- the log is laid out as the configuration says
abbrev pub ghosts-is_cut : goal.ghosts-is_cut
ghosts-is_cut g a = record { depth = a.config.depth; replicas = a.config.replicas; passes = a.config.replicas + a.config.threads; places = 200000 }
