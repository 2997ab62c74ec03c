use Rattle.std.proofs.Common.{◌+◌}
use Rattle.core_tests.proofs.serve.segments.segments_of.Given as goal

-- the log is laid out as the configuration says
abbrev pub ghosts-segments_on_log : goal.ghosts-segments_on_log
ghosts-segments_on_log g a = record {
  depth = a.config.depth;
  replicas = a.config.replicas;
  passes = a.config.replicas + a.config.threads;
  places = 16106127360;
}
