use Rattle.replicas_tests.proofs.cuts.cut_once.Given as goal

-- the replicas are of this log, and the last cut ended there
abbrev pub ghosts-make_segment : goal.ghosts-make_segment
ghosts-make_segment g a = record { log = a.before.opened.log; tables = a.before.opened.layout.tables; base = a.before.opened.base }
