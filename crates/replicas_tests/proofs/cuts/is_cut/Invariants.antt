use Rattle.replicas_tests.proofs.cuts.is_cut.Given as goal

-- the replicas are of this log, which was never cut
abbrev pub ghosts-cut_after : goal.ghosts-cut_after
ghosts-cut_after g a = record { log = a.before.opened.log; tables = a.before.opened.layout.tables; base = a.before.opened.base }
