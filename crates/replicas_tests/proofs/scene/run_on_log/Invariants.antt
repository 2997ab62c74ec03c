use Rattle.replicas_tests.proofs.scene.run_on_log.Given as goal

-- the replicas are of this log
abbrev pub ghosts-run_named : goal.ghosts-run_named
ghosts-run_named g a = record { log = a.new.log; tables = a.new.layout.tables; base = a.new.base }
