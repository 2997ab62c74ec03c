use Rattle.replicas_tests.proofs.log.scene.run_on_log.Given as goal

-- the parties are of this log
abbrev pub ghosts-run_named : goal.ghosts-run_named
ghosts-run_named g a = record { log = a.log.now }
