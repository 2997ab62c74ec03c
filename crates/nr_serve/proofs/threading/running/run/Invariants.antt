use Rattle.nr_serve.proofs.threading.running.run.Given as goal

abbrev pub ghosts-go_on : goal.ghosts-go_on
ghosts-go_on g a = record { log = a.beginning.opened.log; tables = a.config.tables; base = 0 }
