use Rattle.nr_serve.proofs.threading.chain_run.ChainRun.segment.Given as goal

-- the log and the place of the last cut are those of the run
abbrev pub ghosts-serve_on : goal.ghosts-serve_on
ghosts-serve_on g a = record { log = a.between.opened.log; tables = a.between.config.tables; base = a.between.opened.base }
