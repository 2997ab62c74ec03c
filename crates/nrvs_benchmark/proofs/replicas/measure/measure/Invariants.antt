use Rattle.nrvs_benchmark.proofs.replicas.measure.measure.Given as goal

abbrev pub ghosts-measure_named : goal.ghosts-measure_named
ghosts-measure_named g a = record { log = a.opened.log; tables = a.config.tables; base = 0 }
