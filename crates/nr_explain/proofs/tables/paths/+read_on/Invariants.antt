use Rattle.nr_explain.proofs.tables.paths.+read_on.Given as goal

abbrev pub decreases-read_on : goal.decreases-read_on
decreases-read_on l = l.level
