use Rattle.std.proofs.Common.{◌+◌}
use Rattle.nr_ring.specs.declared.cells.words.TheConstants.{MOST_PLACES}
use Rattle.nrvs.proofs.runs.served_chain.run_chain_io.Given as goal

-- the log is laid out as the configuration says
abbrev pub ghosts-chain_named : goal.ghosts-chain_named
ghosts-chain_named g a = record { depth = a.config.depth; replicas = a.config.replicas; passes = a.config.replicas + a.config.threads; places = MOST_PLACES }
