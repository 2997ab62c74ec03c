use Rattle.std.proofs.Common.{◌+◌}
use Rattle.vs_types.specs.declared.addresses.depth.Depth.TheVariants.{Four}
use Rattle.nrvs_benchmark.proofs.replicas.command.run.Given as goal

abbrev pub ghosts-measure : goal.ghosts-measure
ghosts-measure g a = record { depth = Four; replicas = a.config.replicas; passes = a.config.replicas + a.config.threads; places = 65536 }
