use Rattle.std.proofs.Common.{◌+◌}
use Rattle.vs_types.specs.declared.addresses.depth.Depth.TheVariants.{Four}
use Rattle.nrvs_benchmark.proofs.log.command.run.Given as goal

abbrev pub ghosts-look : goal.ghosts-look
ghosts-look g a = record { depth = Four; replicas = a.threads; passes = a.threads + 1; places = 65536 }
