-- The steps of the example may be taken.
use Rattle.std.proofs.Common.{refl}
use Rattle.nr_machine.specs.World.{Plays, opening}
use Rattle.nr_machine.specs.Examples.{example}
use Rattle.nr_machine.proofs.Tests.{plays}

pub example_plays : Plays 2 (opening 2) example
example_plays = (plays 2 (opening 2) example).sound refl
