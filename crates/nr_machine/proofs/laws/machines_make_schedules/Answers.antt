use Rattle.nr_machine.proofs.Moves.{moves_play, moves_reach, moves_work}
use Rattle.nr_machine.proofs.laws.machines_make_schedules.Goals as goal

pub returns-clause-plays : goal.returns-clause-plays
returns-clause-plays c = moves_play

pub returns-clause-world : goal.returns-clause-world
returns-clause-world c = moves_reach

pub returns-clause-workers : goal.returns-clause-workers
returns-clause-workers c = moves_work
