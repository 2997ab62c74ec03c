use Rattle.std.proofs.Common.{refl}
use Rattle.nr_machine.specs.Calls.{at_start}
use Rattle.nr_machine.specs.LagExamples.{lagging, new_machine}
use Rattle.nr_machine.proofs.MovesTests.{may_move_all}
use Rattle.nr_machine.proofs.laws.calls_can_wait.Goals as goal

pub returns-clause-may : goal.returns-clause-may
returns-clause-may c = (may_move_all 2 (at_start 2 new_machine) lagging (
  refl,
  (
    refl,
    (
      refl,
      (
        refl,
        (
          refl,
          (
            refl,
            (
              refl,
              (
                refl,
                (refl, (refl, (refl, (refl, (refl, (refl, (refl, (refl, (refl, (refl, (refl, (refl, (refl, (refl, tt)))))))))))))),
              ),
            ),
          ),
        ),
      ),
    ),
  ),
)).sound refl
