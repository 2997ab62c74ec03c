-- Works that can be done.
use Rattle.std.proofs.Common.{◌≡◌, ℕ, List, Option, Some, refl, arith}
use Rattle.std.specs.FinMap as finite
use Rattle.vs_types.specs.Space.{Space, no_pages}
use Rattle.vs_types.specs.declared.requests.answer.Answer.{Answer}
use Rattle.vs_arena.specs.Store.{zeros}
use Rattle.vs_walk.specs.Memory.{AreWhole, Memory}
use Rattle.vs_plan.specs.declared.plans.plan.Plan.{Plan}
use Rattle.vs_plan.specs.declared.plans.request.Request.{Request}
use Rattle.vs_plan.specs.declared.plans.target.Target.{Target}
use Rattle.vs_plan.specs.Processor.{Moment}
use Rattle.nr_machine.specs.States.{Kind}
use Rattle.nr_nodes_space.specs.Examples.{at_plan, example, one_table}
use Rattle.nr_nodes_space.specs.Tables.{AreReached, IsCarriedOut, IsPlanFor, Works, after_works}

plays : (target : Target) (kind : Kind Space Answer) (memory now : Memory) (request : Request) (offered : List (Option ℕ)) (plan : Plan)
    (lived : List Moment) → IsPlanFor (λ n. target) kind (at_plan kind memory) 0 request offered plan
    → IsCarriedOut (at_plan kind memory) 0 plan now lived
    → Works 1 (λ n. target) kind (one_table kind memory) (example request offered plan now lived)
plays target kind memory now request offered plan lived is out = (
  (tt, (omega arith, (refl, omega arith, omega arith))),
  (
    (tt, (omega arith, refl)),
    (
      (tt, (omega arith, ((refl, refl, (refl, omega arith), omega arith, refl), refl))),
      (
        (tt, (omega arith, ((refl, refl, (refl, omega arith), omega arith, refl), refl))),
        (
          (
            tt,
            (
              omega arith,
              record {
                wants = refl;
                some = omega arith;
                room = (refl, omega arith);
                firsts = refl;
                seconds = refl;
                applied = refl;
                expects = refl;
                becomes = refl;
              },
            ),
          ),
          (
            (tt, (omega arith, (omega arith, refl, refl))),
            (
              (tt, (omega arith, ((omega arith, refl, refl), refl))),
              (
                (tt, (omega arith, (refl, refl, refl, refl))),
                (
                  ((omega arith, record { taken = refl; next = refl; some = omega arith }), is, out),
                  (
                    (tt, (omega arith, (refl, refl))),
                    (
                      (tt, (omega arith, tt)),
                      (
                        (tt, (omega arith, omega arith)),
                        (
                          (tt, (omega arith, (omega arith, omega arith))),
                          tt,
                        ),
                      ),
                    ),
                  ),
                ),
              ),
            ),
          ),
        ),
      ),
    ),
  ),
)

pub works_done : (target : Target) (kind : Kind Space Answer) (memory now : Memory) (request : Request) (offered : List (Option ℕ)) (plan : Plan)
    (lived : List Moment) → kind.initial ≡ no_pages → AreWhole memory → finite.get memory target.root ≡ Some zeros
    → IsPlanFor (λ n. target) kind (at_plan kind memory) 0 request offered plan → IsCarriedOut (at_plan kind memory) 0 plan now lived
    → AreReached 1 (λ n. target) kind (after_works kind (one_table kind memory) (example request offered plan now lived))
works_done target kind memory now request offered plan lived initial whole clear is out = record {
  few = omega arith;
  initial = initial;
  memory = λ n. memory;
  works = example request offered plan now lived;
  fresh = record { whole = λ n lt. whole; clear = λ n lt. clear };
  may = plays target kind memory now request offered plan lived is out;
  reached = refl;
}
