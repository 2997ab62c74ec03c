-- Each list of steps reaches a state of which the facts hold.
use Rattle.std.proofs.Common.{ℕ, Some, None, sym, subst}
use Rattle.nr_core.specs.State.{State, start}
use Rattle.nr_core.specs.Run.{IsReachable}
use Rattle.nr_core.specs.inside.Reached.{IsReached}
use Rattle.nr_core.proofs.reached.Each.{AfterEach, after_all}
use Rattle.nr_core.proofs.reached.Start.{start_is_reached}
use Rattle.nr_core.proofs.reached.Call.{called}
use Rattle.nr_core.proofs.reached.Post.{posted}
use Rattle.nr_core.proofs.reached.Locking.{locks_keep}
use Rattle.nr_core.proofs.reached.Collect.{collected}
use Rattle.nr_core.proofs.reached.Append.{appended}
use Rattle.nr_core.proofs.reached.Advance.{advanced}
use Rattle.nr_core.proofs.reached.Apply.{applied}
use Rattle.nr_core.proofs.reached.Answer.{answered}
use Rattle.nr_core.proofs.reached.Look.{looked}
use Rattle.nr_core.proofs.reached.Read.{has_read}
use Rattle.nr_core.proofs.reached.Reply.{has_replied}

each_keeps : (state : State) (t : ℕ) → IsReached state → AfterEach IsReached state t
each_keeps state t reached = record {
  call = λ thread request left at is. called state t thread request left reached at is;
  post = λ thread call action at is. posted state t thread call action reached at is;
  take = λ r thread replica at there free unheld. locks_keep state t r thread replica (Some r) (Some t) reached at there;
  collect = λ s r call replica other action there here is at_home. collected state s r call replica other action reached there here is at_home;
  append = λ r replica there unplaced. appended state r replica reached there unplaced;
  advance = λ r replica there. advanced state r replica reached there;
  apply = λ r replica entry there stands less. applied state r replica entry reached there stands less;
  answer = λ s r call replica other u a there here i of_s noted is. answered state s r call replica other u a reached there here i of_s noted is;
  release = λ r thread replica at holds there. locks_keep state t r thread replica None None reached at there;
  look = λ thread call request at is reads. looked state t thread call request reached at is reads;
  read = λ thread replica call request completed at there is less. has_read state t thread replica call request completed reached at there is less;
  reply = λ thread a at is. has_replied state t thread a reached at is;
}

pub reached_by_steps : (state : State) → IsReachable state → IsReached state
reached_by_steps state (layout, scripts, steps, is) =
    subst IsReached (sym is) (after_all IsReached each_keeps (start layout scripts) steps (start_is_reached layout scripts))
