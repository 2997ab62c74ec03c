use Rattle.std.proofs.Common.{◌<◌, ◌≤◌, length, ap, subst, refl, inr, arith}
use Rattle.vs_types.specs.declared.limits.TheConstants.{LOG_PLACES}
use Rattle.nr_script.specs.declared.script.TheConstants.{SCRIPT_STEPS}
use Rattle.nr_script.specs.Lines.{Says}
use Rattle.nr_script.specs.Script.{request_in}
use Rattle.nr_script.specs.declared.line.Line.{Line}
use Rattle.nr_script.proofs.Gathered.{past_requests, read_passed_over, read_request, read_step}
use Rattle.nr_script.proofs.reading.Reading.take_line.Goals as goal

pub returns-then-self-ge-SCRIPT_REQUESTS : goal.returns-then-self-ge-SCRIPT_REQUESTS
returns-then-self-ge-SCRIPT_REQUESTS c = λ said kept is.
    let full : LOG_PLACES ≤ c.args.self.now.asked = c.if-self-ge-SCRIPT_REQUESTS.true in (
      refl,
      inr (
        c.in-Some.said,
        c.in-Some.ensures,
        past_requests said c.args.self.now c.in-Request.thread c.in-Request.request c.in-Some.said (ap request_in c.in-Request.is) kept full,
      ),
    )

pub returns-in-PassedOver : goal.returns-in-PassedOver
returns-in-PassedOver c = λ said kept is. (
  _,
  subst (λ (it : Line). Says c.args.depth c.args.line.now it) c.in-PassedOver.is c.in-Some.ensures,
  read_passed_over said c.args.self.now c.args.number kept is,
)

pub returns-in_ok-ask-in-Request : goal.returns-in_ok-ask-in-Request
returns-in_ok-ask-in-Request c = λ said kept is.
    let few : c.args.self.now.asked < LOG_PLACES = c.if-self-ge-SCRIPT_REQUESTS.false in
    let ensures = c.in_ok-ask-in-Request.ensures in
    let says = subst (λ (it : Line). Says c.args.depth c.args.line.now it) c.in-Request.is c.in-Some.ensures in (
      _,
      says,
      read_request said c.args.self.now c.ask.new.self c.in-Request.thread c.in-Request.request c.args.number kept is says.thread_fits
          ensures.threads ensures.asked ensures.lists ensures.steps ensures.first few,
    )

pub returns-in_ok-step-in-Step : goal.returns-in_ok-step-in-Step
returns-in_ok-step-in-Step c = λ said kept is.
    let few : length c.args.self.now.steps.items < SCRIPT_STEPS =
    omega (arith, c.if-len-ge-SCRIPT_STEPS.false, c.len.ensures, c.args.self.now.steps.ok.0) in
    let ensures = c.in_ok-step-in-Step.ensures in (
      _,
      subst (λ (it : Line). Says c.args.depth c.args.line.now it) c.in-Step.is c.in-Some.ensures,
      read_step said c.args.self.now c.step.new.self c.in-Step.step c.args.number kept is
          ensures.threads ensures.asked ensures.lists ensures.steps ensures.first few,
    )
