use Rattle.std.proofs.Common.{◌≡◌, ◌<◌, ◌≤◌, None, sym, ap, subst, ◌∙◌}
use Rattle.vs_types.specs.Depth.{levels}
use Rattle.vs_plan.specs.declared.plans.request.Request.{Request}
use Rattle.vs_plan.specs.declared.plans.target.Target.{Target}
use Rattle.vs_plan.specs.Request.{request_fault}
use Rattle.vs_plan.specs.Target.{highest_link}
use Rattle.vs_plan.proofs.Requests.{request_good}
use Rattle.nrvs_plan_c.specs.declared.records.kept.Call.{Call}
use Rattle.nrvs_plan_c.specs.Kept.{depth_in, request_in, target_in}
use Rattle.nrvs_plan_c.proofs.CallKinds.{most_shown}
use Rattle.nrvs_plan_c.proofs.begin.begin.Goals as goal

pub start-requires-clause-good : goal.start-requires-clause-good
start-requires-clause-good c = request_good (target_in c.args.call) (request_in c.args.call)
    (subst (λ (t : Target). request_fault t (request_in c.args.call) ≡ None) c.target.ensures
    (subst (λ (r : Request). request_fault c.target.result r ≡ None) c.request.ensures c.in-Ok.ensures))

pub returns-in-Ok-clause-begun : goal.returns-in-Ok-clause-begun
returns-in-Ok-clause-begun c = λ is.
    let start = c.start.ensures in
    let first = c.first_phase.ensures in
    record {
      at_root = start.begun;
      most = most_shown c.start.new.plan (start.level ∙ sym (ap (λ (k : Call). levels (depth_in k.levels)) start.call))
          (λ zero. subst (λ (k : Call). (k.kind ≡ 1) × (1 < highest_link (target_in k))) (sym start.call) (first.brief (sym start.phase ∙ zero)))
          (λ other unmap. subst (λ (k : Call). highest_link (target_in k) ≤ 1) (sym start.call)
          (first.descent (λ e. other (start.phase ∙ e)) (sym (ap (λ (k : Call). k.kind) start.call) ∙ unmap)));
    }
