use Rattle.std.proofs.Common.{refl, sym, subst, arith}
use Rattle.vs_types.specs.Entry.{all_rights}
use Rattle.vs_types.proofs.Pages.{three_levels}
use Rattle.vs_plan.specs.Request.{address_of}
use Rattle.vs_plan.specs.Way.{IsWay, Begins}
use Rattle.vs_plan.proofs.Requests.{request_good, low_request}
use Rattle.vs_plan.proofs.plans.planner.Planner.new.Goals as goal

pub returns-clause-made : goal.returns-clause-made
returns-clause-made c = (request_good c.args.target c.args.request c.in_ok-test.ensures, refl, refl)

pub returns-clause-awaits : goal.returns-clause-awaits
returns-clause-awaits c = record {
  request = request_good c.args.target c.args.request c.in_ok-test.ensures;
  phase = tt;
  some = omega (arith, c.levels.ensures, three_levels c.args.target.depth);
  few = omega (arith, c.levels.ensures);
  lowest = λ is. omega (arith, c.levels.ensures, three_levels c.args.target.depth, low_request c.args.request);
  within = (request_good c.args.target c.args.request c.in_ok-test.ensures).root;
  stop = c.highest_link.ensures.most;
}

pub returns-clause-shown : goal.returns-clause-shown
returns-clause-shown c = λ memory. record {
  way = subst (λ l. IsWay c.args.target.depth memory c.args.target.root (address_of c.args.request) l c.args.target.root all_rights)
      (sym c.levels.ensures) Begins;
  met = record {
    tables = λ level from to. absurd (omega (arith, c.levels.ensures, from, to));
    alone = λ level from low. absurd (omega (arith, c.levels.ensures, from, low, c.highest_link.ensures.most));
    stop = omega (arith, c.highest_link.ensures.is);
    busy = λ base is low. absurd (omega (arith, c.highest_link.ensures.is, low));
  };
}
