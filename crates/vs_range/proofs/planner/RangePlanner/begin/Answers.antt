use Rattle.std.proofs.Common.{◌≡◌, ◌+◌, ◌^◌, ◌≤◌, Bool, false, refl, sym, subst, ◌∙◌, ap, ltb-false}
use Rattle.vs_plan.specs.Request.{address_of}
use Rattle.vs_range.specs.Planner.{IsRanged}
use Rattle.vs_range.proofs.planner.RangePlanner.begin.Goals as goal

pub returns : goal.returns
returns c =
    let made = c.in_ok-planner.ensures.made in
    record {
      asked = made.0;
      of_target = made.1;
      of_request = made.2;
      of_bytes = refl;
      ends = subst (λ b. b + c.args.bytes ≤ 2 ^ 64) (sym c.requires.base)
          (ltb-false (2 ^ 64) (c.args.base + c.args.bytes) (sym c.ends_late.ensures ∙ c.if-ends_late.false));
      together = refl;
      awaits = record {
        words = c.in_ok-planner.ensures.awaits;
        base = ap address_of made.2 ∙ c.requires.base;
        kind = subst IsRanged (sym made.2) c.requires.kind;
      };
      shown = c.in_ok-planner.ensures.shown;
    }
