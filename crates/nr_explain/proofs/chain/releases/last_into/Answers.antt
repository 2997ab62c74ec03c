use Rattle.std.proofs.Common.{◌+◌, Option, sym, subst, arith}
use Rattle.std.proofs.lemmas.Bool.{iff_false}
use Rattle.vs_types.specs.declared.requests.answer.Answer.{Answer}
use Rattle.nr_explain.proofs.LeadingMoments.{all_looks_tried, look_here, look_stays, FindsLookBelow}
use Rattle.nr_explain.proofs.chain.releases.last_into.Goals as goal
use Rattle.nr_explain.proofs.chain.releases.last_into.Goals.{then-leads_into, else-leads_into}

pub loop-look-init : goal.loop-look-init
loop-look-init c = λ k look low at leads. omega (arith, low)

pub loop-look-preserved : goal.loop-look-preserved
loop-look-preserved c =
    let given = c.args.given in
    let looks = c.args.looks.now in
    let index = c.loop-look.look-index in
    elim c.if-leads_into.branch [
      | then-leads_into w ↦ subst (λ (o : Option Answer). FindsLookBelow given looks (index + 1) o) (sym w.found-is)
          (look_here given looks index _ c.loop-look-test.true (c.leads_into.ensures.0 w.if-leads_into.true))
      | else-leads_into w ↦ subst (λ (o : Option Answer). FindsLookBelow given looks (index + 1) o) (sym w.found-is)
          (look_stays given looks index _ c.loop-look.found c.loop-look-test.true (iff_false c.leads_into.ensures w.if-leads_into.false) c.loop-look.invariant)
    ]

pub returns : goal.returns
returns c =
    all_looks_tried c.args.given c.args.looks.now c.loop-look.look-index c.loop-look.found (omega (arith, c.loop-look-test.false)) c.loop-look.invariant
