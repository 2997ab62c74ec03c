use Rattle.std.proofs.Common.{◌+◌, List, [], ◌∷◌, ◌++◌, ap, sym, ◌∙◌, take, arith}
use Rattle.nr_record.specs.Pen.{PenState, clock_of, new_pens}
use Rattle.nr_record.specs.declared.view.Plan.{Plan}
use Rattle.nr_record.specs.declared.view.View.{View}
use Rattle.nr_record.proofs.Notes.{new_pens_more, sum_drop}
use Rattle.nr_record.proofs.clock.pens.Goals as goal

pub loop-thread-preserved : goal.loop-thread-preserved
loop-thread-preserved c =
    let is = c.loop-thread.invariant in
    let view = c.pen.ensures.first in
    let plan = ap (λ (v : View). v.plan) view in
    let word = c.in_ok-table.table.shared.table_id in
    let quotas = c.args.quotas.now in
    let t = c.loop-thread.thread in
    let clock = clock_of word c.loop-thread.first.me.0.plan in
    record {
      word = c.pen.ensures.clock ∙ is.word;
      config = ap (λ (p : Plan). p.config) plan ∙ is.config;
      calls = ap (λ (p : Plan). p.calls) plan ∙ is.calls;
      key = is.key ∙ sym plan;
      quota = omega (arith, ap (λ (v : View). v.quota) view, is.quota, sum_drop quotas t c.loop-thread-test.true);
      fresh = ap (λ (v : View). v.stamps) view ∙ is.fresh;
      pens =
          c.in_ok-push.ensures.items ∙ ap (λ (ps : List PenState). ps ++ c.in_ok-pen.field-0 ∷ []) is.pens
          ∙ ap (λ (p : PenState). new_pens clock 0 (take t quotas) ++ p ∷ []) (c.in_ok-pen.ensures.pen)
          ∙ sym (new_pens_more clock quotas t c.loop-thread-test.true)
          ∙ ap (λ (p : Plan). new_pens (clock_of word p) 0 (take (t + 1) quotas)) (sym plan);
    }
