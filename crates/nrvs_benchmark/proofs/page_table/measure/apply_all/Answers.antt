use Rattle.std.proofs.Common.{ℕ, List, [], ◌∷◌, ◌++◌, take, sym, ap, subst, ◌∙◌}
use Rattle.std.proofs.lemmas.List.{take_more}
use Rattle.vs_types.specs.declared.requests.op.Action.{Action}
use Rattle.nrvs_benchmark.specs.Work.{Applies}
use Rattle.nrvs_benchmark.proofs.Sums.{applies_more}
use Rattle.nrvs_benchmark.proofs.page_table.measure.apply_all.Goals as goal

pub loop-op-preserved : goal.loop-op-preserved
loop-op-preserved g c =
    let old = c.args.space.now in
    let ops : List Action = c.args.ops.now in
    let done : List Action = take c.loop-op.op-index ops in
    let more = take_more ops c.loop-op.op-index c.op-item.result c.loop-op-test.true ∙ ap (λ (a : Action). done ++ a ∷ []) (sym c.op-item.is) in
    subst (λ (xs : List Action). Applies old xs c.args.sum.value c.apply.new.self c.add_answer.new.self.value) (sym more)
    (subst (λ (sum : ℕ). Applies old (done ++ c.op-item.result ∷ []) c.args.sum.value c.apply.new.self sum) (sym c.add_answer.ensures)
    (applies_more old c.loop-op.space c.apply.new.self done c.op-item.result c.args.sum.value c.loop-op.sum.value c.apply.result c.loop-op.invariant
    c.apply.ensures))
