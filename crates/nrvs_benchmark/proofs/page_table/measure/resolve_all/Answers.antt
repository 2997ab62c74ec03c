use Rattle.std.proofs.Common.{◌∷◌, [], take, sym, ap, ◌∙◌, get_or}
use Rattle.std.proofs.lemmas.List.{take_more}
use Rattle.nrvs_benchmark.specs.Sum.{answer_number, sum_with}
use Rattle.nrvs_benchmark.specs.Work.{sum_of_looks}
use Rattle.nrvs_benchmark.proofs.Sums.{sum_of_looks-append}
use Rattle.nrvs_benchmark.proofs.page_table.measure.resolve_all.Goals as goal

pub loop-address-preserved : goal.loop-address-preserved
loop-address-preserved g c = λ space is_table.
    let address = get_or c.args.addresses.now c.loop-address.address-index 0 in
    let before = sum_of_looks space c.args.sum.value (take c.loop-address.address-index c.args.addresses.now) in
    c.add_answer.ensures
    ∙ ap (λ s. sum_with s (answer_number c.resolve.result)) (c.loop-address.invariant space is_table)
    ∙ ap (λ a. sum_with before (answer_number a)) (c.resolve.ensures space is_table)
    ∙ sym (ap (λ xs. sum_of_looks space c.args.sum.value xs) (take_more c.args.addresses.now c.loop-address.address-index 0 c.loop-address-test.true)
    ∙ sum_of_looks-append space c.args.sum.value (take c.loop-address.address-index c.args.addresses.now) (address ∷ []))
