use Rattle.std.proofs.Common.{◌∷◌, ◌++◌, [], List, All, ap, sym, subst, ◌∙◌}
use Rattle.std.proofs.lemmas.List.Elements.{All-append}
use Rattle.vs_types.specs.Operation.{IsAction}
use Rattle.nr_slots.specs.Updates.{Waiting}
use Rattle.nr_node.proofs.Lists.{all_one}
use Rattle.replicas_tests.proofs.node.bench.pair.Goals as goal

pub returns-clause-fit : goal.returns-clause-fit
returns-clause-fit c =
    let P : Waiting → Type 0 = λ waiting. IsAction c.args.depth waiting.op in
    let one = c.push.ensures.items ∙ ap (λ (l : List Waiting). l ++ c.args.first ∷ []) c.new-batch.ensures in
    let both = c.push-2.ensures.items ∙ ap (λ (l : List Waiting). l ++ c.args.second ∷ []) one in
    subst (All P) (sym both)
    (All-append P (c.args.first ∷ []) (c.args.second ∷ []) (all_one P c.args.first c.requires.first) (all_one P c.args.second c.requires.second))
