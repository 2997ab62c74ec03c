use Rattle.std.proofs.Common.{◌≡◌, ◌≤◌, ◌<◌, ℕ, List, All, length, take, ap, sym, subst, arith}
use Rattle.std.specs.Prelude.{slice_index}
use Rattle.std.proofs.lemmas.List.Elements.{All-push}
use Rattle.nr_node.specs.Node.{NodeState, replica_of}
use Rattle.nr_node.proofs.Lists.{take_to_one_more}
use Rattle.nr_replicas.proofs.settling.place_among.Goals as goal

pub loop-place-preserved : goal.loop-place-preserved
loop-place-preserved g c =
    let nodes = c.args.nodes.now in
    let place = c.loop-place.place in
    let node = c.index-nodes-place.result in
    let P : NodeState → Type 0 = λ n. replica_of n.known.view ≤ c.args.number in
    let within : place < length nodes = omega (arith, c.loop-place-test.true) in
    let number : replica_of node.known.view ≡ c.number.result = ap (λ (l : List ℕ). slice_index l 0) c.number.ensures in
    subst (All P) (sym (take_to_one_more nodes place node within c.index-nodes-place.is))
    (All-push P (take place nodes) node c.loop-place.invariant (omega (arith, number, c.if-number.false)))
