use Rattle.std.proofs.Common.{◌≡◌, ◌+◌, ◌<◌, ◌≤◌, List, [], ◌∷◌, ◌++◌, length, map, take, get_or, ap, sym, subst, ◌∙◌, arith}
use Rattle.std.proofs.Math.ListN.{length-append}
use Rattle.std.proofs.lemmas.List.{take_all}
use Rattle.vs_walk.specs.Dump.{Image}
use Rattle.nr_ring.specs.Pass.{Known}
use Rattle.nr_node.specs.Node.{NodeState}
use Rattle.nr_node.proofs.Lists.{map_one_more}
use Rattle.nr_replicas.specs.inside.Replicas.{IsNodeOf}
use Rattle.nr_replicas.specs.inside.Settling.{AreDumpsOf}
use Rattle.nr_replicas.proofs.Settled.{known_of, one_dump_more}
use Rattle.nr_replicas.proofs.cutting.dumps_of.Goals as goal

pub loop-node-preserved : goal.loop-node-preserved
loop-node-preserved g c =
    let depth = g.J.LogName.depth in
    let replicas = g.J.LogName.replicas in
    let tables = g.K.ReplicasName.tables in
    let base = g.K.ReplicasName.base in
    let is = c.loop-node.invariant in
    let nodes = c.args.nodes.now in
    let i = c.loop-node.node-index in
    let node = c.node-item.result in
    let dump = c.in_ok-dump.dump in
    let dumps = c.loop-node.dumps.items in
    let within : i < length nodes = omega (arith, c.loop-node-test.true) in
    let Of : NodeState → Type 0 = IsNodeOf g.K.ReplicasName.log tables base in
    let of : Of node = subst Of (sym c.node-item.is) (c.requires i node within) in
    let now = one_dump_more depth replicas tables base (map known_of (take i nodes)) dumps g.K.ReplicasName.log node dump is.2 of
    c.in_ok-dump.ensures.dump c.in_ok-dump.ensures.applied in
    let Passes : List Known → Type 0 = λ l. AreDumpsOf depth replicas tables base l (dumps ++ dump ∷ []) in
    let Dumps : List Image → Type 0 = λ l. AreDumpsOf depth replicas tables base (map known_of (take (i + 1) nodes)) l in (
      omega (arith, within),
      omega (arith, is.1, ap (λ (l : List Image). length l) c.in_ok-push.ensures.items, length-append dumps (dump ∷ [])),
      subst Dumps (sym c.in_ok-push.ensures.items) (subst Passes (sym (map_one_more known_of nodes i node within c.node-item.is)) now),
    )

pub returns-clause-count : goal.returns-clause-count
returns-clause-count g c = let is = c.loop-node.invariant in omega (arith, is.0, is.1, c.loop-node-test.false)

pub returns-clause-dumps : goal.returns-clause-dumps
returns-clause-dumps g c =
    let nodes = c.args.nodes.now in
    let i = c.loop-node.node-index in
    let all : length nodes ≤ i = omega (arith, c.loop-node-test.false) in
    let Dumps : List NodeState → Type 0 = λ l.
    AreDumpsOf g.J.LogName.depth g.J.LogName.replicas g.K.ReplicasName.tables g.K.ReplicasName.base (map known_of l) c.loop-node.dumps.items in
    subst Dumps (take_all i nodes all) c.loop-node.invariant.2
