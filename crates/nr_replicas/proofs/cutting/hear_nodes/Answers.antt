use Rattle.std.proofs.Common.{◌≡◌, ◌<◌, ◌≤◌, List, All, length, take, get_or, slice_set, ap, sym, subst, ◌∙◌, arith}
use Rattle.std.proofs.lemmas.List.{set-get_or, take_all}
use Rattle.std.proofs.lemmas.List.Elements.{All-push}
use Rattle.nr_ring.specs.Calls.{HasLooked, copy_of, joint_view}
use Rattle.nr_ring.specs.View.{StartsWith}
use Rattle.nr_ring.proofs.Appends.{begins}
use Rattle.nr_node.specs.Node.{NodeState}
use Rattle.nr_node.proofs.Lists.{take_to_one_more}
use Rattle.nr_replicas.proofs.Hearing.{heard_twice}
use Rattle.nr_replicas.proofs.Logs.{told_heard}
use Rattle.nr_replicas.proofs.cutting.hear_nodes.Goals as goal

pub tell-requires : goal.tell-requires
tell-requires g c =
    let is = c.loop-i.invariant in
    let i = c.loop-i.i in
    let Of : NodeState → Type 0 = λ n. n.known.log ≡ c.args.log.now in
    let all : All Of c.loop-i.nodes = subst (All Of) (sym is.0) c.requires.log.1 in
    record {
      log = (all i c.index-nodes-i.result (omega (arith, c.loop-i-test.true, ap (λ (l : List NodeState). length l) is.0)), is.1 ∙ c.requires.log.0);
    }

pub loop-i-preserved : goal.loop-i-preserved
loop-i-preserved g c =
    let depth = g.J.LogName.depth in
    let replicas = g.J.LogName.replicas in
    let is = c.loop-i.invariant in
    let i = c.loop-i.i in
    let was = c.args.nodes.now in
    let found = c.index-nodes-i.result in
    let node = get_or c.loop-i.nodes i found in
    let before = c.loop-i.first.view in
    let after = c.tell.new.told.view in
    let Found : List NodeState → Type 0 = λ l. found ≡ get_or l i found in
    let Here : NodeState → Type 0 = λ n. n ≡ get_or was i n in
    let here : node ≡ get_or was i node = subst Here c.index-nodes-i.is (subst Found is.0 c.index-nodes-i.is) in
    let within : i < length was = omega (arith, c.loop-i-test.true, ap (λ (l : List NodeState). length l) is.0) in
    let Begins : NodeState → Type 0 = λ n. StartsWith after.seen n.known.view.seen in
    let looked : HasLooked depth replicas (joint_view before (copy_of node.known.view)) after = c.tell.ensures.looked in
    let knows : StartsWith after.seen node.known.view.seen = c.tell.ensures.met.0 in
    let goes_on : StartsWith after.seen before.seen = c.tell.ensures.met.1 in
    let earlier : All Begins (take i was) = λ k d lt.
    begins (get_or (take i was) k d).known.view.seen before.seen after.seen (is.3 k d lt) goes_on in (
      ap (λ (n : NodeState). slice_set c.loop-i.nodes i n) c.tell.ensures.same ∙ set-get_or c.loop-i.nodes i found ∙ is.0,
      c.tell.ensures.log ∙ is.1,
      heard_twice is.2 (told_heard depth replicas before node.known.view after looked),
      subst (All Begins) (sym (take_to_one_more was i node within here)) (All-push Begins (take i was) node earlier knows),
    )

pub returns-clause-begins : goal.returns-clause-begins
returns-clause-begins g c =
    let is = c.loop-i.invariant in
    let was = c.args.nodes.now in
    let all : length was ≤ c.loop-i.i = omega (arith, c.loop-i-test.false, ap (λ (l : List NodeState). length l) is.0) in
    let Begins : NodeState → Type 0 = λ n. StartsWith c.loop-i.first.view.seen n.known.view.seen in
    subst (All Begins) (take_all c.loop-i.i was all) is.3
