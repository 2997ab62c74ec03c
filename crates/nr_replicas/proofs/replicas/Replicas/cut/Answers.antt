use Rattle.std.proofs.Common.{◌≡◌, ℕ, ◌+◌, ◌<◌, ◌++◌, List, All, length, map, take, drop, get_or, refl, ap, sym, subst, ◌∙◌, arith, rules}
use Rattle.std.specs.Arc.{arc_value}
use Rattle.std.proofs.lemmas.List.{length-map}
use Rattle.vs_walk.specs.Dump.{Image}
use Rattle.nr_ring.specs.Pass.{Known, TableId}
use Rattle.nr_node.specs.Node.{NodeState, taken_by}
use Rattle.nr_replicas.specs.Replicas.{HasHeard}
use Rattle.nr_replicas.specs.inside.Replicas.{AreNodes}
use Rattle.nr_replicas.specs.inside.Settling.{AreDumpsOf, IsDone, WasTold, forgotten}
use Rattle.nr_replicas.proofs.Cuts.{cut_is, forgotten_nodes, zip_on}
use Rattle.nr_replicas.proofs.Rests.{written_over}
use Rattle.nr_replicas.proofs.Settled.{known_of}
use Rattle.nr_replicas.proofs.replicas.Replicas.cut.Goals as goal

pub forget_all-requires : goal.forget_all-requires
forget_all-requires g c =
    let replicas = g.J.LogName.replicas in
    let vec = c.in_ok-nodes.nodes in
    let met = c.meet.new.nodes in
    let count : length met ≡ length vec.items = c.in-Some.ensures.count ∙ ap (λ (l : List NodeState). length l) c.deref_mut.ensures.value in
    let over : take vec.len (met ++ drop (length met) vec.items) ≡ met = written_over vec.len met vec.items count vec.ok.0 in
    let Done : NodeState → Type 0 = IsDone replicas c.in-Some.base in
    let done : All Done met = subst (All Done) (c.deref-2.ensures.value ∙ over) (c.if-not-are_done.ensures refl) in
    let Taken : List NodeState → Type 0 = All (λ n. taken_by replicas n.known.view ≡ n.applied) in
    subst Taken (sym (c.deref_mut-2.ensures.value ∙ over)) (λ k d lt. (done k d lt).taken)

pub invariant_of-replicas : goal.invariant_of-replicas
invariant_of-replicas g c =
    let depth = g.J.LogName.depth in
    let replicas = g.J.LogName.replicas in
    let shared = c.self.inside.shared.items in
    let vec = c.in_ok-nodes.nodes in
    let met = c.meet.new.nodes in
    let forgot = c.forget_all.new.nodes in
    let count : length met ≡ length vec.items = c.in-Some.ensures.count ∙ ap (λ (l : List NodeState). length l) c.deref_mut.ensures.value in
    let back : List NodeState = take vec.len (met ++ drop (length met) vec.items) in
    let over : back ≡ met = written_over vec.len met vec.items count vec.ok.0 in
    let Done : NodeState → Type 0 = IsDone replicas c.in-Some.base in
    let done : All Done met = subst (All Done) (c.deref-2.ensures.value ∙ over) (c.if-not-are_done.ensures refl) in
    let Slots : _ → ℕ = λ s. arc_value s.slots in
    let many : length met ≡ length (map Slots shared) = count ∙ c.in_ok-nodes.ensures.count ∙ sym (length-map shared Slots) in
    let F : NodeState → NodeState = forgotten in
    let first = c.forget_all.ensures ∙ ap (map F) c.deref_mut-2.ensures.value in
    let same : forgot ≡ map F met = first ∙ ap (map F) over in
    let long : length forgot ≡ length back = ap (λ (l : List NodeState). length l) first ∙ length-map back F in
    let over_again = written_over vec.len forgot back long (omega (arith, vec.ok.0, count, ap (λ (l : List NodeState). length l) over)) in
    let OfLog : TableId → Type 0 = λ log. AreNodes depth replicas log c.self.inside.config c.in-Some.base (map F met) in
    let Nodes : List NodeState → Type 0 = λ l. AreNodes depth replicas c.self.inside.log c.self.inside.config c.in-Some.base l in
    let are = forgotten_nodes depth replicas g.K.ReplicasName.tables g.K.ReplicasName.base c.in-Some.base g.K.ReplicasName.log c.self.inside.config _ met
    c.self.invariant.1 many c.in-Some.ensures.nodes done in
    (subst Nodes (sym (over_again ∙ same)) (subst OfLog (sym c.self.invariant.0) are), c.self.invariant.2)

pub returns : goal.returns
returns g c =
    let depth = g.J.LogName.depth in
    let replicas = g.J.LogName.replicas in
    let tables = g.K.ReplicasName.tables in
    let base = g.K.ReplicasName.base in
    let shared = c.self.inside.shared.items in
    let vec = c.in_ok-nodes.nodes in
    let met = c.meet.new.nodes in
    let node = c.index.result.now in
    let dumps = c.in_ok-dumps.dumps.items in
    let count : length met ≡ length vec.items = c.in-Some.ensures.count ∙ ap (λ (l : List NodeState). length l) c.deref_mut.ensures.value in
    let over : take vec.len (met ++ drop (length met) vec.items) ≡ met = written_over vec.len met vec.items count vec.ok.0 in
    let Done : NodeState → Type 0 = IsDone replicas c.in-Some.base in
    let done : All Done met = subst (All Done) (c.deref-2.ensures.value ∙ over) (c.if-not-are_done.ensures refl) in
    let Slots : _ → ℕ = λ s. arc_value s.slots in
    let many : length met ≡ length (map Slots shared) = count ∙ c.in_ok-nodes.ensures.count ∙ sym (length-map shared Slots) in
    let are = c.self.invariant.1 in
    let Here : List NodeState → Type 0 = λ l. node ≡ get_or l 0 node in
    let Dumps : List NodeState → Type 0 = λ l. AreDumpsOf depth replicas tables base (map known_of l) dumps in
    let all = c.deref-3.ensures.value ∙ over in
    let cut = cut_is depth replicas g.J.LogName.places tables base c.in-Some.base g.K.ReplicasName.log node met c.args.passes.now c.meet.new.passes
    c.in_ok-calls.calls.items dumps c.in-Some.ensures.met c.in-Some.ensures.nodes done (omega (arith, many, are.count, are.some))
    (many ∙ are.count ∙ are.replicas_are) (subst Here over c.index.ensures) c.in_ok-calls.ensures.is_node c.in_ok-calls.ensures.calls
    (subst Dumps all c.in_ok-dumps.ensures.dumps) (c.in_ok-dumps.ensures.count ∙ ap (λ (l : List NodeState). length l) all) in
    record {
      opened = (c.self.invariant.0, c.self.view_is, cut.1);
      cut = cut.0;
      log = search rules;
      heard = zip_on (WasTold depth replicas c.in-Some.ensures.met.history) (λ (x y : Known). HasHeard depth replicas x.view y.view)
          c.args.passes.now c.meet.new.passes (λ x y told. told.0) c.in-Some.ensures.met.told;
    }
