use Rattle.std.proofs.Common.{◌≡◌, ◌≤◌, ℕ, List, [], ◌∷◌, All, Some, length, map, take, ap, sym, subst, ◌∙◌, arith}
use Rattle.std.specs.Prelude.{slice_get, slice_index}
use Rattle.std.specs.List.{insert}
use Rattle.std.proofs.lemmas.List.Edits.{length-insert}
use Rattle.nr_node.specs.Node.{NodeState, replica_of}
use Rattle.nr_replicas.specs.inside.Replicas.{IsNodeOf}
use Rattle.nr_replicas.specs.inside.Settling.{OwnRising}
use Rattle.nr_replicas.proofs.Numbers.{all_and_one, one_goes_in}
use Rattle.nr_replicas.proofs.settling.nodes_of.Goals as goal

pub loop-replica-preserved : goal.loop-replica-preserved
loop-replica-preserved g c =
    let is = c.loop-replica.invariant in
    let old = c.loop-replica.nodes.items in
    let node = c.into_node-node.result in
    let place = c.place_among-place.result in
    let P : NodeState → Type 0 = IsNodeOf g.K.ReplicasName.log g.K.ReplicasName.tables g.K.ReplicasName.base in
    let Q : List NodeState → Type 0 = λ l. OwnRising 0 (map (λ (n : NodeState). n.known) l) in
    let items : c.insert.new.self.items ≡ insert old place node = c.in_ok-insert.ensures.items in
    let steps : c.loop-replica.replica-iterator.rest.items ≡ c.in-Some.replica ∷ c.next.new.self.rest.items = c.in-Some.ensures.steps.0 in
    let is_node : P node =
    record { log_is = c.into_node-node.ensures.log; tables_are = c.into_node-node.ensures.tables; base_is = c.into_node-node.ensures.base } in
    let number : replica_of node.known.view ≡ c.number.result = ap (λ (l : List ℕ). slice_index l 0) c.number.ensures in
    let own = c.number.ensures ∙ ap (λ (k : ℕ). k ∷ []) (sym number) in
    let value : c.deref.result.now ≡ old = c.deref.ensures.value in
    let Within : List NodeState → Type 0 = λ l. place ≤ length l in
    let Before : ℕ → List NodeState → Type 0 = λ k l. All (λ (n : NodeState). replica_of n.known.view ≤ k) (take place l) in
    let Behind : ℕ → List NodeState → Type 0 = λ k l. (n : NodeState) → slice_get l place ≡ Some n → k ≤ replica_of n.known.view in
    let within : place ≤ length old = subst Within value c.place_among-place.ensures.within in
    let before = subst (λ (k : ℕ). Before k old) (sym number) (subst (Before c.number.result) value c.place_among-place.ensures.before) in
    let behind = subst (λ (k : ℕ). Behind k old) (sym number) (subst (Behind c.number.result) value c.place_among-place.ensures.behind) in (
      subst (All P) (sym items) (all_and_one P old place node is.0 is_node),
      omega (arith, is.1, ap (λ (l : _). length l) steps, ap (λ (l : _). length l) items, length-insert old place node within),
      subst Q (sym items) (one_goes_in 0 old place node is.2 own (omega arith) within before behind),
    )
