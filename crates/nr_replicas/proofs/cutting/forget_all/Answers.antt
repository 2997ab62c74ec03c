use Rattle.std.proofs.Common.{◌≡◌, ◌<◌, ◌≤◌, List, ◌++◌, ◌+◌, ◌-◌, ℕ, length, map, take, drop, get_or, slice_set, ap, sym, subst, ◌∙◌, arith}
use Rattle.std.proofs.Math.Seq.{get_or-append_right}
use Rattle.std.proofs.lemmas.List.{append-nil, drop_all, get_or-drop, length-map, length-set, length-take-le, take_all}
use Rattle.std.proofs.lemmas.List.Edits.{map_over_more}
use Rattle.nr_node.specs.Node.{NodeState, taken_by}
use Rattle.nr_replicas.specs.inside.Settling.{forgotten}
use Rattle.nr_replicas.proofs.cutting.forget_all.Goals as goal

-- the next of the nodes is as it was
as_before : (F : NodeState → NodeState) (was now : List NodeState) (i : ℕ) (d : NodeState) → i ≤ length was → now ≡ map F (take i was) ++ drop i was
    → get_or now i d ≡ get_or was i d
as_before F was now i d le is =
    let front = map F (take i was) in
    let long : length front ≡ i = length-map (take i was) F ∙ length-take-le i was le in
    let at : i + (i - length front) ≡ i = omega (arith, long) in
    ap (λ (l : List NodeState). get_or l i d) is
    ∙ get_or-append_right front (drop i was) i d (omega (arith, long))
    ∙ get_or-drop i was (i - length front) d
    ∙ ap (λ (k : ℕ). get_or was k d) at

pub forget-requires : goal.forget-requires
forget-requires g c =
    let is = c.loop-i.invariant in
    let i = c.loop-i.i in
    let was = c.args.nodes.now in
    let now = c.loop-i.nodes in
    let found = c.index-nodes-i.result in
    let replicas = g.J.LogName.replicas in
    let within : i < length was = omega (arith, c.loop-i-test.true, is.0) in
    let All : NodeState → Type 0 = λ n. taken_by replicas n.known.view ≡ n.applied in
    subst All (sym (as_before forgotten was now i found (omega (arith, within)) is.1)) (c.requires i found within)

pub loop-i-preserved : goal.loop-i-preserved
loop-i-preserved g c =
    let is = c.loop-i.invariant in
    let i = c.loop-i.i in
    let was = c.args.nodes.now in
    let now = c.loop-i.nodes in
    let found = c.index-nodes-i.result in
    let node = get_or now i found in
    let F : NodeState → NodeState = forgotten in
    let within : i < length was = omega (arith, c.loop-i-test.true, is.0) in
    let Here : NodeState → Type 0 = λ n. n ≡ get_or now i n in
    let here : node ≡ get_or now i node = subst Here c.index-nodes-i.is c.index-nodes-i.is in (
      length-set now i c.forget.new.self ∙ is.0,
      ap (λ (n : NodeState). slice_set now i n) c.forget.ensures ∙ map_over_more F was now i node within is.1 here,
    )

pub returns : goal.returns
returns g c =
    let is = c.loop-i.invariant in
    let i = c.loop-i.i in
    let was = c.args.nodes.now in
    let F : NodeState → NodeState = forgotten in
    let all : length was ≤ i = omega (arith, c.loop-i-test.false, is.0) in
    is.1
    ∙ ap (λ (l : List NodeState). map F l ++ drop i was) (take_all i was all)
    ∙ ap (λ (l : List NodeState). map F was ++ l) (drop_all i was all)
    ∙ append-nil (map F was)
