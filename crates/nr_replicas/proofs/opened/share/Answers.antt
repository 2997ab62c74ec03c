use Rattle.std.proofs.Common.{◌≡◌, ℕ, List, map, ap, ◌∙◌}
use Rattle.std.specs.Arc.{arc_value}
use Rattle.std.proofs.lemmas.List.{map-append}
use Rattle.nr_replicas.specs.inside.Replicas.{IsNodeOf, slots_each}
use Rattle.nr_replicas.proofs.Rests.{first_and_rest, holds_of_more, one_over}
use Rattle.nr_replicas.proofs.opened.share.Goals as goal

pub loop-node-preserved : goal.loop-node-preserved
loop-node-preserved g c =
    let Of = IsNodeOf g.K.ReplicasName.log g.K.ReplicasName.tables g.K.ReplicasName.base in
    let of = first_and_rest Of _ _ c.in-Some.node c.in-Some.ensures.steps.0 c.loop-node.invariant.0 in
    let more = c.in_ok-push.ensures.items in (
      of.1,
      one_over c.loop-node.shared.items c.push.new.self.items _ _ _ c.in-Some.node _ more c.in-Some.ensures.steps.0 c.loop-node.invariant.1,
      holds_of_more (λ (n : ℕ). n ≡ slots_each c.args.config) (map (λ (s : _). arc_value s.slots) c.loop-node.shared.items) _ _
          (ap (λ (l : List _). map (λ (s : _). arc_value s.slots) l) more ∙ map-append (λ (s : _). arc_value s.slots) c.loop-node.shared.items _)
          c.loop-node.invariant.2 (c.in_ok-slots.ensures.ok ∙ c.in_ok-new.ensures ∙ c.slots_of.ensures),
    )
