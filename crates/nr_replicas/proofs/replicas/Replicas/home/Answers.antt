use Rattle.std.proofs.Common.{◌<◌, length, ap, sym, ◌∙◌, arith}
use Rattle.std.specs.Arc.{arc_value}
use Rattle.std.proofs.Math.Nat.{mod-lt}
use Rattle.std.proofs.lemmas.List.{get_or-map, length-map}
use Rattle.vs_types.specs.Config.{Layout}
use Rattle.nr_replicas.specs.inside.Replicas.{slots_each}
use Rattle.nr_replicas.proofs.replicas.Replicas.home.Goals as goal

pub returns : goal.returns
returns g c =
    let shared = c.self.inside.shared.items in
    let are = c.self.invariant.1 in
    let x = c.index.result.now in
    let at = c.from-2.result in
    let count = length-map shared (λ (s : _). arc_value s.slots) in
    let many : 0 < c.from.result = omega (arith, c.from.ensures, c.replicas.ensures.reads, are.some) in
    let within : at < length shared = omega (arith, c.from-2.ensures, mod-lt c.args.thread many, c.from.ensures, c.replicas.ensures.reads, count, are.count) in
    ap (λ (s : _). arc_value s.slots) c.index.ensures
    ∙ sym (get_or-map (λ (s : _). arc_value s.slots) shared at x (arc_value x.slots) within)
    ∙ are.for_each at (arc_value x.slots) (omega (arith, count, within))
    ∙ ap (λ (l : Layout). slots_each l) c.self.view_is
