use Rattle.std.proofs.Common.{◌≡◌, All, map}
use Rattle.nr_ring.specs.Pass.{AreApart}
use Rattle.nr_ring.specs.View.{StartsWith}
use Rattle.nr_ring.proofs.ring.ring_log.RingLog.gather.Given as goal

-- what is left is apart from all that is gathered, and then all were
abbrev pub invariant-loop-other : goal.invariant-loop-other
invariant-loop-other g l = (l.owner.cell ≡ l.self) × All (λ pass. pass.log ≡ l.self) l.other-iterator.rest.items
    × All (λ pass. StartsWith l.owner.view.seen pass.view.seen) l.other-iterator.rest.items
    × (AreApart l.owner.view.owns (map (λ pass. pass.view.owns) l.other-iterator.rest.items)
    → AreApart l.fn.first.view.owns (map (λ pass. pass.view.owns) l.fn.others.items))
