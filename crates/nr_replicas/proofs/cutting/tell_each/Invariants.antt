use Rattle.std.proofs.Common.{◌≡◌, ℕ, ◌≤◌, All, length, take, get_or}
use Rattle.std.specs.List.{AllZip}
use Rattle.nr_ring.specs.Pass.{Known}
use Rattle.nr_replicas.specs.inside.Settling.{WasTold}
use Rattle.nr_replicas.proofs.cutting.tell_each.Given as goal

-- those from i on are as they were
abbrev pub invariant-loop-i : goal.invariant-loop-i
invariant-loop-i g l = (l.first ≡ l.fn.first) × (length l.others ≡ length l.fn.others) × All (λ pass. pass.log ≡ l.log) l.others
    × ((k : ℕ) (d : Known) → l.i ≤ k → get_or l.others k d ≡ get_or l.fn.others k d)
    × AllZip (WasTold g.J.LogName.depth g.J.LogName.replicas l.fn.first.view.seen) (take l.i l.fn.others) (take l.i l.others)
