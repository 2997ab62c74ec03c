use Rattle.std.proofs.Common.{◌≡◌, ℕ, ◌≤◌, All, length, map, take, get_or}
use Rattle.nr_ring.specs.Pass.{Known}
use Rattle.nr_replicas.specs.inside.Settling.{HasSeenOwnAdvances}
use Rattle.nr_replicas.proofs.settling.tell_all.Given as goal

-- those from i on are as they were
abbrev pub invariant-loop-i : goal.invariant-loop-i
invariant-loop-i g l = (l.first ≡ l.fn.first) × (length l.others ≡ length l.fn.others) × All (λ pass. pass.log ≡ l.log) l.others
    × (map (λ pass. pass.view.owns) l.others ≡ map (λ pass. pass.view.owns) l.fn.others)
    × ((k : ℕ) (d : Known) → l.i ≤ k → get_or l.others k d ≡ get_or l.fn.others k d)
    × All (HasSeenOwnAdvances l.fn.first.view.seen) (take l.i l.fn.others)
