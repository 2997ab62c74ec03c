use Rattle.std.proofs.Common.{◌≡◌, ◌<◌, ◌≤◌, ℕ, get_or}
use Rattle.vs_plan.specs.Answered.{Follows}
use Rattle.vs_plan.proofs.tables.join.first_apart.Given as goal

abbrev pub invariant-loop-index : goal.invariant-loop-index
invariant-loop-index g l = (g.W.FrameWords.words l.words ≡ g.W.FrameWords.words l.fn.words)
    × ((k : ℕ) → l.index ≤ k → k < 512 → g.W.FrameWords.is_unread l.words k)
    × ((k : ℕ) → 1 ≤ k → k < l.index → Follows l.size l.first k (get_or (g.W.FrameWords.words l.fn.words) k 0))
