use Rattle.std.proofs.Common.{◌≡◌, ◌<◌, ◌≤◌, ℕ, get_or}
use Rattle.vs_plan.specs.Answered.{IsLike}
use Rattle.vs_plan.proofs.tables.collapse.first_unlike.Given as goal

abbrev pub invariant-loop-index : goal.invariant-loop-index
invariant-loop-index g l = (g.W.FrameWords.words l.words ≡ g.W.FrameWords.words l.fn.words)
    × ((k : ℕ) → l.index ≤ k → k < 512 → g.W.FrameWords.is_unread l.words k)
    × ((k : ℕ) → 1 ≤ k → k < l.index → IsLike l.size l.first (get_or (g.W.FrameWords.words l.fn.words) k 0))
