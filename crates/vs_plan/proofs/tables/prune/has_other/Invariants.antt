use Rattle.std.proofs.Common.{◌≡◌, ◌≢◌, ◌%◌, ◌<◌, ◌≤◌, ℕ, get_or}
use Rattle.vs_plan.proofs.tables.prune.has_other.Given as goal

abbrev pub invariant-loop-i : goal.invariant-loop-i
invariant-loop-i g l = (g.W.FrameWords.words l.words ≡ g.W.FrameWords.words l.fn.words)
    × ((k : ℕ) → l.i ≤ k → k < 512 → k ≢ l.index → g.W.FrameWords.is_unread l.words k)
    × ((k : ℕ) → k < l.i → k ≢ l.index → get_or (g.W.FrameWords.words l.fn.words) k 0 % 2 ≡ 0)
