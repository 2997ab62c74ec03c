use Rattle.std.proofs.Common.{◌≡◌, ℕ, ◌<◌, ◌≤◌, get_or}
use Rattle.vs_range.proofs.search.has_other.Given as goal

abbrev pub invariant-loop-i : goal.invariant-loop-i
invariant-loop-i g l = (g.W.FrameWords.words l.words ≡ g.W.FrameWords.words l.fn.words)
    × ((k : ℕ) → l.i ≤ k → k < 512 → g.W.FrameWords.is_unread l.words k)
    × ((k : ℕ) → k < l.index → k < 512 → g.W.FrameWords.is_unread l.words k)
    × ((k : ℕ) → l.from ≤ k → k < l.i → get_or (g.W.FrameWords.words l.fn.words) k 0 ≡ 0)

abbrev pub invariant-loop-i-2 : goal.invariant-loop-i-2
invariant-loop-i-2 g l = (g.W.FrameWords.words l.words ≡ g.W.FrameWords.words l.fn.words)
    × ((k : ℕ) → l.i ≤ k → k < l.index → k < 512 → g.W.FrameWords.is_unread l.words k)
    × ((k : ℕ) → l.from ≤ k → k < 512 → get_or (g.W.FrameWords.words l.fn.words) k 0 ≡ 0)
    × ((k : ℕ) → k < l.i → get_or (g.W.FrameWords.words l.fn.words) k 0 ≡ 0)
