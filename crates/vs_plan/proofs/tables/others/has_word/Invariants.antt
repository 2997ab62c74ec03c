use Rattle.std.proofs.Common.{◌≡◌, ◌≢◌, ℕ, ◌<◌, ◌≤◌, true, false, get_or}
use Rattle.vs_plan.proofs.tables.others.has_word.Given as goal

abbrev pub invariant-loop-i : goal.invariant-loop-i
invariant-loop-i g l = (g.W.FrameWords.words l.words ≡ g.W.FrameWords.words l.fn.words)
    × ((k : ℕ) → l.i ≤ k → k < l.to → g.W.FrameWords.is_unread l.words k)
    × ((k : ℕ) → (l.from ≤ k → l.to ≤ k) → g.W.FrameWords.is_unread l.fn.words k → g.W.FrameWords.is_unread l.words k)
    × (l.found ≡ false → (k : ℕ) → l.from ≤ k → k < l.i → get_or (g.W.FrameWords.words l.fn.words) k 0 ≡ 0)
    × (l.found ≡ true → (k : ℕ) × (l.from ≤ k) × (k < l.to) × (get_or (g.W.FrameWords.words l.fn.words) k 0 ≢ 0))
