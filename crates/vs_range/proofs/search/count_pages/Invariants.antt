use Rattle.std.proofs.Common.{◌≡◌, ℕ, ◌+◌, ◌<◌, ◌≤◌, get_or}
use Rattle.vs_range.specs.Planner.{IsPageWord}
use Rattle.vs_range.proofs.search.count_pages.Given as goal

abbrev pub invariant-loop-k : goal.invariant-loop-k
invariant-loop-k g l = (g.W.FrameWords.words l.words ≡ g.W.FrameWords.words l.fn.words)
    × ((i : ℕ) → l.index + l.k ≤ i → i < 512 → g.W.FrameWords.is_unread l.words i)
    × ((i : ℕ) → i < l.index → i < 512 → g.W.FrameWords.is_unread l.words i)
    × ((j : ℕ) → j < l.k → IsPageWord l.level (get_or (g.W.FrameWords.words l.fn.words) (l.index + j) 0))
