use Rattle.std.proofs.Common.{◌≡◌, ℕ, ◌+◌, ◌-◌, ◌%◌, ◌<◌, ◌≤◌, get_or}
use Rattle.vs_range.proofs.search.count_alike.Given as goal

abbrev pub invariant-loop-count : goal.invariant-loop-count
invariant-loop-count g l =
    (1 ≤ l.count) × (l.count ≤ l.most)
    × (g.W.FrameWords.words l.words ≡ g.W.FrameWords.words l.fn.words)
    × ((i : ℕ) → l.index + l.count ≤ i → i < 512 → g.W.FrameWords.is_unread l.words i)
    × ((i : ℕ) → i < l.index → g.W.FrameWords.is_unread l.words i)
    × ((k : ℕ) → k < l.count → get_or (g.W.FrameWords.words l.fn.words) (l.index + k) 0 % 2 ≡ l.bit)

abbrev pub decreases-loop-count : goal.decreases-loop-count
decreases-loop-count g l = l.most - l.count

abbrev pub invariant-loop-count-2 : goal.invariant-loop-count-2
invariant-loop-count-2 g l =
    (1 ≤ l.count) × (l.count ≤ l.most)
    × (g.W.FrameWords.words l.words ≡ g.W.FrameWords.words l.fn.words)
    × ((i : ℕ) → l.index + l.count ≤ i → i < 512 → g.W.FrameWords.is_unread l.words i)
    × ((i : ℕ) → i < l.index → g.W.FrameWords.is_unread l.words i)
    × ((k : ℕ) → k < l.count → get_or (g.W.FrameWords.words l.fn.words) (l.index + k) 0 % 2 ≡ l.bit)

abbrev pub decreases-loop-count-2 : goal.decreases-loop-count-2
decreases-loop-count-2 g l = l.most - l.count
