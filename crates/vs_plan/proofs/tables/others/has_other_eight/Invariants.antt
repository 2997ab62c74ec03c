use Rattle.std.proofs.Common.{◌≡◌, ◌≢◌, ℕ, ◌*◌, ◌/◌, ◌<◌, ◌≤◌, get_or}
use Rattle.vs_plan.proofs.tables.others.has_other_eight.Given as goal

abbrev pub invariant-loop-at : goal.invariant-loop-at
invariant-loop-at g l = (g.W.FrameWords.words l.words ≡ g.W.FrameWords.words l.fn.words)
    × ((k : ℕ) → l.at * 8 ≤ k → k < 512 → k / 8 ≢ l.eight → g.W.FrameWords.is_unread l.words k)
    × ((k : ℕ) → k < l.at * 8 → k / 8 ≢ l.eight → get_or (g.W.FrameWords.words l.fn.words) k 0 ≡ 0)
