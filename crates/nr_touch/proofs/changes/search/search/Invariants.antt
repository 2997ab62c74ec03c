use Rattle.std.proofs.Common.{◌≡◌, ℕ, ◌<◌, ◌-◌, ◌≤◌, get_or, length}
use Rattle.nr_touch.proofs.changes.search.search.Given as goal

abbrev pub invariant-loop-low : goal.invariant-loop-low
invariant-loop-low l = record {
  order : l.low ≤ l.high;
  within : l.high ≤ length l.pages;
  before : (j : ℕ) → j < l.low → get_or l.pages j 0 ≤ l.of_page;
  less : (j : ℕ) → j < l.low → get_or l.pages j 0 ≡ l.of_page → get_or l.bounds j 0 < l.from_bound;
  behind : (j : ℕ) → l.high ≤ j → j < length l.pages → l.of_page ≤ get_or l.pages j 0;
  reached : (j : ℕ) → l.high ≤ j → j < length l.pages → get_or l.pages j 0 ≡ l.of_page → l.from_bound ≤ get_or l.bounds j 0;
}

abbrev pub decreases-loop-low : goal.decreases-loop-low
decreases-loop-low l = l.high - l.low
