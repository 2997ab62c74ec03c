-- How many updates come before each call in an order, while these are counted. No public clause cites this file.
use Rattle.std.specs.Prelude.{◌≡◌, ℕ, ◌+◌, ◌<◌, List, length, slice_get, Some, take, drop}
use Rattle.nr_trace.specs.Recording.{Recording}
use Rattle.nr_trace.specs.Orders.{before, updates}
use Rattle.nr_order.specs.WithOrder.{updates_before}

-- behind the first so many members, by call number: the updates among these, and those behind them that come before the call
abbrev pub AreCountedFrom : Recording → List ℕ → ℕ → List ℕ → Type 0
AreCountedFrom trace order from counts = (call : ℕ) → call < length counts
    → slice_get counts call ≡ Some (length (updates trace (take from order)) + length (updates trace (before call (drop from order))))

-- by call number how many updates come before the call
abbrev pub AreCounted : Recording → List ℕ → List ℕ → Type 0
AreCounted trace order counts = (call : ℕ) → call < length counts → slice_get counts call ≡ Some (updates_before trace order call)
