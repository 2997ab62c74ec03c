-- Runs that were recorded one after the other, as one run with an order of its calls.
use Rattle.std.specs.Prelude.{ℕ, List, [], ◌∷◌, ◌++◌, length}
use Rattle.nr_trace.specs.Recording.{Recording}
use Rattle.nr_trace.specs.Joined.{calls_behind, joined_traces}

-- a run that is recorded, and an order of its calls
pub record Segment : Type 0 where
  pub trace : Recording
  pub order : List ℕ

abbrev pub both : Segment → Segment → Segment
both first second = record {
  trace = joined_traces first.trace second.trace;
  order = first.order ++ calls_behind (length first.trace.events) second.order;
}

-- a first run and more of them, one after another
abbrev pub joined : Segment → List Segment → Segment
joined first [] = first
joined first (next ∷ more) = joined (both first next) more
