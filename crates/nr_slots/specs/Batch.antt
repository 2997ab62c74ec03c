-- What a combiner collects.
use Rattle.std.specs.Prelude.{List, map}
use Rattle.std.specs.List.Sorted.{IsStrictlyIncreasing}
use Rattle.nr_slots.specs.Updates.{Waiting}

-- the threads rise from one update to the next, so that each has one update at most
abbrev pub Rises : List Waiting → Type 0
Rises batch = IsStrictlyIncreasing (map (λ waiting. waiting.thread) batch)
