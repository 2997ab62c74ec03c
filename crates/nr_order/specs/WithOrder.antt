-- A recording with an order of its calls as its log.
use Rattle.std.specs.Prelude.{ℕ, List, length, map}
use Rattle.nr_trace.specs.Recording.{Recording}
use Rattle.nr_trace.specs.Orders.{before, updates}
use Rattle.nr_trace.specs.declared.recordings.event.Event.{Event}
use Rattle.nr_trace.specs.declared.recordings.event.Event.TheVariants.{Reply}

-- how many updates come before a call in an order: of an update, that is its place
abbrev pub updates_before : Recording → List ℕ → ℕ → ℕ
updates_before trace order call = length (updates trace (before call order))

-- an event where the order is the log: a reply is given the number of updates before its call, and all else is as it is
abbrev pub placed_by : Recording → List ℕ → Event → Event
placed_by trace order (Reply call at answer) = Reply call (updates_before trace order call) answer
placed_by trace order event = event

-- the recording with the updates of an order as its log, in their order, and so with each call placed in the order; the dumps are as they are,
-- with the numbers of entries that they have applied
abbrev pub with_order : Recording → List ℕ → Recording
with_order trace order = record trace { log = updates trace order; events = map (placed_by trace order) trace.events }
