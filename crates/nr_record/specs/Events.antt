-- What the events of a finished run are.
use Rattle.std.specs.Prelude.{◌≡◌, ℕ, ◌==◌, List, All, Bool, false, Option, None, Some, filter, flat_map, length, map, option_and_then, slice_get}
use Rattle.std.specs.Option.{option_map_or}
use Rattle.nr_trace.specs.declared.recordings.event.Event.{Event}
use Rattle.nr_trace.specs.declared.recordings.event.Event.TheVariants.{Call, Reply}
use Rattle.nr_record.specs.Pen.{PenState, stamps_of}
use Rattle.nr_record.specs.Stamps.{AreBelow, Rise}

-- the event of each stamp is what the pen was given with it
abbrev pub HasNotes : List Event → PenState → Type 0
HasNotes events pen = All (λ item. slice_get events item.stamp ≡ Some item.event) pen.made

-- the maker of a call
abbrev pub caller : Event → Option ℕ
caller (Call replica thread asked) = Some thread
caller event = None

-- the thread of an event: the one that makes the call, or that made the call which is answered
abbrev pub thread_of : List Event → Event → Option ℕ
thread_of events (Call replica thread asked) = Some thread
thread_of events (Reply call at answer) = option_and_then caller (slice_get events call)

-- whether an event is one of the thread
abbrev pub is_of : ℕ → List Event → Event → Bool
is_of thread events event = option_map_or (λ other. other == thread) (thread_of events event) false

-- the events of a thread, in order
abbrev pub events_of : ℕ → List Event → List Event
events_of thread events = filter (is_of thread events) events

-- the events are what these pens were given, and nothing else. The stamps of all pens are the indices of the events, each once. Those of each
-- pen rise, and the event of each is what the pen was given with it. The events of each thread are what its pen was given, in that order
pub record AreEventsOf (events : List Event) (pens : List PenState) : Type 0 where
  pub stamps : AreBelow (length events) (flat_map stamps_of pens)
  pub rising : All (λ pen. Rise (stamps_of pen)) pens
  pub noted : All (HasNotes events) pens
  pub own : All (λ pen. events_of pen.thread events ≡ map (λ item. item.event) pen.made) pens
