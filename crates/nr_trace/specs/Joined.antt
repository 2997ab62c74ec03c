-- Recordings that were made one after the other, as one.
use Rattle.std.specs.Prelude.{ℕ, ◌+◌, List, ◌++◌, length, map}
use Rattle.vs_walk.specs.Dump.{Image}
use Rattle.nr_trace.specs.Recording.{Recording}
use Rattle.nr_trace.specs.declared.recordings.event.Event.{Event}
use Rattle.nr_trace.specs.declared.recordings.event.Event.TheVariants.{Reply}

-- an event behind so many events and places of the log: a reply counts them in the number of its call and in what it is given at
abbrev pub event_behind : ℕ → ℕ → Event → Event
event_behind events places (Reply call at answer) = Reply (events + call) (places + at) answer
event_behind events places event = event

-- a dump behind so many places: it has applied them too
abbrev pub dump_behind : ℕ → Image → Image
dump_behind places dump = record { applied = places + dump.applied; root = dump.root; frames = dump.frames }

-- the numbers of some calls behind so many events
abbrev pub calls_behind : ℕ → List ℕ → List ℕ
calls_behind events calls = map (λ call. events + call) calls

-- two recordings one after the other, from the start of the first: the log and the events of the second come behind those of the first, and the dumps are
-- those at the end
abbrev pub joined_traces : Recording → Recording → Recording
joined_traces first second = record {
  version = first.version;
  layout = first.layout;
  start = first.start;
  log = first.log ++ calls_behind (length first.events) second.log;
  events = first.events ++ map (event_behind (length first.events) (length first.log)) second.events;
  dumps = map (dump_behind (length first.log)) second.dumps;
}
