-- What was recorded so far, in front of a further segment.
use Rattle.std.specs.Prelude.{◌≡◌, ℕ, ◌<◌, length, slice_get, Option, Some, None}
use Rattle.vs_types.specs.Space.{Space}
use Rattle.nr_trace.specs.Recording.{Recording}
use Rattle.nr_trace.specs.Calls.{Response, reply_of}
use Rattle.nr_trace.specs.Orders.{space_from}
use Rattle.nr_trace.specs.Joined.{joined_traces}

-- the segments so far as one recording, and the space with which the first of them begins
pub record Run : Type 0 where
  pub start : Space
  pub trace : Recording

-- the space after the whole log of a run
abbrev pub end_of : Run → Space
end_of run = space_from run.start run.trace run.trace.log

-- a run with a segment more, behind others, or the first of them, which begins with this space
abbrev pub run_with : Option Run → Space → Recording → Run
run_with None start segment = record { start = start; trace = segment }
run_with (Some run) start segment = record { start = run.start; trace = joined_traces run.trace segment }

-- each reply answers an earlier call, and the log has calls of the recording alone
pub record IsOrderly (trace : Recording) : Type 0 where
  pub earlier : (index : ℕ) (reply : Response) → reply_of trace index ≡ Some reply → reply.call < index
  pub own : (place call : ℕ) → slice_get trace.log place ≡ Some call → call < length trace.events
