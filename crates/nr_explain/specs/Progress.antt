-- What the segments of a chain so far have come to, as a reader sees it that explains the chain.
use Rattle.std.specs.Prelude.{◌≡◌, ℕ, ◌-◌, ⊤, Bool, true, false, List, length, count_by, nat_lt, Option, Some, None, option_map}
use Rattle.std.specs.FinMap as finite
use Rattle.vs_types.specs.Space.{Space, pages}
use Rattle.vs_types.specs.Config.{Layout}
use Rattle.vs_walk.specs.Dump.{Image}
use Rattle.nr_trace.specs.Recording.{Recording}
use Rattle.nr_trace.specs.Orders.{recorded_order}
use Rattle.nr_trace.specs.declared.recordings.event.Event.{Event}
use Rattle.nr_trace.specs.declared.recordings.event.Event.TheVariants.{Call}
use Rattle.nr_trace.specs.declared.recordings.event.Asked.TheVariants as askeds
use Rattle.nr_trace.specs.Run.{Run, end_of}
use Rattle.nr_touch.specs.Tails.{IsTailOfRun}
use Rattle.nr_touch.specs.declared.touches.tail.Tail.{Tail}
use Rattle.nr_audit.specs.Segments.{run_after}
use Rattle.nr_audit.specs.Start.{space_before, start_space}
use Rattle.nr_chain.specs.Bytes.{layout_before}
use Rattle.nr_audit.specs.Met.{no_totals, sum_up, totals_with}
use Rattle.nr_audit.specs.declared.histories.met.Met.{Met}
use Rattle.nr_explain.specs.declared.chain.progress.Sums.{Sums}
use Rattle.nr_explain.specs.declared.chain.explanation.ChainCounts.{ChainCounts}

-- what they have come to: the run; the space with which the chain begins, where its first segment has a start; and how much the segments so far have
pub record ChainState : Type 0 where
  pub run : Run
  pub began : Option Space
  pub sums : Sums

-- the segments so far as one
abbrev pub run_in : Option ChainState → Option Run
run_in came = option_map (λ last. last.run) came

-- the layout of the last segment
abbrev pub layout_in : Option ChainState → Option Layout
layout_in came = layout_before (run_in came)

-- the space after the last segment
abbrev pub space_in : Option ChainState → Option Space
space_in came = space_before (run_in came)

-- ---- what a reader keeps of that

-- what is kept of the segments so far: how they are laid out, the space after the last one, and what they leave for the touches of later
-- ones. It also has the space with which the chain begins, and how much they have
pub record Seen : Type 0 where
  pub layout : Layout
  pub space : Space
  pub tail : Tail
  pub began : Option Space
  pub sums : Sums

-- that, if there are any, and the bytes of the next segment so far
pub record ReaderState : Type 0 where
  pub state : Option Seen
  pub bytes : List ℕ

-- this is kept of it
pub record IsSeen (came : ChainState) (seen : Seen) : Type 0 where
  pub layout : seen.layout ≡ came.run.trace.layout
  pub space : seen.space ≡ end_of came.run
  pub tail : IsTailOfRun came.run seen.tail
  pub began : seen.began ≡ came.began
  pub sums : seen.sums ≡ came.sums

-- the same, or nothing is kept of no segments
abbrev pub IsSeenOf : Option ChainState → Option Seen → Type 0
IsSeenOf None None = ⊤
IsSeenOf (Some came) (Some seen) = IsSeen came seen
IsSeenOf came seen = ⊥

-- ---- how much there is

-- whether an event is a touch
abbrev pub is_touch : Event → Bool
is_touch (Call replica thread (askeds.Touch address mode access)) = true
is_touch event = false

-- whether an event is a release
abbrev pub is_release : Event → Bool
is_release (Call replica thread (askeds.Release size phys)) = true
is_release event = false

-- whether a dump has a frame
abbrev pub is_there : Image → Bool
is_there dump = nat_lt 0 (finite.len dump.frames)

-- how much there is before the first segment
abbrev pub nothing_yet : Sums
nothing_yet = record { segments = 0; totals = no_totals; updates = 0; reads = 0; touches = 0; releases = 0; dumps = 0; bytes = 0 }

-- how much there is so far
abbrev pub sums_in : Option ChainState → Sums
sums_in None = nothing_yet
sums_in (Some last) = last.sums

-- with a segment more, of which so much is counted, and which so many bytes spell: the calls of its order, the updates among them, which are its log,
-- and the others
abbrev pub sums_after : Sums → Recording → Met → ℕ → Sums
sums_after sums segment met bytes = record {
  segments = sum_up sums.segments 1;
  totals = totals_with sums.totals (recorded_order segment) met;
  updates = sum_up sums.updates (length segment.log);
  reads = sum_up sums.reads (length (recorded_order segment) - length segment.log);
  touches = sum_up sums.touches (count_by is_touch segment.events);
  releases = sum_up sums.releases (count_by is_release segment.events);
  dumps = sum_up sums.dumps (count_by is_there segment.dumps);
  bytes = sum_up sums.bytes bytes;
}

-- ---- one segment more

-- the space with which the chain begins, where its first segment has a start, as this segment comes next
abbrev pub began_with : Option ChainState → Recording → Option Space
began_with None segment = option_map (λ start. start_space segment.layout.depth (Some start)) segment.start
began_with (Some last) segment = last.began

-- what is come to with a segment more, of which so much is counted, and which so many bytes spell
abbrev pub state_after : Option ChainState → Recording → Met → ℕ → ChainState
state_after came segment met bytes = record {
  run = run_after (run_in came) segment;
  began = began_with came segment;
  sums = sums_after (sums_in came) segment met bytes;
}

-- how much a chain has whose segments have come to this
abbrev pub counts_of : ChainState → ChainCounts
counts_of last = record {
  segments = last.sums.segments;
  calls = last.sums.totals.calls;
  updates = last.sums.updates;
  reads = last.sums.reads;
  touches = last.sums.touches;
  releases = last.sums.releases;
  dumps = last.sums.dumps;
  replicas = last.run.trace.layout.replicas;
  pages = length (pages (end_of last.run));
  overlapping = last.sums.totals.met.overlapping;
  beside = last.sums.totals.met.beside;
  since_open = last.sums.totals.met.since_open;
  since_kept = last.sums.totals.met.since_kept;
  since_lagging = last.sums.totals.met.since_lagging;
  repeated = last.sums.totals.met.repeated;
}
