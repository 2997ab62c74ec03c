-- A reader that explains a chain, between two pieces. No public clause cites this file.
use Rattle.std.specs.Prelude.{◌≡◌, ℕ, List, [], length, Option, None, Some, option_map, IfSome, ⊤}
use Rattle.vs_plain.specs.Plain.{BoundedSpace}
use Rattle.nr_trace.specs.Recording.{Recording}
use Rattle.nr_trace.specs.Feed.{FedSegment, IsWhole}
use Rattle.nr_trace.specs.Feed.Fed.{Taken}
use Rattle.nr_trace.specs.FirstFault.{HasFaultAs}
use Rattle.nr_trace.specs.declared.refusals.fault.Format.TheVariants.{Truncated}
use Rattle.nr_trace.specs.declared.formats.version.Form.TheVariants as forms
use Rattle.nr_audit.specs.Start.{first_space, start_space, BeginsRight}
use Rattle.nr_audit.specs.declared.histories.past.Past.{Past}
use Rattle.nr_trace.specs.Run.{Run, end_of}
use Rattle.nr_touch.specs.Tails.{AreSound, IsSoundTail, IsTailOfRun}
use Rattle.nr_touch.specs.declared.touches.tail.Left.{Left}
use Rattle.nr_touch.specs.declared.touches.tail.Tail.{Tail}
use Rattle.vs_types.specs.Config.{Layout}
use Rattle.vs_types.specs.Space.{Space, pages}
use Rattle.nr_trace.specs.declared.refusals.fault.Fault.{Fault}
use Rattle.nr_audit.specs.Segments.{FitsLayout}
use Rattle.nr_explain.specs.Progress.{ChainState, Seen, nothing_yet, IsSeenOf}
use Rattle.nr_explain.specs.ChainEvidence.{IsShown}
use Rattle.nr_explain.specs.declared.chain.evidence.SegmentEvidence.{SegmentEvidence}
use Rattle.nr_explain.specs.declared.chain.progress.Sums.{Sums}
use Rattle.nr_explain.specs.declared.chain.explanation.ChainCounts.{ChainCounts}
use Rattle.nr_explain.specs.declared.chain.progress.Progress.{Progress}

-- what contracts see of what the segments have come to
abbrev pub state_of : Progress → Seen
state_of came = record {
  layout = came.layout;
  space = came.space.space;
  tail = came.tail;
  began = option_map (λ (space : BoundedSpace). space.space) came.began;
  sums = came.sums;
}

abbrev pub all_states : Option Progress → Option Seen
all_states last = option_map state_of last

-- the layout of the last segment, by what is kept
abbrev pub layout_seen : Option Seen → Option Layout
layout_seen seen = option_map (λ last. last.layout) seen

-- the space after it
abbrev pub space_seen : Option Seen → Option Space
space_seen seen = option_map (λ last. last.space) seen

-- how much there is so far
abbrev pub sums_seen : Option Seen → Sums
sums_seen None = nothing_yet
sums_seen (Some last) = last.sums

-- the changes that the segments leave
abbrev pub left_seen : Option Seen → List Left
left_seen None = []
left_seen (Some last) = last.tail.changes.items

-- the space with which the chain begins, where its first segment has a start, as this segment comes next
abbrev pub began_seen : Option Seen → Recording → Option Space
began_seen None segment = option_map (λ start. start_space segment.layout.depth (Some start)) segment.start
began_seen (Some last) segment = last.began

-- how much a chain has of whose segments this is kept
abbrev pub counts_seen : Seen → ChainCounts
counts_seen last = record {
  segments = last.sums.segments;
  calls = last.sums.totals.calls;
  updates = last.sums.updates;
  reads = last.sums.reads;
  touches = last.sums.touches;
  releases = last.sums.releases;
  dumps = last.sums.dumps;
  replicas = last.layout.replicas;
  pages = length (pages last.space);
  overlapping = last.sums.totals.met.overlapping;
  beside = last.sums.totals.met.beside;
  since_open = last.sums.totals.met.since_open;
  since_kept = last.sums.totals.met.since_kept;
  since_lagging = last.sums.totals.met.since_lagging;
  repeated = last.sums.totals.met.repeated;
}

-- the evidence shows the fault of a segment that comes next, by what is kept
abbrev pub IsShownSeen : Option Seen → Recording → Fault → SegmentEvidence → Type 0
IsShownSeen seen segment fault shown =
    IsShown (began_seen seen segment) (space_seen seen) (first_space (space_seen seen) segment) segment fault shown

-- what the judge takes of the segments so far is what is kept of them, and has room
pub record IsTwice (came : Progress) (past : Past) : Type 0 where
  pub space : past.space ≡ came.space
  pub left : past.tail.changes.items ≡ came.tail.changes.items
  pub tail : (run : Run) → came.space.space ≡ end_of run → IsTailOfRun run came.tail → IsTailOfRun run past.tail
  pub sound : IsSoundTail past.tail

-- what is kept of what a segment leaves: the same changes, as behind the same runs
pub record IsCopyOf (tail copied : Tail) : Type 0 where
  pub left : copied.changes.items ≡ tail.changes.items
  pub of_run : (run : Run) → IsTailOfRun run tail → IsTailOfRun run copied

abbrev pub AreTwice : Option Progress → Option Past → Type 0
AreTwice None None = ⊤
AreTwice (Some came) (Some past) = IsTwice came past
AreTwice last before = ⊥

-- what is left has room
abbrev pub HasSoundTail : Progress → Type 0
HasSoundTail came = AreSound came.tail.changes.items

-- the space after the last segment has the depth and the limit of its layout, and what is left has room
pub record FitsProgress (came : Progress) : Type 0 where
  pub space : FitsLayout came.layout came.space
  pub tail : HasSoundTail came

-- the same by the layout of a segment that comes next
pub record FitsSegment (segment : Recording) (came : Progress) : Type 0 where
  pub space : FitsLayout segment.layout came.space
  pub tail : HasSoundTail came

-- this is kept of some run
abbrev pub IsKnown : Option Progress → Type 0
IsKnown last = (came : Option ChainState) × IsSeenOf came (all_states last)

-- nothing is wrong with the start of a segment, if it has one
abbrev pub BeginsWell : Option Progress → Recording → Type 0
BeginsWell last segment = BeginsRight (space_seen (all_states last)) segment

-- the next segment is not whole, but may become so; it comes behind the last one, and what is kept of that is there twice
pub record IsReading (last : Option Progress) (before : Option Past) (bytes : List ℕ) (feed : FedSegment) : Type 0 where
  pub taken : feed.pieces ≡ Taken bytes
  pub behind : feed.before ≡ layout_seen (all_states last)
  pub not_whole : IsWhole feed → ⊥
  pub short : HasFaultAs (forms.Segment feed.before) bytes Truncated
  pub fits : IfSome last FitsProgress
  pub twice : AreTwice last before
  pub known : IsKnown last
