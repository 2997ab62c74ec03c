-- A reader of a chain between two pieces. No public clause cites this file.
use Rattle.std.specs.Prelude.{◌≡◌, ℕ, List, [], Bool, true, false, Option, option_map, IfSome}
use Rattle.vs_types.specs.Config.{Layout}
use Rattle.nr_trace.specs.Feed.{Fed, FedSegment, IsWhole}
use Rattle.nr_trace.specs.Feed.Fed.{Taken, Stopped}
use Rattle.nr_trace.specs.FirstFault.{HasFaultAs}
use Rattle.nr_trace.specs.declared.refusals.fault.Format.TheVariants.{Truncated}
use Rattle.nr_trace.specs.declared.formats.version.Form.TheVariants as forms
use Rattle.nr_audit.specs.Segments.{FitsPast}
use Rattle.nr_chain.specs.Fed.{Kept}
use Rattle.nr_chain.specs.declared.chain.Last.{Last}

-- what the last segment has come to
abbrev pub kept_by : Last → Kept
kept_by last = record { layout = last.layout; past = last.past }

-- how the segments before are laid out, by what is kept
abbrev pub layout_of : Option Kept → Option Layout
layout_of kept = option_map (λ last. last.layout) kept

abbrev pub bytes_in : Fed → List ℕ
bytes_in (Taken bytes) = bytes
bytes_in (Stopped fail) = []

-- what is kept can be gone on with under the layout
abbrev pub FitsLast : Last → Type 0
FitsLast last = FitsPast last.layout last.past

-- the next segment is not whole, but may become so; it comes behind the last one; whether it has a byte is known
pub record IsBetween (last : Option Last) (begun : Bool) (feed : FedSegment) : Type 0 where
  pub taken : feed.pieces ≡ Taken (bytes_in feed.pieces)
  pub behind : feed.before ≡ layout_of (option_map kept_by last)
  pub not_whole : IsWhole feed → ⊥
  pub short : HasFaultAs (forms.Segment feed.before) (bytes_in feed.pieces) Truncated
  pub none : begun ≡ false → bytes_in feed.pieces ≡ []
  pub some : begun ≡ true → bytes_in feed.pieces ≡ [] → ⊥
  pub fits : IfSome last FitsLast
