-- The judgement of a whole segment of a chain.
use Rattle.std.proofs.Common.{◌≡◌, ℕ, List, [], Option, Some, None, option_map, Err, refl, sym, ap, ◌∙◌, subst}
use Rattle.std.specs.Prelude.{IfSome}
use Rattle.vs_types.specs.Config.{Layout}
use Rattle.vs_types.specs.declared.requests.refusal.Fail.{Fail}
use Rattle.nr_trace.specs.Recording.{Recording}
use Rattle.nr_trace.specs.Orders.{recorded_order}
use Rattle.nr_trace.specs.Spelling.{SpellsSegment}
use Rattle.nr_trace.specs.Feed.{EndsSegment, Fed, FedSegment, IsWhole}
use Rattle.nr_trace.specs.Feed.Fed.{Taken, Stopped}
use Rattle.nr_trace.specs.Versions.{Follows}
use Rattle.nr_trace.specs.declared.refusals.fault.Format.{Format}
use Rattle.nr_trace.specs.declared.refusals.fault.Format.TheVariants.{Truncated}
use Rattle.nr_trace.specs.declared.formats.version.Form.TheVariants as forms
use Rattle.nr_trace.proofs.LawsOfFormat.{no_fault}
use Rattle.nr_audit.specs.Faults.{IsFirstAfter, IsSoundAfter}
use Rattle.nr_trace.specs.Run.{Run}
use Rattle.nr_audit.specs.Segments.{run_after, FitsPast, IsBehind, IsKept}
use Rattle.nr_audit.specs.Met.{HasMet}
use Rattle.nr_audit.specs.Start.{begins_in}
use Rattle.nr_audit.specs.declared.histories.met.Met.{Met}
use Rattle.nr_audit.specs.declared.histories.past.Past.{Past}
use Rattle.nr_trace.specs.declared.refusals.fault.Fault.{Fault}
use Rattle.nr_chain.specs.Fed.{IsKeptOf}
use Rattle.nr_chain.specs.declared.chain.Last.{Last}
use Rattle.nr_chain.specs.declared.chain.Step.TheVariants.{Right, Wrong}
use Rattle.nr_chain.specs.inside.Between.{bytes_in, kept_by, layout_of, FitsLast}
use Rattle.nr_chain.specs.inside.Steps.{JudgesWhole}
use Rattle.nr_chain.proofs.Betweens.{layouts_alike}

-- a whole segment is no end that is refused
not_refused_of : (before : Option Layout) (pieces : Fed) (fail : Fail Format) → IsWhole (record { before = before; pieces = pieces })
    → EndsSegment (record { before = before; pieces = pieces }) (Err fail) → ⊥
not_refused_of before (Taken bytes) fail (segment, spelled) (is, fault) = no_fault (forms.Segment before) bytes segment Truncated spelled fault
not_refused_of before (Stopped other) fail whole ends = whole

pub not_refused : (feed : FedSegment) (fail : Fail Format) → IsWhole feed → EndsSegment feed (Err fail) → ⊥
not_refused feed fail whole ends = not_refused_of feed.before feed.pieces fail whole ends

-- what is kept of the last segment fits the next one, which is laid out as that
pub fits_next : (last : Option Last) (layout : Layout) → IfSome last FitsLast
    → Follows (forms.Segment (layout_of (option_map kept_by last))) layout
    → IfSome (option_map (λ (l : Last). l.past) last) (FitsPast layout)
fits_next None layout fits follows = tt
fits_next (Some last) layout fits same = subst (λ (l : Layout). FitsPast l last.past) same fits

-- what is kept before a whole segment fits it
pub fits_before : (last : Option Last) (before : Option Past) (feed : FedSegment) (segment : Recording)
    → before ≡ option_map (λ (l : Last). l.past) last → feed.before ≡ layout_of (option_map kept_by last) → IfSome last FitsLast
    → SpellsSegment feed.before (bytes_in feed.pieces) segment → IfSome before (FitsPast segment.layout)
fits_before last before feed segment before_is behind fits spelled =
    subst (λ (b : Option Past). IfSome b (FitsPast segment.layout)) (sym before_is)
    (fits_next last segment.layout fits (subst (λ (b : Option Layout). Follows (forms.Segment b) segment.layout) behind spelled.follows))

-- a segment comes behind the run of which this is kept
is_behind : (run : Option Run) (last : Option Last) (segment : Recording) → IsKeptOf run (option_map kept_by last)
    → Follows (forms.Segment (layout_of (option_map kept_by last))) segment.layout → IsBehind run (option_map (λ (l : Last). l.past) last) segment
is_behind None None segment kept follows = tt
is_behind (Some run) (Some last) segment (layout, kept) same = (kept, sym same ∙ layout)
is_behind None (Some last) segment kept follows = absurd kept
is_behind (Some run) None segment kept follows = absurd kept

pub behind : (run : Option Run) (last : Option Last) (before : Option Past) (feed : FedSegment) (segment : Recording)
    → before ≡ option_map (λ (l : Last). l.past) last → feed.before ≡ layout_of (option_map kept_by last) → IsKeptOf run (option_map kept_by last)
    → SpellsSegment feed.before (bytes_in feed.pieces) segment → IsBehind run before segment
behind run last before feed segment before_is layouts kept spelled =
    subst (λ (b : Option Past). IsBehind run b segment) (sym before_is)
    (is_behind run last segment kept (subst (λ (b : Option Layout). Follows (forms.Segment b) segment.layout) layouts spelled.follows))

-- the layout of a run with a segment more is that of the segment
layout_after : (run : Option Run) (last : Option Last) (segment : Recording) → IsKeptOf run (option_map kept_by last)
    → Follows (forms.Segment (layout_of (option_map kept_by last))) segment.layout → segment.layout ≡ (run_after run segment).trace.layout
layout_after None None segment kept follows = refl
layout_after (Some run) (Some last) segment (layout, kept) same = sym same ∙ layout
layout_after None (Some last) segment kept follows = absurd kept
layout_after (Some run) None segment kept follows = absurd kept

-- a whole segment that is right, and the next one begins
pub judged_right : (run : Option Run) (last : Option Last) (feed next : FedSegment) (segment : Recording) (layout : Layout) (count : ℕ)
    (order : List ℕ) (past : Past) (met : Option Met) → IsKeptOf run (option_map kept_by last)
    → feed.before ≡ layout_of (option_map kept_by last) → layout ≡ segment.layout → SpellsSegment feed.before (bytes_in feed.pieces) segment
    → IsSoundAfter run segment → order ≡ recorded_order segment → IsKept (run_after run segment) past
    → IfSome met (HasMet run (begins_in run segment) segment) → next ≡ record { before = Some layout; pieces = Taken [] }
    → JudgesWhole run (bytes_in feed.pieces) count (Right count order met
    (record { kept = Some (record { layout = layout; past = past }); bytes = bytes_in next.pieces }))
judged_right run last feed next segment layout count order past met kept layouts layout_is spelled sound order_is is counted fresh =
    let follows = subst (λ (b : Option Layout). Follows (forms.Segment b) segment.layout) layouts spelled.follows in (
      refl,
      segment,
      subst (λ (b : Option Layout). SpellsSegment b (bytes_in feed.pieces) segment) (layouts ∙ layouts_alike run (option_map kept_by last) kept) spelled,
      sound,
      order_is,
      (layout_is ∙ layout_after run last segment kept follows, is),
      ap (λ (f : FedSegment). bytes_in f.pieces) fresh,
      counted,
    )

-- a whole segment that has a fault
pub judged_wrong : (run : Option Run) (last : Option Last) (feed : FedSegment) (segment : Recording) (count : ℕ) (fault : Fault)
    → IsKeptOf run (option_map kept_by last) → feed.before ≡ layout_of (option_map kept_by last)
    → SpellsSegment feed.before (bytes_in feed.pieces) segment → IsFirstAfter run segment fault
    → JudgesWhole run (bytes_in feed.pieces) count (Wrong fault)
judged_wrong run last feed segment count fault kept layouts spelled first = (
  segment,
  subst (λ (b : Option Layout). SpellsSegment b (bytes_in feed.pieces) segment) (layouts ∙ layouts_alike run (option_map kept_by last) kept) spelled,
  first,
)
