-- A trace is a first segment without a start and without touches.
use Rattle.std.proofs.Common.{◌≡◌, ℕ, ◌≤◌, IsSome, Option, Some, None, refl, sym, ap, subst, arith}
use Rattle.std.specs.Prelude.{IfSome, slice_get, option_and_then}
use Rattle.std.proofs.lemmas.Option.{get_or_from_slice_get, slice_get_within}
use Rattle.vs_types.specs.Config.{Layout}
use Rattle.vs_types.specs.Space.{no_pages}
use Rattle.vs_walk.specs.Dump.{Image}
use Rattle.nr_trace.specs.Calls.{made_by, unordered_in, Invocation, IsTouch}
use Rattle.nr_trace.specs.Faults.{HasFaultFrom, IsFirst}
use Rattle.nr_trace.specs.Laws.{IsFaultless}
use Rattle.nr_trace.specs.Recording.{start_frames, IsEvent, IsRecording, IsStart, Recording}
use Rattle.nr_trace.specs.Versions.{most_start, IsVersionOf, KnowsTouch}
use Rattle.nr_trace.specs.declared.recordings.event.Event.{Event}
use Rattle.nr_trace.specs.declared.recordings.event.Event.TheVariants as events
use Rattle.nr_trace.specs.declared.recordings.event.Asked.TheVariants as askeds
use Rattle.nr_trace.specs.declared.refusals.fault.Fault.{Fault}
use Rattle.nr_trace.specs.declared.refusals.fault.Fault.TheVariants.{StartMissing, StartShared, StartReserved, StartStray, StartBeyond, StartDiffers, Stale, Reachable}
use Rattle.nr_trace.specs.declared.formats.version.Form.TheVariants as forms
use Rattle.nr_trace.specs.declared.formats.version.Version.{Version}
use Rattle.nr_trace.specs.declared.formats.version.Version.TheVariants as versions
use Rattle.nr_audit.specs.Faults.{HasFaultAfter, HasNoFaultAfter, IsFirstAfter, IsSoundAfter}
use Rattle.nr_audit.specs.Start.{begins_in, start_space}
use Rattle.nr_audit.specs.Verdict.{IsTrace}
use Rattle.nr_audit.proofs.Judgements.{no_touches}
use Rattle.nr_audit.proofs.ReleaseLists.{no_releases}
use Rattle.nr_audit.proofs.FirstFaults.{within}

-- ---- what a trace has not

none_most : (version : Version) → IsVersionOf forms.Trace version → most_start version ≡ 0
none_most versions.Segment of_form = absurd of_form
none_most _ of_form = refl

empty : (start : Option Image) → IfSome start IsStart → start_frames start ≤ 0 → start ≡ None
empty None is few = refl
empty (Some image) is few = absurd (let some = is.some_frame in omega (arith, some, few))

pub no_start : (trace : Recording) → IsTrace trace → trace.start ≡ None
no_start trace is = empty trace.start is.in_range.start
    (subst (λ n. start_frames trace.start ≤ n) (none_most trace.version is.of_form) is.in_range.few_start)

unknown : (version : Version) → IsVersionOf forms.Trace version → KnowsTouch version → ⊥
unknown versions.Segment of_form knows = of_form
unknown _ of_form knows = knows

no_touch_in : (version : Version) (layout : Layout) (event : Event) → IsVersionOf forms.Trace version → IsEvent version layout event
    → IsSome (option_and_then (λ (made : Invocation). unordered_in made.asked) (made_by event)) → ⊥
no_touch_in version layout (events.Call replica thread (askeds.Request request)) of_form is some = cc
no_touch_in version layout (events.Call replica thread asked) of_form is some = unknown version of_form is.3
no_touch_in version layout (events.Reply call at answer) of_form is some = cc

pub no_touch : (trace : Recording) → IsRecording trace → IsVersionOf forms.Trace trace.version → (call : ℕ) → IsTouch trace call → ⊥
no_touch trace in_range of_form call = at (slice_get trace.events call) refl where
  at : (event : Option Event) → slice_get trace.events call ≡ event
      → IsSome (option_and_then (λ (made : Invocation). unordered_in made.asked) (option_and_then made_by event)) → ⊥
  at None e some = cc
  at (Some event) e some = no_touch_in trace.version trace.layout event of_form
      (subst (IsEvent trace.version trace.layout) (get_or_from_slice_get trace.events call event event e)
      (in_range.events call event (slice_get_within trace.events call event e))) some

-- ---- so its faults are those of a trace

begins_empty : (trace : Recording) → IsTrace trace → begins_in None trace ≡ no_pages
begins_empty trace is = ap (start_space trace.layout.depth) (no_start trace is)

no_image : {A : Type 0} (trace : Recording) → IsTrace trace → (start : Image) → trace.start ≡ Some start → A
no_image trace is start there = absurd (let none = no_start trace is in cc)

of_trace : (trace : Recording) → IsTrace trace → (fault : Fault) → HasFaultAfter None trace fault → HasFaultFrom (begins_in None trace) trace fault
of_trace trace is (StartMissing number) h = no_image trace is h.0 h.1
of_trace trace is (StartShared number) h = no_image trace is h.0 h.1
of_trace trace is (StartReserved number index) h = no_image trace is h.0 h.1
of_trace trace is (StartStray number) h = no_image trace is h.0 h.1
of_trace trace is (StartBeyond base) h = no_image trace is h.0 h.1
of_trace trace is (StartDiffers address) h = no_image trace is h.0 h.1
of_trace trace is (Stale call) (touch, has, made, wrong) =
    wrong (no_touches None (begins_in None trace) trace (λ some. no_touch trace is.in_range is.of_form some.0 some.1) touch has)
of_trace trace is (Reachable call) (release, has, made, wrong) =
    no_releases None (begins_in None trace) trace (λ some. no_touch trace is.in_range is.of_form some.0 some.1) release has wrong
of_trace trace is _ h = h

from_empty : (trace : Recording) → IsTrace trace → (fault : Fault) → HasFaultAfter None trace fault → HasFaultFrom no_pages trace fault
from_empty trace is fault h = subst (λ s. HasFaultFrom s trace fault) (begins_empty trace is) (of_trace trace is fault h)

to_segment : (trace : Recording) → IsTrace trace → (fault : Fault) → HasFaultFrom no_pages trace fault → HasFaultAfter None trace fault
to_segment trace is fault h = within None trace fault (subst (λ s. HasFaultFrom s trace fault) (sym (begins_empty trace is)) h)

pub faultless_trace : (trace : Recording) → IsTrace trace → HasNoFaultAfter None trace → IsFaultless trace
faultless_trace trace is none fault h = none fault (to_segment trace is fault h)

pub sound_trace : (trace : Recording) → IsTrace trace → IsFaultless trace → IsSoundAfter None trace
sound_trace trace is none = record {
  faultless = λ fault h. none fault (from_empty trace is fault h);
  touches = no_touches None (begins_in None trace) trace (λ some. no_touch trace is.in_range is.of_form some.0 some.1);
}

pub first_of_trace : (trace : Recording) → IsTrace trace → (fault : Fault) → IsFirstAfter None trace fault → IsFirst trace fault
first_of_trace trace is fault first = record {
  holds = from_empty trace is fault first.holds;
  none_earlier = λ other h less. first.none_earlier other (to_segment trace is other h) less;
}

pub first_segment : (trace : Recording) → IsTrace trace → (fault : Fault) → IsFirst trace fault → IsFirstAfter None trace fault
first_segment trace is fault first = record {
  holds = to_segment trace is fault first.holds;
  none_earlier = λ other h less. first.none_earlier other (from_empty trace is other h) less;
}
