-- The parts of a run make a segment.
use Rattle.std.proofs.Common.{◌≡◌, ℕ, ◌≤◌, inl, inr, List, All, length, get_or, subst, arith}
use Rattle.std.specs.Prelude.{None}
use Rattle.std.specs.List.{Any}
use Rattle.std.proofs.lemmas.Option.{get_or_from_slice_get, slice_get_within}
use Rattle.vs_types.specs.Config.{Layout, IsLayout, IsLayoutWithin}
use Rattle.vs_types.specs.declared.limits.TheConstants.{CALLS, FRAMES, LOG_PLACES}
use Rattle.vs_walk.specs.Dump.{Image}
use Rattle.nr_trace.specs.Parts.{HasFrames, IsFirstOut, IsPartsFault, LacksFrames}
use Rattle.nr_trace.specs.Recording.{Recording, IsEvent}
use Rattle.nr_trace.specs.declared.recordings.event.Event.{Event}
use Rattle.nr_trace.specs.declared.recordings.event.Event.TheVariants.{Call, Reply}
use Rattle.nr_trace.specs.declared.recordings.event.Asked.TheVariants as askeds
use Rattle.nr_trace.specs.declared.refusals.fault.Format.{Format}
use Rattle.nr_trace.specs.declared.refusals.fault.Format.TheVariants.{Truncated, BadMagic, BadVersion, BadCount, BadChain, BadStart, BadEvent, BadFrame, Trailing}
use Rattle.nr_trace.specs.declared.formats.version.Version.TheVariants.{V2, Segment}
use Rattle.nr_trace.proofs.Images.{good_counts}

-- what version 2 knows, a segment knows
pub in_segment : (layout : Layout) (event : Event) → IsEvent V2 layout event → IsEvent Segment layout event
in_segment layout (Call replica thread (askeds.Request request)) is = (is.0, is.1, is.2, tt)
in_segment layout (Call replica thread asked) is = absurd is.3
in_segment layout (Reply call at answer) is = (is.0, is.1, is.2, tt)

pub all_in_segment : (layout : Layout) (events : List Event) → All (IsEvent V2 layout) events → All (IsEvent Segment layout) events
all_in_segment layout events all = λ k d lt. in_segment layout (get_or events k d) (all k d lt)

none_lacks : (dumps : List Image) → All (HasFrames Segment) dumps → Any (LacksFrames Segment) dumps → ⊥
none_lacks dumps all lacks = lacks.4 (subst (HasFrames Segment) lacks.3 (all lacks.0 lacks.1 lacks.2))

none_out : (layout : Layout) (events : List Event) (index : ℕ) → All (IsEvent Segment layout) events → IsFirstOut Segment layout events index → ⊥
none_out layout events index all first =
    first.out (subst (IsEvent Segment layout) (get_or_from_slice_get events index first.recorded first.recorded first.stands)
    (all index first.recorded (slice_get_within events index first.recorded first.stands)))

-- a segment without a start
abbrev pub segment_with : Layout → List ℕ → List Event → List Image → Recording
segment_with layout log events dumps =
    record { version = Segment; layout = layout; start = None; log = log; events = events; dumps = dumps }

within : (layout : Layout) → IsLayout layout → IsLayoutWithin FRAMES FRAMES layout
within layout is = record {
  some_replica = is.some_replica;
  few_replicas = is.few_replicas;
  some_thread = is.some_thread;
  few_threads = omega (arith, is.few_threads);
  some_table = is.some_table;
  few_tables = omega (arith, is.few_tables);
}

-- parts of a run of a configuration
pub record AreParts (layout : Layout) (log : List ℕ) (events : List Event) (dumps : List Image) : Type 0 where
  pub layout_is : IsLayout layout
  pub few_places : length log ≤ LOG_PLACES
  pub few_events : length events ≤ CALLS
  pub known : All (IsEvent V2 layout) events
  pub one_each : length dumps ≡ layout.replicas
  pub frames : All (HasFrames Segment) dumps

-- they have no fault
pub no_parts_fault : (layout : Layout) (log : List ℕ) (events : List Event) (dumps : List Image) (fault : Format) → AreParts layout log events dumps
    → IsPartsFault (segment_with layout log events dumps) fault → ⊥
no_parts_fault layout log events dumps BadCount are wrong =
    elim wrong [
      | inl bad ↦ good_counts (segment_with layout log events dumps) (within layout are.layout_is) tt (tt, omega arith) are.few_places are.few_events
          are.one_each bad
      | inr lacks ↦ none_lacks dumps are.frames lacks.2
    ]
no_parts_fault layout log events dumps (BadEvent index) are wrong =
    none_out layout events index (all_in_segment layout events are.known) wrong.1
no_parts_fault layout log events dumps Truncated are wrong = wrong
no_parts_fault layout log events dumps BadMagic are wrong = wrong
no_parts_fault layout log events dumps BadVersion are wrong = wrong
no_parts_fault layout log events dumps BadChain are wrong = wrong
no_parts_fault layout log events dumps (BadStart index) are wrong = wrong
no_parts_fault layout log events dumps (BadFrame replica index) are wrong = wrong
no_parts_fault layout log events dumps Trailing are wrong = wrong
