-- What is found of a chain without a fault: segments without a fault, and so a right run.
use Rattle.std.proofs.Common.{◌≡◌, ℕ, List, [], ◌∷◌, map, Option, Some, None, refl, ap, sym, subst}
use Rattle.std.specs.Prelude.{All}
use Rattle.std.proofs.lemmas.List.Elements.{All-nil, All-cons}
use Rattle.vs_types.specs.Config.{Layout}
use Rattle.vs_types.specs.Space.{Space, IsSpace}
use Rattle.nr_trace.specs.Recording.{Recording}
use Rattle.nr_trace.specs.Calls.{IsWellFormedHistory}
use Rattle.nr_trace.proofs.LawsOfHistories.{history_if_faultless}
use Rattle.nr_trace.specs.Run.{Run, end_of, IsOrderly}
use Rattle.nr_trace.proofs.Orderly.{clean_is_orderly, orderly_both, space_of_both}
use Rattle.nr_touch.proofs.StaysSpace.{stays_space}
use Rattle.nr_audit.specs.Segments.{run_after}
use Rattle.nr_audit.specs.Start.{begins_in, first_space}
use Rattle.nr_audit.specs.Faults.{IsSoundAfter}
use Rattle.nr_audit.proofs.Judgements.{clean_of, faultless_of, releases_of}
use Rattle.nr_chain.specs.Bytes.{SpellAll, EndsWith, GoesOnSo}
use Rattle.nr_chain.specs.Headline.{traces, GoesOnIn, IsRightChain}
use Rattle.nr_chain.specs.Joined.{Segment}
use Rattle.nr_chain.specs.Run.{AreFaultlessFrom, AreRightFrom, space_behind}
use Rattle.nr_chain.proofs.Chains.{right_run}
use Rattle.nr_chain.proofs.Faultless.{right_all}
use Rattle.nr_chain.proofs.OneChain.{one_chain}
use Rattle.nr_chain.proofs.Restarts.{begins_in as begins_in_start}
use Rattle.nr_chain.proofs.Started.{goes_on_in, started_joined, AreStarted}
use Rattle.nr_chain.proofs.TouchedChains.{touches_of, AreTouchedRight}
use Rattle.nr_chain.proofs.TouchedChains.{releases_of as right_releases}

record IsFound (run : Run) (bytes : List ℕ) (orders : List (List ℕ)) (segments : List Segment) : Type 0 where
  spelled : SpellAll (Some run.trace.layout) bytes (traces segments)
  ordered : orders ≡ map (λ segment. segment.order) segments
  faultless : AreFaultlessFrom (end_of run) run.trace.layout segments
  touched : AreTouchedRight run segments
  started : AreStarted run.trace.layout.depth (end_of run) segments
  histories : All (λ segment. IsWellFormedHistory segment.trace) segments
  layouts : All (λ segment. segment.trace.layout ≡ run.trace.layout) segments

-- a segment without a fault
history_of : (before : Option Run) (segment : Recording) → IsSoundAfter before segment → IsWellFormedHistory segment
history_of before segment sound = history_if_faultless (begins_in before segment) segment (faultless_of before segment sound.faultless)

found_none : (run : Run) (bytes : List ℕ) → EndsWith (Some run) bytes None → IsFound run bytes [] []
found_none run [] end = record {
  spelled = refl;
  ordered = refl;
  faultless = tt;
  touched = tt;
  started = tt;
  histories = All-nil (λ (s : Segment). IsWellFormedHistory s.trace);
  layouts = All-nil (λ (s : Segment). s.trace.layout ≡ run.trace.layout);
}
found_none run (x ∷ bytes) end = absurd end

-- the space after the run with a segment more is that after the segment
next_space : (run : Run) (segment : Recording) (order : List ℕ) → segment.layout ≡ run.trace.layout → IsOrderly run.trace
    → end_of (run_after (Some run) segment) ≡ space_behind (end_of run) (record { trace = segment; order = order })
next_space run segment order same orderly = space_of_both run.start run.trace segment same orderly

found_behind : (run : Run) (bytes : List ℕ) (orders : List (List ℕ)) → IsOrderly run.trace → IsSpace run.trace.layout.depth (end_of run)
    → GoesOnSo (Some run) bytes orders None → (segments : List Segment) × IsFound run bytes orders segments
found_behind run bytes [] orderly is end = ([], found_none run bytes end)
found_behind run bytes (order ∷ more) orderly is (segment, rest, begins, sound, same, next) =
    let layout : segment.layout ≡ run.trace.layout = sym begins.spelled.follows in
    let own_is : IsSpace segment.layout.depth (end_of run) = subst (λ (l : Layout). IsSpace l.depth (end_of run)) (sym layout) is in
    let own : Segment = record { trace = segment; order = order } in
    let space = next_space run segment order layout orderly in
    let next_is : IsSpace run.trace.layout.depth (end_of (run_after (Some run) segment)) =
    subst (IsSpace run.trace.layout.depth) (sym space)
    (subst (λ (l : Layout). IsSpace l.depth (space_behind (end_of run) own)) layout
    (stays_space segment begins.spelled.in_range (end_of run) own_is segment.log)) in
    let (segments, are) = found_behind (run_after (Some run) segment) rest more
    (orderly_both run.trace segment orderly (clean_is_orderly segment (clean_of (Some run) segment sound))) next_is next in (
      own ∷ segments,
      record {
        spelled = (rest, begins, subst (λ (l : Layout). SpellAll (Some l) rest (traces segments)) (sym layout) are.spelled);
        ordered = ap (λ orders. order ∷ orders) are.ordered;
        faultless = (
          layout,
          faultless_of (Some run) segment sound.faultless,
          same,
          subst (λ (s : Space). AreFaultlessFrom s run.trace.layout segments) space are.faultless,
        );
        touched = (sound.touches, releases_of (Some run) segment sound, are.touched);
        started = (
          subst (λ (l : Layout). GoesOnIn l.depth segment.start (end_of run)) layout
              (goes_on_in segment run begins.spelled.in_range own_is sound),
          subst (λ (s : Space). AreStarted run.trace.layout.depth s segments) space are.started,
        );
        histories = All-cons (λ (s : Segment). IsWellFormedHistory s.trace) own segments (history_of (Some run) segment sound) are.histories;
        layouts = All-cons (λ (s : Segment). s.trace.layout ≡ run.trace.layout) own segments layout are.layouts;
      },
    )

pub right_chain : (bytes : List ℕ) (orders : List (List ℕ)) → GoesOnSo None bytes orders None → IsRightChain bytes orders
right_chain bytes [] end = absurd end
right_chain bytes (order ∷ more) (segment, rest, begins, sound, same, next) =
    let start = first_space None segment in
    let own_is = (begins_in_start segment begins.spelled.in_range sound).0 in
    let (segments, are) = found_behind (run_after None segment) rest more (clean_is_orderly segment (clean_of None segment sound))
    (stays_space segment begins.spelled.in_range start own_is segment.log) next in
    let first : Segment = record { trace = segment; order = order } in
    let all : AreFaultlessFrom start segment.layout (first ∷ segments) = (refl, faultless_of None segment sound.faultless, same, are.faultless) in
    let right : AreRightFrom start segment.layout (first ∷ segments) = right_all start segment.layout (first ∷ segments) all in
    record {
      first = first;
      more = segments;
      spelled = (rest, begins, are.spelled);
      no_other = λ other others spells. one_chain None bytes (other ∷ others) (segment ∷ traces segments) spells (rest, begins, are.spelled);
      ordered = ap (λ orders. order ∷ orders) are.ordered;
      layouts = are.layouts;
      histories = All-cons (λ (s : Segment). IsWellFormedHistory s.trace) first segments (history_of None segment sound) are.histories;
      start = start;
      is_space = own_is;
      begins = (begins_in_start segment begins.spelled.in_range sound).1;
      goes_on = started_joined start first segments right.1 right.2 are.started;
      run = right_run start first segments right;
      touches = touches_of start first segments right.1 right.2 are.touched sound.touches;
      releases = right_releases start first segments right.1 right.2 are.touched (releases_of None segment sound);
    }
