-- The touches and the releases of each segment are right in the whole run, where they are right behind the segments before it.
use Rattle.std.proofs.Common.{◌≡◌, ℕ, ◌+◌, ◌<◌, inl, inr, List, [], ◌∷◌, ◌++◌, length, None, Some, refl}
use Rattle.std.proofs.Common.{ap, ap₂, sym, ◌∙◌, subst, arith}
use Rattle.std.specs.Prelude.{⊤}
use Rattle.std.proofs.Math.Seq.{take-length}
use Rattle.std.proofs.lemmas.List.{length-append, length-map}
use Rattle.std.proofs.lemmas.Option.{slice_get_within}
use Rattle.vs_types.specs.Space.{Space}
use Rattle.nr_trace.specs.Recording.{Recording}
use Rattle.nr_trace.proofs.LawsOfLists.{In}
use Rattle.nr_trace.proofs.LawsOfPrecedence.{in_taken}
use Rattle.nr_trace.specs.Joined.{calls_behind, joined_traces}
use Rattle.nr_trace.specs.Run.{Run, end_of, IsOrderly}
use Rattle.nr_touch.specs.Releases.{IsReachable, IsWrongRelease}
use Rattle.nr_touch.specs.Touches.{touch_behind, IsAnsweredInTime, IsRightTouch}
use Rattle.nr_touch.specs.declared.releases.release.Release.{Release}
use Rattle.nr_touch.specs.declared.touches.touch.Touch.{Touch}
use Rattle.nr_audit.specs.Releases.{HasRightReleases}
use Rattle.nr_audit.specs.Segments.{run_after}
use Rattle.nr_audit.specs.Touches.{HasRightTouches}
use Rattle.nr_audit.proofs.ReleaseLists.{release_within}
use Rattle.nr_audit.proofs.TouchLists.{touch_within}
use Rattle.nr_chain.specs.Headline.{events_in, places_in, release_behind, HasRightReleasesIn, HasRightTouchesIn}
use Rattle.nr_chain.specs.Joined.{Segment, both, joined}
use Rattle.nr_chain.specs.Run.{AreRightFrom, IsRightFrom, space_behind}
use Rattle.nr_chain.proofs.Both.{of_log, right_both, space_behind_both}
use Rattle.nr_chain.proofs.History.{earlier_calls}
use Rattle.nr_chain.proofs.Recorded.{events_of_both}
use Rattle.nr_audit.proofs.ReleasesBehind.{found_in_time}
use Rattle.nr_chain.proofs.Touched.{in_time_as, in_time_back, right_front}

-- the touches and releases of each segment are right behind those before it
abbrev pub AreTouchedRight : Run → List Segment → Type 0
AreTouchedRight run [] = ⊤
AreTouchedRight run (segment ∷ more) =
    HasRightTouches (Some run) (end_of run) segment.trace × HasRightReleases (Some run) (end_of run) segment.trace
    × AreTouchedRight (run_after (Some run) segment.trace) more

abbrev run_of : Space → Segment → Run
run_of start segment = record { start = start; trace = segment.trace }

places_of_both : (first second : Recording) → length (joined_traces first second).log ≡ length first.log + length second.log
places_of_both first second =
    length-append first.log (calls_behind (length first.events) second.log)
    ∙ ap (λ (n : ℕ). length first.log + n) (length-map second.log (λ (call : ℕ). length first.events + call))

-- ---- behind some events and places

behind_none : (touch : Touch) → touch ≡ touch_behind 0 0 touch
behind_none touch =
    let same : (k : ℕ) → k ≡ 0 + k = λ k. omega arith in
    λ i. record touch { made = same touch.made i; answered = same touch.answered i; known = same touch.known i }

release_behind_none : (release : Release) → release_behind 0 release ≡ release
release_behind_none release = let same : 0 + release.made ≡ release.made = omega arith in λ i. record release { made = same i }

-- a release of a segment that is wrong in the run with it is wrong behind the run
module _ (run : Run) (segment : Recording) (release : Release) where
  abbrev with_segment : Recording
  with_segment = joined_traces run.trace segment

  abbrev shifted : Release
  shifted = release_behind (length run.trace.events) release

  reached_behind : IsReachable None run.start with_segment shifted → IsReachable (Some run) (end_of run) segment release
  reached_behind it = record {
    touch = record it.touch { made = release.made; answered = release.made; known = 0 };
    made = refl;
    answered = refl;
    phys = it.phys;
    finds = it.finds;
    within = it.within;
    right = inl
        (in_time_as run.start with_segment it.touch (length run.trace.events + release.made) (length run.trace.events + release.made)
        (length run.trace.log + 0) it.made it.answered (found_in_time run.start with_segment it.touch it.phys it.finds it.right));
  }

  wrong_behind : IsWrongRelease None run.start with_segment shifted → IsWrongRelease (Some run) (end_of run) segment release
  wrong_behind (inl undone) = inl undone
  wrong_behind (inr it) = inr (reached_behind it)

-- ---- a touch of the first run

module _ (start : Space) (first next : Segment) (more : List Segment) (right : IsRightFrom start first)
    (behind : AreRightFrom (space_behind start first) first.trace.layout (next ∷ more)) where
  right_with_next : IsRightFrom start (both first next)
  right_with_next = right_both start first next behind.0 right behind.1

  right_behind_next : AreRightFrom (space_behind start (both first next)) first.trace.layout more
  right_behind_next =
      subst (λ (space : Space). AreRightFrom space first.trace.layout more) (sym (space_behind_both start first next behind.0 right)) behind.2

  one_more : (event : ℕ) → event < length first.trace.events → event < length (both first next).trace.events
  one_more event low = let long = events_of_both first.trace next.trace in omega (arith, low, long)

  orderly : IsOrderly first.trace
  orderly = record {
    earlier = earlier_calls first.trace right.events;
    own = λ place call is. of_log start first next behind.0 right call
        (subst (In call) (take-length first.trace.log)
        (in_taken first.trace.log place (length first.trace.log) call (slice_get_within first.trace.log place call is) is));
  }

  right_with_more : (touch : Touch) → touch.made < length first.trace.events → IsRightTouch start first.trace touch
      → IsRightTouch start (both first next).trace touch
  right_with_more touch low is =
      right_front start first.trace next.trace behind.0 orderly touch low is

  in_time_before : (touch : Touch) → touch.answered < length first.trace.events → IsAnsweredInTime start (both first next).trace touch
      → IsAnsweredInTime start first.trace touch
  in_time_before touch low is = in_time_back start first.trace next.trace behind.0 orderly touch low is

right_on : (start : Space) (first : Segment) (more : List Segment) → IsRightFrom start first
    → AreRightFrom (space_behind start first) first.trace.layout more → (touch : Touch) → touch.made < length first.trace.events
    → IsRightTouch start first.trace touch → IsRightTouch start (joined first more).trace touch
right_on start first [] right rest touch low is = is
right_on start first (next ∷ more) right rest touch low is =
    right_on start (both first next) more (right_with_next start first next more right rest) (right_behind_next start first next more right rest) touch
    (one_more start first next more right rest touch.made low) (right_with_more start first next more right rest touch low is)

in_time_first : (start : Space) (first : Segment) (more : List Segment) → IsRightFrom start first
    → AreRightFrom (space_behind start first) first.trace.layout more → (touch : Touch) → touch.answered < length first.trace.events
    → IsAnsweredInTime start (joined first more).trace touch → IsAnsweredInTime start first.trace touch
in_time_first start first [] right rest touch low is = is
in_time_first start first (next ∷ more) right rest touch low is =
    in_time_before start first next more right rest touch low
    (in_time_first start (both first next) more (right_with_next start first next more right rest) (right_behind_next start first next more right rest) touch
    (one_more start first next more right rest touch.answered low) is)

-- a release of the first run that is wrong in the whole is wrong in the first
module _ (start : Space) (first : Segment) (more : List Segment) (right : IsRightFrom start first)
    (rest : AreRightFrom (space_behind start first) first.trace.layout more) (release : Release) (low : release.made < length first.trace.events) where
  reached_first : IsReachable None start (joined first more).trace release → IsReachable None start first.trace release
  reached_first it = record {
    touch = it.touch;
    made = it.made;
    answered = it.answered;
    phys = it.phys;
    finds = it.finds;
    within = it.within;
    right = inl
        (in_time_first start first more right rest it.touch (let own = it.answered in omega (arith, low, own))
        (found_in_time start (joined first more).trace it.touch it.phys it.finds it.right));
  }

  wrong_first : IsWrongRelease None start (joined first more).trace release → IsWrongRelease None start first.trace release
  wrong_first (inl undone) = inl undone
  wrong_first (inr it) = inr (reached_first it)

-- ---- the segments behind the first one

touches_behind : (start : Space) (first : Segment) (front rest : List Segment) (segment : Segment) → IsRightFrom start first
    → AreRightFrom (space_behind start first) first.trace.layout (front ++ segment ∷ rest)
    → AreTouchedRight (run_of start first) (front ++ segment ∷ rest) → (events places : ℕ) → events ≡ length first.trace.events + events_in front
    → places ≡ length first.trace.log + places_in front
    → HasRightTouchesIn start (joined first (front ++ segment ∷ rest)).trace events places segment.trace
touches_behind start first [] rest segment right behind touched events places e p touch has =
    let low = touch_within segment.trace touch has in
    let long = events_of_both first.trace segment.trace in
    let here : length first.trace.events ≡ events = omega (arith, e) in
    let there : length first.trace.log ≡ places = omega (arith, p) in
    subst (λ (t : Touch). IsRightTouch start (joined first (segment ∷ rest)).trace t) (ap₂ (λ (n m : ℕ). touch_behind n m touch) here there)
    (right_on start (both first segment) rest (right_with_next start first segment rest right behind) (right_behind_next start first segment rest right behind)
    (touch_behind (length first.trace.events) (length first.trace.log) touch) (omega (arith, low, long)) (touched.0 touch has))
touches_behind start first (other ∷ front) rest segment right behind touched events places e p touch has =
    let long = events_of_both first.trace other.trace in
    let many = places_of_both first.trace other.trace in
    touches_behind start (both first other) front rest segment (right_with_next start first other (front ++ segment ∷ rest) right behind)
    (right_behind_next start first other (front ++ segment ∷ rest) right behind) touched.2 events places (omega (arith, e, long)) (omega (arith, p, many))
    touch has

releases_behind : (start : Space) (first : Segment) (front rest : List Segment) (segment : Segment) → IsRightFrom start first
    → AreRightFrom (space_behind start first) first.trace.layout (front ++ segment ∷ rest)
    → AreTouchedRight (run_of start first) (front ++ segment ∷ rest) → (events : ℕ) → events ≡ length first.trace.events + events_in front
    → HasRightReleasesIn start (joined first (front ++ segment ∷ rest)).trace events segment.trace
releases_behind start first [] rest segment right behind touched events e release has wrong =
    let low = release_within segment.trace release has in
    let long = events_of_both first.trace segment.trace in
    let here : events ≡ length first.trace.events = omega (arith, e) in
    touched.1 release has
    (wrong_behind (run_of start first) segment.trace release
    (wrong_first start (both first segment) rest (right_with_next start first segment rest right behind)
    (right_behind_next start first segment rest right behind)
    (release_behind (length first.trace.events) release) (omega (arith, low, long))
    (subst (λ (n : ℕ). IsWrongRelease None start (joined first (segment ∷ rest)).trace (release_behind n release)) here wrong)))
releases_behind start first (other ∷ front) rest segment right behind touched events e release has wrong =
    let long = events_of_both first.trace other.trace in
    releases_behind start (both first other) front rest segment (right_with_next start first other (front ++ segment ∷ rest) right behind)
    (right_behind_next start first other (front ++ segment ∷ rest) right behind) touched.2 events (omega (arith, e, long)) release has wrong

-- ---- all segments

module _ (start : Space) (first : Segment) (more : List Segment) (right : IsRightFrom start first)
    (behind : AreRightFrom (space_behind start first) first.trace.layout more) (touched : AreTouchedRight (run_of start first) more) where
  abbrev whole : Recording
  whole = (joined first more).trace

  touches_of_first : HasRightTouches None start first.trace → HasRightTouchesIn start whole 0 0 first.trace
  touches_of_first own touch has =
      subst (λ (t : Touch). IsRightTouch start whole t) (behind_none touch)
      (right_on start first more right behind touch (touch_within first.trace touch has) (own touch has))

  releases_of_first : HasRightReleases None start first.trace → HasRightReleasesIn start whole 0 first.trace
  releases_of_first own release has wrong =
      own release has
      (wrong_first start first more right behind release (release_within first.trace release has)
      (subst (λ (r : Release). IsWrongRelease None start whole r) (release_behind_none release) wrong))

  touches_of_later : (front rest : List Segment) (segment : Segment) → more ≡ front ++ segment ∷ rest
      → HasRightTouchesIn start whole (length first.trace.events + events_in front) (length first.trace.log + places_in front) segment.trace
  touches_of_later front rest segment is =
      subst (λ (ms : List Segment). HasRightTouchesIn start (joined first ms).trace (length first.trace.events + events_in front)
      (length first.trace.log + places_in front) segment.trace) (sym is)
      (touches_behind start first front rest segment right (subst (AreRightFrom (space_behind start first) first.trace.layout) is behind)
      (subst (AreTouchedRight (run_of start first)) is touched) (length first.trace.events + events_in front) (length first.trace.log + places_in front)
      refl refl)

  releases_of_later : (front rest : List Segment) (segment : Segment) → more ≡ front ++ segment ∷ rest
      → HasRightReleasesIn start whole (length first.trace.events + events_in front) segment.trace
  releases_of_later front rest segment is =
      subst (λ (ms : List Segment). HasRightReleasesIn start (joined first ms).trace (length first.trace.events + events_in front) segment.trace) (sym is)
      (releases_behind start first front rest segment right (subst (AreRightFrom (space_behind start first) first.trace.layout) is behind)
      (subst (AreTouchedRight (run_of start first)) is touched) (length first.trace.events + events_in front) refl)

  pub touches_of : HasRightTouches None start first.trace → (front rest : List Segment) (segment : Segment) → first ∷ more ≡ front ++ segment ∷ rest
      → HasRightTouchesIn start whole (events_in front) (places_in front) segment.trace
  touches_of own [] rest segment is =
      let here : first ∷ more ≡ segment ∷ rest = is in
      let head : first ≡ segment = cc in
      subst (λ (s : Segment). HasRightTouchesIn start whole 0 0 s.trace) head (touches_of_first own)
  touches_of own (other ∷ front) rest segment is =
      let here : first ∷ more ≡ other ∷ (front ++ segment ∷ rest) = is in
      let head : first ≡ other = cc in
      let tail : more ≡ front ++ segment ∷ rest = cc in
      subst (λ (s : Segment). HasRightTouchesIn start whole (length s.trace.events + events_in front) (length s.trace.log + places_in front) segment.trace) head
      (touches_of_later front rest segment tail)

  pub releases_of : HasRightReleases None start first.trace → (front rest : List Segment) (segment : Segment) → first ∷ more ≡ front ++ segment ∷ rest
      → HasRightReleasesIn start whole (events_in front) segment.trace
  releases_of own [] rest segment is =
      let here : first ∷ more ≡ segment ∷ rest = is in
      let head : first ≡ segment = cc in
      subst (λ (s : Segment). HasRightReleasesIn start whole 0 s.trace) head (releases_of_first own)
  releases_of own (other ∷ front) rest segment is =
      let here : first ∷ more ≡ other ∷ (front ++ segment ∷ rest) = is in
      let head : first ≡ other = cc in
      let tail : more ≡ front ++ segment ∷ rest = cc in
      subst (λ (s : Segment). HasRightReleasesIn start whole (length s.trace.events + events_in front) segment.trace) head
      (releases_of_later front rest segment tail)
