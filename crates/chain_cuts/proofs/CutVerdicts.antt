-- A run as one segment, and the same run cut: the one is sound where the other is.
use Rattle.std.proofs.Common.{◌≡◌, ℕ, List, [], ◌∷◌, Option, Some, None, refl, ap, sym, ◌∙◌, subst}
use Rattle.vs_types.specs.Config.{Layout}
use Rattle.vs_types.specs.Space.{Space}
use Rattle.nr_trace.specs.Recording.{Recording}
use Rattle.nr_trace.specs.Laws.{IsFaultlessFrom}
use Rattle.nr_trace.specs.Orders.{recorded_order}
use Rattle.nr_trace.proofs.LawsOfDumps.{clean_if_faultless}
use Rattle.nr_trace.specs.Versions.{Follows}
use Rattle.nr_trace.specs.declared.formats.version.Form.TheVariants as forms
use Rattle.nr_trace.specs.Run.{Run, end_of, IsOrderly}
use Rattle.nr_trace.proofs.Associated.{joined_associate}
use Rattle.nr_trace.proofs.Orderly.{clean_is_orderly, orderly_both}
use Rattle.nr_trace.proofs.Orderly.{space_of_both as ends_so}
use Rattle.nr_audit.specs.Start.{begins_in, BeginsRight}
use Rattle.nr_audit.specs.Releases.{HasRightReleases}
use Rattle.nr_audit.specs.Touches.{HasRightTouches}
use Rattle.nr_audit.specs.Faults.{IsSoundAfter}
use Rattle.nr_audit.specs.Segments.{last_space, run_after}
use Rattle.nr_chain.specs.Bytes.{layout_before, SpellAll, SpellsChain, GoesOnSo}
use Rattle.chain_cuts.specs.Cut.{orders_of, AreCut, AreRecorded, AreSoundAfter, HasNoDumps, HaveAllCaughtUp, HaveCaughtUp, HaveNoStarts, IsCutAt}
use Rattle.chain_cuts.specs.Cut.{IsSameRun, MayCome}
use Rattle.nr_chain.specs.Headline.{traces}
use Rattle.nr_trace.specs.Joined.{joined_traces}
use Rattle.nr_chain.specs.Joined.{Segment, both, joined}
use Rattle.nr_chain.specs.Run.{AreFaultlessFrom}
use Rattle.nr_audit.proofs.Judgements.{begins_of, clean_of, faultless_of, releases_of, sound_by}
use Rattle.chain_cuts.proofs.Cuts.{faultless_apart, faultless_both, whole_from_segments}
use Rattle.nr_chain.proofs.OneChain.{one_front}
use Rattle.chain_cuts.proofs.SameRuns.{same_back, sound_as_same}
use Rattle.chain_cuts.proofs.ReleasesApart.{releases_apart, releases_as_one}
use Rattle.chain_cuts.proofs.TouchesApart.{touches_apart, touches_as_one}

-- the joined run begins as the first one
same_first : (before : Option Run) (first second : Recording) → begins_in before (joined_traces first second) ≡ begins_in before first
same_first None first second = refl
same_first (Some run) first second = refl

-- the space after a run with a segment more
end_after : (before : Option Run) (segment : Recording) → MayCome before segment.layout → end_of (run_after before segment) ≡ last_space before segment
end_after None segment may = refl
end_after (Some run) segment (orderly, layout) = ends_so run.start run.trace segment layout orderly

-- it is orderly, and laid out as the segment
comes_after : (before : Option Run) (segment : Recording) → MayCome before segment.layout → IsOrderly segment
    → IsOrderly (run_after before segment).trace × (segment.layout ≡ (run_after before segment).trace.layout)
comes_after None segment may own = (own, refl)
comes_after (Some run) segment (orderly, layout) own = (orderly_both run.trace segment orderly own, layout)

-- a run with two segments more
run_after_both : (before : Option Run) (first second : Recording)
    → run_after before (joined_traces first second) ≡ run_after (Some (run_after before first)) second
run_after_both None first second = refl
run_after_both (Some run) first second =
    ap (λ (trace : Recording). let it : Run = record { start = run.start; trace = trace } in it) (sym (joined_associate run.trace first second))

module _ (before : Option Run) (first next : Segment) (may : MayCome before first.trace.layout) (same_layout : next.trace.layout ≡ first.trace.layout)
    (closed : IsCutAt first.trace next.trace) (none : HasNoDumps first.trace) where
  abbrev whole : Recording
  whole = joined_traces first.trace next.trace

  abbrev start : Space
  start = begins_in before first.trace

  abbrev so_far : Run
  so_far = run_after before first.trace

  pub sound_both : IsSoundAfter before first.trace → IsSoundAfter (Some so_far) next.trace → IsSoundAfter before whole
  sound_both front rest = sound_by before whole (begins_of before first.trace front.faultless)
      (subst (λ (space : Space). IsFaultlessFrom space whole) (sym (same_first before first.trace next.trace)) clean) touches releases where
        clean_front : IsFaultlessFrom start first.trace
        clean_front = faultless_of before first.trace front.faultless

        clean : IsFaultlessFrom start whole
        clean =
            faultless_both start first next same_layout closed none clean_front
            (subst (λ (space : Space). IsFaultlessFrom space next.trace) (end_after before first.trace may)
            (faultless_of (Some so_far) next.trace rest.faultless))

        touches : HasRightTouches before (begins_in before whole) whole
        touches =
            subst (λ (space : Space). HasRightTouches before space whole) (sym (same_first before first.trace next.trace))
            (touches_as_one start first.trace next.trace same_layout (clean_if_faultless start first.trace clean_front) before may
            (front.touches, λ touch has. rest.touches touch has))

        releases : HasRightReleases before (begins_in before whole) whole
        releases =
            subst (λ (space : Space). HasRightReleases before space whole) (sym (same_first before first.trace next.trace))
            (releases_as_one start first.trace next.trace same_layout (clean_if_faultless start first.trace clean_front) before may (
              releases_of before first.trace front,
              subst (λ (space : Space). HasRightReleases (Some so_far) space next.trace) (end_after before first.trace may)
                  (releases_of (Some so_far) next.trace rest),
            ))

  pub sound_apart : next.trace.start ≡ None → HaveCaughtUp first.trace next.trace → IsSoundAfter before whole
      → IsSoundAfter before first.trace × IsSoundAfter (Some so_far) next.trace
  sound_apart no_start caught sound = (
    sound_by before first.trace (begins_of before whole sound.faultless) parts.0 touches.0 releases.0,
    sound_by (Some so_far) next.trace begins (subst (λ (space : Space). IsFaultlessFrom space next.trace) (sym (end_after before first.trace may)) parts.1)
        (λ touch has. touches.1 touch has)
        (subst (λ (space : Space). HasRightReleases (Some so_far) space next.trace) (sym (end_after before first.trace may)) releases.1),
  ) where
    parts : IsFaultlessFrom start first.trace × IsFaultlessFrom (last_space before first.trace) next.trace
    parts =
        faultless_apart start first next same_layout closed none
        (subst (λ (space : Space). IsFaultlessFrom space whole) (same_first before first.trace next.trace) (faultless_of before whole sound.faultless))

    touches : HasRightTouches before start first.trace × HasRightTouches (Some so_far) (last_space before first.trace) next.trace
    touches =
        touches_apart start first.trace next.trace same_layout (clean_if_faultless start first.trace parts.0) before may caught
        (subst (λ (space : Space). HasRightTouches before space whole) (same_first before first.trace next.trace) sound.touches)

    releases : HasRightReleases before start first.trace × HasRightReleases (Some so_far) (last_space before first.trace) next.trace
    releases =
        releases_apart start first.trace next.trace same_layout (clean_if_faultless start first.trace parts.0) before may
        (subst (λ (space : Space). HasRightReleases before space whole) (same_first before first.trace next.trace) (releases_of before whole sound))

    begins : BeginsRight (Some (end_of so_far)) next.trace
    begins fault (image, is, holds) = absurd (let some : None ≡ Some image = sym no_start ∙ is in cc)

-- ---- all segments

pub whole_sound : (before : Option Run) (layout : Layout) (first : Segment) (more : List Segment) → MayCome before layout → AreCut first more
    → first.trace.layout ≡ layout → AreRecorded layout more → AreSoundAfter before (first ∷ more) → IsSoundAfter before (joined first more).trace
whole_sound before layout first [] may cuts has_layout recorded (sound, rest) = sound
whole_sound before layout first (next ∷ more) may (closed, none, cuts) has_layout (next_layout, order, others) (sound, (next_sound, rest)) =
    let same_layout : next.trace.layout ≡ first.trace.layout = next_layout ∙ sym has_layout in
    let own = subst (MayCome before) (sym has_layout) may in
    whole_sound before layout (both first next) more may cuts has_layout others (
      sound_both before first next own same_layout closed none sound next_sound,
      subst (λ (run : Run). AreSoundAfter (Some run) more) (sym (run_after_both before first.trace next.trace)) rest,
    )

pub segments_sound : (before : Option Run) (layout : Layout) (first : Segment) (more : List Segment) → MayCome before layout → AreCut first more
    → first.trace.layout ≡ layout → AreRecorded layout more → HaveNoStarts more → HaveAllCaughtUp first more → IsSoundAfter before (joined first more).trace
    → AreSoundAfter before (first ∷ more)
segments_sound before layout first [] may cuts has_layout recorded starts caught sound = (sound, tt)
segments_sound before layout first (next ∷ more) may (closed, none, cuts) has_layout (next_layout, order, others) (no_start, starts) (caught, later) sound =
    let same_layout : next.trace.layout ≡ first.trace.layout = next_layout ∙ sym has_layout in
    let own = subst (MayCome before) (sym has_layout) may in
    let (whole, rest) = segments_sound before layout (both first next) more may cuts has_layout others starts later sound in
    let (front, behind) = sound_apart before first next own same_layout closed none no_start caught whole in
    (front, (behind, subst (λ (run : Run). AreSoundAfter (Some run) more) (run_after_both before first.trace next.trace) rest))

-- sound segments have no fault
faultless_behind : (run : Run) (layout : Layout) (segments : List Segment) → IsOrderly run.trace → layout ≡ run.trace.layout → AreRecorded layout segments
    → AreSoundAfter (Some run) segments → AreFaultlessFrom (end_of run) layout segments
faultless_behind run layout [] orderly same recorded sound = tt
faultless_behind run layout (segment ∷ more) orderly same (has_layout, order, others) (sound, rest) =
    let may : MayCome (Some run) segment.trace.layout = (orderly, has_layout ∙ same) in
    let (next_orderly, next_layout) = comes_after (Some run) segment.trace may (clean_is_orderly segment.trace (clean_of (Some run) segment.trace sound)) in (
      has_layout,
      faultless_of (Some run) segment.trace sound.faultless,
      order,
      subst (λ (space : Space). AreFaultlessFrom space layout more) (end_after (Some run) segment.trace may)
          (faultless_behind (run_after (Some run) segment.trace) layout more next_orderly (sym has_layout ∙ next_layout) others rest),
    )

order_of_whole : (layout : Layout) (first : Segment) (more : List Segment) → AreCut first more → AreRecorded layout (first ∷ more)
    → AreSoundAfter None (first ∷ more) → (joined first more).order ≡ recorded_order (joined first more).trace
order_of_whole layout first more cuts (has_layout, order, others) (sound, rest) =
    (whole_from_segments (begins_in None first.trace) layout first more cuts (
      has_layout,
      faultless_of None first.trace sound.faultless,
      order,
      faultless_behind (run_after None first.trace) layout more (clean_is_orderly first.trace (clean_of None first.trace sound)) (sym has_layout)
          others rest,
    )).1

-- ---- bytes

-- sound segments that bytes spell go on well
well_behind : (run : Run) (bytes : List ℕ) (layout : Layout) (segments : List Segment) → layout ≡ run.trace.layout
    → SpellAll (Some run.trace.layout) bytes (traces segments) → AreRecorded layout segments → AreSoundAfter (Some run) segments
    → GoesOnSo (Some run) bytes (orders_of segments) None
well_behind run bytes layout [] same spelled recorded sound = subst (λ (b : List ℕ). GoesOnSo (Some run) b [] None) (sym spelled) refl
well_behind run bytes layout (segment ∷ more) same (rest, begins, spelled) (has_layout, order, others) (sound, behind) = (
  segment.trace,
  rest,
  begins,
  sound,
  order,
  well_behind (run_after (Some run) segment.trace) rest layout more same
      (subst (λ (l : Layout). SpellAll (Some l) rest (traces more)) (has_layout ∙ same) spelled) others behind,
)

goes_well : (bytes : List ℕ) (layout : Layout) (first : Segment) (more : List Segment) → SpellsChain bytes first.trace (traces more)
    → AreRecorded layout (first ∷ more) → AreSoundAfter None (first ∷ more) → GoesOnSo None bytes (orders_of (first ∷ more)) None
goes_well bytes layout first more (rest, begins, spelled) (has_layout, order, others) (sound, behind) =
    (first.trace, rest, begins, sound, order, well_behind (run_after None first.trace) rest layout more (sym has_layout) spelled others behind)

-- the layout before the next segment
layout_next : (before : Option Run) (segment : Recording) → Follows (forms.Segment (layout_before before)) segment.layout
    → segment.layout ≡ (run_after before segment).trace.layout
layout_next None segment follows = refl
layout_next (Some run) segment follows = sym follows

-- and those that go on well are sound
sound_if_well : (before : Option Run) (bytes : List ℕ) (segments : List Segment) → SpellAll (layout_before before) bytes (traces segments)
    → GoesOnSo before bytes (orders_of segments) None → AreSoundAfter before segments
sound_if_well before bytes [] spelled well = tt
sound_if_well before bytes (segment ∷ more) (rest, begins, spelled) (own, own_rest, starts, sound, order, next) =
    let (same_rest, same) = one_front (layout_before before) bytes own segment.trace own_rest rest starts begins in
    let behind : GoesOnSo (Some (run_after before segment.trace)) rest (orders_of more) None =
    subst (λ (b : List ℕ). GoesOnSo (Some (run_after before segment.trace)) b (orders_of more) None) same_rest
    (subst (λ (r : Recording). GoesOnSo (Some (run_after before r)) own_rest (orders_of more) None) same next) in (
      subst (IsSoundAfter before) same sound,
      sound_if_well (Some (run_after before segment.trace)) rest more
          (subst (λ (l : Layout). SpellAll (Some l) rest (traces more)) (layout_next before segment.trace begins.spelled.follows) spelled) behind,
    )

module _ (whole cut : List ℕ) (run : Recording) (first : Segment) (more : List Segment) (one : SpellsChain whole run [])
    (many : SpellsChain cut first.trace (traces more)) (alike : IsSameRun run (joined first more).trace) (cuts : AreCut first more)
    (recorded : AreRecorded first.trace.layout (first ∷ more)) where
  abbrev as_one : Segment
  as_one = record { trace = run; order = (joined first more).order }

  same_order : recorded_order run ≡ recorded_order (joined first more).trace
  same_order = ap recorded_order alike.same

  pub whole_if_cut : GoesOnSo None cut (orders_of (first ∷ more)) None → GoesOnSo None whole (as_one.order ∷ []) None
  whole_if_cut well =
      let sound : AreSoundAfter None (first ∷ more) = sound_if_well None cut (first ∷ more) many well in
      let order = order_of_whole first.trace.layout first more cuts recorded sound in
      let of_run : IsSoundAfter None run =
      sound_as_same None (joined first more).trace run (same_back run (joined first more).trace alike)
      (whole_sound None first.trace.layout first more tt cuts refl recorded.2 sound) in
      goes_well whole run.layout as_one [] one (refl, order ∙ sym same_order, tt) (of_run, tt)

  pub cut_if_whole : HaveNoStarts more → HaveAllCaughtUp first more → GoesOnSo None whole (as_one.order ∷ []) None
      → GoesOnSo None cut (orders_of (first ∷ more)) None
  cut_if_whole starts caught well =
      let sound : IsSoundAfter None run = (sound_if_well None whole (as_one ∷ []) one well).0 in
      goes_well cut first.trace.layout first more many recorded
      (segments_sound None first.trace.layout first more tt cuts refl recorded.2 starts caught (sound_as_same None run (joined first more).trace alike sound))
