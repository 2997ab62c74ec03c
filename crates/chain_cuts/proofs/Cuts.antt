-- A run that is cut in several places.
use Rattle.std.proofs.Common.{◌≡◌, ℕ, List, [], ◌∷◌, ◌++◌, length, ap₂, sym, ◌∙◌, subst}
use Rattle.std.specs.Prelude.{⊤}
use Rattle.vs_types.specs.Config.{Layout}
use Rattle.vs_types.specs.Space.{Space}
use Rattle.nr_trace.specs.Orders.{recorded_order}
use Rattle.nr_trace.specs.Laws.{IsFaultlessFrom}
use Rattle.nr_trace.proofs.LawsOfDumps.{clean_if_faultless}
use Rattle.chain_cuts.specs.Cut.{AreCut, AreRecorded, HasNoDumps, IsCutAt}
use Rattle.nr_trace.specs.Joined.{calls_behind, joined_traces}
use Rattle.nr_chain.specs.Joined.{Segment, both, joined}
use Rattle.nr_chain.specs.Run.{space_behind, AreFaultlessFrom}
use Rattle.nr_trace.proofs.Orders.{space_both}
use Rattle.nr_chain.proofs.Recorded.{recorded_both}
use Rattle.chain_cuts.proofs.CutRest.{log_within}
use Rattle.chain_cuts.proofs.CutWhole.{cut}
use Rattle.chain_cuts.proofs.SameRuns.{faultless_without, without_faultless}

module _ (start : Space) (first next : Segment) (same_layout : next.trace.layout ≡ first.trace.layout) (closed : IsCutAt first.trace next.trace)
    (none : HasNoDumps first.trace) where
  pub faultless_both : IsFaultlessFrom start first.trace → IsFaultlessFrom (space_behind start first) next.trace
      → IsFaultlessFrom start (joined_traces first.trace next.trace)
  faultless_both front rest = (cut start first.trace next.trace same_layout closed).1 (without_faultless start first.trace front, rest)

  pub faultless_apart : IsFaultlessFrom start (joined_traces first.trace next.trace)
      → IsFaultlessFrom start first.trace × IsFaultlessFrom (space_behind start first) next.trace
  faultless_apart whole =
      let parts = (cut start first.trace next.trace same_layout closed).0 whole in
      (faultless_without start first.trace none parts.0, parts.1)

  pub space_of_both : IsFaultlessFrom start first.trace → space_behind start (both first next) ≡ space_behind (space_behind start first) next
  space_of_both front =
      space_both start first.trace next.trace first.trace.log next.trace.log same_layout
      (log_within start first.trace next.trace same_layout (clean_if_faultless start first.trace front))

  pub order_of_both : IsFaultlessFrom start first.trace → first.order ≡ recorded_order first.trace → next.order ≡ recorded_order next.trace
      → (both first next).order ≡ recorded_order (joined_traces first.trace next.trace)
  order_of_both front first_is next_is =
      ap₂ (λ (one two : List ℕ). one ++ calls_behind (length first.trace.events) two) first_is next_is
      ∙ sym (recorded_both first.trace next.trace (clean_if_faultless start first.trace front))

-- ---- all segments

pub whole_from_segments : (start : Space) (layout : Layout) (first : Segment) (more : List Segment) → AreCut first more
    → AreFaultlessFrom start layout (first ∷ more)
    → IsFaultlessFrom start (joined first more).trace × ((joined first more).order ≡ recorded_order (joined first more).trace)
whole_from_segments start layout first [] cuts (has_layout, faultless, recorded, none_more) = (faultless, recorded)
whole_from_segments start layout first (next ∷ more) (closed, none, cuts) (has_layout, front, recorded, (next_layout, rest, next_recorded, others)) =
    let same_layout : next.trace.layout ≡ first.trace.layout = next_layout ∙ sym has_layout in
    whole_from_segments start layout (both first next) more cuts (
      has_layout,
      faultless_both start first next same_layout closed none front rest,
      order_of_both start first next same_layout closed none front recorded next_recorded,
      subst (λ (space : Space). AreFaultlessFrom space layout more) (sym (space_of_both start first next same_layout closed none front)) others,
    )

-- each is without a fault
abbrev AreClean : Space → List Segment → Type 0
AreClean start [] = ⊤
AreClean start (segment ∷ more) = IsFaultlessFrom start segment.trace × AreClean (space_behind start segment) more

abbrev HaveLayout : Layout → List Segment → Type 0
HaveLayout layout [] = ⊤
HaveLayout layout (segment ∷ more) = (segment.trace.layout ≡ layout) × HaveLayout layout more

clean_from_whole : (start : Space) (layout : Layout) (first : Segment) (more : List Segment) → AreCut first more → HaveLayout layout (first ∷ more)
    → IsFaultlessFrom start (joined first more).trace → AreClean start (first ∷ more)
clean_from_whole start layout first [] cuts has faultless = (faultless, tt)
clean_from_whole start layout first (next ∷ more) (closed, none, cuts) (has_layout, (next_layout, others)) faultless =
    let same_layout : next.trace.layout ≡ first.trace.layout = next_layout ∙ sym has_layout in
    let (whole, rest) = clean_from_whole start layout (both first next) more cuts (has_layout, others) faultless in
    let (front, behind) = faultless_apart start first next same_layout closed none whole in
    (front, (behind, subst (λ (space : Space). AreClean space more) (space_of_both start first next same_layout closed none front) rest))

layouts : (layout : Layout) (segments : List Segment) → AreRecorded layout segments → HaveLayout layout segments
layouts layout [] recorded = tt
layouts layout (segment ∷ more) (has_layout, order, rest) = (has_layout, layouts layout more rest)

faultless_all : (start : Space) (layout : Layout) (segments : List Segment) → AreRecorded layout segments → AreClean start segments
    → AreFaultlessFrom start layout segments
faultless_all start layout [] recorded clean = tt
faultless_all start layout (segment ∷ more) (has_layout, order, rest) (clean, others) =
    (has_layout, clean, order, faultless_all (space_behind start segment) layout more rest others)

pub segments_from_whole : (start : Space) (layout : Layout) (first : Segment) (more : List Segment) → AreCut first more → AreRecorded layout (first ∷ more)
    → IsFaultlessFrom start (joined first more).trace → AreFaultlessFrom start layout (first ∷ more)
segments_from_whole start layout first more cuts recorded faultless =
    faultless_all start layout (first ∷ more) recorded (clean_from_whole start layout first more cuts (layouts layout (first ∷ more) recorded) faultless)
