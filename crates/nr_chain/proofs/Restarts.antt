-- A segment that begins a chain, and whose start has the pages of a space, is right behind a segment that leaves that space.
use Rattle.std.proofs.Common.{◌≡◌, Option, Some, None, refl, sym, ◌∙◌, subst}
use Rattle.vs_types.proofs.Spaces.{no_pages_space}
use Rattle.vs_types.specs.Space.{Space, IsSpace}
use Rattle.vs_types.specs.declared.addresses.depth.Depth.{Depth}
use Rattle.vs_walk.specs.Dump.{Image}
use Rattle.nr_trace.specs.Recording.{IsRecording, Recording}
use Rattle.nr_trace.specs.Laws.{IsFaultlessFrom}
use Rattle.nr_audit.specs.Start.{start_space, BeginsRight}
use Rattle.nr_trace.specs.Run.{Run, end_of, IsOrderly}
use Rattle.nr_touch.specs.Touches.{IsRightTouch}
use Rattle.nr_touch.proofs.cuts.Behind.{right_rest}
use Rattle.nr_audit.specs.Faults.{IsSoundAfter}
use Rattle.nr_audit.specs.Releases.{HasRightReleases, HasSettledReleases}
use Rattle.nr_audit.proofs.Judgements.{begins_of, faultless_of, releases_of, sound_by}
use Rattle.nr_audit.proofs.ReleasesBehind.{released_behind}
use Rattle.nr_audit.proofs.StartSpaces.{sound_behind, space_of_start, start_is_whole}
use Rattle.nr_chain.specs.Headline.{BeginsIn}

-- a segment that is right at the head of a chain begins in the space of its start
abbrev Begins : Depth → Option Image → Type 0
Begins depth start = IsSpace depth (start_space depth start) × BeginsIn depth start (start_space depth start)

pub begins_in : (segment : Recording) → IsRecording segment → IsSoundAfter None segment → Begins segment.layout.depth segment.start
begins_in segment in_range sound = by_start segment.start refl where
  by_start : (start : Option Image) → segment.start ≡ start → Begins segment.layout.depth segment.start
  by_start None has = subst (Begins segment.layout.depth) (sym has) (no_pages_space segment.layout.depth, refl)
  by_start (Some start) has = subst (Begins segment.layout.depth) (sym has)
      (space_of_start segment.layout.depth None start (start_is_whole segment start in_range has)
      (λ fault holds. begins_of None segment sound.faultless fault (start, has, holds)))

-- a segment without a start that is right at the head of a chain is right behind one after which there are no pages
module _ (segment : Recording) (has : segment.start ≡ None) (sound : IsSoundAfter None segment) (run : Run) (orderly : IsOrderly run.trace)
    (same_layout : segment.layout ≡ run.trace.layout) (none : start_space segment.layout.depth segment.start ≡ end_of run) where
  begins : BeginsRight (Some (end_of run)) segment
  begins fault (start, start_is, holds) = absurd (let wrong : None ≡ Some start = sym has ∙ start_is in cc)

  without_start : HasSettledReleases run segment → IsSoundAfter (Some run) segment
  without_start settled = sound_by (Some run) segment begins
      (subst (λ (s : Space). IsFaultlessFrom s segment) none (faultless_of None segment sound.faultless))
      (λ touch is. right_rest run.start run.trace segment same_layout orderly touch
      (subst (λ (s : Space). IsRightTouch s segment touch) none (sound.touches touch is)))
      (released_behind run segment orderly same_layout settled
      (subst (λ (s : Space). HasRightReleases None s segment) none (releases_of None segment sound)))

-- a segment that is right at the head of a chain is right behind a run that leaves the space with which it begins
pub behind_any : (segment : Recording) → IsRecording segment → IsSoundAfter None segment → (run : Run) → IsOrderly run.trace
    → segment.layout ≡ run.trace.layout → start_space segment.layout.depth segment.start ≡ end_of run → HasSettledReleases run segment
    → IsSoundAfter (Some run) segment
behind_any segment in_range sound run orderly same pages settled = by_start segment.start refl where
  by_start : (start : Option Image) → segment.start ≡ start → IsSoundAfter (Some run) segment
  by_start None has = without_start segment has sound run orderly same pages settled
  by_start (Some start) has = sound_behind segment start run orderly same has (start_is_whole segment start in_range has) pages settled sound
