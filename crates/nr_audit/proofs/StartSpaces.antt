-- A start in which nothing is wrong translates as the space of its pages; so a segment with a start goes on from that space as from the start.
use Rattle.std.proofs.Common.{◌≡◌, ℕ, ◌+◌, ◌≤◌, Option, Some, None, inl, inr, refl, sym, ap, ◌∙◌, subst}
use Rattle.std.proofs.Common.{get_or}
use Rattle.std.specs.Prelude.{All, IfSome}
use Rattle.std.specs.FinMap as finite
use Rattle.std.specs.FinMap.Entries as entries
use Rattle.std.proofs.lemmas.List.Elements.{All-contains}
use Rattle.std.proofs.lemmas.Bool.{cases_lt}
use Rattle.std.proofs.lemmas.List.{get_or_default}
use Rattle.vs_types.specs.Frame.{IsFrame}
use Rattle.vs_types.specs.Page.{bytes_of, IsPage}
use Rattle.vs_types.specs.Space.{Space, IsSpace}
use Rattle.vs_types.specs.declared.addresses.depth.Depth.{Depth}
use Rattle.vs_types.specs.declared.addresses.page.TheConstants.Page.{PHYS_END}
use Rattle.vs_types.proofs.Spaces.{found_value}
use Rattle.vs_walk.specs.Dump.{Image}
use Rattle.vs_walk.specs.Memory.{AreWhole}
use Rattle.vs_walk.specs.Traversal.{walk_fault, found_in}
use Rattle.vs_walk.specs.Walk.{TranslatesAs}
use Rattle.vs_walk.proofs.LawsOfFoundSpaces.{found_space}
use Rattle.vs_walk.proofs.LawsOfRising.{pages_formed}
use Rattle.vs_walk.proofs.Leasts.{none_from_no_least}
use Rattle.nr_dump.specs.Faults.{HasNoFault}
use Rattle.nr_dump.specs.declared.fault.DumpFault.TheVariants.{MissingFrame, SharedFrame, ReservedBit, StrayFrame}
use Rattle.nr_dump.specs.declared.fault.DumpFault.TheVariants as dumps
use Rattle.nr_dump.proofs.Faultless.{faultless_fits}
use Rattle.nr_trace.specs.Recording.{Recording, IsRecording, IsStart}
use Rattle.nr_trace.specs.Laws.{IsFaultlessFrom}
use Rattle.nr_trace.specs.Run.{Run, end_of, IsOrderly}
use Rattle.nr_touch.specs.Touches.{IsRightTouch}
use Rattle.nr_touch.proofs.cuts.Behind.{right_rest}
use Rattle.nr_audit.specs.Start.{begins_in, space_before, space_of_pages, start_space, BeginsRight, HasPageBeyond, HasStartFault}
use Rattle.nr_audit.specs.Faults.{HasNoFaultAfter, IsSoundAfter}
use Rattle.nr_audit.specs.Releases.{HasRightReleases, HasSettledReleases}
use Rattle.nr_trace.specs.declared.refusals.fault.Fault.{Fault}
use Rattle.nr_trace.specs.declared.refusals.fault.Fault.TheVariants.{StartMissing, StartShared, StartReserved, StartStray, StartBeyond, StartDiffers}
use Rattle.nr_audit.specs.inside.Begun.{HasNoStartFault}
use Rattle.nr_audit.proofs.FilledSpaces.{of_own_pages}
use Rattle.nr_audit.proofs.Judgements.{begins_of, faultless_of, releases_of, sound_by}
use Rattle.nr_audit.proofs.ReleasesBehind.{released_behind}
use Rattle.nr_audit.proofs.Starts.{none_walked}

-- ---- the frames of a start are whole

pub start_is_whole : (segment : Recording) (start : Image) → IsRecording segment → segment.start ≡ Some start → AreWhole start.frames
start_is_whole segment start recording is number words there =
    let own : IsStart start = rw is at recording.start in
    (All-contains IsFrame (finite.values start.frames) words own.image.words
    (found_value number (finite.entries start.frames) words (sym (finite.get-entries start.frames number) ∙ there))).whole

-- ---- what a start translates as

-- no page ends too high where none is the first that does
formed : (depth : Depth) (start : Image) → AreWhole start.frames → ((base : ℕ) → HasPageBeyond depth start base → ⊥)
    → All (IsPage depth) (found_in depth start)
formed depth start whole none k d lt =
    let page = pages_formed depth start.frames start.root whole k d lt in
    let low : (get_or (found_in depth start) k d).phys + bytes_of (get_or (found_in depth start) k d).size ≤ PHYS_END =
    elim (cases_lt PHYS_END ((get_or (found_in depth start) k d).phys + bytes_of (get_or (found_in depth start) k d).size)) [
      | inl beyond ↦ absurd (none (get_or (found_in depth start) k d).base (get_or (found_in depth start) k d, (k, lt, here), refl, beyond))
      | inr within ↦ within
    ] in
    record { canonical = page.canonical; aligned = page.aligned; phys_aligned = page.phys_aligned; phys_range = low } where
      here : get_or (found_in depth start) k (get_or (found_in depth start) k d) ≡ get_or (found_in depth start) k d
      here = get_or_default (found_in depth start) k (get_or (found_in depth start) k d) d lt

-- its pages are a space, as which it translates
pub space_of_start : (depth : Depth) (before : Option Space) (start : Image) → AreWhole start.frames → HasNoStartFault depth before start
    → IsSpace depth (space_of_pages (found_in depth start)) × TranslatesAs depth start.frames start.root (space_of_pages (found_in depth start))
space_of_start depth before start whole none =
    let way : walk_fault depth start.frames start.root ≡ None =
    none_walked depth start (λ number. none (StartMissing number)) (λ number. none (StartShared number)) (λ number index. none (StartReserved number index)) in
    let there = found_space depth start.frames start.root whole way
    (formed depth start whole (none_from_no_least (HasPageBeyond depth start) (λ base least. none (StartBeyond base) least))) in
    let own : there.0 ≡ space_of_pages (found_in depth start) = sym (of_own_pages there.1) ∙ ap space_of_pages there.2 in
    (subst (IsSpace depth) own there.1, subst (TranslatesAs depth start.frames start.root) own there.3)

-- the same of a segment: its start translates as the space with which it begins
pub begins_translating : (before : Option Space) (segment : Recording) (start : Image) → segment.start ≡ Some start → AreWhole start.frames
    → BeginsRight before segment → TranslatesAs segment.layout.depth start.frames start.root (start_space segment.layout.depth segment.start)
begins_translating before segment start is whole begins =
    subst (λ o. TranslatesAs segment.layout.depth start.frames start.root (start_space segment.layout.depth o)) (sym is)
    (space_of_start segment.layout.depth before start whole (λ fault holds. begins fault (start, is, holds))).1

-- as the space before it too, where that is one of pages
as_before : (run : Run) (segment : Recording) (start : Image) → segment.start ≡ Some start → HasNoFaultAfter (Some run) segment
    → HasNoFault segment.layout.depth start (end_of run)
as_before run segment start is none (MissingFrame number) h = none (StartMissing number) (start, is, h)
as_before run segment start is none (SharedFrame number) h = none (StartShared number) (start, is, h)
as_before run segment start is none (ReservedBit number index) h = none (StartReserved number index) (start, is, h)
as_before run segment start is none (StrayFrame number) h = none (StartStray number) (start, is, h)
as_before run segment start is none (dumps.Differs address) h = none (StartDiffers address) (start, is, (end_of run, refl, h))

pub first_translates : (before : Option Run) (segment : Recording) (start : Image) → IsRecording segment → segment.start ≡ Some start
    → IfSome (space_before before) (IsSpace segment.layout.depth) → HasNoFaultAfter before segment
    → TranslatesAs segment.layout.depth start.frames start.root (begins_in before segment)
first_translates None segment start recording is space none =
    begins_translating None segment start is (start_is_whole segment start recording is) (begins_of None segment none)
first_translates (Some run) segment start recording is space none =
    (faultless_fits segment.layout.depth start (end_of run) (start_is_whole segment start recording is) space
    (as_before run segment start is none)).translates

-- ---- a segment behind another

-- a segment that is sound by itself is sound behind a run that leads to the space of its start
module _ (segment : Recording) (start : Image) (run : Run) (orderly : IsOrderly run.trace) (same_layout : segment.layout ≡ run.trace.layout)
    (is : segment.start ≡ Some start) (whole : AreWhole start.frames)
    (leads : start_space segment.layout.depth segment.start ≡ end_of run) where
  none_behind : BeginsRight None segment → (fault : Fault) → HasStartFault (Some (end_of run)) segment fault → ⊥
  none_behind begins (StartMissing number) h = begins (StartMissing number) h
  none_behind begins (StartShared number) h = begins (StartShared number) h
  none_behind begins (StartReserved number index) h = begins (StartReserved number index) h
  none_behind begins (StartStray number) h = begins (StartStray number) h
  none_behind begins (StartBeyond base) h = begins (StartBeyond base) h
  none_behind begins (StartDiffers address) (other, other_is, (before, before_is, differs)) =
      let one : start ≡ other = cc in
      let same : start_space segment.layout.depth segment.start ≡ before = cc in
      let translates = begins_translating None segment start is whole begins in
      let behind = subst (TranslatesAs segment.layout.depth start.frames start.root) same translates in
      let own = subst (λ (image : Image). TranslatesAs segment.layout.depth image.frames image.root before) one behind in
      differs.0.1 (own address differs.0.0)
  none_behind begins _ h = absurd h.2

  pub sound_behind : HasSettledReleases run segment → IsSoundAfter None segment → IsSoundAfter (Some run) segment
  sound_behind settled sound =
      sound_by (Some run) segment (none_behind (begins_of None segment sound.faultless))
      (subst (λ s. IsFaultlessFrom s segment) leads (faultless_of None segment sound.faultless))
      (λ touch has. right_rest run.start run.trace segment same_layout orderly touch
      (subst (λ s. IsRightTouch s segment touch) leads (sound.touches touch has)))
      (released_behind run segment orderly same_layout settled
      (subst (λ s. HasRightReleases None s segment) leads (releases_of None segment sound)))
