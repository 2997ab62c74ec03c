-- What is kept of a run, beside the run.
use Rattle.std.proofs.Common.{◌≡◌, ◌↔◌, ℕ, Bool, true, false, List, length, Option, Some, None, Contains, is_some, refl, ap, subst}
use Rattle.vs_types.specs.Space.{Space, pages}
use Rattle.vs_types.specs.declared.requests.answer.Answer.{Answer}
use Rattle.nr_trace.specs.Recording.{Recording}
use Rattle.nr_trace.specs.declared.refusals.fault.Fault.{Fault}
use Rattle.nr_touch.specs.Looks.{IsLookLeft}
use Rattle.nr_touch.specs.Tails.{GoesOn}
use Rattle.nr_audit.specs.Start.{first_space}
use Rattle.nr_explain.specs.Progress.{ChainState, Seen, began_with, counts_of, layout_in, run_in, space_in, sums_in, IsSeen, IsSeenOf}
use Rattle.nr_explain.specs.ChainFacts.{is_mapped}
use Rattle.nr_explain.specs.ChainEvidence.{found_page, AreEarlier, IsReachBehind, IsShown, LingersAs, LingersBehind, ShowsEarlier}
use Rattle.nr_explain.specs.ChainExplanation.{IsShownBehind}
use Rattle.nr_explain.specs.inside.Firsts.{AreEarlierLeft, IsLeftAs, ShowsLeft, ShowsReachLeft}
use Rattle.nr_explain.specs.inside.Reading.{began_seen, counts_seen, layout_seen, left_seen, space_seen, sums_seen, IsShownSeen}
use Rattle.nr_explain.specs.declared.chain.evidence.Leading.{Leading}
use Rattle.nr_explain.specs.declared.chain.evidence.Leading.TheVariants.{Within, Earlier}
use Rattle.nr_explain.specs.declared.chain.evidence.WhyWrong.{WhyWrong}
use Rattle.nr_explain.specs.declared.chain.evidence.WhyWrong.TheVariants.{Otherwise, Reached}
use Rattle.nr_explain.specs.declared.chain.evidence.SegmentEvidence.{SegmentEvidence}
use Rattle.nr_explain.specs.declared.chain.evidence.SegmentEvidence.TheVariants as evidence
use Rattle.nr_explain.specs.declared.trace.evidence.RecordedCall.{RecordedCall}

pub layout_alike : (came : Option ChainState) (seen : Option Seen) → IsSeenOf came seen → layout_seen seen ≡ layout_in came
layout_alike None None is = refl
layout_alike (Some came) (Some seen) is = ap Some is.layout
layout_alike None (Some seen) is = absurd is
layout_alike (Some came) None is = absurd is

pub space_alike : (came : Option ChainState) (seen : Option Seen) → IsSeenOf came seen → space_seen seen ≡ space_in came
space_alike None None is = refl
space_alike (Some came) (Some seen) is = ap Some is.space
space_alike None (Some seen) is = absurd is
space_alike (Some came) None is = absurd is

pub sums_alike : (came : Option ChainState) (seen : Option Seen) → IsSeenOf came seen → sums_seen seen ≡ sums_in came
sums_alike None None is = refl
sums_alike (Some came) (Some seen) is = is.sums
sums_alike None (Some seen) is = absurd is
sums_alike (Some came) None is = absurd is

pub began_alike : (came : Option ChainState) (seen : Option Seen) (segment : Recording) → IsSeenOf came seen → began_seen seen segment ≡ began_with came segment
began_alike None None segment is = refl
began_alike (Some came) (Some seen) segment is = is.began
began_alike None (Some seen) segment is = absurd is
began_alike (Some came) None segment is = absurd is

pub none_seen : (came : Option ChainState) (seen : Option Seen) → IsSeenOf came seen → seen ≡ None → is_some (run_in came) ≡ true → ⊥
none_seen None seen is none some = let wrong : false ≡ true = some in cc
none_seen (Some came) seen is none some = subst (IsSeenOf (Some came)) none is

pub counts_alike : (came : ChainState) (seen : Seen) → IsSeen came seen → counts_seen seen ≡ counts_of came
counts_alike came seen is = λ i. record {
  segments = (is.sums i).segments;
  calls = (is.sums i).totals.calls;
  updates = (is.sums i).updates;
  reads = (is.sums i).reads;
  touches = (is.sums i).touches;
  releases = (is.sums i).releases;
  dumps = (is.sums i).dumps;
  replicas = (is.layout i).replicas;
  pages = length (pages (is.space i));
  overlapping = (is.sums i).totals.met.overlapping;
  beside = (is.sums i).totals.met.beside;
  since_open = (is.sums i).totals.met.since_open;
  since_kept = (is.sums i).totals.met.since_kept;
  since_lagging = (is.sums i).totals.met.since_lagging;
  repeated = (is.sums i).totals.met.repeated;
}

-- ---- the looks that linger

looks_alike : (came : Option ChainState) (seen : Option Seen) (address : ℕ) (look : Answer) → IsSeenOf came seen
    → IsLookLeft (left_seen seen) address look ↔ LingersBehind (run_in came) address look
looks_alike None None address look is = (λ it. it.1, λ it. absurd it)
looks_alike (Some came) (Some seen) address look is = (there, back) where
  there : IsLookLeft seen.tail.changes.items address look → LingersBehind (Some came.run) address look
  there (page, left, same) = (page, (is.tail.left address page).0 left, same)

  back : LingersBehind (Some came.run) address look → IsLookLeft seen.tail.changes.items address look
  back (page, lingers, same) = (page, (is.tail.left address page).1 lingers, same)
looks_alike None (Some seen) address look is = absurd is
looks_alike (Some came) None address look is = absurd is

earlier_of : (came : Option ChainState) (seen : Option Seen) (address first : ℕ) (with_page : Bool) (looks : List Answer) → IsSeenOf came seen
    → AreEarlierLeft (left_seen seen) address first with_page looks → AreEarlier (run_in came) address first with_page looks
earlier_of came seen address first with_page looks is are look = (there, back) where
  there : Contains looks look → (first ≡ 0) × (is_mapped look ≡ with_page) × LingersBehind (run_in came) address look
  there has = let (none, kind, left) = (are look).0 has in (none, kind, (looks_alike came seen address look is).0 left)

  back : (first ≡ 0) × (is_mapped look ≡ with_page) × LingersBehind (run_in came) address look → Contains looks look
  back (none, kind, lingers) = (are look).1 (none, kind, (looks_alike came seen address look is).1 lingers)

leading_alike : (came : Option ChainState) (seen : Option Seen) (address : ℕ) (look : Answer) (leading : Leading) → IsSeenOf came seen
    → IsLeftAs (left_seen seen) address look leading → LingersAs (run_in came) address look leading
leading_alike came seen address look (Within entries taken) is left = tt
leading_alike came seen address look Earlier is left = (looks_alike came seen address look is).0 left

reach_alike : (came : Option ChainState) (seen : Option Seen) (start : Space) (segment : Recording) (call : RecordedCall) (why : WhyWrong)
    → IsSeenOf came seen → GoesOn (run_in came) segment start → ShowsReachLeft seen start segment call why
    → IsReachBehind (run_in came) start segment call why
reach_alike came seen start segment call (Otherwise reply) is goes_on left = tt
reach_alike came seen start segment call (Reached reply reach) is goes_on left =
    (leading_alike came seen reach.address reach.look reach.leading is left.0, λ given gives. left.1 given gives came is goes_on)

earlier_alike : (came : Option ChainState) (seen : Option Seen) (start : Space) (segment : Recording) (shown : SegmentEvidence) → IsSeenOf came seen
    → GoesOn (run_in came) segment start → ShowsLeft seen start segment shown → ShowsEarlier (run_in came) start segment shown
earlier_alike came seen start segment (evidence.Stale stale) is goes_on left =
    λ address mode access asks. earlier_of came seen address stale.first (found_page stale.lag) stale.earlier.items is (left address mode access asks)
earlier_alike came seen start segment (evidence.Reachable wrong) is goes_on left = reach_alike came seen start segment wrong.call wrong.why is goes_on left
earlier_alike came seen start segment shown is goes_on left = tt

-- ---- what shows a fault

pub shown_alike : (came : Option ChainState) (seen : Option Seen) (segment : Recording) (fault : Fault) (shown : SegmentEvidence) → IsSeenOf came seen
    → GoesOn (run_in came) segment (first_space (space_in came) segment) → IsShownSeen seen segment fault shown
    → ShowsLeft seen (first_space (space_seen seen) segment) segment shown → IsShownBehind came segment fault shown
shown_alike came seen segment fault shown is goes_on shows left = (
  subst (λ (began : Option Space). IsShown began (space_in came) (first_space (space_in came) segment) segment fault shown) (began_alike came seen segment is)
      (subst (λ (before : Option Space). IsShown (began_seen seen segment) before (first_space before segment) segment fault shown) (space_alike came seen is)
      shows),
  earlier_alike came seen (first_space (space_in came) segment) segment shown is goes_on
      (subst (λ (before : Option Space). ShowsLeft seen (first_space before segment) segment shown) (space_alike came seen is) left),
)
