use Rattle.std.proofs.Common.{IfSome, List, Option, None, Some, take, refl, ap, sym, ◌∙◌, subst}
use Rattle.nr_trace.specs.declared.refusals.fault.Fault.{Fault}
use Rattle.nr_touch.specs.Tails.{KeepsChanges}
use Rattle.nr_touch.specs.declared.touches.tail.Left.{Left}
use Rattle.nr_touch.specs.declared.touches.tail.Tail.{Tail}
use Rattle.nr_audit.specs.Faults.{IsFirstAfter}
use Rattle.nr_audit.specs.Met.{HasMet}
use Rattle.nr_audit.specs.Start.{begins_in}
use Rattle.nr_audit.specs.declared.histories.met.Met.{Met}
use Rattle.nr_audit.specs.declared.histories.past.Past.{Past}
use Rattle.nr_explain.specs.Progress.{run_in}
use Rattle.nr_explain.specs.inside.Reading.{all_states, AreTwice}
use Rattle.nr_explain.specs.declared.chain.progress.Progress.{Progress}
use Rattle.nr_explain.proofs.Feeding.{fresh_reading}
use Rattle.nr_explain.proofs.Known.{shown_alike, sums_alike}
use Rattle.nr_explain.proofs.Wholes.{behind, clean_behind, fits_after, fits_before, goes_behind, known_next, seen_next, show_behind}
use Rattle.nr_explain.proofs.Wholes.{index_behind, well_behind, whole_behind}
use Rattle.nr_explain.proofs.chain.reader.judge_next.Goals as goal

pub judge_segment-requires : goal.judge_segment-requires
judge_segment-requires c = fits_before c.args.last c.args.segment.now c.args.before c.requires.twice c.requires.fits

pub go_on-requires-clause-well : goal.go_on-requires-clause-well
go_on-requires-clause-well c =
    well_behind c.args.last c.args.segment.now c.args.before c.requires.twice c.requires.follows c.requires.known
    (λ came is. c.in-Ok.ensures.sound (run_in came) is)

pub go_on-requires-clause-order : goal.go_on-requires-clause-order
go_on-requires-clause-order c = c.in-Ok.ensures.order

pub go_on-requires-clause-clean : goal.go_on-requires-clause-clean
go_on-requires-clause-clean c =
    clean_behind c.args.last c.args.segment.now c.args.before c.requires.twice c.requires.follows c.requires.known
    (λ came is. c.in-Ok.ensures.sound (run_in came) is)

pub go_on-requires-clause-after : goal.go_on-requires-clause-after
go_on-requires-clause-after c =
    whole_behind c.args.last c.args.segment.now c.args.before c.requires.twice c.requires.follows c.in-Ok.past c.requires.known c.in-Ok.ensures.fits
    (λ came is. c.in-Ok.ensures.kept (run_in came) is)

pub go_on-requires-clause-index : goal.go_on-requires-clause-index
go_on-requires-clause-index c =
    index_behind c.args.last c.args.segment.now c.args.before c.requires.twice c.requires.follows c.in-Ok.past c.requires.known
    (λ came is. c.in-Ok.ensures.kept (run_in came) is)

pub go_on-requires-clause-sound : goal.go_on-requires-clause-sound
go_on-requires-clause-sound c = c.in-Ok.ensures.fits.tail

-- what is kept of what the judge had is kept of its copy
keeps : (last : Option Progress) (before : Option Past) (after : Tail) → AreTwice last before
    → IfSome before (λ past. KeepsChanges past.tail after) → IfSome last (λ came. KeepsChanges came.tail after)
keeps None before after twice kept = tt
keeps (Some came) None after twice kept = absurd twice
keeps (Some came) (Some past) after twice kept = kept ∙ ap (λ (cs : List Left). take after.kept cs) twice.left

pub go_on-requires-clause-kept : goal.go_on-requires-clause-kept
go_on-requires-clause-kept c = keeps c.args.last c.args.before c.in-Ok.past.tail c.requires.twice c.in-Ok.ensures.changes

pub counted-met-requires : goal.counted-met-requires
counted-met-requires c = c.in-Ok.ensures.counted

pub invariant_of-next : goal.invariant_of-next
invariant_of-next c =
    let came = c.in_ok-came-in-Ok.came in
    let is = c.in_ok-came-in-Ok.ensures in
    let past = c.in-Ok.past in
    fresh_reading (Some came) (Some c.in_ok-came-in-Ok.kept) _ c.new-feed.result c.new.ensures.items c.new-feed.ensures
    (fits_after came past c.args.segment.now c.in-Ok.ensures.fits is.layout is.space is.tail) is.twice
    (known_next c.args.last c.args.segment.now c.args.before c.requires.twice c.requires.follows came past c.counted-met.result c.args.size c.requires.known
    (λ came is. c.in-Ok.ensures.kept (run_in came) is) is.layout is.space is.tail is.began is.sums)

pub returns-in-Ok : goal.returns-in-Ok
returns-in-Ok c = λ came seen.
    let is = c.in_ok-came-in-Ok.ensures in
    let here = behind c.args.last c.args.segment.now c.args.before c.requires.twice c.requires.follows came seen in (
      refl,
      c.in-Ok.ensures.sound (run_in came) here,
      record {
        met = c.counted-met.result;
        counted =
            subst (λ (o : Option Met). IfSome o (HasMet (run_in came) (begins_in (run_in came) c.args.segment.now) c.args.segment.now))
            c.counted-met.ensures
            (c.in-Ok.ensures.met (run_in came) here);
        seen = seen_next c.args.last c.args.segment.now c.args.before c.requires.twice c.requires.follows came c.in_ok-came-in-Ok.came c.in-Ok.past
            c.counted-met.result c.args.size seen (c.in-Ok.ensures.kept (run_in came) here) is.layout is.space is.tail is.began is.sums;
        none = c.new.ensures.items;
      },
    )

pub explain_segment-requires-clause-first : goal.explain_segment-requires-clause-first
explain_segment-requires-clause-first c =
    show_behind c.args.last c.args.segment.now c.args.before c.requires.twice c.requires.follows c.in-Err-Refused.fault c.requires.known
    (λ came is. subst (λ (f : Fault). IsFirstAfter (run_in came) c.args.segment.now f) (sym c.in-Err-Refused.fault-is)
    (rw c.in-Err-Refused.field-0-is at (c.in-Err-Refused.ensures.first (run_in came) is)))

pub returns : goal.returns
returns c = λ came seen.
    let here = behind c.args.last c.args.segment.now c.args.before c.requires.twice c.requires.follows came seen in (
      ap (λ sums. sums.segments) (c.sums_of-number.ensures ∙ sums_alike came (all_states c.args.last) seen),
      subst (λ (f : Fault). IsFirstAfter (run_in came) c.args.segment.now f) (sym c.in-Err-Refused.fault-is)
          (rw c.in-Err-Refused.field-0-is at (c.in-Err-Refused.ensures.first (run_in came) here)),
      shown_alike came (all_states c.args.last) c.args.segment.now c.in-Err-Refused.fault c.in_ok-shown-in-Err-Refused.shown seen
          (goes_behind came c.args.last c.args.segment.now c.requires.follows seen)
          c.in_ok-shown-in-Err-Refused.ensures.shown
          c.in_ok-shown-in-Err-Refused.ensures.left,
    )
