use Rattle.std.proofs.Common.{◌≡◌, IfOk, IfSome, Option, None, Some, Result, ap, sym, ◌∙◌, subst}
use Rattle.std.proofs.lemmas.Result.{err_from_is_err_and}
use Rattle.vs_types.specs.Refusal.{IfRefused}
use Rattle.vs_types.specs.Space.{Space}
use Rattle.vs_plain.specs.Plain.{BoundedSpace}
use Rattle.nr_trace.specs.Orders.{recorded_order, space_from}
use Rattle.nr_trace.specs.Run.{Run, run_with}
use Rattle.nr_touch.specs.Tails.{IsSoundTail, IsTailOf, KeepsChanges}
use Rattle.nr_touch.specs.declared.touches.tail.Tail.{Tail}
use Rattle.nr_audit.specs.Faults.{IsFirstAfter, IsSoundAfter}
use Rattle.nr_audit.specs.Met.{HasMet}
use Rattle.nr_audit.specs.Segments.{pages_before, run_after, FitsPast, IsKept, IsRightAfter}
use Rattle.nr_audit.specs.Start.{space_before, BeginsWrong}
use Rattle.nr_audit.specs.Touches.{HasRightTouches}
use Rattle.nr_audit.specs.Verdict.{space_of}
use Rattle.nr_audit.specs.declared.histories.past.Past.{Past}
use Rattle.nr_audit.specs.inside.Search.{HasNoFaultBehind, IsFirstBehind}
use Rattle.nr_audit.proofs.Judgements.{first_after, refused_begin, sound_after, start_first}
use Rattle.nr_audit.proofs.Pasts.{begun, fits_after, kept_after, space_fits, spaces_behind, tail_sound}
use Rattle.nr_audit.proofs.Ranks.{refused_as}
use Rattle.nr_audit.proofs.RightSegments.{parts_after}
use Rattle.nr_audit.proofs.Starts.{if_refused, ok_both, ok_with, on_both}
use Rattle.nr_audit.proofs.verdicts.judging.judge_segment.Goals as goal

pub begin-requires : goal.begin-requires
begin-requires c = space_fits c.args.segment.now.layout c.args.before c.parts_of-parts.result.0 c.requires c.parts_of-parts.ensures.space

pub search-requires-clause-start : goal.search-requires-clause-start
search-requires-clause-start c =
    let begins = c.in_ok-start.ensures.space in
    begins ∙ ap (space_of c.args.segment.now.layout) (sym (ap (λ (s : BoundedSpace). s.space) begins))

pub search-requires-clause-sound : goal.search-requires-clause-sound
search-requires-clause-sound c =
    tail_sound c.args.segment.now.layout c.args.before c.parts_of-parts.result.1 c.requires c.parts_of-parts.ensures.tail c.parts_of-parts.ensures.sound

pub returns-clause-sound : goal.returns-clause-sound
returns-clause-sound c = λ run behind.
    let segment = c.args.segment.now in
    let start = c.in_ok-start.start in
    let b = begun run c.args.before segment c.parts_of-parts.result.0 c.parts_of-parts.result.1 start behind c.parts_of-parts.ensures.space
    c.parts_of-parts.ensures.tail c.parts_of-parts.ensures.none c.in_ok-start.ensures.space c.in_ok-start.ensures.right in
    on_both (HasNoFaultBehind run start.space segment) (HasRightTouches run start.space segment) (IsSoundAfter run segment) c.search.result
    (sound_after run segment start.space b.same b.begins)
    (c.search.ensures.none run b.of_tail b.goes_on) (c.search.ensures.touches run b.of_tail b.goes_on)

pub returns-clause-kept : goal.returns-clause-kept
returns-clause-kept c = λ run behind.
    let segment = c.args.segment.now in
    let start = c.in_ok-start.start in
    let b = begun run c.args.before segment c.parts_of-parts.result.0 c.parts_of-parts.result.1 start behind c.parts_of-parts.ensures.space
    c.parts_of-parts.ensures.tail c.parts_of-parts.ensures.none c.in_ok-start.ensures.space c.in_ok-start.ensures.right in
    ok_both (λ right. right.1.space ≡ space_of segment.layout (space_from start.space segment segment.log))
    (λ right. IsTailOf (Some (run_with run start.space segment)) right.1.tail) (λ right. IsKept (run_after run segment) right.1) c.search.result
    (λ right. kept_after run segment c.parts_of-parts.result.1 start.space right.1 b) c.search.ensures.space (c.search.ensures.tail run b.of_tail b.goes_on)

pub returns-clause-met : goal.returns-clause-met
returns-clause-met c = λ run behind.
    let segment = c.args.segment.now in
    let start = c.in_ok-start.start in
    let b = begun run c.args.before segment c.parts_of-parts.result.0 c.parts_of-parts.result.1 start behind c.parts_of-parts.ensures.space
    c.parts_of-parts.ensures.tail c.parts_of-parts.ensures.none c.in_ok-start.ensures.space c.in_ok-start.ensures.right in
    subst (λ (s : Space). IfOk c.search.result (λ right. IfSome right.2 (HasMet run s segment))) b.same (c.search.ensures.met run b.of_tail b.goes_on)

pub returns-clause-fits : goal.returns-clause-fits
returns-clause-fits c =
    let segment = c.args.segment.now in
    let space = space_from c.in_ok-start.start.space segment segment.log in
    ok_both (λ right. right.1.space ≡ space_of segment.layout space) (λ right. IsSoundTail right.1.tail) (λ right. FitsPast segment.layout right.1)
    c.search.result (λ right. fits_after segment.layout space right.1) c.search.ensures.space c.search.ensures.left

-- what is kept of the tail that the search begins with is kept of that of what came before
keeps : {X E : Type 0} (tail_of : X → Tail) (before : Option Past) (tail : Tail) (result : Result X E) → IfSome before (λ past. tail ≡ past.tail)
    → IfOk result (λ right. KeepsChanges tail (tail_of right)) → IfSome before (λ past. IfOk result (λ right. KeepsChanges past.tail (tail_of right)))
keeps tail_of None tail result is kept = tt
keeps tail_of (Some past) tail result is kept = subst (λ (t : Tail). IfOk result (λ right. KeepsChanges t (tail_of right))) is kept

pub returns-clause-changes : goal.returns-clause-changes
returns-clause-changes c =
    keeps (λ right. right.1.tail) c.args.before c.parts_of-parts.result.1 c.search.result c.parts_of-parts.ensures.tail c.search.ensures.changes

pub returns-clause-right : goal.returns-clause-right
returns-clause-right c = λ run behind.
    let segment = c.args.segment.now in
    ok_with (IsSoundAfter run segment) (λ right. right.0 ≡ recorded_order segment) (λ right. IsRightAfter run segment right.0) c.search.result
    (λ sound right is. parts_after run segment right.0 sound is) (returns-clause-sound c run behind) c.search.ensures.order

pub returns-clause-first : goal.returns-clause-first
returns-clause-first c = λ run behind.
    let segment = c.args.segment.now in
    let start = c.in_ok-start.start in
    let b = begun run c.args.before segment c.parts_of-parts.result.0 c.parts_of-parts.result.1 start behind c.parts_of-parts.ensures.space
    c.parts_of-parts.ensures.tail c.parts_of-parts.ensures.none c.in_ok-start.ensures.space c.in_ok-start.ensures.right in
    if_refused (IsFirstBehind run start.space segment) (IsFirstAfter run segment) c.search.result
    (first_after run segment start.space b.same b.begins) (c.search.ensures.first run b.of_tail b.goes_on)

pub returns-in_err-start-clause-first : goal.returns-in_err-start-clause-first
returns-in_err-start-clause-first c = λ run behind.
    let segment = c.args.segment.now in
    let spaces : pages_before c.parts_of-parts.result.0 ≡ space_before run =
    ap pages_before c.parts_of-parts.ensures.space ∙ spaces_behind run c.args.before segment behind in
    let p = err_from_is_err_and c.from_residual.result c.from_residual.ensures.1 in
    rw (p.1, p.2) (refused_as (BeginsWrong (space_before run) segment) (IsFirstAfter run segment) _ (start_first run segment)
    (refused_begin (pages_before c.parts_of-parts.result.0) (space_before run) segment _ spaces c.in_err-start.ensures.first))
