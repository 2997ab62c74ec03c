use Rattle.std.proofs.Common.{◌≡◌, ◌+◌, length, take, sym, ap, subst, ◌∙◌, arith}
use Rattle.std.proofs.lemmas.Bool.{iff_false}
use Rattle.vs_types.specs.Space.{Space, IsSpace}
use Rattle.vs_types.specs.Step.{look, look_in_page}
use Rattle.vs_plain.specs.Plain.{BoundedSpace}
use Rattle.nr_trace.specs.Orders.{space_from}
use Rattle.nr_explain.specs.Facts.{looks_from}
use Rattle.nr_explain.specs.inside.Windows.{IsWindowBelow}
use Rattle.nr_explain.proofs.Changes.{change_has_call}
use Rattle.nr_explain.proofs.TakenLooks.{ends_here}
use Rattle.nr_explain.proofs.Windows.{same_page, window_narrows, window_stays}
use Rattle.nr_explain.proofs.chain.windows.window_of.Goals as goal
use Rattle.nr_explain.proofs.chain.windows.window_of.Goals.{then-not-is_same, else-not-is_same}

pub apply_place-requires-clause-before : goal.apply_place-requires-clause-before
apply_place-requires-clause-before c = (c.args.start.space, c.loop-place.invariant.space)

pub is_answered_before-is_over-requires-clause-call : goal.is_answered_before-is_over-requires-clause-call
is_answered_before-is_over-requires-clause-call c =
    let segment = c.args.segment.now in
    let start = c.args.start.space in
    let address = c.args.address in
    let place = c.loop-place.place in
    let is = c.loop-place.invariant in
    let looks : c.look_of-then.result ≡ looks_from start segment address (place + 1) =
    c.look_of-then.ensures.looks ∙ ap (λ (s : BoundedSpace). look s.space address) (c.in_ok-apply_place.ensures.ok start is.space) in
    let test = c.loop-place-test.true in
    let reads = ap length c.log.ensures.reads in
    change_has_call start segment address place (omega (arith, test, reads))
    (λ same. iff_false c.is_same.ensures c.if-not-is_same.true (is.looks ∙ same ∙ sym looks))

pub loop-place-preserved : goal.loop-place-preserved
loop-place-preserved c =
    let segment = c.args.segment.now in
    let start = c.args.start.space in
    let address = c.args.address in
    let made = c.args.made in
    let answered = c.args.answered in
    let with_page = c.args.with_page in
    let place = c.loop-place.place in
    let is = c.loop-place.invariant in
    let space = c.in_ok-apply_place.ensures.ok start is.space in
    let then_is = ap (λ (s : BoundedSpace). s.space) space in
    let looks : c.look_of-then.result ≡ looks_from start segment address (place + 1) =
    c.look_of-then.ensures.looks ∙ ap (λ (s : Space). look s address) then_is in
    let next : IsSpace segment.layout.depth (space_from start segment (take (place + 1) segment.log)) =
    subst (λ (s : BoundedSpace). IsSpace s.depth s.space) space c.look_of-then.ensures.is_space in
    record {
      space = space;
      looks = looks;
      is_space = next;
      window = elim c.if-not-is_same.branch [
        | then-not-is_same w ↦ subst (IsWindowBelow start segment address made answered with_page (place + 1)) (sym w.window-is)
            (window_narrows start segment address made answered with_page place w.is_ended-ends.result w.is_answered_before-is_over.result
            w.is_made_after-is_later.result
            (ends_here start segment address with_page place c.loop-place.look c.look_of-then.result is.looks looks is.is_space next w.is_ended-ends.result
            w.is_ended-ends.ensures) w.is_answered_before-is_over.ensures w.is_made_after-is_later.ensures
            (λ same. iff_false c.is_same.ensures w.if-not-is_same.true (is.looks ∙ ap (look_in_page address) same ∙ sym looks))
            c.loop-place.window w.narrow-window.result w.narrow-window.ensures.first w.narrow-window.ensures.last w.narrow-window.ensures.still_open
            is.window)
        | else-not-is_same w ↦ subst (IsWindowBelow start segment address made answered with_page (place + 1)) (sym w.window-is)
            (window_stays start segment address made answered with_page c.loop-place.window place
            (λ changes. changes (same_page segment.layout.depth (space_from start segment (take place segment.log))
            (space_from start segment (take (place + 1) segment.log)) address is.is_space next
            (sym is.looks ∙ c.is_same.ensures.0 w.if-not-is_same.false ∙ looks))) is.window)
      ];
    }
