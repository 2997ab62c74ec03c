use Rattle.std.proofs.Common.{◌≡◌, inl, inr, ℕ, ◌+◌, ◌++◌, ◌∷◌, [], List, Vec, Global, refl, sym, ap, subst, ◌∙◌, arith}
use Rattle.vs_types.specs.Step.{look}
use Rattle.vs_plain.specs.Plain.{BoundedSpace}
use Rattle.nr_explain.specs.Facts.{looks_from}
use Rattle.nr_explain.specs.inside.Windows.{AreLooksBelow}
use Rattle.nr_explain.specs.declared.chain.evidence.Moment.{Moment}
use Rattle.nr_explain.proofs.Looking.{all_looks, changed_at, differs_at, look_first, look_later, look_pushed, look_skipped}
use Rattle.nr_explain.proofs.chain.touches.looks_in.Goals as goal
use Rattle.nr_explain.proofs.chain.touches.looks_in.Goals.{then-window-eq0+in_ok-push, else-window-eq0, then-is_listed+in_ok-push-2, else-is_listed}

abbrev listed_in : Vec Moment Global → List Moment
listed_in v = v.items

pub apply_place-requires-clause-before : goal.apply_place-requires-clause-before
apply_place-requires-clause-before c = (c.args.start.space, c.loop-place.invariant.space)

pub loop-place-init : goal.loop-place-init
loop-place-init c =
    let segment = c.args.segment.now in
    let start = c.args.start.space in
    let address = c.args.address in
    let first = c.args.window.first in
    let moment : Moment = record { entries = 0; look = c.resolve-look.result } in
    record {
      space = c.requires.start;
      looks = c.resolve-look.ensures;
      listed = elim c.if-window-eq0.branch [
        | then-window-eq0+in_ok-push w ↦
            look_first start segment address first c.if-window-eq0.looks.items moment w.if-window-eq0.true refl c.resolve-look.ensures
            (ap listed_in w.looks-is ∙ w.in_ok-push.ensures.items ∙ ap (λ (ms : List Moment). ms ++ moment ∷ []) c.new-looks.ensures.items)
        | else-window-eq0 w ↦
            look_later start segment address first c.if-window-eq0.looks.items (let other = w.if-window-eq0.false in omega arith)
            (ap listed_in w.looks-is ∙ c.new-looks.ensures.items)
      ];
    }

pub loop-place-preserved : goal.loop-place-preserved
loop-place-preserved c =
    let segment = c.args.segment.now in
    let start = c.args.start.space in
    let address = c.args.address in
    let first = c.args.window.first in
    let place = c.loop-place.place in
    let is = c.loop-place.invariant in
    let space = c.in_ok-apply_place.ensures.ok start is.space in
    let looks : c.resolve-then.result ≡ looks_from start segment address (place + 1) =
    c.resolve-then.ensures ∙ ap (λ (s : BoundedSpace). look s.space address) space in
    let moment : Moment = record { entries = place + 1; look = c.resolve-then.result } in
    record {
      space = space;
      looks = looks;
      listed = elim c.if-is_listed.branch [
        | then-is_listed+in_ok-push-2 w ↦ (
            let told = c.is_listed.ensures.listed w.if-is_listed.true in
            look_pushed start segment address first (place + 1) c.loop-place.looks.items c.if-is_listed.looks.items moment refl told.0 looks
            (elim told.1 [
              | inl here ↦ inl here
              | inr other ↦ inr (changed_at start segment address first place c.loop-place.look c.resolve-then.result is.looks looks other)
            ])
            (ap listed_in w.looks-is ∙ w.in_ok-push-2.ensures.items) is.listed)
        | else-is_listed w ↦
            look_skipped start segment address first (place + 1) c.if-is_listed.looks.items
            (λ low which. c.is_listed.ensures.not_listed w.if-is_listed.false low (elim which [
              | inl here ↦ inl here
              | inr other ↦ inr (differs_at start segment address first place c.loop-place.look c.resolve-then.result is.looks looks other)
            ]))
            (subst (AreLooksBelow start segment address first (place + 1)) (sym (ap listed_in w.looks-is)) is.listed)
      ];
    }

pub returns : goal.returns
returns c =
    let segment = c.args.segment.now in
    let start = c.args.start.space in
    let over = c.loop-place-test.false in
    let low = c.loop-place.auto.place-end in
    let at_end : c.loop-place.place ≡ c.args.window.last = omega arith in
    all_looks start segment c.args.address c.args.window.first c.args.window.last c.loop-place.looks.items
    (subst (λ (n : ℕ). AreLooksBelow start segment c.args.address c.args.window.first (n + 1) c.loop-place.looks.items) at_end
    c.loop-place.invariant.listed)
