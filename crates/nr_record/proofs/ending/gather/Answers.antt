use Rattle.std.proofs.Common.{◌≡◌, ℕ, List, [], ◌∷◌, ◌++◌, All, length, ap, sym, subst, ◌∙◌}
use Rattle.std.proofs.lemmas.List.Elements.{All-head}
use Rattle.std.specs.List.{flat_map, sum_by}
use Rattle.std.proofs.lemmas.List.{append-nil}
use Rattle.std.proofs.lemmas.Grind.{flat_map-append}
use Rattle.std.proofs.lemmas.List.Concat.{flat_map-cons}
use Rattle.nr_record.specs.Pen.{ClockId, PenState, stamps_of}
use Rattle.nr_record.specs.Stamps.{AreBelow}
use Rattle.nr_record.specs.declared.stamped.Stamped.{Stamped}
use Rattle.nr_record.specs.declared.view.View.{View}
use Rattle.nr_record.specs.inside.Held.{IsTrueOf}
use Rattle.nr_record.proofs.Gathering.{IsGathered, all_done, empty_rest, gathered_first, gathered_more, next_of, true_of}
use Rattle.nr_record.proofs.ending.gather.Goals as goal

pub loop-pen-init : goal.loop-pen-init
loop-pen-init c =
    let is = c.first.view_is in
    let first = c.in-Some.first in
    let view = c.first.inside.seat.me.0 in
    let held = c.first.invariant.1 in
    let all = c.args.pens.items in
    let parts = sym c.into_iter-pens.ensures.rest ∙ c.in-Some.ensures.items
    ∙ ap (λ it. first ∷ it.rest.items) (sym c.into_iter-pen-iterator.ensures.into_iter_gives) in
    let clock = All-head (λ (p : PenState). p.clock ≡ c.args.clock) first _
    (subst (λ ps. All (λ (p : PenState). p.clock ≡ c.args.clock) ps) parts c.requires.pens.of_clock) in
    let items = c.in_ok-push.ensures.items ∙ ap (λ v. v ++ c.first.inside.made ∷ []) c.in_ok-notes.ensures.items in
    let flat : flat_map (λ made. made.items) c.push.new.self.items ≡ first.made =
    ap (λ v. flat_map (λ made. made.items) v) items ∙ flat_map-cons (λ made. made.items) c.first.inside.made [] ∙ append-nil c.first.inside.made.items
    ∙ ap (λ (p : PenState). p.made) is in
    let gathered = gathered_first all c.into_iter-pen-iterator.result.rest.items view first parts (ap (λ (p : PenState). p.quota) is)
    (sym held.same ∙ ap stamps_of is) (true_of _ _ _ _ _ _ _ _ held is) in (
      tt,
      tt,
      ap (λ (p : PenState). p.clock.word) is ∙ ap (λ (k : ClockId). k.word) clock,
      subst (λ (kept : List Stamped). IsGathered all c.into_iter-pen-iterator.result.rest.items view kept) (sym flat) gathered,
    )

pub join-requires-clause-clock : goal.join-requires-clause-clock
join-requires-clause-clock c =
    let is = c.pen.view_is in
    let all = c.args.pens.items in
    let pen = c.in-Some-pen.pen in
    let inv = c.loop-pen.invariant in
    let before = subst (λ (rest : List PenState). IsGathered all rest c.loop-pen.seat.me.0 (flat_map (λ made. made.items) c.loop-pen.notes.items))
    c.in-Some-pen.ensures.steps.0 inv.3 in
    let clock = next_of (λ (p : PenState). p.clock ≡ c.args.clock) all _ _ _ pen c.requires.pens.of_clock before in
    (inv.2, ap (λ (p : PenState). p.clock.word) is ∙ ap (λ (k : ClockId). k.word) clock)

pub loop-pen-preserved : goal.loop-pen-preserved
loop-pen-preserved c =
    let is = c.pen.view_is in
    let all = c.args.pens.items in
    let pen = c.in-Some-pen.pen in
    let other = c.pen.inside.seat.me.0 in
    let held = c.pen.invariant.1 in
    let inv = c.loop-pen.invariant in
    let rest = c.next-in-loop-pen.new.self.rest.items in
    let kept : List Stamped = flat_map (λ made. made.items) c.loop-pen.notes.items in
    let before = subst (λ (rest : List PenState). IsGathered all rest c.loop-pen.seat.me.0 kept) c.in-Some-pen.ensures.steps.0 inv.3 in
    let flat : flat_map (λ made. made.items) c.push-in-loop-pen.new.self.items ≡ kept ++ pen.made =
    ap (λ v. flat_map (λ made. made.items) v) c.in_ok-push-2.ensures.items
    ∙ flat_map-append (λ made. made.items) c.loop-pen.notes.items (c.pen.inside.made ∷ [])
    ∙ ap (λ (xs : List Stamped). kept ++ xs)
    (flat_map-cons (λ made. made.items) c.pen.inside.made [] ∙ append-nil c.pen.inside.made.items ∙ ap (λ (p : PenState). p.made) is) in
    let gathered = gathered_more all rest c.loop-pen.seat.me.0 other kept pen before (ap (λ (p : PenState). p.quota) is)
    (sym held.same ∙ ap stamps_of is) (true_of _ _ _ _ _ _ _ _ held is) in (
      tt,
      tt,
      c.join.ensures.clock ∙ inv.2,
      subst (λ (kept : List Stamped). IsGathered all rest c.join.new.seat.me.0 kept) (sym flat)
          (subst (λ (v : View). IsGathered all rest v (kept ++ pen.made)) (sym c.join.ensures.view) gathered),
    )

pub close-requires-clause-whole : goal.close-requires-clause-whole
close-requires-clause-whole c =
    let none = empty_rest _ _ c.loop-pen.pen-iterator.rest.ok.0 c.in-None.ensures.steps.0 in
    let end = subst (λ (rest : List PenState). IsGathered c.args.pens.items rest c.loop-pen.seat.me.0 (flat_map (λ made. made.items) c.loop-pen.notes.items))
    none c.loop-pen.invariant.3 in
    end.quota ∙ ap (λ ps. sum_by (λ (p : PenState). p.quota) ps) (sym (all_done _ _ _ end)) ∙ c.requires.pens.quotas

pub returns : goal.returns
returns c =
    let none = empty_rest _ _ c.loop-pen.pen-iterator.rest.ok.0 c.in-None.ensures.steps.0 in
    let end = subst (λ (rest : List PenState). IsGathered c.args.pens.items rest c.loop-pen.seat.me.0 (flat_map (λ made. made.items) c.loop-pen.notes.items))
    none c.loop-pen.invariant.3 in
    let all = sym (all_done _ _ _ end) in
    let same = end.stamps ∙ ap (λ ps. flat_map stamps_of ps) all in
    record {
      notes = end.notes ∙ ap (λ ps. flat_map (λ (p : PenState). p.made) ps) all;
      stamps = (
        subst (λ (xs : List ℕ). AreBelow c.close.result xs) same c.close.ensures.stamps,
        sym (ap (λ (xs : List ℕ). length xs) same) ∙ c.close.ensures.count.0,
        c.close.ensures.count.1,
      );
      each = subst (λ ps. All IsTrueOf ps) all end.each;
    }
