use Rattle.std.proofs.Common.{sym, ap, ◌∙◌, ◌++◌, ◌∷◌, [], reverse}
use Rattle.std.proofs.lemmas.Bool.{false≢true, false_from_ne_true}
use Rattle.vs_types.specs.Page.{covers}
use Rattle.vs_types.specs.declared.requests.answer.Answer.{Answer}
use Rattle.nr_touch.proofs.cuts.Looks.{ended_passed, looks_ended, looks_passed, reversed_more}
use Rattle.nr_touch.proofs.touches.looks.pass.Goals as goal

pub returns-then-not-has : goal.returns-then-not-has
returns-then-not-has c = λ later are list.
    let left = c.args.left.now in
    let apart = false_from_ne_true (covers left.change.page c.args.address) (λ covered. false≢true (sym c.if-not-has.true ∙ c.has.ensures.1 covered)) in (
      ended_passed left later c.args.address apart c.args.ended are,
      list ∙ ap reverse (sym (looks_passed left later c.args.address apart)),
    )

pub returns-then-is_ended : goal.returns-then-is_ended
returns-then-is_ended c = λ later are list.
    let left = c.args.left.now in
    let now = c.ended_with-now.ensures later c.args.address are (c.has.ensures.0 c.if-not-has.false) in (
      now,
      list ∙ ap reverse (sym (looks_ended left later c.args.address (sym (c.is_ended.ensures (left ∷ later) c.args.address now) ∙ c.if-is_ended.true))),
    )

pub look_before-requires-clause-has : goal.look_before-requires-clause-has
look_before-requires-clause-has c = c.has.ensures.0 c.if-not-has.false

pub look_before-requires-clause-low : goal.look_before-requires-clause-low
look_before-requires-clause-low c = c.requires.low

pub returns : goal.returns
returns c = λ later are list.
    let left = c.args.left.now in
    let covered = c.has.ensures.0 c.if-not-has.false in
    let now = c.ended_with-now.ensures later c.args.address are covered in (
      now,
      c.in_ok-push.ensures.items ∙ ap (λ (x : Answer). c.args.looks.now.items ++ x ∷ []) c.look_before.ensures
          ∙ reversed_more left later c.args.address c.args.looks.now.items list covered
          (sym (c.is_ended.ensures (left ∷ later) c.args.address now) ∙ c.if-is_ended.false),
    )
