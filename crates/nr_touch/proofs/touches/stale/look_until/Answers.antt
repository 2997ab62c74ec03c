use Rattle.std.proofs.Common.{sym, ap, ◌∙◌}
use Rattle.vs_types.specs.Step.{look_in_page}
use Rattle.nr_touch.specs.inside.Walk.{shown}
use Rattle.nr_touch.proofs.touches.stale.look_until.Goals as goal

pub look_before-requires-clause-has : goal.look_before-requires-clause-has
look_before-requires-clause-has c = rw c.in-Some.is at c.requires.covers

pub look_before-requires-clause-low : goal.look_before-requires-clause-low
look_before-requires-clause-low c = (rw c.in-Some.is at c.requires.numbered).low

pub returns-in-Some : goal.returns-in-Some
returns-in-Some c = λ now e.
    let a = c.args.address in
    c.look_before.ensures ∙ sym (ap (look_in_page a) (e ∙ ap (λ o. shown o c.args.space.now.space a) c.in-Some.is))

pub returns-in-None : goal.returns-in-None
returns-in-None c = λ now e.
    let a = c.args.address in
    c.resolve.ensures ∙ sym (ap (look_in_page a) (e ∙ ap (λ o. shown o c.args.space.now.space a) c.in-None.is))
