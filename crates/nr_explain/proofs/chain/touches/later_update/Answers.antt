use Rattle.std.proofs.Common.{◌<◌, Option, length, refl, sym, subst}
use Rattle.std.specs.Prelude.{IfSome, IsSome}
use Rattle.nr_explain.specs.declared.trace.nearby.Stretch.{Stretch}
use Rattle.nr_explain.proofs.Missed.{later_found, later_has_call}
use Rattle.nr_explain.proofs.chain.touches.later_update.Goals as goal

pub update_at-requires-clause-within : goal.update_at-requires-clause-within
update_at-requires-clause-within c =
    subst (λ (behind : Option Stretch). IfSome behind (λ stretch. c.args.window.last < length c.args.segment.now.log)) c.in-Some.is c.requires.right

pub update_at-requires-clause-call : goal.update_at-requires-clause-call
update_at-requires-clause-call c =
    let (start, address, made, answered, with_page, is) = c.requires.window in
    later_has_call start c.args.segment.now address made answered with_page c.args.window is
    (subst (λ (behind : Option Stretch). IfSome behind (λ stretch. c.args.window.last < length c.args.segment.now.log)) c.in-Some.is c.requires.right)

pub returns-in-Some : goal.returns-in-Some
returns-in-Some c = λ start address made answered with_page is.
    later_found start c.args.segment.now address made answered with_page c.args.window is
    (subst (λ (behind : Option Stretch). IfSome behind (λ stretch. c.args.window.last < length c.args.segment.now.log)) c.in-Some.is c.requires.right)
    c.args.right.behind c.update_at.result
    (subst (λ (behind : Option Stretch). IsSome behind) (sym c.in-Some.is) refl)
    c.update_at.ensures.place c.update_at.ensures.placed c.update_at.ensures.call

pub returns-in-None : goal.returns-in-None
returns-in-None c = λ start address made answered with_page is. c.in-None.is
