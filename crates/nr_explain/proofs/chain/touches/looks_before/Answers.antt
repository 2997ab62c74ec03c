use Rattle.std.proofs.Common.{Option, sym, subst}
use Rattle.nr_touch.specs.Looks.{AreLooksLeft}
use Rattle.std.specs.Prelude.{IfOk, IfSome}
use Rattle.nr_explain.specs.inside.Reading.{all_states, left_seen, HasSoundTail}
use Rattle.nr_explain.specs.declared.chain.progress.Progress.{Progress}
use Rattle.nr_explain.proofs.EarlierLooks.{none_before}
use Rattle.nr_explain.proofs.chain.touches.looks_before.Goals as goal

pub looks_left-requires : goal.looks_left-requires
looks_left-requires c = subst (λ (l : Option Progress). IfSome l HasSoundTail) c.in-Some.is c.requires

pub returns-in-Some : goal.returns-in-Some
returns-in-Some c =
    subst (λ (l : Option Progress). IfOk c.looks_left.result (λ looks. AreLooksLeft (left_seen (all_states l)) c.args.address looks.items))
    (sym c.in-Some.is) c.looks_left.ensures.are

pub returns-in-None : goal.returns-in-None
returns-in-None c = none_before c.args.last.now c.args.address _ c.in-None.is c.new.ensures.items
