use Rattle.std.proofs.Common.{◌≡◌, List, sym, subst}
use Rattle.std.proofs.lemmas.Result.{IfOk-weaker}
use Rattle.vs_types.specs.declared.requests.answer.Answer.{Answer}
use Rattle.nr_touch.specs.Looks.{looks_left, AreLooksLeft}
use Rattle.nr_touch.proofs.cuts.Looks.{looks_are}
use Rattle.nr_touch.proofs.touches.tail.Tail.looks_left.Goals as goal

pub looks_of-requires : goal.looks_of-requires
looks_of-requires c = rw c.deref.ensures.value c.requires

pub returns-clause-list : goal.returns-clause-list
returns-clause-list c = rw c.deref.ensures.value at c.looks_of.ensures

pub returns-clause-are : goal.returns-clause-are
returns-clause-are c =
    let changes = c.args.self.now.changes.items in
    let address = c.args.address in
    IfOk-weaker c.looks_of.result (λ looks. looks.items ≡ looks_left changes address) (λ looks. AreLooksLeft changes address looks.items)
    (λ looks is. subst (λ (ls : List Answer). AreLooksLeft changes address ls) (sym is) (looks_are changes address)) (returns-clause-list c)
