use Rattle.std.proofs.Common.{sym, ◌∙◌}
use Rattle.std.proofs.lemmas.Bool.Decides.{Decides-like}
use Rattle.nr_touch.proofs.Looked.{none_refused, refused_back, refused_forth, unmapped_back, unmapped_forth}
use Rattle.nr_touch.proofs.Tests.{no}
use Rattle.nr_touch.proofs.touches.between.is_refused.Goals as goal

pub returns-then-code-fault_code : goal.returns-then-code-fault_code
returns-then-code-fault_code c = λ is.
    let none = c.if-code-fault_code.true ∙ c.fault_code.ensures in
    Decides-like _ (unmapped_forth c.args.history.now c.requires c.args.touch.now c.args.size c.args.first c.args.last c.args.code is _
    c.number_at.ensures none)
    (unmapped_back c.args.history.now c.requires c.args.touch.now c.args.size c.args.first c.args.last c.args.code is _ c.number_at.ensures none)
    (rw c.deref.ensures.value at c.has.ensures)

pub returns-then-code-fault_code-2 : goal.returns-then-code-fault_code-2
returns-then-code-fault_code-2 c = λ is.
    let page = c.if-code-fault_code-2.true ∙ c.fault_code-2.ensures in
    Decides-like _ (refused_forth c.args.history.now c.requires c.args.touch.now c.args.size c.args.first c.args.last c.args.code is _ c.number_at.ensures page)
    (refused_back c.args.history.now c.requires c.args.touch.now c.args.size c.args.first c.args.last c.args.code is _ c.number_at.ensures page)
    (rw c.deref-then-code-fault_code-2.ensures.value at c.has_rights.ensures)

pub returns : goal.returns
returns c = λ is. no (none_refused c.args.history.now c.requires c.args.touch.now c.args.size c.args.first c.args.last c.args.code is
    (λ e. c.if-code-fault_code.false (e ∙ sym c.fault_code.ensures)) (λ e. c.if-code-fault_code-2.false (e ∙ sym c.fault_code-2.ensures)))
