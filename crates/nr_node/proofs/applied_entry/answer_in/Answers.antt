use Rattle.std.proofs.Common.{ℕ, ◌/◌, ◌%◌, ap, sym, ◌∙◌, arith}
use Rattle.vs_types.specs.inside.Telling.{rights_in, size_in}
use Rattle.vs_types.specs.declared.requests.answer.Answer.TheVariants.{Changed, Mapped, Removed}
use Rattle.nr_node.specs.inside.AppliedEntry.{answer_of}
use Rattle.nr_node.proofs.Tellings.{fault_above}
use Rattle.nr_node.proofs.applied_entry.answer_in.Goals as goal

pub returns-in-0 : goal.returns-in-0
unfolding answer_of
returns-in-0 c =
    let a = c.args in
    sym (ap (λ (k : ℕ). answer_of k a.number (size_in (a.codes / 10 % 3)) (rights_in (a.codes / 30))) c.in-0.is)

pub returns-in-1 : goal.returns-in-1
unfolding answer_of
returns-in-1 c =
    let a = c.args in
    sym (ap (λ (k : ℕ). answer_of k a.number (size_in (a.codes / 10 % 3)) (rights_in (a.codes / 30))) c.in-1.is)

pub returns-in-2 : goal.returns-in-2
unfolding answer_of
returns-in-2 c =
    let a = c.args in
    sym (ap (λ (k : ℕ). answer_of k a.number (size_in (a.codes / 10 % 3)) (rights_in (a.codes / 30))) c.in-2.is)

pub returns-in-3 : goal.returns-in-3
unfolding answer_of
returns-in-3 c =
    let a = c.args in
    (λ i. Removed a.number (c.size_in-size.ensures i) (c.rights_in-rights.ensures i))
    ∙ sym (ap (λ (k : ℕ). answer_of k a.number (size_in (a.codes / 10 % 3)) (rights_in (a.codes / 30))) c.in-3.is)

pub returns-in-4 : goal.returns-in-4
unfolding answer_of
returns-in-4 c =
    let a = c.args in
    sym (ap (λ (k : ℕ). answer_of k a.number (size_in (a.codes / 10 % 3)) (rights_in (a.codes / 30))) c.in-4.is)

pub returns-in-5 : goal.returns-in-5
unfolding answer_of
returns-in-5 c =
    let a = c.args in
    sym (ap (λ (k : ℕ). answer_of k a.number (size_in (a.codes / 10 % 3)) (rights_in (a.codes / 30))) c.in-5.is)

pub returns-in-6 : goal.returns-in-6
unfolding answer_of
returns-in-6 c =
    let a = c.args in
    ap Changed c.rights_in-rights.ensures ∙ sym (ap (λ (k : ℕ). answer_of k a.number (size_in (a.codes / 10 % 3)) (rights_in (a.codes / 30))) c.in-6.is)

pub returns-in-7 : goal.returns-in-7
unfolding answer_of
returns-in-7 c =
    let a = c.args in
    (λ i. Mapped a.number (c.size_in-size.ensures i) (c.rights_in-rights.ensures i))
    ∙ sym (ap (λ (k : ℕ). answer_of k a.number (size_in (a.codes / 10 % 3)) (rights_in (a.codes / 30))) c.in-7.is)

pub returns-in-8 : goal.returns-in-8
unfolding answer_of
returns-in-8 c =
    let a = c.args in
    sym (ap (λ (k : ℕ). answer_of k a.number (size_in (a.codes / 10 % 3)) (rights_in (a.codes / 30))) c.in-8.is)

pub returns-in_default : goal.returns-in_default
returns-in_default c =
    let a = c.args in
    fault_above (a.codes % 10) a.number (size_in (a.codes / 10 % 3)) (rights_in (a.codes / 30)) (omega (arith, c.in_default))
