use Rattle.std.proofs.Common.{◌≡◌, ◌↔◌, Bool, true, false, not, is_some, length, vec_len, Option, Some, None, IsTrue, eq-eqb, refl, ap, sym, ◌∙◌, arith}
use Rattle.std.proofs.lemmas.Bool.{eqb-true, false≢true}
use Rattle.std.proofs.lemmas.Bool.Decides.{Decides-like}
use Rattle.std.proofs.lemmas.List.{nil_from_length}
use Rattle.nr_touch.specs.declared.releases.lingering.Indexes.{Indexes}
use Rattle.nr_touch.proofs.Tests.{no}
use Rattle.nr_touch.proofs.touches.tail.Tail.is_none.Goals as goal

-- whether an index is there
is_gone : (index : Option Indexes) (none : Bool) → is_some index ≡ not none → IsTrue none ↔ (index ≡ None)
is_gone None true says = (λ t. refl, λ gone. refl)
is_gone None false says = absurd (false≢true says)
is_gone (Some index) true says = absurd (false≢true (sym says))
is_gone (Some index) false says = no (λ gone. cc)

pub returns-then-not-is_empty : goal.returns-then-not-is_empty
returns-then-not-is_empty c = no (λ it.
    let changes = c.args.self.now.changes in
    let all : vec_len changes ≡ length changes.items = omega (arith, changes.ok.0) in
    false≢true (sym c.if-not-is_empty.true ∙ c.is_empty.ensures ∙ eq-eqb (vec_len changes) 0 (all ∙ ap length it.0)))

pub returns : goal.returns
returns c =
    let changes = c.args.self.now.changes in
    let all : vec_len changes ≡ length changes.items = omega (arith, changes.ok.0) in
    let none = nil_from_length changes.items (sym all ∙ eqb-true (vec_len changes) 0 (sym c.is_empty.ensures ∙ c.if-not-is_empty.false)) in
    Decides-like _ (λ gone. (none, gone)) (λ it. it.1) (is_gone c.args.self.now.index c.is_none.result c.is_none.ensures)
