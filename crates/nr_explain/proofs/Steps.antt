-- When two ways are the same, as `==` says.
use Rattle.std.proofs.Common.{◌≡◌, Bool, true, List, ◌↔◌, eqb, refl, sym, subst, ◌∙◌}
use Rattle.std.proofs.lemmas.Bool.{eq-eqb, eqb-true, and_parts, and_from}
use lib.Pointwise.{pointwise, pointwise_decides}
use Rattle.nr_explain.specs.declared.trace.evidence.TableEntry.{TableEntry}
use Rattle.nr_explain.specs.contracts.trace.evidence.TableEntryPartialEq.TheImpl as steps

same_step : (x y : TableEntry) → steps.ghosts.eq x y ≡ true → x ≡ y
same_step x y e =
    let first = and_parts (eqb x.level y.level) _ e in
    let second = and_parts (eqb x.frame y.frame) _ first.1 in
    let third = and_parts (eqb x.index y.index) _ second.1 in
    let level = eqb-true x.level y.level first.0 in
    let frame = eqb-true x.frame y.frame second.0 in
    let index = eqb-true x.index y.index third.0 in
    let word = eqb-true x.word y.word third.1 in
    λ t. record { level = level t; frame = frame t; index = index t; word = word t }

itself : (x : TableEntry) → steps.ghosts.eq x x ≡ true
itself x = and_from (eqb x.level x.level) _ (eq-eqb x.level x.level refl)
    (and_from (eqb x.frame x.frame) _ (eq-eqb x.frame x.frame refl)
    (and_from (eqb x.index x.index) _ (eq-eqb x.index x.index refl) (eq-eqb x.word x.word refl)))

decides : (x y : TableEntry) → (steps.ghosts.eq x y ≡ true → x ≡ y) × (x ≡ y → steps.ghosts.eq x y ≡ true)
decides x y = (same_step x y, λ e. subst (λ (z : TableEntry). steps.ghosts.eq x z ≡ true) e (itself x))

pub same_ways : (xs ys : List TableEntry) (told : Bool) → told ≡ pointwise steps.ghosts.eq xs ys → (told ≡ true) ↔ (xs ≡ ys)
same_ways xs ys told e =
    let both = pointwise_decides decides xs ys in
    (λ is. both.0 (sym e ∙ is), λ same. e ∙ both.1 same)
