use Rattle.std.proofs.Common.{◌≡◌, Option, Some, None, option_map, IfSome, refl, sym, ap, ◌∙◌, subst}
use Rattle.nr_audit.specs.declared.histories.past.Past.{Past}
use Rattle.nr_audit.proofs.verdicts.judging.parts_of.Goals as goal

pub returns-in-Some-clause-space : goal.returns-in-Some-clause-space
returns-in-Some-clause-space c = ap (λ (o : Option Past). option_map (λ (p : Past). p.space) o) (sym c.in-Some.is)

pub returns-in-Some-clause-tail : goal.returns-in-Some-clause-tail
returns-in-Some-clause-tail c = subst (λ (o : Option Past). IfSome o (λ (p : Past). c.in-Some.past.tail ≡ p.tail)) (sym c.in-Some.is) refl

pub returns-in-Some-clause-none : goal.returns-in-Some-clause-none
returns-in-Some-clause-none c = λ none. absurd (let both : Some c.in-Some.past ≡ None = sym c.in-Some.is ∙ none in cc)

pub returns-in-Some-clause-sound : goal.returns-in-Some-clause-sound
returns-in-Some-clause-sound c = λ none. absurd (let both : Some c.in-Some.past ≡ None = sym c.in-Some.is ∙ none in cc)

pub returns-in-None-clause-space : goal.returns-in-None-clause-space
returns-in-None-clause-space c = ap (λ (o : Option Past). option_map (λ (p : Past). p.space) o) (sym c.in-None.is)

pub returns-in-None-clause-tail : goal.returns-in-None-clause-tail
returns-in-None-clause-tail c = subst (λ (o : Option Past). IfSome o (λ (p : Past). c.none.result ≡ p.tail)) (sym c.in-None.is) tt

pub returns-in-None-clause-none : goal.returns-in-None-clause-none
returns-in-None-clause-none c = λ none. c.none.ensures.none

pub returns-in-None-clause-sound : goal.returns-in-None-clause-sound
returns-in-None-clause-sound c = λ none. c.none.ensures.sound
