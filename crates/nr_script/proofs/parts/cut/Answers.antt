use Rattle.std.proofs.Common.{◌∷◌, ◌+◌, List, ℕ, take, sym, ap, ◌∙◌, arith, eq-eqb}
use Rattle.std.proofs.lemmas.List.{take_rest}
use Rattle.vs_text.specs.Words.{parts}
use Rattle.vs_text.proofs.Cuts.{cut_at, same, uncut}
use Rattle.nr_script.proofs.parts.cut.Goals as goal

pub returns-in-Some : goal.returns-in-Some
returns-in-Some c =
    let text = c.args.text.now in
    let i = c.in-Some.index in
    let first = c.in-Some.ensures in
    cut_at c.args.separator text i first.0.high (λ k below e. first.0.before k (omega arith) below (eq-eqb _ _ e)) (same _ _ first.1)
    ∙ ap (λ (rest : List ℕ). take i text ∷ parts c.args.separator rest) (sym (take_rest text (i + 1)))

pub returns-in-None : goal.returns-in-None
returns-in-None c = uncut c.args.separator c.args.text.now (λ k below e. c.in-None.ensures k (omega arith) below (eq-eqb _ _ e))
