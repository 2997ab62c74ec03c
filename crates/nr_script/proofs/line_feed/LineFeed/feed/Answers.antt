use Rattle.std.proofs.Common.{ℕ, ◌+◌, ◌++◌, List, arith, eq-eqb, ap, subst, sym, ◌∙◌}
use Rattle.vs_text.proofs.Cuts.{same}
use Rattle.nr_script.specs.Fed.{EndsLine, GoesOn}
use Rattle.nr_script.proofs.LinesFed.{ended, goes_on}
use Rattle.nr_script.proofs.line_feed.LineFeed.feed.Goals as goal

pub returns-in_ok-said-in-Some-clause-fed : goal.returns-in_ok-said-in-Some-clause-fed
returns-in_ok-said-in-Some-clause-fed c =
    let old = c.args.self.now in
    let piece = c.args.piece.now in
    let index = c.in-Some.index in
    let first = c.in-Some.ensures in
    let said = c.in_ok-said-in-Some.said in
    let ends = c.in_ok-said-in-Some.ensures in
    subst (λ (new : List ℕ). EndsLine c.args.depth old piece new (index + 1) said) (sym ends.next)
    (ended c.args.depth old piece index said c.ends_no_line.ensures first.0.high (λ k below e. first.0.before k (omega arith) below (eq-eqb _ _ e))
    (same _ _ first.1) ends.says)

pub returns-in_ok-extend_from_slice-in-None-clause-fed : goal.returns-in_ok-extend_from_slice-in-None-clause-fed
returns-in_ok-extend_from_slice-in-None-clause-fed c =
    let old = c.args.self.now in
    let piece = c.args.piece.now in
    let items = c.in_ok-extend_from_slice-in-None.ensures.items in
    subst (λ (new : List ℕ). GoesOn old piece new) (sym (items ∙ ap (λ (front : List ℕ). front ++ piece) c.self.view_is))
    (goes_on old piece c.ends_no_line.ensures (λ k below e. c.in-None.ensures k (omega arith) below (eq-eqb _ _ e)))
