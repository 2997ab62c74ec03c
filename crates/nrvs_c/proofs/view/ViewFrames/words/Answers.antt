use Rattle.std.proofs.Common.{◌≡◌, ◌+◌, ◌≤◌, length, Some, sym, ap, ◌∙◌, arith}
use Rattle.std.proofs.lemmas.Bool.{ltb-false}
use Rattle.std.proofs.lemmas.Option.{slice_get-get_or, slice_get_past}
use Rattle.nrvs_c.proofs.Views.{lent_from, lent_below}
use Rattle.nrvs_c.proofs.view.ViewFrames.words.Goals as goal

pub returns-in_err-index : goal.returns-in_err-index
returns-in_err-index c = c.from_residual.ensures ∙ sym (lent_below _ _ c.args.number (omega (arith, c.in_err-index.ensures)))

pub returns-in_err-words : goal.returns-in_err-words
returns-in_err-words c =
    let words = c.args.self.now.words.now in
    let at : c.args.self.now.table.now.base + c.in_ok-index.index ≡ c.args.number = omega (arith, c.in_ok-index.ensures) in
    let past : length words ≤ c.in_ok-index.index = ltb-false _ _ (sym c.in_err-words.ensures.lookup.0) in
    c.from_residual-in_err-words.ensures ∙ sym (lent_from _ words c.args.number c.in_ok-index.index at ∙ slice_get_past words c.in_ok-index.index past)

pub returns : goal.returns
returns c =
    let words = c.args.self.now.words.now in
    let at : c.args.self.now.table.now.base + c.in_ok-index.index ≡ c.args.number = omega (arith, c.in_ok-index.ensures) in
    let got = slice_get-get_or words c.in_ok-index.index c.in_ok-words.words.now c.in_ok-words.ensures.lookup.3.0
    ∙ ap Some (sym c.in_ok-words.ensures.lookup.1) in
    ap Some c.whole.ensures ∙ sym (lent_from _ words c.args.number c.in_ok-index.index at ∙ got)
