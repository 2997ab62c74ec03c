use Rattle.std.proofs.Common.{Some, sym, ap, ◌∙◌, option_copied}
use Rattle.std.specs.FinMap as finite
use Rattle.vs_space.specs.Held.{Held}
use Rattle.vs_space.proofs.Numbered.{none_at, some_at}
use Rattle.vs_space.proofs.tables.Tables.words.Goals as goal

pub returns-in_err-frame : goal.returns-in_err-frame
returns-in_err-frame g c =
    ap option_copied c.from_residual.ensures ∙ sym (none_at _ _ c.args.number c.in_err-frame.ensures.unknown)
    ∙ ap (λ (h : Held). finite.get h.memory c.args.number) c.self.view_is

pub returns : goal.returns
returns g c =
    ap Some c.frame.ensures ∙ sym (some_at _ _ c.args.number _ c.in_ok-frame.ensures.numbered c.in_ok-frame.ensures.in_use)
    ∙ ap (λ (h : Held). finite.get h.memory c.args.number) c.self.view_is
