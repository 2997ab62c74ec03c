use Rattle.std.proofs.Common.{Some, sym, ap, ◌∙◌}
use Rattle.vs_space.specs.Held.{Held, word_at}
use Rattle.vs_space.proofs.Numbered.{word_numbered}
use Rattle.vs_space.proofs.tables.Tables.word.Goals as goal

pub returns : goal.returns
returns g c =
    ap (λ (h : Held). word_at h.memory c.args.number c.args.index) (sym c.self.view_is)
    ∙ word_numbered _ _ c.args.number _ c.args.index c.frame_of.ensures.numbered c.frame_of.ensures.in_use
    ∙ ap Some (sym c.get.ensures)
