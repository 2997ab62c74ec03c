use Rattle.std.proofs.Common.{sym, ap, ◌∙◌}
use Rattle.std.specs.FinMap as finite
use Rattle.vs_space.specs.Held.{Held}
use Rattle.vs_space.proofs.Numbered.{len_numbered}
use Rattle.vs_space.proofs.tables.Tables.used.Goals as goal

pub returns-clause-counts : goal.returns-clause-counts
returns-clause-counts g c = c.used.ensures.counts ∙ sym (len_numbered _ _) ∙ ap (λ (h : Held). finite.len h.memory) c.self.view_is
