use Rattle.std.proofs.Common.{◌≡◌, subst, ◌∙◌}
use Rattle.vs_types.specs.Space as spaces
use Rattle.vs_space.specs.Table.{PageTable, IsTableOf}
use Rattle.vs_space.proofs.Protects.{space_of}
use Rattle.vs_space.proofs.space.Space.tables.Goals as goal

pub returns-clause-counts : goal.returns-clause-counts
returns-clause-counts g c = subst (λ (t : PageTable). (space : spaces.Space) → IsTableOf t space → c.used.result ≡ spaces.table_count t.depth space)
    c.self.view_is (λ space is. c.used.ensures.counts ∙ (space_of c.self.invariant.0 is).counted)
