-- Changes that lead from one space to another, and so can be undone. No public clause cites this file.
use Rattle.std.specs.Prelude.{◌≡◌, List, [], ◌∷◌}
use Rattle.vs_types.specs.Space.{Space, IsSpace}
use Rattle.vs_types.specs.declared.addresses.depth.Depth.{Depth}
use Rattle.nr_touch.specs.inside.Changes.{IsPageChange}
use Rattle.nr_touch.specs.declared.changes.change.Change.{Change}

-- the change makes the second space of the first
pub record ComesFrom (depth : Depth) (before after : Space) (change : Change) : Type 0 where
  pub is_space : IsSpace depth before
  pub changed : IsPageChange depth before after change

-- the changes, one after another, make the second space of the first
abbrev pub LeadsTo : Depth → Space → List Change → Space → Type 0
LeadsTo depth before [] after = before ≡ after
LeadsTo depth before (change ∷ changes) after = (next : Space) × ComesFrom depth before next change × LeadsTo depth next changes after
