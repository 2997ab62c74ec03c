-- A plain address space: its depth, its limit of tables, and the space of its pages.
use Rattle.std.specs.Prelude.{◌≡◌, ℕ}
use Rattle.vs_types.specs.Space.{Space}
use Rattle.vs_types.specs.Step.{step}
use Rattle.vs_types.specs.declared.addresses.depth.Depth.{Depth}
use Rattle.vs_types.specs.declared.requests.op.Action.{Action}
use Rattle.vs_types.specs.declared.requests.answer.Answer.{Answer}

-- a space, its depth, and the most tables that it may have
pub record BoundedSpace : Type 0 where
  pub depth : Depth
  pub limit : ℕ
  pub space : Space

-- one step of what is kept, and its answer
abbrev pub IsPlainStep : BoundedSpace → Action → Answer → BoundedSpace → Type 0
IsPlainStep old action answer new = let after = step old.depth old.limit old.space action in
    (answer ≡ after.answer) × (new ≡ record old { space = after.space })
