-- What the calls of a workload are answered, as a sum.
use Rattle.std.specs.Prelude.{◌≡◌, ℕ, zero, suc, List, [], ◌∷◌, All}
use Rattle.vs_types.specs.Space.{Space, no_pages, table_count}
use Rattle.vs_types.specs.Operation.{IsAction}
use Rattle.vs_types.specs.Step.{step, look, after_all}
use Rattle.vs_types.specs.declared.addresses.depth.Depth.{Depth}
use Rattle.vs_types.specs.declared.requests.op.Action.{Action}
use Rattle.vs_space.specs.Table.{PageTable, IsTableOf}
use Rattle.nrvs_benchmark.specs.declared.page_table.load.Load.{Load}
use Rattle.nrvs_benchmark.specs.Sum.{answer_number, sum_with}

-- all operations of a workload are well formed at its depth
pub record IsWellFormed (load : Load) : Type 0 where
  pub maps : All (IsAction load.depth) load.maps.items
  pub protects : All (IsAction load.depth) load.protects.items
  pub unmaps : All (IsAction load.depth) load.unmaps.items

-- a sum goes on with the answers of operations, one after another
abbrev pub sum_of_steps : Depth → ℕ → Space → ℕ → List Action → ℕ
sum_of_steps depth limit space sum [] = sum
sum_of_steps depth limit space sum (action ∷ actions) =
    let after = step depth limit space action in
    sum_of_steps depth limit after.space (sum_with sum (answer_number after.answer)) actions

-- a sum goes on with how addresses look
abbrev pub sum_of_looks : Space → ℕ → List ℕ → ℕ
sum_of_looks space sum [] = sum
sum_of_looks space sum (address ∷ addresses) = sum_of_looks space (sum_with sum (answer_number (look space address))) addresses

-- operations on a page table, one after another: the table after them is that of the space after them, and the sum goes on with the answers
pub record Applies (old : PageTable) (actions : List Action) (old_sum : ℕ) (new : PageTable) (new_sum : ℕ) : Type 0 where
  pub same : new ≡ record old { memory = new.memory }
  pub sums : (space : Space) → IsTableOf old space → new_sum ≡ sum_of_steps old.depth old.limit space old_sum actions
  pub is_table : (space : Space) → IsTableOf old space → IsTableOf new (after_all old.depth old.limit space actions)

-- a space, and a sum that goes on
pub record Progress : Type 0 where
  pub space : Space
  pub sum : ℕ

-- the space and the sum after some operations, one after another
abbrev pub after_operations : Depth → ℕ → List Action → Progress → Progress
after_operations depth limit actions progress =
    record { space = after_all depth limit progress.space actions; sum = sum_of_steps depth limit progress.space progress.sum actions }

-- the space and the sum after a resolve of each address: only the sum changes
abbrev pub after_looks : List ℕ → Progress → Progress
after_looks addresses progress = record progress { sum = sum_of_looks progress.space progress.sum addresses }

-- the number of tables
abbrev pub after_count : Depth → Progress → Progress
after_count depth progress = record progress { sum = sum_with progress.sum (table_count depth progress.space) }

-- one round: maps, the tables, resolves, protects, unmaps, the tables
abbrev pub after_round : Depth → ℕ → Load → Progress → Progress
after_round depth limit load progress =
    let after_maps = after_count depth (after_operations depth limit load.maps.items progress) in
    let after_protects = after_operations depth limit load.protects.items (after_looks load.addresses.items after_maps) in
    after_count depth (after_operations depth limit load.unmaps.items after_protects)

-- one round on a page table: the table after it is that of the space after it, and the sum goes on with all that was answered
pub record IsRound (old : PageTable) (load : Load) (old_sum : ℕ) (new : PageTable) (new_sum : ℕ) : Type 0 where
  pub same : new ≡ record old { memory = new.memory }
  pub sums : (space : Space) → IsTableOf old space → new_sum ≡ (after_round old.depth old.limit load (record { space = space; sum = old_sum })).sum
  pub is_table : (space : Space) → IsTableOf old space → IsTableOf new (after_round old.depth old.limit load (record { space = space; sum = old_sum })).space

-- rounds, one after another
abbrev pub after_rounds : Depth → ℕ → Load → ℕ → Progress → Progress
after_rounds depth limit load zero progress = progress
after_rounds depth limit load (suc n) progress = after_round depth limit load (after_rounds depth limit load n progress)

-- before the first round: no pages, and 0
abbrev pub no_progress : Progress
no_progress = record { space = no_pages; sum = 0 }
