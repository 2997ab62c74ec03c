-- Rounds, one after another.
use Rattle.std.proofs.Common.{◌≡◌, ℕ, suc, ◌+◌, ap, subst, ◌∙◌, arith}
use Rattle.vs_types.specs.declared.addresses.depth.Depth.{Depth}
use Rattle.vs_space.specs.Table.{PageTable, IsTableOf}
use Rattle.nrvs_benchmark.specs.declared.page_table.load.Load.{Load}
use Rattle.nrvs_benchmark.specs.Work.{Progress, after_round, after_rounds, no_progress, IsRound}

-- a page table and a sum are at this point
pub record IsAt (depth : Depth) (limit : ℕ) (progress : Progress) (table : PageTable) (sum : ℕ) : Type 0 where
  pub same_depth : table.depth ≡ depth
  pub same_limit : table.limit ≡ limit
  pub is_table : IsTableOf table progress.space
  pub is_sum : sum ≡ progress.sum

-- what a round says of a table of this depth and limit
round_at : (depth : Depth) (limit : ℕ) (progress : Progress) (load : Load) (old new : PageTable) (old_sum new_sum : ℕ) → IsAt depth limit progress old old_sum
    → IsRound old load old_sum new new_sum
    → (new_sum ≡ (after_round depth limit load progress).sum) × IsTableOf new (after_round depth limit load progress).space
round_at depth limit progress load old new old_sum new_sum at round =
    let P : Depth → ℕ → ℕ → Type 0 = λ d l s. let from : Progress = record { space = progress.space; sum = s } in
    (new_sum ≡ (after_round d l load from).sum) × IsTableOf new (after_round d l load from).space in
    let here : P old.depth old.limit old_sum = (round.sums progress.space at.is_table, round.is_table progress.space at.is_table) in
    subst (λ d. P d limit progress.sum) at.same_depth
    (subst (λ l. P old.depth l progress.sum) at.same_limit (subst (λ s. P old.depth old.limit s) at.is_sum here))

pub rounds_more : (depth : Depth) (limit : ℕ) (load : Load) (n : ℕ) (old new : PageTable) (old_sum new_sum : ℕ)
    → IsAt depth limit (after_rounds depth limit load n no_progress) old old_sum → IsRound old load old_sum new new_sum
    → IsAt depth limit (after_rounds depth limit load (n + 1) no_progress) new new_sum
rounds_more depth limit load n old new old_sum new_sum at round =
    let next = round_at depth limit (after_rounds depth limit load n no_progress) load old new old_sum new_sum at round in
    let one_more : suc n ≡ n + 1 = omega arith in
    subst (λ k. IsAt depth limit (after_rounds depth limit load k no_progress) new new_sum) one_more record {
      same_depth = ap (λ (t : PageTable). t.depth) round.same ∙ at.same_depth;
      same_limit = ap (λ (t : PageTable). t.limit) round.same ∙ at.same_limit;
      is_table = next.1;
      is_sum = next.0;
    }
