-- A sum goes on by one more call.
use Rattle.std.proofs.Common.{◌≡◌, ℕ, List, [], ◌∷◌, ◌++◌, sym, ap, subst, refl, ◌∙◌}
use Rattle.vs_types.specs.Space.{Space}
use Rattle.vs_types.specs.Step.{step, look, after_all}
use Rattle.vs_types.specs.declared.addresses.depth.Depth.{Depth}
use Rattle.vs_types.specs.declared.requests.op.Action.{Action}
use Rattle.vs_types.specs.declared.requests.answer.Answer.{Answer}
use Rattle.vs_types.proofs.Afterwards.{after_all-append}
use Rattle.vs_space.specs.Table.{PageTable, IsTableOf, IsTableStep}
use Rattle.nrvs_benchmark.specs.Sum.{answer_number, sum_with}
use Rattle.nrvs_benchmark.specs.Work.{sum_of_steps, sum_of_looks, Applies}

sum_of_steps-append : (depth : Depth) (limit : ℕ) (space : Space) (sum : ℕ) (xs ys : List Action)
    → sum_of_steps depth limit space sum (xs ++ ys) ≡ sum_of_steps depth limit (after_all depth limit space xs) (sum_of_steps depth limit space sum xs) ys
sum_of_steps-append depth limit space sum [] ys = refl
sum_of_steps-append depth limit space sum (x ∷ xs) ys =
    sum_of_steps-append depth limit (step depth limit space x).space (sum_with sum (answer_number (step depth limit space x).answer)) xs ys

pub sum_of_looks-append : (space : Space) (sum : ℕ) (xs ys : List ℕ) → sum_of_looks space sum (xs ++ ys) ≡ sum_of_looks space (sum_of_looks space sum xs) ys
sum_of_looks-append space sum [] ys = refl
sum_of_looks-append space sum (x ∷ xs) ys = sum_of_looks-append space (sum_with sum (answer_number (look space x))) xs ys

-- what a step of a page table of this depth and limit says
step_at : (mid new : PageTable) (action : Action) (answer : Answer) (depth : Depth) (limit : ℕ) → mid.depth ≡ depth → mid.limit ≡ limit
    → IsTableStep mid action answer new
    → (space : Space) → IsTableOf mid space → (answer ≡ (step depth limit space action).answer) × IsTableOf new (step depth limit space action).space
step_at mid new action answer depth limit is_depth is_limit stepped space is_table =
    subst (λ d. (answer ≡ (step d limit space action).answer) × IsTableOf new (step d limit space action).space) is_depth
    (subst (λ l. (answer ≡ (step mid.depth l space action).answer) × IsTableOf new (step mid.depth l space action).space) is_limit
    (stepped.steps space is_table))

pub applies_more : (old mid new : PageTable) (actions : List Action) (action : Action) (old_sum sum : ℕ) (answer : Answer)
    → Applies old actions old_sum mid sum → IsTableStep mid action answer new
    → Applies old (actions ++ action ∷ []) old_sum new (sum_with sum (answer_number answer))
applies_more old mid new actions action old_sum sum answer so_far stepped =
    let is_depth : mid.depth ≡ old.depth = ap (λ (t : PageTable). t.depth) so_far.same in
    let is_limit : mid.limit ≡ old.limit = ap (λ (t : PageTable). t.limit) so_far.same in
    record {
      same = stepped.same ∙ ap (λ (t : PageTable). let r : PageTable = record t { memory = new.memory } in r) so_far.same;
      sums = λ space is_table.
          let one = step_at mid new action answer old.depth old.limit is_depth is_limit stepped (after_all old.depth old.limit space actions)
          (so_far.is_table space is_table) in
          ap (λ s. sum_with s (answer_number answer)) (so_far.sums space is_table)
          ∙ ap (λ a. sum_with (sum_of_steps old.depth old.limit space old_sum actions) (answer_number a)) one.0
          ∙ sym (sum_of_steps-append old.depth old.limit space old_sum actions (action ∷ []));
      is_table = λ space is_table.
          let one = step_at mid new action answer old.depth old.limit is_depth is_limit stepped (after_all old.depth old.limit space actions)
          (so_far.is_table space is_table) in
          subst (λ s. IsTableOf new s) (sym (after_all-append old.depth old.limit space actions (action ∷ []))) one.1;
    }
