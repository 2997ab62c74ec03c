use Rattle.std.proofs.Common.{List, ℕ, sym, ap, subst, ◌∙◌}
use Rattle.std.specs.FinMap as finite
use Rattle.std.specs.Ordering.{nat_cmp}
use Rattle.vs_types.specs.Space.{no_pages}
use Rattle.vs_arena.specs.Store.{zeros}
use Rattle.vs_space.specs.Flags.{AddsNoFlags}
use Rattle.vs_space.specs.Held.{Held}
use Rattle.vs_space.specs.Table.{IsTableOf}
use Rattle.vs_space.specs.Invariant.{IsPageTable, table_in_store}
use Rattle.vs_space.proofs.Plain.{adds_taken}
use Rattle.vs_space.proofs.News.{new_table, new_is_empty}
use Rattle.vs_space.proofs.space.Space.new.Goals as goal

pub returns-in_default-clause-no_root : goal.returns-in_default-clause-no_root
returns-in_default-clause-no_root g c =
    sym (ap (λ (h : Held). h.limit) c.new-tables.ensures) ∙ sym c.in_default.ensures.all_in_use ∙ ap (λ (h : Held). finite.len h.memory) c.new-tables.ensures
    ∙ finite.len-empty nat_cmp (List ℕ)

pub invariant_of-result : goal.invariant_of-result
invariant_of-result g c =
    let after = c.in-Some.ensures.taken ∙ ap (λ (h : Held). let r : Held =
    record { base = h.base; limit = h.limit; memory = finite.insert h.memory c.in-Some.root zeros; lenders = h.lenders } in r) c.new-tables.ensures in (
      subst (λ (h : Held). IsPageTable (table_in_store c.args.depth h c.in-Some.root)) (sym after)
          (new_table c.args.depth c.in-Some.root _ _ _ c.in-Some.ensures.in_range),
      c.in-Some.ensures.numbers,
    )

pub returns-clause-empty : goal.returns-clause-empty
returns-clause-empty g c =
    let after = c.in-Some.ensures.taken ∙ ap (λ (h : Held). let r : Held =
    record { base = h.base; limit = h.limit; memory = finite.insert h.memory c.in-Some.root zeros; lenders = h.lenders } in r) c.new-tables.ensures in
    subst (λ (h : Held). IsTableOf (table_in_store c.args.depth h c.in-Some.root) no_pages) (sym after)
    (new_is_empty c.args.depth c.in-Some.root _ _ _)

pub returns-clause-plain : goal.returns-clause-plain
returns-clause-plain g c =
    let after = c.in-Some.ensures.taken ∙ ap (λ (h : Held). let r : Held =
    record { base = h.base; limit = h.limit; memory = finite.insert h.memory c.in-Some.root zeros; lenders = h.lenders } in r) c.new-tables.ensures in
    subst (λ (h : Held). AddsNoFlags finite.empty h.memory) (sym after) (adds_taken finite.empty c.in-Some.root)
