use Rattle.std.proofs.Common.{◌≡◌, ◌+◌, refl, sym, ap, ◌∙◌, arith}
use Rattle.vs_types.specs.Space.{page_at, table_count}
use Rattle.vs_types.specs.declared.requests.op.Action.TheVariants.{Unmap}
use Rattle.vs_types.specs.declared.requests.answer.Answer.TheVariants.{Removed}
use Rattle.vs_plain.specs.Plain.{BoundedSpace}
use Rattle.vs_plain.specs.inside.Place.{no_page}
use Rattle.vs_plain.proofs.Neighbours.{taken_out, unmap_of_none, unmap_of_page, plain_step}
use Rattle.vs_plain.proofs.plain.PlainSpace.unmap.Goals as goal

pub new_tables-requires-clause-is_space : goal.new_tables-requires-clause-is_space
new_tables-requires-clause-is_space c =
    (taken_out c.self.invariant.is_space c.in-Some.page c.args.base c.remove.new.self c.in-Some.ensures.was c.remove.ensures.removed).0

pub new_tables-requires-clause-free : goal.new_tables-requires-clause-free
new_tables-requires-clause-free c =
    (taken_out c.self.invariant.is_space c.in-Some.page c.args.base c.remove.new.self c.in-Some.ensures.was c.remove.ensures.removed).1

pub overflow_sub-self : goal.overflow_sub-self
overflow_sub-self c =
    let left = taken_out c.self.invariant.is_space c.in-Some.page c.args.base c.remove.new.self c.in-Some.ensures.was c.remove.ensures.removed in
    let all : c.new_tables.result + table_count c.self.inside.depth c.remove.new.self ≡ c.self.inside.tables =
    c.new_tables.ensures.more ∙ ap (table_count c.self.inside.depth) left.2 ∙ sym c.self.invariant.counted in
    omega (arith, all)

pub invariant_of-self-2 : goal.invariant_of-self-2
invariant_of-self-2 c =
    let left = taken_out c.self.invariant.is_space c.in-Some.page c.args.base c.remove.new.self c.in-Some.ensures.was c.remove.ensures.removed in
    let all : c.new_tables.result + table_count c.self.inside.depth c.remove.new.self ≡ c.self.inside.tables =
    c.new_tables.ensures.more ∙ ap (table_count c.self.inside.depth) left.2 ∙ sym c.self.invariant.counted in
    record {
      is_space = left.0;
      counted = omega (arith, all);
    }

pub returns-in_default-clause-step : goal.returns-in_default-clause-step
returns-in_default-clause-step c =
    let old : BoundedSpace = record { depth = c.self.inside.depth; limit = c.self.inside.limit; space = c.self.inside.page_map } in
    rw (← c.self.view_is) (plain_step old (Unmap c.args.base) c.no_page.result c.remove.new.self _
    (unmap_of_none c.self.invariant.is_space c.self.inside.limit c.args.base (sym c.in_default.ensures.was))
    (c.no_page.ensures ∙ ap (λ s. no_page (page_at s c.args.base)) c.in_default.ensures.unchanged)
    c.in_default.ensures.unchanged)

pub returns-clause-step : goal.returns-clause-step
returns-clause-step c =
    let old : BoundedSpace = record { depth = c.self.inside.depth; limit = c.self.inside.limit; space = c.self.inside.page_map } in
    rw (← c.self.view_is) (plain_step old (Unmap c.args.base) (Removed c.in-Some.page.phys c.in-Some.page.size c.in-Some.page.rights) c.remove.new.self _
    (unmap_of_page c.self.invariant.is_space c.self.inside.limit c.args.base c.in-Some.page c.in-Some.ensures.was)
    refl
    c.remove.ensures.removed)

pub returns-in_default-clause-apart : goal.returns-in_default-clause-apart
returns-in_default-clause-apart c = rw (← c.self.view_is) c.self.invariant.is_space

pub returns-clause-apart : goal.returns-clause-apart
returns-clause-apart c = rw (← c.self.view_is) c.self.invariant.is_space
