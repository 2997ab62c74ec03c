use Rattle.std.proofs.Common.{◌≡◌, ℕ, ◌+◌, Some, ap, ◌∙◌, arith}
use Rattle.vs_space.specs.Path.{found_at}
use Rattle.vs_types.specs.declared.addresses.depth.Depth.{Depth}
use Rattle.vs_types.specs.declared.entries.entry.Meaning.TheVariants as entry
use Rattle.vs_space.specs.inside.Grow.{IsBelowRoot}
use Rattle.vs_space.proofs.Written.{written_at}
use Rattle.vs_types.proofs.Pages.{canonical_fits}
use Rattle.vs_space.proofs.Searches.{searching_start, used, not_empty, next_canonical, present_ends, search_on, deep_table}
use Rattle.vs_walk.proofs.Walks.{few_levels}
use Rattle.vs_space.proofs.tables.Tables.least_base.Goals as goal

pub loop-index-init : goal.loop-index-init
loop-index-init g c =
    let start = c.requires.2 in
    record {
      some = start.some;
      few = omega (arith, start.below, few_levels c.requires.0);
      used = used start.tree (searching_start start);
      searching = λ depth root is. searching_start is;
    }

pub unreachable-requires : goal.unreachable-requires
unreachable-requires g c =
    let start = c.requires.2 in
    let search = c.loop-index.invariant.searching c.requires.0 c.requires.1 start in
    not_empty start.tree search start.filled c.in_default.ensures.none

pub overflow_add-base : goal.overflow_add-base
overflow_add-base g c =
    let start = c.requires.2 in
    let search = c.loop-index.invariant.searching c.requires.0 c.requires.1 start in
    let next = c.loop-index.base + c.entry_offset-base.result in
    let fits = canonical_fits c.requires.0 next
    (next_canonical start.tree search c.in-Some.ensures.first (ap (λ x. c.loop-index.base + x) c.entry_offset-base.ensures)) in
    omega (arith, fits)

pub returns-in_default-entry : goal.returns-in_default-entry
returns-in_default-entry g c = λ depth root start.
    let search = c.loop-index.invariant.searching depth root start in
    present_ends start.tree search c.in-Some.ensures.first (ap (λ x. c.loop-index.base + x) c.entry_offset-base.ensures) start.faultless
    c.entry.result c.entry.ensures c.in_default-entry.not-Table

pub loop-index-preserved : goal.loop-index-preserved
loop-index-preserved g c =
    let start = c.requires.2 in
    let next = c.loop-index.base + c.entry_offset-base.result in
    let found : found_at c.loop-index.level c.args.self.now.memory c.loop-index.number next ≡ Some (entry.Table c.in-Table.next c.in-Table.field-1) =
    c.entry.ensures ∙ ap Some c.in-Table.is in
    let deep = deep_table c.loop-index.level c.args.self.now.memory c.loop-index.number next c.in-Table.next c.in-Table.field-1
    c.loop-index.invariant.some found in
    let on = λ (depth : Depth) (root : ℕ) (is : IsBelowRoot depth c.args.self.now.memory root c.args.address c.args.from c.args.table).
    let search = c.loop-index.invariant.searching depth root is in
    search_on is.tree search c.in-Some.ensures.first
    (ap (λ x. c.loop-index.base + x) c.entry_offset-base.ensures) found deep in
    record {
      some = omega (arith, deep);
      few = omega (arith, c.loop-index.invariant.few);
      used = used start.tree (on c.requires.0 c.requires.1 start);
      searching = on;
    }

pub entry-requires-clause-written : goal.entry-requires-clause-written
entry-requires-clause-written g c =
    let start = c.requires.2 in
    let search = c.loop-index.invariant.searching c.requires.0 c.requires.1 start in
    written_at start.tree start.all_reached c.loop-index.level c.loop-index.base c.loop-index.number search.reached
