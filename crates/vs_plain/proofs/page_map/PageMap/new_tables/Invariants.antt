use Rattle.std.proofs.Common.{◌≡◌, ◌+◌, ◌-◌, ◌≤◌}
use Rattle.std.specs.FinMap as finite
use Rattle.vs_types.specs.Space.{pages, tables_of_levels}
use Rattle.vs_plain.proofs.page_map.PageMap.new_tables.Given as goal

abbrev pub invariant-loop-level : goal.invariant-loop-level
invariant-loop-level l = record {
  counted : l.count + tables_of_levels (l.level - 1) (pages l.self) ≡ tables_of_levels (l.level - 1) (pages (finite.insert l.self l.page.base l.page));
  few : l.count ≤ l.level;
}
