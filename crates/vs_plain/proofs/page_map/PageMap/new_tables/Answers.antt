use Rattle.std.proofs.Common.{◌≡◌, ◌<◌, ◌≤◌, ◌+◌, ◌-◌, ◌∙◌, true, sym, subst, arith}
use Rattle.vs_types.specs.Depth.{levels}
use Rattle.vs_plain.specs.inside.Tables.{begins_in_stretch}
use Rattle.vs_types.specs.Page.{level_of}
use Rattle.vs_types.proofs.Pages.{level_some}
use Rattle.vs_plain.proofs.Tables.{before_levels, one_more, no_more, no_new}
use Rattle.vs_plain.proofs.page_map.PageMap.new_tables.Goals as goal
use Rattle.vs_plain.proofs.page_map.PageMap.new_tables.Goals.{then-not-shares_table, else-not-shares_table}

pub returns-then-begins_in_stretch-clause-more : goal.returns-then-begins_in_stretch-clause-more
returns-then-begins_in_stretch-clause-more c =
    let p = c.args.page in
    let own : begins_in_stretch (level_of p.size) p.base c.args.below ≡ true =
    subst (λ l. begins_in_stretch l p.base c.args.below ≡ true) c.level.ensures (sym c.begins_in_stretch.ensures ∙ c.if-begins_in_stretch.true) in
    omega (arith, no_new c.requires.is_space p c.requires.well_formed c.requires.free c.args.below c.requires.last own (levels c.args.depth - 1))

pub loop-level-init : goal.loop-level-init
loop-level-init c =
    let p = c.args.page in
    record {
      counted =
          let below : c.level-level.result - 1 < level_of p.size = omega (arith, level_some p.size, c.level-level.ensures) in
          omega (arith, before_levels c.requires.is_space p c.requires.well_formed c.requires.free (c.level-level.result - 1) below);
      few = omega arith;
    }

pub loop-level-preserved : goal.loop-level-preserved
loop-level-preserved c =
    let p = c.args.page in
    let own : level_of p.size ≤ c.loop-level.level = omega (arith, c.level-level.ensures) in
    let some : 0 < c.loop-level.level = omega (arith, level_some p.size) in
    let step : (c.loop-level.level + 1) - 1 ≡ c.loop-level.level = omega arith in
    elim c.if-not-shares_table.branch [
      | then-not-shares_table w ↦ record {
        counted = rw w.count-is (one_more c.requires.is_space p c.requires.well_formed c.requires.free c.loop-level.level _ c.loop-level.count _ _
            c.requires.last c.first_from-above.ensures some own step (sym w.if-not-shares_table.ensures) c.loop-level.invariant.counted);
        few = omega (arith, c.loop-level.invariant.few);
      }
      | else-not-shares_table w ↦ record {
        counted = rw w.count-is (no_more c.requires.is_space p c.requires.well_formed c.requires.free c.loop-level.level _ c.loop-level.count _ _
            c.requires.last c.first_from-above.ensures some own step (sym w.if-not-shares_table.ensures) c.loop-level.invariant.counted);
        few = omega (arith, c.loop-level.invariant.few);
      }
    ]
