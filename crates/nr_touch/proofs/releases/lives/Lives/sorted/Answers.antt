use Rattle.std.proofs.Common.{ℕ, List, length, map, ap, ◌∙◌, subst, sym, arith}
use Rattle.std.proofs.lemmas.List.{with_items_is}
use Rattle.std.proofs.lemmas.List.Sorted.{IsPermutation-trans}
use Rattle.std.specs.Vec.{with_items}
use Rattle.nr_touch.specs.declared.releases.lives.Life.{Life}
use Rattle.nr_touch.specs.declared.releases.lives.Lives.{Lives}
use Rattle.nr_touch.specs.inside.Bounds.{IsRaised}
use Rattle.nr_touch.proofs.LivesFound.{columns, columns_of, rows_of}
use Rattle.nr_touch.proofs.releases.lives.Lives.sorted.Goals as goal

pub sort_by_block-requires : goal.sort_by_block-requires
sort_by_block-requires c = c.in_ok-sort_by_from.ensures.rising

pub returns : goal.returns
returns c =
    let rows = c.args.lives.items in
    let sorted = c.sort_by_block.new.lives.items in
    let old = c.deref_mut.result.now in
    let same = IsPermutation-trans rows c.sort_by_from.new.lives.items sorted c.in_ok-sort_by_from.ensures.same c.in_ok-sort_by_block.ensures.same in
    let blocks = c.in_ok-blocks.ensures ∙ ap (map (λ (each : Life). each.block)) c.deref.ensures.value in
    let from = c.in_ok-from.ensures ∙ ap (map (λ (each : Life). each.from)) c.deref-2.ensures.value in
    let until = c.deref_mut.ensures.value ∙ c.in_ok-until.ensures ∙ ap (map (λ (each : Life). each.until)) c.deref-3.ensures.value in
    let row_of = c.in_ok-rows.ensures ∙ ap (map (λ (each : Life). each.row)) c.deref-5.ensures.value in
    let rising = c.in_ok-sort_by_block.ensures.rising in
    let lives : Lives = record {
      blocks = c.in_ok-blocks.blocks;
      from = c.in_ok-from.from;
      until = with_items c.in_ok-until.until c.raise.new.bounds;
      rows = c.in_ok-rows.rows;
    } in
    let is = with_items_is c.in_ok-until.until c.raise.new.bounds
    (omega (arith, c.raise.auto.bounds, ap length c.deref_mut.ensures.value, c.in_ok-until.until.ok.0)) in
    let raised : IsRaised lives.blocks.items old lives.until.items (length old) =
    subst (λ (ns : List ℕ). IsRaised ns old lives.until.items (length old)) c.deref-4.ensures.value
    (subst (λ (ns : List ℕ). IsRaised c.deref-4.result.now old ns (length old)) (sym is) c.raise.ensures) in
    record {
      lives = columns rows sorted lives old same blocks from until row_of raised rising;
      columns = columns_of rows sorted lives old same blocks from until row_of raised rising;
      rows = rows_of rows sorted lives old same blocks from until row_of raised rising;
    }
