use Rattle.std.proofs.Common.{◌≡◌, ◌+◌, ◌-◌, ◌<◌, ◌≤◌, ℕ, List, length, take, get_or, sym, subst, arith}
use Rattle.std.proofs.lemmas.List.{take_all}
use Rattle.nr_touch.specs.inside.Levels.{AreLevels}
use Rattle.nr_touch.specs.declared.changes.history.History.{History}
use Rattle.nr_touch.specs.declared.touches.tail.Left.{Left}
use Rattle.nr_touch.proofs.cuts.Levels.{levels_back}
use Rattle.nr_touch.proofs.touches.tail.merged.Goals as goal

pub loop-passed-init : goal.loop-passed-init
loop-passed-init c =
    let changes = c.args.changes.now in
    let levels = c.args.levels.now in record {
      levels = subst (λ (xs : List Left). AreLevels xs (take (length levels - 0) levels)) (sym (take_all (length changes) changes (omega arith)))
          (subst (λ (xs : List History). AreLevels changes xs) (sym (take_all (length levels - 0) levels (omega arith))) c.requires);
      within = omega arith;
    }

-- the last level is left out
less : (changes : List Left) (levels : List History) (start passed : ℕ) (d : History) → passed < length levels → start ≤ length changes
    → AreLevels (take start changes) (take (length levels - passed) levels)
    → (length (get_or levels (length levels - passed - 1) d).changes.items ≤ start)
    × AreLevels (take (start - length (get_or levels (length levels - passed - 1) d).changes.items) changes) (take (length levels - passed - 1) levels)
less changes levels start passed d some within are =
    levels_back changes levels start (length levels - passed - 1) d (omega (arith, some)) within
    (subst (λ (n : ℕ). AreLevels (take start changes) (take n levels))
    (let next : length levels - passed ≡ length levels - passed - 1 + 1 = omega (arith, some) in next) are)

pub overflow_sub-start : goal.overflow_sub-start
overflow_sub-start c =
    let levels = c.args.levels.now in
    let so = c.loop-passed.invariant in
    let low =
    (less c.args.changes.now levels c.loop-passed.start c.loop-passed.passed c.index-levels-keep.result c.loop-passed-test.true
    so.within so.levels).0 in
    let many = (get_or levels (length levels - c.loop-passed.passed - 1) c.index-levels-keep.result).changes.ok.0 in
    omega (arith, low, many, c.len-rows.ensures)

pub loop-passed-preserved : goal.loop-passed-preserved
loop-passed-preserved c =
    let changes = c.args.changes.now in
    let levels = c.args.levels.now in
    let start = c.loop-passed.start in
    let passed = c.loop-passed.passed in
    let some = c.loop-passed-test.true in
    let so = c.loop-passed.invariant in
    let level = get_or levels (length levels - passed - 1) c.index-levels-keep.result in
    let after = (less changes levels start passed c.index-levels-keep.result some so.within so.levels).1 in
    let many = level.changes.ok.0 in
    let rows : length level.changes.items ≡ c.len-rows.result = omega (arith, many, c.len-rows.ensures) in
    let index : length levels - passed - 1 ≡ length levels - (passed + 1) = omega (arith, some) in record {
      levels = subst (λ (n : ℕ). AreLevels (take (start - n) changes) (take (length levels - (passed + 1)) levels)) rows
          (subst (λ (n : ℕ). AreLevels (take (start - length level.changes.items) changes) (take n levels)) index after);
      within = let all = so.within in omega (arith, all);
    }

pub returns-clause-levels : goal.returns-clause-levels
returns-clause-levels c =
    subst (λ (n : ℕ). AreLevels (take c.loop-passed.start c.args.changes.now) (take n c.args.levels.now))
    (let none : length c.args.levels.now - c.loop-passed.passed ≡ 0 = let past = c.loop-passed-test.false in omega (arith, past) in none)
    c.loop-passed.invariant.levels
