use Rattle.std.proofs.Common.{◌≡◌, ◌-◌, ◌+◌, ℕ, length, ◌∙◌, subst, arith}
use Rattle.std.proofs.lemmas.List.Elements.{Contains-get_or}
use Rattle.nr_touch.proofs.cuts.Looks.{all_listed, none_listed, one_listed, IsListedFrom}
use Rattle.nr_touch.proofs.touches.looks.looks_of.Goals as goal

pub loop-passed-init : goal.loop-passed-init
loop-passed-init c = none_listed c.args.changes.now c.args.address _ c.new-looks.result.items (omega arith) c.new-looks.ensures.items

pub pass-requires : goal.pass-requires
pass-requires c =
    let some = c.loop-passed-test.true in
    c.requires.each _ (Contains-get_or c.args.changes.now (length c.args.changes.now - 1 - c.loop-passed.passed) _ (omega (arith, some)))

pub loop-passed-preserved : goal.loop-passed-preserved
loop-passed-preserved c =
    let changes = c.args.changes.now in
    let passed = c.loop-passed.passed in
    let some = c.loop-passed-test.true in
    let so = c.loop-passed.invariant in
    let next : length changes - 1 - passed ≡ length changes - (passed + 1) = omega (arith, some) in
    subst (λ (n : ℕ). IsListedFrom changes c.args.address n c.in_ok-ended.ended c.pass.new.looks.items) next
    (one_listed changes c.args.address (length changes - passed) (length changes - 1 - passed) _ c.in_ok-ended.ended c.pass.new.looks.items
    (omega (arith, some)) (omega arith) (c.in_ok-ended.ensures _ so.are so.list))

pub returns : goal.returns
returns c =
    let changes = c.args.changes.now in
    let end : length changes - c.loop-passed.passed ≡ 0 = let past = c.loop-passed-test.false in omega (arith, past) in
    c.reverse.ensures.items
    ∙ all_listed changes c.args.address c.loop-passed.ended c.loop-passed.looks.items
    (subst (λ (n : ℕ). IsListedFrom changes c.args.address n c.loop-passed.ended c.loop-passed.looks.items) end c.loop-passed.invariant)
