use Rattle.std.proofs.Common.{◌≡◌, ℕ, ◌-◌, ◌<◌, inl, inr, get_or, slice_get, sym, ap, ◌∙◌, arith}
use Rattle.std.proofs.lemmas.Bool.{cases_lt}
use Rattle.std.proofs.lemmas.List.{get_or_read}
use Rattle.nr_touch.proofs.StretchRows.{begins_before}
use Rattle.nr_touch.proofs.releases.stretches.stretch.Goals as goal

pub loop-first-init : goal.loop-first-init
loop-first-init c =
    let rows = c.args.lives.now.rows.items in
    let value = get_or_read rows c.args.row c.index.result.now c.requires.within c.index.ensures 0 in
    record {
      within = omega arith;
      over = λ j low high stay at.
          let here : j ≡ c.args.row = omega (arith, low, high) in
          c.end_of-until.ensures stay (ap (slice_get c.args.stays.now) value ∙ ap (λ (n : ℕ). slice_get c.args.stays.now (get_or rows n 0)) (sym here) ∙ at);
    }

pub index-requires-in-loop-first : goal.index-requires-in-loop-first
index-requires-in-loop-first c =
    let within = c.loop-first.invariant.within in
    omega (arith, within, c.requires.rows, c.requires.within, c.loop-first-test.true, c.args.lives.now.blocks.ok.0)

pub returns-then-index-clause-within : goal.returns-then-index-clause-within
returns-then-index-clause-within c = c.loop-first.invariant.within

pub returns-then-index-clause-over : goal.returns-then-index-clause-over
returns-then-index-clause-over c = c.loop-first.invariant.over

pub index-start-requires : goal.index-start-requires
index-start-requires c =
    let within = c.loop-first.invariant.within in
    let many = c.requires.stretches.firsts in
    omega (arith, within, many, c.loop-first-test.true, c.args.stretches.now.since.ok.0)

pub overflow_sub-first : goal.overflow_sub-first
overflow_sub-first c =
    let low = (begins_before c.requires.stretches c.loop-first.first c.index-start.result.now c.loop-first-test.true c.loop-first.invariant.within
    c.index-start.ensures).1 in
    omega (arith, low)

pub overflow_sub-row : goal.overflow_sub-row
overflow_sub-row c = let within = c.loop-first.invariant.within in omega (arith, within)

pub returns-then-first-start-clause-within : goal.returns-then-first-start-clause-within
returns-then-first-start-clause-within c = c.loop-first.invariant.within

pub returns-then-first-start-clause-over : goal.returns-then-first-start-clause-over
returns-then-first-start-clause-over c = c.loop-first.invariant.over

pub index-requires-in-loop-first-3 : goal.index-requires-in-loop-first-3
index-requires-in-loop-first-3 c =
    let within = c.loop-first.invariant.within in
    let many = c.requires.stretches.lasts in
    omega (arith, within, many, c.loop-first-test.true, c.args.stretches.now.until.ok.0)

pub loop-first-smaller : goal.loop-first-smaller
loop-first-smaller c =
    (begins_before c.requires.stretches c.loop-first.first c.index-start.result.now c.loop-first-test.true c.loop-first.invariant.within
    c.index-start.ensures).1

pub loop-first-preserved : goal.loop-first-preserved
loop-first-preserved c =
    let before = c.loop-first.first - 1 in
    let inv = c.loop-first.invariant in
    let within = inv.within in
    let test = c.loop-first-test.true in
    let lasts = c.requires.stretches.lasts in
    let less : before < c.args.row = omega (arith, within, test) in
    let (value, low) = begins_before c.requires.stretches c.loop-first.first c.index-start.result.now test within c.index-start.ensures in
    let ends = get_or_read c.args.stretches.now.until.items before c.index-in-loop-first-3.result.now (omega (arith, less, lasts))
    c.index-in-loop-first-3.ensures 0 in
    record {
      within = omega (arith, low, within);
      over = λ j first high stay at. elim (cases_lt j c.loop-first.first) [
        | inl front ↦
            let up = c.requires.stretches.over before j less (omega (arith, value, first)) (omega (arith, front)) stay at in
            omega (arith, up, ends, c.max-until.ensures)
        | inr past ↦ let up = inv.over j past high stay at in omega (arith, up, c.max-until.ensures)
      ];
    }

pub returns-clause-over : goal.returns-clause-over
returns-clause-over c = c.loop-first.invariant.over
