use Rattle.std.proofs.Common.{◌≡◌, ℕ, ap, sym, subst, ◌∙◌, arith, get_or, List}
use Rattle.nr_record.specs.Pen.{ClockId}
use Rattle.nr_record.specs.Stamps.{AreBelow}
use Rattle.nr_record.proofs.Draws.{close_tells, few_stamps}
use Rattle.nr_record.proofs.Seats.{seat_is}
use Rattle.nr_record.proofs.clock.Clock.close.Goals as goal

pub returns-clause-stamps : goal.returns-clause-stamps
returns-clause-stamps c =
    let final = c.close_with-closed.ensures.values.2 in
    let state = final.0 in
    let whole = c.requires.whole ∙ sym (ap (λ (k : ClockId). k.calls) c.self.view_is) in
    let told = close_tells _ _ _ _ _ final.1.0 final.1.1 whole in
    let word : get_or state.words 0 0 ≡ c.word-count.result = ap (λ (ws : List ℕ). get_or ws 0 0) final.2 ∙ seat_is _ 0 _ 0 c.word-count.ensures in
    subst (λ (n : ℕ). AreBelow n c.args.seat.me.0.stamps) word told.0

pub returns-clause-count : goal.returns-clause-count
returns-clause-count c =
    let final = c.close_with-closed.ensures.values.2 in
    let state = final.0 in
    let whole = c.requires.whole ∙ sym (ap (λ (k : ClockId). k.calls) c.self.view_is) in
    let told = close_tells _ _ _ _ _ final.1.0 final.1.1 whole in
    let few = few_stamps _ _ _ _ _ final.1.0 final.1.1 whole in
    let word : get_or state.words 0 0 ≡ c.word-count.result = ap (λ (ws : List ℕ). get_or ws 0 0) final.2 ∙ seat_is _ 0 _ 0 c.word-count.ensures in
    (told.1 ∙ word, omega (arith, told.1, word, few))
