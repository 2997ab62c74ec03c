use Rattle.std.proofs.Common.{◌≡◌, ℕ, ◌+◌, ◌∷◌, ◌++◌, [], List, length, sym, ap, subst, arith}
use Rattle.nr_touch.specs.inside.Stays.{AreStretches}
use Rattle.nr_touch.proofs.StretchRows.{no_stretches, one_stretch_more}
use Rattle.nr_touch.proofs.releases.stretches.Stretches.of.Goals as goal

pub loop-row-init : goal.loop-row-init
loop-row-init c =
    no_stretches c.args.stays.now c.args.lives.now.rows.items c.new.result.items c.new-2.result.items (ap length c.new.ensures.items)
    (ap length c.new-2.ensures.items)

pub stretch-first-requires-clause-stretches : goal.stretch-first-requires-clause-stretches
stretch-first-requires-clause-stretches c = c.loop-row.invariant

pub loop-row-preserved : goal.loop-row-preserved
loop-row-preserved c =
    let stays = c.args.stays.now in
    let rows = c.args.lives.now.rows.items in
    let old = c.loop-row.stretches in
    subst (λ (since : List ℕ). AreStretches stays rows since c.push-in-loop-row.new.self.items (c.loop-row.row + 1)) (sym c.in_ok-push.ensures.items)
    (subst (λ (until : List ℕ). AreStretches stays rows (old.since.items ++ c.stretch-first.result.0 ∷ []) until (c.loop-row.row + 1))
    (sym c.in_ok-push-2.ensures.items)
    (one_stretch_more stays rows old.since.items old.until.items c.loop-row.row c.stretch-first.result.0 c.stretch-first.result.1 c.loop-row.invariant
    c.stretch-first.ensures.within c.stretch-first.ensures.over))

pub returns : goal.returns
returns c =
    let rows = c.args.lives.now.rows.items in
    let all : c.loop-row.row ≡ length rows =
    omega (arith, c.loop-row-test.false, c.loop-row.auto.row-end, c.len-row-end.ensures, c.args.lives.now.rows.ok.0) in
    subst (AreStretches c.args.stays.now rows c.loop-row.stretches.since.items c.loop-row.stretches.until.items) all c.loop-row.invariant
