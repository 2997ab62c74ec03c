use Rattle.std.proofs.Common.{ℕ, inl, inr, sym, subst, arith}
use Rattle.std.proofs.lemmas.Bool.{cases_lt}
use Rattle.nr_touch.specs.inside.Columns.{Covers}
use Rattle.nr_touch.proofs.releases.meeting.is_settled.Goals as goal

pub loop-next-init : goal.loop-next-init
loop-next-init c = λ frame change low has. absurd (let least = c.first_frame-next.ensures.least frame has in omega (arith, least, low))

pub frame_address-address-requires-clause-within : goal.frame_address-address-requires-clause-within
frame_address-address-requires-clause-within c = c.end_frame-end.ensures.within c.loop-next.next c.loop-next-test.true

pub next_frame-next-requires-clause-within : goal.next_frame-next-requires-clause-within
next_frame-next-requires-clause-within c = c.end_frame-end.ensures.within c.loop-next.next c.loop-next-test.true

pub loop-next-smaller : goal.loop-next-smaller
loop-next-smaller c = let up = c.next_frame-next.ensures.up in let test = c.loop-next-test.true in omega (arith, up, test)

pub loop-next-preserved : goal.loop-next-preserved
loop-next-preserved c = λ frame change low has contains covered before. elim (cases_lt frame c.loop-next.next) [
  | inl first ↦ c.loop-next.invariant frame change first has contains covered before
  | inr past ↦ elim (cases_lt c.args.release.now.made change.made) [
    | inl late ↦
        let alike = (c.next_frame-next.ensures.own frame past low change contains).1 covered in
        let here = subst (λ (n : ℕ). Covers n change) (sym c.frame_address-address.ensures) alike in
        let up = c.last_allowed.ensures.all change contains (here, late) in
        absurd (omega (arith, up, before, c.if-last_allowed-place.false))
    | inr fine ↦ fine
  ]
]

pub returns : goal.returns
returns c = λ t frame change within has contains covered before.
    let less = c.end_frame-end.ensures.behind frame within has in
    c.loop-next.invariant frame change (omega (arith, less, c.loop-next-test.false)) has contains covered before
