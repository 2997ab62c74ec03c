use Rattle.std.proofs.Common.{◌≡◌, ◌+◌, ℕ, length-set, get_or-set_other, get_or-set_same, below_more, ap, sym, ◌∙◌, arith}
use Rattle.std.proofs.lemmas.List.{ext_get_or}
use Rattle.std.specs.Prelude.{slice_index}
use Rattle.nr_ring.specs.inside.Codes.{for_each}
use Rattle.nr_ring.proofs.Packing.{listed}
use Rattle.nr_ring.proofs.cells.code.locals_in.Goals as goal

pub loop-replica-preserved : goal.loop-replica-preserved
loop-replica-preserved c =
    let is = c.loop-replica.invariant in
    let locals = c.loop-replica.locals in
    let n = c.loop-replica.replica in
    let local = slice_index c.args.head.now (2 + n) in (
      length-set locals n local ∙ is.0,
      below_more _ _
          (λ r lt. get_or-set_other locals n r local 0 (λ e. omega (arith, e, lt)) ∙ is.1 r lt)
          (get_or-set_same locals n local 0 (omega (arith, is.0, c.loop-replica-test.true))),
    )

pub returns : goal.returns
returns c =
    let is = c.loop-replica.invariant in
    let of = λ (r : ℕ). slice_index c.args.head.now (2 + r) in
    ext_get_or 0 c.loop-replica.locals (for_each of 0 4) is.0
    (λ r lt. let at : 0 + r ≡ r = omega arith in
    is.1 r (omega (arith, lt, is.0, c.loop-replica-test.false)) ∙ sym (listed of 0 4 r (omega (arith, lt, is.0)) ∙ ap of at))
