use Rattle.std.proofs.Common.{◌<◌, ◌^◌, ℕ, List, length, set, ap, length-set, arith}
use Rattle.std.specs.Prelude.{slice_index}
use Rattle.nr_ring.specs.inside.Codes.{code_of}
use Rattle.nr_ring.proofs.Codes.{small_codes, small_locals, small_still}
use Rattle.nr_ring.proofs.cells.code.advanced_code.Goals as goal

small : (c : goal.After-code_of) → code_of c.args.tail (set c.locals_in-locals.result c.from.result c.args.to) (slice_index c.args.head.now 6) < 2 ^ 57
small c =
    let locals = c.locals_in-locals.result in
    let is = c.requires.small in
    let all = small_locals c.args.head.now locals is.0 c.locals_in-locals.ensures in
    let long = ap (λ (l : List ℕ). length l) c.locals_in-locals.ensures in
    small_codes c.args.tail (slice_index c.args.head.now 6) (set locals c.from.result c.args.to) is.1 is.0.replicas
    (omega (arith, long, length-set locals c.from.result c.args.to))
    (small_still locals c.from.result c.args.to (omega (arith, long, c.from.ensures, c.requires.replica)) all is.2)

pub overflow_mul-result : goal.overflow_mul-result
overflow_mul-result c = omega (arith, c.code_of.ensures, small c)

pub overflow_add-result : goal.overflow_add-result
overflow_add-result c = omega (arith, c.code_of.ensures, small c, c.requires.small.3)
