use Rattle.std.proofs.Common.{ℕ, List, ◌++◌, ap, sym, ◌∙◌, length, length-append, arith}
use Rattle.nr_trace.proofs.Feeding.{come, taken_all, taken_at_end}
use Rattle.nr_trace.proofs.reading.feed.take_bytes.Goals as goal

pub overflow_sub-result : goal.overflow_sub-result
overflow_sub-result c =
    let cut = c.in_ok-reader.ensures in
    omega (arith, ap length cut.cut, length-append cut.front c.in_ok-reader.rest.now)

pub returns-in-None : goal.returns-in-None
returns-in-None c =
    let cut = c.in_ok-reader.ensures in
    taken_at_end _ _ c.args.bytes.now c.in_ok-reader.reader c.in_ok-reader.rest.now c.args.begun _ cut (sym c.in-None.ensures) c.requires.between
    (omega (arith, ap length cut.cut, length-append cut.front c.in_ok-reader.rest.now))

pub returns-in_ok-extend_from_slice-in-Some : goal.returns-in_ok-extend_from_slice-in-Some
returns-in_ok-extend_from_slice-in-Some c =
    taken_all _ _ c.args.bytes.now _ _ (omega arith)
    (come _ _ c.args.bytes.now c.in_ok-reader.reader c.in_ok-reader.rest.now _ c.in-Some.field-0 c.in_ok-reader.ensures (sym c.in-Some.ensures)
    (c.in_ok-extend_from_slice-in-Some.ensures.items ∙ ap (λ (l : List ℕ). l ++ c.in_ok-reader.rest.now) c.requires.between))
