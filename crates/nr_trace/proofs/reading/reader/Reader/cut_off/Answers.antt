use Rattle.std.proofs.Common.{◌≡◌, ◌+◌, ◌*◌, ◌++◌, length, length-append, ap, sym, ◌∙◌, arith}
use Rattle.nr_trace.specs.inside.Progress.{cut_off, unit_of, words_begun}
use Rattle.nr_trace.specs.declared.refusals.fault.Format.TheVariants.{Truncated}
use Rattle.nr_trace.specs.declared.refusals.refusal.Refusal.{Refusal}
use Rattle.nr_trace.specs.declared.reading.reader.Reader.{Reader}
use Rattle.nr_trace.specs.declared.reading.reader.Reader.TheVariants.{Words}
use Rattle.nr_trace.proofs.Whole.{length_begun}
use Rattle.nr_trace.proofs.reading.reader.Reader.cut_off.Goals as goal

pub returns-in-Words : goal.returns-in-Words
returns-in-Words c =
    let parts = c.in-Words.field-0 in
    let frame = c.in-Words.frame in
    let begun = c.args.begun.now in
    let left : 8 * c.words_come.result + length begun ≡ length (words_begun frame ++ begun) =
    omega (arith, c.words_come.ensures.reads, length_begun frame, length-append (words_begun frame) begun) in
    let unit : c.unit-unit.result ≡ unit_of (Words parts frame) = c.unit-unit.ensures ∙ ap unit_of c.in-Words.is in
    (λ i. let refusal : Refusal = record { fault = Truncated; unit = unit i; left = left i } in refusal)
    ∙ ap (λ (r : Reader). cut_off r begun) (sym c.in-Words.is)
