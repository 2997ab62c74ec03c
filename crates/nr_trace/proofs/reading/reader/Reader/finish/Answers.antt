use Rattle.std.proofs.Common.{◌≡◌, None, subst, sym}
use Rattle.nr_trace.specs.Spelling.{SpellsAs}
use Rattle.nr_trace.specs.inside.Progress.{form_of, said, unit_bytes, whole_spelling, IsReady}
use Rattle.nr_trace.specs.declared.reading.reader.Reader.{Reader}
use Rattle.nr_trace.proofs.Whole.{dumps_end}
use Rattle.nr_trace.proofs.reading.reader.Reader.finish.Goals as goal

pub of-requires : goal.of-requires
of-requires c =
    let ready = subst IsReady c.in-Dumps.is c.requires.ready in
    let ended = subst (λ (r : Reader). unit_bytes r ≡ None) c.in-Dumps.is c.requires.ended in
    (dumps_end c.in-Dumps.parts ready ended).in_range

pub returns : goal.returns
returns c =
    let parts = c.in-Dumps.parts in
    let ready = subst IsReady c.in-Dumps.is c.requires.ready in
    let ended = subst (λ (r : Reader). unit_bytes r ≡ None) c.in-Dumps.is c.requires.ended in
    subst (λ (r : Reader). SpellsAs (form_of r) (said r) c.of.result) (sym c.in-Dumps.is)
    (subst (SpellsAs parts.form (whole_spelling parts)) (sym c.of.ensures.is) (dumps_end parts ready ended))
