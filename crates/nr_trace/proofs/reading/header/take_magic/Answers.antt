use Rattle.std.proofs.Common.{◌≡◌, true, false, arith, eqb, refl, ap, ◌∙◌}
use Rattle.std.specs.Prelude.{⊤}
use lib.Pointwise.{pointwise}
use Rattle.nr_trace.specs.FirstFault.{magic_of}
use Rattle.nr_trace.specs.inside.Progress.{Ahead}
use Rattle.nr_trace.specs.declared.refusals.fault.Format.TheVariants.{BadMagic}
use Rattle.nr_trace.specs.declared.refusals.refusal.TraceUnit.TheVariants as units
use Rattle.nr_trace.specs.declared.reading.reader.Reader.TheVariants.{Magic, Version}
use Rattle.nr_trace.specs.declared.formats.version.Form.{Form}
use Rattle.nr_trace.specs.declared.formats.version.Form.TheVariants as forms
use Rattle.nr_trace.proofs.Units.{refused, refused_by}
use Rattle.nr_trace.proofs.reading.header.take_magic.Goals as goal

magic_same : (form : Form) → pointwise eqb (magic_of form) (magic_of form) ≡ true
magic_same forms.Trace = refl
magic_same (forms.Segment before) = refl

pub returns-else-eq : goal.returns-else-eq
returns-else-eq c =
    refused_by (Ahead (Magic c.args.alloc c.args.form)) units.Magic c.args.unit.now BadMagic c.of.result (omega (arith, c.requires)) c.of.ensures (λ rest.
    refused {A = Unit {0}} 4 units.Magic BadMagic (λ _. ⊤) (λ _. magic_of c.args.form) (λ _. Ahead (Version c.args.alloc c.args.form))
    c.args.unit.now rest c.of.result c.of.ensures c.requires
    (λ _ _ e.
    let same : false ≡ true = c.if-eq.ensures ∙ ap (λ l. pointwise eqb l c.as_slice.result.now) e
    ∙ ap (pointwise eqb (magic_of c.args.form)) (c.as_slice.ensures ∙ c.magic_of-wanted.ensures) ∙ magic_same c.args.form in
    absurd cc))
