use Rattle.std.proofs.Common.{◌≡◌, [], Option, subst, length, min, take, refl, ap, ◌∙◌, arith}
use Rattle.std.proofs.lemmas.List.{take_min}
use Rattle.nr_trace.specs.declared.formats.version.Form.TheVariants as forms
use Rattle.vs_types.specs.Config.{Layout}
use Rattle.nr_trace.specs.FirstFault.{HasRefusalAs}
use Rattle.nr_explain.specs.inside.Reading.{all_states}
use Rattle.nr_explain.specs.declared.units.TheConstants.{HEADER_BYTES}
use Rattle.nr_explain.specs.Progress.{layout_in}
use Rattle.nr_explain.proofs.BadUnits.{bad_unit_of}
use Rattle.nr_explain.proofs.Known.{layout_alike, sums_alike}
use Rattle.nr_explain.proofs.chain.refusing.refused.Goals as goal

pub returns : goal.returns
returns c = λ came seen.
    let bytes = c.args.bytes.items in
    let form = forms.Segment (layout_in came) in
    let refused : HasRefusalAs form bytes c.args.refusal =
    subst (λ (before : Option Layout). HasRefusalAs (forms.Segment before) bytes c.args.refusal) (layout_alike came (all_states c.args.last.now) seen)
    c.requires.refused in
    let many : c.min.result ≡ min HEADER_BYTES (length bytes) = omega (arith, c.min.ensures, c.len.ensures, c.args.bytes.ok.0) in
    let first : c.in_ok-header.header.items ≡ take HEADER_BYTES bytes =
    c.in_ok-header.ensures.items ∙ (λ i. take (many i) (c.deref.ensures.value i)) ∙ take_min HEADER_BYTES bytes in (
      ap (λ sums. sums.segments) (c.sums_of-sums.ensures ∙ sums_alike came (all_states c.args.last.now) seen),
      refl,
      c.bad_unit-unit.ensures.fault_is,
      (
        ap (λ sums. sums.bytes) (c.sums_of-sums.ensures ∙ sums_alike came (all_states c.args.last.now) seen),
        bad_unit_of form bytes [] c.deref-2.result.now bytes c.len-count.result c.args.refusal c.bad_unit-unit.result refused refl
            c.requires.within (omega (arith, c.len-count.ensures, c.args.bytes.ok.0)) (c.deref-2.ensures.value ∙ first) c.bad_unit-unit.ensures,
      ),
    )
