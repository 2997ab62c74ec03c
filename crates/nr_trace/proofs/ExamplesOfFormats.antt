-- Bytes that spell no trace.
use Rattle.std.proofs.Common.{◌≡◌, ◌≢◌, ℕ, [], ◌∷◌, ◌++◌, List, get_or, take, drop, length, inl, inr, refl, ap, sym, subst, arith, take-append-drop}
use Rattle.nr_trace.specs.Examples.{map_then_resolve}
use Rattle.std.proofs.lemmas.List.{length-drop}
use Rattle.nr_trace.specs.declared.formats.version.Version.{Version}
use Rattle.nr_trace.specs.declared.formats.version.Version.TheVariants.{Segment}
use Rattle.nr_trace.specs.declared.formats.version.Form.TheVariants as forms
use Rattle.nr_trace.specs.Versions.{IsVersionOf}
use Rattle.nr_trace.specs.Spelling.{spelling, version_word, Spells}
use Rattle.nr_trace.specs.FirstFault.{HasFormatFault}
use Rattle.nr_trace.specs.declared.refusals.refusal.TraceUnit.TheVariants as units
use Rattle.nr_trace.specs.declared.refusals.fault.Format.TheVariants.{Truncated, BadMagic, BadVersion, Trailing}
use Rattle.nr_trace.proofs.ExamplesOfRanges.{spelled}
use Rattle.nr_trace.proofs.ExamplesOfSpelling.{whole}
use Rattle.nr_trace.proofs.LawsOfFronts.{front_is_truncated, trailing_after}

pub nothing : HasFormatFault [] Truncated
nothing = (units.Magic, 0, inl (omega arith, refl))

pub magic : HasFormatFault (0x4e ∷ 0x52 ∷ 0x56 ∷ 0x58 ∷ []) BadMagic
magic =
    (units.Magic, 4, inr (inl (omega arith, refl, λ value fits e. let last : 88 ≡ 84 = ap (λ (bytes : List ℕ). get_or bytes 3 0) e in omega arith)))

no_version : (value : Version) → IsVersionOf forms.Trace value → 0 ∷ 3 ∷ [] ≢ version_word value
no_version Segment fits e = absurd fits
no_version _ fits e = cc

pub version : HasFormatFault (0x4e ∷ 0x52 ∷ 0x56 ∷ 0x54 ∷ 0 ∷ 3 ∷ []) BadVersion
version = (units.Version, 2, inr (inr (tt, 0 ∷ 3 ∷ [], tt, refl, inr (inl (omega arith, refl, no_version)))))

rest_there : drop 16551 (spelling map_then_resolve) ≢ []
rest_there e =
    let long = length-drop 16551 (spelling map_then_resolve) in
    let none : length (drop 16551 (spelling map_then_resolve)) ≡ 0 = ap length e in
    let all = whole in
    omega arith

pub less : HasFormatFault (take 16551 (spelling map_then_resolve)) Truncated
less =
    let whole_again = take-append-drop 16551 (spelling map_then_resolve) in
    front_is_truncated (take 16551 (spelling map_then_resolve)) (drop 16551 (spelling map_then_resolve)) map_then_resolve
    (subst (λ bytes. Spells bytes map_then_resolve) (sym whole_again) spelled) rest_there

pub more : HasFormatFault (spelling map_then_resolve ++ 0 ∷ []) Trailing
more = trailing_after (spelling map_then_resolve) (0 ∷ []) map_then_resolve spelled (λ e. cc)
