use Rattle.std.proofs.Common.{◌≡◌, ℕ, ◌<◌, ◌^◌, List, [], ◌++◌, refl, sym, ap, ◌∙◌, arith}
use Rattle.std.specs.Prelude.{Some}
use Rattle.std.specs.Int.{w16, to_be_bytes}
use Rattle.nr_trace.specs.Versions.{IsVersionOf, version_code}
use Rattle.nr_trace.specs.Spelling.{version_word}
use Rattle.nr_trace.specs.FirstFault.{AtCounts, magic_of}
use Rattle.nr_trace.specs.inside.Progress.{Ahead}
use Rattle.nr_trace.specs.declared.refusals.fault.Format.TheVariants.{BadVersion}
use Rattle.nr_trace.specs.declared.reading.reader.Reader.TheVariants.{Version}
use Rattle.nr_trace.specs.declared.refusals.refusal.TraceUnit.TheVariants as units
use Rattle.nr_trace.specs.declared.formats.version.Version as versions
use Rattle.nr_trace.specs.declared.formats.version.Version.TheVariants.{V1}
use Rattle.nr_trace.proofs.LawsOfSpelling.{magic_is}
use Rattle.nr_trace.proofs.LawsOfUnits.{number_16}
use Rattle.nr_trace.proofs.Taken.{only_front}
use Rattle.nr_trace.proofs.Units.{passed, refused, refused_by}
use Rattle.nr_trace.proofs.reading.header.take_version.Goals as goal

pub returns-in-Some : goal.returns-in-Some
returns-in-Some c =
    let form = c.args.form in
    let version = c.in-Some.version in
    let unit = c.args.unit.now in
    let given = c.in-Some.ensures in
    let is : unit ≡ version_word version =
    only_front unit _ _ c.take_u16-code.ensures c.requires ∙ ap (to_be_bytes w16) given.1 in
    record {
      form_is = refl;
      ready = given.0;
      bytes_are = ap (λ (l : List ℕ). l ++ version_word version) (magic_is form version given.0) ∙ ap (λ (l : List ℕ). magic_of form ++ l) (sym is);
      faults = λ rest fault h. passed 2 units.Version (Some BadVersion) (IsVersionOf form) version_word (AtCounts form) fault unit rest version given.0 is h;
    }

code_fits : (version : versions.Version) → version_code version < 2 ^ 16
code_fits V1 = omega arith
code_fits _ = omega arith

pub returns-in-None : goal.returns-in-None
returns-in-None c =
    let form = c.args.form in
    let unit = c.args.unit.now in
    let is = only_front unit _ _ c.take_u16-code.ensures c.requires in
    refused_by (Ahead (Version c.args.alloc form)) units.Version unit BadVersion c.of.result (omega (arith, c.requires)) c.of.ensures (λ rest.
    refused 2 units.Version BadVersion (IsVersionOf form) version_word (AtCounts form) unit rest c.of.result c.of.ensures c.requires
    (λ version of e. c.in-None.ensures version (of, (number_16 c.take_u16-code.result.0 _ [] [] (omega arith) (code_fits version) (sym is ∙ e)).0)))
