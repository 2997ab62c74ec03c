-- What is known of a recording of the core that is written.
use Rattle.std.proofs.Common.{◌≡◌, ℕ, Bool, true, false, List, Option, refl, ap, subst, sym, ◌∙◌}
use Rattle.std.specs.Io.KnownBytes.{Appends}
use Rattle.nr_trace.specs.Laws.{IsFaultless}
use Rattle.nr_trace.specs.Orders.{recorded_order}
use Rattle.nr_trace.specs.Recording.{Recording, IsRecording}
use Rattle.nr_trace.specs.Spelling.{spelling, Spells}
use Rattle.nr_trace.specs.Versions.{IsVersionOf}
use Rattle.nr_trace.specs.declared.formats.version.Form.TheVariants as forms
use Rattle.nr_audit.specs.Verdict.{verdict_status}
use Rattle.nr_audit.specs.declared.verdicts.verdict.Verdict.TheVariants.{Yes}
use Rattle.nr_audit.proofs.PartsOfVerdicts.{same_of}
use Rattle.nr_script.specs.declared.script.Script.{Script}
use Rattle.audit_readers.specs.Answers.{IsAudit, WritesReport}
use Rattle.audit_readers.proofs.Audits.{same_status}
use Rattle.nrvs.specs.Simulation.{HasReadScript, IsRecordingOfScript, IsSimulation, IsSimulationFault, IsTold}
use Rattle.vs_types.specs.declared.addresses.depth.Depth.{Depth}
use Rattle.audit_readers.specs.declared.fault.ProgFault.{ProgFault}
use Rattle.audit_readers.specs.declared.fault.ProgFault.TheVariants.{CannotWrite}
use Rattle.nrvs.specs.declared.runs.setup.Setup.{Setup}

pub as_bytes : (as_trace : Bool) (trace : Recording) (text : List ℕ) → as_trace ≡ true → text ≡ spelling trace → IsTold as_trace trace text 0
as_bytes true trace text asked same = (same, refl)
as_bytes false trace text asked same = cc

pub as_verdict : (as_trace : Bool) (trace : Recording) (text : List ℕ) (status : ℕ) → as_trace ≡ false → IsAudit false 0 (spelling trace) text status
    → IsTold as_trace trace text status
as_verdict true trace text status asked audit = cc
as_verdict false trace text status asked audit = audit

pub told_with : (as_trace : Bool) (trace : Recording) (text : List ℕ) (status exit : ℕ) → exit ≡ status → IsTold as_trace trace text status
    → IsTold as_trace trace text exit
told_with as_trace trace text status exit same told = subst (IsTold as_trace trace text) (sym same) told

pub spells_itself : (trace : Recording) → IsVersionOf forms.Trace trace.version → IsRecording trace → Spells (spelling trace) trace
spells_itself trace of within = record { of_form = of; follows = tt; in_range = within; spelled = refl }

-- what is right has the status of yes
pub status_of_yes : (trace : Recording) (text : List ℕ) (status : ℕ) → IsVersionOf forms.Trace trace.version → IsRecording trace → IsFaultless trace
    → IsAudit false 0 (spelling trace) text status → status ≡ 0
status_of_yes trace text status of within faultless audit =
    let yes = same_of (spelling trace) audit.verdict (Yes (recorded_order trace)) audit.is_verdict (trace, spells_itself trace of within, faultless, refl) in
    audit.status_is ∙ same_status audit.verdict audit.count ∙ ap verdict_status yes

pub writes_what_is_told : (setup : Setup) (as_trace : Bool) (known old new : Option (List ℕ)) (script : Script) (trace : Recording) (text : List ℕ) (status : ℕ)
    → HasReadScript setup.depth known script → IsRecordingOfScript setup script trace → IsTold as_trace trace text status → Appends old new text
    → WritesReport (IsSimulation setup as_trace) known old new status
writes_what_is_told setup as_trace known old new script trace text status has recording told written = record {
  input = has.input;
  is_read = has.is_read;
  text = text;
  is_report = record { script = script; short = has.short; is_script = has.is_script; trace = trace; recording = recording; told = told };
  written = written;
}

-- where the input is a script, the output alone gave an error
pub fault_of_output : (depth : Depth) (known : Option (List ℕ)) (script : Script) (fault : ProgFault) → HasReadScript depth known script → fault ≡ CannotWrite
    → IsSimulationFault depth known fault
fault_of_output depth known script fault has same = subst (IsSimulationFault depth known) (sym same) (script, has)
