use Rattle.std.proofs.Common.{map, refl}
use Rattle.nr_trace.proofs.LawsOfFormat.{no_fault}
use Rattle.nr_trace.specs.Spelling.{spelling}
use Rattle.nr_trace.specs.declared.formats.version.Form.TheVariants as forms
use Rattle.nr_trace.specs.declared.refusals.fault.Fault.TheVariants.{Early, WrongAnswer, PrefixPastLog, PrefixShort, MissingFrame, SharedFrame, ReservedBit, StrayFrame}
use Rattle.nr_trace.specs.declared.refusals.fault.Fault.TheVariants.{Differs}
use Rattle.nr_core.specs.Faultless.{IsRecordingOfSteps}
use Rattle.nr_core.specs.Run.{after_steps}
use Rattle.nr_core.specs.State.{start}
use Rattle.nr_core.proofs.InTurn.{is_after_all, stepped_more}
use Rattle.nr_core.proofs.reached.NoFault.{none_of_steps, well_formed_of_steps}
use Rattle.nr_core.proofs.runs.running.run_steps.Goals as goal

pub loop-step-preserved : goal.loop-step-preserved
loop-step-preserved c =
    stepped_more (start c.args.config (map (λ script. script.items) c.args.scripts.items)) c.loop-step.core c.step.new.self c.args.steps.now
    c.loop-step.step-index _
    c.in_ok-step.field-0 c.loop-step-test.true c.loop-step.invariant c.in_ok-step.ensures

pub returns : goal.returns
returns c =
    let scripts = map (λ script. script.items) c.args.scripts.items in
    let trace = c.in_ok-trace.trace in
    let ensures = c.in_ok-trace.ensures in
    let is = is_after_all c.args.config scripts c.args.steps.now c.loop-step.core trace c.loop-step.step-index c.loop-step-test.false c.loop-step.invariant
    ensures.recording in
    let of_steps : IsRecordingOfSteps trace =
    (after_steps (start c.args.config scripts) c.args.steps.now, (c.args.config, scripts, c.args.steps.now, refl), is) in
    let none = none_of_steps trace of_steps in
    record {
      recording = is;
      in_range = ensures.in_range;
      spelled = λ fault. no_fault forms.Trace (spelling trace) trace fault
          (record { of_form = ensures.recording.of_trace; follows = tt; in_range = ensures.in_range; spelled = refl });
      well_formed = well_formed_of_steps trace of_steps;
      dumps = record {
        within = λ r. none (PrefixPastLog r);
        enough = λ r. none (PrefixShort r);
        none_missing = λ r number. none (MissingFrame r number);
        none_shared = λ r number. none (SharedFrame r number);
        none_reserved = λ r number index. none (ReservedBit r number index);
        none_stray = λ r number. none (StrayFrame r number);
        translates = λ r address. none (Differs r address);
      };
      answers = λ call. none (WrongAnswer call);
      in_time = λ call. none (Early call);
      faultless = none;
    }
