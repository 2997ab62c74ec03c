-- What `run` answers to a script: what came of each call of its threads, where the run is verified; else the first fault of its trace.
use Rattle.std.specs.Prelude.{◌≡◌, ◌≤◌, ◌⊎◌, ℕ, Bool, true, false, List, length, map, Option, Some, None, ⊤}
use Rattle.vs_types.specs.Config.{Layout}
use Rattle.vs_types.specs.declared.addresses.depth.Depth.{Depth}
use Rattle.vs_types.specs.declared.requests.request.Query.{Query}
use Rattle.nr_ring.specs.Pass.{Known}
use Rattle.nr_trace.specs.declared.refusals.fault.Fault.{Fault}
use Rattle.nr_serve.specs.Run.{IsRefusedRun, IsVerifiedRun}
use Rattle.nr_serve.specs.declared.endings.outcome.Outcome.{Outcome}
use Rattle.nr_serve.specs.declared.endings.outcome.Outcome.TheVariants.{Verified, Refused}
use Rattle.nr_serve.specs.declared.endings.call_outcome.CallOutcome.{CallOutcome}
use Rattle.nr_script.specs.Script.{IsScript}
use Rattle.nr_script.specs.declared.script.Script.{Script}
use Rattle.audit_readers.specs.Answers.{IsReadOf}
use Rattle.nrvs.specs.RunText.{refused_text, verified_text}
use Rattle.nrvs.specs.Simulation.{HasBadLine, IsScriptFault, layout_of}
use Rattle.audit_readers.specs.declared.fault.ProgFault.{ProgFault}
use Rattle.audit_readers.specs.declared.fault.ProgFault.TheVariants.{BadLine, CannotWrite, Memory, NoThread}
use Rattle.nrvs.specs.declared.runs.setup.Setup.{Setup}

-- the bytes of the trace, where these are asked for; else the text
abbrev pub asked_for : Bool → List ℕ → List ℕ → List ℕ
asked_for true trace text = trace
asked_for false trace text = text

-- a verified run of these scripts is written
pub record TellsVerified (layout : Layout) (scripts : List (List Query)) (as_trace : Bool) (text : List ℕ) (status : ℕ) : Type 0 where
  pub answers : List (List CallOutcome)
  pub trace : List ℕ
  pub order : List ℕ
  pub passes : List Known
  pub verified : IsVerifiedRun layout scripts answers trace order passes
  pub text_is : text ≡ asked_for as_trace trace (verified_text answers)
  pub status_is : status ≡ 0

-- a refused run of these scripts is written, by the first fault of its trace
pub record TellsRefused (layout : Layout) (scripts : List (List Query)) (as_trace : Bool) (text : List ℕ) (status : ℕ) : Type 0 where
  pub trace : List ℕ
  pub fault : Fault
  pub refused : IsRefusedRun layout scripts trace fault
  pub text_is : text ≡ asked_for as_trace trace (refused_text fault)
  pub status_is : status ≡ 1

-- what came of a run of these scripts is written
abbrev pub TellsRun : Layout → List (List Query) → Bool → List ℕ → ℕ → Type 0
TellsRun layout scripts as_trace text status = TellsVerified layout scripts as_trace text status ⊎ TellsRefused layout scripts as_trace text status

-- what is written of an outcome, and its status
abbrev pub told_of : {J : Type 0} → Bool → Outcome J → List ℕ
told_of as_trace (Verified answers trace order passes) = asked_for as_trace trace (verified_text answers)
told_of as_trace (Refused trace fault) = asked_for as_trace trace (refused_text fault)

abbrev pub outcome_status : {J : Type 0} → Outcome J → ℕ
outcome_status (Verified answers trace order passes) = 0
outcome_status (Refused trace fault) = 1

-- what each thread asks
abbrev pub scripts_of : Script → List (List Query)
scripts_of script = map (λ list. list.items) script.requests.items

-- the bytes, not too many, are a script that lists no steps
pub record IsRunnable (depth : Depth) (bytes : List ℕ) (script : Script) : Type 0 where
  pub short : length bytes ≤ 16777216
  pub is_script : IsScript depth bytes script
  pub no_step : script.first_step ≡ None

-- the answer of `run`: the bytes are a script with no steps, and what came of a run of it is written
pub record IsServedRun (setup : Setup) (as_trace : Bool) (bytes text : List ℕ) (status : ℕ) : Type 0 where
  pub script : Script
  pub runnable : IsRunnable setup.depth bytes script
  pub told : TellsRun (layout_of setup script.threads) (scripts_of script) as_trace text status

-- the input of the reader is a script that lists no steps
pub record HasRunnable (depth : Depth) (known : Option (List ℕ)) : Type 0 where
  pub input : List ℕ
  pub is_read : IsReadOf known input
  pub script : Script
  pub runnable : IsRunnable depth input script

-- the input of the reader, which is not too long, is a script whose first step is in this line
pub record HasStepLine (depth : Depth) (known : Option (List ℕ)) (number : ℕ) : Type 0 where
  pub input : List ℕ
  pub is_read : IsReadOf known input
  pub short : length input ≤ 16777216
  pub script : Script
  pub is_script : IsScript depth input script
  pub first : script.first_step ≡ Some number

-- why a run is not written: no thread could be started, the output gave an error, or memory ran out, of which no contract says when
abbrev pub IsRunEnd : ProgFault → Type 0
IsRunEnd NoThread = ⊤
IsRunEnd CannotWrite = ⊤
IsRunEnd Memory = ⊤
IsRunEnd _ = ⊥

-- why `run` gives no answer: a line that is bad, or lists a step, where no line is bad; only a script with no steps is run
abbrev pub IsRunFault : Depth → Option (List ℕ) → ProgFault → Type 0
IsRunFault depth known (BadLine number) = HasBadLine depth known number ⊎ HasStepLine depth known number
IsRunFault depth known NoThread = HasRunnable depth known
IsRunFault depth known CannotWrite = HasRunnable depth known
IsRunFault depth known fault = IsScriptFault depth known fault
