-- What `simulate` answers to a script: the verdict on a recording of the protocol's core after the steps of the script, or the
-- bytes of that recording.
use Rattle.std.specs.Prelude.{◌≡◌, ◌≤◌, ◌<◌, ℕ, Bool, true, false, List, length, map, Option, ⊤}
use Rattle.std.specs.Io.KnownBytes.{Consumes}
use Rattle.vs_types.specs.Config.{Layout}
use Rattle.vs_types.specs.declared.addresses.depth.Depth.{Depth}
use Rattle.vs_types.specs.declared.requests.refusal.Fail.{Fail}
use Rattle.vs_types.specs.declared.requests.refusal.Fail.TheVariants as fails
use Rattle.nr_trace.specs.Recording.{Recording}
use Rattle.nr_trace.specs.Spelling.{spelling}
use Rattle.nr_core.specs.State.{start}
use Rattle.nr_core.specs.Run.{after_steps, IsRecordingOf}
use Rattle.nr_script.specs.Script.{IsBadLine, IsScript}
use Rattle.nr_script.specs.declared.script.BadLine.{BadLine as BadLineOfScript}
use Rattle.nr_script.specs.declared.script.Script.{Script}
use Rattle.audit_readers.specs.Answers.{IsAudit, IsReadOf}
use Rattle.audit_readers.specs.declared.fault.ProgFault.{ProgFault}
use Rattle.audit_readers.specs.declared.fault.ProgFault.TheVariants.{InputTooLong, BadLine, CannotRead, CannotWrite, Memory}
use Rattle.nrvs.specs.declared.runs.setup.Setup.{Setup}

-- the layout of a setup with so many threads
abbrev pub layout_of : Setup → ℕ → Layout
layout_of setup threads = record { depth = setup.depth; replicas = setup.replicas; threads = threads; tables = setup.tables }

-- a recording of the core's state after the script's steps in turn: those that are not enabled are passed over
abbrev pub IsRecordingOfScript : Setup → Script → Recording → Type 0
IsRecordingOfScript setup script trace = IsRecordingOf
    (after_steps (start (layout_of setup script.threads) (map (λ list. list.items) script.requests.items)) script.steps.items) trace

-- what is written of a trace: its bytes, where these are asked for; else what `audit` says of them
abbrev pub IsTold : Bool → Recording → List ℕ → ℕ → Type 0
IsTold true trace text status = (text ≡ spelling trace) × (status ≡ 0)
IsTold false trace text status = IsAudit false 0 (spelling trace) text status

-- the answer of `simulate`: the bytes, not too many, are a script, and a recording of the core after its steps is written
pub record IsSimulation (setup : Setup) (as_trace : Bool) (bytes text : List ℕ) (status : ℕ) : Type 0 where
  pub script : Script
  pub short : length bytes ≤ 16777216
  pub is_script : IsScript setup.depth bytes script
  pub trace : Recording
  pub recording : IsRecordingOfScript setup script trace
  pub told : IsTold as_trace trace text status

-- the input of the reader, which is not too long, is this script
pub record HasReadScript (depth : Depth) (known : Option (List ℕ)) (script : Script) : Type 0 where
  pub input : List ℕ
  pub is_read : IsReadOf known input
  pub short : length input ≤ 16777216
  pub is_script : IsScript depth input script

-- at most so many bytes were read
pub record HasReadAtMost (most : ℕ) (old new : Option (List ℕ)) : Type 0 where
  pub bytes : List ℕ
  pub read : Consumes old new bytes
  pub few : length bytes ≤ most

-- the input of the reader has more bytes than a script may have
pub record IsTooLong (known : Option (List ℕ)) : Type 0 where
  pub input : List ℕ
  pub is_read : IsReadOf known input
  pub long : 16777216 < length input

-- the input of the reader, which is not too long, has its first bad line there
pub record HasBadLine (depth : Depth) (known : Option (List ℕ)) (number : ℕ) : Type 0 where
  pub input : List ℕ
  pub is_read : IsReadOf known input
  pub short : length input ≤ 16777216
  pub is_bad : IsBadLine depth input number

-- why an input is not read whole: an end gave an error or memory ran out, of which no contract says when, or it is too long
abbrev pub IsInputFault : Option (List ℕ) → ProgFault → Type 0
IsInputFault known InputTooLong = IsTooLong known
IsInputFault known CannotRead = ⊤
IsInputFault known Memory = ⊤
IsInputFault known _ = ⊥

-- or it is no script
abbrev pub IsScriptFault : Depth → Option (List ℕ) → ProgFault → Type 0
IsScriptFault depth known (BadLine number) = HasBadLine depth known number
IsScriptFault depth known fault = IsInputFault known fault

-- why `simulate` gives no answer: only where the input is a script is anything written
abbrev pub IsSimulationFault : Depth → Option (List ℕ) → ProgFault → Type 0
IsSimulationFault depth known CannotWrite = (script : Script) × HasReadScript depth known script
IsSimulationFault depth known fault = IsScriptFault depth known fault

-- what is written of bytes that are no script
abbrev pub script_fault : Fail BadLineOfScript → ProgFault
script_fault fails.Memory = Memory
script_fault (fails.Refused bad) = BadLine bad.0
