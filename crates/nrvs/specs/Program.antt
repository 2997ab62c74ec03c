-- What the program does with the command that its words ask for.
use Rattle.std.specs.Prelude.{◌≢◌, ℕ, List, Option, Result, IfErr, MatchResult}
use Rattle.audit_readers.specs.Answers.{WritesReport}
use Rattle.audit_readers.specs.Refusals.{WritesAnswersAlone}
use Rattle.nrvs.specs.ServedChain.{HasServed, HasWrittenSegments, IsChainFault}
use Rattle.nrvs.specs.ServedRun.{IsRunFault, IsServedRun}
use Rattle.nrvs.specs.Simulation.{IsSimulation, IsSimulationFault}
use Rattle.audit_readers.specs.declared.fault.ProgFault.{ProgFault}
use Rattle.audit_readers.specs.declared.fault.ProgFault.TheVariants.{CannotWrite}
use Rattle.audit_commands.specs.Tasks.{RunsInspection}
use Rattle.nrvs.specs.declared.runs.chain_setup.ChainSetup.{ChainSetup}
use Rattle.nrvs.specs.declared.runs.setup.Setup.{Setup}
use Rattle.nrvs.specs.declared.command.Command.{Command}
use Rattle.nrvs.specs.declared.command.Command.TheVariants.{Inspect, Simulate, Run, RunChain}

-- a report on the input was written, or there is none, for such a reason
pub record Reports {W : Type 0} (IsReport : List ℕ → List ℕ → ℕ → Type 0) (IsFault : ProgFault → Type 0) (known : Option (List ℕ)) (contents : W
    → Option (List ℕ)) (old new : W) (outcome : Result ℕ ProgFault) : Type 0 where
  pub ends : MatchResult outcome (WritesReport IsReport known (contents old) (contents new)) IsFault
  pub alone : WritesAnswersAlone old new outcome

-- a run in segments was written, or there is no answer, for such a reason; then what came of right segments was written, if the output could be
-- written to
pub record ReportsBySegments (setup : Setup) (chain : ChainSetup) (known old new : Option (List ℕ)) (outcome : Result ℕ ProgFault) : Type 0 where
  pub ends : MatchResult outcome (λ status. (left : Option (List ℕ)) × HasServed setup chain known left old new status)
      (IsChainFault setup.depth known)
  pub first : IfErr outcome (λ fault. fault ≢ CannotWrite
      → (left : Option (List ℕ)) × HasWrittenSegments setup chain known left old new)

-- what a command writes, and with which outcome it ends
abbrev pub RunsCommand : {W : Type 0} → (List ℕ → Option (List ℕ)) → Command → Option (List ℕ) → (W → Option (List ℕ)) → W → W → Result ℕ ProgFault → Type 0
RunsCommand file_bytes (Inspect inspection) known contents old new outcome = RunsInspection file_bytes inspection known contents old new outcome
RunsCommand file_bytes (Simulate setup as_trace) known contents old new outcome =
    Reports (IsSimulation setup as_trace) (IsSimulationFault setup.depth known) known contents old new outcome
RunsCommand file_bytes (Run setup turns as_trace) known contents old new outcome =
    Reports (IsServedRun setup as_trace) (IsRunFault setup.depth known) known contents old new outcome
RunsCommand file_bytes (RunChain setup chain) known contents old new outcome =
    ReportsBySegments setup chain known (contents old) (contents new) outcome
