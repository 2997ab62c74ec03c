use Rattle.std.proofs.Common.{◌≡◌, ◌∙◌, ℕ, List, Option, ap, subst, Result, Ok, Err}
use Rattle.std.specs.Prelude.{◌≢◌, IfOk, IfErr, MatchResult}
use Rattle.audit_readers.specs.declared.fault.ProgFault.{ProgFault}
use Rattle.audit_readers.specs.declared.fault.ProgFault.TheVariants.{CannotWrite}
use Rattle.nrvs.specs.ServedChain.{HasServed, HasWrittenSegments}
use Rattle.nrvs.specs.Simulation.{IsSimulation, IsSimulationFault}
use Rattle.nrvs.specs.Program.{Reports, ReportsBySegments}
use Rattle.nrvs.specs.declared.runs.chain_setup.ChainSetup.{ChainSetup}
use Rattle.nrvs.specs.declared.runs.setup.Setup.{Setup}
use Rattle.nrvs.proofs.program.try_run.Goals as goal

-- what holds of a value and what holds of an error
in_either : {A E : Type 0} (P : A → Type 0) (Q : E → Type 0) (result : Result A E) → IfOk result P → IfErr result Q → MatchResult result P Q
in_either P Q (Ok value) ok err = ok
in_either P Q (Err fault) ok err = err

-- what was answered or written, with what was left to read
served_with_left : {E : Type 0} (setup : Setup) (chain : ChainSetup) (known left old new : Option (List ℕ)) (result : Result ℕ E)
    → IfOk result (HasServed setup chain known left old new)
    → IfOk result (λ status. (left : Option (List ℕ)) × HasServed setup chain known left old new status)
served_with_left setup chain known left old new (Ok status) served = (left, served)
served_with_left setup chain known left old new (Err fault) served = tt

with_left : {A : Type 0} (setup : Setup) (chain : ChainSetup) (known left old new : Option (List ℕ)) (result : Result A ProgFault)
    → IfErr result (λ fault. fault ≢ CannotWrite → HasWrittenSegments setup chain known left old new)
    → IfErr result (λ fault. fault ≢ CannotWrite → (left : Option (List ℕ)) × HasWrittenSegments setup chain known left old new)
with_left setup chain known left old new (Ok value) written = tt
with_left setup chain known left old new (Err fault) written = λ other. (left, written other)

pub returns-in-Ok-Simulate : goal.returns-in-Ok-Simulate
returns-in-Ok-Simulate g c =
    let setup = c.in-Ok-Simulate.setup in
    let as_trace = c.in-Ok-Simulate.as_trace in
    let Reported : Option (List ℕ) → Type 0 = λ known.
    Reports (IsSimulation setup as_trace) (IsSimulationFault setup.depth known) known g.W.Write.contents c.args.output.now
    c.simulate_io-outcome.new.writer c.simulate_io-outcome.result in
    let reported : Reported (g.R.Read.remaining c.new-input.result.reader.reader) = record {
      ends = in_either _ _ c.simulate_io-outcome.result c.simulate_io-outcome.ensures.ok c.simulate_io-outcome.ensures.err;
      alone = c.simulate_io-outcome.ensures.alone;
    } in
    rw c.in-Ok-Simulate.is (rw c.in-Ok-Simulate.field-0-is
    (subst Reported (ap (λ lines. g.R.Read.remaining lines.reader) c.new-input.ensures.reader ∙ ap g.R.Read.remaining c.new.ensures)
    reported))

pub returns-in-Ok-RunChain : goal.returns-in-Ok-RunChain
returns-in-Ok-RunChain g c =
    let setup = c.in-Ok-RunChain.setup in
    let chain = c.in-Ok-RunChain.chain in
    let old = g.W.Write.contents c.args.output.now in
    let new = g.W.Write.contents c.run_chain_io-outcome.new.writer in
    let result = c.run_chain_io-outcome.result in
    let known = g.R.Read.remaining c.new-input.result.reader.reader in
    let reported : ReportsBySegments setup chain known old new result = record {
      ends = in_either _ _ result (served_with_left setup chain known _ old new result c.run_chain_io-outcome.ensures.ok)
          c.run_chain_io-outcome.ensures.err;
      first = with_left setup chain known _ old new result c.run_chain_io-outcome.ensures.first;
    } in
    rw c.in-Ok-RunChain.is (rw c.in-Ok-RunChain.field-0-is (subst (λ (known : Option (List ℕ)). ReportsBySegments setup chain known old new result)
    (ap (λ lines. g.R.Read.remaining lines.reader) c.new-input.ensures.reader ∙ ap g.R.Read.remaining c.new.ensures) reported))
