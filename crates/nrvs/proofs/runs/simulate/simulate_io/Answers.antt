use Rattle.std.proofs.Common.{ℕ, List, IfErr, Result, subst, sym, ◌∙◌}
use Rattle.std.specs.Io.KnownBytes.{Appends}
use Rattle.std.proofs.lemmas.Result.{err_from_is_err_and, IfErr-weaker, IfOk-weaker}
use Rattle.nr_trace.specs.Recording.{IsRecording}
use Rattle.nr_trace.specs.Spelling.{spelling}
use Rattle.nrvs.proofs.Simulations.{as_bytes, as_verdict, fault_of_output, spells_itself, status_of_yes, told_with, writes_what_is_told}
use Rattle.nrvs.specs.Simulation.{IsSimulationFault}
use Rattle.audit_readers.specs.declared.fault.ProgFault.{ProgFault}
use Rattle.nrvs.proofs.runs.simulate.simulate_io.Goals as goal

pub returns-then-as_trace-clause-ok : goal.returns-then-as_trace-clause-ok
returns-then-as_trace-clause-ok g c =
    let trace = c.in_ok-trace.trace in
    let text = c.in_ok-bytes.bytes.items in
    let old = g.W.Write.contents c.args.writer.now in
    let new = g.W.Write.contents c.write_text.new.writer in
    writes_what_is_told c.args.setup c.args.as_trace (g.R.Read.remaining c.args.reader.now) old new c.in_ok-script.script trace text 0
    c.in_ok-script.ensures.ok c.in_ok-trace.ensures.recording (as_bytes c.args.as_trace trace text c.if-as_trace.true c.in_ok-bytes.ensures.spelled)
    (subst (λ (bytes : List ℕ). Appends old new bytes) c.as_slice.ensures.value c.in_ok-write_text.ensures.ok)

pub returns-clause-ok : goal.returns-clause-ok
returns-clause-ok g c =
    let trace = c.in_ok-trace.trace in
    let report = c.in_ok-report.report in
    let within = subst IsRecording c.trace.view_is c.trace.invariant in
    let audit = c.in_ok-report.ensures (spelling trace) (spells_itself trace c.in_ok-trace.ensures.recording.of_trace within) in
    let told = as_verdict c.args.as_trace trace report.text.bytes.items report.status c.if-as_trace.false audit in
    IfOk-weaker c.write_report.result _ _
    (λ status h. writes_what_is_told c.args.setup c.args.as_trace (g.R.Read.remaining c.args.reader.now) (g.W.Write.contents c.args.writer.now)
    (g.W.Write.contents c.write_report.new.writer) c.in_ok-script.script trace report.text.bytes.items status
    c.in_ok-script.ensures.ok c.in_ok-trace.ensures.recording (told_with c.args.as_trace trace report.text.bytes.items report.status status h.0 told) h.1)
    c.write_report.ensures.ok

pub returns-clause-yes : goal.returns-clause-yes
returns-clause-yes g c =
    let trace = c.in_ok-trace.trace in
    let report = c.in_ok-report.report in
    let within = subst IsRecording c.trace.view_is c.trace.invariant in
    let audit = c.in_ok-report.ensures (spelling trace) (spells_itself trace c.in_ok-trace.ensures.recording.of_trace within) in
    let zero = status_of_yes trace report.text.bytes.items report.status c.in_ok-trace.ensures.recording.of_trace within c.in_ok-trace.ensures.faultless
    audit in
    IfOk-weaker c.write_report.result _ _ (λ status h. h.0 ∙ zero) c.write_report.ensures.ok

pub returns-in_err-write_text-clause-err : goal.returns-in_err-write_text-clause-err
returns-in_err-write_text-clause-err g c =
    let known = g.R.Read.remaining c.args.reader.now in
    let p = err_from_is_err_and c.from_residual-in_err-write_text.result c.from_residual-in_err-write_text.ensures.1 in
    subst (λ (r : Result ℕ ProgFault). IfErr r (IsSimulationFault c.args.setup.depth known)) (sym p.1)
    (fault_of_output c.args.setup.depth known c.in_ok-script.script p.0 c.in_ok-script.ensures.ok (p.2 ∙ c.in_err-write_text.ensures.err))

pub returns-clause-err : goal.returns-clause-err
returns-clause-err g c =
    let known = g.R.Read.remaining c.args.reader.now in
    IfErr-weaker c.write_report.result _ _
    (λ fault same. fault_of_output c.args.setup.depth known c.in_ok-script.script fault c.in_ok-script.ensures.ok same) c.write_report.ensures.err
