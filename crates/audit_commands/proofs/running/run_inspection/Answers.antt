use Rattle.std.proofs.Common.{Bor, IfOk, List, map, subst, sym, ℕ}
use Rattle.std.proofs.lemmas.Result.{MatchResult-from_both}
use Rattle.audit_commands.specs.Tasks.{AuditsTests, RunsInspection}
use Rattle.audit_commands.specs.declared.inspection.Inspection.{Inspection}
use Rattle.audit_commands.proofs.running.run_inspection.Goals as goal

pub returns-in-Tests : goal.returns-in-Tests
returns-in-Tests g c =
    let bytes = g.F.FilesByName.file_bytes c.args.files.now in
    let old = g.W.Write.contents c.args.output.now in
    let new = g.W.Write.contents c.audit_tests-outcome.new.output in
    subst (λ (inspection : Inspection). RunsInspection bytes inspection (g.R.Read.remaining c.args.input.now.reader) g.W.Write.contents
    c.args.output.now c.audit_tests-outcome.new.output c.audit_tests-outcome.result) (sym c.in-Tests.is)
    (MatchResult-from_both c.audit_tests-outcome.result _ _
    (subst (λ (names : List (Bor (List ℕ))). IfOk c.audit_tests-outcome.result
    (AuditsTests bytes (map (λ (name : Bor (List ℕ)). name.now) names) old new)) c.as_slice-names-in-Tests.ensures.value
    c.audit_tests-outcome.ensures.ok)
    c.audit_tests-outcome.ensures.err)
