use Rattle.std.proofs.Common.{ℕ, Option, MatchOption, subst}
use Rattle.vs_text.specs.Words.{SpellsAddress}
use Rattle.audit_readers.proofs.Reports.{writes_report}
use Rattle.audit_readers.proofs.resolve.resolve_io.Goals as goal

pub returns-clause-ok : goal.returns-clause-ok
returns-clause-ok g c =
    let report = c.in_ok-report.report in
    let has = c.in_ok-read.ensures.ok in
    let text = c.args.address.now in
    let spelled : SpellsAddress text c.in_ok-address.address =
    subst (λ (o : Option ℕ). MatchOption o ((address : ℕ) → SpellsAddress text address → ⊥) (SpellsAddress text)) c.in_ok-address.ensures.ok_part
    c.spelled_address.ensures in
    writes_report _ _ _ _ c.write_report.result has.input report.text.bytes.items report.status has.is_read
    record { address = c.in_ok-address.address; spelled = spelled; is_walk = c.in_ok-report.ensures has.input has.read_is }
    c.write_report.ensures.ok
