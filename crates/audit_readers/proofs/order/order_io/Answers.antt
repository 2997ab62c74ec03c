use Rattle.std.proofs.Common.{◌∙◌}
use Rattle.audit_readers.proofs.Reports.{writes_report}
use Rattle.audit_readers.proofs.order.order_io.Goals as goal

pub returns-clause-ok : goal.returns-clause-ok
returns-clause-ok g c =
    let has = c.in_ok-read.ensures.ok in
    writes_report _ _ _ _ c.write_told.result has.input c.deref.result.now c.status_of.result has.is_read
    (record {
      finding = c.in_ok-finding.finding;
      is_finding = c.in_ok-finding.ensures has.input has.read_is;
      text_is = c.deref.ensures.value ∙ c.in_ok-told.ensures;
      status_is = c.status_of.ensures;
    })
    c.write_told.ensures.ok
