use Rattle.std.proofs.Common.{◌∙◌, ap}
use Rattle.std.proofs.lemmas.Result.{IfOk-weaker}
use Rattle.serde_json.specs.Written.{has_float}
use Rattle.audit_texts.specs.AuditJson.{json_line}
use Rattle.audit_texts.proofs.AuditNoFloats.{end_has_no_float}
use Rattle.audit_texts.proofs.chain.json.end_json.Goals as goal

pub returns : goal.returns
returns c =
    let is = c.in_ok-value.ensures in
    IfOk-weaker c.json_line.result _ _
    (λ text line. line (ap has_float is ∙ end_has_no_float c.args.number c.args.totals c.args.found) ∙ ap json_line is) c.json_line.ensures
