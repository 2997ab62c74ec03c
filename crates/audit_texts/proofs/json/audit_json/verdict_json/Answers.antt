use Rattle.std.proofs.Common.{◌∙◌, ap}
use Rattle.std.proofs.lemmas.Result.{IfOk-weaker}
use Rattle.serde_json.specs.Written.{has_float}
use Rattle.audit_texts.specs.AuditJson.{json_line}
use Rattle.audit_texts.proofs.AuditNoFloats.{verdict_has_no_float}
use Rattle.audit_texts.proofs.json.audit_json.verdict_json.Goals as goal

pub returns : goal.returns
returns c =
    let is = c.in_ok-value.ensures in
    IfOk-weaker c.json_line.result _ _ (λ text line. line (ap has_float is ∙ verdict_has_no_float c.args.verdict.now c.args.overlapping)
    ∙ ap json_line is) c.json_line.ensures
