use Rattle.std.proofs.Common.{◌≡◌, map, take}
use Rattle.serde_json.specs.View.{view}
use Rattle.audit_texts.specs.EvidenceJson.{number_data}
use Rattle.audit_texts.proofs.explanation.order_value.Given as goal

-- the calls so far
abbrev pub invariant-loop-call : goal.invariant-loop-call
invariant-loop-call l = map view l.calls.items ≡ map number_data (take l.call-index l.order)
