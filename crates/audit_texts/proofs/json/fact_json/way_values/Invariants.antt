use Rattle.std.proofs.Common.{◌≡◌, map, take}
use Rattle.serde_json.specs.View.{view}
use Rattle.audit_texts.specs.EvidenceJson.{step_data}
use Rattle.audit_texts.proofs.json.fact_json.way_values.Given as goal

-- the entries so far
abbrev pub invariant-loop-step : goal.invariant-loop-step
invariant-loop-step l = map view l.values.items ≡ map step_data (take l.step-index l.steps)
