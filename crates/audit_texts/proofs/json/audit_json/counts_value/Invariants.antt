use Rattle.std.proofs.Common.{◌≡◌, map, take}
use Rattle.serde_json.specs.View.{view}
use Rattle.audit_texts.specs.EvidenceJson.{number_data}
use Rattle.audit_texts.proofs.json.audit_json.counts_value.Given as goal

-- the numbers so far
abbrev pub invariant-loop-count : goal.invariant-loop-count
invariant-loop-count l = map view l.values.items ≡ map number_data (take l.count-index l.counts)
