use Rattle.std.proofs.Common.{◌≡◌, map, take}
use Rattle.serde_json.specs.View.{view}
use Rattle.audit_texts.specs.ChainEvidence.{moment_data}
use Rattle.audit_texts.proofs.chain.evidence.moment_values.Given as goal

-- the moments so far
abbrev pub invariant-loop-moment : goal.invariant-loop-moment
invariant-loop-moment l = map view l.values.items ≡ map moment_data (take l.moment-index l.moments)
