use Rattle.std.proofs.Common.{◌≡◌, map, take}
use Rattle.serde_json.specs.View.{view}
use Rattle.audit_texts.specs.ChainEvidence.{earlier_data}
use Rattle.audit_texts.proofs.chain.earlier.earlier_values.Given as goal

-- the looks so far
abbrev pub invariant-loop-look : goal.invariant-loop-look
invariant-loop-look l = map view l.values.items ≡ map earlier_data (take l.look-index l.looks)
