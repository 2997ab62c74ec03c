use Rattle.std.proofs.Common.{◌≡◌, map, take}
use Rattle.serde_json.specs.View.{view}
use Rattle.audit_texts.specs.FullExplained.{dump_data}
use Rattle.audit_texts.proofs.lines.full.dumps_value.Given as goal

-- the dumps so far
abbrev pub invariant-loop-dump : goal.invariant-loop-dump
invariant-loop-dump l = map view l.values.items ≡ map dump_data (take l.dump-index l.dumps)
