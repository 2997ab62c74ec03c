use Rattle.std.proofs.Common.{◌≡◌, take, map, fold}
use Rattle.serde_json.specs.View.{members_view}
use Rattle.audit_texts.specs.Parts.{part_of, put_part}
use Rattle.audit_texts.proofs.json.part_json.put_parts.Given as goal

-- the parts so far
abbrev pub invariant-loop-part : goal.invariant-loop-part
invariant-loop-part l = members_view l.members.entries ≡ fold put_part (members_view l.initial.members.entries) (map part_of (take l.part-index l.parts))
