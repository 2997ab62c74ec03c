use Rattle.std.proofs.Common.{◌≡◌, ◌++◌, take, map, string_bytes}
use Rattle.audit_texts.specs.Parts.{part_of, parts_text}
use Rattle.audit_texts.proofs.lines.part_text.push_parts.Given as goal

-- the parts so far
abbrev pub invariant-loop-part : goal.invariant-loop-part
invariant-loop-part l = string_bytes l.text ≡ string_bytes l.initial.text ++ parts_text (map part_of (take l.part-index l.parts))
