use Rattle.std.proofs.Common.{◌≡◌, ◌++◌, take, string_bytes}
use Rattle.std.specs.List.{flat_map}
use Rattle.audit_texts.specs.EvidenceText.{byte_text}
use Rattle.audit_texts.proofs.wording.units.push_bytes.Given as goal

-- the bytes so far
abbrev pub invariant-loop-byte : goal.invariant-loop-byte
invariant-loop-byte l = string_bytes l.text ≡ string_bytes l.initial.text ++ flat_map byte_text (take l.byte-index l.bytes)
