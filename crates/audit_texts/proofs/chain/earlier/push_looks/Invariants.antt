use Rattle.std.proofs.Common.{◌≡◌, ◌++◌, take, string_bytes}
use Rattle.std.specs.List.{flat_map}
use Rattle.audit_texts.specs.ChainEvidence.{earlier_line}
use Rattle.audit_texts.proofs.chain.earlier.push_looks.Given as goal

-- the looks so far
abbrev pub invariant-loop-look : goal.invariant-loop-look
invariant-loop-look l = string_bytes l.text ≡ string_bytes l.initial.text ++ flat_map earlier_line (take l.look-index l.looks)
