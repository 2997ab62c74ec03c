use Rattle.std.proofs.Common.{◌≡◌, ◌++◌, take, string_bytes}
use Rattle.std.specs.List.{flat_map}
use Rattle.audit_texts.specs.ChainEvidence.{moment_line}
use Rattle.audit_texts.proofs.chain.evidence.push_moments.Given as goal

-- the moments so far
abbrev pub invariant-loop-moment : goal.invariant-loop-moment
invariant-loop-moment l = string_bytes l.text ≡ string_bytes l.initial.text ++ flat_map moment_line (take l.moment-index l.moments)
