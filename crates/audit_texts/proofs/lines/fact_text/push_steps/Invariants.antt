use Rattle.std.proofs.Common.{◌≡◌, ◌++◌, take, string_bytes}
use Rattle.audit_texts.specs.EvidenceText.{steps_lines}
use Rattle.audit_texts.proofs.lines.fact_text.push_steps.Given as goal

-- the entries so far
abbrev pub invariant-loop-step : goal.invariant-loop-step
invariant-loop-step l = string_bytes l.text ≡ string_bytes l.initial.text ++ steps_lines (take l.step-index l.steps)
