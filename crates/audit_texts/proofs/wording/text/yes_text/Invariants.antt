use Rattle.std.proofs.Common.{◌≡◌, ◌++◌, codes, take, string_bytes}
use Rattle.std.specs.List.{flat_map}
use Rattle.audit_texts.specs.Text.{call_text}
use Rattle.audit_texts.proofs.wording.text.yes_text.Given as goal

-- the calls so far
abbrev pub invariant-loop-call : goal.invariant-loop-call
invariant-loop-call l = string_bytes l.text ≡ codes "yes\norder" ++ flat_map call_text (take l.call-index l.order)
