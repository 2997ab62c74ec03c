use Rattle.std.proofs.Common.{ℕ, List, ◌++◌, take, ap, ◌∙◌}
use Rattle.std.specs.Prelude.{flat_map}
use Rattle.audit_texts.specs.EvidenceText.{byte_text}
use Rattle.audit_texts.proofs.UnitTexts.{take_least}
use Rattle.audit_texts.proofs.wording.units.bytes_text.Goals as goal

pub returns : goal.returns
returns c =
    let bytes = c.args.bytes.now in
    c.in_ok-push_bytes.ensures ∙ ap (λ (l : List ℕ). l ++ flat_map byte_text (take c.min.result bytes)) c.new-text.ensures.bytes
    ∙ ap (λ n. flat_map byte_text (take n bytes)) c.min.ensures ∙ ap (flat_map byte_text) (take_least bytes 24)
