-- What `explain --chain` answers to bytes: a text or a JSON object, and a status.
use Rattle.std.specs.Prelude.{◌≡◌, ℕ, ◌++◌, Bool, true, false, List, Some, None, codes, decimal}
use Rattle.serde_json.specs.Data.{Data, member, no_members, object, string}
use Rattle.serde_json.specs.Written.{compact_text}
use Rattle.nr_trace.specs.declared.refusals.fault.Fault.{Fault}
use Rattle.nr_explain.specs.ChainExplanation.{IsExplanationOfChain}
use Rattle.nr_explain.specs.declared.chain.evidence.SegmentEvidence.{SegmentEvidence}
use Rattle.nr_explain.specs.declared.chain.explanation.ChainExplanation.{ChainExplanation}
use Rattle.nr_explain.specs.declared.chain.explanation.ChainExplanation.TheVariants.{Yes, No}
use Rattle.audit_texts.specs.Text.{fault_text, line_end}
use Rattle.audit_texts.specs.Usual.{usual_line, usual_text}
use Rattle.audit_texts.specs.EvidenceJson.{number_data}
use Rattle.audit_texts.specs.ChainText.{end_lines}
use Rattle.audit_texts.specs.ChainSentence.{segment_sentence}
use Rattle.audit_texts.specs.ChainEvidence.{chain_counts_data, chain_counts_lines, segment_evidence_data, segment_evidence_text}

-- the sentence, the line of what the fault most often is, and the lines of the evidence
abbrev pub shown_text : Fault → SegmentEvidence → List ℕ
shown_text fault evidence = segment_sentence evidence ++ (line_end ++ (usual_line fault ++ segment_evidence_text evidence))

-- the lines: how many segments are right and how much they have; or the segment with the first fault, the fault, its sentence, what it most
-- often is, and the evidence
abbrev pub chain_explanation_text : ChainExplanation → List ℕ
chain_explanation_text (Yes counts) = end_lines counts.segments None ++ chain_counts_lines counts
chain_explanation_text (No number fault evidence) = end_lines number (Some fault) ++ shown_text fault evidence

-- the JSON object: how many segments are right and how much they have; or the segment with the first fault, the evidence, the sentence,
-- what the fault most often is, and the fault
abbrev pub chain_explanation_data : ChainExplanation → Data
chain_explanation_data (Yes counts) = object
    (member (codes "counts") (chain_counts_data counts)
    (member (codes "verdict") (string (codes "segments " ++ decimal counts.segments)) no_members))
chain_explanation_data (No number fault evidence) = object
    (member (codes "evidence") (segment_evidence_data evidence)
    (member (codes "segment") (number_data number)
    (member (codes "sentence") (string (segment_sentence evidence))
    (member (codes "usually") (string (usual_text fault))
    (member (codes "verdict") (string (codes "no " ++ fault_text fault)) no_members)))))

-- the object on one line
abbrev pub chain_explanation_json : ChainExplanation → List ℕ
chain_explanation_json explanation = compact_text (chain_explanation_data explanation) ++ line_end

-- as JSON, or as lines
abbrev pub told_chain : Bool → ChainExplanation → List ℕ
told_chain true explanation = chain_explanation_json explanation
told_chain false explanation = chain_explanation_text explanation

-- 0 where all segments are right, else 1
abbrev pub chain_explanation_status : ChainExplanation → ℕ
chain_explanation_status (Yes counts) = 0
chain_explanation_status (No number fault evidence) = 1

-- the text and the status are those of an explanation of the chain that these bytes are
pub record IsChainExplained (as_json : Bool) (bytes text : List ℕ) (status : ℕ) : Type 0 where
  pub explanation : ChainExplanation
  pub is_explanation : IsExplanationOfChain bytes explanation
  pub text_is : text ≡ told_chain as_json explanation
  pub status_is : status ≡ chain_explanation_status explanation
