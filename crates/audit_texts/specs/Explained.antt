-- What `explain` answers to bytes: a text or a JSON object, and a status.
use Rattle.std.specs.Prelude.{◌≡◌, ℕ, ◌++◌, Bool, true, false, List, codes, map}
use Rattle.serde_json.specs.Data.{Data, array, member, no_members, object, string}
use Rattle.serde_json.specs.View.{items_of}
use Rattle.serde_json.specs.Written.{compact_text}
use Rattle.nr_trace.specs.declared.refusals.fault.Fault.{Fault}
use Rattle.nr_explain.specs.Explanation.{IsExplanationOf}
use Rattle.nr_explain.specs.declared.trace.evidence.Evidence.{Evidence}
use Rattle.nr_explain.specs.declared.trace.explaining.Explanation.{Explanation}
use Rattle.nr_explain.specs.declared.trace.explaining.Explanation.TheVariants.{Yes, No}
use Rattle.audit_texts.specs.Text.{fault_text, line_end, no_text, yes_text}
use Rattle.audit_texts.specs.Sentence.{sentence_text}
use Rattle.audit_texts.specs.Usual.{usual_line, usual_text}
use Rattle.audit_texts.specs.EvidenceJson.{number_data}
use Rattle.audit_texts.specs.Evidence.{counts_data, counts_lines, evidence_data, evidence_text}

-- the sentence, the line of what the fault most often is, and the lines of the evidence
abbrev pub shown_text : Fault → Evidence → List ℕ
shown_text fault shown = sentence_text shown ++ (line_end ++ (usual_line fault ++ evidence_text shown))

-- the lines: those of the verdict, and for a no its sentence, what it most often is and the evidence, for a yes how much there is
abbrev pub explanation_text : Explanation → List ℕ
explanation_text (Yes order counts) = yes_text order ++ counts_lines counts
explanation_text (No fault shown) = no_text fault ++ shown_text fault shown

-- the JSON object: the verdict's first line, with how much a yes has and its order, or the evidence of a no, its sentence and what it most
-- often is
abbrev pub explanation_data : Explanation → Data
explanation_data (Yes order counts) = object
    (member (codes "counts") (counts_data counts)
    (member (codes "order") (array (items_of (map number_data order)))
    (member (codes "verdict") (string (codes "yes")) no_members)))
explanation_data (No fault shown) = object
    (member (codes "evidence") (evidence_data shown)
    (member (codes "sentence") (string (sentence_text shown))
    (member (codes "usually") (string (usual_text fault))
    (member (codes "verdict") (string (codes "no " ++ fault_text fault)) no_members))))

-- the object on one line
abbrev pub explanation_json : Explanation → List ℕ
explanation_json explanation = compact_text (explanation_data explanation) ++ line_end

-- as JSON, or as lines
abbrev pub told_explanation : Bool → Explanation → List ℕ
told_explanation true explanation = explanation_json explanation
told_explanation false explanation = explanation_text explanation

-- the exit status: 0 for a yes, 1 for a no
abbrev pub explanation_status : Explanation → ℕ
explanation_status (Yes order counts) = 0
explanation_status (No fault shown) = 1

-- the text and the status are those of an explanation of these bytes
pub record IsExplained (as_json : Bool) (bytes text : List ℕ) (status : ℕ) : Type 0 where
  pub explanation : Explanation
  pub is_explanation : IsExplanationOf bytes explanation
  pub text_is : text ≡ told_explanation as_json explanation
  pub status_is : status ≡ explanation_status explanation
