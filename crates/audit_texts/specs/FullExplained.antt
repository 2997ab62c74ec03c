-- What `explain --all` answers to bytes: an explanation, and what is said of each other dump.
use Rattle.std.specs.Prelude.{◌≡◌, ℕ, ◌++◌, Bool, true, false, List, [], ◌∷◌, codes, decimal, flat_map, map}
use Rattle.serde_json.specs.Data.{Data, Members, array, member, no_members, null, object, string}
use Rattle.serde_json.specs.View.{items_of}
use Rattle.serde_json.specs.Written.{compact_text}
use Rattle.nr_explain.specs.Dumps.{IsFullExplanationOf}
use Rattle.nr_explain.specs.declared.trace.explaining.Explanation.{Explanation}
use Rattle.nr_explain.specs.declared.trace.explaining.Explanation.TheVariants.{Yes, No}
use Rattle.nr_explain.specs.declared.trace.all_dumps.DumpExplanation.{DumpExplanation}
use Rattle.nr_explain.specs.declared.trace.all_dumps.DumpExplanation.TheVariants.{Sound, Faulty}
use Rattle.nr_explain.specs.declared.trace.all_dumps.FullExplanation.{FullExplanation}
use Rattle.audit_texts.specs.Text.{fault_text, line_end}
use Rattle.audit_texts.specs.Sentence.{sentence_text}
use Rattle.audit_texts.specs.Usual.{usual_text}
use Rattle.audit_texts.specs.EvidenceJson.{number_data}
use Rattle.audit_texts.specs.Evidence.{evidence_data}
use Rattle.audit_texts.specs.Explained.{explanation_data, explanation_status, explanation_text, shown_text}

-- the lines of a dump: that it has no fault; or its first, with its sentence, what it most often is and the evidence
unfoldable pub dump_lines : DumpExplanation → List ℕ
dump_lines (Sound replica) = codes "dump " ++ (decimal replica ++ codes ": no fault\n")
dump_lines (Faulty replica fault shown) =
    codes "dump " ++ (decimal replica ++ (codes ": " ++ (fault_text fault ++ (line_end ++ shown_text fault shown))))

-- the lines of the explanation, and then those of the other dumps
abbrev pub full_text : FullExplanation → List ℕ
full_text full = explanation_text full.explanation ++ flat_map dump_lines full.dumps.items

-- the object of a dump
abbrev pub dump_data : DumpExplanation → Data
dump_data (Sound replica) = object
    (member (codes "fault") null
    (member (codes "replica") (number_data replica) no_members))
dump_data (Faulty replica fault shown) = object
    (member (codes "evidence") (evidence_data shown)
    (member (codes "fault") (string (fault_text fault))
    (member (codes "replica") (number_data replica)
    (member (codes "sentence") (string (sentence_text shown))
    (member (codes "usually") (string (usual_text fault)) no_members)))))

-- the member for the other dumps, where there are some, before others
abbrev pub dumps_member : List DumpExplanation → Members → Members
dumps_member [] more = more
dumps_member (dump ∷ dumps) more = member (codes "dumps") (array (items_of (map dump_data (dump ∷ dumps)))) more

-- the object of the explanation, with this member
abbrev pub full_data : Explanation → List DumpExplanation → Data
full_data (Yes order counts) dumps = explanation_data (Yes order counts)
full_data (No fault shown) dumps = object
    (dumps_member dumps
    (member (codes "evidence") (evidence_data shown)
    (member (codes "sentence") (string (sentence_text shown))
    (member (codes "usually") (string (usual_text fault))
    (member (codes "verdict") (string (codes "no " ++ fault_text fault)) no_members)))))

-- the object as a text
abbrev pub full_json : FullExplanation → List ℕ
full_json full = compact_text (full_data full.explanation full.dumps.items) ++ line_end

-- as JSON, or as lines
abbrev pub told_full : Bool → FullExplanation → List ℕ
told_full true full = full_json full
told_full false full = full_text full

-- the text and the status are those of a full explanation of these bytes
pub record IsFullyExplained (as_json : Bool) (bytes text : List ℕ) (status : ℕ) : Type 0 where
  pub full : FullExplanation
  pub is_full : IsFullExplanationOf bytes full
  pub text_is : text ≡ told_full as_json full
  pub status_is : status ≡ explanation_status full.explanation
