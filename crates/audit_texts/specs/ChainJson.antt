-- What `audit --chain --json` prints: a JSON object on a line for each right segment, and one at the end.
use Rattle.std.specs.Prelude.{ℕ, ◌++◌, List, codes, decimal, Option, None, Some}
use Rattle.serde_json.specs.Data.{Members, member, no_members, object, put, string}
use Rattle.nr_trace.specs.declared.refusals.fault.Fault.{Fault}
use Rattle.audit_texts.specs.AuditJson.{fault_members, json_line, right_members}
use Rattle.audit_texts.specs.EvidenceJson.{number_data}
use Rattle.nr_audit.specs.declared.histories.met.Totals.{Totals}

-- the line of JSON of the right segment of this number, whose order has so many calls
abbrev pub segment_json : ℕ → ℕ → List ℕ
segment_json number calls = json_line (object (put (codes "segment") (number_data number) (right_members calls)))

-- the members at the end of a chain of which so many segments are right: how many there are, and what is counted of them; or the next one, and its fault
abbrev pub end_members : ℕ → Totals → Option Fault → Members
end_members number totals None =
    member (codes "beside") (number_data totals.met.beside)
    (member (codes "calls") (number_data totals.calls)
    (member (codes "kept") (number_data totals.met.since_kept)
    (member (codes "lagging") (number_data totals.met.since_lagging)
    (member (codes "open") (number_data totals.met.since_open)
    (member (codes "overlapping") (number_data totals.met.overlapping)
    (member (codes "repeated") (number_data totals.met.repeated)
    (member (codes "segments") (number_data number)
    (member (codes "verdict") (string (codes "segments " ++ decimal number)) no_members))))))))
end_members number totals (Some fault) = put (codes "segment") (number_data number) (fault_members fault)

-- the line of JSON at the end of a chain of which so many segments are right
abbrev pub end_json : ℕ → Totals → Option Fault → List ℕ
end_json number totals found = json_line (object (end_members number totals found))
