-- No float is in the JSON of an explanation.
use Rattle.std.proofs.Common.{◌≡◌, ℕ, Bool, false, ◌||◌, ◌++◌, List, [], ◌∷◌, Option, Some, None, ap, ap₂, map, refl}
use Rattle.serde_json.specs.View.{items_of}
use Rattle.serde_json.specs.Written.{has_float, items_have_float}
use Rattle.nr_trace.specs.declared.recordings.event.Event.{Event}
use Rattle.nr_trace.specs.declared.recordings.event.Event.TheVariants.{Call, Reply}
use Rattle.nr_explain.specs.declared.trace.evidence.RecordedReply.{RecordedReply}
use Rattle.nr_explain.specs.declared.trace.evidence.MissingTable.{MissingTable}
use Rattle.nr_explain.specs.declared.trace.evidence.Owner.{Owner}
use Rattle.nr_explain.specs.declared.trace.evidence.Owner.TheVariants.{Dump, Start}
use Rattle.nr_explain.specs.declared.trace.evidence.PlacedUpdate.{PlacedUpdate}
use Rattle.nr_explain.specs.declared.trace.evidence.ReservedEntry.{ReservedEntry}
use Rattle.nr_explain.specs.declared.trace.evidence.SharedTable.{SharedTable}
use Rattle.nr_explain.specs.declared.trace.evidence.TableEntry.{TableEntry}
use Rattle.nr_explain.specs.declared.chain.evidence.MissedUpdate.{MissedUpdate}
use Rattle.nr_explain.specs.declared.trace.nearby.NamedMemory.{NamedMemory}
use Rattle.nr_explain.specs.declared.trace.nearby.RightAfter.{RightAfter}
use Rattle.nr_explain.specs.declared.trace.nearby.Stretch.{Stretch}
use Rattle.nr_explain.specs.declared.trace.evidence.Evidence.{Evidence}
use Rattle.nr_explain.specs.declared.trace.evidence.Evidence.TheVariants as evidence
use Rattle.nr_explain.specs.declared.trace.explaining.Explanation.{Explanation}
use Rattle.nr_explain.specs.declared.trace.explaining.Explanation.TheVariants.{Yes, No}
use Rattle.nr_explain.specs.declared.trace.all_dumps.DumpExplanation.{DumpExplanation}
use Rattle.nr_explain.specs.declared.trace.all_dumps.DumpExplanation.TheVariants.{Sound, Faulty}
use Rattle.audit_texts.specs.FullExplained.{dump_data, full_data}
use Rattle.audit_texts.specs.EvidenceJson.{changed_data, event_data, number_data, option_data, own_data, step_data, way_data}
use Rattle.audit_texts.specs.NearbyText.{address_data, memory_data, missed_data, right_data, stretch_data}
use Rattle.audit_texts.specs.Parts.{parts_data, says_data}
use Rattle.audit_texts.specs.Evidence.{counts_parts, evidence_data, evidence_parts}
use Rattle.audit_texts.specs.Evidence.{bad_unit_parts, difference_parts, early_parts, long_prefix_parts, misplaced_parts, missing_parts, no_update_parts}
use Rattle.audit_texts.specs.Evidence.{open_parts, other_answer_parts}
use Rattle.audit_texts.specs.Evidence.{past_end_parts, reserved_parts, shared_parts, short_prefix_parts, stray_parts, stray_reply_parts, two_places_parts}
use Rattle.audit_texts.specs.Evidence.{two_replies_parts}
use Rattle.audit_texts.specs.Evidence.{answer_parts, changed_parts, look_parts, missing_frame_parts, nearby_parts, owner_parts, read_parts, replica_parts}
use Rattle.audit_texts.specs.Evidence.{reserved_entry_parts}
use Rattle.audit_texts.specs.Evidence.{shared_frame_parts, stray_frame_parts, unlike_parts}
use Rattle.audit_texts.specs.Explained.{explanation_data}

numbers : (order : List ℕ) → items_have_float (items_of (map number_data order)) ≡ false
numbers [] = refl
numbers (call ∷ more) = numbers more

steps : (way : List TableEntry) → items_have_float (items_of (map step_data way)) ≡ false
steps [] = refl
steps (step ∷ more) = steps more

pub way : (entries : List TableEntry) → has_float (way_data entries) ≡ false
way entries = steps entries

option : (n : Option ℕ) → has_float (option_data n) ≡ false
option None = refl
option (Some n) = refl

event : (index : ℕ) (named : Option Event) → has_float (event_data index named) ≡ false
event index None = refl
event index (Some (Call replica thread asked)) = refl
event index (Some (Reply call at answer)) = refl

changed : (update : Option PlacedUpdate) → has_float (changed_data update) ≡ false
changed None = refl
changed (Some update) = refl

pub own : (reply : Option RecordedReply) → has_float (own_data reply) ≡ false
own None = refl
own (Some reply) = refl

-- one of the members may be any of these, or two
abbrev pub one : Bool → Bool
one b = b || false

abbrev pub two : Bool → Bool → Bool
two a b = a || (b || false)

stretch : (numbers : Option Stretch) → has_float (stretch_data numbers) ≡ false
stretch None = refl
stretch (Some numbers) = refl

pub right : (found : RightAfter) → has_float (right_data found) ≡ false
right found = ap₂ two (stretch found.before) (stretch found.behind)

address : (n : Option ℕ) → has_float (address_data n) ≡ false
address None = refl
address (Some n) = refl

pub memory : (named : Option NamedMemory) → has_float (memory_data named) ≡ false
memory None = refl
memory (Some named) = ap one (address named.address)

pub missed : (update : Option MissedUpdate) → has_float (missed_data update) ≡ false
missed None = refl
missed (Some update) = refl

missing : (owner : Owner) (fault end : List ℕ) (path : List TableEntry) (frame : ℕ)
    → has_float (parts_data (missing_frame_parts fault path frame end ++ owner_parts owner)) ≡ false
unfolding says_data missing_frame_parts owner_parts replica_parts
missing (Dump replica) fault end path frame = ap one (way path)
missing Start fault end path frame = ap one (way path)

shared : (owner : Owner) (fault : List ℕ) (first second : List TableEntry) (frame : ℕ)
    → has_float (parts_data (shared_frame_parts fault first second frame ++ owner_parts owner)) ≡ false
unfolding says_data shared_frame_parts owner_parts replica_parts
shared (Dump replica) fault first second frame = ap₂ two (way first) (way second)
shared Start fault first second frame = ap₂ two (way first) (way second)

reserved : (owner : Owner) (fault : List ℕ) (path : List TableEntry) (entry : TableEntry) (bit : ℕ)
    → has_float (parts_data (reserved_entry_parts fault path entry bit ++ owner_parts owner)) ≡ false
unfolding says_data reserved_entry_parts owner_parts replica_parts
reserved (Dump replica) fault path entry bit = ap one (way path)
reserved Start fault path entry bit = ap one (way path)

pub missing_has_no_float : (wrong : MissingTable) → has_float (parts_data (missing_parts wrong)) ≡ false
unfolding missing_parts
missing_has_no_float wrong = missing wrong.owner _ _ wrong.path.items wrong.frame

pub shared_has_no_float : (wrong : SharedTable) → has_float (parts_data (shared_parts wrong)) ≡ false
unfolding shared_parts
shared_has_no_float wrong = shared wrong.owner _ wrong.first.items wrong.second.items wrong.frame

pub reserved_has_no_float : (wrong : ReservedEntry) → has_float (parts_data (reserved_parts wrong)) ≡ false
unfolding reserved_parts
reserved_has_no_float wrong = reserved wrong.owner _ wrong.path.items wrong.entry wrong.bit

pub evidence_has_no_float : (shown : Evidence) → has_float (evidence_data shown) ≡ false
unfolding evidence_parts says_data bad_unit_parts open_parts stray_reply_parts two_replies_parts no_update_parts two_places_parts
    misplaced_parts past_end_parts early_parts other_answer_parts long_prefix_parts short_prefix_parts
    stray_parts difference_parts read_parts stray_frame_parts
    answer_parts look_parts unlike_parts changed_parts nearby_parts replica_parts
evidence_has_no_float (evidence.Format bad) = refl
evidence_has_no_float (evidence.ThreadOpen calls) = refl
evidence_has_no_float (evidence.NoSuchCall stray) = ap one (event stray.reply.call stray.named)
evidence_has_no_float (evidence.AnsweredTwice replies) = refl
evidence_has_no_float (evidence.NotAnUpdate wrong) = ap one (event wrong.call wrong.named)
evidence_has_no_float (evidence.PlacedTwice places) = refl
evidence_has_no_float (evidence.NotPlaced wrong) = ap₂ two (option wrong.own) (option wrong.there)
evidence_has_no_float (evidence.PastLog wrong) = refl
evidence_has_no_float (evidence.Early early) = ap one (own early.own)
evidence_has_no_float (evidence.WrongAnswer wrong) =
    ap₂ (λ (a b : Bool). a || b) (changed wrong.changed) (ap₂ two (memory wrong.memory) (right wrong.right))
evidence_has_no_float (evidence.PrefixPastLog wrong) = refl
evidence_has_no_float (evidence.PrefixShort wrong) = refl
evidence_has_no_float (evidence.MissingFrame wrong) = missing_has_no_float wrong
evidence_has_no_float (evidence.SharedFrame wrong) = shared_has_no_float wrong
evidence_has_no_float (evidence.ReservedBit wrong) = reserved_has_no_float wrong
evidence_has_no_float (evidence.StrayFrame wrong) = refl
evidence_has_no_float (evidence.Differs wrong) = ap₂ two (changed wrong.changed) (way wrong.path.items)

pub explanation_has_no_float : (explanation : Explanation) → has_float (explanation_data explanation) ≡ false
unfolding counts_parts says_data
explanation_has_no_float (Yes order counts) = ap one (numbers order)
explanation_has_no_float (No fault shown) = ap one (evidence_has_no_float shown)

dump : (told : DumpExplanation) → has_float (dump_data told) ≡ false
dump (Sound replica) = refl
dump (Faulty replica fault shown) = ap one (evidence_has_no_float shown)

dumps : (told : List DumpExplanation) → items_have_float (items_of (map dump_data told)) ≡ false
dumps [] = refl
dumps (first ∷ more) = ap₂ (λ (a b : Bool). a || b) (dump first) (dumps more)

pub full_has_no_float : (explanation : Explanation) (told : List DumpExplanation) → has_float (full_data explanation told) ≡ false
full_has_no_float (Yes order counts) told = explanation_has_no_float (Yes order counts)
full_has_no_float (No fault shown) [] = explanation_has_no_float (No fault shown)
full_has_no_float (No fault shown) (first ∷ more) = ap₂ two (dumps (first ∷ more)) (evidence_has_no_float shown)
