-- No float is in the JSON of an explanation of a chain.
use Rattle.std.proofs.Common.{◌≡◌, ℕ, Bool, false, ◌||◌, ◌++◌, List, [], ◌∷◌, codes, Option, Some, None, ap, ap₂, fold, map, refl}
use Rattle.vs_types.specs.declared.requests.answer.Answer.{Answer}
use Rattle.serde_json.specs.Data.{Members, no_members, object}
use Rattle.serde_json.specs.View.{items_of}
use Rattle.serde_json.specs.Written.{has_float, items_have_float}
use Rattle.nr_explain.specs.declared.trace.evidence.Difference.{Difference}
use Rattle.nr_explain.specs.declared.trace.evidence.RecordedCall.{RecordedCall}
use Rattle.nr_explain.specs.declared.trace.evidence.RecordedReply.{RecordedReply}
use Rattle.nr_explain.specs.declared.chain.evidence.Lag.{Lag}
use Rattle.nr_explain.specs.declared.chain.evidence.Leading.{Leading}
use Rattle.nr_explain.specs.declared.chain.evidence.Leading.TheVariants.{Within, Earlier as Before}
use Rattle.nr_explain.specs.declared.chain.evidence.Reach.{Reach}
use Rattle.nr_explain.specs.declared.chain.evidence.OpenUpdate.{OpenUpdate}
use Rattle.nr_explain.specs.declared.chain.evidence.WhyWrong.{WhyWrong}
use Rattle.nr_explain.specs.declared.chain.evidence.WhyWrong.TheVariants.{Otherwise, Reached}
use Rattle.audit_texts.specs.ChainReleases.{away_parts, known_parts, lag_parts, leading_parts, reach_parts, release_parts, shown_parts, taken_parts, why_parts}
use Rattle.audit_texts.specs.EvidenceJson.{changed_data, taken_data}
use Rattle.audit_texts.specs.NearbyText.{missed_data, open_data, right_data}
use Rattle.nr_explain.specs.declared.trace.evidence.OtherAnswer.{OtherAnswer}
use Rattle.nr_explain.specs.declared.trace.evidence.PlacedUpdate.{PlacedUpdate}
use Rattle.nr_explain.specs.declared.chain.evidence.Origin.{Origin}
use Rattle.nr_explain.specs.declared.chain.evidence.Origin.TheVariants.{Nothing, Start, Earlier}
use Rattle.nr_explain.specs.declared.chain.evidence.Moment.{Moment}
use Rattle.nr_explain.specs.declared.chain.evidence.StaleTouch.{StaleTouch}
use Rattle.nr_explain.specs.declared.chain.evidence.SegmentEvidence.{SegmentEvidence}
use Rattle.nr_explain.specs.declared.chain.evidence.SegmentEvidence.TheVariants as shown
use Rattle.nr_explain.specs.declared.chain.explanation.ChainExplanation.{ChainExplanation}
use Rattle.nr_explain.specs.declared.chain.explanation.ChainExplanation.TheVariants.{Yes, No}
use Rattle.audit_texts.proofs.NoFloats.{evidence_has_no_float, memory, missed, missing_has_no_float, one, own, reserved_has_no_float, right}
use Rattle.audit_texts.proofs.NoFloats.{shared_has_no_float, two, way}
use Rattle.audit_texts.specs.Parts.{Part, parts_data, put_part, says_data}
use Rattle.audit_texts.specs.Evidence.{answer_parts, look_parts, nearby_parts, read_parts}
use Rattle.audit_texts.specs.Evidence.{stray_frame_parts, unlike_parts}
use Rattle.audit_texts.specs.ChainExplained.{chain_explanation_data}
use Rattle.audit_texts.specs.ChainEvidence.{allowed_parts, bad_segment_parts, begin_parts, chain_counts_parts, change_parts, difference_parts}
use Rattle.audit_texts.specs.ChainEvidence.{earlier_data, missed_parts, moment_data, origin_parts, origin_says, other_answer_parts, put_earlier}
use Rattle.audit_texts.specs.ChainEvidence.{seen_parts, segment_evidence_data, segment_parts, stale_parts, start_beyond_parts, start_differs_parts}
use Rattle.audit_texts.specs.ChainEvidence.{start_stray_parts, window_parts, with_array, with_earlier, with_looks}

moments : (looks : List Moment) → items_have_float (items_of (map moment_data looks)) ≡ false
moments [] = refl
moments (moment ∷ more) = moments more

left : (looks : List Answer) → items_have_float (items_of (map earlier_data looks)) ≡ false
left [] = refl
left (look ∷ more) = left more

-- what takes something away has a reply, and so has what was open
away : (taken : OpenUpdate) → has_float (taken_data taken) ≡ false
away taken = ap one (own taken.reply)

open_then : (found : Option OpenUpdate) → has_float (open_data found) ≡ false
open_then None = refl
open_then (Some found) = away found

called : (update : Option PlacedUpdate) → has_float (changed_data update) ≡ false
called None = refl
called (Some update) = refl

-- what shows a stale touch has what was called later, looks, the update that it should have seen, what was open then, and where it would be
-- right. It may also have a reply that shows what was known, and earlier looks
abbrev five : Bool → Bool → Bool → Bool → Bool → Bool
five a b c d rest = a || (b || (c || (d || rest)))

abbrev stale_members : StaleTouch → List Answer → List Part → Members
stale_members touch earlier parts =
    fold put_part (put_earlier earlier (with_looks (shown.Stale touch) (fold put_part no_members parts))) (seen_parts touch)

module _ (touch : StaleTouch) (last : Bool) (clean : last ≡ false) where
  all : five (has_float (changed_data touch.later)) (items_have_float (items_of (map moment_data touch.looks.items))) (has_float (missed_data touch.missed))
      (has_float (open_data touch.still_open)) (has_float (right_data touch.right) || last) ≡ false
  all = λ i. five ((called touch.later) i) ((moments touch.looks.items) i) ((missed touch.missed) i) ((open_then touch.still_open) i)
      ((right touch.right) i || clean i)

lagging : (touch : StaleTouch) (lag : Lag) (by : Option RecordedReply) (earlier : List Answer)
    → has_float (object (stale_members touch earlier (window_parts touch ++ (known_parts lag ++ shown_parts by)))) ≡ false
unfolding says_data window_parts with_looks put_earlier with_array known_parts shown_parts seen_parts
lagging touch lag None [] = all touch _ (ap one (own lag.shown))
lagging touch lag None (look ∷ more) = ap₂ (λ (a b : Bool). a || b) (left (look ∷ more)) (all touch _ (ap one (own lag.shown)))
lagging touch lag (Some reply) [] = all touch _ (ap one (own lag.shown))
lagging touch lag (Some reply) (look ∷ more) = ap₂ (λ (a b : Bool). a || b) (left (look ∷ more)) (all touch _ (ap one (own lag.shown)))

touched : (touch : StaleTouch) (lag : Option Lag) (earlier : List Answer)
    → has_float (object (stale_members touch earlier (window_parts touch ++ lag_parts lag))) ≡ false
unfolding says_data window_parts with_looks put_earlier with_array lag_parts seen_parts
touched touch None [] = all touch false refl
touched touch None (look ∷ more) = ap₂ (λ (a b : Bool). a || b) (left (look ∷ more)) (all touch false refl)
touched touch (Some lag) earlier = lagging touch lag lag.shown earlier

-- what shows a wrong release has a reply, and what takes away that an address leads there
reached : (release : RecordedCall) (given : Option RecordedReply) (reach : Reach) (leading : Leading)
    → has_float (parts_data (((release_parts release given ++ reach_parts reach) ++ leading_parts reach.look leading) ++ taken_parts leading)) ≡ false
unfolding says_data release_parts reach_parts leading_parts taken_parts away_parts
reached release given reach (Within entries None) = ap one (own given)
reached release given reach (Within entries (Some taken)) = ap₂ two (own given) (away taken)
reached release given reach Before = ap one (own given)

released : (release : RecordedCall) (why : WhyWrong) → has_float (parts_data (why_parts release why)) ≡ false
unfolding says_data why_parts release_parts
released release (Otherwise given) = refl
released release (Reached given reach) = reached release given reach reach.leading

from : (origin : Origin) → has_float (says_data (origin_says origin)) ≡ false
unfolding says_data origin_says
from Nothing = refl
from Start = refl
from Earlier = refl

answered : (wrong : OtherAnswer) (update : Option PlacedUpdate) (origin : Origin)
    → has_float (parts_data ((answer_parts wrong ++ change_parts update origin) ++ nearby_parts wrong.right wrong.memory)) ≡ false
unfolding says_data answer_parts change_parts origin_parts nearby_parts
answered wrong None origin = ap₂ (λ (a b : Bool). a || b) (from origin) (ap₂ two (memory wrong.memory) (right wrong.right))
answered wrong (Some update) origin = ap₂ two (memory wrong.memory) (right wrong.right)

translated : (wrong : Difference) (update : Option PlacedUpdate) (origin : Origin)
    → has_float (parts_data (unlike_parts wrong ++ change_parts update origin)) ≡ false
unfolding says_data unlike_parts look_parts change_parts origin_parts
translated wrong None origin = ap₂ two (from origin) (way wrong.path.items)
translated wrong (Some update) origin = ap one (way wrong.path.items)

segment_evidence_has_no_float : (evidence : SegmentEvidence) → has_float (segment_evidence_data evidence) ≡ false
unfolding says_data bad_segment_parts other_answer_parts difference_parts
    start_stray_parts start_beyond_parts start_differs_parts stale_parts segment_parts with_looks change_parts begin_parts
    allowed_parts origin_parts read_parts stray_frame_parts answer_parts look_parts
    unlike_parts with_earlier missed_parts seen_parts
segment_evidence_has_no_float (shown.Format bad) = refl
segment_evidence_has_no_float (shown.Within evidence) = evidence_has_no_float evidence
segment_evidence_has_no_float (shown.WrongAnswer wrong origin) = answered wrong wrong.changed origin
segment_evidence_has_no_float (shown.Differs wrong origin) = translated wrong wrong.changed origin
segment_evidence_has_no_float (shown.StartMissing wrong) = missing_has_no_float wrong
segment_evidence_has_no_float (shown.StartShared wrong) = shared_has_no_float wrong
segment_evidence_has_no_float (shown.StartReserved wrong) = reserved_has_no_float wrong
segment_evidence_has_no_float (shown.StartStray frame) = refl
segment_evidence_has_no_float (shown.StartBeyond wrong) = ap one (way wrong.path.items)
segment_evidence_has_no_float (shown.StartDiffers wrong) = ap₂ two (from wrong.origin) (way wrong.path.items)
segment_evidence_has_no_float (shown.Stale touch) = touched touch touch.lag touch.earlier.items
segment_evidence_has_no_float (shown.Reachable wrong) = released wrong.call wrong.why

pub chain_explanation_has_no_float : (explanation : ChainExplanation) → has_float (chain_explanation_data explanation) ≡ false
unfolding chain_counts_parts says_data
chain_explanation_has_no_float (Yes counts) = refl
chain_explanation_has_no_float (No number fault evidence) = ap one (segment_evidence_has_no_float evidence)
