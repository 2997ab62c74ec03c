-- What is said of a fault of a chain's segment, each fact of it, and how much a right chain has; the lines and the JSON object of it.
use Rattle.std.specs.Prelude.{ℕ, ◌++◌, List, [], ◌∷◌, codes, decimal, flat_map, fold, map, Option, Some, None}
use Rattle.serde_json.specs.Data.{Data, Members, array, member, no_members, object, put, string}
use Rattle.serde_json.specs.View.{items_of}
use Rattle.vs_types.specs.declared.requests.answer.Answer.{Answer}
use Rattle.vs_walk.specs.declared.walk.Walk.TheVariants.{Mapped}
use Rattle.nr_trace.specs.declared.refusals.fault.Format.{Format}
use Rattle.nr_trace.specs.declared.refusals.fault.Format.TheVariants as formats
use Rattle.nr_explain.specs.declared.trace.evidence.PlacedUpdate.{PlacedUpdate}
use Rattle.nr_explain.specs.declared.trace.evidence.OtherAnswer.{OtherAnswer}
use Rattle.nr_explain.specs.declared.trace.evidence.Difference.{Difference}
use Rattle.nr_trace.specs.FirstFault.{unit_size}
use Rattle.nr_trace.specs.declared.refusals.refusal.TraceUnit.{TraceUnit}
use Rattle.nr_audit.specs.Met.{sum_up}
use Rattle.nr_explain.specs.declared.chain.evidence.Origin.{Origin}
use Rattle.nr_explain.specs.declared.chain.evidence.Origin.TheVariants.{Nothing, Start, Earlier}
use Rattle.nr_explain.specs.declared.chain.evidence.BadSegment.{BadSegment}
use Rattle.nr_explain.specs.declared.chain.evidence.StartBeyond.{StartBeyond}
use Rattle.nr_explain.specs.declared.chain.evidence.StartDiffers.{StartDiffers}
use Rattle.nr_explain.specs.declared.chain.evidence.Moment.{Moment}
use Rattle.nr_explain.specs.declared.chain.evidence.StaleTouch.{StaleTouch}
use Rattle.nr_explain.specs.declared.chain.evidence.SegmentEvidence.{SegmentEvidence}
use Rattle.nr_explain.specs.declared.chain.evidence.SegmentEvidence.TheVariants as shown
use Rattle.nr_explain.specs.declared.chain.explanation.ChainCounts.{ChainCounts}
use Rattle.audit_texts.specs.Text.{answer_text, line_end}
use Rattle.audit_texts.specs.EvidenceJson.{number_data}
use Rattle.audit_texts.specs.Parts.{Part, Says, in_both, in_json, in_lines, words, parts_data, parts_text, put_part}
use Rattle.audit_texts.specs.Parts.{address, allowed, call, changed, count, later, missed, nothing, reply, right, steps, still_open, text, unit, walk}
use Rattle.audit_texts.specs.Evidence.{answer_parts, evidence_parts, fault_is, look_parts, missing_parts, nearby_parts, read_parts, reserved_parts}
use Rattle.audit_texts.specs.Evidence.{shared_parts, stray_frame_parts, unlike_parts}
use Rattle.audit_texts.specs.ChainReleases.{lag_parts, why_parts}

-- what an address looks like that no update of the segment has changed
unfoldable pub origin_says : Origin → Says
origin_says Nothing = nothing
origin_says Start = text (codes "the start")
origin_says Earlier = text (codes "an earlier segment")

-- what gave an address its look, behind the address
unfoldable pub origin_parts : Origin → List Part
origin_parts origin = words (codes ", last changed by: ") ∷ in_both (codes "changed") (origin_says origin) ∷ words line_end ∷ []

-- the last change of an address, behind the address
unfoldable pub change_parts : Option PlacedUpdate → Origin → List Part
change_parts (Some update) origin = words (codes ", ") ∷ in_both (codes "changed") (changed (Some update)) ∷ []
change_parts None origin = origin_parts origin

-- the parts on an answer that the space does not give, with what gave the address its look
unfoldable pub other_answer_parts : OtherAnswer → Origin → List Part
other_answer_parts wrong origin = (answer_parts wrong ++ change_parts wrong.changed origin) ++ nearby_parts wrong.right wrong.memory

-- the parts on an address that is translated otherwise, with what gave it its look
unfoldable pub difference_parts : Difference → Origin → List Part
difference_parts wrong origin = unlike_parts wrong ++ change_parts wrong.changed origin

-- what is allowed in a segment where it has this fault of the format
unfoldable pub allowed_says : Format → Says
allowed_says formats.Truncated = allowed formats.Truncated
allowed_says formats.BadMagic = text (codes "bytes 0 to 3 are NRVS\n")
allowed_says formats.BadVersion = text (codes "bytes 4 and 5 are the version, 1\n")
allowed_says formats.BadCount = text
    (codes "levels 4 or 5, replicas 1 to 4, threads and tables 1 to 65535, places to 65536, events to 131072, "
    ++ codes "frames to 65535; where a dump has none, its other numbers are 0\n")
allowed_says formats.BadChain = allowed formats.BadChain
allowed_says (formats.BadStart index) = allowed (formats.BadStart index)
allowed_says (formats.BadEvent index) = allowed (formats.BadEvent index)
allowed_says (formats.BadFrame replica index) = allowed (formats.BadFrame replica index)
allowed_says formats.Trailing = allowed formats.Trailing

-- the part on what is allowed
unfoldable pub allowed_parts : Format → List Part
allowed_parts fault = in_lines (allowed_says fault) ∷ in_json (codes "format") (allowed fault) ∷ []

-- the begin of a segment, and a unit
unfoldable pub begin_parts : ℕ → TraceUnit → List Part
begin_parts begins it = fault_is (codes "Format") ∷ words (codes "the segment begins at byte ") ∷ in_both (codes "begins") (count begins)
    ∷ words line_end ∷ in_both (codes "unit") (unit it) ∷ []

-- the begin of the segment, the unit, how many of its bytes there are, and the first of them; and what is allowed there
unfoldable pub bad_segment_parts : BadSegment → List Part
bad_segment_parts bad = (begin_parts bad.begins bad.unit.unit
    ++ read_parts (sum_up bad.begins bad.unit.offset) bad.unit.read.items (unit_size bad.unit.unit)) ++ allowed_parts bad.unit.fault

-- the parts on a frame of the start that is not reached
unfoldable pub start_stray_parts : ℕ → List Part
start_stray_parts number = stray_frame_parts (codes "StartStray") number

-- the parts on a page of the start that ends too high
unfoldable pub start_beyond_parts : StartBeyond → List Part
start_beyond_parts wrong = fault_is (codes "StartBeyond") ∷ words (codes "the start: ")
    ∷ in_both (codes "found") (walk (Mapped wrong.page.phys wrong.page.size wrong.page.rights)) ∷ words line_end
    ∷ in_both (codes "path") (steps wrong.path.items) ∷ words (codes "its page ends above 0x8000000000000\n")
    ∷ in_json (codes "address") (address wrong.page.base) ∷ []

-- the parts on an address that the start translates otherwise
unfoldable pub start_differs_parts : StartDiffers → List Part
start_differs_parts wrong = ((fault_is (codes "StartDiffers") ∷ words (codes "the start: ") ∷ [])
    ++ look_parts wrong.found wrong.path.items wrong.wanted wrong.address) ++ origin_parts wrong.origin

-- a touch, its reply, and how many entries of the log it may see
unfoldable pub window_parts : StaleTouch → List Part
window_parts touch = fault_is (codes "Stale") ∷ in_both (codes "call") (call touch.call) ∷ in_both (codes "reply") (reply touch.reply)
    ∷ words (codes "entries seen at least: ") ∷ in_both (codes "first") (count touch.first) ∷ words (codes "\nentries seen at most: ")
    ∷ in_both (codes "last") (count touch.last) ∷ words line_end ∷ []

-- a stale touch, and how far the table of its replica may lag, if that counts
unfoldable pub stale_parts : StaleTouch → List Part
stale_parts touch = window_parts touch ++ lag_parts touch.lag

-- which update a touch should have seen, which was open then, which was called later, and after which entries its answer would be right
unfoldable pub seen_parts : StaleTouch → List Part
seen_parts touch = in_both (codes "missed") (missed touch.missed) ∷ in_both (codes "open") (still_open touch.still_open)
    ∷ in_both (codes "later") (later touch.later) ∷ words (codes "right after: ") ∷ in_both (codes "right") (right touch.right)
    ∷ words line_end ∷ []

-- the same of a stale touch
unfoldable pub missed_parts : SegmentEvidence → List Part
missed_parts (shown.Stale touch) = seen_parts touch
missed_parts _ = []

-- how an address looked at a moment
unfoldable pub moment_line : Moment → List ℕ
moment_line moment = codes "after " ++ (decimal moment.entries ++ (codes ": " ++ (answer_text moment.look ++ line_end)))

-- how an address looked at a moment, as a JSON object
abbrev pub moment_data : Moment → Data
moment_data moment = object
    (member (codes "entries") (number_data moment.entries)
    (member (codes "look") (string (answer_text moment.look)) no_members))

-- how an address may still be found to look behind the segments before
unfoldable pub earlier_line : Answer → List ℕ
earlier_line look = codes "before the segment: " ++ (answer_text look ++ line_end)

-- how an address may still look from before the segment, as a JSON string
abbrev pub earlier_data : Answer → Data
earlier_data look = string (answer_text look)

-- the facts of the evidence, but for the moments of a touch
unfoldable pub segment_parts : SegmentEvidence → List Part
segment_parts (shown.Format bad) = bad_segment_parts bad
segment_parts (shown.Within evidence) = evidence_parts evidence
segment_parts (shown.WrongAnswer wrong origin) = other_answer_parts wrong origin
segment_parts (shown.Differs wrong origin) = difference_parts wrong origin
segment_parts (shown.StartMissing wrong) = missing_parts wrong
segment_parts (shown.StartShared wrong) = shared_parts wrong
segment_parts (shown.StartReserved wrong) = reserved_parts wrong
segment_parts (shown.StartStray number) = start_stray_parts number
segment_parts (shown.StartBeyond wrong) = start_beyond_parts wrong
segment_parts (shown.StartDiffers wrong) = start_differs_parts wrong
segment_parts (shown.Stale touch) = stale_parts touch
segment_parts (shown.Reachable wrong) = why_parts wrong.call wrong.why

-- the moments of a touch
unfoldable pub looks_of : SegmentEvidence → List Moment
looks_of (shown.Stale touch) = touch.looks.items
looks_of _ = []

-- the looks of its address that linger behind the segments before
unfoldable pub earlier_of : SegmentEvidence → List Answer
earlier_of (shown.Stale touch) = touch.earlier.items
earlier_of _ = []

-- the lines of the evidence
abbrev pub segment_evidence_text : SegmentEvidence → List ℕ
segment_evidence_text evidence =
    ((parts_text (segment_parts evidence) ++ flat_map earlier_line (earlier_of evidence)) ++ flat_map moment_line (looks_of evidence))
    ++ parts_text (missed_parts evidence)

-- the members with the moments of a touch
unfoldable pub with_looks : SegmentEvidence → Members → Members
with_looks (shown.Stale touch) members = put (codes "looks") (array (items_of (map moment_data touch.looks.items))) members
with_looks _ members = members

-- the members with an array of these looks
unfoldable pub with_array : List Answer → Members → Members
with_array looks members = put (codes "earlier") (array (items_of (map earlier_data looks))) members

-- the members with these looks, where there are some
unfoldable pub put_earlier : List Answer → Members → Members
put_earlier [] members = members
put_earlier (look ∷ more) members = with_array (look ∷ more) members

-- the members with the looks that linger
unfoldable pub with_earlier : SegmentEvidence → Members → Members
with_earlier (shown.Stale touch) members = put_earlier touch.earlier.items members
with_earlier _ members = members

-- the evidence as JSON
abbrev pub segment_evidence_data : SegmentEvidence → Data
segment_evidence_data evidence =
    object (fold put_part (with_earlier evidence (with_looks evidence (fold put_part no_members (segment_parts evidence)))) (missed_parts evidence))

-- how much a right chain has
unfoldable pub chain_counts_parts : ChainCounts → List Part
chain_counts_parts counts = words (codes "calls: ") ∷ in_both (codes "calls") (count counts.calls) ∷ words (codes "\nupdates: ")
    ∷ in_both (codes "updates") (count counts.updates) ∷ words (codes "\nreads: ") ∷ in_both (codes "reads") (count counts.reads)
    ∷ words (codes "\ntouches: ") ∷ in_both (codes "touches") (count counts.touches) ∷ words (codes "\nreleases: ")
    ∷ in_both (codes "releases") (count counts.releases) ∷ words (codes "\ndumps: ")
    ∷ in_both (codes "dumps") (count counts.dumps) ∷ words (codes "\nreplicas: ") ∷ in_both (codes "replicas") (count counts.replicas)
    ∷ words (codes "\npages: ") ∷ in_both (codes "pages") (count counts.pages) ∷ words (codes "\noverlapping calls: ")
    ∷ in_both (codes "overlapping") (count counts.overlapping) ∷ words (codes "\ntouches beside an update: ")
    ∷ in_both (codes "beside") (count counts.beside) ∷ words (codes "\ntouches right since an update was open: ")
    ∷ in_both (codes "open") (count counts.since_open) ∷ words (codes "\nfaults by kept rights: ")
    ∷ in_both (codes "kept") (count counts.since_kept) ∷ words (codes "\nfaults by a lagging table: ")
    ∷ in_both (codes "lagging") (count counts.since_lagging) ∷ words (codes "\nmost of these by one thread at one address: ")
    ∷ in_both (codes "repeated") (count counts.repeated) ∷ words line_end ∷ []

-- the counts of a right chain, as lines
abbrev pub chain_counts_lines : ChainCounts → List ℕ
chain_counts_lines counts = parts_text (chain_counts_parts counts)

-- the counts of a right chain, as a JSON object
abbrev pub chain_counts_data : ChainCounts → Data
chain_counts_data counts = parts_data (chain_counts_parts counts)
