-- The sentence of a fault of a chain.
use Rattle.std.specs.Prelude.{ℕ, ◌++◌, ◌==◌, if◌then◌else◌, List, [], length, codes, decimal, Option, Some, None}
use Rattle.vs_types.specs.declared.requests.answer.Answer.{Answer}
use Rattle.vs_text.specs.Words.{hexadecimal}
use Rattle.nr_trace.specs.declared.refusals.fault.Format.{Format}
use Rattle.nr_trace.specs.declared.refusals.fault.Format.TheVariants as formats
use Rattle.nr_explain.specs.declared.units.BadUnit.{BadUnit}
use Rattle.nr_explain.specs.ChainEvidence.{fewest}
use Rattle.nr_explain.specs.declared.chain.evidence.Lag.{Lag}
use Rattle.nr_explain.specs.declared.chain.evidence.StartBeyond.{StartBeyond}
use Rattle.nr_explain.specs.declared.chain.evidence.StartDiffers.{StartDiffers}
use Rattle.nr_explain.specs.declared.chain.evidence.StaleTouch.{StaleTouch}
use Rattle.nr_explain.specs.declared.chain.evidence.SegmentEvidence.{SegmentEvidence}
use Rattle.nr_explain.specs.declared.chain.evidence.SegmentEvidence.TheVariants as shown
use Rattle.audit_texts.specs.Text.{answer_text, walk_words}
use Rattle.audit_texts.specs.ChainReleases.{release_sentence}
use Rattle.audit_texts.specs.EvidenceText.{bytes_text}
use Rattle.audit_texts.specs.Sentence.{difference_sentence, missing_sentence, other_answer_sentence, reason_text, reserved_sentence, sentence_text}
use Rattle.audit_texts.specs.Sentence.{shared_sentence}

-- why bytes with this fault are no segment: but for these two as of a trace
unfoldable pub segment_reason : BadUnit → Format → List ℕ
segment_reason bad formats.BadMagic = codes "they don't begin with NRVS"
segment_reason bad formats.BadVersion = codes "their version is 0x" ++ (bytes_text bad.read.items ++ codes ", and not 1")
segment_reason bad fault = reason_text bad fault

-- the sentence on a bad unit of a segment
abbrev pub bad_segment_sentence : BadUnit → List ℕ
bad_segment_sentence bad = codes "These bytes are no segment: " ++ (segment_reason bad bad.fault ++ codes ".")

-- the sentence on a frame of the start that is not reached
abbrev pub start_stray_sentence : ℕ → List ℕ
start_stray_sentence frame =
    codes "The start holds frame " ++ (hexadecimal frame ++ codes " as a table, and no table leads to it.")

-- the sentence on a page of the start that ends too high
abbrev pub start_beyond_sentence : StartBeyond → List ℕ
start_beyond_sentence wrong =
    codes "At " ++ (hexadecimal wrong.page.base ++ codes " the start has a page that ends above 0x8000000000000.")

-- the sentence on an address that the start translates otherwise
abbrev pub start_differs_sentence : StartDiffers → List ℕ
start_differs_sentence wrong = codes "At " ++ (hexadecimal wrong.address ++ (codes " the start says `" ++ (walk_words wrong.found
    ++ (codes "`, but after the segment before it the address space says `" ++ (answer_text wrong.wanted ++ codes "`.")))))

-- how many entries of the log a touch may see
abbrev pub window_text : ℕ → ℕ → List ℕ
window_text first last = decimal first ++ (codes " to " ++ (decimal last ++ codes " entries of the log"))

-- that none of the looks which linger behind the segments before is that of the answer
unfoldable pub earlier_words : List Answer → List ℕ
earlier_words looks = if length looks == 0 then [] else codes " Nor does it in what earlier segments leave."

-- what limits the entries that a touch may see
unfoldable pub limit_words : Option Lag → List ℕ
limit_words None = codes "it may see only "
limit_words (Some lag) = codes "even by a table that lags it may see only "

-- the sentence on a touch that is stale
abbrev pub stale_sentence : StaleTouch → List ℕ
stale_sentence touch = codes "Touch " ++ (decimal touch.call.event ++ (codes " was answered `" ++ (answer_text touch.reply.answer
    ++ (codes "`, but " ++ (limit_words touch.lag ++ (window_text (fewest touch.first touch.lag) touch.last
    ++ (codes ", and after none of these its address looks so." ++ earlier_words touch.earlier.items)))))))

-- the sentence of the evidence
unfoldable pub segment_sentence : SegmentEvidence → List ℕ
segment_sentence (shown.Format bad) = bad_segment_sentence bad.unit
segment_sentence (shown.Within evidence) = sentence_text evidence
segment_sentence (shown.WrongAnswer wrong origin) = other_answer_sentence wrong
segment_sentence (shown.Differs wrong origin) = difference_sentence wrong
segment_sentence (shown.StartMissing wrong) = missing_sentence wrong
segment_sentence (shown.StartShared wrong) = shared_sentence wrong
segment_sentence (shown.StartReserved wrong) = reserved_sentence wrong
segment_sentence (shown.StartStray frame) = start_stray_sentence frame
segment_sentence (shown.StartBeyond wrong) = start_beyond_sentence wrong
segment_sentence (shown.StartDiffers wrong) = start_differs_sentence wrong
segment_sentence (shown.Stale touch) = stale_sentence touch
segment_sentence (shown.Reachable wrong) = release_sentence wrong.call wrong.why
