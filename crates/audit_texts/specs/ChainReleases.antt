-- What is said of a release that is wrong, and of a table that lags: the facts, and the sentence.
use Rattle.std.specs.Prelude.{ℕ, ◌++◌, List, [], ◌∷◌, codes, decimal, Option, Some, None}
use Rattle.vs_types.specs.declared.requests.answer.Answer.{Answer}
use Rattle.vs_text.specs.Words.{hexadecimal}
use Rattle.nr_explain.specs.declared.trace.evidence.RecordedCall.{RecordedCall}
use Rattle.nr_explain.specs.declared.trace.evidence.RecordedReply.{RecordedReply}
use Rattle.nr_explain.specs.declared.chain.evidence.Lag.{Lag}
use Rattle.nr_explain.specs.declared.chain.evidence.Leading.{Leading}
use Rattle.nr_explain.specs.declared.chain.evidence.Leading.TheVariants.{Within, Earlier}
use Rattle.nr_explain.specs.declared.chain.evidence.Reach.{Reach}
use Rattle.nr_explain.specs.declared.chain.evidence.OpenUpdate.{OpenUpdate}
use Rattle.nr_explain.specs.declared.chain.evidence.WhyWrong.{WhyWrong}
use Rattle.nr_explain.specs.declared.chain.evidence.WhyWrong.TheVariants.{Otherwise, Reached}
use Rattle.audit_texts.specs.Text.{answer_text, line_end}
use Rattle.audit_texts.specs.Parts.{Part, in_both, in_json, in_lines, words}
use Rattle.audit_texts.specs.Parts.{address, answer, call, count, nothing, own, reply, taken, text}
use Rattle.audit_texts.specs.Evidence.{fault_is}

-- ---- a table that lags

-- the reply that shows how many entries were known, if there is one
unfoldable pub shown_parts : Option RecordedReply → List Part
shown_parts None = []
shown_parts (Some it) = in_lines (reply it) ∷ []

-- how many entries a replica had applied, and the reply that shows it
unfoldable pub known_parts : Lag → List Part
known_parts lag = words (codes "entries its replica had applied: ") ∷ in_both (codes "known") (count lag.known) ∷ words line_end
    ∷ in_json (codes "shown") (own lag.shown) ∷ []

-- how far the table of a touch's replica may lag, if that counts
unfoldable pub lag_parts : Option Lag → List Part
lag_parts None = []
lag_parts (Some lag) = known_parts lag ++ shown_parts lag.shown

-- ---- releases

-- a release, and its reply
unfoldable pub release_parts : RecordedCall → Option RecordedReply → List Part
release_parts release given =
    fault_is (codes "Reachable") ∷ in_both (codes "call") (call release) ∷ in_both (codes "reply") (own given) ∷ []

-- the address from which its memory may be reached, and how many entries of the log an access of it may see
unfoldable pub reach_parts : Reach → List Part
reach_parts reach = words (codes "address ") ∷ in_both (codes "address") (address reach.address)
    ∷ words (codes "\nentries seen at least: ") ∷ in_both (codes "first") (count reach.first) ∷ words (codes "\nentries seen at most: ")
    ∷ in_both (codes "last") (count reach.last) ∷ words line_end ∷ []

-- when the address leads there, and how it looks then
unfoldable pub leading_parts : Answer → Leading → List Part
leading_parts look (Within entries away) = words (codes "after ") ∷ in_both (codes "entries") (count entries) ∷ words (codes ": ")
    ∷ in_both (codes "look") (answer look) ∷ words line_end ∷ []
leading_parts look Earlier = in_json (codes "entries") nothing ∷ words (codes "before the segment: ")
    ∷ in_both (codes "look") (answer look) ∷ words line_end ∷ []

-- the update that takes something away, or that none of the segment does
unfoldable pub away_parts : Option OpenUpdate → List Part
away_parts None = words (codes "taken away by: ") ∷ in_both (codes "taken") nothing ∷ words (codes " in this segment\n") ∷ []
away_parts (Some away) = in_both (codes "taken") (taken away) ∷ []

-- what takes away that an address leads somewhere
unfoldable pub taken_parts : Leading → List Part
taken_parts (Within entries away) = away_parts away
taken_parts Earlier =
    words (codes "taken away by: ") ∷ in_both (codes "taken") (text (codes "an earlier segment")) ∷ words line_end ∷ []

-- why a release is wrong
unfoldable pub why_parts : RecordedCall → WhyWrong → List Part
why_parts release (Otherwise given) = release_parts release (Some given)
why_parts release (Reached given reach) =
    ((release_parts release given ++ reach_parts reach) ++ leading_parts reach.look reach.leading) ++ taken_parts reach.leading

-- ---- sentences

-- how an update is answered that takes away that an address leads somewhere
unfoldable pub answered_words : Option RecordedReply → List ℕ
answered_words None = codes "never answered"
answered_words (Some it) = codes "answered only at event " ++ decimal it.event

-- that an update takes it away, and how that is answered
unfoldable pub away_words : OpenUpdate → List ℕ
away_words away =
    codes "call " ++ (decimal away.update.call.event ++ (codes " takes it from there, and is " ++ answered_words away.reply))

-- what takes away that an address leads somewhere
unfoldable pub taken_words : Leading → List ℕ
taken_words (Within entries None) = codes "no update takes it from there"
taken_words (Within entries (Some away)) = away_words away
taken_words Earlier = codes "an update of an earlier segment took it from there, and was never answered"

-- the sentence on a release that is answered otherwise
abbrev pub otherwise_sentence : RecordedCall → RecordedReply → List ℕ
otherwise_sentence release given =
    codes "Release " ++ (decimal release.event ++ (codes " was answered `" ++ (answer_text given.answer ++ codes "`, and not `done`.")))

-- the sentence on a release whose memory may be reached
abbrev pub reach_sentence : RecordedCall → Reach → List ℕ
reach_sentence release reach = codes "Release " ++ (decimal release.event ++ (codes " gives memory away that an access of "
    ++ (hexadecimal reach.address ++ (codes " may still reach: " ++ (taken_words reach.leading ++ codes ".")))))

-- the sentence on a release that is wrong
unfoldable pub release_sentence : RecordedCall → WhyWrong → List ℕ
release_sentence release (Otherwise given) = otherwise_sentence release given
release_sentence release (Reached given reach) = reach_sentence release reach
