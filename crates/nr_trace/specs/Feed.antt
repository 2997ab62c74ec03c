-- A trace or a segment that comes in pieces: what a feed has come to, and what a piece and the end make of it.
use Rattle.std.specs.Prelude.{◌≡◌, ◌<◌, ◌≤◌, ◌⊎◌, ◌++◌, ℕ, List, [], ◌∷◌, length, take, Option, Result, Ok, Err, IfErr, MatchResult}
use Rattle.vs_types.specs.Config.{Layout}
use Rattle.vs_types.specs.Refusal.{IfRefused}
use Rattle.vs_types.specs.declared.requests.refusal.Fail.{Fail}
use Rattle.vs_types.specs.declared.requests.refusal.Fail.TheVariants.{Memory, Refused}
use Rattle.nr_trace.specs.Recording.{Recording}
use Rattle.nr_trace.specs.Spelling.{Spells, SpellsAs}
use Rattle.nr_trace.specs.FirstFault.{HasFaultAs, HasFormatFault, HasRefusalAs, IsRefusedBy}
use Rattle.nr_trace.specs.declared.refusals.fault.Format.{Format}
use Rattle.nr_trace.specs.declared.refusals.refusal.Refusal.{Refusal}
use Rattle.nr_trace.specs.declared.formats.version.Form.{Form}
use Rattle.nr_trace.specs.declared.formats.version.Form.TheVariants as forms
use Rattle.nr_trace.specs.declared.refusals.fault.Format.TheVariants.{Truncated}

-- the bytes of all pieces so far, or why no more are taken
pub data Fed : Type 0 where
  Taken : List ℕ → Fed
  Stopped : Fail Format → Fed

-- the fault of a refusal, and an answer that says no more of it
abbrev pub fault_of : Fail Refusal → Fail Format
fault_of Memory = Memory
fault_of (Refused refusal) = Refused refusal.fault

-- the answer with the fault alone, where it is a refusal
abbrev pub fault_alone : {A : Type 0} → Result A (Fail Refusal) → Result A (Fail Format)
fault_alone (Ok value) = Ok value
fault_alone (Err fail) = Err (fault_of fail)

-- as bytes of this form they are refused so, whatever comes after them, at a unit that begins in so many last bytes
pub record IsRefusedAs (form : Form) (bytes : List ℕ) (last : ℕ) (refusal : Refusal) : Type 0 where
  pub near : refusal.left ≤ last
  pub refused : IsRefusedBy (HasRefusalAs form) bytes refusal

-- where no more comes, bytes of this form are refused so, at a unit of which so many have come
pub record IsCutOff (form : Form) (bytes : List ℕ) (refusal : Refusal) : Type 0 where
  pub within : refusal.left ≤ length bytes
  pub few : refusal.left < 4096
  pub refused : HasRefusalAs form bytes refusal

-- as bytes of this form they have the fault, whatever comes after them
abbrev pub LastsAs : Form → List ℕ → Format → Type 0
LastsAs form bytes fault = (rest : List ℕ) → HasFaultAs form (bytes ++ rest) fault

-- as bytes of a trace they have the fault, whatever comes after them
abbrev pub HasLastingFault : List ℕ → Format → Type 0
HasLastingFault bytes fault = LastsAs forms.Trace bytes fault

-- nothing is wrong with the bytes yet, but that there may be too few
abbrev pub IsFaultlessYet : Form → List ℕ → Type 0
IsFaultlessYet form bytes = (fault : Format) → HasFaultAs form bytes fault → fault ≡ Truncated

-- nothing is wrong with the bytes of a trace yet, but that there may be too few
abbrev pub HasNoFaultYet : List ℕ → Type 0
HasNoFaultYet bytes = IsFaultlessYet forms.Trace bytes

-- the piece is taken; or the bytes with it are refused, and then all that comes after; or that has come before
abbrev pub Feeds : Fed → List ℕ → Fed → Result (Unit {0}) (Fail Format) → Type 0
Feeds (Taken bytes) piece new (Ok _) = (new ≡ Taken (bytes ++ piece)) × HasNoFaultYet (bytes ++ piece)
Feeds (Taken bytes) piece new (Err fail) = (new ≡ Stopped fail) × IfRefused (HasLastingFault (bytes ++ piece)) fail
Feeds (Stopped fail) piece new result = (new ≡ Stopped fail) × (result ≡ Err fail)

-- the bytes spell the trace, or there are too few; or what was answered before is answered again
abbrev pub Ends : Fed → Result Recording (Fail Format) → Type 0
Ends (Taken bytes) result = MatchResult result (Spells bytes) (λ fail. (fail ≡ Refused Truncated) × HasFormatFault bytes Truncated)
Ends (Stopped fail) result = result ≡ Err fail

-- what a feed comes to after these pieces, one after the other
abbrev pub FeedsAll : Fed → List (List ℕ) → Fed → Type 0
FeedsAll old [] new = new ≡ old
FeedsAll old (piece ∷ more) new = (next : Fed) × (result : Result (Unit {0}) (Fail Format)) × Feeds old piece next result × FeedsAll next more new

-- what a reading of the bytes may give: a trace that they spell, a fault that they have, or out of memory
abbrev pub Reads : List ℕ → Result Recording (Fail Format) → Type 0
Reads bytes result = MatchResult result (Spells bytes) (IfRefused (HasFormatFault bytes))

-- where no more comes, the bytes are refused so
abbrev pub EndsRefused : Form → Fed → Result Recording (Fail Refusal) → Type 0
EndsRefused form fed result = (bytes : List ℕ) → fed ≡ Taken bytes → IfErr result (IfRefused (IsCutOff form bytes))

-- what a feed of a segment has come to, where the segment before has this layout
pub record FedSegment : Type 0 where
  pub before : Option Layout
  pub pieces : Fed

-- the bytes spell the segment
abbrev pub IsWhole : FedSegment → Type 0
IsWhole feed = of feed.pieces where
  of : Fed → Type 0
  of (Taken bytes) = (segment : Recording) × SpellsAs (forms.Segment feed.before) bytes segment
  of (Stopped fail) = ⊥

-- so many bytes at the front of the piece are taken: all of it, or so many that the segment is whole then, and else there are too few; or the
-- bytes with it are refused
abbrev pub FeedsSegment : FedSegment → List ℕ → FedSegment → Result ℕ (Fail Format) → Type 0
FeedsSegment old piece new result = (new.before ≡ old.before) × of old.pieces result where
  of : Fed → Result ℕ (Fail Format) → Type 0
  of (Taken bytes) (Ok count) =
      (count ≤ length piece) × (new.pieces ≡ Taken (bytes ++ take count piece)) × IsFaultlessYet (forms.Segment old.before) (bytes ++ take count piece)
      × (count < length piece → IsWhole new)
      × (IsWhole new ⊎ HasFaultAs (forms.Segment old.before) (bytes ++ take count piece) Truncated)
  of (Taken bytes) (Err fail) = (new.pieces ≡ Stopped fail) × IfRefused (LastsAs (forms.Segment old.before) (bytes ++ piece)) fail
  of (Stopped fail) answer = (new.pieces ≡ Stopped fail) × (answer ≡ Err fail)

-- the bytes spell the segment, or there are too few; or what was answered before is answered again
abbrev pub EndsSegment : FedSegment → Result Recording (Fail Format) → Type 0
EndsSegment feed result = of feed.pieces where
  of : Fed → Type 0
  of (Taken bytes) =
      MatchResult result (SpellsAs (forms.Segment feed.before) bytes)
      (λ fail. (fail ≡ Refused Truncated) × HasFaultAs (forms.Segment feed.before) bytes Truncated)
  of (Stopped fail) = result ≡ Err fail
