-- A feed on its way: a reader between two units, and the beginning of the next unit.
use Rattle.std.specs.Prelude.{◌≡◌, ℕ, ◌<◌, ◌≤◌, ◌++◌, List, [], length, take, Option, Some, None, ⊤}
use Rattle.nr_trace.specs.FirstFault.{HasRefusalAs}
use Rattle.nr_trace.specs.Feed.{Fed, fault_of}
use Rattle.nr_trace.specs.Feed.Fed.{Taken, Stopped}
use Rattle.nr_trace.specs.inside.Progress.{form_of, unit_bytes, said, Ahead, IsReady}
use Rattle.nr_trace.specs.declared.refusals.refusal.Refusal.{Refusal}
use Rattle.nr_trace.specs.declared.formats.version.Form.{Form}
use Rattle.nr_trace.specs.declared.reading.reader.Reader.{Reader}
use Rattle.nr_trace.specs.declared.reading.feed.State.{State}
use Rattle.nr_trace.specs.declared.reading.feed.State.TheVariants as states

-- the reader goes on, and a refusal of the bytes ahead is one of all the bytes
pub record IsSound (reader : Reader) : Type 0 where
  pub ready : IsReady reader
  pub faults : (rest : List ℕ) (refusal : Refusal) → Ahead reader rest refusal → HasRefusalAs (form_of reader) (said reader ++ rest) refusal

-- the bytes are fewer than the next unit has; none where there is no next unit
abbrev pub AreFewer : Option ℕ → List ℕ → Type 0
AreFewer None bytes = bytes ≡ []
AreFewer (Some len) bytes = length bytes < len

-- where there is a next unit, what is left is fewer
abbrev pub IsLeft : Option ℕ → List ℕ → Type 0
IsLeft None rest = ⊤
IsLeft (Some len) rest = length rest < len

-- of a piece that comes after these bytes all whole units are read, and this is left
pub record IsCut (form : Form) (bytes piece : List ℕ) (reader : Reader) (rest : List ℕ) : Type 0 where
  pub form_is : form_of reader ≡ form
  pub sound : IsSound reader
  pub front : List ℕ
  pub cut : piece ≡ front ++ rest
  pub read : said reader ≡ bytes ++ front
  pub left : IsLeft (unit_bytes reader) rest

abbrev pub fed : State → Fed
fed (states.Open reader begun) = Taken (said reader ++ begun.items)
fed (states.Stopped fail) = Stopped (fault_of fail)

abbrev pub IsFeeding : Form → State → Type 0
IsFeeding form (states.Open reader begun) = (form_of reader ≡ form) × IsSound reader × AreFewer (unit_bytes reader) begun.items
IsFeeding form (states.Stopped fail) = ⊤

-- the state is between two pieces, after these bytes
pub record HasCome (form : Form) (bytes : List ℕ) (state : State) : Type 0 where
  pub feeding : IsFeeding form state
  pub bytes_are : fed state ≡ Taken bytes

-- no unit is left to read
abbrev pub IsAtEnd : State → Type 0
IsAtEnd (states.Open reader begun) = unit_bytes reader ≡ None
IsAtEnd (states.Stopped fail) = ⊥

-- the state is after so many bytes of the piece, all of them where a unit is left
pub record HasTaken (form : Form) (bytes piece : List ℕ) (state : State) (count : ℕ) : Type 0 where
  pub within : count ≤ length piece
  pub come : HasCome form (bytes ++ take count piece) state
  pub at_end : count < length piece → IsAtEnd state
