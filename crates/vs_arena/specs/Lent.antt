-- Stores over lent memory: what contracts see of one, and how its frames lie in the memory.
use Rattle.std.specs.Prelude.{ℕ, List, take, length, refl}
use Rattle.std.specs.Coded.{Coded, code_by, coded×, coded_ℕ, coded_list}
use Rattle.std.specs.FinMap as finite
use Rattle.std.specs.Ordering.{nat_cmp}
use Rattle.vs_arena.specs.Store.{Store, Notes, Lenders}
use Rattle.vs_arena.specs.declared.mark.FrameMark.{FrameMark}
use Rattle.vs_arena.specs.Marked.{marked_frames, marked_notes}
use Rattle.vs_arena.specs.LentMarks.{uses_of_first, notes_of_first}

-- what contracts see: the number of the first frame, how many frames there are, those in use, their notes,
-- and the names of the references to the words and to the marks
pub record LentFrames : Type 0 where
  pub base : ℕ
  pub size : ℕ
  pub frames : Store
  pub notes : Notes
  pub lenders : Lenders

-- the frames in use that lie in words with these marks, where so many frames, which come first, were ever taken
abbrev pub frames_in : ℕ → List FrameMark → List (List ℕ) → Store
frames_in taken marks words = marked_frames (uses_of_first taken marks) (take taken words)

-- the notes of the frames in use that lie in words with these marks
abbrev pub notes_in : ℕ → List FrameMark → Notes
notes_in taken marks = marked_notes (uses_of_first taken marks) (notes_of_first taken marks)

-- the store that lies so in words with these marks, which these lent
abbrev pub lent_frames : ℕ → ℕ → List (List ℕ) → List FrameMark → Lenders → LentFrames
lent_frames base taken words marks lenders =
    record { base = base; size = length words; frames = frames_in taken marks words; notes = notes_in taken marks; lenders = lenders }

abbrev pub lent_code : Coded LentFrames
lent_code = code_by (ℕ × (ℕ × (Store × (Notes × Lenders))))
    (coded× coded_ℕ (coded× coded_ℕ (coded× (finite.code {R = nat_cmp} coded_ℕ (coded_list coded_ℕ))
    (coded× (finite.code {R = nat_cmp} coded_ℕ coded_ℕ) (coded_list coded_ℕ)))))
    (λ a. (a.base, (a.size, (a.frames, (a.notes, a.lenders)))))
    (λ p. record { base = p.0; size = p.1.0; frames = p.1.1.0; notes = p.1.1.1.0; lenders = p.1.1.1.1 }) (λ _. refl)
