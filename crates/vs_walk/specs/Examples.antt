-- Small tables, word by word. A frame that is not named is missing, and a word that is not named is 0.
use Rattle.std.specs.Prelude.{ℕ, List, [], ◌∷◌, true, false, replicate, slice_set}
use Rattle.std.specs.FinMap as finite
use Rattle.vs_types.specs.declared.addresses.frame.TheConstants.{FRAME_WORDS}
use Rattle.vs_types.specs.declared.addresses.page.Rights.{Rights}
use Rattle.vs_walk.specs.Memory.{Memory}

-- 512 words, 0 but for the one at this index
unfoldable pub one_word : ℕ → ℕ → List ℕ
one_word index word = slice_set (replicate FRAME_WORDS 0) index word

-- 512 words, each 0
unfoldable pub no_words : List ℕ
no_words = replicate FRAME_WORDS 0

-- the tables of one page at 0x400000: the words of frame 3, at index 2, and of frame 4 are these
abbrev pub page_tables : ℕ → ℕ → Memory
page_tables directory leaf = finite.from_entries ((1, one_word 0 0x2007) ∷ (2, one_word 0 0x3007) ∷ (3, one_word 2 directory) ∷ (4, one_word 0 leaf) ∷ [])

-- the tables of one page under index 256 of a root at level 5
abbrev pub high_tables : Memory
high_tables = finite.from_entries ((1, one_word 256 0x2007) ∷ (2, one_word 0 0x3007) ∷ (3, one_word 0 0x4007) ∷ (4, one_word 0 0x5007) ∷
    (5, one_word 0 0x3007) ∷ [])

-- three tables, of which the lowest has this word at index 1
abbrev pub three_tables : ℕ → Memory
three_tables word = finite.from_entries ((1, one_word 0 0x2007) ∷ (2, one_word 0 0x3007) ∷ (3, one_word 1 word) ∷ [])

-- frame 1 alone, with this word at index 0
abbrev pub one_table : ℕ → Memory
one_table word = finite.from_entries ((1, one_word 0 word) ∷ [])

-- frames 1 and 2 without any entry
abbrev pub two_empty_frames : Memory
two_empty_frames = finite.from_entries ((1, no_words) ∷ (2, no_words) ∷ [])

-- frame 1 without any entry
abbrev pub one_empty_frame : Memory
one_empty_frame = finite.from_entries ((1, no_words) ∷ [])

abbrev pub write_and_exec : Rights
write_and_exec = record { write = true; user = false; exec = true }
