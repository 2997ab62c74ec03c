-- How a dump keeps its frames: the numbers in one list, and in two more the words of all frames, of some only those that are not 0, and
-- the index of each of these in its frame. No public clause cites this file.
use Rattle.std.specs.Prelude.{◌≡◌, ℕ, zero, suc, ◌+◌, ◌-◌, ◌<◌, ◌≤◌, ◌^◌, List, [], ◌∷◌, ◌++◌, length, take, drop, map, zip, replicate, All}
use Rattle.std.specs.Global.{Vec}
use Rattle.std.specs.Vec.{vec_len, vec_capacity}
use Rattle.std.specs.FinMap as finite
use Rattle.vs_types.specs.declared.addresses.frame.TheConstants.{FRAME_WORDS}
use Rattle.vs_types.specs.declared.limits.TheConstants.{FRAMES}
use Rattle.vs_walk.specs.Dump.{Image, AreParts}
use Rattle.vs_walk.specs.declared.dump.Span.{Span}
use Rattle.vs_walk.specs.declared.dump.Span.TheVariants.{Whole, Nonzero}

-- the words from one index up to another: at these places these, and zeros at all others
abbrev pub filled : ℕ → List ℕ → List ℕ → ℕ → List ℕ
filled from (place ∷ places) (word ∷ words) to = replicate (place - from) 0 ++ (word ∷ filled (place + 1) places words to)
filled from _ _ to = replicate (to - from) 0

-- places rise, from one index up to another
abbrev pub Rise : ℕ → List ℕ → ℕ → Type 0
Rise from [] to = from ≤ to
Rise from (place ∷ places) to = (from ≤ place) × Rise (place + 1) places to

-- a word for each place, none of them 0, among so many first words of a frame
pub record IsKept (places words : List ℕ) (come : ℕ) : Type 0 where
  pub as_many : length places ≡ length words
  pub rise : Rise 0 places come
  pub nonzero : All (λ word. 0 < word) words
  pub fit : All (λ word. word < 2 ^ 64) words

-- what is kept of a word at an index: its place and itself, and nothing of 0
abbrev pub place_of : ℕ → ℕ → List ℕ
place_of index zero = []
place_of index (suc word) = index ∷ []

abbrev pub nonzero_of : ℕ → List ℕ
nonzero_of zero = []
nonzero_of (suc word) = suc word ∷ []

-- the words of a frame that are not 0 were added
pub record AreAdded (places_before words_before places_now words_now frame : List ℕ) : Type 0 where
  pub places : List ℕ
  pub words : List ℕ
  pub more_places : places_now ≡ places_before ++ places
  pub more_words : words_now ≡ words_before ++ words
  pub kept : IsKept places words (length frame)
  pub is : filled 0 places words (length frame) ≡ frame

-- a part of a list
abbrev pub part : List ℕ → ℕ → ℕ → List ℕ
part items start len = take len (drop start items)

-- the words of a frame of which these lists have a part
abbrev pub words_at : List ℕ → List ℕ → Span → List ℕ
words_at places words (Whole start) = part words start FRAME_WORDS
words_at places words (Nonzero start place len) = filled 0 (part places place len) (part words start len) FRAME_WORDS

-- the list has the words of a whole frame from there on
pub record IsWhole (words : List ℕ) (start : ℕ) : Type 0 where
  pub within : start + FRAME_WORDS ≤ length words
  pub fit : All (λ word. word < 2 ^ 64) (part words start FRAME_WORDS)

-- the lists have that part, and it is kept of a frame
pub record IsPacked (places words : List ℕ) (start place len : ℕ) : Type 0 where
  pub within : start + len ≤ length words
  pub within_places : place + len ≤ length places
  pub kept : IsKept (part places place len) (part words start len) FRAME_WORDS

abbrev pub IsSpan : List ℕ → List ℕ → Span → Type 0
IsSpan places words (Whole start) = IsWhole words start
IsSpan places words (Nonzero start place len) = IsPacked places words start place len

-- what is kept of a frame was added
pub record IsAdded (places_before words_before places_now words_now : List ℕ) (span : Span) (frame : List ℕ) : Type 0 where
  pub places : List ℕ
  pub words : List ℕ
  pub more_places : places_now ≡ places_before ++ places
  pub more_words : words_now ≡ words_before ++ words
  pub is_span : IsSpan places_now words_now span
  pub is : words_at places_now words_now span ≡ frame

-- each number with the words of its frame
abbrev pub paired : List ℕ → List Span → List ℕ → List ℕ → List (ℕ × List ℕ)
paired numbers spans places words = zip numbers (map (words_at places words) spans)

-- the dump that is kept so
abbrev pub kept : ℕ → ℕ → List ℕ → List Span → List ℕ → List ℕ → Image
kept applied root numbers spans places words =
    record { applied = applied; root = root; frames = finite.from_sorted (paired numbers spans places words) }

-- a part of the lists for each number, which together are the parts of a dump
pub record AreKept (applied root : ℕ) (numbers : List ℕ) (spans : List Span) (places words : List ℕ) : Type 0 where
  pub as_many : length numbers ≡ length spans
  pub within : All (IsSpan places words) spans
  pub parts : AreParts applied root (paired numbers spans places words)

-- the same with room for one frame more, which may have this number
pub record HasRoom (applied root : ℕ) (numbers : Vec ℕ) (spans : Vec Span) (places words : Vec ℕ) (number : ℕ) : Type 0 where
  pub before : AreKept applied root numbers.items spans.items places.items words.items
  pub above : All (λ held. held < number) (map (λ frame. frame.0) (paired numbers.items spans.items places.items words.items))
  pub in_range : number < 2 ^ 40
  pub one_more : length (paired numbers.items spans.items places.items words.items) < FRAMES
  pub room_for_number : vec_len numbers < vec_capacity numbers
  pub room_for_span : vec_len spans < vec_capacity spans
  pub room_for_places : vec_len places + 512 ≤ vec_capacity places
  pub room_for_words : vec_len words + 512 ≤ vec_capacity words

-- the words of that frame that have come, and room for the others
pub record AreOpen (applied root : ℕ) (numbers : Vec ℕ) (spans : Vec Span) (places words coming : Vec ℕ) (number : ℕ) : Type 0 where
  pub open_for : HasRoom applied root numbers spans places words number
  pub few : length coming.items ≤ 512
  pub fit : All (λ word. word < 2 ^ 64) coming.items
  pub room : 512 ≤ vec_capacity coming
