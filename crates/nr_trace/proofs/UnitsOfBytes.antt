-- What the bytes of a unit spell: there is one value that they may spell, and it can be decided whether they do.
use Rattle.std.proofs.Common.{◌≡◌, ◌≢◌, ℕ, zero, suc, ◌*◌, ◌^◌, ◌<◌, ◌⊎◌, inl, inr, List, [], ◌∷◌, ◌++◌, length, take, drop, get_or, All}
use Rattle.std.proofs.Common.{Option, refl, ap, sym, ◌∙◌, subst, arith}
use Rattle.std.specs.Prelude.{flat_map, ⊤}
use Rattle.std.specs.List.{AllByRecursion}
use Rattle.std.specs.Int.{w32, w64, to_be_bytes, from_be_bytes}
use Rattle.std.proofs.lemmas.Nat.{be_bytes_4, be_bytes_8, from_be_bytes-to_be_bytes_8}
use Rattle.std.proofs.lemmas.List.{take-append-drop, nil_from_length, length-drop, length-take}
use Rattle.std.proofs.lemmas.List.Elements.{recursion_from_All, All-from_recursion, All-take, All-drop}
use Rattle.vs_types.specs.Config.{Layout}
use Rattle.vs_types.specs.Frame.{IsFrame}
use Rattle.nr_trace.specs.Recording.{IsEvent}
use Rattle.nr_trace.specs.Spelling.{version_word, counts, log_word, event, dump_head, frame_number, frame_words}
use Rattle.nr_trace.specs.Versions.{IsVersionOf}
use Rattle.nr_trace.specs.FirstFault.{IsCounts, IsDumpHead, IsNext, magic_of}
use Rattle.nr_trace.specs.declared.formats.version.Version.{Version}
use Rattle.nr_trace.specs.declared.formats.version.Form.{Form}
use Rattle.nr_trace.proofs.Known.{Known, below, both, same_bytes, version_known, event_known, counts_known, head_known, next_known}
use Rattle.nr_trace.proofs.LawsOfUnits.{IsWide, version_from, version_back, counts_from, counts_back, head_from, head_back}
use Rattle.nr_trace.proofs.EventsApart.{event_from, event_back}

-- the unit spells a value that fits, or none
abbrev pub IsTold : {A : Type 0} → (A → Type 0) → (A → List ℕ) → List ℕ → Type 0
IsTold {A} Fits spelled unit = ((value : A) × Fits value × (unit ≡ spelled value)) ⊎ ((value : A) → Fits value → unit ≢ spelled value)

-- so it is where the bytes of each value give it back, and it is known what fits
told : {A : Type 0} (Fits : A → Type 0) (spelled : A → List ℕ) (from : List ℕ → A) → ((value : A) → Fits value → from (spelled value) ≡ value)
    → ((value : A) → Known (Fits value)) → (unit : List ℕ) → IsTold Fits spelled unit
told {A} Fits spelled from back known unit = by_test (both (known (from unit)) (same_bytes unit (spelled (from unit)))) where
  by_test : Known (Fits (from unit) × (unit ≡ spelled (from unit))) → IsTold Fits spelled unit
  by_test (inl h) = inl (from unit, h.0, h.1)
  by_test (inr none) = inr (λ value fits e. none (subst (λ (a : A). Fits a × (unit ≡ spelled a)) (sym (ap from e ∙ back value fits)) (fits, e)))

-- ---- the header

pub magic_told : (form : Form) (unit : List ℕ) → IsTold {A = Unit {0}} (λ _. ⊤) (λ _. magic_of form) unit
magic_told form = told {A = Unit {0}} (λ _. ⊤) (λ _. magic_of form) (λ _. tt) (λ _ _. refl) (λ _. inl tt)

pub version_told : (form : Form) (unit : List ℕ) → IsTold (IsVersionOf form) version_word unit
version_told form = told (IsVersionOf form) version_word (version_from form) (version_back form) (version_known form)

pub counts_told : (version : Version) (unit : List ℕ) → IsTold (IsCounts version) (counts version) unit
counts_told version = told (IsCounts version) (counts version) (counts_from version) (counts_back version) (counts_known version)

-- ---- events

pub event_told : (version : Version) (layout : Layout) → IsWide layout → (unit : List ℕ) → IsTold (IsEvent version layout) event unit
event_told version layout l = told (IsEvent version layout) event event_from (event_back version layout l) (event_known version layout)

-- ---- dumps

pub head_told : (version : Version) (unit : List ℕ) → IsTold (IsDumpHead version) dump_head unit
head_told version = told (IsDumpHead version) dump_head head_from (head_back version) (head_known version)

pub number_told : (before : Option ℕ) (unit : List ℕ) → IsTold (IsNext before) frame_number unit
number_told before = told (IsNext before) frame_number (from_be_bytes w64) (λ number h. from_be_bytes-to_be_bytes_8 number (omega (arith, h.in_range)))
    (next_known before)

-- ---- places and words, which all bytes spell

abbrev pub AreBytes : List ℕ → Type 0
AreBytes bytes = All (λ byte. byte < 256) bytes

pub bytes_from : (bytes : List ℕ) → AllByRecursion (λ byte. byte < 256) bytes → (i : ℕ) → get_or bytes i 0 < 256
bytes_from [] all i = omega arith
bytes_from (byte ∷ bytes) all zero = all.0
bytes_from (byte ∷ bytes) all (suc i) = bytes_from bytes all.1 i

byte_at : (bytes : List ℕ) → AreBytes bytes → (i : ℕ) → get_or bytes i 0 < 256
byte_at bytes all = bytes_from bytes (recursion_from_All (λ byte. byte < 256) bytes all)

pub place_told : (unit : List ℕ) → AreBytes unit → length unit ≡ 4 → (call : ℕ) × (call < 2 ^ 32) × (unit ≡ log_word call)
place_told unit all long =
    let at = byte_at unit all in
    (from_be_bytes w32 unit, omega (arith, at 0, at 1, at 2, at 3), sym (be_bytes_4 unit (from_be_bytes w32 unit) long at refl))

pub word_told : (unit : List ℕ) → AreBytes unit → length unit ≡ 8 → (word : ℕ) × (word < 2 ^ 64) × (unit ≡ to_be_bytes w64 word)
word_told unit all long =
    let at = byte_at unit all in
    (from_be_bytes w64 unit, omega (arith, at 0, at 1, at 2, at 3, at 4, at 5, at 6, at 7), sym (be_bytes_8 unit (from_be_bytes w64 unit) long at refl))

-- the bytes spell so many words
record HasWords (many : ℕ) (bytes : List ℕ) : Type 0 where
  pub words : List ℕ
  pub count : length words ≡ many
  pub fit : AllByRecursion (λ word. word < 2 ^ 64) words
  pub spelled : bytes ≡ flat_map (to_be_bytes w64) words

has_words : (many : ℕ) (bytes : List ℕ) → AreBytes bytes → length bytes ≡ 8 * many → HasWords many bytes
has_words zero bytes all long = record { words = []; count = refl; fit = tt; spelled = nil_from_length bytes (omega arith) }
has_words (suc many) bytes all long =
    let (word, below, is) = word_told (take 8 bytes) (All-take (λ byte. byte < 256) 8 bytes all) (omega (arith, length-take 8 bytes)) in
    let rest = has_words many (drop 8 bytes) (All-drop (λ byte. byte < 256) 8 bytes all) (omega (arith, length-drop 8 bytes)) in
    record {
      words = word ∷ rest.words;
      count = ap suc rest.count;
      fit = (below, rest.fit);
      spelled = sym (take-append-drop 8 bytes) ∙ ap (λ (l : List ℕ). l ++ drop 8 bytes) is ∙ ap (λ (l : List ℕ). to_be_bytes w64 word ++ l) rest.spelled;
    }

pub words_told : (unit : List ℕ) → AreBytes unit → length unit ≡ 4096 → (words : List ℕ) × IsFrame words × (unit ≡ frame_words words)
words_told unit all long =
    let has = has_words 512 unit all long in
    (has.words, record { whole = has.count; fit = All-from_recursion (λ word. word < 2 ^ 64) has.words has.fit }, has.spelled)
