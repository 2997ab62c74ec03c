-- The entries that a walk reads, table by table.
use Rattle.std.proofs.Common.{◌≡◌, ℕ, zero, suc, ◌-◌, ◌<◌, List, [], ◌∷◌, ◌++◌, Some, None, refl, sym, ap, subst, ◌∙◌, append_assoc, slice_index, arith}
use Rattle.std.specs.FinMap as finite
use Rattle.vs_types.specs.Depth.{index_at}
use Rattle.vs_types.specs.Entry.{meaning}
use Rattle.vs_types.specs.declared.entries.entry.Meaning.{Meaning}
use Rattle.vs_types.specs.declared.entries.entry.Meaning.TheVariants as entry
use Rattle.vs_types.specs.declared.addresses.page.Rights.{Rights}
use Rattle.vs_walk.specs.Memory.{Memory}
use Rattle.nr_explain.specs.Facts.{behind, entries_read, entry_for, of_frame}
use Rattle.nr_explain.specs.declared.trace.evidence.TableEntry.{TableEntry}
use Rattle.nr_explain.proofs.Ways.{lower}

pub read_nowhere : (memory : Memory) (level number address : ℕ) → level ≡ 0 → entries_read memory level number address ≡ []
unfolding entries_read
read_nowhere memory zero number address is = refl
read_nowhere memory (suc level) number address is = absurd (omega arith)

-- what is read of the words of a frame
abbrev from_words : Memory → ℕ → ℕ → ℕ → List ℕ → List TableEntry
from_words memory below number address words =
    entry_for (suc below) number address words
    ∷ behind (λ next. entries_read memory below next address) (meaning (suc below) (slice_index words (index_at (suc below) address)))

pub read_missing : (memory : Memory) (level number address : ℕ) → finite.get memory number ≡ None → entries_read memory level number address ≡ []
unfolding entries_read
read_missing memory zero number address is = refl
read_missing memory (suc below) number address is = ap (of_frame (from_words memory below number address)) is

read_found : (memory : Memory) (below number address : ℕ) (words : List ℕ) → finite.get memory number ≡ Some words
    → entries_read memory (suc below) number address ≡ from_words memory below number address words
unfolding entries_read
read_found memory below number address words is = ap (of_frame (from_words memory below number address)) is

abbrev pub step_at : ℕ → ℕ → ℕ → ℕ → TableEntry
step_at level number index word = record { level = level; frame = number; index = index; word = word }

-- at an entry, by its word as it was read
pub read_at : (memory : Memory) (level number index word address : ℕ) (words : List ℕ) (found : Meaning) → 0 < level → finite.get memory number ≡ Some words
    → index ≡ index_at level address → word ≡ slice_index words index → found ≡ meaning level word
    → entries_read memory level number address ≡ step_at level number index word ∷ behind (λ next. entries_read memory (level - 1) next address) found
read_at memory zero number index word address words found some is place read means = absurd (omega arith)
read_at memory (suc below) number index word address words found some is place read means =
    let Reads : ℕ → ℕ → Meaning → ℕ → Type 0 = λ i w f b. entries_read memory (suc below) number address
    ≡ step_at (suc below) number i w ∷ behind (λ next. entries_read memory b next address) f in
    let by_index = subst (λ i. Reads i (slice_index words i) (meaning (suc below) (slice_index words i)) below) (sym place)
    (read_found memory below number address words is) in
    let by_word = subst (λ w. Reads index w (meaning (suc below) w) below) (sym read) by_index in
    let by_meaning = subst (λ f. Reads index word f below) (sym means) by_word in
    subst (λ b. Reads index word found b) (lower below) by_meaning

-- nothing is read behind an entry that leads to no table
nothing_behind : (below : ℕ → List TableEntry) (found : Meaning) → ((next : ℕ) (own : Rights) → found ≡ entry.Table next own → ⊥) → behind below found ≡ []
nothing_behind below (entry.Table next own) none = absurd (none next own refl)
nothing_behind below _ none = refl

pub read_last : (memory : Memory) (level number index word address : ℕ) (words : List ℕ) (found : Meaning) (read : List TableEntry) → 0 < level
    → finite.get memory number ≡ Some words → index ≡ index_at level address → word ≡ slice_index words index → found ≡ meaning level word
    → ((next : ℕ) (own : Rights) → found ≡ entry.Table next own → ⊥)
    → read ++ step_at level number index word ∷ [] ≡ read ++ entries_read memory level number address
read_last memory level number index word address words found read some is place at means none =
    ap (λ (l : List TableEntry). read ++ l) (sym (read_at memory level number index word address words found some is place at means
    ∙ ap (λ (l : List TableEntry). step_at level number index word ∷ l) (nothing_behind (λ next. entries_read memory (level - 1) next address) found none)))

pub read_more : (memory : Memory) (level number index word address next : ℕ) (own : Rights) (words : List ℕ) (found : Meaning) (read more : List TableEntry)
    → 0 < level
    → finite.get memory number ≡ Some words → index ≡ index_at level address → word ≡ slice_index words index → found ≡ meaning level word
    → found ≡ entry.Table next own → more ≡ (read ++ step_at level number index word ∷ []) ++ entries_read memory (level - 1) next address
    → more ≡ read ++ entries_read memory level number address
read_more memory level number index word address next own words found read more some is place at means table goes =
    goes ∙ append_assoc read (step_at level number index word ∷ []) (entries_read memory (level - 1) next address)
    ∙ ap (λ (l : List TableEntry). read ++ l) (sym (read_at memory level number index word address words found some is place at means
    ∙ ap (λ (f : Meaning). step_at level number index word ∷ behind (λ next. entries_read memory (level - 1) next address) f) table))
