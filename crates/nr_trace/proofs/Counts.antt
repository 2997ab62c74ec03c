-- What bytes that spell the counts say of the number of events and of the start's frames, and what those of a dump's head say.
use Rattle.std.proofs.Common.{◌≡◌, ◌⊎◌, inl, inr, ℕ, ◌^◌, ◌<◌, ◌≤◌, List, [], ◌++◌, drop, sym, ap, ◌∙◌, arith}
use Rattle.std.specs.Int.{w8, w16, w32, w64, to_be_bytes, from_be_bytes}
use Rattle.std.proofs.lemmas.Nat.{from_be_bytes-to_be_bytes_4}
use Rattle.nr_trace.specs.Versions.{most_start}
use Rattle.nr_trace.specs.Spelling.{start_count}
use Rattle.nr_trace.specs.inside.Reading.{SpellsCounts, SpellsHead}
use Rattle.nr_trace.specs.declared.formats.version.Version.{Version}
use Rattle.nr_trace.specs.declared.formats.version.Version.TheVariants.{Segment}
use Rattle.nr_trace.specs.declared.formats.fields.Counts.{Counts}
use Rattle.nr_trace.specs.declared.formats.fields.DumpHead.{DumpHead}
use Rattle.nr_trace.proofs.LawsOfUnits.{few_of, number_32, number_64}

abbrev pub counts_bytes : ℕ → ℕ → ℕ → ℕ → ℕ → ℕ → List ℕ → List ℕ
counts_bytes levels replicas threads tables places events rest =
    to_be_bytes w8 levels ++ (to_be_bytes w8 replicas ++
    (to_be_bytes w16 threads ++ (to_be_bytes w16 tables ++ (to_be_bytes w32 places ++ (to_be_bytes w32 events ++ rest)))))

pub events_are : (bytes : List ℕ) (levels replicas threads tables places events : ℕ) (rest : List ℕ)
    → bytes ≡ counts_bytes levels replicas threads tables places events rest → events < 2 ^ 32
    → (version : Version) (numbers : Counts) → SpellsCounts version bytes numbers → events ≡ numbers.events
events_are bytes levels replicas threads tables places events rest parts fits version numbers spells =
    let one : from_be_bytes w32 (to_be_bytes w32 events ++ rest) ≡ from_be_bytes w32 (to_be_bytes w32 numbers.events) =
    ap (λ (l : List ℕ). from_be_bytes w32 (drop 10 l)) (sym parts ∙ spells.spelled) in
    sym (from_be_bytes-to_be_bytes_4 events fits) ∙ one ∙ from_be_bytes-to_be_bytes_4 numbers.events (omega (arith, spells.in_range.few_events))

-- a start has as many frames as the version knows, where the counts spell its number
pub start_few : (version : Version) (bytes : List ℕ) (levels replicas threads tables places events start : ℕ) (rest : List ℕ)
    → bytes ≡ counts_bytes levels replicas threads tables places events rest → rest ≡ start_count version start → start < 2 ^ 32
    → (version ≡ Segment) ⊎ (start ≡ 0) → (numbers : Counts) → SpellsCounts version bytes numbers → start ≤ most_start version
start_few Segment bytes levels replicas threads tables places events start rest parts is fits segment numbers spells =
    let one : from_be_bytes w32 (to_be_bytes w32 start) ≡ from_be_bytes w32 (to_be_bytes w32 numbers.start) =
    ap (λ (l : List ℕ). from_be_bytes w32 (drop 14 l))
    (sym (parts ∙ ap (counts_bytes levels replicas threads tables places events) is) ∙ spells.spelled) in
    let same : start ≡ numbers.start = sym (from_be_bytes-to_be_bytes_4 start fits) ∙ one
    ∙ from_be_bytes-to_be_bytes_4 numbers.start (omega (arith, spells.in_range.few_start)) in
    omega (arith, same, spells.in_range.few_start)
start_few _ bytes levels replicas threads tables places events start rest parts is fits (inr none) numbers spells = omega (arith, none)
start_few _ bytes levels replicas threads tables places events start rest parts is fits (inl segment) numbers spells = absurd cc

-- the head that the bytes spell has these numbers
pub head_is : (version : Version) (bytes : List ℕ) (applied frames root : ℕ) (rest : List ℕ)
    → bytes ≡ to_be_bytes w32 applied ++ (to_be_bytes w32 frames ++ (to_be_bytes w64 root ++ rest)) → applied < 2 ^ 32 → frames < 2 ^ 32 → root < 2 ^ 64
    → (head : DumpHead) → SpellsHead version bytes head → (applied ≡ head.applied) × (frames ≡ head.frames) × (root ≡ head.root)
head_is version bytes applied frames root rest parts a f r head spells =
    let few : head.frames < 2 ^ 32 = omega (arith, spells.in_range.few_frames, few_of version) in
    let one = number_32 applied head.applied _ _ a spells.in_range.applied (sym parts ∙ spells.spelled) in
    let two = number_32 frames head.frames _ _ f few one.1 in
    let three = number_64 root head.root rest [] r spells.in_range.root two.1 in
    (one.0, two.0, three.0)

-- no head has no frames and else a number that is not 0
pub nothing_then : (version : Version) (bytes : List ℕ) (applied frames root : ℕ) (rest : List ℕ)
    → bytes ≡ to_be_bytes w32 applied ++ (to_be_bytes w32 frames ++ (to_be_bytes w64 root ++ rest)) → applied < 2 ^ 32 → frames < 2 ^ 32 → root < 2 ^ 64
    → frames ≡ 0 → (head : DumpHead) → SpellsHead version bytes head → (applied ≡ 0) × (root ≡ 0)
nothing_then version bytes applied frames root rest parts a f r none head spells =
    let same = head_is version bytes applied frames root rest parts a f r head spells in
    let nothing = spells.in_range.nothing (sym same.1 ∙ none) in
    (same.0 ∙ nothing.0, same.2 ∙ nothing.1)
