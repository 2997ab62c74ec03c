-- The words of a table one after another.
use Rattle.std.proofs.Common.{◌≡◌, ℕ, zero, suc, ◌+◌, ◌-◌, ◌*◌, ◌<◌, ◌≤◌, List, [], ◌∷◌, ◌++◌, Some, None, length, get_or, take, drop, flat_map, sym, ap, subst}
use Rattle.std.proofs.Common.{◌∙◌, arith, drop-cons, add-one}
use Rattle.std.specs.FinMap as finite
use Rattle.std.specs.List.{enumerate_from}
use Rattle.std.proofs.Math.Seq.{take-suc}
use Rattle.std.proofs.lemmas.List.{append_assoc, append-nil, take-append-drop, take_all, length-take}
use Rattle.std.proofs.lemmas.Grind.{flat_map-append}
use Rattle.vs_types.specs.Format.{Format, IsFormat}
use Rattle.vs_types.specs.declared.entries.kind.EntryKind.{EntryKind}
use Rattle.vs_types.specs.declared.entries.kind.EntryKind.TheVariants as entry
use Rattle.vs_walk.specs.Memory.{Memory}
use Rattle.vs_walk.specs.InFormat.{entry_visits_in, table_visits_in}
use Rattle.vs_walk.specs.Traversal.{VisitOf, OfFrame, TableOf}
use Rattle.vs_types.specs.Depth.{entry_bytes}
use Rattle.vs_types.specs.Refusal.{IfRefused}
use Rattle.vs_types.specs.declared.requests.refusal.Fail.{Fail}
use Rattle.vs_types.specs.declared.requests.refusal.Fail.TheVariants as fails
use Rattle.vs_walk.specs.declared.traversal.TablePosition.{TablePosition}
use Rattle.vs_walk.specs.inside.Traversed.{table_at}
use Rattle.vs_walk.specs.inside.Traversed.{AreZeros, GoesOn, Stops, TakesFound}
use Rattle.vs_walk.specs.declared.walk.WalkFault.{WalkFault}
use Rattle.vs_walk.proofs.TraversalVisits.{goes_on, stops_later, stops_before, takes_both}
use Rattle.vs_walk.proofs.InFormat.{table_met_in, missing_met_in}

-- what is met at a word of a table of this level
abbrev pub met_at : {R P : Type 0} → Format R P → Memory → ℕ → TableOf R → ℕ × ℕ → List (VisitOf P)
met_at f memory level table place = entry_visits_in f level table place.0 (λ next. table_visits_in f memory (level - 1) next) (f.kind level place.1)

-- what is met from the frame of a table up to the word of this index
abbrev pub met_up_to : {R P : Type 0} → Format R P → Memory → ℕ → TableOf R → List ℕ → ℕ → List (VisitOf P)
met_up_to f memory level table words index = OfFrame table.number ∷ flat_map (met_at f memory level table) (enumerate_from 0 (take index words))

abbrev met_from : {R P : Type 0} → Format R P → Memory → ℕ → TableOf R → List ℕ → ℕ → List (VisitOf P)
met_from f memory level table words index = flat_map (met_at f memory level table) (enumerate_from index (drop index words))

enumerate_both : {X : Type 0} (from : ℕ) (xs ys : List X) → enumerate_from from (xs ++ ys) ≡ enumerate_from from xs ++ enumerate_from (from + length xs) ys
enumerate_both from [] ys = ap (λ n. enumerate_from n ys) (omega arith)
enumerate_both from (x ∷ xs) ys = ap (λ rest. (from, x) ∷ rest)
    (enumerate_both (from + 1) xs ys ∙ ap (λ n. enumerate_from (from + 1) xs ++ enumerate_from n ys) (omega arith))

words_met : {X : Type 0} (f : ℕ × ℕ → List X) (words : List ℕ) (index : ℕ) → index ≤ length words
    → flat_map f (enumerate_from 0 words) ≡ flat_map f (enumerate_from 0 (take index words)) ++ flat_map f (enumerate_from index (drop index words))
words_met f words index within =
    ap (λ ws. flat_map f (enumerate_from 0 ws)) (sym (take-append-drop index words))
    ∙ ap (flat_map f) (enumerate_both 0 (take index words) (drop index words)
    ∙ ap (λ n. enumerate_from 0 (take index words) ++ enumerate_from n (drop index words)) (omega (arith, length-take index words)))
    ∙ flat_map-append f (enumerate_from 0 (take index words)) (enumerate_from index (drop index words))

next_met : {X : Type 0} (f : ℕ × ℕ → List X) (words : List ℕ) (index : ℕ) → index < length words
    → flat_map f (enumerate_from index (drop index words)) ≡ f (index, get_or words index 0) ++ flat_map f (enumerate_from (index + 1) (drop (index + 1) words))
next_met f words index within = ap (λ ws. flat_map f (enumerate_from index ws))
    (drop-cons words index 0 within ∙ ap (λ n. get_or words index 0 ∷ drop n words) (sym (add-one index)))

table_is : {R P : Type 0} (f : Format R P) (memory : Memory) (level : ℕ) (table : TableOf R) (words : List ℕ) → 1 ≤ level → finite.get memory table.number
    ≡ Some words
    → table_visits_in f memory level table ≡ OfFrame table.number ∷ flat_map (met_at f memory level table) (enumerate_from 0 words)
table_is f memory zero table words some is = absurd (omega arith)
table_is f memory (suc level) table words some is =
    table_met_in f memory level table words is
    ∙ ap (λ below. OfFrame table.number ∷ flat_map (λ place. entry_visits_in f (suc level) table place.0 (λ next. table_visits_in f memory below next)
    (f.kind (suc level) place.1)) (enumerate_from 0 words)) (omega arith)

-- a table that is missing is all that is met
pub missing_is : {R P : Type 0} (f : Format R P) (memory : Memory) (level : ℕ) (table : TableOf R) → 1 ≤ level → finite.get memory table.number ≡ None
    → table_visits_in f memory level table ≡ OfFrame table.number ∷ []
missing_is f memory zero table some is = absurd (omega arith)
missing_is f memory (suc level) table some is = missing_met_in f memory level table is

-- a table begins with its frame
pub begun : {R P : Type 0} (f : Format R P) (memory : Memory) (level : ℕ) (table : TableOf R) (words : List ℕ) → 1 ≤ level → finite.get memory table.number
    ≡ Some words
    → table_visits_in f memory level table ≡ (OfFrame table.number ∷ []) ++ flat_map (met_at f memory level table) (enumerate_from 0 words)
begun = table_is

-- the visits of a table are those up to a word, those at it and those after
pub divided : {R P : Type 0} (f : Format R P) (memory : Memory) (level : ℕ) (table : TableOf R) (words : List ℕ) (index : ℕ) → 1 ≤ level
    → finite.get memory table.number ≡ Some words → index < length words
    → table_visits_in f memory level table ≡ (met_up_to f memory level table words index ++ met_at f memory level table (index, get_or words index 0))
    ++ met_from f memory level table words (index + 1)
divided f memory level table words index some is within =
    table_is f memory level table words some is
    ∙ ap (λ ms. OfFrame table.number ∷ ms)
    (words_met (met_at f memory level table) words index (omega arith)
    ∙ ap (λ ms. flat_map (met_at f memory level table) (enumerate_from 0 (take index words)) ++ ms)
    (next_met (met_at f memory level table) words index within))
    ∙ sym (append_assoc (met_up_to f memory level table words index) (met_at f memory level table (index, get_or words index 0))
    (met_from f memory level table words (index + 1)))

-- those up to the next word
pub one_more : {R P : Type 0} (f : Format R P) (memory : Memory) (level : ℕ) (table : TableOf R) (words : List ℕ) (index : ℕ) → index < length words
    → met_up_to f memory level table words (index + 1) ≡ met_up_to f memory level table words index ++ met_at f memory level table
    (index, get_or words index 0)
one_more f memory level table words index within =
    let at = met_at f memory level table in
    let w = get_or words index 0 in
    let long : 0 + length (take index words) ≡ index = omega (arith, length-take index words) in
    ap (λ ws. OfFrame table.number ∷ flat_map at (enumerate_from 0 ws)) (ap (λ n. take n words) (add-one index) ∙ take-suc words index 0 within)
    ∙ ap (λ ps. OfFrame table.number ∷ flat_map at ps) (enumerate_both 0 (take index words) (w ∷ []))
    ∙ ap (λ ms. OfFrame table.number ∷ ms) (flat_map-append at (enumerate_from 0 (take index words)) (enumerate_from (0 + length (take index words)) (w ∷ [])))
    ∙ ap (λ n. met_up_to f memory level table words index ++ (at (n, w) ++ [])) long
    ∙ ap (λ ms. met_up_to f memory level table words index ++ ms) (append-nil (at (index, w)))

-- a word that is 0 meets nothing
zero_met : {R P : Type 0} (f : Format R P) → IsFormat f → (memory : Memory) (level : ℕ) (table : TableOf R) (index word : ℕ) → word ≡ 0
    → met_at f memory level table (index, word) ≡ []
zero_met f is memory level table index word none = ap (entry_visits_in f level table index (λ next. table_visits_in f memory (level - 1) next))
    (ap (f.kind level) none ∙ is.empty level)

so_many_zeros : {R P : Type 0} (f : Format R P) → IsFormat f → (memory : Memory) (level : ℕ) (table : TableOf R) (words : List ℕ) (from count : ℕ)
    → from + count ≤ length words
    → AreZeros words from (from + count)
    → met_up_to f memory level table words (from + count) ≡ met_up_to f memory level table words from
so_many_zeros f is memory level table words from zero within zeros = ap (met_up_to f memory level table words) (omega arith)
so_many_zeros f is memory level table words from (suc count) within zeros =
    let last = from + count in
    let next : from + suc count ≡ last + 1 = omega arith in
    let none : get_or words last 0 ≡ 0 = zeros last (omega arith) (omega arith) in
    ap (met_up_to f memory level table words) next
    ∙ one_more f memory level table words last (omega (arith, within))
    ∙ ap (λ ms. met_up_to f memory level table words last ++ ms) (zero_met f is memory level table last (get_or words last 0) none)
    ∙ append-nil (met_up_to f memory level table words last)
    ∙ so_many_zeros f is memory level table words from count (omega (arith, within)) (λ i low high. zeros i low (omega (arith, high)))

-- zeros meet nothing
pub zeros_met : {R P : Type 0} (f : Format R P) → IsFormat f → (memory : Memory) (level : ℕ) (table : TableOf R) (words : List ℕ) (from to : ℕ) → from ≤ to
    → to ≤ length words
    → AreZeros words from to
    → met_up_to f memory level table words to ≡ met_up_to f memory level table words from
zeros_met f is memory level table words from to up within zeros =
    let behind : from + (to - from) ≡ to = omega (arith, up) in
    ap (met_up_to f memory level table words) (sym behind)
    ∙ so_many_zeros f is memory level table words from (to - from) (omega (arith, behind, within)) (subst (AreZeros words from) (sym behind) zeros)

-- those up to the end
pub all_met : {R P : Type 0} (f : Format R P) (memory : Memory) (level : ℕ) (table : TableOf R) (words : List ℕ) (index : ℕ) → 1 ≤ level
    → finite.get memory table.number ≡ Some words → length words ≤ index
    → table_visits_in f memory level table ≡ met_up_to f memory level table words index
all_met f memory level table words index some is past =
    table_is f memory level table words some is ∙ ap (λ ws. OfFrame table.number ∷ flat_map (met_at f memory level table) (enumerate_from 0 ws))
    (sym (take_all index words past))

-- what is met at a word, by what the word means
pub means : {R P : Type 0} (f : Format R P) (memory : Memory) (level : ℕ) (table : TableOf R) (index word : ℕ) (says : EntryKind R) → f.kind level word ≡ says
    → met_at f memory level table (index, word) ≡ entry_visits_in f level table index (λ next. table_visits_in f memory (level - 1) next) says
means f memory level table index word says is = ap (entry_visits_in f level table index (λ next. table_visits_in f memory (level - 1) next)) is

-- what is met at an entry that leads to a table
pub leads_below : {R P : Type 0} (f : Format R P) (memory : Memory) (place below : TablePosition R) (index word number : ℕ) (own : R)
    → f.kind place.level word ≡ entry.Table number own → below.level ≡ place.level - 1
    → table_at below ≡ record { number = number; start = place.start + index * entry_bytes place.level; rights = f.both place.rights own }
    → met_at f memory place.level (table_at place) (index, word) ≡ table_visits_in f memory below.level (table_at below)
leads_below f memory place below index word number own is level stands =
    means f memory place.level (table_at place) index word (entry.Table number own) is
    ∙ ap (table_visits_in f memory (place.level - 1)) (sym stands)
    ∙ ap (λ n. table_visits_in f memory n (table_at below)) (sym level)

-- a refusal of one kind is a refusal of another
pub refused_at : {E : Type 0} {P Q : E → Type 0} (fail : Fail E) → ((fault : E) → P fault → Q fault) → IfRefused P fail → IfRefused Q fail
refused_at fails.Memory to is = tt
refused_at (fails.Refused fault) to is = to fault is

-- what is met up to a word and then at it, where only zeros are between it and the next one
pub goes_to_next : {R P : Type 0} (f : Format R P) (memory : Memory) (level : ℕ) (table : TableOf R) (words : List ℕ) (index next : ℕ) (a b c : List ℕ)
    (ms : List (VisitOf P))
    → index < length words → met_up_to f memory level table words next ≡ met_up_to f memory level table words (index + 1)
    → met_at f memory level table (index, get_or words index 0) ≡ ms → GoesOn memory a b (met_up_to f memory level table words index)
    → GoesOn memory b c ms
    → GoesOn memory a c (met_up_to f memory level table words next)
goes_to_next f memory level table words index next a b c ms within passed is left right =
    subst (GoesOn memory a c) (sym (passed ∙ one_more f memory level table words index within
    ∙ ap (λ ns. met_up_to f memory level table words index ++ ns) is))
    (goes_on memory a b c (met_up_to f memory level table words index) ms left right)

pub takes_to_next : {R P V : Type 0} (HasTaken : V → List P → Type 0) (f : Format R P) (memory : Memory) (level : ℕ) (table : TableOf R) (words : List ℕ)
    (index next : ℕ) (u v w : V) (ms : List (VisitOf P)) → index < length words
    → met_up_to f memory level table words next ≡ met_up_to f memory level table words (index + 1)
    → met_at f memory level table (index, get_or words index 0) ≡ ms
    → TakesFound (HasTaken u) (HasTaken v) (met_up_to f memory level table words index) → TakesFound (HasTaken v) (HasTaken w) ms
    → TakesFound (HasTaken u) (HasTaken w) (met_up_to f memory level table words next)
takes_to_next HasTaken f memory level table words index next u v w ms within passed is left right =
    subst (TakesFound (HasTaken u) (HasTaken w)) (sym (passed ∙ one_more f memory level table words index within
    ∙ ap (λ ns. met_up_to f memory level table words index ++ ns) is))
    (takes_both HasTaken u v w (met_up_to f memory level table words index) ms left right)

pub stops_at_word : {R P : Type 0} (f : Format R P) (memory : Memory) (level : ℕ) (table : TableOf R) (words : List ℕ) (index : ℕ) (a b : List ℕ)
    (ms : List (VisitOf P))
    (fault : WalkFault) → 1 ≤ level
    → finite.get memory table.number ≡ Some words → index < length words
    → met_at f memory level table (index, get_or words index 0) ≡ ms → GoesOn memory a b (met_up_to f memory level table words index)
    → Stops memory b ms fault
    → Stops memory a (table_visits_in f memory level table) fault
stops_at_word f memory level table words index a b ms fault some is within met left right =
    subst (λ ns. Stops memory a ns fault) (sym (divided f memory level table words index some is within))
    (stops_before memory a (met_up_to f memory level table words index ++ met_at f memory level table (index, get_or words index 0))
    (met_from f memory level table words (index + 1)) fault
    (subst (λ ns. Stops memory a (met_up_to f memory level table words index ++ ns) fault) (sym met)
    (stops_later memory a b (met_up_to f memory level table words index) ms fault left right)))
