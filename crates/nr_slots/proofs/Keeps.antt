-- Each step on a slot keeps the rule of the table.
use Rattle.std.proofs.Common.{◌≡◌, ◌≢◌, ℕ, zero, suc, ◌<◌, eqb, List, ◌∷◌, map, replicate, length, get_or, set, sym, refl, ap, ◌∙◌, subst, arith, length-set}
use Rattle.std.proofs.Common.{get_or-set_other, get_or-set_same}
use mathlib.Core.Logic.{dite}
use mathlib.Core.Option.{Option, none, some}
use native.Mathlib.Decide.{ℕ_discrete}
use prog.Atomic.{either}
use lib.ListN.{get_elem?}
use Rattle.atomic_table.specs.Table.{State, Me, step, keeps, takes, gives, Allows, Enters, opening, carried_after}
use Rattle.atomic_table.proofs.Lists.{set_here, set_else, exchanged}
use Rattle.nr_slots.specs.declared.slot.Slot.{Slot}
use Rattle.nr_slots.specs.declared.slot.Slot.TheVariants.{Empty}
use Rattle.nr_slots.specs.declared.state.TheConstants.{EMPTY, BUSY}
use Rattle.nr_slots.specs.inside.Kept.{Fits, AreKept, HasSlot, Lends}
use Rattle.nr_slots.specs.Updates.{Answered, Waiting}

-- the words of empty slots, and the slots
zero_there : (n i : ℕ) → i < n → get_or (replicate n EMPTY) i 0 ≡ EMPTY
zero_there zero i lt = absurd (omega arith)
zero_there (suc n) zero lt = refl
zero_there (suc n) (suc i) lt = zero_there n i (omega arith)

empty_there : (n i : ℕ) → i < n → get_elem? (map {B = Option Slot} some (replicate n Empty)) i ≡ some (some Empty)
empty_there zero i lt = absurd (omega arith)
empty_there (suc n) zero lt = refl
empty_there (suc n) (suc i) lt = empty_there n i (omega arith)

as_long : (n : ℕ) → length (replicate n EMPTY) ≡ length (map {B = Option Slot} some (replicate n Empty))
as_long zero = refl
as_long (suc n) = ap suc (as_long n)

slots_long : (n : ℕ) → length (map {B = Option Slot} some (replicate n Empty)) ≡ n
slots_long zero = refl
slots_long (suc n) = ap suc (slots_long n)

module _ (Waits : Waiting → Type 0) (Answers : Answered → Type 0) where
  pub begins : (n : ℕ) (words : List ℕ) (slots : List Slot) → words ≡ replicate n EMPTY → slots ≡ replicate n Empty
      → AreKept Waits Answers (opening words slots tt)
  begins n words slots are_words are_slots =
      subst (λ (z : List ℕ × List Slot). AreKept Waits Answers (opening z.0 z.1 tt)) (λ i. (sym are_words i, sym are_slots i))
      (as_long n, λ thread lt free. let here : thread < n = omega (arith, slots_long n) in (Empty, empty_there n thread here, zero_there n thread here, tt))

  -- a slot goes out with the seat that makes its word busy, and the others stay as they are
  pub claims : (n id : ℕ) (me : Me Slot (Unit {0})) (place word : ℕ) → place < n → word ≢ BUSY
      → Allows (AreKept Waits Answers) n id me place (λ y. either (eqb y word) BUSY y) (Lends Waits Answers (step n place word BUSY none) me)
  claims n id me place word within free s kept wide at small =
      let y : ℕ = get_or s.words place 0 in
      let Goes : ℕ → Type 0 = λ z. (w : Unit {0}) × (a : _) × Rattle.atomic_table.specs.Table.Valid s.homes me.1 a
      × AreKept Waits Answers (Rattle.atomic_table.specs.Table.stepped s place z id me.1 w a)
      × Lends Waits Answers (step n place word BUSY none) me y (w, carried_after me.1 a) in
      exchanged y word BUSY Goes
      (λ hit.
      let here = kept.1 place (omega arith) (λ busy. free (sym hit ∙ busy)) in
      let slot : Slot = here.0 in (
        tt,
        takes place slot,
        here.1,
        (
          length-set s.words place BUSY ∙ kept.0 ∙ sym (length-set s.homes place none),
          λ thread lt loose. dite (ℕ_discrete thread place)
              (λ same. absurd (loose (ap (λ (i : ℕ). get_or (set s.words place BUSY) i 0) same ∙ get_or-set_same s.words place BUSY 0 (omega (arith, kept.0)))))
              (λ other.
              let word_there = get_or-set_other s.words place thread BUSY 0 other in
              let there = kept.1 thread (omega (arith, length-set s.homes place none)) (λ busy. loose (word_there ∙ busy)) in
              (there.0, set_else s.homes place thread none other ∙ there.1, word_there ∙ there.2, there.3)),
        ),
        λ none_held found. (slot, ap (λ (l : List (ℕ × Slot)). (place, slot) ∷ l) none_held, sym here.2 ∙ hit, here.3),
      ))
      (λ miss. (
        tt,
        keeps,
        tt,
        (
          length-set s.words place y ∙ kept.0,
          λ thread lt loose. dite (ℕ_discrete thread place)
              (λ same.
              let is : get_or (set s.words place y) thread 0 ≡ get_or s.words thread 0 =
              ap (λ (i : ℕ). get_or (set s.words place y) i 0) same ∙ get_or-set_same s.words place y 0 (omega (arith, kept.0))
              ∙ ap (λ (i : ℕ). get_or s.words i 0) (sym same) in
              let there = kept.1 thread lt (λ busy. loose (is ∙ busy)) in
              (there.0, there.1, is ∙ there.2, there.3))
              (λ other.
              let is = get_or-set_other s.words place thread y 0 other in
              let there = kept.1 thread lt (λ busy. loose (is ∙ busy)) in
              (there.0, there.1, is ∙ there.2, there.3)),
        ),
        λ none_held found. absurd (miss found),
      ))

  -- a slot that fits comes back with its word
  pub gives_back : (n id : ℕ) (me : Me Slot (Unit {0})) (place word : ℕ) → place < n → HasSlot Waits Answers place word me.1
      → Allows (AreKept Waits Answers) n id me place (λ _. word) (λ _ _. Unit {0})
  gives_back n id me place word within has =
      let slot : Slot = has.0 in
      subst (λ (l : List (ℕ × Slot)). Allows (AreKept Waits Answers) n id (me.0, l) place (λ _. word) (λ _ _. Unit {0})) (sym has.1)
      (λ s kept wide at small. (
        tt,
        gives,
        tt,
        (
          length-set s.words place word ∙ kept.0 ∙ sym (length-set s.homes place (some slot)),
          λ thread lt loose. dite (ℕ_discrete thread place)
              (λ same. (
                slot,
                ap (λ (i : ℕ). get_elem? (set s.homes place (some slot)) i) same ∙ set_here s.homes place (some slot) (omega arith),
                ap (λ (i : ℕ). get_or (set s.words place word) i 0) same ∙ get_or-set_same s.words place word 0 (omega (arith, kept.0)) ∙ sym has.2,
                subst (λ (i : ℕ). Fits Waits Answers i slot) (sym same) has.3,
              ))
              (λ other.
              let is = get_or-set_other s.words place thread word 0 other in
              let there = kept.1 thread (omega (arith, length-set s.homes place (some slot))) (λ busy. loose (is ∙ busy)) in
              (there.0, set_else s.homes place thread (some slot) other ∙ there.1, is ∙ there.2, there.3)),
        ),
        tt,
      ))
