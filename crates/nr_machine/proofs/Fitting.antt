-- What operations give is what a machine can take.
use Rattle.std.proofs.Common.{◌≡◌, ℕ, ◌+◌, ◌-◌, ◌/◌, ◌%◌, ◌^◌, ◌<◌, ◌≤◌, ◌==◌, nat_lt, Bool, true, false, List, refl, ap, sym, ◌∙◌, ◌⊎◌, inl, inr, arith}
use Rattle.std.proofs.lemmas.Bool.Decides.{nat_tests}
use Rattle.nr_machine.specs.declared.words.Operation.{Operation}
use Rattle.nr_machine.specs.declared.words.Operation.TheVariants.{Load, Store, Exchange, Max}
use Rattle.nr_machine.specs.declared.words.Word.TheVariants.{Head, Completed, Local, Done, First, Second}
use Rattle.nr_machine.specs.Words.{packed, told_by}
use Rattle.nr_machine.specs.Actor.{MayDo, MayLoad}
use Rattle.nr_machine.specs.Machine.{IsFit, IsHead}
use Rattle.nr_machine.specs.World.{Act, World, MayAct, Plays, maker, opening, played}
use Rattle.nr_machine.specs.World.Act.{Does}
use Rattle.nr_machine.proofs.Cases.{high, low}
use Rattle.nr_machine.proofs.Teaching.{lies_below, ring_below}
use Rattle.nr_machine.proofs.Held.{IsHeld}
use Rattle.nr_machine.proofs.Ending.{all_held}

head_fits : (nodes : ℕ) (w : World) (n : ℕ) → IsHeld nodes w → n < nodes → w.log.tail + 16 < 2 ^ 57 → IsHead nodes (w.actor n) w.words.head
head_fits nodes w n held lt end =
    let kept = held.kept in
    let k = kept.actors n lt in
    let small = kept.small w.log.tail in
    let tail : w.words.head / 128 ≡ w.log.tail = ap (λ (v : ℕ). v / 128) kept.head ∙ high w.log.tail (w.log.link w.log.tail) small in
    let last : w.words.head % 128 ≡ w.log.link w.log.tail = ap (λ (v : ℕ). v % 128) kept.head
    ∙ low w.log.tail (w.log.link w.log.tail) small in
    let link = kept.makers w.log.tail (omega (arith, lt)) in
    let near = kept.near n lt in
    let local = k.local in
    let seen = k.seen in
    (omega (arith, last, link), omega (arith, tail, seen), omega (arith, tail, near, local), omega (arith, tail, end))

-- a head that is another than the one that it saw has another tail: who had appended last is known by the tail
appended_since : (nodes : ℕ) (w : World) (n : ℕ) → IsHeld nodes w → n < nodes
    → (w.words.head ≡ packed (w.actor n).seen (w.actor n).last → ⊥)
    → (w.actor n).seen < w.words.head / 128
appended_since nodes w n held lt other = by_test (nat_lt (w.actor n).seen w.log.tail) refl where
  tail : w.words.head / 128 ≡ w.log.tail
  tail = ap (λ (v : ℕ). v / 128) held.kept.head ∙ high w.log.tail (w.log.link w.log.tail) (held.kept.small w.log.tail)

  same : w.log.tail ≡ (w.actor n).seen → w.words.head ≡ packed (w.actor n).seen (w.actor n).last
  same is = held.kept.head ∙ ap (λ (p : ℕ). packed p (w.log.link p)) is
      ∙ ap (λ (l : ℕ). packed (w.actor n).seen l) (sym (held.kept.actors n lt).last)

  by_test : (b : Bool) → nat_lt (w.actor n).seen w.log.tail ≡ b → (w.actor n).seen < w.words.head / 128
  by_test true e = let below : (w.actor n).seen < w.log.tail = grind (arith, nat_tests, e) in omega (arith, below, tail)
  by_test false e =
      let past : w.log.tail ≤ (w.actor n).seen = grind (arith, nat_tests, e) in
      let seen = (held.kept.actors n lt).seen in
      absurd (other (same (omega (arith, past, seen))))

link_fits : (nodes : ℕ) (w : World) (n r i : ℕ) → IsHeld nodes w → n < nodes → MayLoad (w.actor n) r i → w.words.second r i % 128 < nodes
link_fits nodes w n r i held lt may =
    let kept = held.kept in
    let a = w.actor n in
    let k = kept.actors n lt in
    let below = may.0 in
    let lies = lies_below nodes w.words w.log w.actor n kept lt may.0 in
    let ring = ring_below w.log a r (omega (arith, below)) (k.ring may.0) may.1 in
    let small = kept.small (a.from - 1) in
    let same : w.words.second r i ≡ packed (w.log.entry (a.from - 1)).second (w.log.link (a.from - 1)) =
    ap (λ (q : ℕ). w.words.second q i) ring ∙ ap (λ (j : ℕ). w.words.second (maker w.log (a.from - 1)) j) may.2 ∙ lies.1 in
    let is : w.words.second r i % 128 ≡ w.log.link (a.from - 1) =
    ap (λ (v : ℕ). v % 128) same ∙ low (w.log.entry (a.from - 1)).second (w.log.link (a.from - 1)) small in
    let link = kept.makers (a.from - 1) (omega (arith, lt)) in
    omega (arith, is, link)

pub fits : (nodes : ℕ) (w : World) (n : ℕ) (operation : Operation) → IsHeld nodes w → n < nodes → w.log.tail + 16 < 2 ^ 57
    → MayDo nodes n (w.actor n) operation
    → IsFit nodes (w.actor n) operation (told_by w.words operation)
fits nodes w n (Load Head) held lt end may = head_fits nodes w n held lt end
fits nodes w n (Load Completed) held lt end may = tt
fits nodes w n (Load (Local r)) held lt end may = tt
fits nodes w n (Load (Done r)) held lt end may = tt
fits nodes w n (Load (First r i)) held lt end may = tt
fits nodes w n (Load (Second r i)) held lt end may = link_fits nodes w n r i held lt may.0
fits nodes w n (Store word value) held lt end may = tt
fits nodes w n (Exchange Head old new) held lt end may = by_test (w.words.head == old) refl where
  by_test : (b : Bool) → (w.words.head == old) ≡ b
      → (w.words.head ≡ old) ⊎ (IsHead nodes (w.actor n) w.words.head × ((w.actor n).seen < w.words.head / 128))
  by_test true e = inl (grind (arith, nat_tests, e))
  by_test false e = inr (
    head_fits nodes w n held lt end,
    appended_since nodes w n held lt (λ same. let found : w.words.head ≡ old = same ∙ sym may.expects in
        grind (arith, nat_tests, e, found)),
  )
fits nodes w n (Exchange word old new) held lt end may = absurd may
fits nodes w n (Max word value) held lt end may = tt

pub all_fit : (nodes : ℕ) (acts : List Act) (n : ℕ) (operation : Operation) → nodes ≤ 64 → Plays nodes (opening nodes) acts
    → (played (opening nodes) acts).log.tail + 16 < 2 ^ 57 → MayAct nodes (played (opening nodes) acts) (Does n operation)
    → IsFit nodes ((played (opening nodes) acts).actor n) operation (told_by (played (opening nodes) acts).words operation)
all_fit nodes acts n operation most plays end may =
    fits nodes (played (opening nodes) acts) n operation (all_held nodes acts most plays) may.0 end may.1
