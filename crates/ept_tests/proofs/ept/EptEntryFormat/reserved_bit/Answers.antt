use Rattle.std.proofs.Common.{◌≡◌, ℕ, ◌/◌, ◌%◌, ◌^◌, ◌<◌, true, false, refl, sym, ap, subst, ◌∙◌, arith}
use Rattle.std.specs.Prelude.{if◌then◌else◌}
use Rattle.vs_types.specs.Depth.{entry_bytes}
use Rattle.ept_tests.specs.Ept.{is_leaf, writes_alone}
use Rattle.ept_tests.proofs.Lowest.{lowest_of_high, lowest_of_leaf, lowest_of_link, lowest_of_writes}
use Rattle.ept_tests.proofs.EptWords.{leaf_low}
use Rattle.ept_tests.proofs.ept.EptEntryFormat.reserved_bit.Goals.{then-is_leaf+else-reserved-ne0, else-is_leaf+else-reserved-ne0-2}
use Rattle.ept_tests.proofs.ept.EptEntryFormat.reserved_bit.Goals as goal

pub returns-then-writes_alone : goal.returns-then-writes_alone
returns-then-writes_alone c = lowest_of_writes c.args.self c.args.level c.args.word (sym c.writes_alone.ensures ∙ c.if-writes_alone.true)

pub returns-then-reserved-ne0 : goal.returns-then-reserved-ne0
returns-then-reserved-ne0 c =
    let level : ℕ = c.args.level in
    let word : ℕ = c.args.word in
    let leaf : is_leaf level word ≡ true = sym c.is_leaf.ensures ∙ c.if-is_leaf.true in
    let alone : writes_alone word ≡ false = sym c.writes_alone.ensures ∙ c.if-writes_alone.false in
    let some : 0 < word % c.entry_bytes.result / 2 ^ 12 = omega (arith, c.if-reserved-ne0.true) in
    lowest_of_leaf c.args.self level word (word % c.entry_bytes.result / 2 ^ 12) leaf (leaf_low level word leaf) alone
    (ap (λ (bytes : ℕ). word % bytes / 2 ^ 12) c.entry_bytes.ensures.is) some

pub returns-then-reserved-ne0-2 : goal.returns-then-reserved-ne0-2
returns-then-reserved-ne0-2 c =
    let level : ℕ = c.args.level in
    let word : ℕ = c.args.word in
    let leaf : is_leaf level word ≡ false = sym c.is_leaf.ensures ∙ c.if-is_leaf.false in
    let alone : writes_alone word ≡ false = sym c.writes_alone.ensures ∙ c.if-writes_alone.false in
    let some : 0 < word % 2 ^ 8 / 2 ^ 3 = omega (arith, c.if-reserved-ne0-2.true) in
    lowest_of_link c.args.self level word (word % 2 ^ 8 / 2 ^ 3) leaf alone refl some

pub returns : goal.returns
returns c =
    let level : ℕ = c.args.level in
    let word : ℕ = c.args.word in
    let alone : writes_alone word ≡ false = sym c.writes_alone.ensures ∙ c.if-writes_alone.false in
    elim c.if-is_leaf.branch [
      | then-is_leaf+else-reserved-ne0 w ↦
          let leaf : is_leaf level word ≡ true = sym c.is_leaf.ensures ∙ w.if-is_leaf.true in
          let none : word % w.entry_bytes.result / 2 ^ 12 ≡ 0 = omega (arith, w.if-reserved-ne0.false) in
          lowest_of_high c.args.self level word (word % 2 ^ 52 / 2 ^ 46) alone
          (subst (λ b. (if b then word % entry_bytes level / 2 ^ 12 else word % 2 ^ 8 / 2 ^ 3) ≡ 0) (sym leaf)
          (ap (λ (bytes : ℕ). word % bytes / 2 ^ 12) (sym w.entry_bytes.ensures.is) ∙ none)) c.requires.reserved refl
      | else-is_leaf+else-reserved-ne0-2 w ↦
          let leaf : is_leaf level word ≡ false = sym c.is_leaf.ensures ∙ w.if-is_leaf.false in
          let none : word % 2 ^ 8 / 2 ^ 3 ≡ 0 = omega (arith, w.if-reserved-ne0-2.false) in
          lowest_of_high c.args.self level word (word % 2 ^ 52 / 2 ^ 46) alone
          (subst (λ b. (if b then word % entry_bytes level / 2 ^ 12 else word % 2 ^ 8 / 2 ^ 3) ≡ 0) (sym leaf) none) c.requires.reserved refl
    ]
