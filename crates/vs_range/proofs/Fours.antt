-- Four words that were read of a table.
use Rattle.std.proofs.Common.{◌≡◌, ◌≢◌, ℕ, ◌+◌, ◌-◌, ◌/◌, ◌%◌, ◌^◌, ◌<◌, ◌≤◌, List, get_or, ⊎_elim, not, refl, sym, ap, ◌∙◌, arith}
use Rattle.std.specs.Prelude.{◌==◌}
use Rattle.std.proofs.lemmas.Bool.{cases_eq, cases_lt}
use Rattle.vs_types.specs.declared.entries.entry.Meaning.TheVariants as entry
use Rattle.vs_plan.proofs.RunWords.{leaf_of}
use Rattle.vs_plan.proofs.Stored.{even_absent}
use Rattle.vs_range.specs.Planner.{IsPageWord}

-- the words from an index on, of which so many were counted before these four
module _ (words four : List ℕ) (index count : ℕ) (is : (j : ℕ) → j < 4 → get_or four j 0 ≡ get_or words (index + count + j) 0) where
  at : (k : ℕ) → count ≤ k → index + count + (k - count) ≡ index + k
  at k le = omega (arith, le)

  -- so many more have the bit
  pub more_alike : (bit more : ℕ) → more ≤ 4 → ((k : ℕ) → k < count → get_or words (index + k) 0 % 2 ≡ bit)
      → ((j : ℕ) → j < more → get_or four j 0 % 2 ≡ bit) → (k : ℕ) → k < count + more → get_or words (index + k) 0 % 2 ≡ bit
  more_alike bit more few before these k low = ⊎_elim
      (λ (lt : k < count). before k lt)
      (λ (le : count ≤ k).
      let j : k - count < more = omega (arith, low, le) in
      ap (λ i. get_or words i 0 % 2) (sym (at k le)) ∙ ap (λ w. w % 2) (sym (is (k - count) (omega (arith, j, few)))) ∙ these (k - count) j)
      (cases_lt k count)

  -- and the next doesn't
  pub next_other : (bit more : ℕ) → more < 4 → get_or four more 0 % 2 ≢ bit → get_or words (index + (count + more)) 0 % 2 ≢ bit
  next_other bit more few other same =
      let place : index + count + more ≡ index + (count + more) = omega arith in
      other (ap (λ w. w % 2) (is more few) ∙ ap (λ i. get_or words i 0 % 2) place ∙ same)

  -- one of these is not 0
  pub some_other : (more : ℕ) → index + count + 4 ≤ 512 → (j : ℕ) × (more ≤ j) × (j < 4) × (get_or four j 0 ≢ 0)
      → (i : ℕ) × (index + (count + more) ≤ i) × (i < 512) × (get_or words i 0 ≢ 0)
  some_other more room one = (
    index + count + one.0,
    omega (arith, one.1),
    omega (arith, one.2, room),
    λ nothing. one.3 (is one.0 one.2 ∙ nothing),
  )

  -- or all are
  pub none_other : (more : ℕ) → more ≤ 4 → ((j : ℕ) → more ≤ j → j < 4 → get_or four j 0 ≡ 0) → (i : ℕ) → index + (count + more) ≤ i
      → i < index + count + 4 → get_or words i 0 ≡ 0
  none_other more few all i from to =
      let j : i - (index + count) < 4 = omega (arith, from, to) in
      let place : index + count + (i - (index + count)) ≡ i = omega (arith, from) in
      ap (λ n. get_or words n 0) (sym place) ∙ sym (is (i - (index + count)) j) ∙ all (i - (index + count)) (omega (arith, from)) j

-- a word of a table of level 1 is the entry of a page where it is present
pub present_page : (word : ℕ) → word % 2 ≡ 1 → IsPageWord 1 word
present_page word odd =
    let low : word % 2 ^ 12 / 2 ^ 13 ≡ 0 = omega arith in
    record {
      phys = _;
      own = _;
      says = leaf_of 1 word _ _ (record {
        present = omega (arith, odd);
        plain = ap (λ n. not (n == 0)) low;
        leaf = refl;
        address = refl;
        rights = refl;
      });
    }

pub page_present : (level word : ℕ) → IsPageWord level word → word % 2 ≡ 1
page_present level word is = ⊎_elim
    (λ (even : word % 2 ≡ 0).
    let both : entry.Leaf is.phys is.own ≡ entry.Absent = sym is.says ∙ even_absent level word even in absurd (cc))
    (λ (odd : word % 2 ≢ 0). omega (arith, odd))
    (cases_eq (word % 2) 0)
