-- Tables of pages that lead on from each other: the physical address of each is that of the one before it and its size.
use Rattle.std.proofs.Common.{◌≡◌, ◌≢◌, ℕ, suc, ◌+◌, ◌-◌, ◌*◌, ◌%◌, ◌^◌, ◌<◌, ◌≤◌, List, [], ◌∷◌, Contains, Some, None, ⊎_elim, sym, ap, subst, ◌∙◌, arith}
use Rattle.std.specs.Prelude.{slice_index}
use Rattle.std.proofs.lemmas.Bool.{cases_eq}
use Rattle.std.proofs.lemmas.Nat.{mod-pow-add}
use Rattle.std.specs.FinMap as finite
use Rattle.std.proofs.lemmas.Option.{same_Some}
use Rattle.vs_types.specs.Depth.{entry_bytes, index_at}
use Rattle.vs_types.specs.Entry.{meaning, size_at}
use Rattle.vs_types.specs.Page.{intersection}
use Rattle.vs_types.specs.declared.addresses.page.Rights.{Rights}
use Rattle.vs_types.specs.declared.entries.entry.Meaning.TheVariants as entry
use Rattle.vs_types.proofs.Lists.{Contains-head}
use Rattle.vs_walk.specs.Memory.{Memory}
use Rattle.vs_walk.specs.Walk.{walk_from}
use Rattle.vs_walk.specs.declared.walk.Walk.TheVariants.{Mapped}
use Rattle.vs_space.specs.Path.{entry_in, found_at, table_in, table_at}
use Rattle.vs_space.proofs.Paths.{table_first, table_below, none_past, reached_within}
use Rattle.vs_space.proofs.Prunes.{entry_word, found_entry, word_in}
use Rattle.vs_plan.specs.Shown.{IsLone}
use Rattle.vs_plan.proofs.Ways.{walk_level}

-- each entry of the table of this level in this frame is a page; they lead on from each other from this physical address on, and allow these rights
abbrev pub IsRun : Memory → ℕ → ℕ → ℕ → Rights → Type 0
IsRun memory level number phys own = (i : ℕ) → i < 512 → entry_in level memory number i ≡ Some (entry.Leaf (phys + i * entry_bytes level) own)

-- words that mean so make such a table
pub run_of_words : (m : Memory) (level n phys : ℕ) (own : Rights) (words : List ℕ) → finite.get m n ≡ Some words
    → ((i : ℕ) → i < 512 → meaning level (slice_index words i) ≡ entry.Leaf (phys + i * entry_bytes level) own) → IsRun m level n phys own
run_of_words m level n phys own words got are = λ i low.
    entry_word level m n i (slice_index words i) (entry.Leaf (phys + i * entry_bytes level) own) (word_in m n i words got) (sym (are i low))

-- the place of an address in the addresses of a table, by its entry
pub run_offset : (level b : ℕ) → index_at level b * entry_bytes level + b % entry_bytes level ≡ b % entry_bytes (suc level)
run_offset level b =
    let bits : 3 + 9 * suc level ≡ 9 + (3 + 9 * level) = omega arith in
    sym (ap (λ e. b % 2 ^ e) bits ∙ mod-pow-add b 9 (3 + 9 * level))

module _ (m : Memory) (level n phys : ℕ) (own : Rights) (some : 1 ≤ level) (run : IsRun m level n phys own) where
  pub run_found : (b : ℕ) → found_at level m n b ≡ Some (entry.Leaf (phys + index_at level b * entry_bytes level) own)
  run_found b = found_entry level m n b ∙ run (index_at level b) (omega arith)

  -- how an address is walked from the table on
  pub run_walk : (rights : Rights) (b : ℕ)
      → walk_from m level n rights b ≡ Mapped (phys + b % entry_bytes (suc level)) (size_at level) (intersection rights own)
  run_walk rights b =
      let sum : phys + index_at level b * entry_bytes level + b % entry_bytes level ≡ phys + b % entry_bytes (suc level) =
      omega (arith, run_offset level b) in
      walk_level m level n rights b (entry.Leaf (phys + index_at level b * entry_bytes level) own) some (run_found b)
      ∙ ap (λ p. Mapped p (size_at level) (intersection rights own)) sum

  -- no table is below it
  pub run_alone : (j b q : ℕ) → table_at level m n j b ≡ Some q → (j ≡ level) × (q ≡ n)
  run_alone j b q at = ⊎_elim
      (λ (same : j ≡ level). (same, same_Some q n (sym at ∙ ap (λ l. table_at level m n l b) same ∙ table_first level n m b)))
      (λ (other : j ≢ level).
      let within = reached_within level n m j b q at in
      let none : table_at level m n (level - 1) b ≡ None =
      table_below level n m level (level - 1) b n (omega arith) (table_first level n m b) ∙ ap table_in (run_found b) in
      let nothing = none_past level n m (level - 1) j b (omega arith) (omega arith) none in
      absurd (cc))
      (cases_eq j level)

  pub run_lone : (base : ℕ) → IsLone m base level n (n ∷ [])
  run_lone base j b q at =
      let is = run_alone j b q at in (
        subst (Contains (n ∷ [])) (sym is.1) (Contains-head n []),
        λ i from to. absurd (omega (arith, is.0)),
        λ other c there. (run_alone other c q there).0 ∙ sym is.0,
      )
