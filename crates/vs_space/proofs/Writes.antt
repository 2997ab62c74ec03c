-- What a write of one entry does to paths and walks.
use Rattle.std.proofs.Common.{◌≡◌, ◌≢◌, ℕ, zero, suc, ◌+◌, ◌-◌, ◌<◌, ◌≤◌, List, [], Option, Some, None, inl, inr, ◌⊎◌, ⊎_elim, refl, sym, ap, subst, ◌∙◌, arith}
use Rattle.std.specs.Prelude.{option_map, unwrap_or, IsSome, slice_index, slice_set}
use Rattle.std.proofs.lemmas.Bool.{cases_eq, cases_lt}
use Rattle.std.proofs.lemmas.List.{get_or-set_same, get_or-set_other}
use Rattle.std.specs.FinMap as finite
use Rattle.vs_types.specs.Depth.{index_at}
use Rattle.vs_types.specs.Entry.{meaning}
use Rattle.vs_walk.specs.Memory.{Memory, AreWhole}
use Rattle.vs_walk.specs.Walk.{all_rights, walk_from}
use Rattle.vs_space.specs.Held.{word_at, with_word}
use Rattle.vs_space.specs.Path.{found_at, table_at, SamePath}
use Rattle.vs_space.specs.Tree.{IsTree}
use Rattle.vs_types.proofs.Maps.{get-insert_same, get-insert_other, len-insert_used}
use Rattle.vs_space.proofs.Paths.{reached_within, same_table, agree_table, agree_walk}

-- the frame's own words
pub words_in : (m : Memory) (n : ℕ) → IsSome (finite.get m n) → finite.get m n ≡ Some (unwrap_or (finite.get m n) [])
words_in m n used = by (finite.get m n) used where
  by : (o : Option (List ℕ)) → IsSome o → o ≡ Some (unwrap_or o [])
  by (Some words) used = refl
  by None used = cc

pub used_some : (m : Memory) (n : ℕ) (words : List ℕ) → finite.get m n ≡ Some words → IsSome (finite.get m n)
used_some m n words e = subst IsSome (sym e) refl

found_of : (level : ℕ) (m : Memory) (n b : ℕ) (o : Option (List ℕ)) → finite.get m n ≡ o
    → found_at level m n b ≡ option_map (meaning level) (option_map (λ words. slice_index words (index_at level b)) o)
unfolding found_at word_at
found_of level m n b o e = ap (λ (x : Option (List ℕ)). option_map (meaning level) (option_map (λ words. slice_index words (index_at level b)) x)) e

pub found_alike : (level : ℕ) (m m' : Memory) (n b : ℕ) → finite.get m' n ≡ finite.get m n → found_at level m' n b ≡ found_at level m n b
found_alike level m m' n b e = found_of level m' n b (finite.get m n) e ∙ sym (found_of level m n b (finite.get m n) refl)

pub get_written : (m : Memory) (n i w : ℕ) → finite.get (with_word m n i w) n ≡ Some (slice_set (unwrap_or (finite.get m n) []) i w)
unfolding with_word
get_written m n i w = get-insert_same m n _

pub get_written_other : (m : Memory) (n i w q : ℕ) → q ≢ n → finite.get (with_word m n i w) q ≡ finite.get m q
unfolding with_word
get_written_other m n i w q other = get-insert_other m n _ q other

-- a write takes no frame in use
pub used_before : (m : Memory) (n i w q : ℕ) → IsSome (finite.get m n) → IsSome (finite.get (with_word m n i w) q) → IsSome (finite.get m q)
used_before m n i w q used now = ⊎_elim
    (λ (same : q ≡ n). subst (λ k. IsSome (finite.get m k)) (sym same) used)
    (λ (other : q ≢ n). subst IsSome (get_written_other m n i w q other) now)
    (cases_eq q n)

pub written_in_use : (m : Memory) (n i w q : ℕ) → IsSome (finite.get m q) → IsSome (finite.get (with_word m n i w) q)
written_in_use m n i w q used = ⊎_elim
    (λ (same : q ≡ n). subst (λ k. IsSome (finite.get (with_word m n i w) k)) (sym same) (used_some _ n _ (get_written m n i w)))
    (λ (other : q ≢ n). subst IsSome (sym (get_written_other m n i w q other)) used)
    (cases_eq q n)

pub len_written : (m : Memory) (n i w : ℕ) → IsSome (finite.get m n) → finite.len (with_word m n i w) ≡ finite.len m
unfolding with_word
len_written m n i w used = len-insert_used m n _ _ (words_in m n used)

-- the entry that was written is found
pub found_here : (level : ℕ) (m : Memory) (n i w b : ℕ) → AreWhole m → IsSome (finite.get m n) → i < 512 → index_at level b ≡ i
    → found_at level (with_word m n i w) n b ≡ Some (meaning level w)
found_here level m n i w b whole used low at =
    found_of level (with_word m n i w) n b _ (get_written m n i w)
    ∙ ap (λ j. Some (meaning level (slice_index (slice_set (unwrap_or (finite.get m n) []) i w) j))) at
    ∙ ap (λ x. Some (meaning level x)) (get_or-set_same (unwrap_or (finite.get m n) []) i w 0 (omega (arith, whole n _ (words_in m n used))))

-- and each other entry is found as before
pub found_elsewhere : (level : ℕ) (m : Memory) (n i w q b : ℕ) → IsSome (finite.get m n) → (q ≡ n → index_at level b ≢ i)
    → found_at level (with_word m n i w) q b ≡ found_at level m q b
found_elsewhere level m n i w q b used apart = ⊎_elim
    (λ (same : q ≡ n). subst (λ k. found_at level (with_word m n i w) k b ≡ found_at level m k b) (sym same)
    (found_of level (with_word m n i w) n b _ (get_written m n i w)
    ∙ ap (λ x. Some (meaning level x)) (get_or-set_other (unwrap_or (finite.get m n) []) i (index_at level b) w 0 (apart same))
    ∙ sym (found_of level m n b _ (words_in m n used))))
    (λ (other : q ≢ n). found_alike level m (with_word m n i w) q b (get_written_other m n i w q other))
    (cases_eq q n)

-- ---- whether two addresses take the same path

pub same_longer : (top level a b : ℕ) → SamePath top (suc level) a b → index_at level a ≡ index_at level b → SamePath top level a b
same_longer top level a b before here = λ i from to. ⊎_elim
    (λ (last : i ≡ level). subst (λ j. index_at j a ≡ index_at j b) (sym last) here)
    (λ (other : i ≢ level). before i (omega (arith, from, other)) to)
    (cases_eq i level)

pub same_or_not : (top level a b : ℕ) → SamePath top level a b ⊎ (SamePath top level a b → ⊥)
same_or_not top level a b = by (top + 1 - level) level (omega arith) where
  by : (d level : ℕ) → top + 1 ≤ d + level → SamePath top level a b ⊎ (SamePath top level a b → ⊥)
  by zero level high = inl (λ i from to. absurd (omega arith))
  by (suc d) level high = ⊎_elim
      (λ before. ⊎_elim
      (λ here. inl (same_longer top level a b before here))
      (λ apart. ⊎_elim
      (λ (above : top < level). inl (λ i from to. absurd (omega arith)))
      (λ (le : level ≤ top). inr (λ same. apart (same level (omega arith) le)))
      (cases_lt top level))
      (cases_eq (index_at level a) (index_at level b)))
      (λ apart. inr (λ same. apart (λ i from to. same i (omega arith) to)))
      (by d (suc level) (omega arith))

-- a tree of tables, and its table of this level on the path of an address
pub record IsTreeAt (top : ℕ) (m : Memory) (root level a n : ℕ) : Type 0 where
  pub tree : IsTree top m root
  pub whole : AreWhole m
  pub at : table_at top m root level a ≡ Some n

-- ---- its entry for the address is written

module _ {top : ℕ} {m : Memory} {root level a n : ℕ} (here : IsTreeAt top m root level a n) where
  pub used_at : IsSome (finite.get m n)
  used_at = here.tree.in_use level a n here.at

  pub within : level ≤ top
  within = reached_within top root m level a n here.at

  pub at_same : (b : ℕ) → SamePath top level a b → table_at top m root level b ≡ Some n
  at_same b same = sym (same_table top root m level a b (λ i from to. same i (omega arith) to)) ∙ here.at

  module _ (w : ℕ) where
    abbrev pub after_write : Memory
    after_write = with_word m n (index_at level a) w

    pub len_write : finite.len after_write ≡ finite.len m
    len_write = len_written m n (index_at level a) w used_at

    -- off the path of a, all is found as before
    pub off_path : (b : ℕ) → (SamePath top level a b → ⊥) → (j q : ℕ) → table_at top m root j b ≡ Some q → found_at j after_write q b ≡ found_at j m q b
    off_path b apart j q reached = found_elsewhere j m n (index_at level a) w q b used_at (λ same turn.
        let both = here.tree.once level j a b n here.at (subst (λ x. table_at top m root j b ≡ Some x) same reached) in
        apart (same_longer top level a b both.1 (subst (λ x. index_at level a ≡ index_at x b) (sym both.0) (sym turn))))

    -- in tables of other levels, all is found as before
    pub above : (b j q : ℕ) → j ≢ level → table_at top m root j b ≡ Some q → found_at j after_write q b ≡ found_at j m q b
    above b j q other reached = found_elsewhere j m n (index_at level a) w q b used_at (λ same turn.
        absurd (other (here.tree.once j level b a n (subst (λ x. table_at top m root j b ≡ Some x) same reached) here.at).0))

    pub table_off_path : (b j : ℕ) → (SamePath top level a b → ⊥) → table_at top after_write root j b ≡ table_at top m root j b
    table_off_path b j apart = agree_table top root m after_write b j (λ i q over reached. off_path b apart i q reached)

    pub table_above : (b j : ℕ) → level ≤ j → table_at top after_write root j b ≡ table_at top m root j b
    table_above b j le = agree_table top root m after_write b j (λ i q over reached. above b i q (λ e. omega arith) reached)

    pub walk_off_path : (b : ℕ) → (SamePath top level a b → ⊥) → walk_from after_write top root all_rights b ≡ walk_from m top root all_rights b
    walk_off_path b apart = agree_walk top root m after_write b (λ i q over reached. off_path b apart i q reached)

    pub table_here : (b : ℕ) → SamePath top level a b → table_at top after_write root level b ≡ Some n
    table_here b same = table_above b level (omega arith) ∙ at_same b same

    pub found_on_path : (b : ℕ) → SamePath top level a b → found_at level after_write n b ≡ Some (meaning level w)
    found_on_path b same = found_here level m n (index_at level a) w b here.whole used_at (omega arith) (sym (same level (omega arith) within))
