-- Trees of tables stay trees: an entry that leads to no table is written, a table is linked, a table is taken out.
use Rattle.std.proofs.Common.{◌≡◌, ◌≢◌, ℕ, suc, ◌+◌, ◌-◌, ◌%◌, ◌<◌, ◌≤◌, Some, None, ⊎_elim, sym, ap, subst, ◌∙◌, arith}
use Rattle.std.specs.Prelude.{IsSome}
use Rattle.std.proofs.lemmas.Bool.{cases_eq, cases_lt}
use Rattle.std.specs.FinMap as finite
use Rattle.std.proofs.lemmas.Option.{same_Some}
use Rattle.vs_types.specs.Depth.{levels, entry_bytes, index_at, IsCanonical}
use Rattle.vs_types.specs.Entry.{meaning, size_at}
use Rattle.vs_types.specs.declared.addresses.page.Rights.{Rights}
use Rattle.vs_types.specs.declared.addresses.depth.Depth.{Depth}
use Rattle.vs_types.specs.declared.entries.entry.Meaning.TheVariants as entry
use Rattle.vs_walk.specs.Memory.{Memory}
use Rattle.vs_walk.specs.Walk.{all_rights, walk, walk_from}
use Rattle.vs_walk.specs.declared.walk.Walk.TheVariants.{NotMapped, Mapped}
use Rattle.vs_space.specs.Held.{with_word}
use Rattle.vs_space.specs.Path.{found_at, table_in, table_at, SamePath}
use Rattle.vs_space.specs.Tree.{IsTree, IsFilled, NothingUnder}
use Rattle.vs_space.specs.inside.Prune.{IsFilledBut}
use Rattle.vs_space.proofs.Paths.{table_below, none_past, same_table, agree_table, agree_walk, walk_absent, walk_leaf}
use Rattle.vs_space.proofs.Writes.{IsTreeAt, within, after_write, off_path, above, table_off_path, table_above, walk_off_path, table_here, found_on_path}
use Rattle.vs_space.proofs.Writes.{same_or_not, found_alike, written_in_use}

-- ---- frames that no path reaches

module _ (top : ℕ) (root : ℕ) (m m' : Memory) (alike : (j b q : ℕ) → table_at top m root j b ≡ Some q → finite.get m' q ≡ finite.get m q) where
  pub unreached_table : (j b : ℕ) → table_at top m' root j b ≡ table_at top m root j b
  unreached_table j b = agree_table top root m m' b j (λ i q over reached. found_alike i m m' q b (alike i b q reached))

  pub unreached_walk : (b : ℕ) → walk_from m' top root all_rights b ≡ walk_from m top root all_rights b
  unreached_walk b = agree_walk top root m m' b (λ i q over reached. found_alike i m m' q b (alike i b q reached))

  pub unreached_tree : IsTree top m root → IsTree top m' root
  unreached_tree tree = record {
    in_use = λ j b q r. let was = sym (unreached_table j b) ∙ r in subst IsSome (sym (alike j b q was)) (tree.in_use j b q was);
    once = λ j l b c q r s. tree.once j l b c q (sym (unreached_table j b) ∙ r) (sym (unreached_table l c) ∙ s);
    allows = λ j b q next own r f.
        let was = sym (unreached_table j b) ∙ r in
        tree.allows j b q next own was (sym (found_alike j m m' q b (alike j b q was)) ∙ f);
  }

-- ---- an entry that leads to no table

module _ {top : ℕ} {m : Memory} {root level a n : ℕ} (here : IsTreeAt top m root level a n) (w : ℕ) (ends : table_in (Some (meaning level w)) ≡ None) where
  abbrev new : Memory
  new = with_word m n (index_at level a) w

  -- below it the path ends
  pub none_here : (b j : ℕ) → j < level → SamePath top level a b → table_at top new root j b ≡ None
  none_here b j lt same = none_past top root new (level - 1) j b (omega (arith, within here)) (omega arith)
      (table_below top root new level (level - 1) b n (omega arith) (table_here here w b same) ∙ ap table_in (found_on_path here w b same) ∙ ends)

  pub fewer : (j b q : ℕ) → table_at top new root j b ≡ Some q → table_at top m root j b ≡ Some q
  fewer j b q r = ⊎_elim
      (λ same. ⊎_elim
      (λ (past : j < level). let nothing = none_here b j past same in cc)
      (λ (le : level ≤ j). sym (table_above here w b j le) ∙ r)
      (cases_lt j level))
      (λ apart. sym (table_off_path here w b j apart) ∙ r)
      (same_or_not top level a b)

  pub tree_write : IsTree top new root
  tree_write = record {
    in_use = λ j b q r. written_in_use m n (index_at level a) w q (here.tree.in_use j b q (fewer j b q r));
    once = λ j l b c q r s. here.tree.once j l b c q (fewer j b q r) (fewer l c q s);
    allows = λ j b q next own r f. ⊎_elim
        (λ same. ⊎_elim
        (λ (at : j ≡ level).
        let q_is : q ≡ n = same_Some q n (sym r ∙ ap (λ i. table_at top new root i b) at ∙ table_here here w b same) in
        let found : found_at level new n b ≡ Some (entry.Table next own) =
        subst (λ i. found_at i new n b ≡ Some (entry.Table next own)) at (subst (λ x. found_at j new x b ≡ Some (entry.Table next own)) q_is f) in
        let is_table : table_in (Some (entry.Table next own)) ≡ None = ap table_in (sym found ∙ found_on_path here w b same) ∙ ends in
        cc)
        (λ (other : j ≢ level). here.tree.allows j b q next own (fewer j b q r) (sym (above here w b j q other (fewer j b q r)) ∙ f))
        (cases_eq j level))
        (λ apart. here.tree.allows j b q next own (fewer j b q r) (sym (off_path here w b apart j q (fewer j b q r)) ∙ f))
        (same_or_not top level a b);
  }

-- how an address is walked whose path goes to an entry that was written
pub walk_to_leaf : {top : ℕ} {m : Memory} {root level a n phys : ℕ} {own : Rights} (here : IsTreeAt top m root level a n) (w : ℕ)
    → meaning level w ≡ entry.Leaf phys own → 1 ≤ level → (b : ℕ) → SamePath top level a b
    → walk_from (after_write here w) top root all_rights b ≡ Mapped (phys + b % entry_bytes level) (size_at level) own
walk_to_leaf {level = level} {n = n} {phys = phys} {own = own} here w leads some b same =
    walk_leaf (tree_write here w (ap (λ e. table_in (Some e)) leads)) b level n phys own some (table_here here w b same)
    (found_on_path here w b same ∙ ap Some leads)

pub walk_to_absent : {top : ℕ} {m : Memory} {root level a n : ℕ} (here : IsTreeAt top m root level a n) (w : ℕ)
    → meaning level w ≡ entry.Absent → 1 ≤ level → (b : ℕ) → SamePath top level a b → walk_from (after_write here w) top root all_rights b ≡ NotMapped
walk_to_absent {level = level} {n = n} here w says some b same =
    walk_absent (tree_write here w (ap (λ e. table_in (Some e)) says)) b level n some (table_here here w b same)
    (found_on_path here w b same ∙ ap Some says)

-- ---- tables that have something mapped, but for those on the path of an address

pub but_none : {depth : Depth} {memory : Memory} {root : ℕ} (base : ℕ) → IsFilled depth memory root → IsFilledBut depth memory root base
but_none base is = record { filled = λ level a n low r off. is.filled level a n low r }

module _ {depth : Depth} {m : Memory} {root base : ℕ} (is : IsFilledBut depth m root base) where
  -- where the address itself is mapped, so is something under each table on its path
  pub filled_by : IsCanonical depth base → (walk depth m root base ≢ NotMapped) → IsFilled depth m root
  filled_by canonical mapped = record {
    filled = λ level a n low r nothing. ⊎_elim
        (λ same. mapped (nothing base canonical (λ i from to. sym (same i from to))))
        (λ apart. is.filled level a n low r apart nothing)
        (same_or_not (levels depth) (suc level) base a);
  }

  -- where the path ends below the table of a level, and something is mapped under that table, if it isn't the root
  pub filled_up : (level : ℕ) → ((j : ℕ) → j < level → table_at (levels depth) m root j base ≡ None)
      → (level < levels depth → NothingUnder depth m root (suc level) base → ⊥) → IsFilled depth m root
  filled_up level none something = record {
    filled = λ j a n low r nothing. ⊎_elim
        (λ same. ⊎_elim
        (λ (past : j < level).
        let there : table_at (levels depth) m root j base ≡ Some n = same_table (levels depth) root m j base a same ∙ r in
        let nowhere = none j past in
        cc)
        (λ (le : level ≤ j). something (omega arith) (λ b canonical path. nothing b canonical (λ i from to. sym (same i from to) ∙ path i (omega arith) to)))
        (cases_lt j level))
        (λ apart. is.filled j a n low r apart nothing)
        (same_or_not (levels depth) (suc j) base a);
  }

  -- the same tables and walks keep what is mapped under them
  pub but_alike : {m' : Memory}
      → ((j b q : ℕ) → table_at (levels depth) m' root j b ≡ Some q → (SamePath (levels depth) (suc j) base b → ⊥)
      → table_at (levels depth) m root j b ≡ Some q)
      → ((b : ℕ) → IsCanonical depth b → walk depth m' root b ≡ walk depth m root b) → IsFilledBut depth m' root base
  but_alike tables walks = record {
    filled = λ j b q low r off nothing. is.filled j b q low (tables j b q r off) off (λ c canonical same. sym (walks c canonical) ∙ nothing c canonical same);
  }

pub but_write : {depth : Depth} {m : Memory} {root level a n : ℕ} → IsFilledBut depth m root a → (here : IsTreeAt (levels depth) m root level a n) (w : ℕ)
    → table_in (Some (meaning level w)) ≡ None → IsFilledBut depth (after_write here w) root a
but_write {depth} {level = level} is here w ends = record {
  filled = λ j b q low r off nothing. is.filled j b q low (fewer here w ends j b q r) off (λ c canonical same.
      sym (walk_off_path here w c (λ on. ⊎_elim
      (λ (past : j < level).
      let nowhere = none_here here w ends b j past (λ i from to. on i from to ∙ sym (same i (omega arith) to)) in
      absurd (cc))
      (λ (le : level ≤ j). off (λ i from to. on i (omega arith) to ∙ sym (same i from to)))
      (cases_lt j level)))
      ∙ nothing c canonical same);
}
