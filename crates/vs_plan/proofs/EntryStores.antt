-- What a store does to ways and walks, at the entry for an address in a table to which no other way leads.
use Rattle.std.proofs.Common.{◌≡◌, ◌≢◌, ℕ, suc, ◌-◌, ◌<◌, ◌≤◌, Some, None, IsSome, ⊎_elim, refl, sym, ap, subst, ◌∙◌, arith}
use Rattle.std.proofs.lemmas.Bool.{cases_lt}
use Rattle.std.specs.FinMap as finite
use Rattle.vs_types.specs.Depth.{levels, index_at}
use Rattle.vs_types.specs.Entry.{meaning}
use Rattle.vs_types.specs.declared.addresses.depth.Depth.{Depth}
use Rattle.vs_types.specs.declared.addresses.page.Rights.{Rights}
use Rattle.vs_types.specs.declared.entries.entry.Meaning.{Meaning}
use Rattle.vs_walk.specs.Memory.{Memory, AreWhole}
use Rattle.vs_walk.specs.Walk.{walk, walk_entry, walk_from}
use Rattle.vs_space.specs.Held.{with_word}
use Rattle.vs_space.specs.Path.{found_at, table_in, table_at, SamePath}
use Rattle.vs_space.proofs.Paths.{reached_within, same_table, table_below, none_past, agree_table, agree_walk}
use Rattle.vs_space.proofs.Writes.{found_here, found_elsewhere, same_or_not, same_longer}
use Rattle.vs_plan.specs.Premise.{HasOwnWay}
use Rattle.vs_plan.specs.Way.{IsWay}
use Rattle.vs_space.proofs.Reached.{whole_written}
use Rattle.vs_plan.proofs.Ways.{walk_at, way_kept}

-- ---- off the way

module _ {depth : Depth} {m : Memory} {root level a n : ℕ} (own : HasOwnWay depth m root a) (at : table_at (levels depth) m root level a ≡ Some n)
    (used : IsSome (finite.get m n)) (w : ℕ) where
  -- all is found as before
  found_off : (b : ℕ) → (SamePath (levels depth) level a b → ⊥) → (j q : ℕ) → table_at (levels depth) m root j b ≡ Some q
      → found_at j (with_word m n (index_at level a) w) q b ≡ found_at j m q b
  found_off b apart j q reached = found_elsewhere j m n (index_at level a) w q b used (λ same turn.
      let both = own.once level n j b at (subst (λ x. table_at (levels depth) m root j b ≡ Some x) same reached) in
      apart (same_longer (levels depth) level a b both.1 (subst (λ x. index_at level a ≡ index_at x b) both.0 (sym turn))))

  -- and an address is walked as before
  pub walked_off : (b : ℕ) → (SamePath (levels depth) level a b → ⊥) → walk depth (with_word m n (index_at level a) w) root b ≡ walk depth m root b
  walked_off b apart = agree_walk (levels depth) root m (with_word m n (index_at level a) w) b (λ i q over reached. found_off b apart i q reached)

-- ---- the store

-- a table in use, on the way of the address, to which no other way leads
pub record IsOwnTable (depth : Depth) (memory : Memory) (root level address number : ℕ) : Type 0 where
  pub own : HasOwnWay depth memory root address
  pub whole : AreWhole memory
  pub used : IsSome (finite.get memory number)
  pub at : table_at (levels depth) memory root level address ≡ Some number

module _ {depth : Depth} {m : Memory} {root level a n : ℕ} (here : IsOwnTable depth m root level a n) where
  pub within : level ≤ levels depth
  within = reached_within (levels depth) root m level a n here.at

  pub at_same : (b : ℕ) → SamePath (levels depth) (suc level) a b → table_at (levels depth) m root level b ≡ Some n
  at_same b same = sym (same_table (levels depth) root m level a b same) ∙ here.at

  module _ (w : ℕ) where
    abbrev pub after_store : Memory
    after_store = with_word m n (index_at level a) w

    pub whole_store : AreWhole after_store
    whole_store = whole_written m n (index_at level a) w here.used here.whole

    -- in tables of other levels, all is found as before
    pub above : (b j q : ℕ) → j ≢ level → table_at (levels depth) m root j b ≡ Some q → found_at j after_store q b ≡ found_at j m q b
    above b j q other reached = found_elsewhere j m n (index_at level a) w q b here.used (λ same turn.
        absurd (other (here.own.once level n j b here.at (subst (λ x. table_at (levels depth) m root j b ≡ Some x) same reached)).0))

    pub table_off : (b j : ℕ) → (SamePath (levels depth) level a b → ⊥) → table_at (levels depth) after_store root j b ≡ table_at (levels depth) m root j b
    table_off b j apart = agree_table (levels depth) root m after_store b j (λ i q over reached. found_off here.own here.at here.used w b apart i q reached)

    pub table_above : (b j : ℕ) → level ≤ j → table_at (levels depth) after_store root j b ≡ table_at (levels depth) m root j b
    table_above b j le = agree_table (levels depth) root m after_store b j (λ i q over reached. above b i q (λ e. omega arith) reached)

    -- an address off the way is walked as before
    pub walk_off : (b : ℕ) → (SamePath (levels depth) level a b → ⊥) → walk depth after_store root b ≡ walk depth m root b
    walk_off = walked_off here.own here.at here.used w

    pub table_here : (b : ℕ) → SamePath (levels depth) level a b → table_at (levels depth) after_store root level b ≡ Some n
    table_here b same = table_above b level (omega arith) ∙ at_same b (λ i from to. same i (omega arith) to)

    -- what was stored is found
    pub found_stored : (b : ℕ) → SamePath (levels depth) level a b → found_at level after_store n b ≡ Some (meaning level w)
    found_stored b same = found_here level m n (index_at level a) w b here.whole here.used (omega arith) (sym (same level (omega arith) within))

    -- a way to a table of its level or above is still there
    pub way_stays : (b j q : ℕ) (rights : Rights) → level ≤ j → IsWay depth m root b j q rights → IsWay depth after_store root b j q rights
    way_stays b j q rights le way = way_kept after_store j q rights way (λ i p over reached. above b i p (λ e. omega arith) reached)

    -- how an address on the way is walked
    pub walk_here : {rights : Rights} → IsWay depth m root a level n rights → 1 ≤ level → (e : Meaning) → meaning level w ≡ e → (b : ℕ)
        → SamePath (levels depth) level a b
        → walk depth after_store root b ≡ walk_entry level rights b (λ next own. walk_from after_store (level - 1) next own b) e
    walk_here {rights} way some e says b same =
        walk_at (way_stays a level n rights (omega arith) way) some e (found_stored a (λ i from to. refl) ∙ ap Some says) b same

    -- ---- where the entry leads to no table

    module _ (ends : table_in (Some (meaning level w)) ≡ None) where
      -- below it the path ends
      pub none_here : (b j : ℕ) → j < level → SamePath (levels depth) level a b → table_at (levels depth) after_store root j b ≡ None
      none_here b j lt same = none_past (levels depth) root after_store (level - 1) j b (omega (arith, within)) (omega arith)
          (table_below (levels depth) root after_store level (level - 1) b n (omega arith) (table_here b same) ∙ ap table_in (found_stored b same) ∙ ends)

      -- no table is reached that wasn't
      pub fewer : (b j q : ℕ) → table_at (levels depth) after_store root j b ≡ Some q → table_at (levels depth) m root j b ≡ Some q
      fewer b j q r = ⊎_elim
          (λ same. ⊎_elim
          (λ (past : j < level). let nothing = none_here b j past same in absurd (cc))
          (λ (le : level ≤ j). sym (table_above b j le) ∙ r)
          (cases_lt j level))
          (λ apart. sym (table_off b j apart) ∙ r)
          (same_or_not (levels depth) level a b)

      -- each way that was its address's own still is
      pub own_after : (b : ℕ) → HasOwnWay depth m root b → HasOwnWay depth after_store root b
      own_after b own = record { once = λ j q k c r s. own.once j q k c (fewer b j q r) (fewer c k q s) }
