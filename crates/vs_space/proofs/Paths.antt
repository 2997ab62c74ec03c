-- The paths of addresses through the tables of a memory.
use Rattle.std.proofs.Common.{◌≡◌, ◌≢◌, ℕ, zero, suc, ◌+◌, ◌-◌, ◌%◌, ◌<◌, ◌≤◌, List, Option, Some, None, ⊎_elim, refl, sym, ap, subst, ◌∙◌, arith}
use Rattle.std.specs.Prelude.{if◌then◌else◌, option_and_then, option_map, slice_index}
use Rattle.std.proofs.lemmas.Bool.{eq-eqb, ne_eqb, cases_eq, cases_lt}
use Rattle.std.specs.FinMap as finite
use Rattle.std.proofs.lemmas.Option.{same_Some}
use Rattle.vs_types.specs.Depth.{entry_bytes, index_at}
use Rattle.vs_types.specs.Entry.{meaning, size_at}
use Rattle.vs_types.specs.Page.{intersection}
use Rattle.vs_types.specs.declared.addresses.page.Rights.{Rights}
use Rattle.vs_types.specs.declared.entries.entry.Meaning.{Meaning}
use Rattle.vs_types.specs.declared.entries.entry.Meaning.TheVariants as entry
use Rattle.vs_walk.specs.Memory.{Memory}
use Rattle.vs_walk.specs.Walk.{all_rights, walk_entry, walk_from}
use Rattle.vs_walk.specs.declared.walk.Walk.TheVariants.{Missing, NotMapped, Reserved, Mapped}
use Rattle.vs_walk.proofs.Walks.{walk_nowhere, walk_missing, walk_at}
use Rattle.vs_space.specs.Held.{word_at}
use Rattle.vs_space.specs.Path.{found_at, table_in, table_at, SamePath}
use Rattle.vs_space.specs.Tree.{IsTree}

-- ---- an entry on a walk

-- the words of a frame in which something is found
pub words_found : (level : ℕ) (m : Memory) (n a : ℕ) (e : Meaning) → found_at level m n a ≡ Some e
    → (words : List ℕ) × (finite.get m n ≡ Some words) × (meaning level (slice_index words (index_at level a)) ≡ e)
unfolding found_at word_at
words_found level m n a e is = by (finite.get m n) refl is where
  by : (o : Option (List ℕ)) → finite.get m n ≡ o → option_map (meaning level) (option_map (λ words. slice_index words (index_at level a)) o) ≡ Some e
      → (words : List ℕ) × (finite.get m n ≡ Some words) × (meaning level (slice_index words (index_at level a)) ≡ e)
  by None got is = cc
  by (Some words) got is = (words, got, one (meaning level (slice_index words (index_at level a))) is)
    where
      one : (x : Meaning) → Some x ≡ Some e → x ≡ e
      one x is = cc

nothing_found : (level : ℕ) (m : Memory) (n a : ℕ) → found_at level m n a ≡ None → finite.get m n ≡ None
unfolding found_at word_at
nothing_found level m n a is = by (finite.get m n) refl is where
  by : (o : Option (List ℕ)) → finite.get m n ≡ o → option_map (meaning level) (option_map (λ words. slice_index words (index_at level a)) o) ≡ None
      → finite.get m n ≡ None
  by None got is = got
  by (Some words) got is = cc

pub walk_found : (m : Memory) (below n : ℕ) (rights : Rights) (a : ℕ) (e : Meaning) → found_at (suc below) m n a ≡ Some e
    → walk_from m (suc below) n rights a ≡ walk_entry (suc below) rights a (λ next own. walk_from m below next own a) e
walk_found m below n rights a e is = let at = words_found (suc below) m n a e is in walk_at m below n rights a at.0 e at.1 at.2

pub walk_lost : (m : Memory) (below n : ℕ) (rights : Rights) (a : ℕ) → found_at (suc below) m n a ≡ None → walk_from m (suc below) n rights a ≡ Missing
walk_lost m below n rights a is = walk_missing m below n rights a (nothing_found (suc below) m n a is)

table_in_some : (found : Option Meaning) (n : ℕ) → table_in found ≡ Some n → (own : Rights) × (found ≡ Some (entry.Table n own))
table_in_some (Some (entry.Table number own)) n is = let same : number ≡ n = cc in (own, ap (λ x. Some (entry.Table x own)) same)
table_in_some _ n is = cc

pub found_same : (level : ℕ) (m : Memory) (n a b : ℕ) → index_at level a ≡ index_at level b → found_at level m n a ≡ found_at level m n b
unfolding found_at
found_same level m n a b e = ap (λ i. option_map (meaning level) (word_at m n i)) e

-- ---- the tables on a path, by the definition

at_highest : (top : ℕ) (m : Memory) (root a : ℕ) → table_at top m root top a ≡ Some root
unfolding table_at
at_highest zero m root a = refl
at_highest (suc top) m root a =
    ap (λ b. if b then Some root else option_and_then (λ next. table_at top m next (suc top) a) (table_in (found_at (suc top) m root a)))
    (eq-eqb (suc top) (suc top) refl)

at_lower : (top : ℕ) (m : Memory) (root level a : ℕ) → level ≢ suc top
    → table_at (suc top) m root level a ≡ option_and_then (λ next. table_at top m next level a) (table_in (found_at (suc top) m root a))
unfolding table_at
at_lower top m root level a other =
    ap (λ b. if b then Some root else option_and_then (λ next. table_at top m next level a) (table_in (found_at (suc top) m root a)))
    (ne_eqb level (suc top) other)

above_lowest : (m : Memory) (root level a : ℕ) → level ≢ 0 → table_at 0 m root level a ≡ None
unfolding table_at
above_lowest m root level a other = ap (λ b. if b then Some root else None) (ne_eqb level 0 other)

none_above : (top : ℕ) (m : Memory) (root level a : ℕ) → top < level → table_at top m root level a ≡ None
none_above zero m root level a high = above_lowest m root level a (λ e. omega arith)
none_above (suc top) m root level a high = at_lower top m root level a (λ e. omega arith)
    ∙ by (λ next. none_above top m next level a (omega arith)) (table_in (found_at (suc top) m root a))
  where
    by : ((next : ℕ) → table_at top m next level a ≡ None) → (o : Option ℕ) → option_and_then (λ next. table_at top m next level a) o ≡ None
    by none None = refl
    by none (Some next) = none next

-- each table below the highest is that to which the table above it leads
one_down : (top : ℕ) (m : Memory) (root level a : ℕ) → level < top
    → table_at top m root level a ≡ option_and_then (λ n. table_in (found_at (suc level) m n a)) (table_at top m root (suc level) a)
one_down zero m root level a low = absurd (omega arith)
one_down (suc top) m root level a low = at_lower top m root level a (λ e. omega arith) ∙ ⊎_elim
    (λ (same : level ≡ top).
    subst (λ l. option_and_then (λ next. table_at top m next l a) (table_in (found_at (suc top) m root a)) ≡ option_and_then
    (λ n. table_in (found_at (suc l) m n a)) (table_at (suc top) m root (suc l) a))
    (sym same) (highest (table_in (found_at (suc top) m root a))
    ∙ sym (ap (option_and_then (λ n. table_in (found_at (suc top) m n a))) (at_highest (suc top) m root a))))
    (λ (other : level ≢ top).
    lower (λ next. one_down top m next level a (omega (arith, low, other))) (table_in (found_at (suc top) m root a))
    ∙ sym (ap (option_and_then (λ n. table_in (found_at (suc level) m n a))) (at_lower top m root (suc level) a (λ e. other (omega arith)))))
    (cases_eq level top)
  where
    highest : (o : Option ℕ) → option_and_then (λ next. table_at top m next top a) o ≡ o
    highest None = refl
    highest (Some next) = at_highest top m next a

    lower : ((next : ℕ) → table_at top m next level a ≡ option_and_then (λ n. table_in (found_at (suc level) m n a)) (table_at top m next (suc level) a))
        → (o : Option ℕ)
        → option_and_then (λ next. table_at top m next level a) o
        ≡ option_and_then (λ n. table_in (found_at (suc level) m n a)) (option_and_then (λ next. table_at top m next (suc level) a) o)
    lower down None = refl
    lower down (Some next) = down next

-- ---- the tables on a path

module _ (top : ℕ) (root : ℕ) where
  pub table_first : (m : Memory) (a : ℕ) → table_at top m root top a ≡ Some root
  table_first m a = at_highest top m root a

  -- the level of a table that is reached
  pub reached_within : (m : Memory) (level a n : ℕ) → table_at top m root level a ≡ Some n → level ≤ top
  reached_within m level a n at = ⊎_elim
      (λ (high : top < level). let none = none_above top m root level a high in cc)
      (λ (le : level ≤ top). le)
      (cases_lt top level)

  pub table_next : (m : Memory) (level a n : ℕ) → table_at top m root (suc level) a ≡ Some n
      → table_at top m root level a ≡ table_in (found_at (suc level) m n a)
  table_next m level a n is =
      one_down top m root level a (omega (arith, reached_within m (suc level) a n is)) ∙ ap (option_and_then (λ n. table_in (found_at (suc level) m n a))) is

  pub table_below : (m : Memory) (level below a n : ℕ) → level ≡ suc below → table_at top m root level a ≡ Some n
      → table_at top m root below a ≡ table_in (found_at level m n a)
  table_below m level below a n one is =
      subst (λ l. table_at top m root below a ≡ table_in (found_at l m n a)) (sym one)
      (table_next m below a n (subst (λ l. table_at top m root l a ≡ Some n) one is))

  pub table_none : (m : Memory) (level a : ℕ) → level < top → table_at top m root (suc level) a ≡ None → table_at top m root level a ≡ None
  table_none m level a low is = one_down top m root level a low ∙ ap (option_and_then (λ n. table_in (found_at (suc level) m n a))) is

  -- a path that has ended leads to no table
  pub none_past : (m : Memory) (level j a : ℕ) → level ≤ top → j ≤ level → table_at top m root level a ≡ None → table_at top m root j a ≡ None
  none_past m zero j a high low is = subst (λ l. table_at top m root l a ≡ None) (omega arith) is
  none_past m (suc level) j a high low is = ⊎_elim
      (λ (same : j ≡ suc level). subst (λ l. table_at top m root l a ≡ None) (sym same) is)
      (λ (other : j ≢ suc level). none_past m level j a (omega arith) (omega arith) (table_none m level a (omega arith) is))
      (cases_eq j (suc level))

  -- the table before one that is reached, and the entry that leads on
  pub table_before : (m : Memory) (level a n : ℕ) → level < top → table_at top m root level a ≡ Some n
      → (p : ℕ) × (own : Rights) × (table_at top m root (suc level) a ≡ Some p) × (found_at (suc level) m p a ≡ Some (entry.Table n own))
  table_before m level a n low is =
      elim (table_at top m root (suc level) a) as (λ o. table_at top m root (suc level) a ≡ o
      → (p : ℕ) × (own : Rights) × (table_at top m root (suc level) a ≡ Some p) × (found_at (suc level) m p a ≡ Some (entry.Table n own))) [
        | None ↦ λ none. let nothing = table_none m level a low none in cc
        | Some p ↦ λ at. let step = table_in_some (found_at (suc level) m p a) n (sym (table_next m level a p at) ∙ is) in (p, step.0, at, step.1)
      ] refl

  -- ---- from the root down

  -- what holds of the root's level, and at each level below one at which it holds, holds at each level
  from_root : (P : ℕ → Type 0) → P top → ((level : ℕ) → level < top → P (suc level) → P level) → (level : ℕ) → level ≤ top → P level
  from_root P first next level le = by (top - level) level (omega arith) where
    by : (d level : ℕ) → d + level ≡ top → P level
    by zero level e = subst P (sym (omega arith)) first
    by (suc d) level e = next level (omega arith) (by d (suc level) (omega arith))

  -- the same path leads to the same tables
  pub same_table : (m : Memory) (level a b : ℕ) → SamePath top (suc level) a b → table_at top m root level a ≡ table_at top m root level b
  same_table m level a b same = ⊎_elim
      (λ (high : top < level). none_above top m root level a high ∙ sym (none_above top m root level b high))
      (λ (le : level ≤ top). from_root (λ l. SamePath top (suc l) a b → table_at top m root l a ≡ table_at top m root l b)
      (λ any. table_first m a ∙ sym (table_first m b))
      (λ l low before same. one l low (before (λ i from to. same i (omega arith) to)) (same (suc l) (omega arith) (omega arith)))
      level le same)
      (cases_lt top level)
    where
      one : (l : ℕ) → l < top → table_at top m root (suc l) a ≡ table_at top m root (suc l) b → index_at (suc l) a ≡ index_at (suc l) b
          → table_at top m root l a ≡ table_at top m root l b
      one l low before here =
          elim (table_at top m root (suc l) a) as (λ o. table_at top m root (suc l) a ≡ o → table_at top m root l a ≡ table_at top m root l b) [
            | None ↦ λ none. table_none m l a low none ∙ sym (table_none m l b low (sym before ∙ none))
            | Some n ↦ λ at. table_next m l a n at ∙ ap table_in (found_same (suc l) m n a b here) ∙ sym (table_next m l b n (sym before ∙ at))
          ] refl

  -- ---- what is found alike is walked alike

  -- above a level, the same is found on the path of an address
  abbrev pub AreAlike : Memory → Memory → ℕ → ℕ → Type 0
  AreAlike m m' b level = (j n : ℕ) → level < j → table_at top m root j b ≡ Some n → found_at j m' n b ≡ found_at j m n b

  pub agree_table : (m m' : Memory) (b level : ℕ) → AreAlike m m' b level → table_at top m' root level b ≡ table_at top m root level b
  agree_table m m' b level alike = ⊎_elim
      (λ (high : top < level). none_above top m' root level b high ∙ sym (none_above top m root level b high))
      (λ (le : level ≤ top). from_root (λ l. AreAlike m m' b l → table_at top m' root l b ≡ table_at top m root l b)
      (λ any. table_first m' b ∙ sym (table_first m b))
      (λ l low before alike. one l low (before (λ j n above at. alike j n (omega arith) at)) (λ n at. alike (suc l) n (omega arith) at))
      level le alike)
      (cases_lt top level)
    where
      one : (l : ℕ) → l < top → table_at top m' root (suc l) b ≡ table_at top m root (suc l) b
          → ((n : ℕ) → table_at top m root (suc l) b ≡ Some n → found_at (suc l) m' n b ≡ found_at (suc l) m n b)
          → table_at top m' root l b ≡ table_at top m root l b
      one l low before here =
          elim (table_at top m root (suc l) b) as (λ o. table_at top m root (suc l) b ≡ o → table_at top m' root l b ≡ table_at top m root l b) [
            | None ↦ λ none. table_none m' l b low (before ∙ none) ∙ sym (table_none m l b low none)
            | Some n ↦ λ at. table_next m' l b n (before ∙ at) ∙ ap table_in (here n at) ∙ sym (table_next m l b n at)
          ] refl

  abbrev Goes : Memory → Memory → ℕ → ℕ → Type 0
  Goes m m' b level = (next : ℕ) (own : Rights) → table_at top m root level b ≡ Some next → walk_from m' level next own b ≡ walk_from m level next own b

  agree_from : (m m' : Memory) (b : ℕ) → AreAlike m m' b 0 → (level n : ℕ) (rights : Rights) → table_at top m root level b ≡ Some n
      → walk_from m' level n rights b ≡ walk_from m level n rights b
  agree_from m m' b alike zero n rights at = walk_nowhere m' n rights b ∙ sym (walk_nowhere m n rights b)
  agree_from m m' b alike (suc level) n rights at =
      by (λ next own reached. agree_from m m' b alike level next own reached) (found_at (suc level) m n b) refl where
        same : found_at (suc level) m' n b ≡ found_at (suc level) m n b
        same = alike (suc level) n (omega arith) at

        on : Goes m m' b level → (e : Meaning) → found_at (suc level) m n b ≡ Some e
            → walk_entry (suc level) rights b (λ next own. walk_from m' level next own b) e ≡ walk_entry (suc level) rights b
            (λ next own. walk_from m level next own b) e
        on go (entry.Table next own) is = go next (intersection rights own) (table_next m level b n at ∙ ap table_in is)
        on go _ is = refl

        by : Goes m m' b level → (o : Option Meaning) → found_at (suc level) m n b ≡ o
            → walk_from m' (suc level) n rights b ≡ walk_from m (suc level) n rights b
        by go None is = walk_lost m' level n rights b (same ∙ is) ∙ sym (walk_lost m level n rights b is)
        by go (Some e) is = walk_found m' level n rights b e (same ∙ is) ∙ on go e is ∙ sym (walk_found m level n rights b e is)

  pub agree_walk : (m m' : Memory) (b : ℕ) → AreAlike m m' b 0 → walk_from m' top root all_rights b ≡ walk_from m top root all_rights b
  agree_walk m m' b alike = agree_from m m' b alike top root all_rights (table_first m b)

-- ---- a walk from a table on its path, in a tree

module _ {top : ℕ} {m : Memory} {root : ℕ} (tree : IsTree top m root) (b : ℕ) where
  walk_reaches : (level n : ℕ) → table_at top m root level b ≡ Some n → walk_from m top root all_rights b ≡ walk_from m level n all_rights b
  walk_reaches level n at =
      from_root top root (λ l. (n : ℕ) → table_at top m root l b ≡ Some n → walk_from m top root all_rights b ≡ walk_from m l n all_rights b)
      (λ n at. ap (λ x. walk_from m top x all_rights b) (same_Some root n (sym (table_first top root m b) ∙ at)))
      (λ l low before n at.
      let above = table_before top root m l b n low at in
      let all : above.1 ≡ all_rights = tree.allows (suc l) b above.0 n above.1 above.2 above.3 in
      let found : found_at (suc l) m above.0 b ≡ Some (entry.Table n all_rights) = above.3 ∙ ap (λ own. Some (entry.Table n own)) all in
      before above.0 above.2 ∙ walk_found m l above.0 all_rights b (entry.Table n all_rights) found)
      level (reached_within top root m level b n at) n at

  -- the end of a walk, by the entry that leads no further
  pub walk_absent : (level n : ℕ) → 1 ≤ level → table_at top m root level b ≡ Some n → found_at level m n b ≡ Some entry.Absent
      → walk_from m top root all_rights b ≡ NotMapped
  walk_absent zero n some at is = absurd (omega arith)
  walk_absent (suc level) n some at is = walk_reaches (suc level) n at ∙ walk_found m level n all_rights b entry.Absent is

  pub walk_reserved : (level n : ℕ) → 1 ≤ level → table_at top m root level b ≡ Some n → found_at level m n b ≡ Some entry.Reserved
      → walk_from m top root all_rights b ≡ Reserved
  walk_reserved zero n some at is = absurd (omega arith)
  walk_reserved (suc level) n some at is = walk_reaches (suc level) n at ∙ walk_found m level n all_rights b entry.Reserved is

  pub walk_leaf : (level n phys : ℕ) (own : Rights) → 1 ≤ level → table_at top m root level b ≡ Some n → found_at level m n b ≡ Some (entry.Leaf phys own)
      → walk_from m top root all_rights b ≡ Mapped (phys + b % entry_bytes level) (size_at level) own
  walk_leaf zero n phys own some at is = absurd (omega arith)
  walk_leaf (suc level) n phys own some at is = walk_reaches (suc level) n at ∙ walk_found m level n all_rights b (entry.Leaf phys own) is
