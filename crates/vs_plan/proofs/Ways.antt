-- The way of an address to a table: which tables are on it, how addresses that take it are walked.
use Rattle.std.proofs.Common.{◌≡◌, ℕ, suc, ◌-◌, ◌<◌, ◌≤◌, Some, refl, sym, ap, subst, ◌∙◌, arith, Option, None, ◌≢◌}
use Rattle.vs_types.specs.Depth.{levels}
use Rattle.vs_types.specs.declared.addresses.depth.Depth.{Depth}
use Rattle.vs_types.specs.declared.addresses.page.Rights.{Rights}
use Rattle.vs_types.specs.declared.entries.entry.Meaning.{Meaning}
use Rattle.vs_types.specs.declared.entries.entry.Meaning.TheVariants as entry
use Rattle.vs_walk.specs.Memory.{Memory}
use Rattle.vs_walk.specs.Walk.{walk, walk_entry, walk_from}
use Rattle.vs_space.specs.Path.{found_at, table_in, table_at, SamePath}
use Rattle.vs_space.proofs.Paths.{table_first, table_next, reached_within, found_same, walk_found, walk_lost}
use Rattle.vs_plan.specs.Way.{IsWay, Begins, Leads}
use Rattle.vs_types.specs.Page.{intersection}

-- an address is walked from a table on by what its entry there says
pub walk_level : (m : Memory) (level n : ℕ) (rights : Rights) (b : ℕ) (e : Meaning) → 1 ≤ level → found_at level m n b ≡ Some e
    → walk_from m level n rights b ≡ walk_entry level rights b (λ next own. walk_from m (level - 1) next own b) e
walk_level m level n rights b e some found = by (level - 1) (omega arith) where
  by : (below : ℕ) → level ≡ suc below → walk_from m level n rights b ≡ walk_entry level rights b (λ next own. walk_from m below next own b) e
  by below one = subst (λ l. found_at l m n b ≡ Some e → walk_from m l n rights b ≡ walk_entry l rights b (λ next own. walk_from m below next own b) e)
      (sym one) (walk_found m below n rights b e) found

-- where the same is found that leads to no table, walks end alike
pub walk_alike : (m m' : Memory) (below n : ℕ) (rights : Rights) (b : ℕ) → found_at (suc below) m' n b ≡ found_at (suc below) m n b → (o : Option Meaning)
    → found_at (suc below) m n b ≡ o → ((next : ℕ) (own : Rights) → o ≢ Some (entry.Table next own))
    → walk_from m' (suc below) n rights b ≡ walk_from m (suc below) n rights b
walk_alike m m' below n rights b same None is ends = walk_lost m' below n rights b (same ∙ is) ∙ sym (walk_lost m below n rights b is)
walk_alike m m' below n rights b same (Some (entry.Table next own)) is ends = absurd (ends next own refl)
walk_alike m m' below n rights b same (Some e) is ends = walk_found m' below n rights b e (same ∙ is) ∙ sym (walk_found m below n rights b e is)

module _ {depth : Depth} {m : Memory} {root a : ℕ} where
  pub way_table : (level n : ℕ) (rights : Rights) → IsWay depth m root a level n rights → table_at (levels depth) m root level a ≡ Some n
  way_table level n rights Begins = table_first (levels depth) root m a
  way_table level n rights (Leads l p next above own way found) =
      table_next (levels depth) root m l a p (way_table (suc l) p above way) ∙ ap table_in found

  pub way_within : (level n : ℕ) (rights : Rights) → IsWay depth m root a level n rights → level ≤ levels depth
  way_within level n rights way = reached_within (levels depth) root m level a n (way_table level n rights way)

  -- addresses that take the way are walked from its table on
  pub way_walk : (level n : ℕ) (rights : Rights) → IsWay depth m root a level n rights → (b : ℕ) → SamePath (levels depth) (suc level) a b
      → walk depth m root b ≡ walk_from m level n rights b
  way_walk level n rights Begins b same = refl
  way_walk level n rights (Leads l p next above own way found) b same =
      way_walk (suc l) p above way b (λ i from to. same i (omega arith) to)
      ∙ walk_found m l p above b (entry.Table next own)
      (found_same (suc l) m p b a (sym (same (suc l) (omega arith) (way_within (suc l) p above way))) ∙ found)

  -- and addresses that take the entry for it too, by what that says
  pub walk_at : {level n : ℕ} {rights : Rights} → IsWay depth m root a level n rights → 1 ≤ level → (e : Meaning) → found_at level m n a ≡ Some e
      → (b : ℕ) → SamePath (levels depth) level a b
      → walk depth m root b ≡ walk_entry level rights b (λ next own. walk_from m (level - 1) next own b) e
  walk_at {level} {n} {rights} way some e found b same =
      way_walk level n rights way b (λ i from to. same i (omega arith) to)
      ∙ walk_level m level n rights b e some
      (found_same level m n b a (sym (same level (omega arith) (way_within level n rights way))) ∙ found)

  -- an entry that leads to a table leads the way on
  pub way_on : {level n next : ℕ} {rights own : Rights} → IsWay depth m root a level n rights → 1 ≤ level
      → found_at level m n a ≡ Some (entry.Table next own) → IsWay depth m root a (level - 1) next (intersection rights own)
  way_on {level} {n} {next} {rights} {own} way some found = by (level - 1) (omega arith) where
    by : (below : ℕ) → level ≡ suc below → IsWay depth m root a below next (intersection rights own)
    by below one = Leads below n next rights own (subst (λ l. IsWay depth m root a l n rights) one way)
        (subst (λ l. found_at l m n a ≡ Some (entry.Table next own)) one found)

  -- where the same is found on it, it is the same way
  pub way_kept : (m' : Memory) (level n : ℕ) (rights : Rights) → IsWay depth m root a level n rights
      → ((j q : ℕ) → level < j → table_at (levels depth) m root j a ≡ Some q → found_at j m' q a ≡ found_at j m q a)
      → IsWay depth m' root a level n rights
  way_kept m' level n rights Begins alike = Begins
  way_kept m' level n rights (Leads l p next above own way found) alike =
      Leads l p next above own (way_kept m' (suc l) p above way (λ j q over at. alike j q (omega arith) at))
      (alike (suc l) p (omega arith) (way_table (suc l) p above way) ∙ found)

  -- an address that takes the same entries has it too
  pub way_shared : (b : ℕ) (level n : ℕ) (rights : Rights) → IsWay depth m root a level n rights → SamePath (levels depth) (suc level) a b
      → IsWay depth m root b level n rights
  way_shared b level n rights Begins same = Begins
  way_shared b level n rights (Leads l p next above own way found) same =
      Leads l p next above own (way_shared b (suc l) p above way (λ i from to. same i (omega arith) to))
      (found_same (suc l) m p b a (sym (same (suc l) (omega arith) (way_within (suc l) p above way))) ∙ found)
