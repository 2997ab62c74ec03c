-- A descent through the tables, table by table.
use Rattle.std.proofs.Common.{◌≡◌, ◌≢◌, ℕ, suc, ◌-◌, ◌<◌, ◌≤◌, List, [], ◌∷◌, length, Some, None, ⊎_elim, refl, sym, ap, subst, ◌∙◌, arith}
use Rattle.std.specs.Prelude.{option_map, slice_index, slice_set}
use Rattle.std.proofs.lemmas.Bool.{cases_eq}
use Rattle.std.proofs.lemmas.List.{get_or-set_same, get_or-set_other, length-set}
use Rattle.std.proofs.lemmas.Option.{same_Some}
use Rattle.vs_types.specs.Depth.{levels, index_at}
use Rattle.vs_types.specs.Entry.{meaning}
use Rattle.vs_types.specs.declared.addresses.depth.Depth.{Depth}
use Rattle.vs_types.specs.declared.addresses.page.Rights.{Rights}
use Rattle.vs_types.specs.declared.entries.entry.Meaning.{Meaning}
use Rattle.vs_types.specs.declared.entries.entry.Meaning.TheVariants as entry
use Rattle.vs_walk.specs.Memory.{Memory}
use Rattle.vs_walk.proofs.Walks.{few_levels}
use Rattle.vs_space.specs.Held.{word_at}
use Rattle.vs_space.specs.Path.{found_at, table_at, table_in}
use Rattle.vs_space.specs.Tree.{IsTree, IsReached, AreWritten}
use Rattle.vs_space.specs.inside.Descent.{IsDescent}
use Rattle.vs_space.proofs.Paths.{table_first, table_below}
use Rattle.vs_space.proofs.Written.{written_at}

pub entry_read : (level : ℕ) (m : Memory) (n a : ℕ) {index word : ℕ} {e : Meaning} → word_at m n index ≡ Some word → index ≡ index_at level a
    → e ≡ meaning level word → found_at level m n a ≡ Some e
unfolding found_at
entry_read level m n a got is reads = ap (λ i. option_map (meaning level) (word_at m n i)) (sym is) ∙ ap (option_map (meaning level)) got
    ∙ ap Some (sym reads)

-- the tables on the path of an address, from the root down to this level
pub record IsOnPath (depth : Depth) (memory : Memory) (root address lowest level number : ℕ) (path : List ℕ) : Type 0 where
  pub above : lowest ≤ level
  pub below : level ≤ levels depth
  pub long : length path ≡ 6
  pub last : number ≡ slice_index path level
  pub reached : (j : ℕ) → level ≤ j → j ≤ levels depth → table_at (levels depth) memory root j address ≡ Some (slice_index path j)

pub at_root : {depth : Depth} {m : Memory} {root a lowest level : ℕ} {path : List ℕ} → level ≡ levels depth → lowest ≤ levels depth → length path ≡ 6
    → ((j : ℕ) → j < 6 → slice_index path j ≡ root) → IsOnPath depth m root a lowest level root path
at_root {depth} {m} {root} {a} {level = level} {path = path} top low long same = record {
  above = omega arith;
  below = omega arith;
  long = long;
  last = sym (same level (omega (arith, few_levels depth)));
  reached = λ j from to.
      let highest : j ≡ levels depth = omega arith in
      subst (λ l. table_at (levels depth) m root l a ≡ Some (slice_index path j)) (sym highest)
      (table_first (levels depth) root m a ∙ ap Some (sym (same j (omega (arith, few_levels depth)))));
}

-- what is no table leads to none
pub no_table : (e : Meaning) → ((n : ℕ) (own : Rights) → e ≢ entry.Table n own) → table_in (Some e) ≡ None
no_table (entry.Table n own) other = absurd (other n own refl)
no_table _ other = refl

module _ {depth : Depth} {m : Memory} {root a lowest level number : ℕ} {path : List ℕ} (on : IsOnPath depth m root a lowest level number path) where
  at : table_at (levels depth) m root level a ≡ Some number
  at = on.reached level (omega arith) on.below ∙ ap Some (sym on.last)

  -- its words are as written
  pub written_on_path : IsTree (levels depth) m root → IsReached (levels depth) m root → AreWritten level m number
  written_on_path tree all = written_at tree all level a number at

  pub stops : {e : Meaning} → found_at level m number a ≡ Some e → (lowest < level → table_in (Some e) ≡ None) → IsDescent depth m root a lowest level path e
  stops {e} found ends = record {
    above = on.above;
    below = on.below;
    reached = on.reached;
    is = subst (λ n. found_at level m n a ≡ Some e) on.last found;
    ends = ends;
  }

  pub goes_down : {next : ℕ} {own : Rights} → 1 ≤ lowest → found_at level m number a ≡ Some (entry.Table next own) → lowest ≢ level
      → IsOnPath depth m root a lowest (level - 1) next (slice_set path (level - 1) next)
  goes_down {next} some found other = record {
    above = omega (arith, on.above);
    below = omega (arith, on.below);
    long = length-set path (level - 1) next ∙ on.long;
    last = sym here;
    reached = λ j from to. ⊎_elim
        (λ (same : j ≡ level - 1).
        subst (λ i. table_at (levels depth) m root i a ≡ Some (slice_index (slice_set path (level - 1) next) i)) (sym same) (reaches ∙ ap Some (sym here)))
        (λ (apart : j ≢ level - 1).
        on.reached j (omega (arith, on.above)) to ∙ ap Some (sym (get_or-set_other path (level - 1) j next 0 apart)))
        (cases_eq j (level - 1));
  } where
    here : slice_index (slice_set path (level - 1) next) (level - 1) ≡ next
    here = get_or-set_same path (level - 1) next 0 (omega (arith, on.long, on.below, few_levels depth, on.above))

    reaches : table_at (levels depth) m root (level - 1) a ≡ Some next
    reaches = table_below (levels depth) root m level (level - 1) a number (omega (arith, on.above)) at ∙ ap table_in found

pub all_root : (root j : ℕ) → j < 6 → slice_index (root ∷ root ∷ root ∷ root ∷ root ∷ root ∷ []) j ≡ root
all_root root (suc (suc (suc (suc (suc (suc j)))))) lt = absurd (omega arith)
all_root root _ lt = refl

-- the highest table on the path is the root
pub path_root : {depth : Depth} {m : Memory} {root a lowest level : ℕ} {path : List ℕ} {e : Meaning} → IsDescent depth m root a lowest level path e
    → slice_index path (levels depth) ≡ root
path_root {depth} {m} {root} {a} descent =
    same_Some _ _ (sym (descent.reached (levels depth) descent.below (omega arith)) ∙ table_first (levels depth) root m a)
