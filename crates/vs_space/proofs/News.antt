-- A page table with a root and nothing else.
use Rattle.std.proofs.Common.{◌≡◌, ◌≢◌, ℕ, ◌+◌, ◌-◌, ◌≤◌, List, Some, None, ⊎_elim, refl, sym, ap, subst, ◌∙◌, arith, ◌^◌, ◌<◌}
use Rattle.std.specs.Prelude.{IsSome}
use Rattle.std.proofs.lemmas.Bool.{cases_eq}
use Rattle.std.specs.FinMap as finite
use Rattle.std.specs.Ordering.{nat_cmp}
use Rattle.std.proofs.lemmas.Option.{same_Some}
use Rattle.vs_types.specs.Depth.{levels}
use Rattle.vs_types.specs.Space.{no_pages}
use Rattle.vs_types.specs.declared.addresses.depth.Depth.{Depth}
use Rattle.vs_types.specs.declared.entries.entry.Meaning.TheVariants as entry
use Rattle.vs_types.proofs.Spaces.{no_pages_space, look_of_nothing}
use Rattle.vs_arena.specs.Store.{Lenders, zeros}
use Rattle.vs_walk.specs.Memory.{Memory}
use Rattle.vs_walk.specs.Walk.{as_walk, TranslatesAs}
use Rattle.vs_space.specs.Path.{found_at, table_at, table_in}
use Rattle.vs_space.specs.Tree.{IsTree, IsReached, AreWritten}
use Rattle.vs_space.specs.Table.{PageTable, IsTableOf}
use Rattle.vs_space.specs.Invariant.{IsPageTable}
use Rattle.vs_types.proofs.Maps.{get-insert_same, get-insert_other, len-insert_free}
use Rattle.vs_space.proofs.Numbered.{whole-empty, whole-zeros}
use Rattle.vs_space.proofs.Paths.{reached_within, table_first, table_below, none_past, walk_absent}
use Rattle.vs_space.proofs.Writes.{used_some}
use Rattle.vs_space.proofs.Links.{found_in_zeros}
use Rattle.vs_space.proofs.Written.{written_clear}
use Rattle.vs_types.proofs.Pages.{three_levels}
use Rattle.vs_types.proofs.TableCounts.{tables_of_nothing}

module _ (depth : Depth) (root : ℕ) where
  abbrev alone : Memory
  alone = finite.insert finite.empty root zeros

  clear : finite.get alone root ≡ Some zeros
  clear = get-insert_same finite.empty root zeros

  some_levels : 1 ≤ levels depth
  some_levels = omega (arith, three_levels depth)

  none_below : (level a : ℕ) → level < levels depth → table_at (levels depth) alone root level a ≡ None
  none_below level a low =
      none_past (levels depth) root alone (levels depth - 1) level a (omega arith) (omega arith)
      (table_below (levels depth) root alone (levels depth) (levels depth - 1) a root (omega (arith, some_levels)) (table_first (levels depth) root alone a)
      ∙ ap table_in (found_in_zeros (levels depth) alone root a clear))

  only_root : (level a n : ℕ) → table_at (levels depth) alone root level a ≡ Some n → (level ≡ levels depth) × (n ≡ root)
  only_root level a n r = ⊎_elim
      (λ (same : level ≡ levels depth). (
        same,
        same_Some n root
            (sym r ∙ ap (λ l. table_at (levels depth) alone root l a) same ∙ table_first (levels depth) root alone a),
      ))
      (λ (other : level ≢ levels depth).
      let nowhere = none_below level a (omega (arith, other, reached_within (levels depth) root alone level a n r)) in
      absurd (cc))
      (cases_eq level (levels depth))

  tree_alone : IsTree (levels depth) alone root
  tree_alone = record {
    in_use = λ level a n r. subst (λ q. IsSome (finite.get alone q)) (sym (only_root level a n r).1) (used_some alone root zeros clear);
    once = λ j k a b n r s. ((only_root j a n r).0 ∙ sym (only_root k b n s).0, λ i from to. absurd (omega (arith, (only_root j a n r).0)));
    allows = λ level a n next own r found.
        let there : found_at level alone root a ≡ Some (entry.Table next own) =
        subst (λ q. found_at level alone q a ≡ Some (entry.Table next own)) (only_root level a n r).1 found in
        let wrong : Some (entry.Table next own) ≡ Some entry.Absent = sym there ∙ found_in_zeros level alone root a clear in
        cc;
  }

  reached_alone : IsReached (levels depth) alone root
  reached_alone = record {
    path = λ n used. ⊎_elim
        (λ (same : n ≡ root). (
          levels depth,
          0,
          table_first (levels depth) root alone 0
              ∙ ap Some (sym same),
          subst (AreWritten (levels depth) alone) (sym same) (written_clear (levels depth) alone root clear),
        ))
        (λ (other : n ≢ root).
        let none : IsSome {T = List ℕ} None = subst IsSome (get-insert_other finite.empty root zeros n other ∙ finite.get-empty nat_cmp n) used in
        absurd (cc))
        (cases_eq n root);
  }

  translates_alone : TranslatesAs depth alone root no_pages
  translates_alone = λ a canonical.
      walk_absent tree_alone a (levels depth) root some_levels (table_first (levels depth) root alone a)
      (found_in_zeros (levels depth) alone root a clear)
      ∙ ap as_walk (sym (look_of_nothing a))

  module _ (first limit : ℕ) (lenders : Lenders) where
    abbrev new : PageTable
    new = record { depth = depth; base = first; limit = limit; root = root; memory = finite.insert finite.empty root zeros; lenders = lenders }

    pub new_is_empty : IsTableOf new no_pages
    new_is_empty = record { is_space = no_pages_space depth; translates = translates_alone }

    pub new_table : root < 2 ^ 40 → IsPageTable new
    new_table fits = record {
      tree = tree_alone;
      filled = record { filled = λ level a n low r nothing. absurd (omega (arith, low, (only_root level a n r).0)) };
      reached = reached_alone;
      whole = whole-zeros finite.empty root (whole-empty finite.empty refl);
      root_fits = fits;
      some_space = (
        no_pages,
        record {
          is_of = new_is_empty;
          counted = len-insert_free finite.empty root zeros (finite.get-empty nat_cmp root) ∙ ap (λ n. n + 1) (finite.len-empty nat_cmp (List ℕ))
              ∙ sym (tables_of_nothing depth);
        },
      );
    }
