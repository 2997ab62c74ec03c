-- How the table count changes with one page, by what is mapped on its path.
use Rattle.std.proofs.Common.{◌≡◌, ◌≢◌, ℕ, zero, suc, ◌+◌, ◌-◌, ◌*◌, ◌/◌, ◌^◌, ◌<◌, ◌≤◌, true, false, cond, nat_eq, nat_lt, Some, None, IsTrue, ⊎_elim, refl}
use Rattle.std.proofs.Common.{sym, ap, ◌∙◌, subst, arith}
use lib.Pow.{shr-shr}
use Rattle.std.specs.FinMap as finite
use Rattle.std.specs.Set.{is_member}
use Rattle.std.proofs.lemmas.Bool.{cases_lt}
use Rattle.vs_types.specs.declared.addresses.depth.Depth.{Depth}
use Rattle.vs_types.specs.declared.addresses.page.Page.{Page}
use Rattle.vs_types.specs.Depth.{levels, table_bytes, IsCanonical}
use Rattle.vs_types.specs.Page.{level_of, bytes_of, covers, IsPage}
use Rattle.vs_types.specs.Space.{Space, pages, Holds, IsSpace, page_at, tables_of_level, tables_of_levels, table_count}
use Rattle.vs_types.proofs.Pages.{level_some, covers_base, covers_means}
use Rattle.vs_types.proofs.Spaces.{holds_listed, page_at_means}
use Rattle.vs_types.proofs.Counts.{member_comes, member_goes}
use Rattle.vs_types.proofs.TableCounts.{has_table, stretches, tables_with, tables_without}
use Rattle.vs_walk.specs.declared.walk.Walk.TheVariants.{NotMapped}
use Rattle.vs_space.specs.Tree.{NothingUnder}
use Rattle.vs_space.specs.Table.{PageTable, IsTableOf}
use Rattle.vs_space.proofs.Regions.{walk_in, same_stretch, stretch_same, block, in_block, walked_to_page, walked_to_nothing}

-- ---- the tables that a page needs, by the levels at which a smaller page begins in its stretch

module _ {depth : Depth} {space : Space} (is : IsSpace depth space) (page : Page) (is_new : IsSpace depth (finite.insert space page.base page))
    (absent : (q : Page) → Holds space q → q.base ≢ page.base) (stop : ℕ) (own : level_of page.size ≤ stop)
    (fresh : (level : ℕ) → level_of page.size ≤ level → level < stop → is_member nat_eq (stretches level space) (page.base / table_bytes level) ≡ false) where
  below_stop : (n : ℕ) → n < stop → tables_of_levels n (pages (finite.insert space page.base page)) ≡ (n + 1 - level_of page.size) + tables_of_levels n
      (pages space)
  below_stop zero lt = omega (arith, level_some page.size)
  below_stop (suc n) lt = ⊎_elim
      (λ (small : suc n < level_of page.size).
      let here = tables_without is page is_new absent (suc n) small in
      let rest = below_stop n (omega arith) in
      omega arith)
      (λ (large : level_of page.size ≤ suc n).
      let here = tables_with is page is_new absent (suc n) large ∙ ap (λ b. cond b 0 1 + tables_of_level (suc n) (pages space)) (fresh (suc n) large lt) in
      let rest = below_stop n (omega arith) in
      omega arith)
      (cases_lt (suc n) (level_of page.size))

  module _ (last : ℕ) (there : (level : ℕ) → stop ≤ level → level ≤ last → is_member nat_eq (stretches level space) (page.base / table_bytes level) ≡ true)
    where
      from_stop : (d n : ℕ) → n + 1 ≡ stop + d → n ≤ last
          → tables_of_levels n (pages (finite.insert space page.base page)) ≡ (stop - level_of page.size) + tables_of_levels n (pages space)
      from_stop zero n e le = let same : n + 1 ≡ stop = omega arith in let base = below_stop n (omega arith) in omega arith
      from_stop (suc d) zero e le = absurd (omega (arith, level_some page.size))
      from_stop (suc d) (suc n) e le =
          let here = tables_with is page is_new absent (suc n) (omega arith)
          ∙ ap (λ b. cond b 0 1 + tables_of_level (suc n) (pages space)) (there (suc n) (omega arith) le) in
          let rest = from_stop d n (omega arith) (omega arith) in
          omega arith

      pub levels_added : stop ≤ last + 1 → tables_of_levels last (pages (finite.insert space page.base page))
          ≡ (stop - level_of page.size) + tables_of_levels last (pages space)
      levels_added le = from_stop (last + 1 - stop) last (omega arith) (omega arith)

-- ---- whether a smaller page begins in the stretch of an address, by the walks

module _ {t : PageTable} {space : Space} (of : IsTableOf t space) (base : ℕ) (canonical : IsCanonical t.depth base) (level : ℕ)
    (below : level < levels t.depth) where
  -- where nothing is mapped, no page begins
  pub none_begins : NothingUnder t.depth t.memory t.root (suc level) base → is_member nat_eq (stretches level space) (base / table_bytes level) ≡ false
  none_begins nothing =
      elim (is_member nat_eq (stretches level space) (base / table_bytes level))
      as (λ v. is_member nat_eq (stretches level space) (base / table_bytes level) ≡ v → v ≡ false) [
        | true ↦ λ v.
            let found = member_comes (λ (p : Page). p.base / table_bytes level) (λ p. nat_lt (bytes_of p.size) (table_bytes level)) (pages space)
            (base / table_bytes level) v in
            let held = (holds_listed of.is_space found.0).0 found.1 in
            let good = of.is_space.well_formed found.0 held in
            absurd (walked_to_page of found.0.base good.canonical found.0
            ((page_at_means of.is_space found.0.base found.0).1 (held, covers_base found.0))
            (nothing found.0.base good.canonical (stretch_same (levels t.depth) level base found.0.base (sym found.3))))
        | false ↦ λ v. refl
      ] refl

  -- two quotients by a higher power
  coarser : (a b e f : ℕ) → e ≤ f → a / 2 ^ e ≡ b / 2 ^ e → a / 2 ^ f ≡ b / 2 ^ f
  coarser a b e f le same =
      let whole : e + (f - e) ≡ f = omega arith in
      ap (λ n. a / 2 ^ n) (sym whole) ∙ sym (shr-shr a e (f - e)) ∙ ap (λ x. x / 2 ^ (f - e)) same ∙ shr-shr b e (f - e) ∙ ap (λ n. b / 2 ^ n) whole

  -- a page that has an address of the stretch, and not the base, begins in it
  begins_there : page_at space base ≡ None → (b : ℕ) (q : Page) → page_at space b ≡ Some q → base / table_bytes level ≡ b / table_bytes level
      → is_member nat_eq (stretches level space) (base / table_bytes level) ≡ true
  begins_there none b q at same = ⊎_elim
      (λ (large : level < level_of q.size).
      let up = coarser base b (12 + 9 * level) (3 + 9 * level_of q.size) (omega arith) same in
      let here = block (3 + 9 * level_of q.size) q.base base good.aligned (own ∙ sym up) in
      let covered = (covers_means q base).1 (here.0, here.1) in
      let page = (page_at_means of.is_space base q).1 (held.0, covered) in
      absurd (cc))
      (λ (small : level_of q.size ≤ level).
      let up = coarser q.base b (3 + 9 * level_of q.size) (12 + 9 * level) (omega arith) own in
      subst (λ n. is_member nat_eq (stretches level space) n ≡ true) (up ∙ sym same)
      (member_goes (λ (p : Page). p.base / table_bytes level) (λ p. nat_lt (bytes_of p.size) (table_bytes level)) (pages space) q
      ((holds_listed of.is_space q).1 held.0) (has_table q level small)))
      (cases_lt level (level_of q.size))
    where
      held : Holds space q × IsTrue (covers q b)
      held = (page_at_means of.is_space b q).0 at

      good : IsPage t.depth q
      good = of.is_space.well_formed q held.0

      own : q.base / 2 ^ (3 + 9 * level_of q.size) ≡ b / 2 ^ (3 + 9 * level_of q.size)
      own = let spans = (covers_means q b).0 held.1 in in_block (3 + 9 * level_of q.size) q.base b good.aligned spans.0 spans.1

  -- where something is mapped, and no page has the base, a smaller page begins
  pub some_begins : (NothingUnder t.depth t.memory t.root (suc level) base → ⊥) → page_at space base ≡ None
      → is_member nat_eq (stretches level space) (base / table_bytes level) ≡ true
  some_begins something none =
      elim (is_member nat_eq (stretches level space) (base / table_bytes level))
      as (λ v. is_member nat_eq (stretches level space) (base / table_bytes level) ≡ v → v ≡ true) [
        | true ↦ λ v. refl
        | false ↦ λ v. absurd (something (λ b is_b same.
            elim (page_at space b) as (λ o. page_at space b ≡ o → walk_in t b ≡ NotMapped) [
              | None ↦ λ e. walked_to_nothing of b is_b e
              | Some q ↦ λ e. let yes = begins_there none b q e (same_stretch t.depth level base b canonical is_b below same) in absurd (cc)
            ] refl))
      ] refl

-- what a page adds to the table count, where the path of its base ends at the table of this level
pub count_added : {t : PageTable} {space : Space} → IsTableOf t space → (page : Page) (level : ℕ) → IsPage t.depth page
    → IsSpace t.depth (finite.insert space page.base page) → ((q : Page) → Holds space q → q.base ≢ page.base)
    → page_at space page.base ≡ None → level_of page.size ≤ level → level ≤ levels t.depth → NothingUnder t.depth t.memory t.root level page.base
    → ((j : ℕ) → level < j → j ≤ levels t.depth → NothingUnder t.depth t.memory t.root j page.base → ⊥)
    → table_count t.depth (finite.insert space page.base page) ≡ (level - level_of page.size) + table_count t.depth space
count_added {t} of page level good is_new absent none own below nothing something =
    let added = levels_added of.is_space page is_new absent level own
    (λ l from to. none_begins of page.base good.canonical l (omega arith) (λ b is_b same. nothing b is_b (λ i over under. same i (omega arith) under)))
    (levels t.depth - 1)
    (λ l from to. some_begins of page.base good.canonical l (omega (arith, level_some page.size))
    (something (suc l) (omega arith) (omega (arith, level_some page.size))) none)
    (omega (arith, level_some page.size)) in
    omega arith
