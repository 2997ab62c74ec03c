-- A space has few tables, whatever its pages: no more of a level than there are stretches that its tables cover.
use Rattle.std.proofs.Common.{◌≡◌, ℕ, zero, suc, ◌+◌, ◌-◌, ◌*◌, ◌/◌, ◌^◌, ◌<◌, ◌≤◌, nat_eq, nat_lt, true, sym, subst, ◌∙◌, arith}
use lib.Pow.{pow_mono, shr_lt}
use Rattle.std.specs.Set.{is_member, unique_keys}
use Rattle.std.proofs.lemmas.Map.Steps.{length-le_from_distinct_below}
use Rattle.vs_types.specs.declared.addresses.depth.Depth.{Depth}
use Rattle.vs_types.specs.declared.addresses.depth.Depth.TheVariants.{Four, Five}
use Rattle.vs_types.specs.declared.addresses.page.Page.{Page}
use Rattle.vs_types.specs.Depth.{levels, table_bytes}
use Rattle.vs_types.specs.Page.{bytes_of}
use Rattle.vs_types.specs.Space.{Space, pages, IsSpace, tables_of_level, tables_of_levels, table_count}
use Rattle.vs_types.proofs.Counts.{member_comes}
use Rattle.vs_types.proofs.Lists.{unique_has, unique_distinct}
use Rattle.vs_types.proofs.Pages.{canonical_fits}
use Rattle.vs_types.proofs.Spaces.{holds_listed}
use Rattle.vs_types.proofs.TableCounts.{stretches}

-- an address lies in one of the first 2 ^ 43 stretches of 2 MiB, or of more
stretch_below : (address k : ℕ) → address < 2 ^ 64 → 21 ≤ k → address / 2 ^ k < 2 ^ 43
stretch_below address k fits some =
    let more : 64 ≤ 43 + k = omega arith in
    let wide : 2 ^ 64 ≤ 2 ^ (43 + k) = pow_mono {i = 64} {j = 43 + k} more in
    let below : address < 2 ^ (43 + k) = omega (arith, fits, wide) in
    shr_lt {n = address} 43 k below

module _ {depth : Depth} {space : Space} (is : IsSpace depth space) where
  stretches_below : (level : ℕ) → 0 < level → (q : ℕ) → is_member nat_eq (unique_keys nat_eq (stretches level space)) q ≡ true → q < 2 ^ 43
  stretches_below level some q m =
      let found = member_comes (λ (p : Page). p.base / table_bytes level) (λ p. nat_lt (bytes_of p.size) (table_bytes level)) (pages space) q
      (sym (unique_has (stretches level space) q) ∙ m) in
      let page = found.0 in
      let fits : page.base < 2 ^ 64 = canonical_fits depth page.base (is.well_formed page ((holds_listed is page).0 found.1)).canonical in
      subst (λ n. n < 2 ^ 43) found.3 (stretch_below page.base (12 + 9 * level) fits (omega arith))

  few_of_level : (level : ℕ) → 0 < level → tables_of_level level (pages space) ≤ 2 ^ 43
  few_of_level level some =
      length-le_from_distinct_below (unique_keys nat_eq (stretches level space)) (2 ^ 43) (unique_distinct (stretches level space)) (stretches_below level some)

  few_of_levels : (n : ℕ) → tables_of_levels n (pages space) ≤ n * 2 ^ 43
  few_of_levels zero = omega arith
  few_of_levels (suc n) = omega (arith, few_of_level (suc n) (omega arith), few_of_levels n)

pub few_levels : (depth : Depth) → levels depth - 1 ≤ 4
few_levels Four = omega arith
few_levels Five = omega arith

-- fewer than 2 ^ 46 tables: the count never overflows
pub few_tables : {depth : Depth} {space : Space} → IsSpace depth space → table_count depth space < 2 ^ 46
few_tables {depth} {space} is = omega (arith, few_of_levels is (levels depth - 1), few_levels depth)
