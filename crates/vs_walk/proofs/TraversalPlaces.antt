-- Where the entries of a table are.
use Rattle.std.proofs.Common.{◌≡◌, ℕ, zero, suc, ◌+◌, ◌-◌, ◌*◌, ◌^◌, ◌<◌, ◌≤◌, sym, ap, subst, ◌∙◌, arith}
use lib.Pow.{pow_mono}
use Rattle.vs_types.specs.Depth.{entry_bytes, table_bytes}
use Rattle.vs_types.specs.Format.{Format, IsFormat}
use Rattle.vs_walk.specs.inside.Traversed.{Fits}
use Rattle.vs_walk.specs.declared.traversal.TablePosition.{TablePosition}
use Rattle.vs_walk.proofs.TranslatedBits.{entry_is_table, entry_some}
use Rattle.vs_walk.proofs.LawsOfFoundPages.{entry_fits}

-- an entry lies in what its table covers
pub entry_within : {R P : Type 0} (f : Format R P) → IsFormat f → (place : TablePosition R) (index : ℕ) → Fits f place → index < 512
    → place.start + index * entry_bytes place.level + entry_bytes place.level ≤ f.end
entry_within f is place index fits within = at_level place.level fits.lowest fits.in_range where
  at_level : (level : ℕ) → 1 ≤ level → place.start + table_bytes level ≤ f.end
      → place.start + index * entry_bytes level + entry_bytes level ≤ f.end
  at_level zero low in_range = absurd (omega arith)
  at_level (suc level) low in_range = let inside = entry_fits level place.start index within in omega arith

pub entry_begins : {R P : Type 0} (f : Format R P) → IsFormat f → (place : TablePosition R) (index : ℕ) → Fits f place → index < 512
    → place.start + index * entry_bytes place.level < f.end
entry_begins f is place index fits within = let below = entry_within f is place index fits within in let some = entry_some place.level in omega arith

-- the translated bits are some of 64
end_fits : {R P : Type 0} (f : Format R P) → IsFormat f → f.end ≤ 2 ^ 57
end_fits f is = subst (λ n. n ≤ 2 ^ 57) (sym is.end_is) (pow_mono {j = 57} (omega (arith, is.few_levels)))

-- and where it begins fits
pub start_fits : {R P : Type 0} (f : Format R P) → IsFormat f → (place : TablePosition R) (index : ℕ) → Fits f place → index < 512
    → place.start + index * entry_bytes place.level < 2 ^ 64
start_fits f is place index fits within =
    let begins = entry_begins f is place index fits within in let few = end_fits f is in omega arith

pub level_few : {R P : Type 0} (f : Format R P) → IsFormat f → (place : TablePosition R) → Fits f place → place.level ≤ 5
level_few f is place fits = omega (arith, fits.highest, is.few_levels)

-- the table that an entry leads to fits
pub fits_below : {R P : Type 0} (f : Format R P) → IsFormat f → (place : TablePosition R) (index start number : ℕ) (rights : R) → Fits f place → index < 512
    → 1 < place.level
    → start ≡ place.start + index * entry_bytes place.level → Fits f (record { level = place.level - 1; number = number; start = start; rights = rights })
fits_below f is place index start number rights fits within lower stands = record {
  lowest = omega arith;
  highest = let high = fits.highest in omega arith;
  in_range = subst (λ n. n + table_bytes (place.level - 1) ≤ f.end) (sym stands)
      (at_level place.level fits.lowest (entry_within f is place index fits within));
} where
  at_level : (level : ℕ) → 1 ≤ level → place.start + index * entry_bytes level + entry_bytes level ≤ f.end
      → place.start + index * entry_bytes level + table_bytes (level - 1) ≤ f.end
  at_level zero low inside = absurd (omega arith)
  at_level (suc level) low inside =
      let lower : level ≡ suc level - 1 = omega arith in
      subst (λ n. place.start + index * entry_bytes (suc level) + n ≤ f.end) (entry_is_table level ∙ ap (λ n. table_bytes n) lower) inside
