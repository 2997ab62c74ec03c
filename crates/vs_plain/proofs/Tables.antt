-- How the table count changes with one page, by the pages next to it.
use Rattle.std.proofs.Common.{◌≡◌, ◌≢◌, ℕ, zero, suc, ◌+◌, ◌-◌, ◌*◌, ◌/◌, ◌%◌, ◌^◌, ◌<◌, ◌≤◌, true, false, cond, ◌||◌, nat_eq, nat_lt, List, Option, Some, None}
use Rattle.std.proofs.Common.{IsTrue, ⊎_elim, refl, sym, ap, ◌∙◌, subst, mod-lt, mod-eq_of_lt, arith}
use lib.Pow.{pow_pos, pow_mono, shr_mono, shr-shr, split, mod-mod-pow}
use Rattle.std.specs.FinMap as finite
use Rattle.std.specs.Cmp.{both_ways}
use Rattle.std.specs.Set.{is_member}
use Rattle.std.proofs.lemmas.Bool.{cases_lt, eq-eqb, eqb-true, or_left, or_right, or_cases}
use Rattle.vs_types.specs.declared.addresses.depth.Depth.{Depth}
use Rattle.vs_types.specs.declared.addresses.page.Page.{Page}
use Rattle.vs_types.specs.Depth.{table_bytes}
use Rattle.vs_types.specs.Page.{level_of, bytes_of, covers, overlaps, IsPage}
use Rattle.vs_types.specs.Space.{Space, pages, Holds, IsSpace, least_overlapped, tables_of_level, tables_of_levels}
use Rattle.vs_types.proofs.Pages.{bytes_positive, covers_base, overlaps_means, overlaps_shares}
use Rattle.vs_types.proofs.Spaces.{holds_listed, insert_space}
use Rattle.vs_types.proofs.Steps.{alone}
use Rattle.vs_types.proofs.Counts.{member_comes, member_goes}
use Rattle.vs_types.proofs.TableCounts.{has_table, stretches, tables_with, tables_without}
use Rattle.vs_plain.specs.inside.PageMap.{IsLastUpTo, IsFirstFrom}
use Rattle.vs_plain.specs.inside.Tables.{begins_in_stretch}

pub aligned_down : (n i k : ℕ) → k ≤ i → n % 2 ^ i ≡ 0 → n % 2 ^ k ≡ 0
aligned_down n i k l e =
    let whole : (i - k) + k ≡ i = omega arith in
    sym (mod-mod-pow n (i - k) k) ∙ ap (λ m. n % 2 ^ m % 2 ^ k) whole ∙ ap (λ m. m % 2 ^ k) e ∙ mod-eq_of_lt (pow_pos k)

-- what begins a stretch, and has all of it, has each number of the stretch
has_stretch : (k start n bytes : ℕ) → start / 2 ^ k ≡ n / 2 ^ k → start % 2 ^ k ≡ 0 → 2 ^ k ≤ bytes → (start ≤ n) × (n < start + bytes)
has_stretch k start n bytes e at l =
    let whole = split start k in
    let part = split n k in
    let same : start / 2 ^ k * 2 ^ k ≡ n / 2 ^ k * 2 ^ k = ap (λ x. x * 2 ^ k) e in
    let rest : n % 2 ^ k < 2 ^ k = mod-lt n (pow_pos k) in
    (omega arith, omega arith)

-- what shares a table shares all above it
coarser : (low high address : ℕ) (q : Option Page) → low ≤ high → begins_in_stretch low address q ≡ true → begins_in_stretch high address q ≡ true
coarser low high address None l b = cc
coarser low high address (Some q) l b =
    let bits : (12 + 9 * low) + 9 * (high - low) ≡ 12 + 9 * high = omega arith in
    let up = λ (n : ℕ). shr-shr n (12 + 9 * low) (9 * (high - low)) ∙ ap (λ k. n / 2 ^ k) bits in
    eq-eqb _ _ (sym (up q.base) ∙ ap (λ n. n / 2 ^ (9 * (high - low))) (eqb-true _ _ b) ∙ up address)

-- ---- the stretch of the new page, by the pages next to it

module _ {depth : Depth} {space : Space} (is : IsSpace depth space) (page : Page) (apart : (q : Page) → Holds space q
    → overlaps page q ≡ false) (level : ℕ) (own : level_of page.size ≤ level) where
  -- a page that begins in the stretch of a smaller page apart from it has a table there
  small : (q : Page) → Holds space q → q.base / table_bytes level ≡ page.base / table_bytes level → nat_lt (bytes_of q.size) (table_bytes level) ≡ true
  small q h e =
      ⊎_elim
      (λ large.
      let at : q.base % table_bytes level ≡ 0 = aligned_down q.base (3 + 9 * level_of q.size) (12 + 9 * level) (omega arith) (is.well_formed q h).aligned in
      let bytes : table_bytes level ≤ bytes_of q.size = pow_mono (omega arith) in
      let within = has_stretch (12 + 9 * level) q.base page.base (bytes_of q.size) e at bytes in
      let over : overlaps page q ≡ true = (overlaps_means page q).1 (within.1, omega (arith, within.0, bytes_positive page.size)) in
      let none = apart q h in
      cc)
      (λ l. has_table q level l)
      (cases_lt level (level_of q.size))

  next_to : (low high : ℕ) (p : Page) → low ≤ p.base → p.base ≤ high → low / table_bytes level ≡ page.base / table_bytes level
      → high / table_bytes level ≡ page.base / table_bytes level → begins_in_stretch level page.base (Some p) ≡ true
  next_to low high p a b e f =
      let more = shr_mono (12 + 9 * level) a in
      let less = shr_mono (12 + 9 * level) b in
      eq-eqb (p.base / table_bytes level) (page.base / table_bytes level) (omega arith)

  found_below : (below : Option Page) → IsLastUpTo space page.base below → (r : Page) → Holds space r
      → r.base / table_bytes level ≡ page.base / table_bytes level → r.base ≤ page.base → begins_in_stretch level page.base below ≡ true
  found_below None last r h e l = absurd (omega (arith, last r h))
  found_below (Some b) last r h e l = next_to r.base page.base b (last.2 r h l) last.1 e refl

  found_above : (above : Option Page) → IsFirstFrom space page.base above → (r : Page) → Holds space r
      → r.base / table_bytes level ≡ page.base / table_bytes level → page.base ≤ r.base → begins_in_stretch level page.base above ≡ true
  found_above None first r h e l = absurd (omega (arith, first r h))
  found_above (Some a) first r h e l = next_to page.base r.base a first.1 (first.2 r h l) refl e

  held_there : (q : Page) → Holds space q → begins_in_stretch level page.base (Some q) ≡ true
      → is_member nat_eq (stretches level space) (page.base / table_bytes level) ≡ true
  held_there q h b =
      let e : q.base / table_bytes level ≡ page.base / table_bytes level = eqb-true _ _ b in
      subst (λ n. is_member nat_eq (stretches level space) n ≡ true) e
      (member_goes (λ (p : Page). p.base / table_bytes level) (λ p. nat_lt (bytes_of p.size) (table_bytes level)) (pages space) q
      ((holds_listed is q).1 h) (small q h e))

  pub below_there : (below : Option Page) → IsLastUpTo space page.base below → begins_in_stretch level page.base below ≡ true
      → is_member nat_eq (stretches level space) (page.base / table_bytes level) ≡ true
  below_there None last b = cc
  below_there (Some q) last b = held_there q last.0 b

  above_there : (above : Option Page) → IsFirstFrom space page.base above → begins_in_stretch level page.base above ≡ true
      → is_member nat_eq (stretches level space) (page.base / table_bytes level) ≡ true
  above_there None first b = cc
  above_there (Some q) first b = held_there q first.0 b

  pub shared : (below above : Option Page) → IsLastUpTo space page.base below → IsFirstFrom space page.base above
      → is_member nat_eq (stretches level space) (page.base / table_bytes level)
      ≡ (begins_in_stretch level page.base below || begins_in_stretch level page.base above)
  shared below above last first =
      both_ways _ _
      (λ m.
      let found = member_comes (λ (p : Page). p.base / table_bytes level) (λ p. nat_lt (bytes_of p.size) (table_bytes level)) (pages space)
      (page.base / table_bytes level) m in
      let held = (holds_listed is found.0).0 found.1 in
      ⊎_elim
      (λ l. or_right _ _ (found_above above first found.0 held found.3 (omega arith)))
      (λ l. or_left _ _ (found_below below last found.0 held found.3 l))
      (cases_lt page.base found.0.base))
      (λ b. ⊎_elim (below_there below last) (above_there above first) (or_cases _ _ b))

-- ---- all levels

one_level : (level : ℕ) (ps : List Page) → 0 < level → tables_of_levels level ps ≡ tables_of_level level ps + tables_of_levels (level - 1) ps
one_level zero ps l = absurd (omega arith)
one_level (suc k) ps l = let e : suc k - 1 ≡ k = omega arith in rw e refl

module _ {depth : Depth} {space : Space} (is : IsSpace depth space) (page : Page) (good : IsPage depth page) (free : least_overlapped space page ≡ None) where
  -- the space with the page
  pub is_with : IsSpace depth (finite.insert space page.base page)
  is_with = insert_space is page good (λ q a h differs c e. alone is page free q a h c e)

  apart : (q : Page) → Holds space q → overlaps page q ≡ false
  apart q h =
      elim (overlaps page q) as (λ b. overlaps page q ≡ b → b ≡ false) [
        | true ↦ λ e. let meet = (overlaps_shares page q).0 e in absurd (alone is page free q meet.0 h meet.2 meet.1)
        | false ↦ λ e. refl
      ] refl

  absent : (q : Page) → Holds space q → q.base ≢ page.base
  absent q h e = alone is page free q page.base h (subst (λ a. IsTrue (covers q a)) e (covers_base q)) (covers_base page)

  -- below its own level the page needs no table
  pub before_levels : (n : ℕ) → n < level_of page.size → tables_of_levels n (pages space) ≡ tables_of_levels n (pages (finite.insert space page.base page))
  before_levels zero l = refl
  before_levels (suc n) l =
      let here = tables_without is page is_with absent (suc n) l in
      let below = before_levels n (omega arith) in
      omega arith

  at_level : (level : ℕ) (below above : Option Page) → IsLastUpTo space page.base below → IsFirstFrom space page.base above → level_of page.size ≤ level
      → tables_of_level level (pages (finite.insert space page.base page))
      ≡ cond (begins_in_stretch level page.base below || begins_in_stretch level page.base above) 0 1 + tables_of_level level (pages space)
  at_level level below above last first own =
      tables_with is page is_with absent level own
      ∙ ap (λ b. cond b 0 1 + tables_of_level level (pages space)) (shared is page apart level own below above last first)

  -- where the page before is in its own table, it needs no other
  pub no_new : (below : Option Page) → IsLastUpTo space page.base below → begins_in_stretch (level_of page.size) page.base below ≡ true
      → (n : ℕ) → tables_of_levels n (pages space) ≡ tables_of_levels n (pages (finite.insert space page.base page))
  no_new below last b zero = refl
  no_new below last b (suc n) =
      let rest = no_new below last b n in
      ⊎_elim
      (λ l. let here = tables_without is page is_with absent (suc n) l in omega arith)
      (λ own.
      let there = below_there is page apart (suc n) own below last (coarser (level_of page.size) (suc n) page.base below own b) in
      let here = tables_with is page is_with absent (suc n) own ∙ ap (λ x. cond x 0 1 + tables_of_level (suc n) (pages space)) there in
      omega arith)
      (cases_lt (suc n) (level_of page.size))

  level_done : (level count there : ℕ) → 0 < level
      → tables_of_level level (pages (finite.insert space page.base page)) ≡ there + tables_of_level level (pages space)
      → count + tables_of_levels (level - 1) (pages space) ≡ tables_of_levels (level - 1) (pages (finite.insert space page.base page))
      → (count + there) + tables_of_levels level (pages space) ≡ tables_of_levels level (pages (finite.insert space page.base page))
  level_done level count there some e before =
      let a = one_level level (pages space) some in
      let b = one_level level (pages (finite.insert space page.base page)) some in
      omega arith

  -- the count after a level
  pub one_more : (level next count : ℕ) (below above : Option Page) → IsLastUpTo space page.base below → IsFirstFrom space page.base above → 0 < level
      → level_of page.size ≤ level → next ≡ level
      → (begins_in_stretch level page.base below || begins_in_stretch level page.base above) ≡ false
      → count + tables_of_levels (level - 1) (pages space) ≡ tables_of_levels (level - 1) (pages (finite.insert space page.base page))
      → (count + 1) + tables_of_levels next (pages space) ≡ tables_of_levels next (pages (finite.insert space page.base page))
  one_more level next count below above last first some own e neither before =
      rw e (level_done level count 1 some (at_level level below above last first own
      ∙ ap (λ b. cond b 0 1 + tables_of_level level (pages space)) neither) before)

  pub no_more : (level next count : ℕ) (below above : Option Page) → IsLastUpTo space page.base below → IsFirstFrom space page.base above → 0 < level
      → level_of page.size ≤ level → next ≡ level
      → (begins_in_stretch level page.base below || begins_in_stretch level page.base above) ≡ true
      → count + tables_of_levels (level - 1) (pages space) ≡ tables_of_levels (level - 1) (pages (finite.insert space page.base page))
      → count + tables_of_levels next (pages space) ≡ tables_of_levels next (pages (finite.insert space page.base page))
  no_more level next count below above last first some own e one before =
      let done = level_done level count 0 some (at_level level below above last first own
      ∙ ap (λ b. cond b 0 1 + tables_of_level level (pages space)) one) before in
      rw e (omega arith)
