-- How the table count changes with one page.
use Rattle.std.proofs.Common.{◌≡◌, ◌≢◌, ℕ, zero, suc, ◌+◌, ◌-◌, ◌/◌, ◌<◌, ◌≤◌, true, false, cond, nat_eq, nat_lt, List, [], ◌∷◌, map, filter, Contains, ◌⊎◌}
use Rattle.std.proofs.Common.{inl, inr, ⊎_elim, refl, sym, ap, ◌∙◌, subst, arith}
use lib.Pow.{pow-lt, pow_mono}
use Rattle.std.specs.FinMap as finite
use Rattle.std.specs.Set.{is_member}
use Rattle.std.proofs.lemmas.Bool.{eq-eqb, eqb-true, or_left, or_right, or_cases}
use Rattle.std.proofs.lemmas.Bool.Decides.{nat_tests}
use Rattle.vs_types.specs.declared.addresses.depth.Depth.{Depth}
use Rattle.vs_types.specs.declared.addresses.page.Page.{Page}
use Rattle.vs_types.specs.Depth.{levels, table_bytes}
use Rattle.vs_types.specs.Page.{level_of, bytes_of}
use Rattle.vs_types.specs.Space.{Space, no_pages, pages, Holds, IsSpace, tables_of_level, tables_of_levels, table_count}
use Rattle.vs_types.proofs.Lists.{Contains-head}
use Rattle.vs_types.proofs.Maps.{get-insert_same, get-insert_other}
use Rattle.vs_types.proofs.Spaces.{holds_listed, no_pages_space, none_held, insert_cases}
use Rattle.vs_types.proofs.Counts.{same_count, count_more, member_comes, member_goes}

empty_list : (ps : List Page) → ((p : Page) → Contains ps p → ⊥) → ps ≡ []
empty_list [] none = refl
empty_list (p ∷ ps) none = absurd (none p (Contains-head p ps))

no_tables : (n : ℕ) → tables_of_levels n [] ≡ 0
no_tables zero = refl
no_tables (suc n) = ap (λ k. tables_of_level (suc n) [] + k) (no_tables n)

pub tables_of_nothing : (depth : Depth) → table_count depth no_pages ≡ 1
tables_of_nothing depth =
    let none : pages no_pages ≡ [] = empty_list (pages no_pages) (λ p h. none_held p.base p ((holds_listed (no_pages_space depth) p).0 h)) in
    rw none (ap (λ k. 1 + k) (no_tables (levels depth - 1)))

-- ---- one level

-- pages of this size have a table of each level from their own on
pub has_table : (page : Page) (level : ℕ) → level_of page.size ≤ level → nat_lt (bytes_of page.size) (table_bytes level) ≡ true
has_table page level l = let less : bytes_of page.size < table_bytes level = pow-lt (omega arith) in grind (arith, nat_tests)

pub has_no_table : (page : Page) (level : ℕ) → level < level_of page.size → nat_lt (bytes_of page.size) (table_bytes level) ≡ false
has_no_table page level l = let less : table_bytes level ≤ bytes_of page.size = pow_mono (omega arith) in grind (arith, nat_tests)

-- the stretches of this level in which pages with a table of it begin
abbrev pub stretches : ℕ → Space → List ℕ
stretches level space = map (λ p. p.base / table_bytes level) (filter (λ p. nat_lt (bytes_of p.size) (table_bytes level)) (pages space))

module _ {depth : Depth} {space : Space} (is : IsSpace depth space) (page : Page) (is_new : IsSpace depth (finite.insert space page.base page))
    (absent : (q : Page) → Holds space q → q.base ≢ page.base) (level : ℕ) where
  still : (q : Page) → Holds space q → Holds (finite.insert space page.base page) q
  still q h = get-insert_other space page.base page q.base (absent q h) ∙ h

  goes : (q : Page) → Holds (finite.insert space page.base page) q → nat_lt (bytes_of q.size) (table_bytes level) ≡ true
      → is_member nat_eq (stretches level (finite.insert space page.base page)) (q.base / table_bytes level) ≡ true
  goes q h t = member_goes (λ (p : Page). p.base / table_bytes level) (λ p. nat_lt (bytes_of p.size) (table_bytes level))
      (pages (finite.insert space page.base page)) q ((holds_listed is_new q).1 h) t

  up : (k : ℕ) → is_member nat_eq (stretches level space) k ≡ true → is_member nat_eq (stretches level (finite.insert space page.base page)) k ≡ true
  up k m =
      let found = member_comes (λ (p : Page). p.base / table_bytes level) (λ p. nat_lt (bytes_of p.size) (table_bytes level)) (pages space) k m in
      subst (λ n. is_member nat_eq (stretches level (finite.insert space page.base page)) n ≡ true) found.3
      (goes found.0 (still found.0 ((holds_listed is found.0).0 found.1)) found.2)

  -- a page with a table of this level begins in the stretch, there before or new
  down : (k : ℕ) → is_member nat_eq (stretches level (finite.insert space page.base page)) k ≡ true
      → ((page.base / table_bytes level ≡ k) × (nat_lt (bytes_of page.size) (table_bytes level) ≡ true)) ⊎ (is_member nat_eq (stretches level space) k ≡ true)
  down k m =
      let found = member_comes (λ (p : Page). p.base / table_bytes level) (λ p. nat_lt (bytes_of p.size) (table_bytes level))
      (pages (finite.insert space page.base page)) k m in
      let held = (holds_listed is_new found.0).0 found.1 in
      ⊎_elim
      (λ new. inl (subst (λ (p : Page). (p.base / table_bytes level ≡ k) × (nat_lt (bytes_of p.size) (table_bytes level) ≡ true)) new.1 (found.3, found.2)))
      (λ old. inr (subst (λ n. is_member nat_eq (stretches level space) n ≡ true) found.3
      (member_goes (λ (p : Page). p.base / table_bytes level) (λ p. nat_lt (bytes_of p.size) (table_bytes level)) (pages space) found.0
      ((holds_listed is found.0).1 old.1) found.2)))
      (insert_cases space page.base page found.0.base found.0 held)

  -- a page with a table of this level needs one more, unless a page with such a table begins in its stretch
  pub tables_with : level_of page.size ≤ level
      → tables_of_level level (pages (finite.insert space page.base page))
      ≡ cond (is_member nat_eq (stretches level space) (page.base / table_bytes level)) 0 1 + tables_of_level level (pages space)
  tables_with l =
      let t = has_table page level l in
      same_count (stretches level (finite.insert space page.base page)) (page.base / table_bytes level ∷ stretches level space)
      (λ k m. ⊎_elim (λ new. or_left _ _ (eq-eqb k _ (sym new.0))) (λ old. or_right _ _ old) (down k m))
      (λ k m. ⊎_elim
      (λ same. subst (λ n. is_member nat_eq (stretches level (finite.insert space page.base page)) n ≡ true) (sym (eqb-true k _ same))
      (goes page (get-insert_same space page.base page) t))
      (up k)
      (or_cases (nat_eq k (page.base / table_bytes level)) _ m))
      ∙ count_more (page.base / table_bytes level) (stretches level space)

  -- a page with no table of this level needs none
  pub tables_without : level < level_of page.size → tables_of_level level (pages (finite.insert space page.base page)) ≡ tables_of_level level (pages space)
  tables_without l =
      let t = has_no_table page level l in
      same_count (stretches level (finite.insert space page.base page)) (stretches level space)
      (λ k m. ⊎_elim (λ new. let both : (nat_lt (bytes_of page.size) (table_bytes level) ≡ true) = new.1 in cc) (λ old. old) (down k m)) up
