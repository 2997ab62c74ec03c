-- The columns of lives, and what a search in them finds.
use Rattle.std.proofs.Common.{◌≡◌, ◌↔◌, None, Contains, ℕ, ◌+◌, ◌<◌, ◌≤◌, inl, inr, List, ◌++◌, get_or, slice_get, length, map, Some}
use Rattle.std.proofs.Common.{refl, sym, ap, ◌∙◌, arith}
use Rattle.std.proofs.lemmas.Bool.{cases_lt}
use Rattle.std.proofs.lemmas.List.{get_or-map, length-map}
use Rattle.std.proofs.lemmas.List.Elements.{Contains-append_left, Contains-append_right}
use Rattle.std.proofs.lemmas.List.Sorted.{Contains-permutation, IsPermutation-sym}
use Rattle.std.proofs.lemmas.Option.{slice_get_within}
use Rattle.std.specs.List.Sorted.{IsPermutation}
use Rattle.vs_types.specs.declared.addresses.page.Page.{Page}
use Rattle.vs_types.specs.declared.addresses.page.Size.{Size}
use Rattle.vs_types.specs.declared.addresses.page.Size.TheVariants.{K4, M2, G1}
use Rattle.nr_touch.specs.inside.Bounds.{IsLastBelow, IsLastRow, IsRaised, IsRising}
use Rattle.nr_touch.specs.inside.Blocks.{around, IsBlockOf}
use Rattle.nr_touch.specs.inside.Lives.{lives_at, AreColumnsOf, AreLives, AreRowsOf, HasLife, HasLifeOf, HaveLives, HaveRows, IsMet}
use Rattle.nr_touch.specs.declared.releases.lives.Life.{Life}
use Rattle.nr_touch.specs.declared.releases.lives.Lives.{Lives}
use Rattle.nr_touch.specs.declared.releases.stays.Stay.{Stay}
use Rattle.nr_touch.proofs.Lefts.{below_more}
use Rattle.nr_touch.proofs.Found.{element, far_bound}

-- ---- the list of lives, page by page

-- the first pages, this many, have their lives
abbrev pub HaveLivesTo : List Stay → List Life → ℕ → Type 0
HaveLivesTo stays lives end = (k : ℕ) (stay : Stay) (block event : ℕ) → k < end → slice_get stays k ≡ Some stay → IsBlockOf stay.page block
    → stay.from ≤ event → event ≤ stay.until → HasLifeOf lives block event k

pub no_lives : (stays : List Stay) (lives : List Life) → HaveLivesTo stays lives 0
no_lives stays lives k stay block event l at of low high = absurd (omega (arith, l))

-- a page's own lives
own_life : (lives : List Life) (page : Page) (from until row block event : ℕ) → IsBlockOf page block → from ≤ event → event ≤ until
    → HasLifeOf (lives ++ lives_at page from until row) block event row
own_life lives page from until row block event of low high = by of where
  life : ℕ → Life
  life n = record { block = n; from = from; until = until; row = row }

  there : (k : ℕ) (n : ℕ) → k < length (lives_at page from until row) → get_or (lives_at page from until row) k (life n) ≡ life n → n ≡ block
      → HasLifeOf (lives ++ lives_at page from until row) block event row
  there k n l at is = (life n, Contains-append_right lives (lives_at page from until row) (life n) (k, l, at), is, low, high, refl)

  by_size : (size : Size) → block ≡ around page.phys size → HasLifeOf (lives ++ lives_at page from until row) block event row
  by_size K4 e = there 0 (around page.phys K4) (omega arith) refl (sym e)
  by_size M2 e = there 1 (around page.phys M2) (omega arith) refl (sym e)
  by_size G1 e = there 2 (around page.phys G1) (omega arith) refl (sym e)

  by : IsBlockOf page block → HasLifeOf (lives ++ lives_at page from until row) block event row
  by (inl (size, e)) = by_size size e
  by (inr e) = there 3 (around page.phys page.size + 3) (omega arith) refl (sym e)

pub one_page_more : (stays : List Stay) (lives : List Life) (end : ℕ) (d : Stay) → end < length stays → HaveLivesTo stays lives end
    → HaveLivesTo stays (lives ++ lives_at (get_or stays end d).page (get_or stays end d).from (get_or stays end d).until end) (end + 1)
one_page_more stays lives end d less have k stay block event l at =
    let one = get_or stays end d in
    let added = lives_at one.page one.from one.until end in
    below_more (λ n (q : Stay). (b e : ℕ) → IsBlockOf q.page b → q.from ≤ e → e ≤ q.until → HasLifeOf (lives ++ added) b e n) stays end d less
    (λ n q low there b e of from to.
    let (life, has, is, first, last, row) = have n q b e low there of from to in (life, Contains-append_left lives added life has, is, first, last, row))
    (own_life lives one.page one.from one.until end) k stay l at block event

pub all_lives : (stays : List Stay) (lives : List Life) (end : ℕ) → length stays ≤ end → HaveLivesTo stays lives end → HaveLives stays lives
all_lives stays lives end all have stay row block event at =
    have row stay block event (let l = slice_get_within stays row stay at in omega (arith, l, all)) at

-- ---- the columns of the sorted lives

module _ (rows sorted : List Life) (lives : Lives) (raw : List ℕ) (same : IsPermutation rows sorted)
    (blocks : lives.blocks.items ≡ map (λ (l : Life). l.block) sorted) (from : lives.from.items ≡ map (λ (l : Life). l.from) sorted)
    (until : raw ≡ map (λ (l : Life). l.until) sorted) (row_of : lives.rows.items ≡ map (λ (l : Life). l.row) sorted)
    (raised : IsRaised lives.blocks.items raw lives.until.items (length raw))
    (rising : IsRising (map (λ (l : Life). l.block) sorted) (map (λ (l : Life). l.from) sorted)) where
  many_columns : length lives.blocks.items ≡ length sorted
  many_columns = ap length blocks ∙ length-map sorted (λ (x : Life). x.block)

  many_of_raw : length raw ≡ length sorted
  many_of_raw = ap length until ∙ length-map sorted (λ (x : Life). x.until)

  rises : IsRising lives.blocks.items lives.from.items
  rises = rw (blocks, from) rising

  pub columns : AreLives lives
  columns = record {
    from = rises;
    until = record {
      one_each = raised.one_each ∙ many_of_raw ∙ sym many_columns;
      by_page = rises.by_page;
      of_page = λ k l. raised.rising k (let many = many_columns in let all = many_of_raw in omega (arith, l, many, all));
    };
    rows = ap length row_of ∙ length-map sorted (λ (l : Life). l.row) ∙ sym many_columns;
  }

  block_at : (k : ℕ) (life : Life) → k < length sorted → get_or sorted k life ≡ life → get_or lives.blocks.items k 0 ≡ life.block
  block_at k life l at =
      ap (λ (ns : List ℕ). get_or ns k 0) blocks ∙ get_or-map (λ (x : Life). x.block) sorted k life 0 l ∙ ap (λ (x : Life). x.block) at

  from_at : (k : ℕ) (life : Life) → k < length sorted → get_or sorted k life ≡ life → get_or lives.from.items k 0 ≡ life.from
  from_at k life l at = ap (λ (ns : List ℕ). get_or ns k 0) from ∙ get_or-map (λ (x : Life). x.from) sorted k life 0 l ∙ ap (λ (x : Life). x.from) at

  raw_at : (k : ℕ) (life : Life) → k < length sorted → get_or sorted k life ≡ life → get_or raw k 0 ≡ life.until
  raw_at k life l at = ap (λ (ns : List ℕ). get_or ns k 0) until ∙ get_or-map (λ (x : Life). x.until) sorted k life 0 l ∙ ap (λ (x : Life). x.until) at

  -- the row of a life
  at_row : (life : Life) → Contains rows life → (k : ℕ) × (k < length lives.blocks.items) × (get_or lives.blocks.items k 0 ≡ life.block)
      × (get_or lives.from.items k 0 ≡ life.from) × (life.until ≤ get_or lives.until.items k 0) × (get_or lives.rows.items k 0 ≡ life.row)
  at_row life has =
      let (k, l, at) = Contains-permutation rows sorted life same has in
      let many = many_columns in
      let all = many_of_raw in
      let up = raised.at_least k (omega (arith, l, all)) in
      let ends = raw_at k life l at in
      let row = ap (λ (ns : List ℕ). get_or ns k 0) row_of ∙ get_or-map (λ (x : Life). x.row) sorted k life 0 l ∙ ap (λ (x : Life). x.row) at in
      (k, omega (arith, l, many), block_at k life l at, from_at k life l at, omega (arith, ends, up), row)

  met_of : (block first last : ℕ) → HasLife rows block first last → IsMet lives block first last
  met_of block first last (life, has, of, low, high) =
      let (k, l, own, begins, ends, row) = at_row life has in (k, l, own ∙ of, omega (arith, begins, low), omega (arith, ends, high))

  life_of : (block first last : ℕ) → IsMet lives block first last → HasLife rows block first last
  life_of block first last (k, l, of, low, high) =
      let many = many_columns in
      let all = many_of_raw in
      let (j, early, own, ends) = raised.attained k (omega (arith, l, many, all)) in
      let (life, at) = element sorted j (omega (arith, early, l, many)) in
      let there : j < length sorted = omega (arith, early, l, many) in
      let begins = from_at j life there at in
      let last_of = raw_at j life there at in
      let up = far_bound lives.blocks.items lives.from.items rises j k early l own in (
        life,
        Contains-permutation sorted rows life (IsPermutation-sym rows sorted same) (j, there, at),
        sym (block_at j life there at) ∙ own ∙ of,
        omega (arith, begins, up, low),
        omega (arith, ends, last_of, high),
      )

  pub columns_of : AreColumnsOf rows lives
  columns_of block first last = (met_of block first last, life_of block first last)

  pub rows_of : AreRowsOf rows lives
  rows_of block event row (life, has, of, low, high, is) =
      let (k, l, own, begins, ends, at) = at_row life has in (k, l, own ∙ of, omega (arith, begins, low), omega (arith, ends, high), at ∙ is)

-- the pages have their rows in the columns that have their lives
pub all_rows : (rows : List Life) (lives : Lives) (stays : List Stay) → AreRowsOf rows lives → HaveLives stays rows → HaveRows stays lives
all_rows rows lives stays are have stay row block event at of low high = are block event row (have stay row block event at of low high)

-- ---- the search

module _ (lives : Lives) (are : AreLives lives) (block first last : ℕ) where
  pub none_met : IsLastBelow lives.blocks.items lives.from.items block (last + 1) None → IsMet lives block first last → ⊥
  none_met none (k, l, of, low, high) = let least = none k l of in omega (arith, least, low)

  -- of the lives that begin in time the last one says whether one is met
  pub met_by : (row : ℕ) → IsLastRow lives.blocks.items lives.from.items block (last + 1) row
      → (first ≤ get_or lives.until.items row 0) ↔ IsMet lives block first last
  met_by row is = (
    λ high. (row, is.within, is.own, (let less = is.less in omega (arith, less)), high),
    λ (k, l, of, low, high). elim (cases_lt row k) [
      | inl past ↦ let least = is.behind k past l of in absurd (omega (arith, least, low))
      | inr upto ↦
          let up = far_bound lives.blocks.items lives.until.items are.until k row upto is.within (of ∙ sym is.own) in omega (arith, up, high)
    ],
  )
