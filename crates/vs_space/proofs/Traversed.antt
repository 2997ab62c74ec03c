-- The path through all tables of a tree: it reaches each frame in use once, and no other, and it meets no fault where the
-- memory translates as a space.
use Rattle.std.proofs.Common.{◌≡◌, ◌≢◌, ℕ, zero, suc, ◌+◌, ◌-◌, ◌*◌, ◌/◌, ◌%◌, ◌^◌, ◌==◌, ◌<◌, ◌≤◌, List, [], ◌∷◌, ◌++◌, Option, Some, None, Bool, true, false}
use Rattle.std.proofs.Common.{not, if◌then◌else◌, length, get_or, flat_map, Contains, ⊎_elim, refl, sym, ap, subst, ◌∙◌, arith, mod-lt}
use Rattle.std.specs.Prelude.{⊤, IsSome, option_map, slice_index}
use Rattle.std.specs.List.{enumerate_from}
use Rattle.std.proofs.lemmas.Nat.{div-mul-add}
use Rattle.std.proofs.lemmas.Bool.{cases_eq}
use Rattle.std.proofs.lemmas.List.Elements.{Contains-append_cases, Contains-append_right, filter_map-append}
use Rattle.std.specs.FinMap as finite
use Rattle.vs_types.specs.Depth.{levels, entry_bytes, table_bytes, index_at}
use Rattle.vs_types.specs.Page.{intersection}
use Rattle.vs_types.specs.Entry.{meaning, has_reserved, is_leaf}
use Rattle.std.specs.Int.{bit_at}
use Rattle.std.proofs.lemmas.Option.{same_Some}
use Rattle.vs_types.specs.declared.addresses.depth.Depth.{Depth}
use Rattle.vs_types.specs.declared.addresses.page.Rights.{Rights}
use Rattle.vs_types.specs.declared.entries.entry.Meaning.{Meaning}
use Rattle.vs_types.specs.declared.entries.entry.Meaning.TheVariants as entry
use Rattle.vs_types.proofs.Lists.{Contains-head, Contains-tail, Contains-cases, not_in_nil}
use Rattle.vs_walk.specs.Memory.{Memory}
use Rattle.vs_walk.specs.Walk.{all_rights}
use Rattle.vs_walk.specs.Traversal.{Visit, OfFrame, ReachedTable, entry_visits, table_visits, traversal, reached_by, reached, walk_fault}
use Rattle.vs_walk.proofs.LawsOfLists.{contained_at_some_word}
use Rattle.vs_walk.proofs.TranslatedBits.{entry_some, no_table_below}
use Rattle.vs_walk.proofs.LawsOfVisits.{at_word_met, table_met, missing_met, nothing_met, first_met, word_is_met, reached_is_met, met_is_reached}
use Rattle.vs_walk.proofs.LawsOfFoundPages.{IsPlaced, place_below}
use Rattle.vs_walk.proofs.LawsOfRising.{root_placed}
use Rattle.vs_walk.proofs.LawsOfMetFaults.{at_entry, offset_fits, some_levels}
use Rattle.vs_walk.proofs.LawsOfTraversals.{shared_reached}
use Rattle.vs_walk.proofs.LawsOfSpaces.{translates_shared}
use Rattle.vs_space.specs.Held.{word_at}
use Rattle.vs_space.specs.Path.{found_at, table_in, table_at, SamePath}
use Rattle.vs_space.specs.Table.{PageTable}
use Rattle.vs_space.specs.Invariant.{IsPageTable}
use Rattle.vs_space.proofs.Paths.{words_found, reached_within, table_first, table_next, none_past, table_before, same_table}
use Rattle.vs_space.proofs.Writes.{same_longer}
use Rattle.vs_space.proofs.Regions.{stretch_same}

-- ---- lists with no number twice

abbrev Once : List ℕ → Type 0
Once [] = ⊤
Once (n ∷ ns) = (Contains ns n → ⊥) × Once ns

once_append : (xs ys : List ℕ) → Once xs → Once ys → ((n : ℕ) → Contains xs n → Contains ys n → ⊥) → Once (xs ++ ys)
once_append [] ys left right apart = right
once_append (x ∷ xs) ys left right apart = (
  λ again. ⊎_elim (λ here. left.0 here) (λ there. apart x (Contains-head x xs) there) (Contains-append_cases xs ys x again),
  once_append xs ys left.1 right (λ n here there. apart n (Contains-tail x xs n here) there),
)

not_twice : (n : ℕ) (before after : List ℕ) → Once (before ++ n ∷ after) → Contains before n → ⊥
not_twice n [] after once is = not_in_nil n is
not_twice n (x ∷ before) after once is = ⊎_elim
    (λ same. once.0 (subst (Contains (before ++ n ∷ after)) (sym same) (Contains-append_right before (n ∷ after) n (Contains-head n after))))
    (λ later. not_twice n before after once.1 later)
    (Contains-cases x before n is)

-- what is met at each word reaches no frame twice, and a frame determines at which word it is reached
words_once : (f : ℕ × ℕ → List Visit) (IsAt : ℕ → ℕ → Type 0) (words : List ℕ) (from : ℕ)
    → ((i j n : ℕ) → IsAt i n → IsAt j n → i ≡ j)
    → ((k : ℕ) → k < length words → Once (reached (f (from + k, get_or words k 0))))
    → ((k n : ℕ) → k < length words → Contains (f (from + k, get_or words k 0)) (OfFrame n) → IsAt (from + k) n)
    → Once (reached (flat_map f (enumerate_from from words)))
words_once f IsAt [] from tells once is_at = tt
words_once f IsAt (word ∷ words) from tells once is_at =
    subst Once (sym (filter_map-append reached_by (f (from, word)) (flat_map f (enumerate_from (from + 1) words))))
    (once_append (reached (f (from, word))) (reached (flat_map f (enumerate_from (from + 1) words)))
    (subst (λ i. Once (reached (f (i, word)))) (omega arith) (once 0 (omega arith)))
    (words_once f IsAt words (from + 1) tells
    (λ k lt. subst (λ i. Once (reached (f (i, get_or words k 0)))) (omega arith) (once (suc k) (omega arith))) later)
    (λ n here there.
    let at = contained_at_some_word f words (from + 1) (OfFrame n) (reached_is_met _ n there) in
    let first : IsAt from n = subst (λ i. IsAt i n) (omega arith)
    (is_at 0 n (omega arith) (subst (λ i. Contains (f (i, word)) (OfFrame n)) (omega arith) (reached_is_met _ n here))) in
    let same = tells from (from + 1 + at.0) n first (later at.0 n at.1 at.2) in
    omega arith))
  where
    later : (k n : ℕ) → k < length words → Contains (f (from + 1 + k, get_or words k 0)) (OfFrame n) → IsAt (from + 1 + k) n
    later k n lt met = subst (λ i. IsAt i n) (omega arith)
        (is_at (suc k) n (omega arith) (subst (λ i. Contains (f (i, get_or words k 0)) (OfFrame n)) (omega arith) met))

-- ---- one entry

-- where the stretch of an entry begins
abbrev entry_start : ℕ → ReachedTable → ℕ → ℕ
entry_start level table index = table.start + index * entry_bytes (suc level)

-- the table below an entry
abbrev next_table : ℕ → ReachedTable → ℕ → ℕ → Rights → ReachedTable
next_table level table index number own = record { number = number; start = entry_start level table index; rights = intersection table.rights own }

-- frames are reached only where the entry leads to a table
into_table : (depth : Depth) (level : ℕ) (table : ReachedTable) (index : ℕ) (below : ReachedTable → List Visit) (means : Meaning) (n : ℕ)
    → Contains (entry_visits depth (suc level) table index below means) (OfFrame n)
    → (number : ℕ) × (own : Rights) × (means ≡ entry.Table number own) × Contains (below (next_table level table index number own)) (OfFrame n)
into_table depth level table index below entry.Absent n met = absurd (not_in_nil _ met)
into_table depth level table index below (entry.Table number own) n met = (number, own, refl, met)
into_table depth level table index below _ n met = ⊎_elim (λ same. cc) (λ later. absurd (not_in_nil _ later)) (Contains-cases _ [] _ met)

entry_once : (depth : Depth) (level : ℕ) (table : ReachedTable) (index : ℕ) (below : ReachedTable → List Visit) (means : Meaning)
    → ((number : ℕ) (own : Rights) → means ≡ entry.Table number own → Once (reached (below (next_table level table index number own))))
    → Once (reached (entry_visits depth (suc level) table index below means))
entry_once depth level table index below (entry.Table number own) lower = lower number own refl
entry_once depth level table index below _ lower = tt

found_in : (level : ℕ) (m : Memory) (n a index : ℕ) (words : List ℕ) (means : Meaning) → finite.get m n ≡ Some words → index_at level a ≡ index
    → meaning level (get_or words index 0) ≡ means → found_at level m n a ≡ Some means
unfolding found_at word_at
found_in level m n a index words means is at says =
    ap (λ (o : Option (List ℕ)). option_map (meaning level) (option_map (λ words. slice_index words (index_at level a)) o)) is
    ∙ ap (λ i. Some (meaning level (slice_index words i))) at ∙ ap Some says

-- the table to which an entry leads is above level 0
above_zero : (level word number : ℕ) (own : Rights) → meaning (suc level) word ≡ entry.Table number own → 0 < level
above_zero zero word number own says = absurd (no_table_below word number own says)
above_zero (suc level) word number own says = omega arith

-- where a table begins, and what lies in it, take the same path to it
path_into : (top level times start rest : ℕ) → start ≡ times * table_bytes level → rest < table_bytes level → SamePath top (suc level) start (start + rest)
path_into top level times start rest is lt =
    let bytes : ℕ = table_bytes level in
    let own : start / bytes ≡ times = ap (λ n. n / bytes) (is ∙ omega arith) ∙ div-mul-add times bytes 0 (omega arith) in
    let other : (start + rest) / bytes ≡ times = ap (λ n. (n + rest) / bytes) is ∙ div-mul-add times bytes rest lt in
    stretch_same top level start (start + rest) (own ∙ sym other)

-- ---- frame numbers

-- what a word leads to, where it leads to a table
leads_to : (present reserved leaf : Bool) (phys number n : ℕ) (rights own : Rights)
    → (if not present then entry.Absent else if reserved then entry.Reserved else if leaf then entry.Leaf phys rights else entry.Table number rights)
    ≡ entry.Table n own → number ≡ n
leads_to true false true phys number n rights own is = cc
leads_to _ _ _ phys number n rights own is = cc

table_fits : (level word n : ℕ) (own : Rights) → meaning level word ≡ entry.Table n own → n < 2 ^ 40
table_fits level word n own is =
    let same : word % 2 ^ 52 / 2 ^ 12 ≡ n = leads_to (bit_at word 0 == 1) (has_reserved level word) (is_leaf level word) _ _ n _ own is in
    omega (arith, same)

-- ---- tables on their paths

module _ {t : PageTable} (pages : IsPageTable t) where
  abbrev top : ℕ
  top = levels t.depth

  abbrev table_on : ℕ → ℕ → Option ℕ
  table_on level a = table_at top t.memory t.root level a

  abbrev visits : ℕ → ReachedTable → List Visit
  visits level table = table_visits t.depth t.memory level table

  abbrev met_at : ℕ → ReachedTable → ℕ × ℕ → List Visit
  met_at level table w = at_word_met t.depth t.memory level table w

  -- the table is reached on the path of the address at which it begins
  record IsOnPath (level : ℕ) (table : ReachedTable) : Type 0 where
    descended : IsPlaced level table
    at : table_on level table.start ≡ Some table.number

  root_on_path : IsOnPath top (record { number = t.root; start = 0; rights = all_rights })
  root_on_path = record { descended = root_placed top t.root; at = table_first top t.root t.memory 0 }

  -- an entry of a table on its path
  module _ (level : ℕ) (table : ReachedTable) (on : IsOnPath (suc level) table) (words : List ℕ)
      (is : finite.get t.memory table.number ≡ Some words) (index : ℕ)
      (within : index < 512) where
    entry_path : SamePath top (suc (suc level)) table.start (entry_start level table index)
    entry_path = subst (λ r. SamePath top (suc (suc level)) table.start (table.start + r)) (omega arith)
        (path_into top (suc level) on.descended.times table.start (index * entry_bytes (suc level) + 0) on.descended.at
        (offset_fits level index 0 within (entry_some (suc level))))

    entry_index : index_at (suc level) (entry_start level table index) ≡ index
    entry_index =
        (at_entry level on.descended.times index 0 (entry_start level table index) within (entry_some (suc level))
        (ap (λ n. n + index * entry_bytes (suc level)) on.descended.at ∙ omega arith)).0

    -- the table to which it leads is on its path
    next_on_path : (number : ℕ) (own : Rights) → meaning (suc level) (get_or words index 0) ≡ entry.Table number own
        → IsOnPath level (next_table level table index number own)
    next_on_path number own says = record {
      descended = place_below level table index number own on.descended;
      at = table_next top t.root t.memory level _ table.number (sym (same_table top t.root t.memory (suc level) _ _ entry_path) ∙ on.at)
          ∙ ap table_in (found_in (suc level) t.memory table.number _ index words (entry.Table number own) is entry_index says);
    }

    -- and what is met there is met in the table
    next_is_met : (number : ℕ) (own : Rights) (move : Visit) → meaning (suc level) (get_or words index 0) ≡ entry.Table number own
        → Contains (visits level (next_table level table index number own)) move → Contains (visits (suc level) table) move
    next_is_met number own move says met =
        word_is_met t.depth t.memory level table words index move is (omega (arith, pages.whole table.number words is))
        (subst (λ means. Contains (entry_visits t.depth (suc level) table index (λ next. visits level next) means) move) (sym says) met)

  -- ---- what is reached is on a path

  -- a path to the frame, at this level or below, takes the entries that lead to the table of this level
  record IsUnder (level start n : ℕ) : Type 0 where
    lower : ℕ
    address : ℕ
    below : lower ≤ level
    path : SamePath top (suc level) start address
    at : table_on lower address ≡ Some n

  -- and then the entry at this index
  record IsThrough (level start index n : ℕ) : Type 0 where
    lower : ℕ
    address : ℕ
    below : lower < level
    path : SamePath top (suc level) start address
    turns : index_at level address ≡ index
    at : table_on lower address ≡ Some n

  through : (level : ℕ) (table : ReachedTable) (on : IsOnPath (suc level) table) (words : List ℕ) → finite.get t.memory table.number ≡ Some words
      → ((next : ReachedTable) → IsOnPath level next → (n : ℕ) → Contains (visits level next) (OfFrame n) → IsUnder level next.start n)
      → (index n : ℕ) → index < length words → Contains (met_at level table (index, get_or words index 0)) (OfFrame n)
      → IsThrough (suc level) table.start index n
  through level table on words is lower index n lt met =
      let within : index < 512 = omega (arith, pages.whole table.number words is) in
      let into = into_table t.depth level table index (λ next. visits level next) (meaning (suc level) (get_or words index 0)) n met in
      let under = lower (next_table level table index into.0 into.1) (next_on_path level table on words is index within into.0 into.1 into.2) n into.3 in
      record {
        lower = under.lower;
        address = under.address;
        below = omega (arith, under.below);
        path = λ i over to. entry_path level table on words is index within i over to ∙ under.path i (omega arith) to;
        turns = sym (under.path (suc level) (omega arith) (reached_within top t.root t.memory (suc level) table.start table.number on.at))
            ∙ entry_index level table on words is index within;
        at = under.at;
      }

  own_under : (level : ℕ) (table : ReachedTable) (n : ℕ) → IsOnPath level table → table.number ≡ n → IsUnder level table.start n
  own_under level table n on same = record {
    lower = level;
    address = table.start;
    below = omega arith;
    path = λ i over to. refl;
    at = on.at ∙ ap Some same;
  }

  from_through : {level start index n : ℕ} → IsThrough level start index n → IsUnder level start n
  from_through {level} {start} {index} {n} on = record { lower = on.lower; address = on.address; below = omega (arith, on.below); path = on.path; at = on.at }

  table_reaches : (level : ℕ) (table : ReachedTable) → IsOnPath level table → (n : ℕ) → Contains (visits level table) (OfFrame n)
      → IsUnder level table.start n
  table_reaches zero table on n met = absurd (not_in_nil _ (subst (λ ms. Contains ms (OfFrame n)) (nothing_met t.depth t.memory table) met))
  table_reaches (suc level) table on n met =
      elim (finite.get t.memory table.number) as (λ o. finite.get t.memory table.number ≡ o → IsUnder (suc level) table.start n) [
        | None ↦ λ is. ⊎_elim
            (λ same. own_under (suc level) table n on (one_number table.number n same))
            (λ later. absurd (not_in_nil _ later))
            (Contains-cases (OfFrame table.number) [] (OfFrame n) (subst (λ ms. Contains ms (OfFrame n)) (missing_met t.depth t.memory level table is) met))
        | Some words ↦ λ is. ⊎_elim
            (λ same. own_under (suc level) table n on (one_number table.number n same))
            (λ later.
            let at = contained_at_some_word (met_at level table) words 0 (OfFrame n) later in
            from_through (through level table on words is (λ next. table_reaches level next) at.0 n at.1
            (subst (λ i. Contains (met_at level table (i, get_or words at.0 0)) (OfFrame n)) (omega arith) at.2)))
            (Contains-cases (OfFrame table.number) _ (OfFrame n) (subst (λ ms. Contains ms (OfFrame n)) (table_met t.depth t.memory level table words is) met))
      ] refl
    where
      one_number : (x y : ℕ) → ◌≡◌ {A = Visit} (OfFrame x) (OfFrame y) → x ≡ y
      one_number x y e = cc

  -- ---- each frame once

  -- paths to one frame take the same entry
  one_turn : (level start i j n : ℕ) → level ≤ top → IsThrough level start i n → IsThrough level start j n → i ≡ j
  one_turn level start i j n le left right =
      let both = pages.tree.once left.lower right.lower left.address right.address n left.at right.at in
      sym left.turns ∙ both.1 level left.below le ∙ right.turns

  -- and none goes through the frame itself
  not_own : (level : ℕ) (table : ReachedTable) → IsOnPath level table → (index : ℕ) → IsThrough level table.start index table.number → ⊥
  not_own level table on index other =
      let both = pages.tree.once level other.lower table.start other.address table.number on.at other.at in
      omega (arith, both.0, other.below)

  table_once : (level : ℕ) (table : ReachedTable) → IsOnPath level table → Once (reached (visits level table))
  table_once zero table on = subst (λ ms. Once (reached ms)) (sym (nothing_met t.depth t.memory table)) tt
  table_once (suc level) table on =
      elim (finite.get t.memory table.number) as (λ o. finite.get t.memory table.number ≡ o → Once (reached (visits (suc level) table))) [
        | None ↦ λ is. subst (λ ms. Once (reached ms)) (sym (missing_met t.depth t.memory level table is)) (λ again. not_in_nil _ again, tt)
        | Some words ↦ λ is.
            let by_index : (index n : ℕ) → index < length words → Contains (met_at level table (index, get_or words index 0)) (OfFrame n)
            → IsThrough (suc level) table.start index n =
            through level table on words is (λ next. table_reaches level next) in
            subst (λ ms. Once (reached ms)) (sym (table_met t.depth t.memory level table words is)) (
              λ again.
                  let at = contained_at_some_word (met_at level table) words 0 (OfFrame table.number) (reached_is_met _ table.number again) in
                  not_own (suc level) table on at.0
                  (by_index at.0 table.number at.1 (subst (λ i. Contains (met_at level table (i, get_or words at.0 0)) (OfFrame table.number))
                  (omega arith) at.2)),
              words_once (met_at level table) (IsThrough (suc level) table.start) words 0
                  (λ i j n. one_turn (suc level) table.start i j n (reached_within top t.root t.memory (suc level) table.start table.number on.at))
                  (λ index lt. subst (λ i. Once (reached (met_at level table (i, get_or words index 0)))) (omega arith)
                  (entry_once t.depth level table index (λ next. visits level next) (meaning (suc level) (get_or words index 0))
                  (λ number own says. table_once level _ (next_on_path level table on words is index
                  (omega (arith, pages.whole table.number words is)) number own says))))
                  (λ index n lt met. subst (λ i. IsThrough (suc level) table.start i n) (omega arith)
                  (by_index index n lt (subst (λ i. Contains (met_at level table (i, get_or words index 0)) (OfFrame n)) (omega arith) met))),
            )
      ] refl

  -- ---- each table on a path is reached

  some_there : (level j a n : ℕ) → level ≤ j → j ≤ top → table_on level a ≡ Some n → (p : ℕ) × (table_on j a ≡ Some p)
  some_there level j a n le high at = elim (table_on j a) as (λ o. table_on j a ≡ o → (p : ℕ) × (table_on j a ≡ Some p)) [
    | None ↦ λ none. let nothing = none_past top t.root t.memory j level a high le none in cc
    | Some p ↦ λ is. (p, is)
  ] refl

  path_reached : (d level lower : ℕ) (table : ReachedTable) → d + lower ≡ level → 0 < level → IsOnPath level table → (a n : ℕ)
      → SamePath top (suc level) table.start a
      → table_on lower a ≡ Some n → Contains (visits level table) (OfFrame n)
  path_reached d zero lower table deep some on a n same at = absurd (omega arith)
  path_reached zero (suc level) lower table deep some on a n same at =
      let number : table.number ≡ n =
      same_Some table.number n (sym on.at ∙ same_table top t.root t.memory (suc level) table.start a same
      ∙ subst (λ j. table_on j a ≡ Some n) (omega arith) at) in
      let first = first_met t.depth t.memory level table in
      subst (λ x. Contains (visits (suc level) table) (OfFrame x)) number
      (subst (λ ms. Contains ms (OfFrame table.number)) (sym first.1) (Contains-head (OfFrame table.number) first.0))
  path_reached (suc d) (suc level) lower table deep some on a n same at =
      let high : suc level ≤ top = reached_within top t.root t.memory (suc level) table.start table.number on.at in
      let next = some_there lower level a n (omega arith) (omega (arith, high)) at in
      let before = table_before top t.root t.memory level a next.0 (omega (arith, high)) next.1 in
      let parent : before.0 ≡ table.number = same_Some before.0 table.number
      (sym before.2 ∙ sym (same_table top t.root t.memory (suc level) table.start a same) ∙ on.at) in
      let leads : found_at (suc level) t.memory table.number a ≡ Some (entry.Table next.0 before.1) =
      subst (λ p. found_at (suc level) t.memory p a ≡ Some (entry.Table next.0 before.1)) parent before.3 in
      let words = words_found (suc level) t.memory table.number a (entry.Table next.0 before.1) leads in
      let index : ℕ = index_at (suc level) a in
      let within : index < 512 = mod-lt (a / entry_bytes (suc level)) (omega arith) in
      next_is_met level table on words.0 words.1 index within next.0 before.1 (OfFrame n) words.2
      (path_reached d level lower (next_table level table index next.0 before.1) (omega arith)
      (above_zero level (get_or words.0 index 0) next.0 before.1 words.2)
      (next_on_path level table on words.0 words.1 index within next.0 before.1 words.2) a n
      (same_longer top (suc level) (entry_start level table index) a
      (λ i over to. sym (entry_path level table on words.0 words.1 index within i over to) ∙ same i over to)
      (entry_index level table on words.0 words.1 index within))
      at)

  -- ---- from the root on

  -- each frame that is reached is in use
  pub in_use : (n : ℕ) → Contains (reached (traversal t.depth t.memory t.root)) n → IsSome (finite.get t.memory n)
  in_use n is =
      let under = table_reaches top _ root_on_path n
      (reached_is_met (traversal t.depth t.memory t.root) n is) in
      pages.tree.in_use under.lower under.address n under.at

  -- and each frame in use is reached
  pub each : (n : ℕ) → IsSome (finite.get t.memory n) → Contains (reached (traversal t.depth t.memory t.root)) n
  each n used =
      let path = pages.reached.path n used in
      met_is_reached (traversal t.depth t.memory t.root) n
      (path_reached (top - path.0) top path.0 _
      (omega (arith, reached_within top t.root t.memory path.0 path.1 n path.2)) (some_levels t.depth)
      root_on_path path.1 n (λ i over to. absurd (omega arith)) path.2)

  -- and there is no fault
  pub no_fault : walk_fault t.depth t.memory t.root ≡ None
  no_fault = ⊎_elim
      (λ none. none)
      (λ shared.
      let twice = shared_reached t.depth t.memory t.root shared.0 shared.1 in
      absurd (not_twice shared.0 twice.0 twice.1
      (subst Once twice.2
      (table_once top _ root_on_path))
      twice.3))
      (translates_shared t.depth t.memory t.root pages.some_space.0 pages.whole pages.some_space.1.is_of.translates)

  -- a frame in use is the root, or an entry leads to it
  pub numbers_fit : (n : ℕ) → IsSome (finite.get t.memory n) → n < 2 ^ 40
  numbers_fit n used =
      let path = pages.reached.path n used in
      ⊎_elim
      (λ (same : path.0 ≡ top).
      let first : t.root ≡ n = same_Some t.root n (sym (table_first top t.root t.memory path.1)
      ∙ subst (λ l. table_on l path.1 ≡ Some n) same path.2) in
      subst (λ number. number < 2 ^ 40) first pages.root_fits)
      (λ (other : path.0 ≢ top).
      let before = table_before top t.root t.memory path.0 path.1 n (omega (arith, other, reached_within top t.root t.memory path.0 path.1 n path.2)) path.2 in
      table_fits (suc path.0) _ n before.1 (words_found (suc path.0) t.memory before.0 path.1 (entry.Table n before.1) before.3).2)
      (cases_eq path.0 top)
