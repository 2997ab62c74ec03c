-- Tables all of whose words are 0 are unlinked, from the lowest up.
use Rattle.std.proofs.Common.{AllPairs, ◌≡◌, ◌≢◌, ℕ, zero, suc, ◌+◌, ◌-◌, ◌<◌, ◌≤◌, List, [], ◌∷◌, ◌++◌, take, length, All, Contains, Some, IsSome, ⊎_elim}
use Rattle.std.proofs.Common.{refl, sym, ap, subst, ◌∙◌, arith}
use Rattle.std.specs.Prelude.{unwrap_or, slice_index, slice_set}
use Rattle.std.proofs.Common.{length-set}
use Rattle.std.proofs.lemmas.Bool.{cases_eq}
use Rattle.std.proofs.lemmas.List.{ext_get_or, get_or-set_same, get_or-set_other, length-replicate}
use Rattle.std.proofs.lemmas.List.Elements.{All-nil, All-cons}
use Rattle.std.proofs.lemmas.List.Kept.{AllPairs-cons}
use Rattle.std.specs.FinMap as finite
use Rattle.std.proofs.lemmas.Option.{same_Some}
use Rattle.vs_types.specs.Depth.{levels, index_at}
use Rattle.vs_types.specs.Entry.{meaning}
use Rattle.vs_types.specs.declared.addresses.depth.Depth.{Depth}
use Rattle.vs_types.specs.declared.addresses.page.Rights.{Rights}
use Rattle.vs_types.specs.declared.entries.entry.Meaning.TheVariants as entry
use Rattle.vs_types.proofs.Lists.{Contains-head, Contains-tail}
use Rattle.vs_arena.specs.Store.{zeros}
use Rattle.vs_walk.specs.Memory.{Memory, AreWhole}
use Rattle.vs_walk.specs.Walk.{walk}
use Rattle.vs_space.specs.Held.{word_at, with_word}
use Rattle.vs_space.specs.Path.{found_at, table_in, table_at}
use Rattle.vs_space.proofs.Paths.{table_before}
use Rattle.vs_space.proofs.Footprints.{word_elsewhere}
use Rattle.vs_space.proofs.Prunes.{word_in}
use Rattle.vs_space.proofs.Writes.{get_written, get_written_other, words_in, same_or_not}
use Rattle.vs_space.proofs.Links.{found_in_zeros, zeros_are}
use Rattle.vs_space.proofs.Written.{word_alike}
use Rattle.vs_plan.proofs.Ways.{way_table, way_walk, walk_level}
use Rattle.vs_plan.specs.declared.plans.plan.Store.{Store}
use Rattle.vs_plan.specs.Premise.{HasOwnWay}
use Rattle.vs_plan.specs.Shown.{HasOneWord}
use Rattle.vs_plan.specs.Stores.{stored, stored_all, FindTheirWords}
use Rattle.vs_plan.specs.Way.{IsWay}
use Rattle.vs_plan.proofs.EntryStores.{IsOwnTable, whole_store, walk_off, walk_here, way_stays, fewer, none_here, own_after}
use Rattle.vs_plan.proofs.Stored.{found_word, used_word}

-- ---- the stores

-- the store that takes away the link in the table of a level
abbrev pub cut : (numbers words : ℕ → ℕ) (base level : ℕ) → Store
cut numbers words base level = record { frame = numbers level; index = index_at level base; old = words level; new = 0 }

-- the stores that take away the links to the tables from this level on, this many
abbrev pub cuts : (numbers words : ℕ → ℕ) (base level count : ℕ) → List Store
cuts numbers words base level zero = []
cuts numbers words base level (suc count) = cut numbers words base (suc level) ∷ cuts numbers words base (suc level) count

-- those tables
abbrev pub cut_off : (numbers : ℕ → ℕ) (level count : ℕ) → List ℕ
cut_off numbers level zero = []
cut_off numbers level (suc count) = numbers level ∷ cut_off numbers (suc level) count

-- one more
pub cuts_push : (numbers words : ℕ → ℕ) (base count level : ℕ)
    → cuts numbers words base level (suc count) ≡ cuts numbers words base level count ++ cut numbers words base (suc (level + count)) ∷ []
cuts_push numbers words base zero level = ap (λ l. cut numbers words base (suc l) ∷ []) (omega arith)
cuts_push numbers words base (suc count) level =
    ap (λ later. cut numbers words base (suc level) ∷ later) (cuts_push numbers words base count (suc level)
    ∙ ap (λ l. cuts numbers words base (suc level) count ++ cut numbers words base (suc l) ∷ []) (omega arith))

pub cut_off_push : (numbers : ℕ → ℕ) (count level : ℕ) → cut_off numbers level (suc count) ≡ cut_off numbers level count ++ numbers (level + count) ∷ []
cut_off_push numbers zero level = ap (λ l. numbers l ∷ []) (omega arith)
cut_off_push numbers (suc count) level =
    ap (λ later. numbers level ∷ later) (cut_off_push numbers count (suc level)
    ∙ ap (λ l. cut_off numbers (suc level) count ++ numbers l ∷ []) (omega arith))

-- as a loop adds them
pub cuts_more : (numbers words : ℕ → ℕ) (base from level index : ℕ) (first : Store) (stores : List Store) → from ≤ level
    → stores ≡ first ∷ cuts numbers words base from (level - from) → index ≡ index_at (level + 1) base
    → stores ++ (let s : Store = record { frame = numbers (level + 1); index = index; old = words (level + 1); new = 0 } in s) ∷ []
    ≡ first ∷ cuts numbers words base from (level + 1 - from)
cuts_more numbers words base from level index first stores le before at =
    let one : level + 1 - from ≡ suc (level - from) = omega arith in
    let last : level + 1 ≡ suc (from + (level - from)) = omega arith in
    ap (λ (xs : List Store). xs ++ (let s : Store = record { frame = numbers (level + 1); index = index; old = words (level + 1); new = 0 } in s) ∷ []) before
    ∙ ap (λ i. first ∷ (cuts numbers words base from (level - from)
    ++ (let s : Store = record { frame = numbers (level + 1); index = i; old = words (level + 1); new = 0 } in s) ∷ [])) at
    ∙ ap (λ l. first ∷ (cuts numbers words base from (level - from) ++ cut numbers words base l ∷ [])) last
    ∙ ap (λ xs. first ∷ xs) (sym (cuts_push numbers words base (level - from) from))
    ∙ ap (λ n. first ∷ cuts numbers words base from n) (sym one)

pub cut_off_more : (numbers : ℕ → ℕ) (from level : ℕ) (tables : List ℕ) → from ≤ level → tables ≡ cut_off numbers from (level - from)
    → tables ++ numbers level ∷ [] ≡ cut_off numbers from (level + 1 - from)
cut_off_more numbers from level tables le before =
    let one : level + 1 - from ≡ suc (level - from) = omega arith in
    let last : level ≡ from + (level - from) = omega arith in
    ap (λ (xs : List ℕ). xs ++ numbers level ∷ []) before
    ∙ ap (λ l. cut_off numbers from (level - from) ++ numbers l ∷ []) last
    ∙ sym (cut_off_push numbers (level - from) from)
    ∙ ap (cut_off numbers from) (sym one)

pub length-cuts : (numbers words : ℕ → ℕ) (base count level : ℕ) → length (cuts numbers words base level count) ≡ count
length-cuts numbers words base zero level = refl
length-cuts numbers words base (suc count) level = ap suc (length-cuts numbers words base count (suc level))

pub length-cut_off : (numbers : ℕ → ℕ) (count level : ℕ) → length (cut_off numbers level count) ≡ count
length-cut_off numbers zero level = refl
length-cut_off numbers (suc count) level = ap suc (length-cut_off numbers count (suc level))

-- ---- words

word_is : (m : Memory) (q i w : ℕ) (words : List ℕ) → finite.get m q ≡ Some words → word_at m q i ≡ Some w → slice_index words i ≡ w
word_is m q i w words got told = same_Some (slice_index words i) w (sym (word_in m q i words got) ∙ told)

-- a frame with one word, which becomes 0
pub cleared : (m : Memory) (q i : ℕ) → AreWhole m → IsSome (finite.get m q) → i < 512 → HasOneWord m q i
    → finite.get (with_word m q i 0) q ≡ Some zeros
cleared m q i whole used low alone =
    get_written m q i 0 ∙ ap Some (ext_get_or 0 (slice_set words i 0) zeros (long ∙ sym (length-replicate {A = ℕ} 512 0)) each) where
      words : List ℕ
      words = unwrap_or (finite.get m q) []

      long : length (slice_set (unwrap_or (finite.get m q) []) i 0) ≡ 512
      long = length-set (unwrap_or (finite.get m q) []) i 0 ∙ whole q (unwrap_or (finite.get m q) []) (words_in m q used)

      each : (k : ℕ) → k < length (slice_set (unwrap_or (finite.get m q) []) i 0)
          → slice_index (slice_set (unwrap_or (finite.get m q) []) i 0) k ≡ slice_index zeros k
      each k lt = ⊎_elim
          (λ (same : k ≡ i). ap (slice_index (slice_set (unwrap_or (finite.get m q) []) i 0)) same
          ∙ get_or-set_same (unwrap_or (finite.get m q) []) i 0 0 (omega (arith, whole q (unwrap_or (finite.get m q) []) (words_in m q used), low))
          ∙ sym (zeros_are k))
          (λ (other : k ≢ i). get_or-set_other (unwrap_or (finite.get m q) []) i k 0 0 other
          ∙ word_is m q k 0 (unwrap_or (finite.get m q) []) (words_in m q used) (alone k (omega (arith, long, lt)) other)
          ∙ sym (zeros_are k))
          (cases_eq k i)

-- ---- before each store

-- the tables on the way of the address, of which the one of this level is all 0, where it isn't the one that stays
pub record IsUnlinkable (depth : Depth) (m : Memory) (root base : ℕ) (numbers words : ℕ → ℕ) (level stop : ℕ) : Type 0 where
  pub whole : AreWhole m
  pub own : HasOwnWay depth m root base
  pub some : 1 ≤ level
  pub highest : stop ≤ levels depth
  pub clear : level < stop → finite.get m (numbers level) ≡ Some zeros
  pub ways : (j : ℕ) → level ≤ j → j ≤ levels depth → (rights : Rights) × IsWay depth m root base j (numbers j) rights
  pub told : (j : ℕ) → level < j → j ≤ levels depth → word_at m (numbers j) (index_at j base) ≡ Some (words j)
  pub alone : (j : ℕ) → level < j → j < stop → HasOneWord m (numbers j) (index_at j base)

-- ---- one store

module _ {depth : Depth} {m : Memory} {root base : ℕ} {numbers words : ℕ → ℕ} {level stop : ℕ}
    (is : IsUnlinkable depth m root base numbers words level stop) (low : level < stop) where
  reached : (j : ℕ) → level ≤ j → j ≤ levels depth → table_at (levels depth) m root j base ≡ Some (numbers j)
  reached j le high = let way = is.ways j le high in way_table j (numbers j) way.0 way.1

  fits : suc level ≤ levels depth
  fits = omega (arith, is.highest, low)

  told_here : word_at m (numbers (suc level)) (index_at (suc level) base) ≡ Some (words (suc level))
  told_here = is.told (suc level) (omega arith) fits

  here : IsOwnTable depth m root (suc level) base (numbers (suc level))
  here = record {
    own = is.own;
    whole = is.whole;
    used = used_word m (numbers (suc level)) (index_at (suc level) base) (words (suc level)) told_here;
    at = reached (suc level) (omega arith) fits;
  }

  abbrev next : Memory
  next = stored m (cut numbers words base (suc level))

  -- tables of two levels are two frames
  apart : (i j : ℕ) → level ≤ i → i ≤ levels depth → level ≤ j → j ≤ levels depth → i ≢ j → numbers i ≢ numbers j
  apart i j li hi lj hj other same = other (sym (is.own.once i (numbers i) j base (reached i li hi) (reached j lj hj ∙ ap Some (sym same))).0)

  -- the link that is taken away
  pub linked : table_in (Some (meaning (suc level) (words (suc level)))) ≡ Some (numbers level)
  linked =
      let before = table_before (levels depth) root m level base (numbers level) fits (reached level (omega arith) (omega (arith, fits))) in
      let same : before.0 ≡ numbers (suc level) = same_Some before.0 (numbers (suc level)) (sym before.2 ∙ reached (suc level) (omega arith) fits) in
      let found : found_at (suc level) m (numbers (suc level)) base ≡ Some (entry.Table (numbers level) before.1) =
      subst (λ p. found_at (suc level) m p base ≡ Some (entry.Table (numbers level) before.1)) same before.3 in
      ap table_in (sym (found_word (suc level) m (numbers (suc level)) base (words (suc level)) told_here) ∙ found)

  -- each address is walked as before
  pub cut_walk : (b : ℕ) → walk depth next root b ≡ walk depth m root b
  cut_walk b = ⊎_elim
      (λ same.
      let way = is.ways (suc level) (omega arith) fits in
      let under = is.ways level (omega arith) (omega (arith, fits)) in
      walk_here here 0 way.1 (omega arith) entry.Absent refl b same
      ∙ sym (way_walk level (numbers level) under.0 under.1 b same
      ∙ walk_level m level (numbers level) under.0 b entry.Absent is.some (found_in_zeros level m (numbers level) b (is.clear low))))
      (λ off. walk_off here 0 b off)
      (same_or_not (levels depth) (suc level) base b)

  -- no way leads to the table any more
  pub cut_unreached : (j b : ℕ) → table_at (levels depth) next root j b ≢ Some (numbers level)
  cut_unreached j b r =
      let at = is.own.once level (numbers level) j b (reached level (omega arith) (omega (arith, fits))) (fewer here 0 refl b j (numbers level) r) in
      let none = none_here here 0 refl b j (omega (arith, at.0)) at.1 in
      cc

  pub cut_fewer : (b j q : ℕ) → table_at (levels depth) next root j b ≡ Some q → table_at (levels depth) m root j b ≡ Some q
  cut_fewer b j q r = fewer here 0 refl b j q r

  pub cut_own : (b : ℕ) → HasOwnWay depth m root b → HasOwnWay depth next root b
  cut_own b own = own_after here 0 refl b own

  -- the frames of other levels are as before
  other_frame : (j : ℕ) → level ≤ j → j ≤ levels depth → j ≢ suc level → finite.get next (numbers j) ≡ finite.get m (numbers j)
  other_frame j le high other = get_written_other m (numbers (suc level)) (index_at (suc level) base) 0 (numbers j)
      (apart j (suc level) le high (omega arith) fits other)

  pub cut_on : IsUnlinkable depth next root base numbers words (suc level) stop
  cut_on = record {
    whole = whole_store here 0;
    own = cut_own base is.own;
    some = omega arith;
    highest = is.highest;
    clear = λ lower. cleared m (numbers (suc level)) (index_at (suc level) base) is.whole here.used (omega arith) (is.alone (suc level) (omega arith) lower);
    ways = λ j le high. let way = is.ways j (omega arith) high in (way.0, way_stays here 0 base j (numbers j) way.0 le way.1);
    told = λ j lt high. word_alike m next (numbers j) (index_at j base) (other_frame j (omega arith) high (λ e. omega arith)) ∙ is.told j (omega arith) high;
    alone = λ j lt lower i within differs.
        word_alike m next (numbers j) i (other_frame j (omega arith) (omega (arith, is.highest, lower)) (λ e. omega arith))
        ∙ is.alone j (omega arith) lower i within differs;
  }

-- ---- all of them

-- what a store of these is: in the table of a level on the way, it takes away the link to a table that is all 0 afterwards
pub record IsCut (depth : Depth) (m after : Memory) (root base from stop : ℕ) (unlinked : List ℕ) (store : Store) : Type 0 where
  pub level : ℕ
  pub over : from < level
  pub upto : level ≤ stop
  pub at : table_at (levels depth) m root level base ≡ Some store.frame
  pub index : store.index ≡ index_at level base
  pub below : ℕ
  pub leads : table_in (Some (meaning level store.old)) ≡ Some below
  pub named : Contains unlinked below
  pub clear : finite.get after below ≡ Some zeros
  pub new : store.new ≡ 0

-- no way leads to a table that was unlinked, and its words are all 0; before it was the table of a level below the highest
pub record IsOff (depth : Depth) (m after : Memory) (root base number : ℕ) : Type 0 where
  pub level : ℕ
  pub was : table_at (levels depth) m root level base ≡ Some number
  pub lower : level < levels depth
  pub unreached : (j b : ℕ) → table_at (levels depth) after root j b ≢ Some number
  pub clear : finite.get after number ≡ Some zeros

pub record AreUnlinked (depth : Depth) (m : Memory) (root base from stop : ℕ) (stores : List Store) (unlinked : List ℕ) : Type 0 where
  pub found : FindTheirWords m stores
  pub walks : (n b : ℕ) → walk depth (stored_all m (take n stores)) root b ≡ walk depth m root b
  pub whole : AreWhole (stored_all m stores)
  pub fewer : (b j q : ℕ) → table_at (levels depth) (stored_all m stores) root j b ≡ Some q → table_at (levels depth) m root j b ≡ Some q
  pub owns : (b : ℕ) → HasOwnWay depth m root b → HasOwnWay depth (stored_all m stores) root b
  pub cut : All (IsCut depth m (stored_all m stores) root base from stop unlinked) stores
  pub off : All (IsOff depth m (stored_all m stores) root base) unlinked

-- frames of none of the levels above stay as they are
frame_kept : (depth : Depth) (root base : ℕ) (numbers words : ℕ → ℕ) (stop count level q : ℕ) (m : Memory) → level + count ≡ stop
    → IsUnlinkable depth m root base numbers words level stop → ((j : ℕ) → level < j → j ≤ stop → q ≢ numbers j)
    → finite.get (stored_all m (cuts numbers words base level count)) q ≡ finite.get m q
frame_kept depth root base numbers words stop zero level q m ends is other = refl
frame_kept depth root base numbers words stop (suc count) level q m ends is other =
    frame_kept depth root base numbers words stop count (suc level) q (stored m (cut numbers words base (suc level))) (omega arith)
    (cut_on is (omega arith)) (λ j lt le. other j (omega arith) le)
    ∙ get_written_other m (numbers (suc level)) (index_at (suc level) base) 0 q (other (suc level) (omega arith) (omega arith))

pub word_kept : (depth : Depth) (root base : ℕ) (numbers words : ℕ → ℕ) (stop count level q i : ℕ) (m : Memory) → level + count ≡ stop
    → IsUnlinkable depth m root base numbers words level stop → ((j : ℕ) → level < j → j ≤ stop → q ≡ numbers j → i ≢ index_at j base)
    → word_at (stored_all m (cuts numbers words base level count)) q i ≡ word_at m q i
word_kept depth root base numbers words stop zero level q i m ends is apart = refl
word_kept depth root base numbers words stop (suc count) level q i m ends is apart =
    word_kept depth root base numbers words stop count (suc level) q i (stored m (cut numbers words base (suc level))) (omega arith) (cut_on is (omega arith))
    (λ j lt le. apart j (omega arith) le)
    ∙ word_elsewhere m (numbers (suc level)) (index_at (suc level) base) 0 q i
    (used_word m (numbers (suc level)) (index_at (suc level) base) (words (suc level)) (told_here is (omega arith)))
    (apart (suc level) (omega arith) (omega arith))

pub among_cut_off : (numbers : ℕ → ℕ) (count level j : ℕ) → level ≤ j → j < level + count → Contains (cut_off numbers level count) (numbers j)
among_cut_off numbers zero level j le lt = absurd (omega arith)
among_cut_off numbers (suc count) level j le lt = ⊎_elim
    (λ (same : j ≡ level). subst (λ l. Contains (numbers level ∷ cut_off numbers (suc level) count) (numbers l)) (sym same)
    (Contains-head (numbers level) (cut_off numbers (suc level) count)))
    (λ (other : j ≢ level). Contains-tail (numbers level) (cut_off numbers (suc level) count) (numbers j)
    (among_cut_off numbers count (suc level) j (omega arith) (omega arith)))
    (cases_eq j level)

nothing_stored : (depth : Depth) (m : Memory) (root n b : ℕ) → walk depth (stored_all m (take n [])) root b ≡ walk depth m root b
nothing_stored depth m root zero b = refl
nothing_stored depth m root (suc n) b = refl

-- one store, and then those above it
module _ {depth : Depth} {m : Memory} {root base : ℕ} {numbers words : ℕ → ℕ} {level stop : ℕ} (is : IsUnlinkable depth m root base numbers words level stop)
    (low : level < stop) (count : ℕ) (ends : suc level + count ≡ stop)
    (later : AreUnlinked depth (stored m (cut numbers words base (suc level))) root base (suc level) stop (cuts numbers words base (suc level) count)
    (cut_off numbers (suc level) count)) where
  abbrev after : Memory
  after = stored_all m (cuts numbers words base level (suc count))

  abbrev off : List ℕ
  off = numbers level ∷ cut_off numbers (suc level) count

  clear_after : finite.get after (numbers level) ≡ Some zeros
  clear_after =
      frame_kept depth root base numbers words stop count (suc level) (numbers level) (stored m (cut numbers words base (suc level))) ends
      (cut_on is low)
      (λ j lt le. apart is low level j (omega arith) (omega (arith, is.highest)) (omega arith) (omega (arith, is.highest)) (λ e. omega arith))
      ∙ other_frame is low level (omega arith) (omega (arith, is.highest)) (λ e. omega arith) ∙ is.clear low

  first_cut : IsCut depth m after root base level stop off (cut numbers words base (suc level))
  first_cut = record {
    level = suc level;
    over = omega arith;
    upto = omega arith;
    at = reached is low (suc level) (omega arith) (fits is low);
    index = refl;
    below = numbers level;
    leads = linked is low;
    named = Contains-head (numbers level) (cut_off numbers (suc level) count);
    clear = clear_after;
    new = refl;
  }

  first_off : IsOff depth m after root base (numbers level)
  first_off = record {
    level = level;
    was = reached is low level (omega arith) (omega (arith, fits is low));
    lower = fits is low;
    unreached = λ j b r. cut_unreached is low j b (later.fewer b j (numbers level) r);
    clear = clear_after;
  }

  walks : (n b : ℕ) → walk depth (stored_all m (take n (cuts numbers words base level (suc count)))) root b ≡ walk depth m root b
  walks zero b = refl
  walks (suc n) b = later.walks n b ∙ cut_walk is low b

  unlinks_more : AreUnlinked depth m root base level stop (cuts numbers words base level (suc count)) (cut_off numbers level (suc count))
  unlinks_more = record {
    found = (told_here is low, later.found);
    walks = walks;
    whole = later.whole;
    fewer = λ b j q r. cut_fewer is low b j q (later.fewer b j q r);
    owns = λ b own. later.owns b (cut_own is low b own);
    cut = All-cons (IsCut depth m after root base level stop off) (cut numbers words base (suc level)) (cuts numbers words base (suc level) count) first_cut
        (λ k d lt. let c = later.cut k d lt in record {
          level = c.level;
          over = omega (arith, c.over);
          upto = c.upto;
          at = cut_fewer is low base c.level _ c.at;
          index = c.index;
          below = c.below;
          leads = c.leads;
          named = Contains-tail (numbers level) (cut_off numbers (suc level) count) c.below c.named;
          clear = c.clear;
          new = c.new;
        });
    off = All-cons (IsOff depth m after root base) (numbers level) (cut_off numbers (suc level) count) first_off
        (λ k d lt. let o = later.off k d lt in record {
          level = o.level;
          was = cut_fewer is low base o.level _ o.was;
          lower = o.lower;
          unreached = o.unreached;
          clear = o.clear;
        });
  }

pub unlinks : (depth : Depth) (root base : ℕ) (numbers words : ℕ → ℕ) (stop count level : ℕ) (m : Memory) → level + count ≡ stop
    → IsUnlinkable depth m root base numbers words level stop
    → AreUnlinked depth m root base level stop (cuts numbers words base level count) (cut_off numbers level count)
unlinks depth root base numbers words stop zero level m ends is = record {
  found = tt;
  walks = λ n b. nothing_stored depth m root n b;
  whole = is.whole;
  fewer = λ b j q r. r;
  owns = λ b own. own;
  cut = All-nil (IsCut depth m m root base level stop []);
  off = All-nil (IsOff depth m m root base);
}
unlinks depth root base numbers words stop (suc count) level m ends is =
    unlinks_more is (omega arith) count (omega arith)
    (unlinks depth root base numbers words stop count (suc level) (stored m (cut numbers words base (suc level))) (omega arith) (cut_on is (omega arith)))

-- the tables that are cut off are frames of their own
numbers_apart : (depth : Depth) (root base : ℕ) (numbers : ℕ → ℕ) (m : Memory) (from stop : ℕ) → HasOwnWay depth m root base
    → ((j : ℕ) → from ≤ j → j ≤ stop → table_at (levels depth) m root j base ≡ Some (numbers j)) → from ≤ stop
    → (count level : ℕ) → from < level → level + count ≤ suc stop → All (λ q. numbers from ≢ q) (cut_off numbers level count)
numbers_apart depth root base numbers m from stop own reached low zero level over upto = All-nil (λ q. numbers from ≢ q)
numbers_apart depth root base numbers m from stop own reached low (suc count) level over upto =
    All-cons (λ q. numbers from ≢ q) (numbers level) (cut_off numbers (suc level) count)
    (λ same.
    let at = (own.once from (numbers from) level base (reached from (omega arith) low) (reached level (omega arith) (omega arith) ∙ ap Some (sym same))).0 in
    absurd (omega arith))
    (numbers_apart depth root base numbers m from stop own reached low count (suc level) (omega arith) (omega arith))

pub cut_off_apart : (depth : Depth) (root base : ℕ) (numbers : ℕ → ℕ) (m : Memory) (stop : ℕ) → HasOwnWay depth m root base
    → (count level : ℕ) → level + count ≤ suc stop → ((j : ℕ) → level ≤ j → j ≤ stop → table_at (levels depth) m root j base ≡ Some (numbers j))
    → AllPairs (λ number other. number ≢ other) (cut_off numbers level count)
cut_off_apart depth root base numbers m stop own zero level upto reached = λ i j d lt within. absurd (omega arith)
cut_off_apart depth root base numbers m stop own (suc count) level upto reached =
    AllPairs-cons (λ number other. number ≢ other) (numbers level) (cut_off numbers (suc level) count)
    (numbers_apart depth root base numbers m level stop own reached (omega arith) count (suc level) (omega arith) (omega arith))
    (cut_off_apart depth root base numbers m stop own count (suc level) (omega arith) (λ j le high. reached j (omega arith) high))
