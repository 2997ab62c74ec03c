-- What the stores of a plan write, where flags were set in the memory since it was shown, or in the word that one of them finds.
use Rattle.std.proofs.Common.{◌≡◌, ℕ, suc, ◌%◌, ◌^◌, List, [], ◌∷◌, Option, Some, None, refl, sym, ap, subst, ◌∙◌, arith}
use Rattle.std.specs.List.{AllZip}
use Rattle.vs_types.specs.Depth.{levels, index_at}
use Rattle.vs_types.specs.Entry.{size_at}
use Rattle.vs_types.specs.Page.{level_of, intersection}
use Rattle.vs_types.specs.declared.addresses.page.Page.{Page}
use Rattle.vs_types.specs.declared.addresses.page.Rights.{Rights}
use Rattle.vs_types.specs.declared.addresses.page.Size.{Size}
use Rattle.vs_walk.specs.Memory.{Memory}
use Rattle.vs_space.specs.Flags.{IsSameButFlags, AreSameButFlags}
use Rattle.vs_space.specs.Held.{word_at}
use Rattle.vs_space.specs.Path.{table_at}
use Rattle.vs_space.proofs.FlaggedWords.{flagged_meaning}
use Rattle.vs_space.proofs.Written.{leaf_aligned}
use Rattle.vs_plan.specs.declared.plans.plan.Fill.{Fill}
use Rattle.vs_plan.specs.declared.plans.plan.Store.{Store}
use Rattle.vs_plan.specs.declared.plans.request.Request.{Request}
use Rattle.vs_plan.specs.declared.plans.request.Request.TheVariants.{Unmap, Protect, Remap, Split, Join, Prune, UnmapPart, Collapse}
use Rattle.vs_plan.specs.declared.plans.target.Target.{Target}
use Rattle.vs_types.specs.Bits.{HasFlagsSet, bits_in, flagged, flags_into, page_word, with_address, with_rights}
use Rattle.vs_plan.specs.Changes.{larger, smaller}
use Rattle.vs_plan.specs.Right.{IsEntryOf, IsOfPage, IsRemapped, IsSplit, IsJoined, IsCollapsed, IsCut, IsPut}
use Rattle.vs_plan.specs.Stores.{fill_words, filled, FindTheirWords}
use Rattle.vs_plan.proofs.FillsAgain.{same_filled}
use Rattle.vs_plan.proofs.Filled.{word_as, insert_same}
use Rattle.vs_plan.proofs.FlaggedEntries.{ArePaired, absent_flags, at_flags, follow_flags, like_flags, leaf_odd, same_word, set_flags, spare_flags, word_flags, entry_as}
use Rattle.vs_plan.proofs.OtherFlags.{bits_after}
use Rattle.vs_plan.proofs.PlansSuffice.{some_level}
use Rattle.vs_types.proofs.Pages.{level_some}

-- ---- words

both_flagged : (word number : ℕ) → flagged (flags_into word number) ≡ flagged number
both_flagged word number = omega arith

-- the bits that a join writes are the same whatever flags the first entry has
flagged_bits : (size : Size) (first now : ℕ) → HasFlagsSet first now → flagged (bits_in size now) ≡ flagged (bits_in size first)
flagged_bits size first now is = ap flagged (sym (bits_after size now first is)) ∙ both_flagged now (bits_in size first)

-- ---- what is put, by the words that are found

module _ (target : Target) {old new : Memory} (is : AreSameButFlags old new) where
  entry_moved : (base : ℕ) (size : Size) {s t : Store} → (at : IsEntryOf target old base size s.old) → s.frame ≡ at.number → s.index ≡ index_at at.level base
      → ArePaired s t → word_at new t.frame t.index ≡ Some t.old
      → (now : IsEntryOf target new base size t.old) × (t.frame ≡ now.number) × (t.index ≡ index_at now.level base)
  entry_moved base size {s} {t} at frame index pair told = (
    entry_as is target at (subst (λ n. word_at new n (index_at at.level base) ≡ Some t.old) (pair.frame ∙ frame)
        (subst (λ i. word_at new t.frame i ≡ Some t.old) (pair.index ∙ index) told)) pair.old,
    pair.frame ∙ frame,
    pair.index ∙ index,
  )

  page_moved : (base : ℕ) {s t : Store} → IsOfPage target old base s → ArePaired s t → word_at new t.frame t.index ≡ Some t.old → IsOfPage target new base t
  page_moved base of pair told =
      let now = entry_moved base of.size of.entry_is of.frame of.at pair told in
      record { size = of.size; entry_is = now.0; frame = now.1; at = now.2 }

  remapped_moved : (base phys : ℕ) (rights : Rights) {s t : Store} → (of : IsRemapped target old base phys rights s) → ArePaired s t
      → word_at new t.frame t.index ≡ Some t.old → t.new ≡ with_rights (with_address of.size t.old phys) rights → IsRemapped target new base phys rights t
  remapped_moved base phys rights of pair told writes =
      let now = entry_moved base of.size of.entry_is of.frame of.at pair told in
      record { size = of.size; entry_is = now.0; frame = now.1; at = now.2; new = writes }

  -- the part of a split's page that comes first
  abbrev first_part : ℕ → {base gap count : ℕ} {offered : List (Option ℕ)} {fill : Fill} {s : Store} → IsSplit target old base gap count offered fill s → ℕ
  first_part word {base} split =
      page_word (record { base = base; size = smaller split.size; rights = split.own; phys = split.phys }) (bits_in split.size word)

  split_moved : {gap count : ℕ} (base : ℕ) (offered : List (Option ℕ)) (fill : Fill) {s t : Store}
      → (of : IsSplit target old base gap count offered fill s) → ArePaired s t
      → word_at new t.frame t.index ≡ Some t.old → t.new ≡ s.new → (first : ℕ) → first ≡ first_part t.old of
      → IsSplit target new base gap count offered (record fill { first = first }) t
  split_moved base offered fill {s} {t} of pair told writes first first_is =
      let now = entry_moved base of.size of.entry_is of.frame of.at pair told in
      record {
        size = of.size;
        phys = of.phys;
        own = of.own;
        entry_is = now.0;
        frame = now.1;
        at = now.2;
        aligned = of.aligned;
        says = flagged_meaning pair.old (level_of of.size) (level_some of.size) ∙ of.says;
        large = of.large;
        given = of.given;
        within = of.within;
        spare = spare_flags is target.depth target.root fill.frame of.spare;
        first = first_is;
        step = of.step;
        gap_is = of.gap_is;
        count_is = of.count_is;
        link = writes ∙ of.link;
      }

  joined_moved : (base : ℕ) (unlinked : List ℕ) {s t : Store} → IsJoined target old base unlinked s → ArePaired s t → t.new ≡ s.new
      → IsJoined target new base unlinked t
  joined_moved base unlinked {s} {t} of pair writes =
      let first = word_flags is of.number (index_at of.level base) of.first of.first_is in
      let some = some_level target.depth old target.root of.level base of.number of.reached in
      record {
        level = of.level;
        number = of.number;
        first = first.0;
        phys = of.phys;
        own = of.own;
        allowed = of.allowed;
        few = of.few;
        reached = at_flags is target.depth target.root of.level base of.number of.reached;
        first_is = first.1;
        says = flagged_meaning first.2 of.level some ∙ of.says;
        aligned = of.aligned;
        follow = follow_flags is of.number (size_at of.level) of.first first.0 512 first.2 of.follow;
        above = at_flags is target.depth target.root (suc of.level) base s.frame of.above ∙ ap Some (sym pair.frame);
        index_is = pair.index ∙ of.index_is;
        leads = flagged_meaning pair.old (suc of.level) (omega arith) ∙ of.leads;
        new = writes ∙ of.new
            ∙ ap (page_word (record { base = base; size = larger (size_at of.level); rights = intersection of.allowed of.own; phys = of.phys }))
            (sym (flagged_bits (size_at of.level) of.first first.0 (set_flags first.2 (leaf_odd of.level of.first of.phys of.own of.says))));
        unlinked_is = of.unlinked_is;
      }

  collapsed_moved : (base phys : ℕ) (rights : Rights) (unlinked : List ℕ) {s t : Store} → IsCollapsed target old base phys rights unlinked s
      → ArePaired s t → t.new ≡ s.new → IsCollapsed target new base phys rights unlinked t
  collapsed_moved base phys rights unlinked {s} {t} of pair writes =
      let first = word_flags is of.number (index_at of.level base) of.first of.first_is in
      let some = some_level target.depth old target.root of.level base of.number of.reached in
      record {
        level = of.level;
        number = of.number;
        first = first.0;
        place = of.place;
        own = of.own;
        allowed = of.allowed;
        few = of.few;
        reached = at_flags is target.depth target.root of.level base of.number of.reached;
        first_is = first.1;
        says = flagged_meaning first.2 of.level some ∙ of.says;
        aligned = of.aligned;
        phys_aligned = of.phys_aligned;
        alike = like_flags is of.number (size_at of.level) of.first first.0 512 first.2 of.alike;
        above = at_flags is target.depth target.root (suc of.level) base s.frame of.above ∙ ap Some (sym pair.frame);
        index_is = pair.index ∙ of.index_is;
        leads = flagged_meaning pair.old (suc of.level) (omega arith) ∙ of.leads;
        new = writes ∙ of.new
            ∙ ap (page_word (record { base = base; size = larger (size_at of.level); rights = rights; phys = phys }))
            (sym (flagged_bits (size_at of.level) of.first first.0 (set_flags first.2 (leaf_odd of.level of.first of.place of.own of.says))));
        unlinked_is = of.unlinked_is;
      }

  cut_moved : (address : ℕ) (unlinked : List ℕ) {s t : Store} → IsCut target old address unlinked s → ArePaired s t → IsCut target new address unlinked t
  cut_moved address unlinked {s} of pair =
      let some = some_level target.depth old target.root of.level address of.number of.reached in
      record {
        level = of.level;
        number = of.number;
        allowed = of.allowed;
        reached = at_flags is target.depth target.root of.level address of.number of.reached;
        empty = λ index low. absent_flags is of.level of.number index some (of.empty index low);
        above = at_flags is target.depth target.root (suc of.level) address s.frame of.above ∙ ap Some (sym pair.frame);
        index_is = pair.index ∙ of.index_is;
        leads = flagged_meaning pair.old (suc of.level) (omega arith) ∙ of.leads;
        unlinked_is = of.unlinked_is;
      }

-- how the store that links what is filled, and that, go with the word that is found
abbrev pub IsRefilled : Option Fill → Option Fill → Store → Store → Type 0
IsRefilled fill other s t = (t.new ≡ s.new)
    × ((table : Fill) → fill ≡ Some table → (first : ℕ) × (other ≡ Some (record table { first = first }))
    × ((page : Page) (size : Size) → page.phys % 2 ^ 12 ≡ 0 → table.first ≡ page_word page (bits_in size s.old)
    → first ≡ page_word page (bits_in size t.old)))

-- how the first store of a request, and what is filled, goes with the word that is found
abbrev pub IsRewritten : Request → Option Fill → Option Fill → List Store → List Store → Type 0
IsRewritten request fill other (s ∷ xs) [] = Unit {0}
IsRewritten (Remap base phys rights) fill other (s ∷ xs) (t ∷ ys) = (other ≡ fill)
    × ((size : Size) → s.old % 2 ≡ 1 → s.new ≡ with_rights (with_address size s.old phys) rights → t.new ≡ with_rights (with_address size t.old phys) rights)
IsRewritten (Split base) fill other (s ∷ xs) (t ∷ ys) = IsRefilled fill other s t
IsRewritten (Join base) fill other (s ∷ xs) (t ∷ ys) = (other ≡ fill) × (t.new ≡ s.new)
IsRewritten (UnmapPart base first count) fill other (s ∷ xs) (t ∷ ys) = IsRefilled fill other s t
IsRewritten (Collapse base phys rights) fill other (s ∷ xs) (t ∷ ys) = (other ≡ fill) × (t.new ≡ s.new)
IsRewritten _ fill other _ _ = other ≡ fill

module _ (target : Target) {old new : Memory} (is : AreSameButFlags old new) (offered : List (Option ℕ)) (fill other : Option Fill) (unlinked : List ℕ) where
  -- where nothing is filled
  told_there : (t : Store) → other ≡ fill → fill ≡ None → word_at (filled new other) t.frame t.index ≡ Some t.old → word_at new t.frame t.index ≡ Some t.old
  told_there t same none told = subst (λ (o : Option Fill). word_at (filled new o) t.frame t.index ≡ Some t.old) (same ∙ none) told

  -- where a table of parts is filled
  refilled : {gap count : ℕ} (base : ℕ) (s t : Store) → ArePaired s t → word_at (filled new other) t.frame t.index ≡ Some t.old
      → IsRefilled fill other s t → (put : (table : Fill) × (fill ≡ Some table) × IsSplit target old base gap count offered table s × (unlinked ≡ []))
      → (table : Fill) × (other ≡ Some table) × IsSplit target new base gap count offered table t × (unlinked ≡ [])
  refilled base s t pair found writes put =
      let split = put.2 in
      let next = writes.1 put.0 put.1 in
      let spare = spare_flags is target.depth target.root put.0.frame split.spare in
      let told : word_at (filled new (Some (record put.0 { first = next.0 }))) t.frame t.index ≡ Some t.old =
      subst (λ (o : Option Fill). word_at (filled new o) t.frame t.index ≡ Some t.old) next.1 found in
      let reached : table_at (levels target.depth) new target.root split.entry_is.level base ≡ Some t.frame =
      at_flags is target.depth target.root split.entry_is.level base split.entry_is.number split.entry_is.reached
      ∙ ap Some (sym (pair.frame ∙ split.frame)) in
      let there : word_at new t.frame t.index ≡ Some t.old =
      sym (word_as target.depth target.root new _ (insert_same target.depth target.root new put.0.frame (fill_words (record put.0 { first = next.0 }))
      spare.unreached) split.entry_is.level base t.frame t.index reached)
      ∙ told in (
        record put.0 { first = next.0 },
        next.1,
        split_moved target is base offered put.0 split pair there writes.0 next.0
            (next.2 (record { base = base; size = smaller split.size; rights = split.own; phys = split.phys }) split.size
            (leaf_aligned (level_of split.size) s.old split.phys split.own (level_some split.size) split.says) split.first),
        put.3,
      )

  pub put_moved : (request : Request) (xs ys : List Store) → AllZip ArePaired xs ys → FindTheirWords (filled new other) ys
      → IsRewritten request fill other xs ys → IsPut target request old offered fill xs unlinked → IsPut target request new offered other ys unlinked
  put_moved request [] (t ∷ ys) pairs found writes put = absurd pairs
  put_moved request (s ∷ xs) [] pairs found writes put = absurd pairs
  put_moved (Unmap base) (s ∷ xs) (t ∷ ys) pairs found writes put =
      (writes ∙ put.0, page_moved target is base put.1 pairs.0 (told_there t writes put.0 found.0))
  put_moved (Protect base rights) (s ∷ xs) (t ∷ ys) pairs found writes put =
      (writes ∙ put.0, page_moved target is base put.1 pairs.0 (told_there t writes put.0 found.0), put.2)
  put_moved (Remap base phys rights) (s ∷ xs) (t ∷ ys) pairs found writes put = (
    writes.0 ∙ put.0,
    remapped_moved target is base phys rights put.1 pairs.0 (told_there t writes.0 put.0 found.0)
        (writes.1 put.1.size (leaf_odd put.1.entry_is.level s.old put.1.entry_is.leaf.0 put.1.entry_is.leaf.1 put.1.entry_is.leaf.2) put.1.new),
    put.2,
  )
  put_moved (Split base) (s ∷ xs) (t ∷ ys) pairs found writes put = refilled base s t pairs.0 found.0 writes put
  put_moved (UnmapPart base first count) (s ∷ xs) (t ∷ ys) pairs found writes put = refilled base s t pairs.0 found.0 writes put
  put_moved (Collapse base phys rights) (s ∷ xs) (t ∷ ys) pairs found writes put =
      (writes.0 ∙ put.0, collapsed_moved target is base phys rights unlinked put.1 pairs.0 writes.1)
  put_moved (Join base) (s ∷ xs) (t ∷ ys) pairs found writes put =
      (writes.0 ∙ put.0, joined_moved target is base unlinked put.1 pairs.0 writes.1)
  put_moved (Prune address) (s ∷ xs) (t ∷ ys) pairs found writes put = (writes ∙ put.0, cut_moved target is address unlinked put.1 pairs.0)
  put_moved _ _ _ pairs found writes put = writes ∙ put

-- ---- the same stores

pub rewritten_same : (request : Request) (fill : Option Fill) (xs : List Store) → IsRewritten request fill fill xs xs
rewritten_same request fill [] = refl
rewritten_same (Remap base phys rights) fill (s ∷ xs) = (refl, λ size odd writes. writes)
rewritten_same (Split base) fill (s ∷ xs) = (refl, λ table is. (table.first, is, λ page size at writes. writes))
rewritten_same (Join base) fill (s ∷ xs) = (refl, refl)
rewritten_same (UnmapPart base first count) fill (s ∷ xs) = (refl, λ table is. (table.first, is, λ page size at writes. writes))
rewritten_same (Collapse base phys rights) fill (s ∷ xs) = (refl, refl)
rewritten_same _ fill (s ∷ xs) = refl

pub filled_alike : {old new : Memory} → AreSameButFlags old new → (fill : Option Fill) → AreSameButFlags (filled old fill) (filled new fill)
filled_alike is None = is
filled_alike is (Some fill) = same_filled is fill.frame _ _ (same_words (fill_words fill)) where
  same_words : (words : List ℕ) → AllZip IsSameButFlags words words
  same_words [] = tt
  same_words (word ∷ words) = (same_word word, same_words words)
