-- A plan one of whose stores found other flags is right for the memory with them.
use Rattle.std.proofs.Common.{◌≡◌, ◌≢◌, ℕ, zero, suc, ◌+◌, ◌%◌, ◌^◌, ◌<◌, ◌≤◌, List, [], ◌∷◌, All, length, Option, Some, None, inl, inr, refl, sym, ap, subst}
use Rattle.std.proofs.Common.{◌∙◌, arith}
use Rattle.std.specs.Prelude.{slice_index_or, slice_set}
use Rattle.std.specs.Int.{bit_at}
use Rattle.std.specs.List.{AllZip}
use Rattle.std.proofs.lemmas.List.Elements.{All-nil, All-cons, All-head, All-get_or}
use Rattle.vs_types.specs.Entry.{meaning, leaf_word, size_at, table_word}
use Rattle.vs_types.specs.Laws.{changes}
use Rattle.vs_types.specs.Page.{level_of, bytes_of, intersection}
use Rattle.vs_types.specs.Space.{Space}
use Rattle.vs_types.specs.declared.requests.answer.Answer.TheVariants as answers
use Rattle.vs_types.specs.declared.addresses.page.Page.{Page}
use Rattle.vs_types.specs.declared.addresses.page.Rights.{Rights}
use Rattle.vs_types.specs.declared.addresses.page.Size.{Size}
use Rattle.vs_types.specs.declared.addresses.page.Size.TheVariants.{K4}
use Rattle.vs_types.specs.declared.entries.entry.Meaning.TheVariants as entry
use Rattle.vs_walk.specs.Memory.{Memory}
use Rattle.vs_space.specs.Flags.{IsSameButFlags, AreSameButFlags}
use Rattle.vs_space.proofs.FlaggedWords.{flagged_meaning}
use Rattle.vs_space.proofs.Written.{leaf_aligned}
use Rattle.vs_plan.specs.declared.plans.plan.Fill.{Fill}
use Rattle.vs_plan.specs.declared.plans.plan.Flush.{Flush}
use Rattle.vs_plan.specs.declared.plans.plan.Plan.{Plan}
use Rattle.vs_plan.specs.declared.plans.plan.Reply.{Reply}
use Rattle.vs_plan.specs.declared.plans.plan.Reply.TheVariants as replies
use Rattle.vs_plan.specs.declared.plans.plan.Store.{Store}
use Rattle.vs_plan.specs.declared.plans.request.Request.{Request}
use Rattle.vs_plan.specs.declared.plans.request.Request.TheVariants.{Map, Unmap, Protect, Ask, Remap, Split, Join, Prune, UnmapPart, Collapse}
use Rattle.vs_plan.specs.declared.plans.target.Target.{Target}
use Rattle.vs_plan.specs.Again.{IsPlanAgain, TakesTable, bits_again, fill_again, new_again, told_again}
use Rattle.vs_types.specs.Bits.{HasFlagsSet, bits_in, flagged, flags_into, placed, with_address, with_flags_of, with_rights}
use Rattle.vs_plan.specs.Changes.{larger, smaller}
use Rattle.vs_plan.specs.Premise.{IsPremise}
use Rattle.vs_plan.specs.Request.{address_of, refusal, stepped}
use Rattle.vs_plan.specs.Answered.{IsDue, IsReply}
use Rattle.vs_plan.specs.Right.{IsEntryOf, IsPut, IsRight, IsSplit, IsTold, IsWritten, begun}
use Rattle.vs_plan.specs.Stores.{filled, FindTheirWords}
use Rattle.vs_plan.proofs.FillsAgain.{same_fills, split_again}
use Rattle.vs_plan.proofs.FlaggedEntries.{ArePaired, alike_zero, place_stays, rights_stay, same_store, same_stores, same_word, alike_back, zip_both}
use Rattle.vs_plan.proofs.Given.{changed_answer}
use Rattle.vs_plan.proofs.OtherFlags.{flags_kept, flags_set, protect_again, remap_again}
use Rattle.vs_plan.proofs.Parts.{Parts, right_as}
use Rattle.vs_plan.proofs.PlansSuffice.{some_level, some_stores}
use Rattle.vs_plan.proofs.WrittenFrames.{again_frames}
use Rattle.vs_plan.proofs.PutAgain.{IsRefilled, IsRewritten, filled_alike, put_moved, rewritten_same}
use Rattle.vs_plan.proofs.RightAgain.{parts_moved, remap_low}
use Rattle.vs_plan.proofs.Splitting.{are_bits_in}
use Rattle.vs_plan.proofs.ToldAgain.{bits_moved, never_done, told_moved, told_stays}
use Rattle.vs_types.proofs.BitWords.{cond_most, times, times_not}

-- ---- words

large_leaf : (level word phys : ℕ) (own : Rights) → 2 ≤ level → meaning level word ≡ entry.Leaf phys own → bit_at word 7 ≡ 1
large_leaf level word phys own high says = grind arith

table_small : (level word number : ℕ) (own : Rights) → level ≤ 3 → meaning level word ≡ entry.Table number own → bit_at word 7 ≡ 1 → ⊥
table_small level word number own low says bit = grind arith

link_small : (number : ℕ) → bit_at (table_word number) 7 ≡ 0
link_small number = omega arith

whole_large : (size : Size) (phys : ℕ) (rights : Rights) (bits : ℕ) → size ≢ K4 → phys % 2 ^ 12 ≡ 0 → bits % 2 ^ 3 ≡ 0
    → bit_at (leaf_word size phys rights + placed size bits) 7 ≡ 1
whole_large K4 phys rights bits large at low = absurd (large refl)
whole_large _ phys rights bits large at low =
    omega (arith, at, low, cond_most rights.write (2 ^ 1), cond_most rights.user (2 ^ 2), times_not rights.exec (2 ^ 63))

part_odd : (size : Size) (phys : ℕ) (rights : Rights) (bits : ℕ) → phys % 2 ^ 12 ≡ 0 → bits % 2 ^ 3 ≡ 0
    → (leaf_word size phys rights + placed size bits) % 2 ≡ 1
part_odd K4 phys rights bits at low = omega (arith, at, low, times rights.write (2 ^ 1), times rights.user (2 ^ 2), times_not rights.exec (2 ^ 63))
part_odd _ phys rights bits at low = omega (arith, at, low, times rights.write (2 ^ 1), times rights.user (2 ^ 2), times_not rights.exec (2 ^ 63))

part_step : (size : Size) → bytes_of (smaller size) % 2 ^ 7 ≡ 0
part_step K4 = refl
part_step _ = refl

whole_aligned : (size : Size) (phys : ℕ) → phys % bytes_of (larger size) ≡ 0 → phys % 2 ^ 12 ≡ 0
whole_aligned K4 phys at = omega (arith, at)
whole_aligned _ phys at = omega (arith, at)

never_smallest : (size : Size) → larger size ≢ K4
never_smallest K4 e = cc
never_smallest _ e = cc

second_level : (size : Size) → size ≢ K4 → 2 ≤ level_of size
second_level K4 large = absurd (large refl)
second_level _ large = omega arith

flags_back : (old new : ℕ) → HasFlagsSet old new → HasFlagsSet new old
flags_back old new is = record { present = omega (arith, is.present, is.below); below = sym is.below; above = sym is.above }

-- ---- the store that is made again

abbrev again_of : Option Fill → List ℕ → ℕ → Store → Store
again_of fill unlinked word s = record s { old = word; new = new_again fill unlinked word s.new }

new_alike : (fill : Option Fill) (unlinked : List ℕ) (word new : ℕ) → IsSameButFlags new (new_again fill unlinked word new)
new_alike None [] word new = flags_kept word new
new_alike _ _ word new = same_word new

pair_again : (fill : Option Fill) (unlinked : List ℕ) (word : ℕ) (s : Store) → HasFlagsSet s.old word → ArePaired s (again_of fill unlinked word s)
pair_again fill unlinked word s is = record { frame = refl; index = refl; old = flags_set s.old word is; new = new_alike fill unlinked word s.new }

zip_at : (xs : List Store) (index : ℕ) (s t : Store) → s ≡ slice_index_or xs index s → ArePaired s t → AllZip ArePaired xs (slice_set xs index t)
zip_at [] index s t there pair = tt
zip_at (x ∷ xs) zero s t there pair = (subst (λ y. ArePaired y t) there pair, same_stores xs)
zip_at (x ∷ xs) (suc index) s t there pair = (same_store x, zip_at xs index s t there pair)

none_again : (word : ℕ) (fill : Option Fill) → fill ≡ None → fill_again word fill ≡ fill
none_again word None none = refl
none_again word (Some fill) none = absurd (cc)

module _ (target : Target) {old new : Memory} (same : AreSameButFlags old new) (space : Space) (offered : List (Option ℕ)) (reply : Reply) (bits : ℕ)
    (fill : Option Fill) (flush : Flush) (unlinked : List ℕ) (word : ℕ) where
  abbrev Was : Request → List Store → Type 0
  Was request xs = Parts target request old space offered reply bits fill xs flush unlinked

  abbrev other : Option Fill
  other = fill_again word fill

  record IsChanged (request : Request) (xs ys : List Store) : Type 0 where
    begins : AreSameButFlags (filled old fill) (filled new other)
    writes : IsRewritten request fill other xs ys
    written : IsWritten request ys
    changing : All (λ (s : Store). s.old ≢ s.new) ys

  begins_none : fill ≡ None → AreSameButFlags (filled old fill) (filled new other)
  begins_none none = subst (λ (f : Option Fill). AreSameButFlags (filled old f) (filled new (fill_again word f))) (sym none) same

  -- what is written where nothing is filled or unlinked
  plain_again : (entry : ℕ) → fill ≡ None → unlinked ≡ [] → new_again fill unlinked word entry ≡ with_flags_of word entry
  plain_again entry none clear = ap (λ f. new_again f unlinked word entry) none ∙ ap (λ u. new_again None u word entry) clear

  one_changing : {request : Request} (s : Store) → Was request (s ∷ []) → s.old ≢ s.new
  one_changing s was = All-head (λ (t : Store). t.old ≢ t.new) s [] was.changing

  one_again : (s : Store) → word ≢ new_again fill unlinked word s.new → All (λ (t : Store). t.old ≢ t.new) (again_of fill unlinked word s ∷ [])
  one_again s differs = All-cons (λ (t : Store). t.old ≢ t.new) (again_of fill unlinked word s) [] differs (All-nil (λ (t : Store). t.old ≢ t.new))

  -- ---- by the request, where there is one store

  protect_changed : (base : ℕ) (rights : Rights) (s : Store) → HasFlagsSet s.old word → Was (Protect base rights) (s ∷ [])
      → IsChanged (Protect base rights) (s ∷ []) (again_of fill unlinked word s ∷ [])
  protect_changed base rights s is was =
      let writes : new_again fill unlinked word s.new ≡ with_rights word rights =
      plain_again s.new was.put.0 was.put.2 ∙ ap (with_flags_of word) was.written.0 ∙ protect_again word s.old rights is in
      record {
        begins = begins_none was.put.0;
        writes = none_again word fill was.put.0;
        written = (writes, refl);
        changing = one_again s (λ e. one_changing s was (rights_stay s.old word rights (flags_back s.old word is) (e ∙ writes) ∙ sym was.written.0));
      }

  remap_changed : (base phys : ℕ) (rights : Rights) (s : Store) → HasFlagsSet s.old word → Was (Remap base phys rights) (s ∷ [])
      → IsChanged (Remap base phys rights) (s ∷ []) (again_of fill unlinked word s ∷ [])
  remap_changed base phys rights s is was =
      let answer = changed_answer reply (s ∷ []) was.nothing (some_stores s) in
      let due : refusal target space (Remap base phys rights) ≡ None = subst (IsDue target space (Remap base phys rights)) answer.1 was.due in
      let said = subst (IsReply target (Remap base phys rights) old space offered) answer.1 was.reply in
      let low = remap_low target space base phys rights due (ap changes (sym said) ∙ answer.2) in
      let writes : (size : Size) → s.new ≡ with_rights (with_address size s.old phys) rights
      → new_again fill unlinked word s.new ≡ with_rights (with_address size word phys) rights = λ size wrote.
      plain_again s.new was.put.0 was.put.2 ∙ ap (with_flags_of word) wrote ∙ remap_again size word s.old phys rights low is in
      record {
        begins = begins_none was.put.0;
        writes = (none_again word fill was.put.0, λ size odd wrote. writes size wrote);
        written = refl;
        changing = one_again s (λ e. one_changing s was
            (place_stays was.put.1.size s.old word phys rights low (flags_back s.old word is) (e ∙ writes was.put.1.size was.put.1.new) ∙ sym was.put.1.new));
      }

  -- where a table of parts is filled and linked
  record IsDividedAgain (s : Store) : Type 0 where
    begins : AreSameButFlags (filled old fill) (filled new other)
    writes : IsRefilled fill other s (again_of fill unlinked word s)
    changing : All (λ (t : Store). t.old ≢ t.new) (again_of fill unlinked word s ∷ [])

  divided_again : {gap count : ℕ} (base : ℕ) (s : Store) → HasFlagsSet s.old word
      → (table : Fill) × (fill ≡ Some table) × IsSplit target old base gap count offered table s × (unlinked ≡ []) → IsDividedAgain s
  divided_again base s is put =
      let table = put.0 in
      let split = put.2 in
      let phys_low = leaf_aligned (level_of split.size) s.old split.phys split.own (omega (arith, second_level split.size split.large)) split.says in
      let stays : new_again fill unlinked word s.new ≡ s.new = ap (λ f. new_again f unlinked word s.new) put.1 in
      let odd : table.first % 2 ≡ 1 = ap (λ n. n % 2) split.first
      ∙ part_odd (smaller split.size) split.phys split.own (bits_in split.size s.old) phys_low (are_bits_in split.size s.old).above in
      let even : table.step % 2 ^ 7 ≡ 0 = ap (λ n. n % 2 ^ 7) split.step ∙ part_step split.size in
      let leaf : meaning (level_of split.size) word ≡ entry.Leaf split.phys split.own =
      flagged_meaning (flags_set s.old word is) (level_of split.size) (omega (arith, second_level split.size split.large)) ∙ split.says in
      record {
        begins =
            subst (λ (f : Option Fill). AreSameButFlags (filled old f) (filled new (fill_again word f))) (sym put.1)
            (same_fills same table word odd even);
        writes = (
          stays,
          λ tbl fills. (
            flags_into word tbl.first,
            ap (fill_again word) fills,
            λ page size at wrote. ap (flags_into word) wrote ∙ split_again page size s.old word at is,
          ),
        );
        changing = one_again s (λ e.
            let one = large_leaf (level_of split.size) word split.phys split.own (second_level split.size split.large) leaf in
            let none : bit_at word 7 ≡ 0 = ap (λ n. bit_at n 7) (e ∙ stays ∙ split.link) ∙ link_small table.frame in
            omega (arith, one, none));
      }

  split_changed : (base : ℕ) (s : Store) → HasFlagsSet s.old word → Was (Split base) (s ∷ [])
      → IsChanged (Split base) (s ∷ []) (again_of fill unlinked word s ∷ [])
  split_changed base s is was = let now = divided_again base s is was.put in
      record { begins = now.begins; writes = now.writes; written = refl; changing = now.changing }

  part_changed : (base first count : ℕ) (s : Store) → HasFlagsSet s.old word → Was (UnmapPart base first count) (s ∷ [])
      → IsChanged (UnmapPart base first count) (s ∷ []) (again_of fill unlinked word s ∷ [])
  part_changed base first count s is was = let now = divided_again base s is was.put in
      record { begins = now.begins; writes = now.writes; written = refl; changing = now.changing }

  collapse_changed : (base phys : ℕ) (rights : Rights) (s : Store) → HasFlagsSet s.old word → Was (Collapse base phys rights) (s ∷ [])
      → IsChanged (Collapse base phys rights) (s ∷ []) (again_of fill unlinked word s ∷ [])
  collapse_changed base phys rights s is was =
      let join = was.put.1 in
      let stays : new_again fill unlinked word s.new ≡ s.new =
      ap (λ f. new_again f unlinked word s.new) was.put.0 ∙ ap (λ u. new_again None u word s.new) join.unlinked_is in
      let leads : meaning (suc join.level) word ≡ entry.Table join.number join.allowed =
      flagged_meaning (flags_set s.old word is) (suc join.level) (omega arith) ∙ join.leads in
      let bits_low = (are_bits_in (size_at join.level) join.first).above in
      record {
        begins = begins_none was.put.0;
        writes = (none_again word fill was.put.0, stays);
        written = refl;
        changing = one_again s (λ e. table_small (suc join.level) word join.number join.allowed (omega (arith, join.few)) leads
            (ap (λ n. bit_at n 7) (e ∙ stays ∙ join.new)
            ∙ whole_large (larger (size_at join.level)) phys rights (flagged (bits_in (size_at join.level) join.first))
            (never_smallest (size_at join.level)) (whole_aligned (size_at join.level) phys join.phys_aligned)
            (omega (arith, bits_low))));
      }

  join_changed : (base : ℕ) (s : Store) → HasFlagsSet s.old word → Was (Join base) (s ∷ [])
      → IsChanged (Join base) (s ∷ []) (again_of fill unlinked word s ∷ [])
  join_changed base s is was =
      let join = was.put.1 in
      let stays : new_again fill unlinked word s.new ≡ s.new =
      ap (λ f. new_again f unlinked word s.new) was.put.0 ∙ ap (λ u. new_again None u word s.new) join.unlinked_is in
      let some = some_level target.depth old target.root join.level base join.number join.reached in
      let leads : meaning (suc join.level) word ≡ entry.Table join.number join.allowed =
      flagged_meaning (flags_set s.old word is) (suc join.level) (omega arith) ∙ join.leads in
      let bits_low = (are_bits_in (size_at join.level) join.first).above in
      record {
        begins = begins_none was.put.0;
        writes = (none_again word fill was.put.0, stays);
        written = refl;
        changing = one_again s (λ e. table_small (suc join.level) word join.number join.allowed (omega (arith, join.few)) leads
            (ap (λ n. bit_at n 7) (e ∙ stays ∙ join.new)
            ∙ whole_large (larger (size_at join.level)) join.phys (intersection join.allowed join.own) (flagged (bits_in (size_at join.level) join.first))
            (never_smallest (size_at join.level)) (leaf_aligned join.level join.first join.phys join.own some join.says)
            (omega (arith, bits_low))));
      }

  prune_changed : (address : ℕ) (s : Store) → HasFlagsSet s.old word → Was (Prune address) (s ∷ [])
      → IsChanged (Prune address) (s ∷ []) (again_of fill unlinked word s ∷ [])
  prune_changed address s is was =
      let cut = was.put.1 in
      let none : s.new ≡ 0 = All-head (λ (x : Store). x.new ≡ 0) s [] was.one_way in
      let stays : new_again fill unlinked word s.new ≡ s.new =
      ap (λ f. new_again f unlinked word s.new) was.put.0 ∙ ap (λ u. new_again None u word s.new) cut.unlinked_is in
      record {
        begins = begins_none was.put.0;
        writes = none_again word fill was.put.0;
        written = refl;
        changing = one_again s (λ e.
            let clear : word ≡ 0 = e ∙ stays ∙ none in
            omega (arith, is.present, is.below, clear));
      }

  -- ---- by the request

  one_store : (request : Request) (s : Store) (index : ℕ) (store : Store) → index < length (s ∷ []) → store ≡ slice_index_or (s ∷ []) index store
      → HasFlagsSet store.old word → Was request (s ∷ [])
      → (HasFlagsSet s.old word → IsChanged request (s ∷ []) (again_of fill unlinked word s ∷ []))
      → IsChanged request (s ∷ []) (slice_set (s ∷ []) index (again_of fill unlinked word store))
  one_store request s zero store within there is was changed =
      subst (λ (x : Store). IsChanged request (s ∷ []) (again_of fill unlinked word x ∷ [])) (sym there)
      (changed (subst (λ (x : Store). HasFlagsSet x.old word) there is))
  one_store request s (suc index) store within there is was changed = absurd (omega arith)

  unmap_changed : (base : ℕ) (xs ys : List Store) → (xs ≡ [] → ⊥) → AllZip ArePaired xs ys → Was (Unmap base) xs → IsChanged (Unmap base) xs ys
  unmap_changed base [] ys some pairs was = absurd (some refl)
  unmap_changed base (s ∷ xs) [] some pairs was = absurd pairs
  unmap_changed base (s ∷ xs) (t ∷ ys) some pairs was = record {
    begins = begins_none was.put.0;
    writes = none_again word fill was.put.0;
    written = alike_zero pairs.0.new (All-head (λ (x : Store). x.new ≡ 0) s xs was.one_way);
    changing = zip_both (λ (x : Store). x.new ≡ 0) (λ (x : Store). x.old ≢ x.new) (λ (x : Store). x.old ≢ x.new)
        (λ x y pair none differs equal.
        let now : y.new ≡ 0 = alike_zero pair.new none in
        differs (alike_zero (alike_back pair.old) (equal ∙ now) ∙ sym none))
        (s ∷ xs) (t ∷ ys) pairs was.one_way was.changing;
  }

  changed_by : (request : Request) (xs : List Store) (index : ℕ) (store : Store) → index < length xs → store ≡ slice_index_or xs index store
      → HasFlagsSet store.old word → Was request xs → IsChanged request xs (slice_set xs index (again_of fill unlinked word store))
  changed_by (Map page bits) xs index store within there is was =
      let even = All-get_or (λ (s : Store). s.old % 2 ≡ 0) xs index store within was.one_way in
      let none : store.old % 2 ≡ 0 = ap (λ (s : Store). s.old % 2) there ∙ even in
      absurd (omega (arith, none, is.present))
  changed_by (Unmap base) xs index store within there is was = unmap_changed base xs _ (λ none. some xs within none)
      (zip_at xs index store (again_of fill unlinked word store) there (pair_again fill unlinked word store is)) was
    where
      some : (ss : List Store) → index < length ss → ss ≡ [] → ⊥
      some [] low none = omega arith
      some (s ∷ ss) low none = cc
  changed_by (Protect base rights) (s ∷ []) index store within there is was =
      one_store (Protect base rights) s index store within there is was (λ flags. protect_changed base rights s flags was)
  changed_by (Protect base rights) (s ∷ (x ∷ xs)) index store within there is was = let alone = was.written.1 in absurd (cc)
  changed_by (Ask address) (s ∷ xs) index store within there is was = absurd was.flushed
  changed_by (Remap base phys rights) (s ∷ []) index store within there is was =
      one_store (Remap base phys rights) s index store within there is was (λ flags. remap_changed base phys rights s flags was)
  changed_by (Split base) (s ∷ []) index store within there is was =
      one_store (Split base) s index store within there is was (λ flags. split_changed base s flags was)
  changed_by (Join base) (s ∷ []) index store within there is was =
      one_store (Join base) s index store within there is was (λ flags. join_changed base s flags was)
  changed_by (UnmapPart base first count) (s ∷ []) index store within there is was =
      one_store (UnmapPart base first count) s index store within there is was (λ flags. part_changed base first count s flags was)
  changed_by (Collapse base phys rights) (s ∷ []) index store within there is was =
      one_store (Collapse base phys rights) s index store within there is was (λ flags. collapse_changed base phys rights s flags was)
  changed_by (Prune address) (s ∷ []) index store within there is was =
      one_store (Prune address) s index store within there is was (λ flags. prune_changed address s flags was)
  changed_by _ (s ∷ (x ∷ xs)) index store within there is was = let alone = was.written in absurd (cc)
  changed_by _ [] index store within there is was = absurd (omega arith)

  -- ---- the bits that are answered

  tell : (request : Request) (base : ℕ) (xs : List Store) {first second : Size} {before now next : ℕ} → (xs ≡ [] → ⊥)
      → ((page : Page) (word : ℕ) → request ≢ Map page word) → ((address : ℕ) → request ≢ Prune address) → Was request xs
      → IsTold target old base bits reply → IsEntryOf target old base first before
      → IsEntryOf target new base second now → ((z : Size) → bits ≡ bits_in z before → next ≡ bits_in z now)
      → IsTold target new base (told_again reply next bits) reply
  tell request base xs {next = next} some no_map no_prune was told before now moves =
      let answer = changed_answer reply xs was.nothing some in
      let said : answer.0 ≡ (stepped target.depth space request).answer = subst (IsReply target request old space offered) answer.1 was.reply in
      let other : answer.0 ≡ answers.Done → ⊥ = λ done. never_done target space request no_map no_prune (sym said ∙ done) in
      subst (λ (r : Reply). IsTold target new base (told_again r next bits) r) (sym answer.1)
      (subst (λ n. IsTold target new base n (replies.Answer answer.0)) (sym (told_stays answer.0 other next bits))
      (told_moved target same base answer.0 answer.2 other before now moves
      (subst (IsTold target old base bits) answer.1 told)))

  -- a prune answers no bits
  prune_told : (address : ℕ) (xs : List Store) (next : ℕ) → (xs ≡ [] → ⊥) → Was (Prune address) xs
      → IsTold target new address (told_again reply next bits) reply
  prune_told address xs next some was =
      let answer = changed_answer reply xs was.nothing some in
      let done : reply ≡ replies.Answer answers.Done = answer.1
      ∙ ap replies.Answer (subst (IsReply target (Prune address) old space offered) answer.1 was.reply) in
      subst (λ (r : Reply). IsTold target new address (told_again r next bits) r) (sym done)
      (subst (IsTold target old address bits) done was.told)

  abbrev next_bits : ℕ → Store → ℕ
  next_bits index store = told_again reply (bits_again index unlinked word store.new bits) bits

  found_first : (s store : Store) → store ≡ s → HasFlagsSet store.old word → HasFlagsSet s.old word
  found_first s store there is = subst (λ (x : Store). HasFlagsSet x.old word) there is

  told_by : (request : Request) (xs : List Store) (index : ℕ) (store : Store) → index < length xs → store ≡ slice_index_or xs index store
      → HasFlagsSet store.old word → Was request xs
      → IsPut target request new offered other (slice_set xs index (again_of fill unlinked word store)) unlinked
      → (TakesTable request → IsTold target new (address_of request) (next_bits index store) reply)
      → IsTold target new (address_of request) (next_bits index store) reply
  told_by (Map page bits) xs index store within there is was put joins =
      let even = All-get_or (λ (s : Store). s.old % 2 ≡ 0) xs index store within was.one_way in
      let none : store.old % 2 ≡ 0 = ap (λ (s : Store). s.old % 2) there ∙ even in
      absurd (omega (arith, none, is.present))
  told_by (Unmap base) (s ∷ xs) zero store within there is was put joins =
      let none : store.new ≡ 0 = ap (λ (x : Store). x.new) there ∙ All-head (λ (x : Store). x.new ≡ 0) s xs was.one_way in
      tell (Unmap base) base (s ∷ xs) (λ e. cc) (λ page w e. cc) (λ a e. cc) was was.told was.put.1.entry_is put.1.entry_is
      (bits_moved zero unlinked word store.new bits s.old word (inr none) (λ e. (refl, found_first s store there is)) (λ no. absurd (no refl)))
  told_by (Unmap base) (s ∷ xs) (suc index) store within there is was put joins =
      let none : store.new ≡ 0 = ap (λ (x : Store). x.new) there
      ∙ All-get_or (λ (x : Store). x.new ≡ 0) (s ∷ xs) (suc index) store within was.one_way in
      tell (Unmap base) base (s ∷ xs) (λ e. cc) (λ page w e. cc) (λ a e. cc) was was.told was.put.1.entry_is put.1.entry_is
      (bits_moved (suc index) unlinked word store.new bits s.old s.old (inr none) (λ e. absurd (omega arith)) (λ no. refl))
  told_by (Protect base rights) (s ∷ xs) zero store within there is was put joins =
      tell (Protect base rights) base (s ∷ xs) (λ e. cc) (λ page w e. cc) (λ a e. cc) was was.told was.put.1.entry_is put.1.entry_is
      (bits_moved zero unlinked word store.new bits s.old word (inl was.put.2) (λ e. (refl, found_first s store there is)) (λ no. absurd (no refl)))
  told_by (Protect base rights) (s ∷ (x ∷ xs)) (suc index) store within there is was put joins = let alone = was.written.1 in absurd (cc)
  told_by (Ask address) (s ∷ xs) index store within there is was put joins = absurd was.flushed
  told_by (Remap base phys rights) (s ∷ xs) zero store within there is was put joins =
      tell (Remap base phys rights) base (s ∷ xs) (λ e. cc) (λ page w e. cc) (λ a e. cc) was was.told was.put.1.entry_is put.1.entry_is
      (bits_moved zero unlinked word store.new bits s.old word (inl was.put.2) (λ e. (refl, found_first s store there is)) (λ no. absurd (no refl)))
  told_by (Split base) (s ∷ xs) zero store within there is was put joins =
      tell (Split base) base (s ∷ xs) (λ e. cc) (λ page w e. cc) (λ a e. cc) was was.told was.put.2.entry_is put.2.entry_is
      (bits_moved zero unlinked word store.new bits s.old word (inl was.put.3) (λ e. (refl, found_first s store there is)) (λ no. absurd (no refl)))
  told_by (UnmapPart base first count) (s ∷ xs) zero store within there is was put joins =
      tell (UnmapPart base first count) base (s ∷ xs) (λ e. cc) (λ page w e. cc) (λ a e. cc) was was.told was.put.2.entry_is put.2.entry_is
      (bits_moved zero unlinked word store.new bits s.old word (inl was.put.3) (λ e. (refl, found_first s store there is)) (λ no. absurd (no refl)))
  told_by (Join base) xs index store within there is was put joins = joins tt
  told_by (Collapse base phys rights) xs index store within there is was put joins = joins tt
  told_by (Prune address) (s ∷ xs) index store within there is was put joins = prune_told address (s ∷ xs) _ (λ e. cc) was
  told_by _ (s ∷ (x ∷ xs)) (suc index) store within there is was put joins = let alone = was.written in absurd (cc)
  told_by _ _ _ store within there is was put joins = absurd (omega arith)

-- ---- whole plans

module _ {target : Target} {request : Request} {memory : Memory} {space : Space} {offered : List (Option ℕ)} where
  pub right_elsewhere : (now : Memory) (plan : Plan) → IsPremise target.depth memory target.root (address_of request) space
      → IsRight target request memory space offered plan → AreSameButFlags memory now → FindTheirWords (begun now plan) plan.stores.items
      → IsTold target now (address_of request) plan.bits plan.reply → IsRight target request now space offered plan
  right_elsewhere now plan premise right same found told = right_as plan refl refl refl refl refl refl
      (parts_moved target memory now space offered plan.reply plan.bits plan.bits plan.fill plan.fill plan.unlinked.items plan.flush
      request plan.stores.items plan.stores.items right (record {
        same = same;
        begins = filled_alike same plan.fill;
        own = premise.own;
        pairs = same_stores plan.stores.items;
        frames = refl;
        found = found;
        put = put_moved target same offered plan.fill plan.fill plan.unlinked.items request plan.stores.items plan.stores.items
            (same_stores plan.stores.items) found (rewritten_same request plan.fill plan.stores.items) right.put;
        written = right.written;
        changing = right.changing;
        told = told;
      }))

  pub right_again : (now : Memory) (plan again : Plan) (index word : ℕ) → IsPremise target.depth memory target.root (address_of request) space
      → IsRight target request memory space offered plan → IsPlanAgain plan index word again → AreSameButFlags memory now
      → FindTheirWords (begun now again) again.stores.items
      → (TakesTable request → IsTold target now (address_of request) again.bits again.reply)
      → IsRight target request now space offered again
  right_again now plan again index word premise right is same found told =
      let xs = plan.stores.items in
      let fill = plan.fill in
      let unlinked = plan.unlinked.items in
      let ys = slice_set xs index (again_of fill unlinked word is.store) in
      let other = fill_again word fill in
      let changed = changed_by target same space offered plan.reply plan.bits fill plan.flush unlinked word request xs index is.store
      is.within is.there is.flags right in
      let pairs = zip_at xs index is.store (again_of fill unlinked word is.store) is.there (pair_again fill unlinked word is.store is.flags) in
      let finds : FindTheirWords (filled now other) ys =
      subst (λ (f : Option Fill). FindTheirWords (filled now f) ys) is.fill
      (subst (λ (ss : List Store). FindTheirWords (filled now again.fill) ss) is.stores found) in
      let put = put_moved target same offered fill other unlinked request xs ys pairs finds changed.writes right.put in
      right_as again is.reply is.bits is.fill is.stores is.flush (ap (λ u. u.items) is.unlinked)
      (parts_moved target memory now space offered plan.reply (told_again plan.reply (bits_again index unlinked word is.store.new plan.bits) plan.bits)
      plan.bits fill other
      unlinked plan.flush request xs ys right (record {
        same = same;
        begins = changed.begins;
        own = premise.own;
        pairs = pairs;
        frames = again_frames word fill;
        found = finds;
        put = put;
        written = changed.written;
        changing = changed.changing;
        told = told_by target same space offered plan.reply plan.bits fill plan.flush unlinked word request xs index is.store is.within is.there is.flags right
            put (λ takes. subst (IsTold target now (address_of request)
            (told_again plan.reply (bits_again index unlinked word is.store.new plan.bits) plan.bits)) is.reply
            (subst (λ b. IsTold target now (address_of request) b again.reply) is.bits (told takes)));
      }))
