-- A plan that adds a page.
use Rattle.std.proofs.Common.{◌≡◌, ℕ, ◌+◌, ◌-◌, ◌%◌, ◌<◌, ◌≤◌, List, [], ◌∷◌, ◌++◌, take, Option, Some, None, Contains, inl, inr, ⊎_elim, refl, sym, ap, subst}
use Rattle.std.proofs.Common.{◌∙◌, arith, ◌≢◌}
use Rattle.std.specs.Prelude.{All}
use Rattle.std.proofs.lemmas.Bool.{cases_lt}
use Rattle.std.proofs.lemmas.List.Elements.{All-nil, All-cons, All-push, All-take, Contains-append_left}
use Rattle.std.specs.FinMap as finite
use Rattle.vs_types.specs.Depth.{levels, entry_bytes, index_at, IsCanonical}
use Rattle.vs_types.specs.Entry.{meaning, size_at, all_rights, table_word}
use Rattle.vs_types.specs.Page.{level_of, bytes_of, intersection, IsPage}
use Rattle.vs_types.specs.Space.{Space, table_count}
use Rattle.vs_types.specs.Step.{step}
use Rattle.vs_types.specs.declared.requests.op.Action.TheVariants as actions
use Rattle.vs_types.specs.declared.addresses.page.Page.{Page}
use Rattle.vs_types.specs.declared.addresses.page.Rights.{Rights}
use Rattle.vs_types.specs.declared.entries.entry.Meaning.TheVariants as entry
use Rattle.vs_types.specs.declared.requests.answer.Answer.TheVariants as answers
use Rattle.vs_types.proofs.Lists.{not_in_nil}
use Rattle.vs_walk.specs.Memory.{Memory, AreWhole}
use Rattle.vs_walk.specs.Walk.{walk, walk_from, TranslatesAs}
use Rattle.vs_walk.specs.declared.walk.Walk.TheVariants.{NotMapped, Mapped}
use Rattle.vs_space.specs.Held.{word_at}
use Rattle.vs_space.specs.Path.{table_in, table_at, SamePath}
use Rattle.vs_space.proofs.Writes.{get_written_other, same_or_not}
use Rattle.vs_space.proofs.Written.{size_same}
use Rattle.vs_plan.specs.declared.plans.plan.Flush.TheVariants as flushes
use Rattle.vs_plan.specs.declared.plans.plan.Reply.TheVariants as replies
use Rattle.vs_plan.specs.declared.plans.plan.Store.{Store}
use Rattle.vs_plan.specs.declared.plans.request.Request.TheVariants.{Map}
use Rattle.vs_plan.specs.declared.plans.target.Target.{Target}
use Rattle.vs_types.specs.Bits.{page_word}
use Rattle.vs_plan.specs.Premise.{HasOwnWay, IsSpare}
use Rattle.vs_plan.specs.Right.{IsMeant, OfPage, OfSpare, IsWritten, IsPut, Fits, IsAlready, IsFlushed, IsPruned, ReachesNoOther}
use Rattle.vs_plan.specs.Shown.{EndsAt, frames_of, LeadsToPage, AreFilled}
use Rattle.vs_plan.specs.Stores.{stored, stored_all}
use Rattle.vs_plan.specs.Target.{frames_end}
use Rattle.vs_plan.specs.Way.{IsWay}
use Rattle.vs_plan.proofs.Growing.{frame_among, links_push, all_of, not_spare, alike, whole_filled}
use Rattle.vs_plan.proofs.Pages.{premise_table}
use Rattle.vs_plan.proofs.EntryStores.{IsOwnTable, walk_off, walk_here, whole_store, fewer, own_after}
use Rattle.vs_plan.proofs.Linking.{old_or_new, own_linked}
use Rattle.vs_plan.proofs.Parts.{words_apart, none_named, Parts, safe_one, safe_last, store_at, EndAt, own_table}
use Rattle.vs_plan.proofs.Steps.{added_answer, added_translates}
use Rattle.vs_plan.proofs.Stored.{stored_push, found_push, used_word, found_word, absent_even}
use Rattle.vs_plan.proofs.Ways.{way_table, way_within, walk_at}
use Rattle.vs_plan.specs.Other.{HasSameTables}
use Rattle.vs_plan.proofs.Filled.{walk_as, table_as, own_as, way_as, word_as, translates_as}
use Rattle.std.proofs.lemmas.List.{map-append}

-- the frames of more stores
frames_more : (stores : List Store) (s : Store) (q : ℕ) → Contains (frames_of stores) q → Contains (frames_of (stores ++ s ∷ [])) q
frames_more stores s q among =
    subst (λ (ns : List ℕ). Contains ns q) (sym (map-append (λ (t : Store). t.frame) stores (s ∷ [])))
    (Contains-append_left (frames_of stores) (s.frame ∷ []) q among)

module _ (target : Target) (bits : ℕ) {memory : Memory} {space : Space} {page : Page} {level number word : ℕ} {given : Rights}
    (end : EndAt target memory space level number given word page.base) (some : 1 ≤ level) (good : IsPage target.depth page)
    (says : meaning level word ≡ entry.Absent) (lowest : level_of page.size ≤ level) where
  table_here : IsOwnTable target.depth memory target.root level page.base number
  table_here = own_table end

  -- nothing is mapped where the entry is taken
  absent_below : (b : ℕ) → SamePath (levels target.depth) level page.base b → walk target.depth memory target.root b ≡ NotMapped
  absent_below b path =
      walk_at end.way some entry.Absent (found_word level memory number page.base word end.word_is ∙ ap Some says) b path

  nothing : (b : ℕ) → IsCanonical target.depth b → SamePath (levels target.depth) (level_of page.size) page.base b
      → walk target.depth memory target.root b ≡ NotMapped
  nothing b canonical path = absent_below b (λ i from to. path i (omega (arith, lowest)) to)

  -- a map of the page is done
  pub would_add : (step target.depth (table_count target.depth (finite.insert space page.base page)) space (actions.Map page)).answer ≡ answers.Done
  would_add = added_answer (premise_table end.premise) good nothing

  module _ (allows : intersection given page.rights ≡ page.rights) where
    -- what is asked of the stores of a map, whichever they are
    of_map : (after : Memory) (offered : List (Option ℕ)) (stores : List Store) → IsPut target (Map page bits) memory offered None stores []
        × Fits (Map page bits) space stores × IsAlready target memory (Map page bits) (replies.Answer answers.Done) stores
        × IsFlushed target memory (Map page bits) stores [] flushes.Nothing × IsPruned target after (Map page bits) stores
    of_map after offered [] = (refl, tt, tt, refl, tt)
    of_map after offered (s ∷ stores) = (refl, tt, tt, refl, tt)

    -- ---- the page's entry alone is written

    pub alone_parts : (offered : List (Option ℕ)) → level ≡ level_of page.size → (w : ℕ) → w ≡ page_word page bits
        → meaning (level_of page.size) w ≡ entry.Leaf page.phys page.rights
        → Parts target (Map page bits) memory space offered (replies.Answer answers.Done) 0 None (store_at number (index_at level page.base) word w ∷ [])
        flushes.Nothing []
    alone_parts offered at w is leads =
        let says_new : meaning level w ≡ entry.Leaf page.phys page.rights = ap (λ l. meaning l w) at ∙ leads in
        record {
          reply = sym (added_answer (premise_table end.premise) good nothing);
          due = refl;
          put = refl;
          fits = tt;
          safe = safe_one (store_at number (index_at level page.base) word w) end.premise.translates (added_translates (premise_table end.premise) good nothing
              (stored memory (store_at number (index_at level page.base) word w))
              (λ b canonical path.
              walk_here table_here w end.way some (entry.Leaf page.phys page.rights) says_new b (λ i from to. path i (omega (arith, at)) to)
              ∙ ap (λ l. Mapped (page.phys + b % entry_bytes l) (size_at l) (intersection given page.rights)) at
              ∙ ap (λ z. Mapped (page.phys + b % bytes_of page.size) z (intersection given page.rights)) (size_same page.size)
              ∙ ap (Mapped (page.phys + b % bytes_of page.size) page.size) allows)
              (λ b apart. walk_off table_here w b (λ path. apart (λ i from to. path i (omega (arith, at)) to))));
          found = (end.word_is, tt);
          meant = All-cons (IsMeant target memory page.base []) (store_at number (index_at level page.base) word w) []
              (OfPage (record { level = level; reached = way_table level number given end.way; index = refl }) (ap (λ e. table_in (Some e)) says)) (All-nil _);
          nothing = λ none. absurd (none (λ e. cc));
          written = (is, tt);
          already = tt;
          changing = All-cons (λ (t : Store). t.old ≢ t.new) (store_at number (index_at level page.base) word w) []
              (words_apart level word w (λ same. let both = sym says ∙ same ∙ says_new in cc)) (All-nil _);
          one_way = All-cons (λ (t : Store). t.old % 2 ≡ 0) (store_at number (index_at level page.base) word w) [] (absent_even level word says) (All-nil _);
          told = refl;
          flushed = refl;
          unlinked = All-nil _;
          pruned = tt;
          named_once = none_named;
          whole = whole_store table_here w;
          own = own_after table_here w (ap (λ e. table_in (Some e)) says_new);
          reaches = λ l b q at. inl (fewer table_here w (ap (λ e. table_in (Some e)) says_new) b l q at);
        }

    -- ---- new tables are linked

    module _ {below : ℕ} {stores : List Store} (filled : AreFilled target.depth memory target.root page bits level below stores)
        (within : All (λ (t : Store). t.frame < frames_end target) stores)
        (deep : level_of page.size < level)
        (w : ℕ) (link_is : w ≡ table_word below) (leads : meaning level w ≡ entry.Table below all_rights) where
      abbrev s : Store
      s = store_at number (index_at level page.base) word w

      abbrev mk : Memory
      mk = stored_all memory stores

      abbrev m' : Memory
      m' = stored mk s

      number_apart : Contains (frames_of stores) number → ⊥
      number_apart among = not_spare stores filled.spare level page.base number (way_table level number given end.way) among

      same : HasSameTables target.depth target.root memory mk
      same = alike stores filled.spare

      way : IsWay target.depth mk target.root page.base level number given
      way = way_as target.depth target.root memory mk same end.way

      own_filled : (c : ℕ) → HasOwnWay target.depth memory target.root c → HasOwnWay target.depth mk target.root c
      own_filled = own_as target.depth target.root memory mk same

      table_filled : (j b : ℕ) → table_at (levels target.depth) mk target.root j b ≡ table_at (levels target.depth) memory target.root j b
      table_filled = table_as target.depth target.root memory mk same

      word_filled : word_at mk number (index_at level page.base) ≡ Some word
      word_filled = word_as target.depth target.root memory mk same level page.base number (index_at level page.base)
          (way_table level number given end.way) ∙ end.word_is

      filled_table : IsOwnTable target.depth mk target.root level page.base number
      filled_table = record {
        own = own_filled page.base end.premise.own;
        whole = whole_filled memory stores end.premise.whole filled.found;
        used = used_word mk number (index_at level page.base) word word_filled;
        at = way_table level number given way;
      }

      hung : LeadsToPage target.depth m' page (level - 1) below
      hung = (filled.hang deep).1 m' (λ q among. get_written_other mk number (index_at level page.base) w q
          (λ e. number_apart (subst (Contains (frames_of stores)) e among)))

      walk_linked : (b : ℕ) → SamePath (levels target.depth) level page.base b
          → walk target.depth m' target.root b ≡ walk_from m' (level - 1) below (intersection given all_rights) b
      walk_linked b path = walk_here filled_table w way some (entry.Table below all_rights) leads b path

      there : (b : ℕ) → IsCanonical target.depth b → SamePath (levels target.depth) (level_of page.size) page.base b
          → walk target.depth m' target.root b ≡ Mapped (page.phys + b % bytes_of page.size) page.size page.rights
      there b canonical path =
          let within = way_within level number given end.way in
          walk_linked b (λ i from to. path i (omega (arith, lowest)) to)
          ∙ (hung b (intersection given all_rights)).0 (λ i from to. path i from (omega arith))
          ∙ ap (Mapped (page.phys + b % bytes_of page.size) page.size) (ap (λ r. intersection r page.rights) (all_of given) ∙ allows)

      elsewhere : (b : ℕ) → (SamePath (levels target.depth) (level_of page.size) page.base b → ⊥)
          → walk target.depth m' target.root b ≡ walk target.depth memory target.root b
      elsewhere b apart = ⊎_elim
          (λ path. walk_linked b path
          ∙ (hung b (intersection given all_rights)).1 (λ low. apart (λ i from to. ⊎_elim
          (λ (under : i < level). low i from (omega arith))
          (λ (over : level ≤ i). path i over to)
          (cases_lt i level)))
          ∙ sym (absent_below b path))
          (λ off. walk_off filled_table w b off ∙ walk_as target.depth target.root memory mk same b)
          (same_or_not (levels target.depth) level page.base b)

      here : m' ≡ stored_all memory (stores ++ s ∷ [])
      here = sym (stored_push memory stores s)

      written_link : (xs : List Store) → IsWritten (Map page bits) xs → EndsAt below xs → (xs ≡ [] → ⊥) → IsWritten (Map page bits) (xs ++ s ∷ [])
      written_link [] before ends some = absurd (some refl)
      written_link (t ∷ xs) before ends some = (before.0, links_push t.frame xs s before.1 (link_is ∙ ap table_word (sym ends)))

      some_store : stores ≡ [] → ⊥
      some_store none =
          let among = subst (λ (xs : List Store). Contains (frames_of xs) below) none (filled.hang deep).0 in
          not_in_nil below among

      own_link : (a : ℕ) → HasOwnWay target.depth memory target.root a → HasOwnWay target.depth (stored_all memory (stores ++ s ∷ [])) target.root a
      own_link a has = subst (λ (n : Memory). HasOwnWay target.depth n target.root a) here
          (own_linked filled_table w below (level - 1) all_rights leads (omega arith) (frames_of stores)
          (filled.lone deep m' (λ q among. get_written_other mk number (index_at level page.base) w q
          (λ e. number_apart (subst (Contains (frames_of stores)) e among))))
          (λ q among j b r. not_spare stores filled.spare j b q (sym (table_filled j b) ∙ r) among) a (own_filled a has))

      reaches_link : ReachesNoOther target memory (stored_all memory (stores ++ s ∷ [])) None (stores ++ s ∷ [])
      reaches_link j b q at = ⊎_elim
          (λ old. inl (sym (table_filled j b) ∙ old))
          (λ new. inr (record {
            spare = frame_among stores q new.0 (λ n. IsSpare target.depth memory target.root n) filled.spare;
            written = frames_more stores s q new.0;
          }))
          (old_or_new filled_table w below (level - 1) all_rights leads (omega arith) (frames_of stores)
          (filled.lone deep m' (λ q among. get_written_other mk number (index_at level page.base) w q
          (λ e. number_apart (subst (Contains (frames_of stores)) e among))))
          (λ q among j b r. not_spare stores filled.spare j b q (sym (table_filled j b) ∙ r) among)
          b j q (subst (λ (n : Memory). table_at (levels target.depth) n target.root j b ≡ Some q) (sym here) at))

      pub link_parts : (offered : List (Option ℕ))
          → Parts target (Map page bits) memory space offered (replies.Answer answers.Done) 0 None (stores ++ s ∷ []) flushes.Nothing []
      link_parts offered = let rest = of_map (stored_all memory (stores ++ s ∷ [])) offered (stores ++ s ∷ []) in record {
        reply = sym (added_answer (premise_table end.premise) good nothing);
        due = refl;
        put = rest.0;
        fits = rest.1;
        safe = safe_last stores s
            (λ n le. translates_as target.depth target.root memory (stored_all memory (take n stores))
            (alike (take n stores) (All-take (λ (t : Store). IsSpare target.depth memory target.root t.frame) n stores filled.spare))
            space end.premise.translates)
            (subst (λ (n : Memory). TranslatesAs target.depth n target.root (step target.depth (table_count target.depth
            (finite.insert space page.base page)) space (actions.Map page)).space) here
            (added_translates (premise_table end.premise) good nothing m' there elsewhere));
        found = found_push memory stores s filled.found word_filled;
        meant = All-push (IsMeant target memory page.base []) stores s
            (λ k d low. OfSpare (filled.spare k d low) (within k d low))
            (OfPage (record { level = level; reached = way_table level number given end.way; index = refl }) (ap (λ e. table_in (Some e)) says));
        nothing = λ none. absurd (none (λ e. cc));
        written = written_link stores filled.written filled.ends some_store;
        already = rest.2;
        changing = All-push (λ (t : Store). t.old ≢ t.new) stores s filled.changing
            (words_apart level word w (λ same. let both = sym says ∙ same ∙ leads in cc));
        one_way = All-push (λ (t : Store). t.old % 2 ≡ 0) stores s filled.absent (absent_even level word says);
        told = refl;
        flushed = rest.3;
        unlinked = All-nil _;
        pruned = rest.4;
        named_once = none_named;
        whole = subst AreWhole here (whole_store filled_table w);
        own = own_link;
        reaches = reaches_link;
      }
