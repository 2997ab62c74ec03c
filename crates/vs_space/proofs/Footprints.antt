-- What an operation leaves of a memory, write by write.
use Rattle.std.proofs.Common.{◌≡◌, ◌≢◌, ℕ, zero, suc, ◌+◌, ◌-◌, ◌<◌, List, [], Some, None, inl, inr, ◌⊎◌, ⊎_elim, refl, sym, ap, subst, ◌∙◌, arith}
use Rattle.std.specs.Prelude.{IsSome, is_some, unwrap_or, slice_index}
use Rattle.std.proofs.lemmas.Bool.{cases_eq}
use Rattle.std.proofs.lemmas.List.{get_or-set_same, get_or-set_other}
use Rattle.std.specs.FinMap as finite
use Rattle.std.proofs.lemmas.Option.{same_Some}
use Rattle.vs_types.specs.Depth.{levels, index_at}
use Rattle.vs_types.specs.Entry.{meaning}
use Rattle.vs_types.specs.declared.addresses.depth.Depth.{Depth}
use Rattle.vs_types.specs.declared.requests.op.Action.{Action}
use Rattle.vs_types.specs.declared.requests.op.Action.TheVariants.{Map, Unmap, Protect}
use Rattle.vs_types.specs.declared.addresses.page.Rights.{Rights}
use Rattle.vs_types.specs.declared.entries.entry.Meaning.{Meaning}
use Rattle.vs_types.specs.declared.entries.entry.Meaning.TheVariants as entry
use Rattle.vs_arena.specs.Store.{zeros}
use Rattle.vs_arena.proofs.Stores.{IsInUse-insert}
use Rattle.vs_walk.specs.Memory.{Memory, AreWhole}
use Rattle.vs_space.specs.Footprint.{IsTableOnPath, IsEntryOnPath, HasEntry, HasMoreOnPath, ChangesPageOnPath, KeepsRest}
use Rattle.vs_space.specs.Held.{word_at, with_word}
use Rattle.vs_space.specs.Path.{found_at, table_in, table_at}
use Rattle.vs_types.proofs.Maps.{get-insert_same, get-insert_other, get-remove_same, get-remove_other}
use Rattle.vs_space.proofs.Paths.{words_found, table_first, table_next, table_before, reached_within}
use Rattle.vs_space.proofs.Writes.{IsTreeAt, used_at, after_write, words_in, get_written, get_written_other, written_in_use, used_before}
use Rattle.vs_space.proofs.Links.{IsLink, linked, zeros_are}
use Rattle.vs_space.proofs.Written.{word_of, word_alike}
use Rattle.vs_space.proofs.Descents.{entry_read}

-- ---- the words of a memory in which one was written

place_or_not : (q j n i : ℕ) → ((q ≡ n) × (j ≡ i)) ⊎ (q ≡ n → j ≢ i)
place_or_not q j n i = ⊎_elim
    (λ (here : q ≡ n). ⊎_elim (λ (same : j ≡ i). inl (here, same)) (λ (other : j ≢ i). inr (λ _. other)) (cases_eq j i))
    (λ (apart : q ≢ n). inr (λ here. absurd (apart here)))
    (cases_eq q n)

pub word_here : (m : Memory) (n i w : ℕ) → AreWhole m → IsSome (finite.get m n) → i < 512 → word_at (with_word m n i w) n i ≡ Some w
word_here m n i w whole used low = word_of (with_word m n i w) n i _ (get_written m n i w)
    ∙ ap Some (get_or-set_same (unwrap_or (finite.get m n) []) i w 0 (omega (arith, whole n _ (words_in m n used))))

pub word_elsewhere : (m : Memory) (n i w q j : ℕ) → IsSome (finite.get m n) → (q ≡ n → j ≢ i) → word_at (with_word m n i w) q j ≡ word_at m q j
word_elsewhere m n i w q j used apart = ⊎_elim
    (λ (same : q ≡ n). subst (λ k. word_at (with_word m n i w) k j ≡ word_at m k j) (sym same)
    (word_of (with_word m n i w) n j _ (get_written m n i w)
    ∙ ap Some (get_or-set_other (unwrap_or (finite.get m n) []) i j w 0 (apart same))
    ∙ sym (word_of m n j _ (words_in m n used))))
    (λ (other : q ≢ n). word_alike m (with_word m n i w) q j (get_written_other m n i w q other))
    (cases_eq q n)

word_moved : (m : Memory) {q j n i : ℕ} → (q ≡ n) × (j ≡ i) → word_at m q j ≡ word_at m n i
word_moved m {q} {j} {n} {i} place = ap (λ k. word_at m k j) place.0 ∙ ap (word_at m n) place.1

not_free : (m : Memory) (q : ℕ) → IsSome (finite.get m q) → finite.get m q ≡ None → ⊥
not_free m q used free = let none : IsSome {T = List ℕ} None = subst IsSome free used in cc

used_by : (m : Memory) (q j word : ℕ) → word_at m q j ≡ Some word → finite.get m q ≡ None → ⊥
used_by m q j word got free = let wrong : None ≡ Some word = sym (word_of m q j None free) ∙ got in cc

-- ---- entries that are kept

-- the entries of a memory are in another
abbrev pub Keeps : Memory → Memory → Type 0
Keeps less more = (number index word : ℕ) → HasEntry less number index word → HasEntry more number index word

moved : {m m' : Memory} {q j word : ℕ} → word_at m' q j ≡ word_at m q j → HasEntry m q j word → HasEntry m' q j word
moved same has = record { there = same ∙ has.there; some = has.some }

found_kept : (less more : Memory) → Keeps less more → (level n a : ℕ) (e : Meaning) → e ≢ entry.Absent → found_at level less n a ≡ Some e
    → found_at level more n a ≡ Some e
found_kept less more keeps level n a e other found =
    let words = words_found level less n a e found in
    let word = slice_index words.0 (index_at level a) in
    let kept = keeps n (index_at level a) word
    (record { there = word_of less n (index_at level a) (Some words.0) words.1; some = λ none. other (sym words.2 ∙ ap (meaning level) none) }) in
    entry_read level more n a kept.there refl (sym words.2)

-- so are the tables on each path
pub path_kept : (top root : ℕ) (less more : Memory) → Keeps less more → (level a n : ℕ) → table_at top less root level a ≡ Some n
    → table_at top more root level a ≡ Some n
path_kept top root less more keeps level a n at = by (top - level) level n (omega (arith, reached_within top root less level a n at)) at where
  by : (d level n : ℕ) → d + level ≡ top → table_at top less root level a ≡ Some n → table_at top more root level a ≡ Some n
  by zero level n e at =
      let highest : level ≡ top = omega arith in
      ap (λ l. table_at top more root l a) highest ∙ table_first top root more a ∙ sym (table_first top root less a)
      ∙ ap (λ l. table_at top less root l a) (sym highest) ∙ at
  by (suc d) level n e at =
      let before = table_before top root less level a n (omega arith) at in
      table_next top root more level a before.0 (by d (suc level) before.0 (omega arith) before.2)
      ∙ ap table_in (found_kept less more keeps (suc level) before.0 a (entry.Table n before.1) (λ none. cc) before.3)

module _ {less more : Memory} (keeps : Keeps less more) {depth : Depth} {root a : ℕ} where
  table_kept : {n : ℕ} → IsTableOnPath depth less root a n → IsTableOnPath depth more root a n
  table_kept {n} it = record { level = it.level; reached = path_kept (levels depth) root less more keeps it.level a n it.reached }

  entry_kept : {n i : ℕ} → IsEntryOnPath depth less root a n i → IsEntryOnPath depth more root a n i
  entry_kept {n} it = record { level = it.level; reached = path_kept (levels depth) root less more keeps it.level a n it.reached; is = it.is }

-- ---- more on the path of an address

pub more_none : (depth : Depth) (root a : ℕ) (m : Memory) → HasMoreOnPath depth root a m m
more_none depth root a m = record {
  frames = λ n used. used;
  entries = λ n i word has. has;
  tables = λ n used. inl used;
  on_path = λ n i word has. inl has;
}

pub more_then : {depth : Depth} {root a : ℕ} {less mid more : Memory} → HasMoreOnPath depth root a less mid → HasMoreOnPath depth root a mid more
    → HasMoreOnPath depth root a less more
more_then first second = record {
  frames = λ n used. second.frames n (first.frames n used);
  entries = λ n i word has. second.entries n i word (first.entries n i word has);
  tables = λ n used. ⊎_elim
      (λ old. ⊎_elim (λ used. inl used) (λ it. inr (table_kept second.entries it)) (first.tables n old))
      (λ it. inr it)
      (second.tables n used);
  on_path = λ n i word has. ⊎_elim
      (λ old. ⊎_elim (λ has. inl has) (λ it. inr (entry_kept second.entries it)) (first.on_path n i word old))
      (λ it. inr it)
      (second.on_path n i word has);
}

module _ (depth : Depth) {m : Memory} {root level a n : ℕ} (here : IsTreeAt (levels depth) m root level a n) where
  -- the entry on the path is written over 0
  module _ (zero_here : word_at m n (index_at level a) ≡ Some 0) (w : ℕ) where
    entries_filled : Keeps m (after_write here w)
    entries_filled q j word has = ⊎_elim
        (λ place. absurd (has.some (same_Some word 0 (sym has.there ∙ word_moved m place ∙ zero_here))))
        (λ apart. moved (word_elsewhere m n (index_at level a) w q j (used_at here) apart) has)
        (place_or_not q j n (index_at level a))

    pub more_filled : HasMoreOnPath depth root a m (after_write here w)
    more_filled = record {
      frames = λ q used. written_in_use m n (index_at level a) w q used;
      entries = entries_filled;
      tables = λ q used. inl (used_before m n (index_at level a) w q (used_at here) used);
      on_path = λ q j word has. ⊎_elim
          (λ place. inr (record {
            level = level;
            reached = path_kept (levels depth) root m (after_write here w) entries_filled level a q (here.at ∙ ap Some (sym place.0));
            is = place.1;
          }))
          (λ apart. inl (moved (sym (word_elsewhere m n (index_at level a) w q j (used_at here) apart)) has))
          (place_or_not q j n (index_at level a));
    }

  -- the entry on the path is cleared
  pub more_cleared : HasMoreOnPath depth root a (after_write here 0) m
  more_cleared = record {
    frames = λ q used. used_before m n (index_at level a) 0 q (used_at here) used;
    entries = λ q j word has. ⊎_elim
        (λ place. absurd (has.some (same_Some word 0 (sym has.there ∙ word_moved (after_write here 0) place
        ∙ word_here m n (index_at level a) 0 here.whole (used_at here) (omega arith)))))
        (λ apart. moved (sym (word_elsewhere m n (index_at level a) 0 q j (used_at here) apart)) has)
        (place_or_not q j n (index_at level a));
    tables = λ q used. inl (written_in_use m n (index_at level a) 0 q used);
    on_path = λ q j word has. ⊎_elim
        (λ place. inr (record { level = level; reached = here.at ∙ ap Some (sym place.0); is = place.1 }))
        (λ apart. inl (moved (word_elsewhere m n (index_at level a) 0 q j (used_at here) apart) has))
        (place_or_not q j n (index_at level a));
  }

  -- a frame of zeros on the path, below that entry, is freed too
  module _ (below : ℕ) {f : ℕ} (down : table_at (levels depth) m root below a ≡ Some f) (clear : finite.get m f ≡ Some zeros) where
    unlinked_as : (q j : ℕ) → q ≢ f → word_at (finite.remove (after_write here 0) f) q j ≡ word_at (after_write here 0) q j
    unlinked_as q j other = word_alike (after_write here 0) _ q j (get-remove_other (after_write here 0) f q other)

    gone : (q : ℕ) → q ≡ f → finite.get (finite.remove (after_write here 0) f) q ≡ None
    gone q same = ap (finite.get (finite.remove (after_write here 0) f)) same ∙ get-remove_same (after_write here 0) f

    pub more_unlinked : HasMoreOnPath depth root a (finite.remove (after_write here 0) f) m
    more_unlinked = record {
      frames = λ q used. ⊎_elim
          (λ (same : q ≡ f). absurd (not_free _ q used (gone q same)))
          (λ (other : q ≢ f). more_cleared.frames q (subst IsSome (get-remove_other (after_write here 0) f q other) used))
          (cases_eq q f);
      entries = λ q j word has. ⊎_elim
          (λ (same : q ≡ f). absurd (used_by _ q j word has.there (gone q same)))
          (λ (other : q ≢ f). more_cleared.entries q j word (moved (sym (unlinked_as q j other)) has))
          (cases_eq q f);
      tables = λ q used. ⊎_elim
          (λ (same : q ≡ f). inr (record { level = below; reached = down ∙ ap Some (sym same) }))
          (λ (other : q ≢ f). inl (subst IsSome (sym (get-remove_other (after_write here 0) f q other)) (written_in_use m n (index_at level a) 0 q used)))
          (cases_eq q f);
      on_path = λ q j word has. ⊎_elim
          (λ (same : q ≡ f).
          absurd (has.some (same_Some word 0 (sym has.there ∙ word_of m q j (Some zeros) (ap (finite.get m) same ∙ clear) ∙ ap Some (zeros_are j)))))
          (λ (other : q ≢ f). ⊎_elim (λ old. inl (moved (unlinked_as q j other) old)) (λ it. inr it) (more_cleared.on_path q j word has))
          (cases_eq q f);
    }

  -- the word of a page is written
  pub page_changed : {phys : ℕ} {own : Rights} → found_at level m n a ≡ Some (entry.Leaf phys own) → (w : ℕ)
      → ChangesPageOnPath depth root a m (after_write here w)
  page_changed {phys} {own} found w = record {
    frames = same_frames;
    words = λ q j. ⊎_elim
        (λ place. inr (record {
          at = record { level = level; reached = here.at ∙ ap Some (sym place.0); is = place.1 };
          phys = phys;
          own = own;
          page = ap (λ k. found_at level m k a) place.0 ∙ found;
        }))
        (λ apart. inl (word_elsewhere m n (index_at level a) w q j (used_at here) apart))
        (place_or_not q j n (index_at level a));
  } where
    same_frames : (q : ℕ) → finite.contains_key (after_write here w) q ≡ finite.contains_key m q
    same_frames q = ⊎_elim
        (λ (same : q ≡ n). ap (finite.contains_key (after_write here w)) same ∙ ap is_some (get_written m n (index_at level a) w)
        ∙ sym (ap is_some (words_in m n (used_at here))) ∙ ap (finite.contains_key m) (sym same))
        (λ (other : q ≢ n). ap is_some (get_written_other m n (index_at level a) w q other))
        (cases_eq q n)

-- ---- a frame is taken and linked on the path of an address

module _ (depth : Depth) (m : Memory) {root level a n w f below : ℕ} (free : finite.get m f ≡ None)
    (link : IsLink (levels depth) (finite.insert m f zeros) root level a n w f below)
    (zero_here : word_at (finite.insert m f zeros) n (index_at level a) ≡ Some 0) where
  -- the word of a frame that isn't the new one
  taken_as : (q j : ℕ) → q ≢ f → word_at (finite.insert m f zeros) q j ≡ word_at m q j
  taken_as q j other = word_alike m _ q j (get-insert_other m f zeros q other)

  filled : HasMoreOnPath depth root a (finite.insert m f zeros) (after_write link.here w)
  filled = more_filled depth link.here zero_here w

  pub more_linked : HasMoreOnPath depth root a m (after_write link.here w)
  more_linked = record {
    frames = λ q used. filled.frames q (IsInUse-insert m f zeros q used);
    entries = λ q j word has.
        filled.entries q j word (moved (taken_as q j (λ same. used_by m q j word has.there (ap (finite.get m) same ∙ free))) has);
    tables = λ q used. ⊎_elim
        (λ (same : q ≡ f). inr (record { level = below; reached = linked link a (λ i from to. refl) ∙ ap Some (sym same) }))
        (λ (other : q ≢ f).
        inl (subst IsSome (get-insert_other m f zeros q other) (used_before _ n (index_at level a) w q (used_at link.here) used)))
        (cases_eq q f);
    on_path = λ q j word has. ⊎_elim
        (λ old. ⊎_elim
        (λ (same : q ≡ f). absurd (old.some (same_Some word 0 (sym old.there ∙ word_of _ q j (Some zeros) (ap (finite.get (finite.insert m f zeros)) same
        ∙ get-insert_same m f zeros) ∙ ap Some (zeros_are j)))))
        (λ (other : q ≢ f). inl (moved (sym (taken_as q j other)) old))
        (cases_eq q f))
        (λ it. inr it)
        (filled.on_path q j word has);
  }

-- ---- nothing is written

pub keeps_none : (depth : Depth) (root : ℕ) (action : Action) (m : Memory) → KeepsRest depth root action m m
keeps_none depth root (Map page) m = more_none depth root page.base m
keeps_none depth root (Unmap base) m = more_none depth root base m
keeps_none depth root (Protect base rights) m = record { frames = λ n. refl; words = λ n i. inl refl }
