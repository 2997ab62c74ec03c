-- New tables that are filled before they are linked.
use Rattle.std.proofs.Common.{◌≡◌, ◌≢◌, ℕ, suc, ◌+◌, ◌-◌, ◌%◌, ◌<◌, ◌≤◌, List, [], ◌∷◌, ◌++◌, length, Bool, true, false, Option, Some, All, Contains, ⊎_elim}
use Rattle.std.proofs.Common.{refl, sym, ap, subst, ◌∙◌, arith}
use Rattle.std.specs.Prelude.{◌&&◌, unwrap_or, slice_set}
use Rattle.std.proofs.lemmas.Bool.{cases_eq, cases_lt}
use Rattle.std.proofs.lemmas.List.Elements.{All-push, All-head, All-tail, Contains-append_left, Contains-append_right}
use Rattle.std.specs.FinMap as finite
use Rattle.vs_types.specs.Depth.{levels, index_at}
use Rattle.vs_types.specs.Entry.{meaning, all_rights, table_word}
use Rattle.vs_types.specs.Page.{level_of, bytes_of, intersection}
use Rattle.vs_types.specs.declared.addresses.depth.Depth.{Depth}
use Rattle.vs_types.specs.declared.addresses.page.Page.{Page}
use Rattle.vs_types.specs.declared.addresses.page.Rights.{Rights}
use Rattle.vs_types.specs.declared.entries.entry.Meaning.TheVariants as entry
use Rattle.vs_types.proofs.Lists.{Contains-head, Contains-cases, not_in_nil}
use Rattle.vs_types.proofs.Pages.{level_some}
use Rattle.vs_arena.specs.Store.{zeros}
use Rattle.vs_walk.specs.Memory.{Memory, AreWhole}
use Rattle.vs_walk.specs.Walk.{walk_from}
use Rattle.vs_walk.specs.declared.walk.Walk.TheVariants.{Mapped}
use Rattle.vs_space.specs.Path.{table_in, table_at, SamePath}
use Rattle.vs_space.proofs.Links.{zeros_are}
use Rattle.vs_space.proofs.Prunes.{word_in}
use Rattle.vs_space.proofs.Writes.{get_written, get_written_other}
use Rattle.vs_space.proofs.Written.{size_same}
use Rattle.vs_space.proofs.Reached.{whole_written}
use Rattle.vs_plan.specs.declared.plans.plan.Store.{Store}
use Rattle.vs_plan.specs.declared.plans.request.Request.TheVariants.{Map}
use Rattle.vs_types.specs.Bits.{page_word}
use Rattle.vs_plan.specs.Premise.{IsSpare}
use Rattle.vs_plan.specs.Right.{IsWritten, AreLinks}
use Rattle.vs_plan.specs.Shown.{last_frame, EndsAt, frames_of, AreSameIn, IsLone, LeadsToPage, AreFilled}
use Rattle.vs_plan.specs.Stores.{stored, stored_all, FindTheirWords}
use Rattle.vs_plan.proofs.Linking.{lone_lowest, lone_higher, found_one, found_none}
use Rattle.vs_plan.proofs.Parts.{words_apart, store_at}
use Rattle.vs_plan.proofs.Stored.{stored_push, found_push, stored_elsewhere, used_word, even_absent}
use Rattle.vs_plan.specs.Other.{HasSameTables}
use Rattle.vs_plan.proofs.Ways.{walk_level}
use Rattle.std.proofs.lemmas.List.{map-append}

-- ---- rights

both : (b : Bool) → (b && true) ≡ b
both true = refl
both false = refl

pub all_of : (rights : Rights) → intersection rights all_rights ≡ rights
all_of rights = rw (both rights.write, both rights.user, both rights.exec) refl

-- ---- what is stored in spare frames changes no walk

pub frame_among : (stores : List Store) (q : ℕ) → Contains (frames_of stores) q → (P : ℕ → Type 0) → All (λ (s : Store). P s.frame) stores → P q
frame_among [] q among P are = absurd (not_in_nil q among)
frame_among (s ∷ stores) q among P are = ⊎_elim
    (λ (here : s.frame ≡ q). subst P here (All-head (λ (t : Store). P t.frame) s stores are))
    (λ (later : Contains (frames_of stores) q). frame_among stores q later P (All-tail (λ (t : Store). P t.frame) s stores are))
    (Contains-cases s.frame (frames_of stores) q among)

module _ {depth : Depth} {memory : Memory} {root : ℕ} (stores : List Store) (spare : All (λ (s : Store). IsSpare depth memory root s.frame) stores) where
  pub not_spare : (j b q : ℕ) → table_at (levels depth) memory root j b ≡ Some q → Contains (frames_of stores) q → ⊥
  not_spare j b q reached among =
      let is : IsSpare depth memory root q = frame_among stores q among (IsSpare depth memory root) spare in
      is.unreached j b reached

  pub alike : HasSameTables depth root memory (stored_all memory stores)
  alike j b q reached = stored_elsewhere memory stores q (not_spare j b q reached)

pub whole_filled : (m : Memory) (stores : List Store) → AreWhole m → FindTheirWords m stores → AreWhole (stored_all m stores)
whole_filled m [] whole found = whole
whole_filled m (s ∷ stores) whole found =
    whole_filled (stored m s) stores (whole_written m s.frame s.index s.new (used_word m s.frame s.index s.old found.0) whole) found.1

-- ---- links

pub links_push : (frame : ℕ) (xs : List Store) (t : Store) → AreLinks frame xs → t.new ≡ table_word (last_frame frame xs) → AreLinks frame (xs ++ t ∷ [])
links_push frame [] t before is = (is, tt)
links_push frame (x ∷ xs) t before is = (before.0, links_push x.frame xs t before.1 is)

pub last_push : (frame : ℕ) (xs : List Store) (t : Store) → last_frame frame (xs ++ t ∷ []) ≡ t.frame
last_push frame [] t = refl
last_push frame (x ∷ xs) t = last_push x.frame xs t

some_stores : (xs : List Store) → (xs ≡ [] → ⊥) → 1 ≤ length xs
some_stores [] more = absurd (more refl)
some_stores (x ∷ xs) more = omega arith

-- ---- one more table is filled

path_up : (top level a b : ℕ) → SamePath top level a b → index_at (suc top) a ≡ index_at (suc top) b → SamePath (suc top) level a b
path_up top level a b same here = λ i from to. ⊎_elim
    (λ (last : i ≡ suc top). subst (λ j. index_at j a ≡ index_at j b) (sym last) here)
    (λ (other : i ≢ suc top). same i from (omega (arith, other)))
    (cases_eq i (suc top))

module _ {depth : Depth} {memory : Memory} {root : ℕ} {page : Page} {bits : ℕ} {height below : ℕ} {stores : List Store}
    (filled : AreFilled depth memory root page bits height below stores) (lowest : level_of page.size ≤ height)
    (count : length stores + level_of page.size ≡ height) {number : ℕ} (spare : IsSpare depth memory root number)
    (new : Contains (frames_of stores) number → ⊥) (w : ℕ) where
  abbrev s : Store
  s = store_at number (index_at height page.base) 0 w

  abbrev mk : Memory
  mk = stored_all memory stores

  clear : finite.get mk number ≡ Some zeros
  clear = stored_elsewhere memory stores number new ∙ spare.clear

  frames_push : frames_of (stores ++ s ∷ []) ≡ frames_of stores ++ number ∷ []
  frames_push = map-append (λ (t : Store). t.frame) stores (s ∷ [])

  after : stored_all memory (stores ++ s ∷ []) ≡ stored mk s
  after = stored_push memory stores s

  here : Contains (frames_of (stores ++ s ∷ [])) number
  here = subst (λ ns. Contains ns number) (sym frames_push) (Contains-append_right (frames_of stores) (number ∷ []) number (Contains-head number []))

  module _ (m : Memory) (same : AreSameIn (frames_of (stores ++ s ∷ [])) (stored_all memory (stores ++ s ∷ [])) m) where
    own_words : finite.get m number ≡ Some (slice_set zeros (index_at height page.base) w)
    own_words = same number here ∙ ap (λ (n : Memory). finite.get n number) after ∙ get_written mk number (index_at height page.base) w
        ∙ ap (λ (o : Option (List ℕ)). Some (slice_set (unwrap_or o []) (index_at height page.base) w)) clear

    others_same : AreSameIn (frames_of stores) mk m
    others_same q among = same q (subst (λ ns. Contains ns q) (sym frames_push) (Contains-append_left (frames_of stores) (number ∷ []) q among))
        ∙ ap (λ (n : Memory). finite.get n q) after
        ∙ get_written_other mk number (index_at height page.base) w q (λ e. new (subst (Contains (frames_of stores)) e among))

    -- the table of the page
    lowest_leads : height ≡ level_of page.size → meaning (level_of page.size) w ≡ entry.Leaf page.phys page.rights → LeadsToPage depth m page height number
    lowest_leads at leads = subst (λ h. finite.get m number ≡ Some (slice_set zeros (index_at h page.base) w) → LeadsToPage depth m page h number) (sym at)
        (λ words b rights. (
          λ path. walk_level m (level_of page.size) number rights b (entry.Leaf page.phys page.rights) (level_some page.size)
              (found_one m number (index_at (level_of page.size) page.base) w (omega arith) words (level_of page.size) b
              (sym (path (level_of page.size) (omega arith) (omega arith))) ∙ ap Some leads)
              ∙ ap (λ z. Mapped (page.phys + b % bytes_of page.size) z (intersection rights page.rights)) (size_same page.size),
          λ apart. walk_level m (level_of page.size) number rights b entry.Absent (level_some page.size)
              (found_none m number (index_at (level_of page.size) page.base) w (omega arith) words (level_of page.size) b
              (λ e. apart (λ i from to. let only : i ≡ level_of page.size = omega arith in
              subst (λ j. index_at j page.base ≡ index_at j b) (sym only) (sym e)))),
        )) own_words

    -- a table above
    higher_leads : level_of page.size < height → meaning height w ≡ entry.Table below all_rights → LeadsToPage depth m page height number
    higher_leads deep leads = λ b rights. (
      λ path. on b rights (sym (path height (omega arith) (omega arith))) ∙ (under b rights).0 (λ i from to. path i from (omega arith)),
      λ apart. ⊎_elim
          (λ (turn : index_at height b ≡ index_at height page.base). on b rights turn
          ∙ (under b rights).1 (λ path. apart (subst (λ h. SamePath h (level_of page.size) page.base b) (sym one)
          (path_up (height - 1) (level_of page.size) page.base b path (subst (λ h. index_at h page.base ≡ index_at h b) one (sym turn))))))
          (λ (off : index_at height b ≢ index_at height page.base). walk_level m height number rights b entry.Absent (omega arith)
          (found_none m number (index_at height page.base) w (omega arith) own_words height b off))
          (cases_eq (index_at height b) (index_at height page.base)),
    ) where
      under : LeadsToPage depth m page (height - 1) below
      under = (filled.hang deep).1 m others_same

      one : height ≡ suc (height - 1)
      one = omega arith

      on : (b : ℕ) (rights : Rights) → index_at height b ≡ index_at height page.base
          → walk_from m height number rights b ≡ walk_from m (height - 1) below rights b
      on b rights turn = walk_level m height number rights b (entry.Table below all_rights) (omega arith)
          (found_one m number (index_at height page.base) w (omega arith) own_words height b turn ∙ ap Some leads)
          ∙ ap (λ r. walk_from m (height - 1) below r b) (all_of rights)

    lowest_lone : height ≡ level_of page.size → meaning (level_of page.size) w ≡ entry.Leaf page.phys page.rights
        → IsLone m page.base height number (frames_of (stores ++ s ∷ []))
    lowest_lone at leads = lone_lowest m number (index_at height page.base) w (omega arith) own_words page.base height (frames_of (stores ++ s ∷ []))
        (omega (arith, level_some page.size, at)) (ap (λ e. table_in (Some e)) (ap (λ l. meaning l w) at ∙ leads)) here

    higher_lone : level_of page.size < height → meaning height w ≡ entry.Table below all_rights
        → IsLone m page.base height number (frames_of (stores ++ s ∷ []))
    higher_lone deep leads = by (height - 1) (omega arith) (filled.lone deep m others_same) where
      by : (low : ℕ) → height ≡ suc low → IsLone m page.base (height - 1) below (frames_of stores)
          → IsLone m page.base height number (frames_of (stores ++ s ∷ []))
      by low one lone =
          subst (λ h. IsLone m page.base h number (frames_of (stores ++ s ∷ []))) (sym one)
          (subst (λ ns. IsLone m page.base (suc low) number ns) (sym frames_push)
          (lone_higher m page.base low below number w all_rights (frames_of stores)
          (subst (λ h. finite.get m number ≡ Some (slice_set zeros (index_at h page.base) w)) one own_words)
          (subst (λ h. meaning h w ≡ entry.Table below all_rights) one leads) new
          (subst (λ h. IsLone m page.base h below (frames_of stores)) (let e : height - 1 ≡ low = omega arith in e) lone)))

  written_push : (xs : List Store) → IsWritten (Map page bits) xs → EndsAt below xs → (xs ≡ [] → w ≡ page_word page bits)
      → ((xs ≡ [] → ⊥) → w ≡ table_word below) → IsWritten (Map page bits) (xs ++ s ∷ [])
  written_push [] before ends first later = (first refl, tt)
  written_push (t ∷ xs) before ends first later = (before.0, links_push t.frame xs s before.1 (later (λ e. cc) ∙ ap table_word (sym ends)))

  ends_push : (xs : List Store) → EndsAt number (xs ++ s ∷ [])
  ends_push [] = refl
  ends_push (t ∷ xs) = last_push t.frame xs s

  -- what is written is no 0
  fresh_word : (height ≡ level_of page.size → (w ≡ page_word page bits) × (meaning (level_of page.size) w ≡ entry.Leaf page.phys page.rights))
      → (level_of page.size < height → (w ≡ table_word below) × (meaning height w ≡ entry.Table below all_rights)) → 0 ≢ w
  fresh_word at above = ⊎_elim
      (λ (up : level_of page.size < height). words_apart height 0 w (λ same. let both = same ∙ (above up).1 in cc (both, even_absent height 0 refl)))
      (λ (le : height ≤ level_of page.size).
      words_apart (level_of page.size) 0 w (λ same. let both = same ∙ (at (omega (arith, lowest))).1 in cc (both, even_absent (level_of page.size) 0 refl)))
      (cases_lt (level_of page.size) height)

  pub filled_more : (height ≡ level_of page.size → (w ≡ page_word page bits) × (meaning (level_of page.size) w ≡ entry.Leaf page.phys page.rights))
      → (level_of page.size < height → (w ≡ table_word below) × (meaning height w ≡ entry.Table below all_rights))
      → AreFilled depth memory root page bits (height + 1) number (stores ++ s ∷ [])
  filled_more at above = record {
    found =
        found_push memory stores s filled.found
        (word_in mk number (index_at height page.base) zeros clear ∙ ap Some (zeros_are (index_at height page.base)));
    spare = All-push (λ (t : Store). IsSpare depth memory root t.frame) stores s filled.spare spare;
    written = written_push stores filled.written filled.ends (λ none.
        let empty : length stores ≡ 0 = ap length none in (at (omega (arith, count, empty))).0)
        (λ more. (above (omega (arith, count, some_stores stores more))).0);
    ends = ends_push stores;
    hang = λ deep. (
      here,
      λ m same. subst (λ h. LeadsToPage depth m page h number) (let e : height ≡ height + 1 - 1 = omega arith in e) (⊎_elim
          (λ (up : level_of page.size < height). higher_leads m same up (above up).1)
          (λ (le : height ≤ level_of page.size). let is : height ≡ level_of page.size = omega (arith, lowest) in lowest_leads m same is (at is).1)
          (cases_lt (level_of page.size) height)),
    );
    absent = All-push (λ (t : Store). t.old % 2 ≡ 0) stores s filled.absent refl;
    changing = All-push (λ (t : Store). t.old ≢ t.new) stores s filled.changing (fresh_word at above);
    lone = λ deep m same. subst (λ h. IsLone m page.base h number (frames_of (stores ++ s ∷ []))) (let e : height ≡ height + 1 - 1 = omega arith in e) (⊎_elim
        (λ (up : level_of page.size < height). higher_lone m same up (above up).1)
        (λ (le : height ≤ level_of page.size). let is : height ≡ level_of page.size = omega (arith, lowest) in lowest_lone m same is (at is).1)
        (cases_lt (level_of page.size) height));
  }
