-- Page tables in whose words the accessed flag and the dirty flag change: they stay page tables of the same space.
use Rattle.std.proofs.Common.{◌≡◌, ◌≢◌, ℕ, zero, suc, ◌+◌, ◌-◌, ◌<◌, ◌≤◌, cond, true, false, List, [], ◌∷◌, length, Option, Some, None, ⊎_elim, refl, sym, ap}
use Rattle.std.proofs.Common.{subst, ◌∙◌, arith}
use Rattle.std.specs.Prelude.{IsSome, is_some, option_map, slice_index}
use Rattle.std.specs.FinMap as finite
use Rattle.std.specs.List.{AllZip}
use Rattle.std.specs.Ordering.{nat_cmp, is_eq}
use Rattle.std.specs.Cmp.{nat_cmp_is}
use Rattle.std.specs.declared.cmp.Ordering.TheVariants.{Equal}
use Rattle.std.proofs.lemmas.Bool.{cases_eq, cases_lt}
use Rattle.std.proofs.lemmas.List.Elements.{length_all_zip}
use Rattle.std.proofs.lemmas.Option.{none-some, same_Some}
use Rattle.vs_types.specs.Depth.{levels, index_at}
use Rattle.vs_types.specs.Entry.{meaning}
use Rattle.vs_types.specs.Space.{Space}
use Rattle.vs_types.specs.declared.addresses.depth.Depth.{Depth}
use Rattle.vs_types.proofs.Pages.{three_levels}
use Rattle.vs_arena.specs.Store.{Store, Notes, Lenders}
use Rattle.vs_walk.specs.Memory.{Memory, AreWhole}
use Rattle.vs_walk.specs.Walk.{all_rights, walk_from}
use Rattle.vs_walk.proofs.TranslatedBits.{no_table_below}
use Rattle.vs_space.specs.Held.{numbered}
use Rattle.vs_space.specs.Path.{found_at, table_at}
use Rattle.vs_space.specs.Tree.{IsTree, IsFilled, IsReached}
use Rattle.vs_space.specs.Table.{IsTableOf}
use Rattle.vs_space.specs.Invariant.{IsPageTable}
use Rattle.vs_space.specs.Counted.{IsCounted, nonzero_count}
use Rattle.vs_space.specs.Kept.{table_of, KeepsTable}
use Rattle.vs_types.specs.Bits.{IsWritten}
use Rattle.vs_space.specs.Flags.{IsSameButFlags, AreSameButFlags}
use Rattle.vs_types.proofs.Maps.{get-remove_same, get-remove_other, len-remove_used}
use Rattle.vs_space.proofs.Numbered.{get_numbered, get_below_base}
use Rattle.vs_space.proofs.Paths.{words_found, table_before, agree_table, agree_walk}
use Rattle.vs_space.proofs.Prunes.{word_in}
use Rattle.vs_space.proofs.Writes.{words_in}
use Rattle.vs_space.proofs.Written.{word_alike}
use Rattle.vs_space.proofs.FlaggedWords.{flagged_meaning, flagged_written, flagged_at, flagged_count}

no_frame : (o : Option (List ℕ)) → is_some o ≡ false → o ≡ None
no_frame None none = refl
no_frame (Some words) none = let wrong : true ≡ false = none in absurd (cc)

-- ---- how many frames are in use

-- a frame in use, where there is one
some_frame : (m : Memory) (entries : List (ℕ × List ℕ)) → finite.entries m ≡ entries → finite.len m ≢ 0
    → (frame : ℕ) × (words : List ℕ) × (finite.get m frame ≡ Some words)
some_frame m [] are some = absurd (some (finite.len-entries m ∙ ap length are))
some_frame m (e ∷ entries) are some = (
  e.0,
  e.1,
  finite.get-entries m e.0 ∙ ap (finite.find nat_cmp e.0) are
      ∙ ap (λ o. cond (is_eq o) (Some e.1) (finite.find nat_cmp e.0 entries)) (sym (nat_cmp_is e.0 e.0 Equal refl)),
)

-- as many, where the same are
same_len : (n : ℕ) (old new : Memory) → ((frame : ℕ) → finite.contains_key new frame ≡ finite.contains_key old frame) → finite.len old ≡ n → finite.len new ≡ n
same_len zero old new same none =
    let empty : old ≡ finite.empty = finite.empty_of_len old none in
    ⊎_elim
    (λ (is : finite.len new ≡ 0). is)
    (λ (some : finite.len new ≢ 0).
    let frame = some_frame new (finite.entries new) refl some in
    let wrong : true ≡ false = sym (ap is_some frame.2) ∙ same frame.0
    ∙ ap is_some (ap (λ (m : Memory). finite.get m frame.0) empty ∙ finite.get-empty nat_cmp frame.0) in
    absurd (cc))
    (cases_eq (finite.len new) 0)
same_len (suc n) old new same many =
    let frame = some_frame old (finite.entries old) refl (λ none. omega (arith, many, none)) in
    let used : IsSome (finite.get new frame.0) = same frame.0 ∙ ap is_some frame.2 in
    let found = words_in new frame.0 used in
    let fewer = len-remove_used old frame.0 frame.1 frame.2 in
    let after = len-remove_used new frame.0 _ found in
    let rest = same_len n (finite.remove old frame.0) (finite.remove new frame.0) (λ q. ⊎_elim
    (λ (here : q ≡ frame.0).
    ap is_some (ap (finite.get (finite.remove new frame.0)) here ∙ get-remove_same new frame.0)
    ∙ sym (ap is_some (ap (finite.get (finite.remove old frame.0)) here ∙ get-remove_same old frame.0)))
    (λ (other : q ≢ frame.0). ap is_some (get-remove_other new frame.0 q other) ∙ same q ∙ sym (ap is_some (get-remove_other old frame.0 q other)))
    (cases_eq q frame.0)) (omega (arith, fewer, many)) in
    omega (arith, after, rest)

pub flagged_len : {old new : Memory} → AreSameButFlags old new → finite.len new ≡ finite.len old
flagged_len {old} {new} is = same_len (finite.len old) old new is.frames refl

-- ---- what is found, the tables on a path, and walks

module _ {old new : Memory} (is : AreSameButFlags old new) where
  used_before : (n : ℕ) → IsSome (finite.get new n) → IsSome (finite.get old n)
  used_before n used = sym (is.frames n) ∙ used

  used_after : (n : ℕ) → IsSome (finite.get old n) → IsSome (finite.get new n)
  used_after n used = is.frames n ∙ used

  -- the words of a frame in use before and after
  pub both : (n : ℕ) → IsSome (finite.get old n)
      → (before : List ℕ) × (after : List ℕ) × (finite.get old n ≡ Some before) × (finite.get new n ≡ Some after) × AllZip IsSameButFlags before after
  both n used =
      let first = words_in old n used in
      let second = words_in new n (used_after n used) in
      (_, _, first, second, is.words n _ _ first second)

  pub flagged_found : (level n a : ℕ) → 1 ≤ level → found_at level new n a ≡ found_at level old n a
  unfolding found_at
  flagged_found level n a some = by (finite.get old n) refl where
    by : (o : Option (List ℕ)) → finite.get old n ≡ o → found_at level new n a ≡ found_at level old n a
    by None none =
        let gone : finite.get new n ≡ None = no_frame (finite.get new n) (is.frames n ∙ ap is_some none) in
        ap (option_map (meaning level)) (word_alike old new n (index_at level a) (gone ∙ sym none))
    by (Some words) got =
        let here = both n (ap is_some got) in
        let index = index_at level a in
        ap (option_map (meaning level)) (word_in new n index here.1 here.3)
        ∙ ap Some (flagged_meaning (flagged_at here.0 here.1 here.4 index) level some)
        ∙ sym (ap (option_map (meaning level)) (word_in old n index here.0 here.2))

  module _ (top root : ℕ) where
    flagged_table : (level a : ℕ) → table_at top new root level a ≡ table_at top old root level a
    flagged_table level a = agree_table top root old new a level (λ j n over at. flagged_found j n a (omega (arith, over)))

    flagged_walk : (a : ℕ) → walk_from new top root all_rights a ≡ walk_from old top root all_rights a
    flagged_walk a = agree_walk top root old new a (λ j n over at. flagged_found j n a over)

    -- no table is reached below level 1
    some_level : 1 ≤ top → (level a n : ℕ) → table_at top old root level a ≡ Some n → 1 ≤ level
    some_level high zero a n at =
        let above = table_before top root old 0 a n high at in
        let words = words_found 1 old above.0 a _ above.3 in
        absurd (no_table_below (slice_index words.0 (index_at 1 a)) n above.1 words.2)
    some_level high (suc level) a n at = omega arith

    -- ---- what holds of a page table

    flagged_tree : 1 ≤ top → IsTree top old root → IsTree top new root
    flagged_tree high tree = record {
      in_use = λ level a n at. used_after n (tree.in_use level a n (sym (flagged_table level a) ∙ at));
      once = λ j k a b n first second. tree.once j k a b n (sym (flagged_table j a) ∙ first) (sym (flagged_table k b) ∙ second);
      allows = λ level a n next own at found.
          let was = sym (flagged_table level a) ∙ at in
          tree.allows level a n next own was (sym (flagged_found level n a (some_level high level a n was)) ∙ found);
    }

    flagged_reached : 1 ≤ top → IsReached top old root → IsReached top new root
    flagged_reached high reached = record {
      path = λ n used.
          let was = reached.path n (used_before n used) in
          let here = both n (used_before n used) in (
            was.0,
            was.1,
            flagged_table was.0 was.1 ∙ was.2,
            λ index word got.
                let is_word : slice_index here.1 index ≡ word = same_Some _ _ (sym (word_in new n index here.1 here.3) ∙ got) in
                let stays = flagged_written (flagged_at here.0 here.1 here.4 index) was.0 (some_level high was.0 was.1 n was.2)
                (was.3 index _ (word_in old n index here.0 here.2)) in
                subst (IsWritten was.0) is_word stays,
          );
    }

  flagged_filled : {depth : Depth} {root : ℕ} → IsFilled depth old root → IsFilled depth new root
  flagged_filled {depth} {root} is_filled = record {
    filled = λ level a n low at nothing. is_filled.filled level a n low (sym (flagged_table (levels depth) root level a) ∙ at)
        (λ b canonical same. sym (flagged_walk (levels depth) root b) ∙ nothing b canonical same);
  }

  flagged_whole : AreWhole old → AreWhole new
  flagged_whole whole = λ n words got.
      let here = both n (used_before n (ap is_some got)) in
      let long = length_all_zip IsSameButFlags here.0 here.1 here.4 in
      let first = whole n here.0 here.2 in
      let same : Some here.1 ≡ Some words = sym here.3 ∙ got in
      let one : here.1 ≡ words = cc in
      sym (ap length one) ∙ sym long ∙ first

  flagged_counted : {notes : Notes} → IsCounted old notes → IsCounted new notes
  flagged_counted counted = record {
    counts = λ n words got.
        let here = both n (used_before n (ap is_some got)) in
        let same : Some here.1 ≡ Some words = sym here.3 ∙ got in
        let one : here.1 ≡ words = cc in
        counted.counts n here.0 here.2 ∙ sym (flagged_count here.0 here.1 here.4) ∙ ap nonzero_count one;
  }

-- ---- the frames of a store by their numbers

flagged_numbered : (base : ℕ) {old new : Store} → AreSameButFlags old new → AreSameButFlags (numbered base old) (numbered base new)
flagged_numbered base {old} {new} is = record {
  frames = λ n. ⊎_elim
      (λ (low : n < base). ap is_some (get_below_base base new n low) ∙ sym (ap is_some (get_below_base base old n low)))
      (λ (high : base ≤ n).
      ap is_some (from new n high) ∙ is.frames (n - base) ∙ sym (ap is_some (from old n high)))
      (cases_lt n base);
  words = λ n before after first second. ⊎_elim
      (λ (low : n < base). absurd (none-some before (sym (get_below_base base old n low) ∙ first)))
      (λ (high : base ≤ n). is.words (n - base) before after (sym (from old n high) ∙ first) (sym (from new n high) ∙ second))
      (cases_lt n base);
} where
  from : (store : Store) (n : ℕ) → base ≤ n → finite.get (numbered base store) n ≡ finite.get store (n - base)
  from store n high =
      let at : base + (n - base) ≡ n = omega arith in
      subst (λ k. finite.get (numbered base store) k ≡ finite.get store (n - base)) at (get_numbered base store (n - base))

module _ (depth : Depth) (root base limit : ℕ) {old new : Store} (is : AreSameButFlags old new) where
  pub flagged_space : (lenders : Lenders) {space : Space} → IsTableOf (table_of lenders depth root base limit old) space
      → IsTableOf (table_of lenders depth root base limit new) space
  flagged_space lenders of = record {
    is_space = of.is_space;
    translates = λ address canonical. flagged_walk (flagged_numbered base is) (levels depth) root address ∙ of.translates address canonical;
  }

  flagged_page_table : IsPageTable (table_of [] depth root base limit old) → IsPageTable (table_of [] depth root base limit new)
  flagged_page_table table = record {
    tree = flagged_tree by (levels depth) root some table.tree;
    filled = flagged_filled by table.filled;
    reached = flagged_reached by (levels depth) root some table.reached;
    whole = flagged_whole by table.whole;
    root_fits = table.root_fits;
    some_space = (
      table.some_space.0,
      record { is_of = flagged_space [] table.some_space.1.is_of; counted = flagged_len by ∙ table.some_space.1.counted },
    );
  } where
    by : AreSameButFlags (numbered base old) (numbered base new)
    by = flagged_numbered base is

    some : 1 ≤ levels depth
    some = omega (arith, three_levels depth)

  pub flagged_kept : (notes : Notes) → KeepsTable depth root base limit old notes → KeepsTable depth root base limit new notes
  flagged_kept notes kept = record {
    table = flagged_page_table kept.table;
    in_range = record {
      from_base = λ n used. kept.in_range.from_base n (used_before by n used);
      below = λ n used. kept.in_range.below n (used_before by n used);
    };
    whole = flagged_whole is kept.whole;
    counted = flagged_counted is kept.counted;
  } where
    by : AreSameButFlags (numbered base old) (numbered base new)
    by = flagged_numbered base is
