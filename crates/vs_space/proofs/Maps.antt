-- What a page table is after a page was added, and why one isn't.
use Rattle.std.proofs.Common.{◌≡◌, ◌≢◌, ℕ, suc, ◌+◌, ◌-◌, ◌*◌, ◌%◌, ◌^◌, ◌<◌, ◌≤◌, List, Some, None, IsTrue, leb-true, leb-false, ⊎_elim, refl, sym, ap, subst}
use Rattle.std.proofs.Common.{◌∙◌, arith}
use Rattle.std.specs.Prelude.{slice_index}
use Rattle.std.proofs.lemmas.Bool.{cases_lt}
use Rattle.std.specs.FinMap as finite
use Rattle.vs_types.specs.Depth.{levels, entry_bytes, index_at, IsCanonical}
use Rattle.vs_types.specs.Entry.{meaning, size_at, leaf_word}
use Rattle.vs_types.specs.Page.{level_of, bytes_of, covers, IsPage}
use Rattle.vs_types.specs.Space.{Space, Holds, IsSpace, page_at, table_count, least_overlapped}
use Rattle.vs_types.specs.Step.{step, Stepped}
use Rattle.vs_types.specs.Laws.{as_in}
use Rattle.vs_types.specs.declared.addresses.depth.Depth.{Depth}
use Rattle.vs_types.specs.declared.requests.op.Action.TheVariants.{Map}
use Rattle.vs_types.specs.declared.addresses.page.Page.{Page}
use Rattle.vs_types.specs.declared.addresses.page.Rights.{Rights}
use Rattle.vs_types.specs.declared.entries.entry.Meaning.{Meaning}
use Rattle.vs_types.specs.declared.entries.entry.Meaning.TheVariants as entry
use Rattle.vs_types.specs.declared.requests.answer.Answer.TheVariants as answers
use Rattle.vs_types.proofs.Steps.{map_cases, alone, step_space}
use Rattle.vs_types.proofs.Looks.{done_looks}
use Rattle.vs_types.proofs.Overlaps.{overlapped_below}
use Rattle.vs_types.proofs.Pages.{covers_means, covers_base, covered_canonical, level_some}
use Rattle.vs_types.proofs.Spaces.{page_at_means, insert_space}
use Rattle.vs_walk.specs.Memory.{Memory, AreWhole}
use Rattle.vs_walk.specs.Walk.{as_walk}
use Rattle.vs_walk.specs.declared.walk.Walk.TheVariants.{Mapped}
use Rattle.vs_types.specs.Bits.{flags_in}
use Rattle.vs_space.specs.Held.{word_at, with_word}
use Rattle.vs_space.specs.Path.{found_at, table_in, SamePath}
use Rattle.vs_space.specs.Tree.{NothingUnder}
use Rattle.vs_space.specs.inside.Grow.{IsOpen, IsExtended, IsBelowRoot, IsLeastBase}
use Rattle.vs_space.specs.inside.Descent.{IsDescent}
use Rattle.vs_space.specs.Table.{PageTable, IsTableStep}
use Rattle.vs_space.specs.Invariant.{IsSpaceOf, IsPageTable}
use Rattle.vs_space.proofs.Paths.{table_below, words_found}
use Rattle.vs_space.proofs.Writes.{IsTreeAt, used_at, walk_off_path, len_write}
use Rattle.vs_space.proofs.Trees.{tree_write, walk_to_leaf, but_none, but_write, filled_by}
use Rattle.vs_space.proofs.Reached.{reached_write, whole_write}
use Rattle.vs_space.proofs.Regions.{walk_in, leaf_page, nothing_at, translates_changed, covers_path, path_covers}
use Rattle.vs_space.proofs.Protects.{IsMet, faultless, own_space, space_of, never_reserved, page_here, stays}
use Rattle.vs_space.proofs.Meets.{met_of, never_table}
use Rattle.vs_space.proofs.Prunes.{absent_under}
use Rattle.vs_space.proofs.Plain.{adds_then, adds_written, plain_leaf}
use Rattle.vs_space.proofs.Written.{size_same, written_leaf, leaf_at_level, written_at}
use Rattle.vs_space.proofs.Footprints.{more_then, more_filled}
use Rattle.vs_space.proofs.Presents.{absent_word}
use Rattle.vs_space.proofs.Overlaps.{overlapped_none, overlapped_least}
use Rattle.vs_space.proofs.TableCounts.{count_added}

pub map_overlaps : (depth : Depth) (limit : ℕ) (space : Space) (page : Page) (base : ℕ) → least_overlapped space page ≡ Some base
    → step depth limit space (Map page) ≡ record { space = space; answer = answers.Overlap base }
map_overlaps depth limit space page base least = map_cases (λ s. s ≡ record { space = space; answer = answers.Overlap base }) depth limit space page
    (λ e t. absurd (cc))
    (λ other e. let same : other ≡ base = cc in ap (λ b. let s : Stepped = record { space = space; answer = answers.Overlap b } in s) same)
    (λ e t. absurd (cc))

map_is_full : (depth : Depth) (limit : ℕ) (space : Space) (page : Page) → least_overlapped space page ≡ None
    → limit < table_count depth (finite.insert space page.base page)
    → step depth limit space (Map page) ≡ record { space = space; answer = answers.Full (table_count depth (finite.insert space page.base page)) }
map_is_full depth limit space page least above =
    map_cases (λ s. s ≡ record { space = space; answer = answers.Full (table_count depth (finite.insert space page.base page)) }) depth limit space page
    (λ e t. absurd (omega (arith, above, leb-true (table_count depth (finite.insert space page.base page)) limit t)))
    (λ other e. absurd (cc))
    (λ e t. refl)

pub map_is_done : (depth : Depth) (limit : ℕ) (space : Space) (page : Page) → least_overlapped space page ≡ None
    → table_count depth (finite.insert space page.base page) ≤ limit
    → step depth limit space (Map page) ≡ record { space = finite.insert space page.base page; answer = answers.Done }
map_is_done depth limit space page least few =
    map_cases (λ s. s ≡ record { space = finite.insert space page.base page; answer = answers.Done }) depth limit space page
    (λ e t. refl)
    (λ other e. absurd (cc))
    (λ e t. absurd (omega (arith, few, leb-false (table_count depth (finite.insert space page.base page)) limit t)))

module _ {t : PageTable} (table : IsPageTable t) {page : Page} (good : IsPage t.depth page) {level : ℕ} {path : List ℕ} where
  met : {e : Meaning} → IsDescent t.depth t.memory t.root page.base (level_of page.size) level path e → IsMet t page.base level (slice_index path level) e
  met descent = met_of (level_some page.size) descent

  pub reserved_never : IsDescent t.depth t.memory t.root page.base (level_of page.size) level path entry.Reserved → ⊥
  reserved_never descent = never_reserved table good.canonical (met descent)

  -- ---- a leaf on the path: its page has the base of the new one

  pub leaf_overlaps : {phys : ℕ} {own : Rights} → IsDescent t.depth t.memory t.root page.base (level_of page.size) level path (entry.Leaf phys own)
      → {bytes : ℕ} → bytes ≡ bytes_of (size_at level) → IsTableStep t (Map page) (answers.Overlap (page.base - page.base % bytes)) t
  leaf_overlaps descent {bytes} are = stays table tt (λ space of.
      let leaf = page_here table of good.canonical (met descent) in
      let size : bytes_of leaf.0.size ≡ bytes = ap bytes_of leaf.1.size ∙ sym are in
      let offset : page.base % bytes_of leaf.0.size ≡ page.base % bytes = ap (λ n. page.base % n) size in
      let base_is : leaf.0.base ≡ page.base - page.base % bytes = omega (arith, leaf.1.base) in
      map_overlaps t.depth t.limit space page (page.base - page.base % bytes) (overlapped_below of.is_space page leaf.0 leaf.1.here ∙ ap Some base_is))

  -- ---- a table at the page's own level: the first page below it

  module _ {next : ℕ} {rights : Rights} (descent : IsDescent t.depth t.memory t.root page.base (level_of page.size) level path (entry.Table next rights)) where
    own_level : level ≡ level_of page.size
    own_level = ⊎_elim
        (λ (deep : level_of page.size < level). let none : table_in (Some (entry.Table next rights)) ≡ None = descent.ends deep in absurd (cc))
        (λ (le : level ≤ level_of page.size). omega (arith, descent.above))
        (cases_lt (level_of page.size) level)

    pub not_lowest : 1 < level_of page.size
    not_lowest = ⊎_elim
        (λ (deep : 1 < level_of page.size). deep)
        (λ (le : level_of page.size ≤ 1).
        let one : level ≡ 1 = omega (arith, own_level, level_some page.size) in
        let words = words_found 1 t.memory (slice_index path level) page.base (entry.Table next rights)
        (subst (λ l. found_at l t.memory (slice_index path level) page.base ≡ Some (entry.Table next rights)) one descent.is) in
        absurd (never_table (slice_index words.0 (index_at 1 page.base)) next rights words.2))
        (cases_lt 1 (level_of page.size))

    -- the table begins where the page would
    pub below_root : IsBelowRoot t.depth t.memory t.root page.base (level_of page.size - 1) next
    below_root = record {
      tree = table.tree;
      all_reached = table.reached;
      filled = table.filled;
      faultless = faultless table;
      canonical = good.canonical;
      some = omega (arith, not_lowest);
      below = omega (arith, own_level, descent.below, not_lowest);
      aligned = let e : 12 + 9 * (level_of page.size - 1) ≡ 3 + 9 * level_of page.size = omega (arith, not_lowest) in
          subst (λ n. page.base % 2 ^ n ≡ 0) (sym e) good.aligned;
      reached = table_below (levels t.depth) t.root t.memory level (level_of page.size - 1) page.base (slice_index path level)
          (omega (arith, own_level, not_lowest)) (descent.reached level (omega arith) descent.below) ∙ ap table_in descent.is;
    }

    pub table_overlaps : {base : ℕ} → IsLeastBase t.depth t.memory t.root page.base (level_of page.size - 1) base
        → IsTableStep t (Map page) (answers.Overlap base) t
    table_overlaps {base} first = stays table tt (λ space of.
        let inside = (path_covers t.depth page good base first.canonical (λ i from to. first.same_path i (omega (arith, from, not_lowest)) to)).0 in
        let leaf = leaf_page table.tree of base first.leaf.level first.leaf.number first.leaf.phys first.leaf.own first.canonical first.leaf.some
        first.leaf.reached first.leaf.found in
        let same : level_of leaf.0.size ≡ first.leaf.level = leaf.1.level_is in
        let aligned : base % bytes_of leaf.0.size ≡ 0 = ap (λ l. base % entry_bytes l) same ∙ first.leaf.begins in
        let begins : leaf.0.base ≡ base = omega (arith, leaf.1.base, aligned) in
        let here : page_at space leaf.0.base ≡ Some leaf.0 = ap (page_at space) begins ∙ leaf.1.here in
        map_overlaps t.depth t.limit space page base
        (overlapped_least of.is_space page leaf.0 here (subst (λ b. IsTrue (covers page b)) (sym begins) inside)
        (λ a low high.
        let spans = (covers_means page base).0 inside in
        let covered = (covers_means page a).1 (low, omega (arith, high, begins, spans.1)) in
        let is_a = covered_canonical (2 ^ 51) t.depth page a good covered in
        nothing_at of a is_a (first.before a is_a low (omega (arith, high, begins))))
        ∙ ap Some begins))

  -- ---- an absent entry: nothing is overlapped

  module _ (descent : IsDescent t.depth t.memory t.root page.base (level_of page.size) level path entry.Absent) where
    nothing : NothingUnder t.depth t.memory t.root level page.base
    nothing = let here = met descent in absent_under t.depth table.tree page.base level (slice_index path level) here.some here.at here.found

    module _ {space : Space} (of : IsSpaceOf t space) where
      none_there : (a : ℕ) → IsTrue (covers page a) → page_at space a ≡ None
      none_there a covered =
          let is_a = covered_canonical (2 ^ 51) t.depth page a good covered in
          nothing_at of.is_of a is_a (nothing a is_a (λ i from to. covers_path t.depth page good a covered i (omega (arith, from, descent.above)) to))

      none_overlapped : least_overlapped space page ≡ None
      none_overlapped = overlapped_none of.is_of.is_space page none_there

      absent_base : (q : Page) → Holds space q → q.base ≢ page.base
      absent_base q held same =
          let there = (page_at_means of.is_of.is_space q.base q).1 (held, covers_base q) in
          let none = none_there q.base (subst (λ a. IsTrue (covers page a)) (sym same) (covers_base page)) in
          cc

      is_with : IsSpace t.depth (finite.insert space page.base page)
      is_with = insert_space of.is_of.is_space page good (λ q a h differs c d. alone of.is_of.is_space page none_overlapped q a h c d)

      need_is : table_count t.depth (finite.insert space page.base page) ≡ finite.len t.memory + (level - level_of page.size)
      need_is =
          let added = count_added of.is_of page level good is_with absent_base (none_there page.base (covers_base page)) descent.above descent.below nothing
          (λ j over le empty.
          let up : suc (j - 1) ≡ j = omega (arith, over) in
          table.filled.filled (j - 1) page.base _ (omega (arith, over, le)) (descent.reached (j - 1) (omega (arith, over)) (omega (arith, le)))
          (subst (λ i. NothingUnder t.depth t.memory t.root i page.base) (sym up) empty)) in
          omega (arith, added, of.counted)

    pub full_step : {need : ℕ} → need ≡ finite.len t.memory + (level - level_of page.size) → t.limit < need → IsTableStep t (Map page) (answers.Full need) t
    full_step is_need above = stays table tt (λ space is.
        let of = space_of table is in
        map_is_full t.depth t.limit space page (none_overlapped of) (omega (arith, need_is of, is_need, above))
        ∙ ap (λ n. let s : Stepped = record { space = space; answer = answers.Full n } in s) (need_is of ∙ sym is_need))

    is_open : IsOpen t.depth t.memory t.root page.base level (slice_index path level)
    is_open = record {
      tree = table.tree;
      filled = but_none page.base table.filled;
      all_reached = table.reached;
      below = descent.below;
      reached = descent.reached level (omega arith) descent.below;
      absent = descent.is;
    }

    -- the leaf is written in the last table
    module _ {m' : Memory} {number : ℕ} (extended : IsExtended t.memory m' page.base (slice_index path level) level (level_of page.size) number)
        (whole : AreWhole m') {w : ℕ} (leads : meaning (level_of page.size) w ≡ entry.Leaf page.phys page.rights)
        (is_word : w ≡ leaf_word page.size page.phys page.rights) where
      opened : IsOpen t.depth m' t.root page.base (level_of page.size) number
      opened = extended.open_at t.depth t.root is_open

      here : IsTreeAt (levels t.depth) m' t.root (level_of page.size) page.base number
      here = record { tree = opened.tree; whole = whole; at = opened.reached }

      ends : table_in (Some (meaning (level_of page.size) w)) ≡ None
      ends = ap (λ e. table_in (Some e)) leads

      abbrev new : PageTable
      new = record t { memory = with_word m' number (index_at (level_of page.size) page.base) w }

      walk_on : (b : ℕ) → SamePath (levels t.depth) (level_of page.size) page.base b
          → walk_in new b ≡ Mapped (page.phys + b % bytes_of page.size) (size_at (level_of page.size)) page.rights
      walk_on b same = walk_to_leaf here w leads (level_some page.size) b same

      module _ {limit : ℕ} (room : finite.len t.memory + (level - level_of page.size) ≤ limit) where
        module _ {space : Space} (of : IsSpaceOf t space) where
          abbrev after : Space
          after = (step t.depth limit space (Map page)).space

          done : step t.depth limit space (Map page) ≡ record { space = finite.insert space page.base page; answer = answers.Done }
          done = map_is_done t.depth limit space page (none_overlapped of) (omega (arith, need_is of, room))

          answer_is : (step t.depth limit space (Map page)).answer ≡ answers.Done
          answer_is = ap (λ (s : Stepped). s.answer) done

          inside_is : (b : ℕ) → IsCanonical t.depth b → SamePath (levels t.depth) (level_of page.size) page.base b → walk_in new b ≡ as_walk (as_in page b)
          inside_is b is_b same =
              let at = (path_covers t.depth page good b is_b same).1 in
              let offset : page.phys + b % bytes_of page.size ≡ page.phys + (b - page.base) = omega (arith, at) in
              walk_on b same ∙ ap (λ p. Mapped p (size_at (level_of page.size)) page.rights) offset
              ∙ ap (λ z. Mapped (page.phys + (b - page.base)) z page.rights) (size_same page.size)

          space_is : IsSpaceOf new after
          space_is = record {
            is_of = record {
              is_space = step_space limit of.is_of.is_space (Map page) good;
              translates = translates_changed new.memory of.is_of good (done_looks limit of.is_of.is_space page good answer_is) inside_is
                  (λ b is_b apart. walk_off_path here w b apart ∙ extended.walks t.depth t.root is_open b);
            };
            counted =
                let count : table_count t.depth after ≡ table_count t.depth (finite.insert space page.base page) =
                ap (λ (s : Stepped). table_count t.depth s.space) done in
                omega (arith, len_write here w, extended.more, need_is of, count);
          }

        table_new : IsPageTable new
        table_new = record {
          tree = tree_write here w ends;
          filled = filled_by (but_write opened.filled here w ends) good.canonical
              (λ none. let walked = walk_on page.base (λ i from to. refl) in cc);
          reached = reached_write here w (ap table_in opened.absent)
              (written_leaf (level_of page.size) w page.phys page.rights (level_some page.size) leads
              (leaf_at_level page.size w page.phys page.rights is_word))
              opened.all_reached;
          whole = whole_write here w;
          root_fits = table.root_fits;
          some_space = ((step t.depth limit table.some_space.0 (Map page)).space, space_is table.some_space.1);
        }

      plain_word : flags_in w ≡ 0
      plain_word = plain_leaf (level_of page.size) w page.phys page.rights (level_some page.size) leads
          (leaf_at_level page.size w page.phys page.rights is_word)

      zero_here : word_at m' number (index_at (level_of page.size) page.base) ≡ Some 0
      zero_here = absent_word (level_of page.size) m' number page.base
          (written_at opened.tree opened.all_reached (level_of page.size) page.base number opened.reached) opened.absent refl

      -- as the code has it: the entry at this index
      pub mapped : {index : ℕ} → index ≡ index_at (level_of page.size) page.base → finite.len t.memory + (level - level_of page.size) ≤ t.limit
          → IsPageTable (record t { memory = with_word m' number index w })
          × IsTableStep t (Map page) answers.Done (record t { memory = with_word m' number index w })
      mapped is_index room = subst (λ i. IsPageTable (record t { memory = with_word m' number i w })
          × IsTableStep t (Map page) answers.Done (record t { memory = with_word m' number i w })) (sym is_index) (
            table_new room,
            record {
              some_space = own_space table;
              same = refl;
              unchanged = λ refused. absurd (cc);
              kept = more_then (extended.adds t.depth t.root is_open) (more_filled t.depth here zero_here w);
              plain = adds_then extended.plain
                  (adds_written m' number (index_at (level_of page.size) page.base) w whole (used_at here) (omega arith) plain_word);
              cleared = tt;
              steps = λ space is. let of = space_of table is in (sym (answer_is room of), (space_is room of).is_of);
            },
          )
