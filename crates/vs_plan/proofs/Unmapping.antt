-- The plan of an unmap is right: the page's entry becomes 0, and then the links to tables that are emptied, from the lowest up.
use Rattle.std.proofs.Common.{◌≡◌, ◌≢◌, ℕ, true, false, le_trans, zero, suc, ◌+◌, ◌-◌, ◌%◌, ◌<◌, ◌≤◌, [], ◌∷◌, take, All, Some, inl, ⊎_elim, refl, sym, ap}
use Rattle.std.proofs.Common.{subst, ◌∙◌, arith, None}
use Rattle.std.specs.Prelude.{slice_index, if◌then◌else◌, Bool, min, nat_eq}
use Rattle.std.proofs.lemmas.List.Elements.{All-cons, All-contains}
use Rattle.std.proofs.lemmas.Bool.{cases_eq, cases_lt}
use Rattle.std.specs.FinMap as finite
use Rattle.std.proofs.lemmas.Option.{same_Some}
use Rattle.vs_types.specs.Depth.{levels, index_at}
use Rattle.vs_types.specs.Entry.{meaning, size_at}
use Rattle.vs_types.specs.Page.{bytes_of, intersection}
use Rattle.vs_types.specs.Space.{Space}
use Rattle.vs_types.specs.Step.{step}
use Rattle.vs_types.specs.declared.requests.op.Action.TheVariants as actions
use Rattle.vs_types.specs.declared.addresses.page.Page.{Page}
use Rattle.vs_types.specs.declared.addresses.page.Rights.{Rights}
use Rattle.vs_types.specs.declared.addresses.page.Size.{Size}
use Rattle.vs_types.specs.declared.entries.entry.Meaning.TheVariants as entry
use Rattle.vs_types.specs.declared.requests.answer.Answer.TheVariants as answers
use Rattle.vs_arena.specs.Store.{zeros}
use Rattle.vs_walk.specs.Memory.{Memory}
use Rattle.vs_walk.specs.Walk.{TranslatesAs}
use Rattle.vs_space.specs.Held.{word_at}
use Rattle.vs_space.specs.Path.{found_at, table_in, table_at}
use Rattle.vs_space.proofs.Regions.{IsLeafPage}
use Rattle.vs_space.proofs.Paths.{table_before}
use Rattle.vs_space.proofs.Writes.{get_written_other}
use Rattle.vs_space.proofs.Footprints.{word_elsewhere}
use Rattle.vs_space.proofs.Written.{word_alike}
use Rattle.vs_space.proofs.LeafSteps.{begins_at, removed_answer, removed_translates}
use Rattle.vs_plan.proofs.Ways.{way_table}
use Rattle.vs_plan.specs.declared.plans.plan.Flush.{Flush}
use Rattle.vs_plan.specs.declared.plans.plan.Flush.TheVariants as flushes
use Rattle.vs_plan.specs.declared.plans.plan.Reply.TheVariants as replies
use Rattle.vs_plan.specs.declared.plans.plan.Store.{Store}
use Rattle.vs_plan.specs.declared.plans.request.Request.TheVariants.{Unmap}
use Rattle.vs_plan.specs.declared.plans.target.Target.{Target}
use Rattle.vs_types.specs.Bits.{bits_in}
use Rattle.vs_plan.specs.Request.{address_of}
use Rattle.vs_plan.specs.Target.{highest_link}
use Rattle.vs_plan.specs.declared.plans.plan.Plan.{Plan}
use Rattle.vs_plan.specs.declared.plans.planner.Planner.{Planner}
use Rattle.vs_plan.specs.inside.Ended.{IsAtEnd, HasEnded, IsRightAt}
use Rattle.vs_plan.specs.Premise.{IsPremise}
use Rattle.vs_plan.specs.Right.{IsMeant, OfPage, OfLink, IsFlushed, IsEntryOf, IsRight, HasWord}
use Rattle.vs_plan.specs.Shown.{IsTableMet, HasOneWord, HasOtherWord}
use Rattle.vs_plan.specs.Stores.{stored, stored_all}
use Rattle.vs_plan.proofs.EntryStores.{IsOwnTable, whole_store, walk_off, walk_here, way_stays, fewer, none_here, own_after, within as own_within}
use Rattle.vs_plan.proofs.Pages.{page_here, premise_table}
use Rattle.vs_plan.proofs.Parts.{words_apart, Parts, safe_first, right_as, EndAt, end_at, own_table}
use Rattle.vs_plan.proofs.Unlinks.{cuts, cut_off, cut_off_apart, word_kept, among_cut_off, cleared, IsUnlinkable, IsOff, AreUnlinked, unlinks}
use Rattle.vs_plan.proofs.Stored.{found_word, even_absent}

-- what is flushed, where this many tables are unlinked
abbrev pub flush_of : ℕ → ℕ → Size → Flush
flush_of zero base size = flushes.Page base size
flush_of (suc count) base size = flushes.PageAndTables base size

pub flush_more : (from level base : ℕ) (size : Size) → from ≤ level → flushes.PageAndTables base size ≡ flush_of (level + 1 - from) base size
flush_more from level base size le =
    let one : level + 1 - from ≡ suc (level - from) = omega arith in
    ap (λ n. flush_of n base size) (sym one)

pub highest_least : (target : Target) → highest_link target ≤ levels target.depth
highest_least target = by (nat_eq target.pinned 0) where
  by : (b : Bool) → (if b then levels target.depth else min (levels target.depth) (target.pinned - 1)) ≤ levels target.depth
  by true = omega arith
  by false = omega arith

-- what was met on the way of a page that begins at the base
pub record IsFoundPage (target : Target) (memory : Memory) (space : Space) (base level number word stop phys : ℕ) (rights own : Rights)
    (numbers words : ℕ → ℕ) : Type 0 where
  pub end : EndAt target memory space level number rights word base
  pub some : 1 ≤ level
  pub leaf : meaning level word ≡ entry.Leaf phys own
  pub begins : base % bytes_of (size_at level) ≡ 0
  pub highest : stop ≤ highest_link target
  pub tables : (j : ℕ) → level ≤ j → j ≤ levels target.depth → IsTableMet target.depth memory target.root base j (numbers j) (words j)
  pub alone : (j : ℕ) → level ≤ j → j < stop → HasOneWord memory (numbers j) (index_at j base)
  pub busy : stop < highest_link target → (level ≤ stop) × HasOtherWord memory (numbers stop) (index_at stop base)

module _ {target : Target} {memory : Memory} {space : Space} {base level number word stop phys : ℕ} {rights own : Rights} {numbers words : ℕ → ℕ}
    (is : IsFoundPage target memory space base level number word stop phys rights own numbers words) where
  abbrev count : ℕ
  count = stop - level

  abbrev first : Store
  first = record { frame = number; index = index_at level base; old = word; new = 0 }

  abbrev between : Memory
  between = stored memory first

  abbrev after : Memory
  after = stored_all between (cuts numbers words base level count)

  reached : table_at (levels target.depth) memory target.root level base ≡ Some number
  reached = way_table level number rights is.end.way

  here : IsOwnTable target.depth memory target.root level base number
  here = own_table is.end

  highest : stop ≤ levels target.depth
  highest = le_trans is.highest (highest_least target)

  met : (j : ℕ) → level ≤ j → j ≤ levels target.depth → table_at (levels target.depth) memory target.root j base ≡ Some (numbers j)
  met j le high = let table = is.tables j le high in way_table j (numbers j) table.rights table.way

  within : level ≤ levels target.depth
  within = own_within here

  same_number : numbers level ≡ number
  same_number = same_Some (numbers level) number (sym (met level (omega arith) within) ∙ reached)

  -- tables above are other frames
  above_frame : (j : ℕ) → level < j → j ≤ levels target.depth → finite.get between (numbers j) ≡ finite.get memory (numbers j)
  above_frame j lt high = get_written_other memory number (index_at level base) 0 (numbers j) (λ same.
      let at = (is.end.premise.own.once level number j base reached (met j (omega arith) high ∙ ap Some same)).0 in
      absurd (omega arith))

  unlinkable : IsUnlinkable target.depth between target.root base numbers words level (level + count)
  unlinkable = record {
    whole = whole_store here 0;
    own = own_after here 0 refl base is.end.premise.own;
    some = is.some;
    highest = omega (arith, within, highest);
    clear = λ low. subst (λ n. finite.get between n ≡ Some zeros) (sym same_number)
        (cleared memory number (index_at level base) is.end.premise.whole here.used (omega arith)
        (subst (λ n. HasOneWord memory n (index_at level base)) same_number (is.alone level (omega arith) (omega arith))));
    ways = λ j le high. let table = is.tables j le high in (table.rights, way_stays here 0 base j (numbers j) table.rights le table.way);
    told = λ j lt high.
        let table = is.tables j (omega arith) high in
        word_alike memory between (numbers j) (index_at j base) (above_frame j lt high) ∙ table.word_is;
    alone = λ j lt low i few other.
        word_alike memory between (numbers j) i (above_frame j lt (omega (arith, highest, low)))
        ∙ is.alone j (omega arith) (omega (arith, low)) i few other;
  }

  cut : AreUnlinked target.depth between target.root base level (level + count) (cuts numbers words base level count) (cut_off numbers level count)
  cut = unlinks target.depth target.root base numbers words (level + count) count level between refl unlinkable

  -- ---- the tables that stay

  levels_same : (i j : ℕ) → level ≤ i → i ≤ levels target.depth → level ≤ j → j ≤ levels target.depth → numbers i ≡ numbers j → i ≡ j
  levels_same i j from_i to_i from_j to_j same =
      sym (is.end.premise.own.once i (numbers i) j base (met i from_i to_i) (met j from_j to_j ∙ ap Some (sym same))).0

  -- a word that none of the stores names
  word_stays : (l i : ℕ) → level ≤ l → l ≤ levels target.depth → ((j : ℕ) → level ≤ j → j ≤ level + count → l ≡ j → i ≢ index_at j base)
      → word_at after (numbers l) i ≡ word_at memory (numbers l) i
  word_stays l i from to apart =
      word_kept target.depth target.root base numbers words (level + count) count level (numbers l) i between refl unlinkable
      (λ j lt le same. apart j (omega arith) le (levels_same l j from to (omega arith) (omega (arith, le, within, highest)) same))
      ∙ word_elsewhere memory number (index_at level base) 0 (numbers l) i here.used
      (λ same. apart level (omega arith) (omega arith) (levels_same l level from to (omega arith) within (same ∙ sym same_number)))

  -- the table that was met last and stays has another word
  busy_word : stop < highest_link target → HasWord after (numbers stop)
  busy_word lower =
      let busy = is.busy lower in
      record {
        index = busy.1.other;
        word = busy.1.word;
        there = word_stays stop busy.1.other busy.0 highest (λ j le high same e. busy.1.apart (e ∙ ap (λ l. index_at l base) (sym same))) ∙ busy.1.there;
        some = busy.1.some;
      }

  -- those above lead to the next
  leading_word : (l : ℕ) → level < l → l ≤ levels target.depth → level + count < l → HasWord after (numbers l)
  leading_word l over to past =
      let table = is.tables l (omega arith) to in
      record {
        index = index_at l base;
        word = words l;
        there = word_stays l (index_at l base) (omega arith) to (λ j le high same. absurd (omega arith)) ∙ table.word_is;
        some = λ nothing. leads (l - 1) (omega arith) nothing;
      }
    where
      leads : (below : ℕ) → l ≡ suc below → words l ≡ 0 → ⊥
      leads below one nothing =
          let before = table_before (levels target.depth) target.root memory below base (numbers below) (omega arith)
          (met below (omega arith) (omega arith)) in
          let same : before.0 ≡ numbers l = same_Some before.0 (numbers l)
          (sym before.2 ∙ ap (λ k. table_at (levels target.depth) memory target.root k base) (sym one)
          ∙ met l (omega arith) to) in
          let found : found_at l memory (numbers l) base ≡ Some (entry.Table (numbers below) before.1) =
          subst (λ k. found_at k memory (numbers l) base ≡ Some (entry.Table (numbers below) before.1)) (sym one)
          (subst (λ n. found_at (suc below) memory n base ≡ Some (entry.Table (numbers below) before.1)) same before.3) in
          let absent : found_at l memory (numbers l) base ≡ Some entry.Absent =
          found_word l memory (numbers l) base (words l) (is.tables l (omega arith) to).word_is
          ∙ ap (λ w. Some (meaning l w)) nothing ∙ ap Some (even_absent l 0 refl) in
          cc

  pruned : (l n : ℕ) → l < highest_link target → table_at (levels target.depth) after target.root l base ≡ Some n → HasWord after n
  pruned l n lower r =
      let first_left = cut.fewer base l n r in
      let to : l ≤ levels target.depth = omega (arith, highest_least target, lower) in
      ⊎_elim
      (λ (under : l < level). let none = none_here here 0 refl base l under (λ i from to. refl) in absurd (cc))
      (λ (from : level ≤ l).
      let same : n ≡ numbers l = same_Some n (numbers l) (sym (fewer here 0 refl base l n first_left) ∙ met l from to) in
      ⊎_elim
      (λ (gone : l < stop).
      let off = All-contains (IsOff target.depth between after target.root base) (cut_off numbers level count) (numbers l) cut.off
      (among_cut_off numbers count level l from (omega arith)) in
      absurd (off.unreached l base (r ∙ ap Some same)))
      (λ (stays : stop ≤ l).
      let busy = (is.busy (omega arith)).0 in
      ⊎_elim
      (λ (at : l ≡ stop). subst (HasWord after) (sym (same ∙ ap numbers at)) (busy_word (omega arith)))
      (λ (past : l ≢ stop). subst (HasWord after) (sym same) (leading_word l (omega arith) to (omega arith)))
      (cases_eq l stop))
      (cases_lt l stop))
      (cases_lt l level)

  -- ---- the space

  found : (q : Page) × IsLeafPage target.depth space base level phys (intersection rights own) q
  found = page_here is.end.way is.some is.end.word_is is.end.premise is.end.canonical is.leaf

  abbrev next : Space
  next = (step target.depth 0 space (actions.Unmap base)).space

  translates : (n : ℕ) → TranslatesAs target.depth (stored_all between (take n (cuts numbers words base level count))) target.root next
  translates n = removed_translates 0 (premise_table is.end.premise) found.1 (begins_at found.1 is.begins)
      (stored_all between (take n (cuts numbers words base level count)))
      (λ b canonical same. cut.walks n b ∙ walk_here here 0 is.end.way is.some entry.Absent refl b same)
      (λ b canonical apart. cut.walks n b ∙ walk_off here 0 b apart)

  -- ---- the plan

  size_entry : IsEntryOf target memory base (size_at level) word
  size_entry = record { level = level; number = number; reached = reached; word_is = is.end.word_is; leaf = (phys, own, is.leaf); size_is = refl }

  flushed : (n : ℕ) → IsFlushed target memory (Unmap base) (first ∷ cuts numbers words base level n) (cut_off numbers level n) (flush_of n base (size_at level))
  flushed zero = (size_at level, size_entry, refl)
  flushed (suc n) = (size_at level, size_entry, refl)

  first_meant : IsMeant target memory base (cut_off numbers level count) first
  first_meant = OfPage (record { level = level; reached = reached; index = refl }) (ap (λ e. table_in (Some e)) is.leaf)

  cuts_meant : All (IsMeant target memory base (cut_off numbers level count)) (cuts numbers words base level count)
  cuts_meant = λ k d lt. let c = cut.cut k d lt in OfLink (record { level = c.level; reached = fewer here 0 refl base c.level _ c.at; index = c.index })
      c.below c.leads c.named (omega (arith, c.over, c.upto, is.highest)) c.new

  pub unmap_parts : Parts target (Unmap base) memory space [] (replies.Answer (answers.Removed phys (size_at level) (intersection rights own)))
      (bits_in (size_at level) word) None (first ∷ cuts numbers words base level count) (flush_of count base (size_at level)) (cut_off numbers level count)
  unfolding size_entry
  unmap_parts = record {
    reply = sym (removed_answer 0 (premise_table is.end.premise) found.1 (begins_at found.1 is.begins));
    due = refl;
    put = (refl, record { size = size_at level; entry_is = size_entry; frame = refl; at = refl });
    fits = tt;
    safe = safe_first first (cuts numbers words base level count) is.end.premise.translates (λ n le. translates n);
    found = (is.end.word_is, cut.found);
    meant = All-cons (IsMeant target memory base (cut_off numbers level count)) first (cuts numbers words base level count) first_meant cuts_meant;
    nothing = λ unchanged. absurd (unchanged (λ no. cc));
    written = refl;
    already = tt;
    changing = All-cons (λ (t : Store). t.old ≢ t.new) first (cuts numbers words base level count)
        (words_apart level word 0 (λ same. let both : entry.Leaf phys own ≡ entry.Absent = sym is.leaf ∙ same ∙ even_absent level 0 refl in cc))
        (λ k d lt same.
        let c = cut.cut k d lt in
        let both = sym c.leads ∙ ap (λ w. table_in (Some (meaning c.level w))) (same ∙ c.new) ∙ ap (λ e. table_in (Some e)) (even_absent c.level 0 refl) in
        cc);
    one_way = All-cons (λ (t : Store). t.new ≡ 0) first (cuts numbers words base level count) refl (λ k d lt. (cut.cut k d lt).new);
    told = (word, size_entry, refl);
    flushed = flushed count;
    unlinked = λ k d lt. let off = cut.off k d lt in record {
      level = off.level;
      was = fewer here 0 refl base off.level _ off.was;
      lower = off.lower;
      clear = off.clear;
      unreached = off.unreached;
    };
    pruned = pruned;
    named_once = cut_off_apart target.depth target.root base numbers memory (levels target.depth) is.end.premise.own count level
        (omega (arith, within, highest)) (λ j le high. met j le high);
    whole = cut.whole;
    own = λ a has. cut.owns a (own_after here 0 refl a has);
    reaches = λ l b q at. inl (fewer here 0 refl b l q (cut.fewer b l q at));
  }

module _ {p : Planner} {word : ℕ} (end : IsAtEnd p) {phys base : ℕ} {own : Rights} (says : meaning p.level word ≡ entry.Leaf phys own)
    (is : p.request ≡ Unmap base) (aligned : base % bytes_of (size_at p.level) ≡ 0) where
  found_page : {memory : Memory} {space : Space} → HasEnded memory p word
      → IsPremise p.target.depth memory p.target.root (address_of p.request) space
      → IsFoundPage p.target memory space base p.level p.number word p.stop phys p.rights own (slice_index p.numbers) (slice_index p.words)
  found_page {memory} {space} ended premise =
      let place : address_of p.request ≡ base = ap address_of is in
      record {
        end = end_at end ended premise place;
        some = end.some;
        leaf = says;
        begins = aligned;
        highest = ended.met.stop;
        tables = λ j le high. subst (λ a. IsTableMet p.target.depth memory p.target.root a j (slice_index p.numbers j) (slice_index p.words j)) place
            (ended.met.tables j le high);
        alone = λ j le low. subst (λ a. HasOneWord memory (slice_index p.numbers j) (index_at j a)) place (ended.met.alone j le low);
        busy = λ low. let busy = ended.met.busy base is low in
            (busy.0, subst (λ a. HasOtherWord memory (slice_index p.numbers p.stop) (index_at p.stop a)) place busy.1);
      }

  pub unmap_right : (plan : Plan) (count : ℕ) → count ≡ p.stop - p.level
      → plan.reply ≡ replies.Answer (answers.Removed phys (size_at p.level) (intersection p.rights own))
      → plan.bits ≡ bits_in (size_at p.level) word → plan.fill ≡ None
      → plan.stores.items ≡ (let s : Store = record { frame = p.number; index = index_at p.level base; old = word; new = 0 } in s)
      ∷ cuts (slice_index p.numbers) (slice_index p.words) base p.level count
      → plan.flush ≡ flush_of count base (size_at p.level) → plan.unlinked.items ≡ cut_off (slice_index p.numbers) p.level count → IsRightAt p word plan
  unmap_right plan many all reply bits fill stores flush unlinked memory ended space premise =
      subst (λ r. IsRight p.target r memory space [] plan) (sym is)
      (right_as plan reply bits fill
      (stores ∙ ap (λ n. (let s : Store = record { frame = p.number; index = index_at p.level base; old = word; new = 0 } in s)
      ∷ cuts (slice_index p.numbers) (slice_index p.words) base p.level n) all)
      (flush ∙ ap (λ n. flush_of n base (size_at p.level)) all)
      (unlinked ∙ ap (cut_off (slice_index p.numbers) p.level) all)
      (unmap_parts (found_page ended premise)))
