-- A plan that puts one page in the place of those of a table, wherever they lie.
use Rattle.std.proofs.Common.{◌≡◌, ◌≢◌, ℕ, zero, suc, ◌+◌, ◌-◌, ◌%◌, ◌^◌, ◌<◌, ◌≤◌, List, [], ◌∷◌, Bool, true, false, Some, None, ◌⊎◌, inl, inr, ⊎_elim}
use Rattle.std.proofs.Common.{refl, sym, ap, subst, ◌∙◌, arith}
use Rattle.std.proofs.lemmas.List.Elements.{All-nil, All-cons}
use Rattle.std.specs.Prelude.{slice_index, not, ◌==◌, ◌&&◌, nat_lt, min, if◌then◌else◌}
use Rattle.std.specs.FinMap as finite
use Rattle.std.proofs.lemmas.Option.{same_Some}
use Rattle.vs_types.specs.Depth.{levels, entry_bytes, index_at}
use Rattle.vs_types.specs.Entry.{meaning, size_at}
use Rattle.vs_types.specs.Laws.{changes}
use Rattle.vs_types.specs.Page.{level_of, bytes_of, intersection, IsPage}
use Rattle.vs_types.specs.Space.{Space}
use Rattle.vs_types.specs.Step.{Stepped}
use Rattle.vs_types.specs.declared.addresses.depth.Depth.{Depth}
use Rattle.vs_types.specs.declared.addresses.depth.Depth.TheVariants.{Four, Five}
use Rattle.vs_types.specs.declared.addresses.page.Page.{Page}
use Rattle.vs_types.specs.declared.addresses.page.Rights.{Rights}
use Rattle.vs_types.specs.declared.addresses.page.Size.{Size}
use Rattle.vs_types.specs.declared.addresses.page.Size.TheVariants.{K4, M2, G1}
use Rattle.vs_types.specs.declared.entries.entry.Meaning.TheVariants as entry
use Rattle.vs_types.specs.declared.requests.answer.Answer.TheVariants as answers
use Rattle.vs_types.proofs.Lists.{Contains-head}
use Rattle.vs_types.proofs.Pages.{same_page}
use Rattle.vs_walk.specs.Memory.{Memory}
use Rattle.vs_walk.specs.Walk.{walk, TranslatesAs}
use Rattle.vs_walk.specs.declared.walk.Walk.TheVariants.{Mapped}
use Rattle.vs_space.specs.Held.{word_at}
use Rattle.vs_space.specs.Path.{table_at, table_in, SamePath}
use Rattle.vs_space.proofs.LeafSteps.{begins_at}
use Rattle.vs_space.proofs.Prunes.{word_in}
use Rattle.vs_space.proofs.Regions.{IsLeafPage, level_back, path_covers, translates_changed}
use Rattle.vs_space.proofs.Writes.{get_written_other}
use Rattle.vs_plan.specs.declared.plans.plan.Flush.TheVariants as flushes
use Rattle.vs_plan.specs.declared.plans.plan.Plan.{Plan}
use Rattle.vs_plan.specs.declared.plans.plan.Reply.{Reply}
use Rattle.vs_plan.specs.declared.plans.plan.Reply.TheVariants as replies
use Rattle.vs_plan.specs.declared.plans.plan.Store.{Store}
use Rattle.vs_plan.specs.declared.plans.planner.Planner.{Planner}
use Rattle.vs_plan.specs.declared.plans.request.Request.TheVariants.{Collapse}
use Rattle.vs_plan.specs.declared.plans.target.Target.{Target}
use Rattle.vs_types.specs.Bits.{bits_in, page_word, flagged}
use Rattle.vs_plan.specs.Changes.{larger, collapse, collapse_refusal, not_over}
use Rattle.vs_plan.specs.Premise.{IsPremise}
use Rattle.vs_plan.specs.Request.{address_of, stepped, refusal}
use Rattle.vs_plan.specs.Answered.{IsLike, KeepsApart, KeepsTable}
use Rattle.vs_plan.specs.Right.{IsEntryOf, IsMeantBy, IsUnlinkedBy, IsRight}
use Rattle.vs_plan.specs.Shown.{IsTableMet}
use Rattle.vs_plan.specs.Stores.{stored}
use Rattle.vs_plan.specs.Target.{highest_link}
use Rattle.vs_plan.specs.inside.Ended.{IsAtEnd, IsFirstUnlike, IsRightAt, IsRightWith, HasEnded, ChangesNothing}
use Rattle.vs_plan.proofs.Asking.{entry_of}
use Rattle.vs_plan.proofs.Changing.{why_here}
use Rattle.vs_plan.proofs.CollapsedSpace.{MayLie, may_lie, collapse_is, collapsed_looks, over}
use Rattle.vs_plan.proofs.Following.{flagged_are}
use Rattle.vs_plan.proofs.JoinedMemory.{IsLinkedBy, linked_by, unlinked_by}
use Rattle.vs_plan.proofs.JoinedSpace.{bytes_large, in_place, larger_at}
use Rattle.vs_plan.proofs.Joining.{first_index, larger_bytes, small_level}
use Rattle.vs_plan.proofs.Pages.{page_here, premise_table}
use Rattle.vs_plan.proofs.Parts.{Parts, due_as, nothing_as, right_as, nothing_right, rights_right, safe_one, store_at, words_apart, EndAt, end_at}
use Rattle.vs_plan.proofs.Splitting.{are_bits_in}
use Rattle.vs_plan.proofs.Ways.{way_table}
use Rattle.vs_types.proofs.BitWords.{page_reads}
use Rattle.vs_plan.proofs.Stored.{found_word, used_word}
use Rattle.vs_plan.proofs.EntryStores.{IsOwnTable, walk_here, walk_off, whole_store, own_after, fewer}

-- ---- rights

still_allowed : (a l w : Bool) → ((a && l) && w) ≡ w → (a && w) ≡ w
still_allowed true l w is = refl
still_allowed false l w is = is

-- what a link and the entries above it allow, those allow
above_allow : (a l w : Rights) → intersection (intersection a l) w ≡ w → intersection a w ≡ w
above_allow a l w is = λ i. record {
  write = still_allowed a.write l.write w.write (ap (λ (r : Rights). r.write) is) i;
  user = still_allowed a.user l.user w.user (ap (λ (r : Rights). r.user) is) i;
  exec = still_allowed a.exec l.exec w.exec (ap (λ (r : Rights). r.exec) is) i;
}

four_levels : (depth : Depth) → 4 ≤ levels depth
four_levels Four = omega arith
four_levels Five = omega arith

-- ---- refusals

-- a refusal is one of four
over_reply : (base phys bits : ℕ) (size : Size) (reply : Reply) → not_over base phys bits size ≡ Some reply
    → ((reply ≡ replies.Largest) ⊎ (reply ≡ replies.Unaligned)) ⊎ ((reply ≡ replies.PhysUnaligned) ⊎ (reply ≡ replies.PhysRange))
over_reply base phys bits size reply = of_size size where
  by : (a b c : Bool) → (if a then Some replies.Unaligned else if b then Some replies.PhysUnaligned else if c then Some replies.PhysRange else None)
      ≡ Some reply → ((reply ≡ replies.Largest) ⊎ (reply ≡ replies.Unaligned)) ⊎ ((reply ≡ replies.PhysUnaligned) ⊎ (reply ≡ replies.PhysRange))
  by true b c e = inl (inr (cc))
  by false true c e = inr (inl (cc))
  by false false true e = inr (inr (cc))
  by false false false e = absurd (cc)

  of_size : (size : Size) → not_over base phys bits size ≡ Some reply
      → ((reply ≡ replies.Largest) ⊎ (reply ≡ replies.Unaligned)) ⊎ ((reply ≡ replies.PhysUnaligned) ⊎ (reply ≡ replies.PhysRange))
  of_size K4 e = by (not (base % bytes_of M2 == 0)) (not (phys % bytes_of M2 == 0)) (nat_lt (2 ^ min bits 51) (phys + bytes_of M2)) e
  of_size M2 e = by (not (base % bytes_of G1 == 0)) (not (phys % bytes_of G1 == 0)) (nat_lt (2 ^ min bits 51) (phys + bytes_of G1)) e
  of_size G1 e = inl (inl (cc))

module _ (target : Target) {memory : Memory} {space : Space} {base level number word place : ℕ} {given own : Rights}
    (end : EndAt target memory space level number given word base) (some : 1 ≤ level) (says : meaning level word ≡ entry.Leaf place own)
    (starts : base % bytes_of (size_at level) ≡ 0) (phys : ℕ) (rights : Rights) where
  page : (q : Page) × IsLeafPage target.depth space base level place (intersection given own) q
  page = page_here end.way some end.word_is end.premise end.canonical says

  begins : page.0.base ≡ base
  begins = begins_at page.1 starts

  -- what may refuse it
  pub refusal_is : collapse_refusal space base phys target.phys_bits ≡ not_over base phys target.phys_bits (size_at level)
  refusal_is =
      why_here base (λ (q : Page). not_over q.base phys target.phys_bits q.size) page.0 page.1.here begins
      ∙ ap (λ b. not_over b phys target.phys_bits page.0.size) begins
      ∙ ap (not_over base phys target.phys_bits) page.1.size

  pub would_change : (collapse space base phys rights).answer ≡ answers.Changed (intersection given own)
  would_change = ap (λ (s : Stepped). s.answer) (collapse_is space base phys rights page.0 page.1.here begins) ∙ ap answers.Changed page.1.rights

  -- ---- it is refused nothing, and the entries above allow the rights

  module _ (none : not_over base phys target.phys_bits (size_at level) ≡ None) (allows : intersection given rights ≡ rights) where
    may : MayLie base phys (size_at level)
    may = may_lie base phys target.phys_bits (size_at level) none

    few : level ≤ 2
    few = small_level level may.small

    aligned : base % entry_bytes (suc level) ≡ 0
    aligned = sym (ap (λ n. base % n) (larger_bytes level some few)) ∙ may.aligned

    abbrev whole : Page
    whole = record { base = base; size = size_at (suc level); phys = phys; rights = rights }

    own_level : level_of (size_at (suc level)) ≡ suc level
    own_level = level_back (suc level) (omega arith) (omega (arith, few))

    good : IsPage target.depth whole
    good = record {
      canonical = end.canonical;
      aligned = ap (λ n. base % n) (bytes_large level few) ∙ aligned;
      phys_aligned = ap (λ z. phys % bytes_of z) (sym (larger_at level some few)) ∙ may.phys_aligned;
      phys_range = subst (λ z. phys + bytes_of z ≤ 2 ^ 51) (larger_at level some few) may.within;
    }

    collapse_at : collapse space base phys rights ≡ record { space = in_place space whole; answer = answers.Changed (intersection given own) }
    collapse_at =
        let one : ◌≡◌ {A = Page} (over page.0 phys rights) whole =
        same_page (over page.0 phys rights) whole begins (ap larger page.1.size ∙ larger_at level some few) refl refl in
        collapse_is space base phys rights page.0 page.1.here begins
        ∙ ap (λ (z : Page). let s : Stepped = record { space = in_place space z; answer = answers.Changed page.0.rights } in s) one
        ∙ ap (λ (r : Rights). let s : Stepped = record { space = in_place space whole; answer = answers.Changed r } in s) page.1.rights

    -- ---- each entry of the table is like the first

    module _ {words : List ℕ} (there : finite.get memory number ≡ Some words)
        (like : (i : ℕ) → i < 512 → IsLike (size_at level) word (slice_index words i))
        {above link : ℕ} (met : IsTableMet target.depth memory target.root base (suc level) above link) where
      reached : table_at (levels target.depth) memory target.root level base ≡ Some number
      reached = way_table level number given end.way

      reached_above : table_at (levels target.depth) memory target.root (suc level) base ≡ Some above
      reached_above = way_table (suc level) above met.rights met.way

      lower : level < levels target.depth
      lower = omega (arith, few, four_levels target.depth)

      -- the link on the way
      last : (above_number : ℕ) × (above_rights : Rights) × (allowed : Rights)
          × IsLinkedBy target.depth memory target.root base level number above_number given above_rights allowed
      last = linked_by level number given end.way lower

      linked : IsLinkedBy target.depth memory target.root base level number above given last.1 last.2
      linked = subst (λ x. IsLinkedBy target.depth memory target.root base level number x given last.1 last.2)
          (same_Some last.0 above (sym (way_table (suc level) last.0 last.1 last.3.way) ∙ reached_above)) last.3

      leads : meaning (suc level) link ≡ entry.Table number last.2
      leads = same_Some (meaning (suc level) link) (entry.Table number last.2)
          (sym (found_word (suc level) memory above base link met.word_is) ∙ linked.found)

      apart : number ≢ above
      apart same =
          let both = (end.premise.own.once level number (suc level) base reached (reached_above ∙ ap Some (sym same))).0 in
          absurd (omega (arith, both))

      abbrev entry_new : ℕ
      entry_new = page_word (record { base = base; size = larger (size_at level); rights = rights; phys = phys })
          (flagged (bits_in (size_at level) word))

      abbrev s : Store
      s = store_at above (index_at (suc level) base) link entry_new

      new_says : meaning (suc level) entry_new ≡ entry.Leaf phys rights
      new_says = subst (λ l. meaning l entry_new ≡ entry.Leaf phys rights)
          (ap level_of (larger_at level some few) ∙ own_level)
          (page_reads (larger (size_at level)) phys (flagged (bits_in (size_at level) word)) rights
          may.phys_aligned (omega (arith, may.within))
          (flagged_are (bits_in (size_at level) word) (are_bits_in (size_at level) word)))

      above_table : IsOwnTable target.depth memory target.root (suc level) base above
      above_table = record {
        own = end.premise.own;
        whole = end.premise.whole;
        used = used_word memory above (index_at (suc level) base) link met.word_is;
        at = reached_above;
      }

      ends : table_in (Some (meaning (suc level) entry_new)) ≡ None
      ends = ap (λ e. table_in (Some e)) new_says

      -- how its addresses are walked then
      walk_over : (b : ℕ) → SamePath (levels target.depth) (suc level) base b
          → walk target.depth (stored memory s) target.root b ≡ Mapped (phys + b % entry_bytes (suc level)) (size_at (suc level)) rights
      walk_over b path =
          walk_here above_table entry_new linked.way (omega arith) (entry.Leaf phys rights) new_says b path
          ∙ ap (Mapped (phys + b % entry_bytes (suc level)) (size_at (suc level)))
          (above_allow last.1 last.2 rights (ap (λ r. intersection r rights) (sym linked.both) ∙ allows))

      translates : TranslatesAs target.depth (stored memory s) target.root (in_place space whole)
      translates =
          let smaller_first : level_of page.0.size < level_of (size_at (suc level)) = omega (arith, page.1.level_is, own_level) in
          translates_changed (stored memory s) (premise_table end.premise) good
          (collapsed_looks end.premise.is_space whole good page.0 page.1.here begins smaller_first)
          (λ b is_b same.
          let at = (path_covers target.depth whole good b is_b same).1 in
          let offset : b % entry_bytes (suc level) ≡ b - base = omega (arith, subst (λ n. base + b % n ≡ b) (bytes_large level few) at) in
          walk_over b (subst (λ l. SamePath (levels target.depth) l base b) own_level same)
          ∙ ap (λ n. Mapped (phys + n) (size_at (suc level)) rights) offset)
          (λ b is_b off. walk_off above_table entry_new b (λ same. off (subst (λ l. SamePath (levels target.depth) l base b) (sym own_level) same)))

      entry_here : IsEntryOf target memory base (size_at level) word
      entry_here = entry_of end.way end.word_is says

      pub collapse_parts : suc level ≤ highest_link target
          → Parts target (Collapse base phys rights) memory space [] (replies.Answer (answers.Changed (intersection given own)))
          (bits_in (size_at level) word) None (s ∷ []) (flushes.Range base (larger (size_at level))) (number ∷ [])
      collapse_parts high = record {
        reply = sym (ap (λ (t : Stepped). t.answer) collapse_at);
        due = refusal_is ∙ none;
        put = (
          refl,
          record {
            level = level;
            number = number;
            first = word;
            place = place;
            own = own;
            allowed = last.2;
            few = omega (arith, few);
            reached = reached;
            first_is = end.word_is;
            says = says;
            aligned = may.aligned;
            phys_aligned = may.phys_aligned;
            alike = λ i low. (slice_index words i, word_in memory number i words there, like i low);
            above = reached_above;
            index_is = refl;
            leads = leads;
            new = refl;
            unlinked_is = refl;
          },
        );
        fits = tt;
        safe = safe_one s end.premise.translates
            (subst (λ (t : Stepped). TranslatesAs target.depth (stored memory s) target.root t.space) (sym collapse_at) translates);
        found = (met.word_is, tt);
        meant = All-cons (IsMeantBy target memory (Collapse base phys rights) (number ∷ [])) s [] (record {
          on = record { level = suc level; reached = reached_above; index = refl };
          below = number;
          leads = ap (λ e. table_in (Some e)) leads;
          named = Contains-head number [];
          may = high;
        }) (All-nil _);
        nothing = λ none. absurd (none (λ e. cc));
        written = refl;
        already = tt;
        changing = All-cons (λ (t : Store). t.old ≢ t.new) s []
            (words_apart (suc level) link entry_new (λ same. let both = sym leads ∙ same ∙ new_says in cc)) (All-nil _);
        one_way = tt;
        told = (size_at level, word, entry_here, refl);
        flushed = (size_at level, word, entry_here, refl);
        unlinked = All-cons (IsUnlinkedBy target memory (stored memory s) (Collapse base phys rights)) number [] (record {
          level = level;
          was = reached;
          lower = lower;
          same = get_written_other memory above (index_at (suc level) base) entry_new number apart;
          unreached = unlinked_by entry_new above_table end.way ends;
        }) (All-nil _);
        pruned = tt;
        named_once = λ i j d lt within. absurd (omega arith);
        whole = whole_store above_table entry_new;
        own = own_after above_table entry_new ends;
        reaches = λ l b q at. inl (fewer above_table entry_new ends b l q at);
      }

-- ---- as the code has it

few_over : (base phys bits level : ℕ) → not_over base phys bits (size_at level) ≡ None → level ≤ 2
few_over base phys bits level none = small_level level (may_lie base phys bits (size_at level) none).small

-- the first entry is like itself
like_all : (size : Size) (first : ℕ) (words : List ℕ) → slice_index words 0 ≡ first → (i : ℕ)
    → (1 ≤ i → IsLike size first (slice_index words i)) → IsLike size first (slice_index words i)
like_all size first words same zero later = subst (λ w. IsLike size first w) (sym same) refl
like_all size first words same (suc i) later = later (omega arith)

module _ {p : Planner} {word : ℕ} (end : IsAtEnd p) {place : ℕ} {own : Rights} (says : meaning p.level word ≡ entry.Leaf place own) {base phys : ℕ}
    {rights : Rights} (is : p.request ≡ Collapse base phys rights) (starts : base % bytes_of (size_at p.level) ≡ 0) where
  due_by : {memory : Memory} {space : Space} → HasEnded memory p word → IsPremise p.target.depth memory p.target.root (address_of p.request) space
      → refusal p.target space p.request ≡ not_over base phys p.target.phys_bits (size_at p.level)
  due_by {memory} {space} ended premise =
      due_as p.target space is (refusal_is p.target (end_at end ended premise (ap address_of is)) end.some says starts phys rights)

  -- no page can lie there
  pub refused_right : {reply : Reply} → not_over base phys p.target.phys_bits (size_at p.level) ≡ Some reply → (plan : Plan)
      → ChangesNothing reply 0 plan → IsRightAt p word plan
  refused_right {reply} refuses plan none memory ended space premise =
      let due : refusal p.target space p.request ≡ Some reply = due_by ended premise ∙ refuses in
      ⊎_elim
      (λ first. ⊎_elim
      (λ (e : reply ≡ replies.Largest).
      nothing_right premise {reply = replies.Largest} (due ∙ ap Some e) plan (nothing_as none e refl) tt (due ∙ ap Some e) premise.translates refl)
      (λ (e : reply ≡ replies.Unaligned).
      nothing_right premise {reply = replies.Unaligned} (due ∙ ap Some e) plan (nothing_as none e refl) tt (due ∙ ap Some e) premise.translates refl)
      first)
      (λ second. ⊎_elim
      (λ (e : reply ≡ replies.PhysUnaligned).
      nothing_right premise {reply = replies.PhysUnaligned} (due ∙ ap Some e) plan (nothing_as none e refl) tt (due ∙ ap Some e) premise.translates refl)
      (λ (e : reply ≡ replies.PhysRange).
      nothing_right premise {reply = replies.PhysRange} (due ∙ ap Some e) plan (nothing_as none e refl) tt (due ∙ ap Some e) premise.translates refl)
      second)
      (over_reply base phys p.target.phys_bits (size_at p.level) reply refuses)

  module _ (none : not_over base phys p.target.phys_bits (size_at p.level) ≡ None) where
    would : {memory : Memory} {space : Space} → HasEnded memory p word
        → IsPremise p.target.depth memory p.target.root (address_of p.request) space
        → (collapse space base phys rights).answer ≡ answers.Changed (intersection p.rights own)
    would ended premise = would_change p.target (end_at end ended premise (ap address_of is)) end.some says starts phys rights

    is_first : {memory : Memory} {words : List ℕ} → HasEnded memory p word → finite.get memory p.number ≡ Some words → slice_index words 0 ≡ word
    is_first {memory} {words} ended there =
        let fits = may_lie base phys p.target.phys_bits (size_at p.level) none in
        let first : index_at p.level base ≡ 0 = first_index p.level base end.some (few_over base phys p.target.phys_bits p.level none)
        (sym (ap (λ n. base % n) (larger_bytes p.level end.some (few_over base phys p.target.phys_bits p.level none))) ∙ fits.aligned) in
        same_Some (slice_index words 0) word
        (sym (word_in memory p.number 0 words there) ∙ ap (word_at memory p.number) (sym first)
        ∙ subst (λ r. word_at memory p.number (index_at p.level (address_of r)) ≡ Some word) is ended.word_is)

    -- the entries above allow less
    pub less_right : intersection p.rights rights ≢ rights → (plan : Plan) → ChangesNothing replies.Rights 0 plan → IsRightAt p word plan
    less_right less plan nothing memory ended space premise =
        rights_right is (λ m allows. allows) less ended premise (due_by ended premise ∙ none) (ap changes (would ended premise)) plan nothing

    -- the table stays
    pub pinned_right : highest_link p.target ≤ p.level → (plan : Plan) → ChangesNothing replies.Pinned 0 plan → IsRightAt p word plan
    pinned_right stays plan nothing memory ended space premise =
        let here = end_at end ended premise (ap address_of is) in
        nothing_right premise {reply = replies.Pinned} (due_by ended premise ∙ none) plan nothing tt (
          subst (λ r. KeepsTable p.target memory r) (sym is) (record {
            level = p.level;
            number = p.number;
            first = word;
            reached = way_table p.level p.number p.rights here.way;
            first_is = here.word_is;
            leaf = (place, own, says);
            stays = stays;
          }),
          ap (λ r. changes (stepped p.target.depth space r).answer) is ∙ ap changes (would ended premise),
        )
        premise.translates refl

    -- an entry isn't like the first
    pub unlike_right : (words : List ℕ) (index : ℕ) → IsFirstUnlike word words (size_at p.level) index → (plan : Plan)
        → ChangesNothing (replies.Apart index) 0 plan → IsRightWith p word words plan
    unlike_right words index found plan nothing memory ended there space premise =
        let here = end_at end ended premise (ap address_of is) in
        let one = is_first ended there in
        nothing_right premise {reply = replies.Apart index} (due_by ended premise ∙ none) plan nothing tt (
          subst (λ r. KeepsApart p.target memory r index) (sym is) (record {
            level = p.level;
            number = p.number;
            first = word;
            word = slice_index words index;
            reached = way_table p.level p.number p.rights here.way;
            first_is = here.word_is;
            leaf = (place, own, says);
            within = found.within;
            word_is = word_in memory p.number index words there;
            unlike = found.unlike;
            before = λ i low. (
              slice_index words i,
              word_in memory p.number i words there,
              like_all (size_at p.level) word words one i (λ later. found.before i later low),
            );
          }),
          ap (λ r. changes (stepped p.target.depth space r).answer) is ∙ ap changes (would ended premise),
        )
        premise.translates refl

    -- each entry is like the first
    pub collapse_right : intersection p.rights rights ≡ rights → p.level < highest_link p.target → (words : List ℕ)
        → ((i : ℕ) → 1 ≤ i → i < 512 → IsLike (size_at p.level) word (slice_index words i))
        → {answer : Rights} → answer ≡ intersection p.rights own → {bits : ℕ} → bits ≡ bits_in (size_at p.level) word
        → {above : ℕ} → above ≡ suc p.level → {plan : Plan} → plan.reply ≡ replies.Answer (answers.Changed answer) → plan.bits ≡ bits
        → plan.fill ≡ None
        → plan.stores.items ≡ store_at (slice_index p.numbers above) (index_at above base) (slice_index p.words above)
        (page_word (record { base = base; size = larger (size_at p.level); rights = rights; phys = phys }) (flagged (bits_in (size_at p.level) word))) ∷ []
        → plan.flush ≡ flushes.Range base (larger (size_at p.level)) → plan.unlinked.items ≡ p.number ∷ []
        → IsRightWith p word words plan
    collapse_right allows low words like answer_is bits_are {above} up {plan} reply bits fill stores flush unlinked memory ended there space premise =
        let here = end_at end ended premise (ap address_of is) in
        let one = is_first ended there in
        let met = ended.met.tables (suc p.level) (omega arith)
        (omega (arith, (few_over base phys p.target.phys_bits p.level none), four_levels p.target.depth)) in
        let met_here = subst (λ a. IsTableMet p.target.depth memory p.target.root a (suc p.level) (slice_index p.numbers (suc p.level))
        (slice_index p.words (suc p.level))) (ap address_of is) met in
        let like_here : (i : ℕ) → i < 512 → IsLike (size_at p.level) word (slice_index words i) =
        λ i few. like_all (size_at p.level) word words one i (λ later. like i later few) in
        subst (λ r. IsRight p.target r memory space [] plan) (sym is)
        (right_as plan (reply ∙ ap (λ r. replies.Answer (answers.Changed r)) answer_is) (bits ∙ bits_are) fill
        (stores ∙ ap (λ l. store_at (slice_index p.numbers l) (index_at l base) (slice_index p.words l)
        (page_word (record { base = base; size = larger (size_at p.level); rights = rights; phys = phys })
        (flagged (bits_in (size_at p.level) word))) ∷ []) up) flush unlinked
        (collapse_parts p.target here end.some says starts phys rights none allows there like_here met_here (omega (arith, low))))
