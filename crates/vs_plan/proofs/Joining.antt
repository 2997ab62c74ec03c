-- A plan that joins the pages of a table.
use Rattle.std.proofs.Common.{◌≡◌, ◌≢◌, ℕ, zero, suc, ◌+◌, ◌*◌, ◌%◌, ◌<◌, ◌≤◌, List, [], ◌∷◌, Option, Some, None, inl, ⊎_elim}
use Rattle.std.proofs.Common.{refl, sym, ap, subst, ◌∙◌, arith}
use Rattle.std.proofs.lemmas.Bool.{cases_eq, eq-eqb, ne_eqb}
use Rattle.std.proofs.lemmas.List.Elements.{All-nil, All-cons}
use Rattle.std.specs.Prelude.{slice_index}
use Rattle.std.specs.FinMap as finite
use Rattle.std.proofs.lemmas.Option.{same_Some}
use Rattle.vs_types.specs.Depth.{levels, entry_bytes, index_at}
use Rattle.vs_types.specs.Entry.{meaning, size_at}
use Rattle.vs_types.specs.Laws.{changes}
use Rattle.vs_types.specs.Page.{level_of, bytes_of, intersection}
use Rattle.vs_types.specs.Space.{Space}
use Rattle.vs_types.specs.Step.{Stepped}
use Rattle.vs_types.specs.declared.addresses.depth.Depth.{Depth}
use Rattle.vs_types.specs.declared.addresses.depth.Depth.TheVariants.{Four, Five}
use Rattle.vs_types.specs.declared.addresses.page.Page.{Page}
use Rattle.vs_types.specs.declared.addresses.page.Rights.{Rights}
use Rattle.vs_types.specs.declared.addresses.page.Size.{Size}
use Rattle.vs_types.specs.declared.addresses.page.Size.TheVariants.{K4, M2, G1}
use Rattle.vs_types.specs.declared.entries.entry.Meaning.TheVariants as entry
use Rattle.vs_types.specs.declared.requests.answer.Answer.TheVariants as answers
use Rattle.vs_types.proofs.Lists.{Contains-head}
use Rattle.vs_walk.specs.Memory.{Memory}
use Rattle.vs_walk.specs.Walk.{walk, TranslatesAs}
use Rattle.vs_walk.specs.declared.walk.Walk.TheVariants.{Mapped}
use Rattle.vs_walk.proofs.Walks.{leaf_level}
use Rattle.vs_space.specs.Held.{word_at}
use Rattle.vs_space.specs.Path.{table_at, table_in, SamePath}
use Rattle.vs_space.proofs.Prunes.{entry_word, word_in}
use Rattle.vs_space.proofs.Regions.{IsLeafPage, level_back}
use Rattle.vs_space.proofs.Writes.{get_written_other}
use Rattle.vs_plan.specs.declared.plans.plan.Flush.TheVariants as flushes
use Rattle.vs_plan.specs.declared.plans.plan.Plan.{Plan}
use Rattle.vs_plan.specs.declared.plans.plan.Reply.{Reply}
use Rattle.vs_plan.specs.declared.plans.plan.Reply.TheVariants as replies
use Rattle.vs_plan.specs.declared.plans.plan.Store.{Store}
use Rattle.vs_plan.specs.declared.plans.planner.Planner.{Planner}
use Rattle.vs_plan.specs.declared.plans.request.Request.TheVariants.{Join}
use Rattle.vs_plan.specs.declared.plans.target.Target.{Target}
use Rattle.vs_types.specs.Bits.{bits_in, page_word, flagged, unflagged}
use Rattle.vs_plan.specs.Changes.{larger, join, join_refusal, not_first, unaligned}
use Rattle.vs_plan.specs.Premise.{IsPremise}
use Rattle.vs_plan.specs.Request.{address_of, stepped, refusal}
use Rattle.vs_plan.specs.Answered.{Follows, KeepsApart, KeepsTable}
use Rattle.vs_plan.specs.Right.{IsEntryOf, IsMeantBy, IsUnlinkedBy, IsRight}
use Rattle.vs_plan.specs.Shown.{IsTableMet}
use Rattle.vs_plan.specs.Stores.{stored}
use Rattle.vs_plan.specs.Target.{highest_link}
use Rattle.vs_plan.specs.inside.Ended.{IsAtEnd, IsFirstApart, IsRightAt, IsRightWith, IsWholeStore, HasEnded, ChangesNothing}
use Rattle.vs_plan.proofs.Asking.{entry_of}
use Rattle.vs_plan.proofs.Changing.{change_here, why_here}
use Rattle.vs_plan.proofs.Following.{follows_reads, flagged_are}
use Rattle.vs_plan.proofs.JoinedMemory.{IsLinkedBy, linked_by, walk_run, walk_joined, unreached}
use Rattle.vs_plan.proofs.JoinedSpace.{in_place, large, larger_at, join_after, join_is, joined_translates, parts_there, small_walked}
use Rattle.vs_plan.proofs.Pages.{page_here, premise_table}
use Rattle.vs_plan.proofs.Parts.{Parts, due_as, right_as, nothing_right, safe_one, store_at, words_apart, EndAt, end_at}
use Rattle.vs_plan.proofs.Runs.{IsRun}
use Rattle.vs_plan.proofs.Splitting.{are_bits_in}
use Rattle.vs_plan.proofs.Ways.{way_table}
use Rattle.vs_types.proofs.BitWords.{page_reads}
use Rattle.vs_plan.proofs.Stored.{found_word, used_word}
use Rattle.vs_plan.proofs.EntryStores.{IsOwnTable, walk_off, whole_store, own_after, fewer}

-- ---- numbers

-- an aligned base takes the first entry of the table
pub first_index : (level base : ℕ) → 1 ≤ level → level ≤ 2 → base % entry_bytes (suc level) ≡ 0 → index_at level base ≡ 0
first_index zero base some few aligned = absurd (omega (arith, some))
first_index (suc (suc (suc level))) base some few aligned = absurd (omega (arith, few))
first_index _ base some few aligned = omega (arith, aligned)

larger_size : (level : ℕ) → 1 ≤ level → level ≤ 2 → size_at (suc level) ≢ K4
larger_size zero some few e = omega (arith, some)
larger_size (suc level) some few e = by level few e where
  by : (level : ℕ) → suc level ≤ 2 → size_at (suc (suc level)) ≢ K4
  by zero few e = cc
  by (suc zero) few e = cc
  by (suc (suc level)) few e = omega (arith, few)

pub larger_bytes : (level : ℕ) → 1 ≤ level → level ≤ 2 → bytes_of (larger (size_at level)) ≡ entry_bytes (suc level)
larger_bytes level some few = ap bytes_of (larger_at level some few) ∙ ap entry_bytes (level_back (suc level) (omega arith) (omega (arith, few)))

pub small_level : (level : ℕ) → size_at level ≢ G1 → level ≤ 2
small_level (suc (suc (suc level))) small = absurd (small refl)
small_level _ small = omega arith

-- the first entry follows on from itself
follow_all : (size : Size) (first : ℕ) (words : List ℕ) → slice_index words 0 ≡ first → (i : ℕ)
    → (1 ≤ i → Follows size first i (slice_index words i)) → Follows size first i (slice_index words i)
follow_all size first words same zero later =
    let alike : unflagged (slice_index words 0) ≡ unflagged first = ap unflagged same in
    omega (arith, alike)
follow_all size first words same (suc i) later = later (omega arith)

four_levels : (depth : Depth) → 4 ≤ levels depth
four_levels Four = omega arith
four_levels Five = omega arith

-- ---- refusals

unaligned_fits : (base phys : ℕ) (size : Size) → base % bytes_of size ≡ 0 → phys % bytes_of size ≡ 0 → unaligned base phys size ≡ None
unaligned_fits base phys size first second =
    rw (eq-eqb (base % bytes_of size) 0 first) (rw (eq-eqb (phys % bytes_of size) 0 second) refl)

unaligned_cases : (P : Option Reply → Type 0) (base phys : ℕ) (size : Size) → (base % bytes_of size ≢ 0 → P (Some replies.Unaligned))
    → (phys % bytes_of size ≢ 0 → P (Some replies.PhysUnaligned)) → (base % bytes_of size ≡ 0 → phys % bytes_of size ≡ 0 → P None)
    → P (unaligned base phys size)
unaligned_cases P base phys size first second none = ⊎_elim
    (λ (even : base % bytes_of size ≡ 0). ⊎_elim
    (λ (level : phys % bytes_of size ≡ 0). rw (eq-eqb (base % bytes_of size) 0 even) (rw (eq-eqb (phys % bytes_of size) 0 level) (none even level)))
    (λ (odd : phys % bytes_of size ≢ 0). rw (eq-eqb (base % bytes_of size) 0 even) (rw (ne_eqb (phys % bytes_of size) 0 odd) (second odd)))
    (cases_eq (phys % bytes_of size) 0))
    (λ (odd : base % bytes_of size ≢ 0). rw (ne_eqb (base % bytes_of size) 0 odd) (first odd))
    (cases_eq (base % bytes_of size) 0)

-- what the refusal can be
pub first_cases : (P : Option Reply → Type 0) (base phys : ℕ) (size : Size) → P (Some replies.Largest) → P (Some replies.Unaligned)
    → P (Some replies.PhysUnaligned)
    → (size ≢ G1 → base % bytes_of (larger size) ≡ 0 → phys % bytes_of (larger size) ≡ 0 → P None) → P (not_first base phys size)
first_cases P base phys K4 largest first second none = unaligned_cases P base phys M2 (λ odd. first) (λ odd. second) (none (λ e. cc))
first_cases P base phys M2 largest first second none = unaligned_cases P base phys G1 (λ odd. first) (λ odd. second) (none (λ e. cc))
first_cases P base phys G1 largest first second none = largest

-- where there is none
pub record MayJoin (base phys : ℕ) (size : Size) : Type 0 where
  pub small : size ≢ G1
  pub aligned : base % bytes_of (larger size) ≡ 0
  pub phys_aligned : phys % bytes_of (larger size) ≡ 0

pub may_join : (base phys : ℕ) (size : Size) → not_first base phys size ≡ None → MayJoin base phys size
may_join base phys size = first_cases (λ o. o ≡ None → MayJoin base phys size) base phys size (λ e. absurd (cc)) (λ e. absurd (cc)) (λ e. absurd (cc))
    (λ small aligned phys_aligned e. record { small = small; aligned = aligned; phys_aligned = phys_aligned })

pub few_of : (level base phys : ℕ) → not_first base phys (size_at level) ≡ None → level ≤ 2
few_of level base phys first = small_level level (may_join base phys (size_at level) first).small

-- the first page's entry is the first of its table
pub index_first_of : (level base phys : ℕ) → 1 ≤ level → not_first base phys (size_at level) ≡ None → index_at level base ≡ 0
index_first_of level base phys some first =
    let few = few_of level base phys first in
    first_index level base some few (sym (ap (λ n. base % n) (larger_bytes level some few)) ∙ (may_join base phys (size_at level) first).aligned)

module _ (target : Target) {memory : Memory} {space : Space} {base level number word phys : ℕ} {given own : Rights}
    (end : EndAt target memory space level number given word base) (some : 1 ≤ level) (says : meaning level word ≡ entry.Leaf phys own) where
  pub page : (q : Page) × IsLeafPage target.depth space base level phys (intersection given own) q
  page = page_here end.way some end.word_is end.premise end.canonical says

  begins : base % bytes_of (size_at level) ≡ 0 → page.0.base ≡ base
  begins aligned = let offset : base % bytes_of page.0.size ≡ base % bytes_of (size_at level) = ap (λ n. base % n) (ap bytes_of page.1.size) in
      omega (arith, page.1.base, offset, aligned)

  -- what may refuse the join of the page that begins there
  pub refusal_is : base % bytes_of (size_at level) ≡ 0 → join_refusal space base ≡ not_first base phys (size_at level)
  refusal_is aligned =
      why_here base (λ (q : Page). not_first q.base q.phys q.size) page.0 page.1.here (begins aligned)
      ∙ ap (λ b. not_first b page.0.phys page.0.size) (begins aligned)
      ∙ ap (λ n. not_first base n page.0.size) page.1.phys_is
      ∙ ap (not_first base phys) page.1.size

  pub would_join : base % bytes_of (size_at level) ≡ 0 → (join space base).answer ≡ answers.Changed (intersection given own)
  would_join aligned = ap (λ (s : Stepped). s.answer) (change_here space base (join_after space) page.0 page.1.here (begins aligned))
      ∙ ap answers.Changed page.1.rights

  -- ---- the page may be joined with those that follow on

  module _ (starts : base % bytes_of (size_at level) ≡ 0) (may : MayJoin base phys (size_at level)) where
    few : level ≤ 2
    few = small_level level may.small

    aligned : base % entry_bytes (suc level) ≡ 0
    aligned = sym (ap (λ n. base % n) (larger_bytes level some few)) ∙ may.aligned

    phys_aligned : phys % entry_bytes (suc level) ≡ 0
    phys_aligned = sym (ap (λ n. phys % n) (larger_bytes level some few)) ∙ may.phys_aligned

    not_refused : join_refusal space base ≡ None
    not_refused = refusal_is starts ∙ first_fits (size_at level) may where
      first_fits : (size : Size) → MayJoin base phys size → not_first base phys size ≡ None
      first_fits K4 is = unaligned_fits base phys M2 is.aligned is.phys_aligned
      first_fits M2 is = unaligned_fits base phys G1 is.aligned is.phys_aligned
      first_fits G1 is = absurd (is.small refl)

    -- ---- each entry of the table follows on

    module _ {words : List ℕ} (there : finite.get memory number ≡ Some words)
        (follow : (i : ℕ) → i < 512 → Follows (size_at level) word i (slice_index words i)) where
      pub run : IsRun memory level number phys own
      run i low = entry_word level memory number i (slice_index words i) (entry.Leaf (phys + i * entry_bytes level) own) (word_in memory number i words there)
          (sym (follows_reads level word i (slice_index words i) phys own some few says phys_aligned low (follow i low)))

      walks : (b : ℕ) → SamePath (levels target.depth) (suc level) base b
          → walk target.depth memory target.root b ≡ Mapped (phys + b % entry_bytes (suc level)) (size_at level) (intersection given own)
      walks b same = walk_run end.way some phys own run b same

      module _ {above link : ℕ} (met : IsTableMet target.depth memory target.root base (suc level) above link) where
        reached : table_at (levels target.depth) memory target.root level base ≡ Some number
        reached = way_table level number given end.way

        reached_above : table_at (levels target.depth) memory target.root (suc level) base ≡ Some above
        reached_above = way_table (suc level) above met.rights met.way

        lower : level < levels target.depth
        lower = omega (arith, few, four_levels target.depth)

        -- the link on the way
        pub last : (above_number : ℕ) × (above_rights : Rights) × (allowed : Rights)
            × IsLinkedBy target.depth memory target.root base level number above_number given above_rights allowed
        last = linked_by level number given end.way lower

        linked : IsLinkedBy target.depth memory target.root base level number above given last.1 last.2
        linked = subst (λ x. IsLinkedBy target.depth memory target.root base level number x given last.1 last.2)
            (same_Some last.0 above (sym (way_table (suc level) last.0 last.1 last.3.way) ∙ reached_above)) last.3

        pub leads : meaning (suc level) link ≡ entry.Table number last.2
        leads = same_Some (meaning (suc level) link) (entry.Table number last.2)
            (sym (found_word (suc level) memory above base link met.word_is) ∙ linked.found)

        apart : number ≢ above
        apart same =
            let both = (end.premise.own.once level number (suc level) base reached (reached_above ∙ ap Some (sym same))).0 in
            absurd (omega (arith, both))

        abbrev entry_new : ℕ
        entry_new = page_word (record { base = base; size = larger (size_at level); rights = intersection last.2 own; phys = phys })
            (flagged (bits_in (size_at level) word))

        abbrev s : Store
        s = store_at above (index_at (suc level) base) link entry_new

        new_says : meaning (suc level) entry_new ≡ entry.Leaf phys (intersection last.2 own)
        new_says = subst (λ l. meaning l entry_new ≡ entry.Leaf phys (intersection last.2 own))
            (ap level_of (larger_at level some few) ∙ level_back (suc level) (omega arith) (omega (arith, few)))
            (page_reads (larger (size_at level)) phys (flagged (bits_in (size_at level) word)) (intersection last.2 own)
            (ap (λ n. phys % n) (larger_bytes level some few) ∙ phys_aligned) (leaf_level level word phys own says).1
            (flagged_are (bits_in (size_at level) word) (are_bits_in (size_at level) word)))

        above_table : IsOwnTable target.depth memory target.root (suc level) base above
        above_table = record {
          own = end.premise.own;
          whole = end.premise.whole;
          used = used_word memory above (index_at (suc level) base) link met.word_is;
          at = reached_above;
        }

        ends : table_in (Some (meaning (suc level) entry_new)) ≡ None
        ends = ap (λ e. table_in (Some e)) new_says

        join_at : join space base ≡ record {
          space = in_place space (record { base = base; size = size_at (suc level); phys = phys; rights = intersection given own });
          answer = answers.Changed (intersection given own);
        }
        join_at = join_is space base level phys (intersection given own) page.0 some few page.1.here (begins starts) page.1.size page.1.phys_is page.1.rights

        entry_here : IsEntryOf target memory base (size_at level) word
        entry_here = entry_of end.way end.word_is says

        pub join_parts : suc level ≤ highest_link target → Parts target (Join base) memory space [] (replies.Answer (answers.Changed (intersection given own)))
            (bits_in (size_at level) word) None
            (s ∷ []) (flushes.Range base (larger (size_at level))) (number ∷ [])
        join_parts high = record {
          reply = sym (ap (λ (t : Stepped). t.answer) join_at);
          due = not_refused;
          put = (
            refl,
            record {
              level = level;
              number = number;
              first = word;
              phys = phys;
              own = own;
              allowed = last.2;
              reached = reached;
              first_is = end.word_is;
              few = omega (arith, few);
              says = says;
              aligned = may.aligned;
              follow = λ i low. (slice_index words i, word_in memory number i words there, follow i low);
              above = reached_above;
              index_is = refl;
              leads = leads;
              new = refl;
              unlinked_is = refl;
            },
          );
          fits = (
            large level base phys (intersection given own),
            refl,
            larger_size level some few,
            parts_there end.premise.is_space base level phys (intersection given own) end.canonical some few aligned phys_aligned
                (small_walked (premise_table end.premise) base level phys (intersection given own) end.canonical some few aligned phys_aligned walks),
          );
          safe = safe_one s end.premise.translates (subst (λ (t : Stepped). TranslatesAs target.depth (stored memory s) target.root t.space) (sym join_at)
              (joined_translates (premise_table end.premise) base level phys (intersection given own) end.canonical some few aligned phys_aligned walks
              (stored memory s)
              (λ b path. walk_joined own entry_new above_table end.way linked new_says b path)
              (λ b off. walk_off above_table entry_new b off)));
          found = (met.word_is, tt);
          meant = All-cons (IsMeantBy target memory (Join base) (number ∷ [])) s [] (record {
            on = record { level = suc level; reached = reached_above; index = refl };
            below = number;
            leads = ap (λ e. table_in (Some e)) leads;
            named = Contains-head number [];
            may = high;
          }) (All-nil _);
          nothing = λ none. absurd (none (λ e. cc));
          written = refl;
          already = tt;
          changing = All-cons (λ (t : Store). t.old ≢ t.new) s []
              (words_apart (suc level) link entry_new (λ same. let both = sym leads ∙ same ∙ new_says in cc)) (All-nil _);
          one_way = tt;
          told = (size_at level, word, entry_here, refl);
          flushed = (size_at level, word, entry_here, refl);
          unlinked = All-cons (IsUnlinkedBy target memory (stored memory s) (Join base)) number [] (record {
            level = level;
            was = reached;
            lower = lower;
            same = get_written_other memory above (index_at (suc level) base) entry_new number apart;
            unreached = unreached own entry_new above_table end.way linked new_says;
          }) (All-nil _);
          pruned = tt;
          named_once = λ i j d lt within. absurd (omega arith);
          whole = whole_store above_table entry_new;
          own = own_after above_table entry_new ends;
          reaches = λ l b q at. inl (fewer above_table entry_new ends b l q at);
        }

-- ---- as the code has it

module _ {p : Planner} {word : ℕ} (end : IsAtEnd p) {phys : ℕ} {own : Rights} (says : meaning p.level word ≡ entry.Leaf phys own) {base : ℕ}
    (is : p.request ≡ Join base) where
  module _ (starts : base % bytes_of (size_at p.level) ≡ 0) where
    due_by : {memory : Memory} {space : Space} → HasEnded memory p word → IsPremise p.target.depth memory p.target.root (address_of p.request) space
        → refusal p.target space p.request ≡ not_first base phys (size_at p.level)
    due_by {memory} {space} ended premise = due_as p.target space is (refusal_is p.target (end_at end ended premise (ap address_of is)) end.some says starts)

    -- it is no first part of a larger one
    pub first_right : (reply : Reply) → not_first base phys (size_at p.level) ≡ Some reply → (plan : Plan) → ChangesNothing reply 0 plan → IsRightAt p word plan
    first_right reply refused plan none memory ended space premise =
        first_cases (λ o. not_first base phys (size_at p.level) ≡ o → o ≡ Some reply → IsRight p.target p.request memory space [] plan) base
        phys (size_at p.level)
        (λ e same. let one : replies.Largest ≡ reply = cc in refused_as replies.Largest one (due_by ended premise ∙ e) (λ due none.
        nothing_right premise {reply = replies.Largest} due plan none tt due premise.translates refl))
        (λ e same. let one : replies.Unaligned ≡ reply = cc in refused_as replies.Unaligned one (due_by ended premise ∙ e) (λ due none.
        nothing_right premise {reply = replies.Unaligned} due plan none tt due premise.translates refl))
        (λ e same. let one : replies.PhysUnaligned ≡ reply = cc in refused_as replies.PhysUnaligned one (due_by ended premise ∙ e) (λ due none.
        nothing_right premise {reply = replies.PhysUnaligned} due plan none tt due premise.translates refl))
        (λ small aligned phys_aligned e same. absurd (cc))
        refl refused
      where
        refused_as : (other : Reply) → other ≡ reply → refusal p.target space p.request ≡ Some other
            → (refusal p.target space p.request ≡ Some other → ChangesNothing other 0 plan → IsRight p.target p.request memory space [] plan)
            → IsRight p.target p.request memory space [] plan
        refused_as other one due right = right due (subst (λ r. ChangesNothing r 0 plan) (sym one) none)

    module _ (first : not_first base phys (size_at p.level) ≡ None) where
      is_first : {memory : Memory} {words : List ℕ} → HasEnded memory p word → finite.get memory p.number ≡ Some words → slice_index words 0 ≡ word
      is_first {memory} {words} ended there = same_Some (slice_index words 0) word
          (sym (word_in memory p.number 0 words there) ∙ ap (word_at memory p.number) (sym (index_first_of p.level base phys end.some first))
          ∙ subst (λ r. word_at memory p.number (index_at p.level (address_of r)) ≡ Some word) is ended.word_is)

      -- the table stays
      pub pinned_right : highest_link p.target ≤ p.level → (plan : Plan) → ChangesNothing replies.Pinned 0 plan → IsRightAt p word plan
      pinned_right stays plan none memory ended space premise =
          let here = end_at end ended premise (ap address_of is) in
          nothing_right premise {reply = replies.Pinned} (due_by ended premise ∙ first) plan none tt (
            subst (λ r. KeepsTable p.target memory r) (sym is) (record {
              level = p.level;
              number = p.number;
              first = word;
              reached = way_table p.level p.number p.rights here.way;
              first_is = here.word_is;
              leaf = (phys, own, says);
              stays = stays;
            }),
            ap (λ r. changes (stepped p.target.depth space r).answer) is ∙ ap changes (would_join p.target here end.some says starts),
          )
          premise.translates refl

      -- an entry doesn't follow on
      pub apart_right : (words : List ℕ) (index : ℕ) → IsFirstApart word words (size_at p.level) index → (plan : Plan)
          → ChangesNothing (replies.Apart index) 0 plan → IsRightWith p word words plan
      apart_right words index found plan none memory ended there space premise =
          let place : address_of p.request ≡ base = ap address_of is in
          let here = end_at end ended premise place in
          let one = is_first ended there in
          nothing_right premise {reply = replies.Apart index} (due_by ended premise ∙ first) plan none tt (
            subst (λ r. KeepsApart p.target memory r index) (sym is) (record {
              level = p.level;
              number = p.number;
              first = word;
              word = slice_index words index;
              reached = way_table p.level p.number p.rights here.way;
              first_is = here.word_is;
              leaf = (phys, own, says);
              within = found.within;
              word_is = word_in memory p.number index words there;
              apart = found.apart;
              before = λ i low. (
                slice_index words i,
                word_in memory p.number i words there,
                follow_all (size_at p.level) word words one i (λ later. found.before i later low),
              );
            }),
            ap (λ r. changes (stepped p.target.depth space r).answer) is ∙ ap changes (would_join p.target here end.some says starts),
          )
          premise.translates refl

      -- each entry follows on
      pub join_right : p.level < highest_link p.target → (words : List ℕ)
          → ((i : ℕ) → 1 ≤ i → i < 512 → Follows (size_at p.level) word i (slice_index words i))
          → {answer : Rights} → answer ≡ intersection p.rights own → {bits : ℕ} → bits ≡ bits_in (size_at p.level) word
          → {store : Store} → IsWholeStore p base phys own word store → {plan : Plan} → plan.reply ≡ replies.Answer (answers.Changed answer) → plan.bits ≡ bits
          → plan.fill ≡ None → plan.stores.items ≡ store ∷ [] → plan.flush ≡ flushes.Range base (larger (size_at p.level)) → plan.unlinked.items ≡ p.number ∷ []
          → IsRightWith p word words plan
      join_right low words follow answer_is bits_are {store} whole {plan} reply bits fill stores flush unlinked memory ended there space premise =
          let here = end_at end ended premise (ap address_of is) in
          let one = is_first ended there in
          let met = ended.met.tables (suc p.level) (omega arith) (omega (arith, few_of p.level base phys first, four_levels p.target.depth)) in
          let met_here = subst (λ a. IsTableMet p.target.depth memory p.target.root a (suc p.level) (slice_index p.numbers (suc p.level))
          (slice_index p.words (suc p.level))) (ap address_of is) met in
          let follow_here : (i : ℕ) → i < 512 → Follows (size_at p.level) word i (slice_index words i) =
          λ i few. follow_all (size_at p.level) word words one i (λ later. follow i later few) in
          let up : p.level + 1 ≡ suc p.level = omega arith in
          let may = may_join base phys (size_at p.level) first in
          let link = last p.target here end.some says starts may there follow_here met_here in
          let rights : whole.allowed ≡ link.2 = whole.leads p.number link.2
          (subst (λ l. meaning l (slice_index p.words l) ≡ entry.Table p.number link.2) (sym up)
          (leads p.target here end.some says starts may there follow_here met_here)) in
          subst (λ r. IsRight p.target r memory space [] plan) (sym is)
          (right_as plan (reply ∙ ap (λ r. replies.Answer (answers.Changed r)) answer_is) (bits ∙ bits_are) fill
          (stores ∙ ap (λ (s : Store). s ∷ []) (whole.store_is ∙ store_as up rights)) flush unlinked
          (join_parts p.target here end.some says starts may there follow_here met_here (omega (arith, low))))
        where
          store_as : {above : ℕ} → above ≡ suc p.level → {a b : Rights} → a ≡ b
              → store_at (slice_index p.numbers above) (index_at above base) (slice_index p.words above)
              (page_word (record { base = base; size = larger (size_at p.level); rights = intersection a own; phys = phys })
              (flagged (bits_in (size_at p.level) word)))
              ≡ store_at (slice_index p.numbers (suc p.level)) (index_at (suc p.level) base) (slice_index p.words (suc p.level))
              (page_word (record { base = base; size = larger (size_at p.level); rights = intersection b own; phys = phys })
              (flagged (bits_in (size_at p.level) word)))
          store_as same alike = rw (same, alike) refl
