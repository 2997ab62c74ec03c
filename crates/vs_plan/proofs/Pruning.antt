-- A plan that prunes a table without a present entry.
use Rattle.std.proofs.Common.{◌≡◌, ◌≢◌, ℕ, zero, suc, ◌%◌, ◌<◌, ◌≤◌, List, [], ◌∷◌, Some, None, ◌⊎◌, inl, ⊎_elim, refl, sym, ap, subst, ◌∙◌}
use Rattle.std.proofs.Common.{arith}
use Rattle.std.proofs.lemmas.List.Elements.{All-nil, All-cons}
use Rattle.std.proofs.lemmas.Bool.{cases_eq, cases_lt}
use Rattle.std.proofs.lemmas.Option.{same_Some}
use Rattle.std.specs.Prelude.{slice_index}
use Rattle.std.specs.FinMap as finite
use Rattle.vs_types.specs.Depth.{levels, index_at}
use Rattle.vs_types.specs.Entry.{meaning}
use Rattle.vs_types.specs.Space.{Space}
use Rattle.vs_types.specs.declared.addresses.page.Rights.{Rights}
use Rattle.vs_types.specs.declared.addresses.page.Size.TheVariants.{K4}
use Rattle.vs_types.specs.declared.entries.entry.Meaning.{Meaning}
use Rattle.vs_types.specs.declared.entries.entry.Meaning.TheVariants as entry
use Rattle.vs_types.specs.declared.requests.answer.Answer.TheVariants as answers
use Rattle.vs_types.proofs.Lists.{Contains-head}
use Rattle.vs_walk.specs.Memory.{Memory}
use Rattle.vs_walk.specs.Walk.{walk, TranslatesAs}
use Rattle.vs_walk.specs.declared.walk.Walk.TheVariants.{NotMapped}
use Rattle.vs_space.specs.Held.{word_at}
use Rattle.vs_space.specs.Path.{found_at, table_at, table_in, SamePath}
use Rattle.vs_space.proofs.Meets.{never_table}
use Rattle.vs_space.proofs.Prunes.{entry_word, word_in}
use Rattle.vs_space.proofs.Writes.{get_written_other, same_or_not}
use Rattle.vs_plan.specs.declared.plans.plan.Flush.TheVariants as flushes
use Rattle.vs_plan.specs.declared.plans.plan.Plan.{Plan}
use Rattle.vs_plan.specs.declared.plans.plan.Reply.TheVariants as replies
use Rattle.vs_plan.specs.declared.plans.plan.Store.{Store}
use Rattle.vs_plan.specs.declared.plans.planner.Planner.{Planner}
use Rattle.vs_plan.specs.declared.plans.request.Request.TheVariants.{Prune}
use Rattle.vs_plan.specs.declared.plans.target.Target.{Target}
use Rattle.vs_plan.specs.Request.{address_of, lowest_of, stepped}
use Rattle.vs_plan.specs.Right.{HasEntry, HasNoneToPrune, IsMeantBy, IsRight, IsUnlinkedBy, OfLink}
use Rattle.vs_plan.specs.Shown.{IsTableMet}
use Rattle.vs_plan.specs.Stores.{stored}
use Rattle.vs_plan.specs.Target.{highest_link}
use Rattle.vs_plan.specs.inside.Ended.{IsAtEnd, IsRightWith, HasEnded, ChangesNothing}
use Rattle.vs_plan.proofs.EntryStores.{IsOwnTable, walk_here, walk_off, whole_store, own_after, fewer}
use Rattle.vs_plan.proofs.JoinedMemory.{IsLinkedBy, linked_by, unlinked_by}
use Rattle.vs_plan.proofs.Parts.{Parts, due_as, right_as, nothing_right, safe_one, store_at, words_apart, EndAt, end_at}
use Rattle.vs_plan.proofs.PlansSuffice.{not_below}
use Rattle.vs_plan.proofs.Stored.{found_word, used_word, even_absent}
use Rattle.vs_plan.proofs.Unmapping.{highest_least}
use Rattle.vs_plan.proofs.Ways.{way_table, way_walk, walk_level}

index_low : (level b : ℕ) → index_at level b < 512
index_low level b = omega arith

-- ---- the table is unlinked

module _ (target : Target) {memory : Memory} {space : Space} {address level number word : ℕ} {given : Rights}
    (end : EndAt target memory space level number given word address) (some : 1 ≤ level) (high : suc level ≤ highest_link target)
    {words : List ℕ} (there : finite.get memory number ≡ Some words) (even : (i : ℕ) → i < 512 → slice_index words i % 2 ≡ 0)
    {above link : ℕ} (met : IsTableMet target.depth memory target.root address (suc level) above link) where
  lower : level < levels target.depth
  lower = omega (arith, high, highest_least target)

  reached : table_at (levels target.depth) memory target.root level address ≡ Some number
  reached = way_table level number given end.way

  reached_above : table_at (levels target.depth) memory target.root (suc level) address ≡ Some above
  reached_above = way_table (suc level) above met.rights met.way

  -- the link on the way
  last : (above_number : ℕ) × (above_rights : Rights) × (allowed : Rights)
      × IsLinkedBy target.depth memory target.root address level number above_number given above_rights allowed
  last = linked_by level number given end.way lower

  linked : IsLinkedBy target.depth memory target.root address level number above given last.1 last.2
  linked = subst (λ x. IsLinkedBy target.depth memory target.root address level number x given last.1 last.2)
      (same_Some last.0 above (sym (way_table (suc level) last.0 last.1 last.3.way) ∙ reached_above)) last.3

  leads : meaning (suc level) link ≡ entry.Table number last.2
  leads = same_Some (meaning (suc level) link) (entry.Table number last.2)
      (sym (found_word (suc level) memory above address link met.word_is) ∙ linked.found)

  apart : number ≢ above
  apart same =
      let both = (end.premise.own.once level number (suc level) address reached (reached_above ∙ ap Some (sym same))).0 in
      omega (arith, both)

  abbrev s : Store
  s = store_at above (index_at (suc level) address) link 0

  zero_says : meaning (suc level) 0 ≡ entry.Absent
  zero_says = even_absent (suc level) 0 refl

  ends : table_in (Some (meaning (suc level) 0)) ≡ None
  ends = ap (λ e. table_in (Some e)) zero_says

  above_table : IsOwnTable target.depth memory target.root (suc level) address above
  above_table = record {
    own = end.premise.own;
    whole = end.premise.whole;
    used = used_word memory above (index_at (suc level) address) link met.word_is;
    at = reached_above;
  }

  -- addresses of the table are mapped neither before nor after
  quiet : (b : ℕ) → SamePath (levels target.depth) (suc level) address b → walk target.depth memory target.root b ≡ NotMapped
  quiet b path = way_walk level number given end.way b path
      ∙ walk_level memory level number given b entry.Absent some
      (found_word level memory number b _ (word_in memory number (index_at level b) words there)
      ∙ ap Some (even_absent level (slice_index words (index_at level b)) (even (index_at level b) (index_low level b))))

  still : TranslatesAs target.depth (stored memory s) target.root space
  still b canonical = ⊎_elim
      (λ path. walk_here above_table 0 linked.way (omega arith) entry.Absent zero_says b path ∙ sym (quiet b path) ∙ end.premise.translates b canonical)
      (λ off. walk_off above_table 0 b off ∙ end.premise.translates b canonical)
      (same_or_not (levels target.depth) (suc level) address b)

  pub prune_parts : Parts target (Prune address) memory space [] (replies.Answer answers.Done) 0 None (s ∷ [])
      (flushes.PageAndTables address K4) (number ∷ [])
  prune_parts = record {
    reply = refl;
    due = refl;
    put = (
      refl,
      record {
        level = level;
        number = number;
        allowed = last.2;
        reached = reached;
        empty = λ i low. entry_word level memory number i (slice_index words i) entry.Absent (word_in memory number i words there)
            (sym (even_absent level (slice_index words i) (even i low)));
        above = reached_above;
        index_is = refl;
        leads = leads;
        unlinked_is = refl;
      },
    );
    fits = tt;
    safe = safe_one s end.premise.translates still;
    found = (met.word_is, tt);
    meant = All-cons (IsMeantBy target memory (Prune address) (number ∷ [])) s []
        (OfLink (record { level = suc level; reached = reached_above; index = refl }) number (ap (λ e. table_in (Some e)) leads)
        (Contains-head number []) high refl)
        (All-nil _);
    nothing = λ none. absurd (none (λ e. cc));
    written = refl;
    already = tt;
    changing = All-cons (λ (t : Store). t.old ≢ t.new) s []
        (words_apart (suc level) link 0 (λ same. let both = sym leads ∙ same ∙ zero_says in cc)) (All-nil _);
    one_way = All-cons (λ (t : Store). t.new ≡ 0) s [] refl (All-nil _);
    told = refl;
    flushed = refl;
    unlinked = All-cons (IsUnlinkedBy target memory (stored memory s) (Prune address)) number [] (record {
      level = level;
      was = reached;
      lower = lower;
      same = get_written_other memory above (index_at (suc level) address) 0 number apart;
      unreached = unlinked_by 0 above_table end.way ends;
    }) (All-nil _);
    pruned = tt;
    named_once = λ i j d lt within. absurd (omega arith);
    whole = whole_store above_table 0;
    own = own_after above_table 0 ends;
    reaches = λ l b q at. inl (fewer above_table 0 ends b l q at);
  }

-- ---- as the code has it

-- an entry of the lowest level leads to no table
one_ends : (word : ℕ) → table_in (Some (meaning 1 word)) ≡ None
one_ends word = by (meaning 1 word) refl where
  by : (e : Meaning) → meaning 1 word ≡ e → table_in (Some e) ≡ None
  by (entry.Table next own) is = absurd (never_table word next own is)
  by _ is = refl

module _ {p : Planner} {word : ℕ} (end : IsAtEnd p) {address : ℕ} (is : p.request ≡ Prune address) {memory : Memory} (ended : HasEnded memory p word) where
  -- the way ends there
  ends_here : table_in (Some (meaning p.level word)) ≡ None
  ends_here = ⊎_elim
      (λ (deep : lowest_of p.request < p.level). ended.ends deep)
      (λ (le : p.level ≤ lowest_of p.request).
      let lowest : lowest_of p.request ≡ 1 = ap lowest_of is in
      let one : p.level ≡ 1 = omega (arith, lowest, le, end.some) in
      ap (λ l. table_in (Some (meaning l word))) one ∙ one_ends word)
      (cases_lt (lowest_of p.request) p.level)

  way_at : table_at (levels p.target.depth) memory p.target.root p.level address ≡ Some p.number
  way_at = subst (λ r. table_at (levels p.target.depth) memory p.target.root p.level (address_of r) ≡ Some p.number) is
      (way_table p.level p.number p.rights ended.way)

  found_here : found_at p.level memory p.number address ≡ Some (meaning p.level word)
  found_here = subst (λ r. found_at p.level memory p.number (address_of r) ≡ Some (meaning p.level word)) is
      (found_word p.level memory p.number (address_of p.request) word ended.word_is)

  no_lower : (low number other level : ℕ) → table_at (levels p.target.depth) memory p.target.root low address ≡ Some number
      → table_in (found_at low memory number address) ≡ None → table_at (levels p.target.depth) memory p.target.root level address ≡ Some other → low ≤ level
  no_lower zero number other level at none there = omega arith
  no_lower (suc low) number other level at none there = not_below p.target.depth memory p.target.root address low number other level at none there

  -- and nowhere else
  same_end : (level number : ℕ) → table_at (levels p.target.depth) memory p.target.root level address ≡ Some number
      → table_in (found_at level memory number address) ≡ None → level ≡ p.level
  same_end level number at none =
      let up = no_lower level number p.number p.level at none way_at in
      let down = no_lower p.level p.number number level way_at (ap table_in found_here ∙ ends_here) at in
      omega (arith, up, down)

  own_entry : word % 2 ≢ 0 → HasEntry memory p.number
  own_entry odd = record {
    index = index_at p.level (address_of p.request);
    word = word;
    within = index_low p.level (address_of p.request);
    there = ended.word_is;
    present = omega (arith, odd);
  }

  other_entry : {words : List ℕ} → finite.get memory p.number ≡ Some words → (i : ℕ) → i < 512 → slice_index words i % 2 ≢ 0 → HasEntry memory p.number
  other_entry {words} there i low odd = record {
    index = i;
    word = slice_index words i;
    within = low;
    there = word_in memory p.number i words there;
    present = omega (arith, odd);
  }

  -- the table stays, or has an entry
  none_due : {words : List ℕ} → finite.get memory p.number ≡ Some words
      → (highest_link p.target ≤ p.level) ⊎ ((word % 2 ≢ 0) ⊎ ((i : ℕ) × (i < 512) × (slice_index words i % 2 ≢ 0)))
      → HasNoneToPrune p.target memory (Prune address)
  none_due {words} there why level number at none low =
      let level_is = same_end level number at none in
      ⊎_elim
      (λ high. absurd (omega (arith, high, low, level_is)))
      (λ has.
      let here = subst (λ l. table_at (levels p.target.depth) memory p.target.root l address ≡ Some number) level_is at in
      let number_is : p.number ≡ number = same_Some p.number number (sym way_at ∙ here) in
      subst (HasEntry memory) number_is (⊎_elim own_entry (λ other. other_entry there other.0 other.1 other.2) has))
      why

module _ {p : Planner} {word : ℕ} (end : IsAtEnd p) {address : ℕ} (is : p.request ≡ Prune address) (words : List ℕ) where
  pub stays_right : (highest_link p.target ≤ p.level) ⊎ ((word % 2 ≢ 0) ⊎ ((i : ℕ) × (i < 512) × (slice_index words i % 2 ≢ 0)))
      → (plan : Plan) → ChangesNothing (replies.Answer answers.Done) 0 plan → IsRightWith p word words plan
  stays_right why plan none memory ended there space premise =
      nothing_right premise (due_as p.target space is refl) plan none
      (subst (HasNoneToPrune p.target memory) (sym is) (none_due end is ended there why))
      (subst (λ r. answers.Done ≡ (stepped p.target.depth space r).answer) (sym is) refl)
      (subst (λ r. TranslatesAs p.target.depth memory p.target.root (stepped p.target.depth space r).space) (sym is) premise.translates)
      refl

  -- its entry for the address is known, and so are the others
  all_even : {memory : Memory} → HasEnded memory p word → finite.get memory p.number ≡ Some words → word % 2 ≡ 0
      → ((i : ℕ) → i < 512 → i ≢ index_at p.level address → slice_index words i % 2 ≡ 0) → (i : ℕ) → i < 512 → slice_index words i % 2 ≡ 0
  all_even {memory} ended there here others i low = ⊎_elim
      (λ (same : i ≡ index_at p.level address).
      let at : index_at p.level (address_of p.request) ≡ i = ap (λ r. index_at p.level (address_of r)) is ∙ sym same in
      let told : slice_index words i ≡ word = same_Some (slice_index words i) word
      (sym (word_in memory p.number i words there) ∙ sym (ap (word_at memory p.number) at) ∙ ended.word_is) in
      ap (λ n. n % 2) told ∙ here)
      (λ (other : i ≢ index_at p.level address). others i low other)
      (cases_eq i (index_at p.level address))

  pub prune_right : p.level < highest_link p.target → word % 2 ≡ 0
      → ((i : ℕ) → i < 512 → i ≢ index_at p.level address → slice_index words i % 2 ≡ 0) → {plan : Plan} → plan.reply ≡ replies.Answer answers.Done
      → plan.bits ≡ 0
      → plan.fill ≡ None → {above : ℕ} → above ≡ suc p.level
      → plan.stores.items ≡ store_at (slice_index p.numbers above) (index_at above address) (slice_index p.words above) 0 ∷ []
      → plan.flush ≡ flushes.PageAndTables address K4 → plan.unlinked.items ≡ p.number ∷ [] → IsRightWith p word words plan
  prune_right low here others {plan} reply bits fill {above} up stores flush unlinked memory ended there space premise =
      let at = end_at end ended premise (ap address_of is) in
      let met = ended.met.tables (suc p.level) (omega arith) (omega (arith, low, highest_least p.target)) in
      let met_here = subst (λ a. IsTableMet p.target.depth memory p.target.root a (suc p.level) (slice_index p.numbers (suc p.level))
      (slice_index p.words (suc p.level))) (ap address_of is) met in
      subst (λ r. IsRight p.target r memory space [] plan) (sym is)
      (right_as plan reply bits fill
      (subst (λ a. plan.stores.items ≡ store_at (slice_index p.numbers a) (index_at a address) (slice_index p.words a) 0 ∷ []) up stores)
      flush unlinked
      (prune_parts p.target at end.some (omega (arith, low)) there (all_even ended there here others) met_here))
