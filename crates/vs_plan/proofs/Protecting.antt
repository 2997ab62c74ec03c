-- A plan that changes the rights of a page.
use Rattle.std.proofs.Common.{◌≡◌, ◌≢◌, ℕ, ◌+◌, ◌%◌, ◌≤◌, [], ◌∷◌, Some, None, inl, refl, sym, ap, subst, ◌∙◌}
use Rattle.std.proofs.lemmas.List.Elements.{All-nil, All-cons}
use Rattle.vs_types.specs.Depth.{entry_bytes, index_at}
use Rattle.vs_types.specs.Entry.{meaning, size_at}
use Rattle.vs_types.specs.Laws.{changes}
use Rattle.vs_types.specs.Page.{bytes_of, intersection}
use Rattle.vs_types.specs.Space.{Space}
use Rattle.vs_types.specs.declared.addresses.page.Page.{Page}
use Rattle.vs_types.specs.Step.{step}
use Rattle.vs_types.specs.declared.requests.op.Action.TheVariants as actions
use Rattle.vs_types.specs.declared.addresses.page.Rights.{Rights}
use Rattle.vs_types.specs.declared.addresses.page.Size.{Size}
use Rattle.vs_types.specs.declared.entries.entry.Meaning.TheVariants as entry
use Rattle.vs_types.specs.declared.requests.answer.Answer.TheVariants as answers
use Rattle.vs_walk.specs.Memory.{Memory}
use Rattle.vs_walk.specs.declared.walk.Walk.TheVariants.{Mapped}
use Rattle.vs_space.specs.Path.{table_in}
use Rattle.vs_space.proofs.Regions.{IsLeafPage}
use Rattle.vs_plan.specs.declared.plans.plan.Flush.TheVariants as flushes
use Rattle.vs_plan.specs.declared.plans.plan.Plan.{Plan}
use Rattle.vs_plan.specs.declared.plans.plan.Reply.TheVariants as replies
use Rattle.vs_plan.specs.declared.plans.planner.Planner.{Planner}
use Rattle.vs_plan.specs.declared.plans.request.Request.TheVariants.{Protect}
use Rattle.vs_plan.specs.declared.plans.plan.Store.{Store}
use Rattle.vs_plan.specs.declared.plans.target.Target.{Target}
use Rattle.vs_types.specs.Bits.{bits_in, with_rights}
use Rattle.vs_plan.specs.Request.{address_of}
use Rattle.vs_plan.specs.Right.{IsEntryOf, IsMeant, OfPage, IsRight}
use Rattle.vs_plan.specs.Stores.{stored}
use Rattle.vs_plan.specs.inside.Ended.{IsAtEnd, IsRightAt, ChangesNothing}
use Rattle.vs_plan.proofs.Asking.{entry_of}
use Rattle.vs_plan.proofs.EntryStores.{walk_off, walk_here, whole_store, fewer, own_after}
use Rattle.vs_plan.proofs.Pages.{page_here, premise_table}
use Rattle.vs_plan.proofs.Parts.{none_named, Parts, right_as, safe_one, nothing_parts, due_as, store_at, EndAt, end_at, own_table, rights_right}
use Rattle.vs_space.proofs.LeafSteps.{begins_at, changed_answer, changed_translates}
use Rattle.vs_types.proofs.BitWords.{with_rights_reads}
use Rattle.vs_plan.proofs.Ways.{way_table, walk_at}
use Rattle.vs_plan.proofs.Stored.{found_word}

pub one_leaf : {phys other : ℕ} {own rights : Rights} → entry.Leaf phys own ≡ entry.Leaf other rights → (phys ≡ other) × (own ≡ rights)
one_leaf e = (cc, cc)

-- what a protect of a page that begins there answers
would_change : (target : Target) {memory : Memory} {space : Space} {base level number word phys : ℕ} {given own : Rights} (rights : Rights)
    (end : EndAt target memory space level number given word base) → 1 ≤ level → meaning level word ≡ entry.Leaf phys own
    → base % bytes_of (size_at level) ≡ 0
    → (step target.depth 0 space (actions.Protect base rights)).answer ≡ answers.Changed (intersection given own)
would_change target {memory} {space} rights end some says aligned =
    let page = page_here end.way some end.word_is end.premise end.canonical says in
    changed_answer 0 (premise_table end.premise) page.1 (begins_at page.1 aligned) rights

module _ (target : Target) {memory : Memory} {space : Space} {base level number word phys : ℕ} {given own rights : Rights}
    (end : EndAt target memory space level number given word base) (some : 1 ≤ level) (says : meaning level word ≡ entry.Leaf phys own)
    (aligned : base % bytes_of (size_at level) ≡ 0) (allows : intersection given rights ≡ rights) where
  page : (q : Page) × IsLeafPage target.depth space base level phys (intersection given own) q
  page = page_here end.way some end.word_is end.premise end.canonical says

  told : (size : Size) × (found : ℕ) × IsEntryOf target memory base size found × (bits_in (size_at level) word ≡ bits_in size found)
  told = (size_at level, word, entry_of end.way end.word_is says, refl)

  -- the entry has these rights already
  pub same_parts : word ≡ with_rights word rights → meaning level (with_rights word rights) ≡ entry.Leaf phys rights
      → Parts target (Protect base rights) memory space [] (replies.Answer (answers.Changed (intersection given own))) (bits_in (size_at level) word)
      None [] flushes.Nothing []
  same_parts same leads =
      let rights_are : intersection given own ≡ rights =
      ap (intersection given) (one_leaf (sym says ∙ ap (meaning level) same ∙ leads)).1 ∙ allows in
      nothing_parts {request = Protect base rights} end.premise refl (size_at level, word, entry_of end.way end.word_is says, same)
      (sym (changed_answer 0 (premise_table end.premise) page.1 (begins_at page.1 aligned) rights))
      (changed_translates 0 (premise_table end.premise) page.1 (begins_at page.1 aligned) rights memory
      (λ b path. walk_at end.way some (entry.Leaf phys own) (found_word level memory number base word end.word_is ∙ ap Some says) b path
      ∙ ap (Mapped (phys + b % entry_bytes level) (size_at level)) rights_are)
      (λ b apart. refl)) told

  -- the entry is written with them
  pub written_parts : word ≢ with_rights word rights → meaning level (with_rights word rights) ≡ entry.Leaf phys rights
      → Parts target (Protect base rights) memory space [] (replies.Answer (answers.Changed (intersection given own))) (bits_in (size_at level) word)
      None (store_at number (index_at level base) word (with_rights word rights) ∷ []) (flushes.Page base (size_at level)) []
  written_parts new leads =
      let here = own_table end in
      record {
        reply = sym (changed_answer 0 (premise_table end.premise) page.1 (begins_at page.1 aligned) rights);
        due = refl;
        put = (refl, record { size = size_at level; entry_is = entry_of end.way end.word_is says; frame = refl; at = refl }, refl);
        fits = tt;
        safe = safe_one (store_at number (index_at level base) word (with_rights word rights)) end.premise.translates
            (changed_translates 0 (premise_table end.premise) page.1 (begins_at page.1 aligned) rights
            (stored memory (store_at number (index_at level base) word (with_rights word rights)))
            (λ b path. walk_here here (with_rights word rights) end.way some (entry.Leaf phys rights) leads b path
            ∙ ap (Mapped (phys + b % entry_bytes level) (size_at level)) allows)
            (walk_off here (with_rights word rights)));
        found = (end.word_is, tt);
        meant = All-cons (IsMeant target memory base []) (store_at number (index_at level base) word (with_rights word rights)) []
            (OfPage (record { level = level; reached = way_table level number given end.way; index = refl })
            (ap (λ e. table_in (Some e)) says)) (All-nil _);
        nothing = λ none. absurd (none (λ e. cc));
        written = (refl, refl);
        already = tt;
        changing = All-cons (λ (t : Store). t.old ≢ t.new) (store_at number (index_at level base) word (with_rights word rights)) [] new (All-nil _);
        one_way = tt;
        told = told;
        flushed = (size_at level, entry_of end.way end.word_is says, refl);
        unlinked = All-nil _;
        pruned = tt;
        named_once = none_named;
        whole = whole_store here (with_rights word rights);
        own = own_after here (with_rights word rights) (ap (λ e. table_in (Some e)) leads);
        reaches = λ l b q at. inl (fewer here (with_rights word rights) (ap (λ e. table_in (Some e)) leads) b l q at);
      }

-- ---- as the code has it

module _ {p : Planner} {word : ℕ} (end : IsAtEnd p) {phys : ℕ} {own : Rights} (says : meaning p.level word ≡ entry.Leaf phys own) {base : ℕ} {rights : Rights}
    (is : p.request ≡ Protect base rights) (aligned : base % bytes_of (size_at p.level) ≡ 0) where
  -- the entries above allow less
  pub less_right : intersection p.rights rights ≢ rights → (plan : Plan) → ChangesNothing replies.Rights 0 plan → IsRightAt p word plan
  less_right less plan none memory ended space premise =
      rights_right is (λ m allows. allows) less ended premise (due_as p.target space is refl)
      (ap changes (would_change p.target rights (end_at end ended premise (ap address_of is)) end.some says aligned)) plan none

  module _ (allows : intersection p.rights rights ≡ rights) {answer : Rights} (answer_is : answer ≡ intersection p.rights own) {bits : ℕ}
      (bits_are : bits ≡ bits_in (size_at p.level) word) {plan : Plan} (reply : plan.reply ≡ replies.Answer (answers.Changed answer))
      (told : plan.bits ≡ bits) where
    pub same_right : plan.fill ≡ None → plan.stores.items ≡ [] → plan.flush ≡ flushes.Nothing → plan.unlinked.items ≡ [] → word ≡ with_rights word rights
        → IsRightAt p word plan
    same_right fill stores flush unlinked same memory ended space premise =
        subst (λ r. IsRight p.target r memory space [] plan) (sym is)
        (right_as plan (reply ∙ ap (λ r. replies.Answer (answers.Changed r)) answer_is) (told ∙ bits_are) fill stores flush unlinked
        (same_parts p.target (end_at end ended premise (ap address_of is)) end.some says aligned allows same
        (with_rights_reads p.level word rights phys own end.some says)))

    pub written_right : plan.fill ≡ None → plan.stores.items ≡ store_at p.number (index_at p.level base) word (with_rights word rights) ∷ []
        → plan.flush ≡ flushes.Page base (size_at p.level) → plan.unlinked.items ≡ [] → word ≢ with_rights word rights → IsRightAt p word plan
    written_right fill stores flush unlinked new memory ended space premise =
        subst (λ r. IsRight p.target r memory space [] plan) (sym is)
        (right_as plan (reply ∙ ap (λ r. replies.Answer (answers.Changed r)) answer_is) (told ∙ bits_are) fill stores flush unlinked
        (written_parts p.target (end_at end ended premise (ap address_of is)) end.some says aligned allows new
        (with_rights_reads p.level word rights phys own end.some says)))
