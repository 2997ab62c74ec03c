-- A plan that lets a page lead elsewhere.
use Rattle.std.proofs.Common.{◌≡◌, ◌≢◌, ℕ, ◌+◌, ◌-◌, ◌%◌, ◌^◌, ◌≤◌, ◌⊎◌, inl, inr, [], ◌∷◌, Some, None, Bool, true, false, not, min, cond, ⊎_elim, eqb-true}
use Rattle.std.proofs.Common.{refl, sym, ap, subst, ◌∙◌, arith}
use Rattle.std.specs.Prelude.{◌==◌, nat_lt, if◌then◌else◌}
use lib.Pow.{pow_mono}
use Rattle.std.proofs.lemmas.Bool.{ltb-false}
use Rattle.std.proofs.lemmas.List.Elements.{All-nil, All-cons}
use Rattle.std.specs.FinMap as finite
use Rattle.vs_types.specs.Depth.{levels, entry_bytes, index_at}
use Rattle.vs_types.specs.Entry.{meaning, size_at}
use Rattle.vs_types.specs.Laws.{changes, as_in, LooksChanged}
use Rattle.vs_types.specs.Page.{bytes_of, intersection, IsPage}
use Rattle.vs_types.specs.Space.{Space, IsSpace, Holds, page_at}
use Rattle.vs_types.specs.Step.{Stepped}
use Rattle.vs_types.specs.declared.addresses.depth.Depth.{Depth}
use Rattle.vs_types.specs.declared.addresses.page.Page.{Page}
use Rattle.vs_types.specs.declared.addresses.page.Rights.{Rights}
use Rattle.vs_types.specs.declared.addresses.page.Size.{Size}
use Rattle.vs_types.specs.declared.entries.entry.Meaning.TheVariants as entry
use Rattle.vs_types.specs.declared.requests.answer.Answer.TheVariants as answers
use Rattle.vs_types.proofs.Maps.{get-insert_same}
use Rattle.vs_types.proofs.Spaces.{insert_space, look_of_page, look_same, page_at_after_insert, page_at_means}
use Rattle.vs_walk.specs.Memory.{Memory}
use Rattle.vs_walk.specs.Walk.{walk, TranslatesAs}
use Rattle.vs_walk.specs.declared.walk.Walk.TheVariants.{Mapped}
use Rattle.vs_space.specs.Path.{table_in, SamePath}
use Rattle.vs_space.specs.Table.{IsTableOf}
use Rattle.vs_space.proofs.Regions.{IsLeafPage}
use Rattle.vs_plan.specs.declared.plans.plan.Flush.TheVariants as flushes
use Rattle.vs_plan.specs.declared.plans.plan.Plan.{Plan}
use Rattle.vs_plan.specs.declared.plans.plan.Reply.{Reply}
use Rattle.vs_plan.specs.declared.plans.plan.Reply.TheVariants as replies
use Rattle.vs_plan.specs.declared.plans.plan.Store.{Store}
use Rattle.vs_plan.specs.declared.plans.planner.Planner.{Planner}
use Rattle.vs_plan.specs.declared.plans.request.Request.TheVariants.{Remap}
use Rattle.vs_plan.specs.declared.plans.target.Target.{Target}
use Rattle.vs_types.specs.Bits.{bits_in, with_rights, with_address}
use Rattle.vs_plan.specs.Changes.{remap, phys_refusal, remap_refusal}
use Rattle.vs_plan.specs.Premise.{IsPremise}
use Rattle.vs_plan.specs.Request.{address_of, refusal}
use Rattle.vs_plan.specs.Right.{IsEntryOf, IsMeantBy, OfPage, IsRight}
use Rattle.vs_plan.specs.Stores.{stored}
use Rattle.vs_plan.specs.inside.Ended.{IsAtEnd, IsRightAt, HasEnded, ChangesNothing}
use Rattle.vs_plan.proofs.Addresses.{with_address_reads}
use Rattle.vs_plan.proofs.Asking.{entry_of}
use Rattle.vs_plan.proofs.Changing.{change_here, why_here, change_cases}
use Rattle.vs_plan.proofs.EntryStores.{walk_off, walk_here, whole_store, fewer, own_after}
use Rattle.vs_plan.proofs.Pages.{table_from, page_here, premise_table}
use Rattle.vs_plan.proofs.Parts.{none_named, Parts, right_as, safe_one, nothing_right, nothing_parts, nothing_as, due_as, store_at, EndAt, end_at, own_table}
use Rattle.vs_plan.proofs.Parts.{rights_right}
use Rattle.vs_space.proofs.LeafSteps.{begins_at, leaf_translates}
use Rattle.vs_types.proofs.BitWords.{with_rights_reads}
use Rattle.vs_plan.proofs.Ways.{way_table, walk_at}
use Rattle.vs_plan.proofs.Stored.{found_word}
use Rattle.vs_plan.proofs.Requests.{passed, not_false}
use Rattle.vs_plan.proofs.Protecting.{one_leaf}

-- ---- a page of a space leads elsewhere

module _ {depth : Depth} {space : Space} (is : IsSpace depth space) (q : Page) (holds : Holds space q) (phys : ℕ) (rights : Rights)
    (aligned : phys % bytes_of q.size ≡ 0) (within : phys + bytes_of q.size ≤ 2 ^ 51) where
  abbrev moved : Page
  moved = record q { phys = phys; rights = rights }

  moved_good : IsPage depth moved
  moved_good = let good = is.well_formed q holds in
      record { canonical = good.canonical; aligned = good.aligned; phys_aligned = aligned; phys_range = within }

  pub moved_space : IsSpace depth (finite.insert space q.base moved)
  moved_space = insert_space is moved moved_good (λ p a h differs c d. differs (ap (λ (z : Page). z.base) (is.apart p q a h holds c d)))

  pub moved_looks : LooksChanged q (as_in moved) space (finite.insert space q.base moved)
  moved_looks = record {
    there = λ a covered. look_of_page moved_space a moved (get-insert_same space q.base moved) covered;
    elsewhere = λ a uncovered. look_same (finite.insert space q.base moved) space a
        (page_at_after_insert is moved moved_space sized a ∙ ap (λ b. cond b (Some moved) (page_at space a)) uncovered);
  } where
    sized : (p : Page) → Holds space p → p.base ≡ q.base → p.size ≡ q.size
    sized p h same =
        let at : finite.get space q.base ≡ Some p = subst (λ k. finite.get space k ≡ Some p) same h in
        let one : p ≡ q = cc in
        ap (λ (z : Page). z.size) one

-- a remap that isn't refused leaves a space
pub phys_good : (phys phys_bits : ℕ) (size : Size) → phys_refusal phys phys_bits size ≡ None → (phys % bytes_of size ≡ 0) × (phys + bytes_of size ≤ 2 ^ 51)
phys_good phys phys_bits size none =
    let first = passed (not (phys % bytes_of size == 0)) _ _ none in
    let second = passed (nat_lt (2 ^ min phys_bits 51) (phys + bytes_of size)) _ _ first.1 in
    let within : phys + bytes_of size ≤ 2 ^ min phys_bits 51 = ltb-false (2 ^ min phys_bits 51) (phys + bytes_of size) second.0 in
    let low : 2 ^ min phys_bits 51 ≤ 2 ^ 51 = let le : min phys_bits 51 ≤ 51 = omega arith in pow_mono {j = 51} le in (
      eqb-true (phys % bytes_of size) 0 (not_false (phys % bytes_of size == 0) first.0),
      omega (arith, within, low),
    )

pub remap_space : {depth : Depth} {space : Space} → IsSpace depth space → (base phys phys_bits : ℕ) (rights : Rights)
    → remap_refusal space base phys phys_bits ≡ None → IsSpace depth (remap space base phys rights).space
remap_space {depth} {space} is base phys phys_bits rights none = change_cases space base _ (IsSpace depth) is (λ q e same.
    let good = phys_good phys phys_bits q.size (sym (why_here base _ q e same) ∙ none) in
    moved_space is q ((page_at_means is base q).0 e).0 phys rights good.0 good.1)

-- ---- the page that begins at the base

module _ {depth : Depth} {m : Memory} {root : ℕ} {space : Space} (of : IsTableOf (table_from depth m root) space) {base level old : ℕ} {given : Rights}
    {q : Page} (leaf : IsLeafPage depth space base level old given q) (aligned : base % bytes_of (size_at level) ≡ 0) where
  pub remap_refused : (phys phys_bits : ℕ) → remap_refusal space base phys phys_bits ≡ phys_refusal phys phys_bits (size_at level)
  remap_refused phys phys_bits = why_here base _ q leaf.here (begins_at leaf aligned) ∙ ap (phys_refusal phys phys_bits) leaf.size

  module _ (phys : ℕ) (rights : Rights) where
    remap_is : remap space base phys rights
        ≡ record { space = finite.insert space q.base (record q { phys = phys; rights = rights }); answer = answers.Changed q.rights }
    remap_is = change_here space base _ q leaf.here (begins_at leaf aligned)

    pub remap_answer : (remap space base phys rights).answer ≡ answers.Changed given
    remap_answer = ap (λ (s : Stepped). s.answer) remap_is ∙ ap answers.Changed leaf.rights

    pub remap_translates : phys % bytes_of (size_at level) ≡ 0 → phys + bytes_of (size_at level) ≤ 2 ^ 51 → (m' : Memory)
        → ((b : ℕ) → SamePath (levels depth) level base b → walk depth m' root b ≡ Mapped (phys + b % entry_bytes level) (size_at level) rights)
        → ((b : ℕ) → (SamePath (levels depth) level base b → ⊥) → walk depth m' root b ≡ walk depth m root b)
        → TranslatesAs depth m' root (remap space base phys rights).space
    remap_translates phys_aligned within m' there elsewhere =
        let bytes : bytes_of q.size ≡ bytes_of (size_at level) = ap bytes_of leaf.size in
        let looks = moved_looks of.is_space q leaf.held phys rights (subst (λ n. phys % n ≡ 0) (sym bytes) phys_aligned)
        (subst (λ n. phys + n ≤ 2 ^ 51) (sym bytes) within) in
        subst (λ (s : Stepped). TranslatesAs depth m' root s.space) (sym remap_is)
        (leaf_translates of leaf (begins_at leaf aligned) m' looks
        (λ b canonical same at.
        let offset : phys + b % entry_bytes level ≡ phys + (b - q.base) = omega (arith, at) in
        there b same ∙ ap (λ p. Mapped p (size_at level) rights) offset ∙ ap (λ z. Mapped (phys + (b - q.base)) z rights) (sym leaf.size))
        (λ b canonical apart. elsewhere b apart))

-- ---- the plan

module _ (target : Target) {memory : Memory} {space : Space} {base level number word old : ℕ} {given own : Rights}
    (end : EndAt target memory space level number given word base) (some : 1 ≤ level) (says : meaning level word ≡ entry.Leaf old own)
    (aligned : base % bytes_of (size_at level) ≡ 0) (phys : ℕ) (rights : Rights) where
  page : (q : Page) × IsLeafPage target.depth space base level old (intersection given own) q
  page = page_here end.way some end.word_is end.premise end.canonical says

  told : (size : Size) × (found : ℕ) × IsEntryOf target memory base size found × (bits_in (size_at level) word ≡ bits_in size found)
  told = (size_at level, word, entry_of end.way end.word_is says, refl)

  -- what the space refuses is what the size refuses
  pub refused : refusal target space (Remap base phys rights) ≡ phys_refusal phys target.phys_bits (size_at level)
  refused = remap_refused (premise_table end.premise) page.1 aligned phys target.phys_bits

  pub would_change : (remap space base phys rights).answer ≡ answers.Changed (intersection given own)
  would_change = remap_answer (premise_table end.premise) page.1 aligned phys rights

  module _ (none : phys_refusal phys target.phys_bits (size_at level) ≡ None) (allows : intersection given rights ≡ rights) where
    abbrev new : ℕ
    new = with_rights (with_address (size_at level) word phys) rights

    good : (phys % bytes_of (size_at level) ≡ 0) × (phys + bytes_of (size_at level) ≤ 2 ^ 51)
    good = phys_good phys target.phys_bits (size_at level) none

    leads : meaning level new ≡ entry.Leaf phys rights
    leads = with_rights_reads level (with_address (size_at level) word phys) rights phys own some
        (with_address_reads level word phys old own some says good.0 (omega (arith, good.1)))

    -- the entry is so already
    pub same_parts : word ≡ new
        → Parts target (Remap base phys rights) memory space [] (replies.Answer (answers.Changed (intersection given own))) (bits_in (size_at level) word)
        None [] flushes.Nothing []
    same_parts same =
        let both = one_leaf (sym says ∙ ap (meaning level) same ∙ leads) in
        let rights_are : intersection given own ≡ rights = ap (intersection given) both.1 ∙ allows in
        nothing_parts {request = Remap base phys rights} end.premise (refused ∙ none) (size_at level, word, entry_of end.way end.word_is says, same)
        (sym would_change)
        (remap_translates (premise_table end.premise) page.1 aligned phys rights good.0 good.1 memory
        (λ b path. walk_at end.way some (entry.Leaf old own) (found_word level memory number base word end.word_is ∙ ap Some says) b path
        ∙ ap (Mapped (old + b % entry_bytes level) (size_at level)) rights_are
        ∙ ap (λ p. Mapped (p + b % entry_bytes level) (size_at level) rights) both.0)
        (λ b apart. refl)) told

    -- the entry is written
    pub written_parts : word ≢ new
        → Parts target (Remap base phys rights) memory space [] (replies.Answer (answers.Changed (intersection given own))) (bits_in (size_at level) word)
        None (store_at number (index_at level base) word new ∷ []) (flushes.Page base (size_at level)) []
    written_parts differs =
        let here = own_table end in
        record {
          reply = sym would_change;
          due = refused ∙ none;
          put = (
            refl,
            record {
              size = size_at level;
              entry_is = entry_of end.way end.word_is says;
              frame = refl;
              at = refl;
              new = refl;
            },
            refl,
          );
          fits = tt;
          safe = safe_one (store_at number (index_at level base) word new) end.premise.translates
              (remap_translates (premise_table end.premise) page.1 aligned phys rights good.0 good.1
              (stored memory (store_at number (index_at level base) word new))
              (λ b path. walk_here here new end.way some (entry.Leaf phys rights) leads b path
              ∙ ap (Mapped (phys + b % entry_bytes level) (size_at level)) allows)
              (walk_off here new));
          found = (end.word_is, tt);
          meant = All-cons (IsMeantBy target memory (Remap base phys rights) []) (store_at number (index_at level base) word new) []
              (OfPage (record { level = level; reached = way_table level number given end.way; index = refl }) (ap (λ e. table_in (Some e)) says)) (All-nil _);
          nothing = λ none. absurd (none (λ e. cc));
          written = refl;
          already = tt;
          changing = All-cons (λ (t : Store). t.old ≢ t.new) (store_at number (index_at level base) word new) [] differs (All-nil _);
          one_way = tt;
          told = told;
          flushed = (size_at level, entry_of end.way end.word_is says, refl);
          unlinked = All-nil _;
          pruned = tt;
          named_once = none_named;
          whole = whole_store here new;
          own = own_after here new (ap (λ e. table_in (Some e)) leads);
          reaches = λ l b q at. inl (fewer here new (ap (λ e. table_in (Some e)) leads) b l q at);
        }

-- ---- as the code has it

-- the entry that is written
abbrev pub moved_word : ℕ → ℕ → ℕ → Rights → ℕ
moved_word level word phys rights = with_rights (with_address (size_at level) word phys) rights

-- a refusal is one of the two
phys_reply : (phys phys_bits : ℕ) (size : Size) (reply : Reply) → phys_refusal phys phys_bits size ≡ Some reply
    → (reply ≡ replies.PhysUnaligned) ⊎ (reply ≡ replies.PhysRange)
phys_reply phys phys_bits size reply says = by (not (phys % bytes_of size == 0)) (nat_lt (2 ^ min phys_bits 51) (phys + bytes_of size)) says where
  by : (a b : Bool) → (if a then Some replies.PhysUnaligned else if b then Some replies.PhysRange else None) ≡ Some reply
      → (reply ≡ replies.PhysUnaligned) ⊎ (reply ≡ replies.PhysRange)
  by true b e = inl (cc)
  by false true e = inr (cc)
  by false false e = absurd (cc)

module _ {p : Planner} {word : ℕ} (end : IsAtEnd p) {old : ℕ} {own : Rights} (says : meaning p.level word ≡ entry.Leaf old own) {base phys : ℕ}
    {rights : Rights} (is : p.request ≡ Remap base phys rights) (aligned : base % bytes_of (size_at p.level) ≡ 0) where
  refused_as : {memory : Memory} (space : Space) → HasEnded memory p word
      → IsPremise p.target.depth memory p.target.root (address_of p.request) space
      → refusal p.target space p.request ≡ phys_refusal phys p.target.phys_bits (size_at p.level)
  refused_as space ended premise =
      due_as p.target space is (refused p.target (end_at end ended premise (ap address_of is)) end.some says aligned phys rights)

  -- the physical address is refused
  pub refused_right : {reply : Reply} → phys_refusal phys p.target.phys_bits (size_at p.level) ≡ Some reply → (plan : Plan)
      → ChangesNothing reply 0 plan → IsRightAt p word plan
  refused_right {reply} refuses plan none memory ended space premise =
      let due : refusal p.target space p.request ≡ Some reply = refused_as space ended premise ∙ refuses in
      ⊎_elim
      (λ (e : reply ≡ replies.PhysUnaligned).
      nothing_right premise (due ∙ ap Some e) plan (nothing_as none e refl) tt (due ∙ ap Some e) premise.translates refl)
      (λ (e : reply ≡ replies.PhysRange).
      nothing_right premise (due ∙ ap Some e) plan (nothing_as none e refl) tt (due ∙ ap Some e) premise.translates refl)
      (phys_reply phys p.target.phys_bits (size_at p.level) reply refuses)

  module _ (none : phys_refusal phys p.target.phys_bits (size_at p.level) ≡ None) where
    -- the entries above allow less
    pub less_right : intersection p.rights rights ≢ rights → (plan : Plan) → ChangesNothing replies.Rights 0 plan → IsRightAt p word plan
    less_right less plan nothing memory ended space premise =
        rights_right is (λ m allows. allows) less ended premise (refused_as space ended premise ∙ none)
        (ap changes (would_change p.target (end_at end ended premise (ap address_of is)) end.some says aligned phys rights)) plan nothing

    module _ (allows : intersection p.rights rights ≡ rights) {answer : Rights} (answer_is : answer ≡ intersection p.rights own) {bits : ℕ}
        (bits_are : bits ≡ bits_in (size_at p.level) word) {plan : Plan} (reply : plan.reply ≡ replies.Answer (answers.Changed answer))
        (told : plan.bits ≡ bits) (fill : plan.fill ≡ None) where
      pub same_right : plan.stores.items ≡ [] → plan.flush ≡ flushes.Nothing → plan.unlinked.items ≡ []
          → word ≡ moved_word p.level word phys rights → IsRightAt p word plan
      same_right stores flush unlinked same memory ended space premise =
          subst (λ r. IsRight p.target r memory space [] plan) (sym is)
          (right_as plan (reply ∙ ap (λ r. replies.Answer (answers.Changed r)) answer_is) (told ∙ bits_are) fill stores flush unlinked
          (same_parts p.target (end_at end ended premise (ap address_of is)) end.some says aligned phys rights none allows same))

      pub written_right : plan.stores.items ≡ store_at p.number (index_at p.level base) word (moved_word p.level word phys rights) ∷ []
          → plan.flush ≡ flushes.Page base (size_at p.level) → plan.unlinked.items ≡ [] → word ≢ moved_word p.level word phys rights → IsRightAt p word plan
      written_right stores flush unlinked differs memory ended space premise =
          subst (λ r. IsRight p.target r memory space [] plan) (sym is)
          (right_as plan (reply ∙ ap (λ r. replies.Answer (answers.Changed r)) answer_is) (told ∙ bits_are) fill stores flush unlinked
          (written_parts p.target (end_at end ended premise (ap address_of is)) end.some says aligned phys rights none allows differs))
