-- Plans that are made at the end of a way in a table of level 1 are right.
use Rattle.std.proofs.Common.{inl, ◌≡◌, ◌≢◌, ℕ, ◌+◌, ◌-◌, ◌*◌, ◌/◌, ◌%◌, ◌^◌, ◌<◌, ◌≤◌, [], ◌∷◌, Some, None, ⊎_elim, min, refl, sym, ap, ◌∙◌, arith}
use Rattle.std.specs.Prelude.{not, ◌==◌, nat_lt, if◌then◌else◌}
use Rattle.std.proofs.lemmas.Bool.{cases_lt, eq-eqb, ne_eqb}
use Rattle.std.proofs.lemmas.List.Elements.{All-nil}
use Rattle.vs_types.specs.Entry.{meaning, rights_of}
use Rattle.vs_types.specs.Page.{intersection}
use Rattle.vs_types.specs.declared.requests.answer.Answer.TheVariants as answers
use Rattle.vs_types.specs.declared.entries.entry.Meaning.TheVariants as entry
use Rattle.vs_types.specs.declared.addresses.page.Rights.{Rights}
use Rattle.vs_types.specs.declared.addresses.page.Size.TheVariants.{K4}
use Rattle.vs_walk.specs.Memory.{Memory}
use Rattle.vs_plan.specs.declared.plans.plan.Flush.TheVariants as flushes
use Rattle.vs_plan.specs.declared.plans.plan.Reply as outcomes
use Rattle.vs_plan.specs.declared.plans.plan.Reply.TheVariants as replies
use Rattle.vs_plan.specs.declared.plans.request.Request.{Request}
use Rattle.vs_plan.specs.declared.plans.request.Request.TheVariants.{Map, Unmap, Protect, Ask, Remap}
use Rattle.vs_plan.specs.declared.plans.target.Target.{Target}
use Rattle.vs_types.specs.Bits.{bits_in, page_word, rights_at, with_address, with_rights}
use Rattle.vs_plan.specs.Changes.{phys_refusal}
use Rattle.vs_plan.specs.Request.{IsRequest, address_of, lowest_of}
use Rattle.vs_plan.specs.Right.{IsRight}
use Rattle.vs_plan.specs.Target.{highest_link}
use Rattle.vs_plan.specs.inside.Ended.{ChangesNothing, HasEnded, IsAtEnd, IsNoMap}
use Rattle.vs_plan.proofs.Asking.{absent_right, ask_right}
use Rattle.vs_plan.proofs.Grown.{alone_right, overlap_right, wants_more}
use Rattle.vs_plan.proofs.Parts.{store_at}
use Rattle.vs_plan.proofs.Protecting as protects
use Rattle.vs_plan.proofs.Remapping as remaps
use Rattle.vs_plan.proofs.RunWords.{leaf_of}
use Rattle.vs_plan.proofs.Stored.{even_absent}
use Rattle.vs_plan.proofs.Unmapping.{unmap_right}
use Rattle.vs_types.proofs.BitWords.{page_reads}
use Rattle.nrvs_plan_c.specs.declared.end.End.{End}
use Rattle.nrvs_plan_c.specs.Kept.{page_in, rights_in}
use Rattle.nrvs_plan_c.specs.inside.End.{IsEndOf, Stays}
use Rattle.nrvs_plan_c.specs.inside.Written.{store_of}
use Rattle.nrvs_plan_c.proofs.Ends.{at_end, gone, has_ended}
use Rattle.nrvs_plan_c.proofs.EndsTold.{made}
use Rattle.nrvs_plan_c.proofs.Keeping.{RightFor}

leaf_here : (word : ℕ) → word % 2 ≡ 1 → meaning 1 word ≡ entry.Leaf (word % 2 ^ 52 / 2 ^ 12 * 2 ^ 12) (rights_of word)
leaf_here word odd =
    let low : word % 2 ^ 12 / 2 ^ 13 ≡ 0 = omega arith in
    leaf_of 1 word _ _ (record {
      present = omega (arith, odd);
      plain = ap (λ n. not (n == 0)) low;
      leaf = refl;
      address = refl;
      rights = refl;
    })

no_leaf : (word : ℕ) → word % 2 ≡ 0 → (phys : ℕ) (own : Rights) → meaning 1 word ≢ entry.Leaf phys own
no_leaf word even phys own says = let both : entry.Absent ≡ entry.Leaf phys own = sym (even_absent 1 word even) ∙ says in absurd (cc)

none_made : (reply : outcomes.Reply) (bits : ℕ) → ChangesNothing reply bits (made reply bits [] flushes.Nothing)
none_made reply bits = record { reply_is = refl; bits_are = refl; fill = refl; stores = refl; flush = refl; unlinked = refl }

module _ {target : Target} {memory : Memory} {end : End} where
  -- ---- no page is there

  module _ {request : Request} (no_map : IsNoMap request) (lowest : lowest_of request ≡ 1) (good : IsRequest target request)
      (is : IsEndOf target memory (address_of request) end) (even : end.word % 2 ≡ 0) where
    absent_for : ((base : ℕ) → request ≡ Unmap base → 0 < highest_link target → ⊥)
        → RightFor memory [] (made (replies.Answer answers.NotMapped) 0 [] flushes.Nothing) target request
    absent_for other space premise =
        absent_right {p = gone target request memory end 0} (at_end target request memory end 0 lowest (omega arith) good) no_map (no_leaf end.word even)
        (made (replies.Answer answers.NotMapped) 0 [] flushes.Nothing) (none_made (replies.Answer answers.NotMapped) 0) memory
        (has_ended target request memory end 0 lowest (omega arith) is (omega arith) (λ base eq low. absurd (other base eq low))) space premise

abbrev pinned : Target → Target
pinned target = record target { pinned = 1 }

module _ {target : Target} {memory : Memory} {base : ℕ} {end : End} where
  -- a plan that changes nothing doesn't depend on which tables stay
  pub unmap_absent : IsRequest target (Unmap base) → IsEndOf target memory base end → end.word % 2 ≡ 0
      → RightFor memory [] (made (replies.Answer answers.NotMapped) 0 [] flushes.Nothing) target (Unmap base)
  unmap_absent good is even space premise =
      let right : IsRight (pinned target) (Unmap base) memory space [] (made (replies.Answer answers.NotMapped) 0 [] flushes.Nothing) =
      absent_for {target = pinned target} {request = Unmap base} tt refl
      (record { phys_bits = record { from = good.phys_bits.from; to = good.phys_bits.to }; root = good.root; canonical = good.canonical; whole = good.whole })
      (record { way = is.way; index = is.index; word = is.word }) even (λ b eq low. omega (arith, low)) space premise in
      record {
        reply = right.reply;
        due = right.due;
        put = right.put;
        fits = right.fits;
        safe = right.safe;
        found = right.found;
        meant = All-nil _;
        nothing = right.nothing;
        written = right.written;
        already = tt;
        changing = right.changing;
        one_way = right.one_way;
        told = right.told;
        flushed = right.flushed;
        unlinked = All-nil _;
        pruned = tt;
        named_once = right.named_once;
        whole = right.whole;
        own = right.own;
        reaches = λ level address number at. inl at;
      }

  pub protect_absent : {rights : Rights} → IsRequest target (Protect base rights) → IsEndOf target memory base end → end.word % 2 ≡ 0
      → RightFor memory [] (made (replies.Answer answers.NotMapped) 0 [] flushes.Nothing) target (Protect base rights)
  protect_absent {rights} good is even = absent_for {request = Protect base rights} tt refl good is even (λ b eq low. cc)

  pub remap_absent : {phys : ℕ} {rights : Rights} → IsRequest target (Remap base phys rights) → IsEndOf target memory base end → end.word % 2 ≡ 0
      → RightFor memory [] (made (replies.Answer answers.NotMapped) 0 [] flushes.Nothing) target (Remap base phys rights)
  remap_absent {phys} {rights} good is even = absent_for {request = Remap base phys rights} tt refl good is even (λ b eq low. cc)

  pub ask_absent : IsRequest target (Ask base) → IsEndOf target memory base end → end.word % 2 ≡ 0
      → RightFor memory [] (made (replies.Answer answers.NotMapped) 0 [] flushes.Nothing) target (Ask base)
  ask_absent good is even = absent_for {request = Ask base} tt refl good is even (λ b eq low. cc)

  -- ---- a page is there

  pub ask_page : IsRequest target (Ask base) → IsEndOf target memory base end → end.word % 2 ≡ 1
      → RightFor memory [] (made (replies.Answer (answers.Mapped (end.word % 2 ^ 52 / 2 ^ 12 * 2 ^ 12 + base % 4096) K4
      (intersection (rights_at end.allowed) (rights_of end.word)))) (bits_in K4 end.word) [] flushes.Nothing) target (Ask base)
  ask_page good is odd space premise =
      ask_right {p = gone target (Ask base) memory end 0} (at_end target (Ask base) memory end 0 refl (omega arith) good)
      (leaf_here end.word odd) refl _ (none_made _ _) memory
      (has_ended target (Ask base) memory end 0 refl (omega arith) is (omega arith) (λ b eq low. absurd (cc))) space premise

  module _ {rights : Rights} (good : IsRequest target (Protect base rights)) (is : IsEndOf target memory base end) (odd : end.word % 2 ≡ 1) where
    protect_end : IsAtEnd (gone target (Protect base rights) memory end 0)
    protect_end = at_end target (Protect base rights) memory end 0 refl (omega arith) good

    protect_ended : HasEnded memory (gone target (Protect base rights) memory end 0) end.word
    protect_ended = has_ended target (Protect base rights) memory end 0 refl (omega arith) is (omega arith) (λ b eq low. absurd (cc))

    pub protect_less : intersection (rights_at end.allowed) rights ≢ rights
        → RightFor memory [] (made replies.Rights 0 [] flushes.Nothing) target (Protect base rights)
    protect_less less space premise =
        protects.less_right protect_end (leaf_here end.word odd) refl good.whole less _ (none_made _ _) memory protect_ended space premise

    module _ (allows : intersection (rights_at end.allowed) rights ≡ rights) where
      pub protect_same : end.word ≡ with_rights end.word rights
          → RightFor memory [] (made (replies.Answer (answers.Changed (intersection (rights_at end.allowed) (rights_of end.word)))) (bits_in K4 end.word) []
          flushes.Nothing) target (Protect base rights)
      protect_same same space premise =
          protects.same_right protect_end (leaf_here end.word odd) refl good.whole allows refl refl refl refl refl refl refl refl same memory protect_ended
          space premise

      pub protect_written : end.word ≢ with_rights end.word rights
          → RightFor memory [] (made (replies.Answer (answers.Changed (intersection (rights_at end.allowed) (rights_of end.word)))) (bits_in K4 end.word)
          (store_of end (with_rights end.word rights) ∷ []) (flushes.Page base K4)) target (Protect base rights)
      protect_written new space premise =
          protects.written_right protect_end (leaf_here end.word odd) refl good.whole allows refl refl refl refl refl
          (ap (λ i. store_at end.number i end.word (with_rights end.word rights) ∷ []) is.index) refl refl new memory protect_ended space premise

  module _ {phys : ℕ} {rights : Rights} (good : IsRequest target (Remap base phys rights)) (is : IsEndOf target memory base end)
      (odd : end.word % 2 ≡ 1) where
    remap_end : IsAtEnd (gone target (Remap base phys rights) memory end 0)
    remap_end = at_end target (Remap base phys rights) memory end 0 refl (omega arith) good

    remap_ended : HasEnded memory (gone target (Remap base phys rights) memory end 0) end.word
    remap_ended = has_ended target (Remap base phys rights) memory end 0 refl (omega arith) is (omega arith) (λ b eq low. absurd (cc))

    pub remap_refused : {reply : outcomes.Reply} → phys_refusal phys target.phys_bits K4 ≡ Some reply
        → RightFor memory [] (made reply 0 [] flushes.Nothing) target (Remap base phys rights)
    remap_refused refuses space premise =
        remaps.refused_right remap_end (leaf_here end.word odd) refl good.whole refuses _ (none_made _ _) memory remap_ended space premise

    module _ (none : phys_refusal phys target.phys_bits K4 ≡ None) where
      pub remap_less : intersection (rights_at end.allowed) rights ≢ rights
          → RightFor memory [] (made replies.Rights 0 [] flushes.Nothing) target (Remap base phys rights)
      remap_less less space premise =
          remaps.less_right remap_end (leaf_here end.word odd) refl good.whole none less _ (none_made _ _) memory remap_ended space premise

      module _ (allows : intersection (rights_at end.allowed) rights ≡ rights) where
        pub remap_same : end.word ≡ with_rights (with_address K4 end.word phys) rights
            → RightFor memory [] (made (replies.Answer (answers.Changed (intersection (rights_at end.allowed) (rights_of end.word)))) (bits_in K4 end.word) []
            flushes.Nothing) target (Remap base phys rights)
        remap_same same space premise =
            remaps.same_right remap_end (leaf_here end.word odd) refl good.whole none allows refl refl refl refl refl refl refl refl same memory remap_ended
            space premise

        pub remap_written : end.word ≢ with_rights (with_address K4 end.word phys) rights
            → RightFor memory [] (made (replies.Answer (answers.Changed (intersection (rights_at end.allowed) (rights_of end.word)))) (bits_in K4 end.word)
            (store_of end (with_rights (with_address K4 end.word phys) rights) ∷ []) (flushes.Page base K4)) target (Remap base phys rights)
        remap_written new space premise =
            remaps.written_right remap_end (leaf_here end.word odd) refl good.whole none allows refl refl refl refl refl
            (ap (λ i. store_at end.number i end.word (with_rights (with_address K4 end.word phys) rights) ∷ []) is.index) refl refl new memory remap_ended
            space premise

  module _ (good : IsRequest target (Unmap base)) (is : IsEndOf target memory base end) (odd : end.word % 2 ≡ 1) where
    abbrev Removed : Type 0
    Removed = RightFor memory [] (made (replies.Answer (answers.Removed (end.word % 2 ^ 52 / 2 ^ 12 * 2 ^ 12) K4
        (intersection (rights_at end.allowed) (rights_of end.word)))) (bits_in K4 end.word) (store_of end 0 ∷ []) (flushes.Page base K4)) target (Unmap base)

    -- where tables from this level on stay
    unmap_to : (stop : ℕ) → stop ≤ 1 → HasEnded memory (gone target (Unmap base) memory end stop) end.word → Removed
    unmap_to stop low ended space premise =
        let none : 0 ≡ stop - 1 = omega (arith, low) in
        unmap_right {p = gone target (Unmap base) memory end stop} (at_end target (Unmap base) memory end stop refl low good)
        (leaf_here end.word odd) refl good.whole _ 0 none refl refl refl
        (ap (λ i. store_at end.number i end.word 0 ∷ []) is.index) refl refl memory ended space premise

    pub unmap_page : Stays target memory base end → Removed
    unmap_page stays = ⊎_elim
        (λ (more : 1 < highest_link target). unmap_to 1 (omega arith)
        (has_ended target (Unmap base) memory end 1 refl (omega arith) is (omega (arith, more)) (λ b eq low. (
          omega arith,
          ⊎_elim (λ le. absurd (omega (arith, le, more))) (λ other. other) stays,
        ))))
        (λ (few : highest_link target ≤ 1). unmap_to (highest_link target) few
        (has_ended target (Unmap base) memory end (highest_link target) refl few is (omega arith) (λ b eq low. absurd (omega (arith, low)))))
        (cases_lt 1 (highest_link target))

  -- ---- a page is added

  module _ (phys bits code : ℕ) where
    module _ (good : IsRequest target (Map (page_in base 0 phys code) bits)) (is : IsEndOf target memory base end) where
      map_end : IsAtEnd (gone target (Map (page_in base 0 phys code) bits) memory end 0)
      map_end = at_end target (Map (page_in base 0 phys code) bits) memory end 0 refl (omega arith) good

      map_ended : HasEnded memory (gone target (Map (page_in base 0 phys code) bits) memory end 0) end.word
      map_ended = has_ended target (Map (page_in base 0 phys code) bits) memory end 0 refl (omega arith) is (omega arith) (λ b eq low. absurd (cc))

      pub map_overlaps : end.word % 2 ≡ 1
          → RightFor memory [] (made (replies.Answer (answers.Overlap base)) 0 [] flushes.Nothing) target (Map (page_in base 0 phys code) bits)
      map_overlaps odd space premise =
          let begins : base ≡ base - base % 4096 = omega (arith, good.whole.good.aligned) in
          overlap_right (gone target (Map (page_in base 0 phys code) bits) memory end 0) good refl map_end (leaf_here end.word odd) refl _ (record {
            reply_is = ap (λ b. replies.Answer (answers.Overlap b)) begins;
            bits_are = refl;
            fill = refl;
            stores = refl;
            flush = refl;
            unlinked = refl;
          }) memory map_ended space premise

      pub map_less : end.word % 2 ≡ 0 → intersection (rights_at end.allowed) (rights_in code) ≢ rights_in code
          → RightFor memory [] (made replies.Rights 0 [] flushes.Nothing) target (Map (page_in base 0 phys code) bits)
      map_less even less space premise =
          wants_more (gone target (Map (page_in base 0 phys code) bits) memory end 0) good refl map_end (even_absent 1 end.word even) (omega arith) less _
          (none_made _ _) memory map_ended space premise

      pub map_written : end.word % 2 ≡ 0 → intersection (rights_at end.allowed) (rights_in code) ≡ rights_in code
          → RightFor memory [] (made (replies.Answer answers.Done) 0 (store_of end (page_word (page_in base 0 phys code) bits) ∷ []) flushes.Nothing) target
          (Map (page_in base 0 phys code) bits)
      map_written even allows space premise =
          alone_right (gone target (Map (page_in base 0 phys code) bits) memory end 0) good refl map_end (even_absent 1 end.word even) (omega arith) allows
          refl refl
          (page_reads K4 phys bits (rights_in code) good.whole.good.phys_aligned (omega (arith, good.whole.good.phys_range)) good.whole.bits) refl refl refl
          (ap (λ i. store_at end.number i end.word (page_word (page_in base 0 phys code) bits) ∷ []) is.index) refl refl memory map_ended space premise

-- ---- a physical address that is refused

pub unaligned : (phys phys_bits : ℕ) → phys % 4096 ≢ 0 → phys_refusal phys phys_bits K4 ≡ Some replies.PhysUnaligned
unaligned phys phys_bits other =
    ap (λ b. if not b then Some replies.PhysUnaligned else if nat_lt (2 ^ min phys_bits 51) (phys + 4096) then Some replies.PhysRange else None)
    (ne_eqb (phys % 4096) 0 other)

pub in_order : (phys phys_bits : ℕ) → phys % 4096 ≡ 0
    → phys_refusal phys phys_bits K4 ≡ (if nat_lt (2 ^ min phys_bits 51) (phys + 4096) then Some replies.PhysRange else None)
in_order phys phys_bits same =
    ap (λ b. if not b then Some replies.PhysUnaligned else if nat_lt (2 ^ min phys_bits 51) (phys + 4096) then Some replies.PhysRange else None)
    (eq-eqb (phys % 4096) 0 same)

-- ---- rights written otherwise

pub lacks : {above wanted given asked : Rights} → above ≡ given → wanted ≡ asked → intersection above wanted ≢ wanted → intersection given asked ≢ asked
lacks {above} {wanted} {given} {asked} a b less e =
    less (ap (λ r. intersection r wanted) a ∙ ap (intersection given) b ∙ e ∙ sym b)

pub grants : {above wanted given asked : Rights} → above ≡ given → wanted ≡ asked → intersection above wanted ≡ wanted → intersection given asked ≡ asked
grants {above} {wanted} {given} {asked} a b all = sym (ap (intersection given) b) ∙ sym (ap (λ r. intersection r wanted) a) ∙ all ∙ b
