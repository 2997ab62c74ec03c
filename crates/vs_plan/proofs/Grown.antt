-- The growth of new tables, as the code has it.
use Rattle.std.proofs.Common.{◌≡◌, ◌≢◌, ℕ, ◌+◌, ◌-◌, ◌%◌, ◌<◌, ◌≤◌, List, [], ◌∷◌, ◌++◌, length, Option, Some, None, refl, sym, ap, subst, ◌∙◌, arith}
use Rattle.std.specs.Prelude.{slice_index, All}
use Rattle.std.proofs.lemmas.List.Elements.{All-nil, All-push}
use Rattle.arrayvec.specs.ArrayVec.{ArrayVec}
use Rattle.std.specs.FinMap as finite
use Rattle.vs_types.specs.Depth.{index_at}
use Rattle.vs_types.specs.Entry.{meaning, size_at, all_rights, table_word}
use Rattle.vs_types.specs.Laws.{changes}
use Rattle.vs_types.specs.Page.{level_of, bytes_of, intersection}
use Rattle.vs_types.specs.Space.{Space, page_at, table_count, least_overlapped}
use Rattle.vs_types.specs.Step.{Stepped}
use Rattle.vs_types.specs.declared.addresses.page.Page.{Page}
use Rattle.vs_types.specs.declared.addresses.page.Rights.{Rights}
use Rattle.vs_types.specs.declared.entries.entry.Meaning.TheVariants as entry
use Rattle.vs_types.specs.declared.requests.answer.Answer.TheVariants as answers
use Rattle.vs_types.proofs.Overlaps.{overlapped_below}
use Rattle.vs_walk.specs.Memory.{Memory}
use Rattle.vs_walk.specs.Walk.{TranslatesAs}
use Rattle.vs_space.specs.Held.{word_at}
use Rattle.vs_plan.specs.declared.plans.plan.Flush.TheVariants as flushes
use Rattle.vs_plan.specs.declared.plans.plan.Plan.{Plan}
use Rattle.vs_plan.specs.declared.plans.plan.Reply.TheVariants as replies
use Rattle.vs_plan.specs.declared.plans.plan.Store.{Store}
use Rattle.vs_plan.specs.declared.plans.planner.Planner.{Planner}
use Rattle.vs_plan.specs.declared.plans.planner.Phase.TheVariants as phases
use Rattle.vs_plan.specs.declared.plans.request.Request.TheVariants.{Map}
use Rattle.vs_types.specs.Bits.{page_word}
use Rattle.vs_plan.specs.Planner.{IsSpareFor}
use Rattle.vs_plan.specs.Premise.{IsPremise}
use Rattle.vs_plan.specs.Request.{IsRequest, IsMapped, IsWhole, address_of, stepped}
use Rattle.vs_plan.specs.Right.{IsRight}
use Rattle.vs_plan.specs.Shown.{AreFilled, IsGrown}
use Rattle.vs_plan.specs.Target.{frames_end}
use Rattle.vs_plan.specs.Way.{IsWay}
use Rattle.vs_plan.specs.inside.Ended.{IsAtEnd, HasEnded, IsRightAt, ChangesNothing}
use Rattle.vs_plan.proofs.Asking.{page_met, offset_met}
use Rattle.vs_plan.proofs.Growing.{filled_more}
use Rattle.vs_plan.proofs.Mapping.{would_add, alone_parts, link_parts}
use Rattle.vs_plan.proofs.Parts.{right_as, nothing_right, due_as, store_at, EndAt, end_at, rights_right}
use Rattle.vs_space.proofs.Maps.{map_overlaps}

-- the growth, by the page and the bits that are asked for
pub record GrownAt (memory : Memory) (p : Planner) (page : Page) (bits : ℕ) : Type 0 where
  pub way : IsWay p.target.depth memory p.target.root page.base p.level p.number p.rights
  pub word_is : word_at memory p.number (index_at p.level page.base) ≡ Some (slice_index p.words p.level)
  pub absent : meaning p.level (slice_index p.words p.level) ≡ entry.Absent
  pub allows : intersection p.rights page.rights ≡ page.rights
  pub within : All (λ (store : Store). store.frame < frames_end p.target) p.stores.items
  pub filled : AreFilled p.target.depth memory p.target.root page bits p.height p.below p.stores.items

same_map : {page page' : Page} {bits bits' : ℕ} → Map page bits ≡ Map page' bits' → (page ≡ page') × (bits ≡ bits')
same_map e = (cc, cc)

pub grown_at : {memory : Memory} {p : Planner} {page : Page} {bits : ℕ} → IsGrown memory p → p.request ≡ Map page bits → GrownAt memory p page bits
grown_at {memory} {p} {page} {bits} grown is =
    let e : Map grown.page grown.bits ≡ Map page bits = sym grown.request ∙ is in
    subst (λ b. GrownAt memory p page b) (same_map e).1
    (subst (λ g. GrownAt memory p g grown.bits) (same_map e).0
    (record { way = grown.way; word_is = grown.word_is; absent = grown.absent; allows = grown.allows; within = grown.within; filled = grown.filled }))

pub grown_more : {memory : Memory} {p : Planner} {page : Page} {bits number index w : ℕ} {stores : ArrayVec Store} → IsGrown memory p
    → p.request ≡ Map page bits
    → level_of page.size ≤ p.height → length p.stores.items + level_of page.size ≡ p.height → IsSpareFor memory p number → number < frames_end p.target
    → (p.height ≡ level_of page.size → (w ≡ page_word page bits) × (meaning (level_of page.size) w ≡ entry.Leaf page.phys page.rights))
    → (level_of page.size < p.height → (w ≡ table_word p.below) × (meaning p.height w ≡ entry.Table p.below all_rights))
    → index ≡ index_at p.height page.base → stores.items ≡ p.stores.items ++ store_at number index 0 w ∷ []
    → IsGrown memory (record p { height = p.height + 1; below = number; stores = stores })
grown_more {memory} {p} {page} {bits} {number} {index} {w} {stores} grown is lowest count spare low at above place are =
    let here = grown_at grown is in
    record {
      page = page;
      bits = bits;
      request = is;
      way = here.way;
      word_is = here.word_is;
      absent = here.absent;
      allows = here.allows;
      within = subst (λ (xs : List Store). All (λ (s : Store). s.frame < frames_end p.target) xs) (sym are)
          (All-push (λ (s : Store). s.frame < frames_end p.target) p.stores.items (store_at number index 0 w) here.within low);
      filled = subst (λ (xs : List Store). AreFilled p.target.depth memory p.target.root page bits (p.height + 1) number xs)
          (sym (are ∙ ap (λ i. p.stores.items ++ store_at number i 0 w ∷ []) place))
          (filled_more here.filled lowest count spare.spare spare.new w at above);
    }

module _ (p : Planner) {page : Page} {bits : ℕ} (request : IsRequest p.target p.request) (is : p.request ≡ Map page bits) where
  mapped : IsMapped p.target page bits
  mapped = subst (IsWhole p.target) is request.whole

  -- ---- the page's entry alone

  module _ {word : ℕ} (end : IsAtEnd p) (says : meaning p.level word ≡ entry.Absent) (lowest : level_of page.size ≤ p.level) where
    -- the growth begins
    pub growth_begins : intersection p.rights page.rights ≡ page.rights → {memory : Memory} → HasEnded memory p word → {height : ℕ}
        → height ≡ level_of page.size
        → {stores : ArrayVec Store} → stores.items ≡ []
        → IsGrown memory (record p { phase = phases.Growth; height = height; below = 0; stores = stores })
    growth_begins allows {memory} ended {height} is_low {stores} none = record {
      page = page;
      bits = bits;
      request = is;
      way = subst (λ a. IsWay p.target.depth memory p.target.root a p.level p.number p.rights) (ap address_of is) ended.way;
      word_is = subst (λ a. word_at memory p.number (index_at p.level a) ≡ Some (slice_index p.words p.level)) (ap address_of is)
          (ended.word_is ∙ ap Some (sym ended.last));
      absent = ap (meaning p.level) ended.last ∙ says;
      allows = allows;
      within = subst (λ (xs : List Store). All (λ (s : Store). s.frame < frames_end p.target) xs) (sym none) (All-nil _);
      filled = subst (λ h. AreFilled p.target.depth memory p.target.root page bits h 0 stores.items) (sym is_low)
          (subst (λ (xs : List Store). AreFilled p.target.depth memory p.target.root page bits (level_of page.size) 0 xs) (sym none)
          (record {
            found = tt;
            spare = All-nil _;
            written = tt;
            hang = λ deep. absurd (omega arith);
            ends = tt;
            absent = All-nil _;
            changing = All-nil _;
            lone = λ deep. absurd (omega arith);
          }));
    }

    pub alone_right : intersection p.rights page.rights ≡ page.rights → p.level ≡ level_of page.size → {w : ℕ} → w ≡ page_word page bits
        → meaning (level_of page.size) w ≡ entry.Leaf page.phys page.rights → {plan : Plan} → plan.reply ≡ replies.Answer answers.Done
        → plan.bits ≡ 0 → plan.fill ≡ None
        → plan.stores.items ≡ store_at p.number (index_at p.level page.base) word w ∷ [] → plan.flush ≡ flushes.Nothing → plan.unlinked.items ≡ []
        → IsRightAt p word plan
    alone_right allows at {w} is_word leads {plan} reply told fill stores flush unlinked memory ended space premise =
        subst (λ r. IsRight p.target r memory space [] plan) (sym is)
        (right_as plan reply told fill stores flush unlinked
        (alone_parts p.target bits (end_at end ended premise (ap address_of is)) end.some mapped.good says lowest allows [] at w is_word leads))

    -- the entries above allow less
    pub wants_more : intersection p.rights page.rights ≢ page.rights → (plan : Plan) → ChangesNothing replies.Rights 0 plan → IsRightAt p word plan
    wants_more less plan none memory ended space premise =
        rights_right is (λ m allows. allows) less ended premise (due_as p.target space is refl)
        (ap changes (would_add p.target bits (end_at end ended premise (ap address_of is)) end.some mapped.good says lowest)) plan none

  -- ---- a page is there

  pub overlap_right : {word : ℕ} (end : IsAtEnd p) {phys : ℕ} {own : Rights} → meaning p.level word ≡ entry.Leaf phys own → {bytes : ℕ}
      → bytes ≡ bytes_of (size_at p.level) → (plan : Plan) → ChangesNothing (replies.Answer (answers.Overlap (page.base - page.base % bytes))) 0 plan
      → IsRightAt p word plan
  overlap_right {word} end says {bytes} bytes_are plan none memory ended space premise =
      let here = page_met end says ended premise in
      let q = here.0 in
      let place : address_of p.request ≡ page.base = ap address_of is in
      let offset = offset_met end says ended premise in
      let begins : q.base + page.base % bytes ≡ page.base =
      subst (λ n. q.base + page.base % n ≡ page.base) (sym bytes_are)
      (subst (λ a. q.base + a % bytes_of (size_at p.level) ≡ a) place (omega (arith, here.1.base, offset))) in
      let base_is : q.base ≡ page.base - page.base % bytes = omega (arith, begins) in
      let least : least_overlapped space page ≡ Some q.base =
      overlapped_below premise.is_space page q (subst (λ a. page_at space a ≡ Some q) place here.1.here) in
      let stays : stepped p.target.depth space p.request ≡ record { space = space; answer = answers.Overlap (page.base - page.base % bytes) } =
      ap (stepped p.target.depth space) is
      ∙ map_overlaps p.target.depth (table_count p.target.depth (finite.insert space page.base page)) space page (page.base - page.base % bytes)
      (least ∙ ap Some base_is) in
      nothing_right premise (due_as p.target space is refl) plan none tt (sym (ap (λ (s : Stepped). s.answer) stays))
      (subst (λ (s : Space). TranslatesAs p.target.depth memory p.target.root s) (sym (ap (λ (s : Stepped). s.space) stays)) premise.translates) refl

  -- ---- the new tables are linked

  pub link_right : {memory : Memory} → IsGrown memory p → 1 ≤ p.level → level_of page.size < p.level → p.height ≡ p.level → (w : ℕ) → w ≡ table_word p.below
      → meaning p.level w ≡ entry.Table p.below all_rights → {plan : Plan} {offered : List (Option ℕ)}
      → plan.reply ≡ replies.Answer answers.Done → plan.bits ≡ 0 → plan.fill ≡ None
      → plan.stores.items ≡ p.stores.items ++ store_at p.number (index_at p.level page.base) (slice_index p.words p.level) w ∷ []
      → plan.flush ≡ flushes.Nothing → plan.unlinked.items ≡ []
      → (space : Space) → IsPremise p.target.depth memory p.target.root (address_of p.request) space → IsRight p.target p.request memory space offered plan
  link_right {memory} grown some deep height_is w link_is leads {plan} {offered} reply told fill stores flush unlinked space premise =
      let here = grown_at grown is in
      let end : EndAt p.target memory space p.level p.number p.rights (slice_index p.words p.level) page.base =
      record {
        premise = subst (λ a. IsPremise p.target.depth memory p.target.root a space) (ap address_of is) premise;
        way = here.way;
        word_is = here.word_is;
        canonical = mapped.good.canonical;
      } in
      subst (λ r. IsRight p.target r memory space offered plan) (sym is)
      (right_as plan reply told fill stores flush unlinked
      (link_parts p.target bits end some mapped.good here.absent (omega (arith, deep)) here.allows
      (subst (λ h. AreFilled p.target.depth memory p.target.root page bits h p.below p.stores.items) height_is here.filled) here.within deep
      w link_is leads offered))
