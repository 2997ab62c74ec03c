-- The split of a page, as the code has it.
use Rattle.std.proofs.Common.{◌≡◌, ℕ, zero, suc, ◌+◌, ◌-◌, ◌%◌, ◌^◌, ◌<◌, ◌≤◌, [], ◌∷◌, Option, Some, None, inl, inr, refl, sym, ap, subst, ◌∙◌, arith}
use lib.Pow.{pow_mono}
use Rattle.std.specs.Prelude.{slice_index}
use Rattle.arrayvec.specs.ArrayVec.{ArrayVec}
use Rattle.vs_types.specs.Depth.{index_at, IsCanonical}
use Rattle.vs_types.specs.Entry.{meaning, size_at, all_rights, table_word}
use Rattle.vs_types.specs.Page.{bytes_of, intersection}
use Rattle.vs_types.specs.Space.{Space, page_at}
use Rattle.vs_types.specs.declared.addresses.page.Rights.{Rights}
use Rattle.vs_types.specs.declared.entries.entry.Meaning.TheVariants as entry
use Rattle.vs_types.specs.declared.requests.answer.Answer.TheVariants as answers
use Rattle.vs_walk.specs.Memory.{Memory}
use Rattle.vs_walk.proofs.Walks.{leaf_level}
use Rattle.vs_walk.proofs.TranslatedBits.{leaf_lies}
use Rattle.vs_space.specs.Held.{word_at}
use Rattle.vs_plan.specs.declared.plans.plan.Fill.{Fill}
use Rattle.vs_plan.specs.declared.plans.plan.Flush.TheVariants as flushes
use Rattle.vs_plan.specs.declared.plans.plan.Plan.{Plan}
use Rattle.vs_plan.specs.declared.plans.plan.Reply.TheVariants as replies
use Rattle.vs_plan.specs.declared.plans.plan.Store.{Store}
use Rattle.vs_plan.specs.declared.plans.planner.Planner.{Planner}
use Rattle.vs_plan.specs.declared.plans.planner.Phase.TheVariants as phases
use Rattle.vs_plan.specs.declared.plans.request.Request.{Request}
use Rattle.vs_plan.specs.declared.plans.request.Request.TheVariants.{Split, UnmapPart}
use Rattle.vs_plan.specs.declared.plans.target.Target.{Target}
use Rattle.vs_types.specs.Bits.{bits_in}
use Rattle.vs_plan.specs.Changes.{smaller, smallest, split_refusal}
use Rattle.vs_plan.specs.Planner.{Divides}
use Rattle.vs_plan.specs.Premise.{IsPremise, IsSpare}
use Rattle.vs_plan.specs.Request.{IsRequest, IsWhole, address_of, refusal}
use Rattle.vs_plan.specs.Right.{IsRight}
use Rattle.vs_plan.specs.Shown.{IsDivided}
use Rattle.vs_plan.specs.Target.{frames_end, HasPhysBits}
use Rattle.vs_plan.specs.Way.{IsWay}
use Rattle.vs_plan.specs.inside.Ended.{IsAtEnd, IsNoMap, HasEnded, IsRightAt, ChangesNothing, DividesAround}
use Rattle.vs_plan.proofs.Asking.{IsOfPage, page_met, offset_met}
use Rattle.vs_plan.proofs.Dividing.{never_refused, parts_fill, split_parts}
use Rattle.vs_plan.proofs.Gaps.{unmapped_parts}
use Rattle.vs_plan.proofs.PartSpaces.{refused_there}
use Rattle.vs_plan.proofs.Parts.{right_as, nothing_right, store_at, EndAt}

-- what refuses a request that divides a page
divides_due : (target : Target) (space : Space) (request : Request) → Divides request → refusal target space request ≡ split_refusal space (address_of request)
divides_due target space (Split base) divides = refl
divides_due target space (UnmapPart base first count) divides = refl
divides_due target space _ divides = absurd divides

pub divides_page : (request : Request) → Divides request → IsNoMap request × IsOfPage request
divides_page (Split base) divides = (tt, tt)
divides_page (UnmapPart base first count) divides = (tt, tt)
divides_page _ divides = absurd divides

module _ {p : Planner} {word : ℕ} (end : IsAtEnd p) {phys : ℕ} {own : Rights} (says : meaning p.level word ≡ entry.Leaf phys own) {base : ℕ}
    (divides : Divides p.request) (place : address_of p.request ≡ base) where
  -- a page of 4 KiB has no parts
  pub smallest_right : base % bytes_of (size_at p.level) ≡ 0 → p.level ≡ 1 → (plan : Plan) → ChangesNothing replies.Smallest 0 plan → IsRightAt p word plan
  smallest_right aligned low plan none memory ended space premise =
      let here = page_met end says ended premise in
      let q = here.0 in
      let offset = offset_met end says ended premise in
      let begins : q.base ≡ base =
      omega (arith, here.1.base, offset, place, ap (λ a. a % bytes_of (size_at p.level)) place, aligned) in
      let small : smallest q.size ≡ Some replies.Smallest = ap smallest (here.1.size ∙ ap size_at low) in
      let due : refusal p.target space p.request ≡ Some replies.Smallest =
      divides_due p.target space p.request divides ∙ ap (split_refusal space) place
      ∙ refused_there space base q (subst (λ a. page_at space a ≡ Some q) place here.1.here) begins ∙ small in
      nothing_right premise due plan none tt due premise.translates refl

  -- the split waits for a frame
  pub division_begins : base % bytes_of (size_at p.level) ≡ 0 → 1 < p.level → {memory : Memory} → HasEnded memory p word
      → (height : ℕ) (stores : ArrayVec Store)
      → IsDivided memory (record p { phase = phases.Division; height = height; stores = stores })
  division_begins aligned large {memory} ended height stores = record {
    base = base;
    place = place;
    divides = divides;
    way = subst (λ a. IsWay p.target.depth memory p.target.root a p.level p.number p.rights) place ended.way;
    word_is = subst (λ a. word_at memory p.number (index_at p.level a) ≡ Some (slice_index p.words p.level)) place
        (ended.word_is ∙ ap Some (sym ended.last));
    page = (phys, own, ap (meaning p.level) ended.last ∙ says);
    aligned = aligned;
    large = large;
  }

-- the physical address of a page is a multiple of the next smaller size
pub part_aligned : (level word phys : ℕ) (own : Rights) → 1 ≤ level → meaning level word ≡ entry.Leaf phys own → {bytes : ℕ}
    → bytes ≡ bytes_of (smaller (size_at level)) → phys % bytes ≡ 0
part_aligned level word phys own some says {bytes} is = ap (λ n. phys % n) is ∙ by level some says where
  by : (level : ℕ) → 1 ≤ level → meaning level word ≡ entry.Leaf phys own → phys % bytes_of (smaller (size_at level)) ≡ 0
  by zero some says = absurd (omega arith)
  by (suc zero) some says = (leaf_lies 0 word phys own says).0
  by (suc (suc zero)) some says = omega (arith, (leaf_lies 1 word phys own says).0)
  by (suc (suc (suc zero))) some says = omega (arith, (leaf_lies 2 word phys own says).0)
  by (suc (suc (suc (suc level)))) some says = absurd (omega (arith, (leaf_level (suc (suc (suc (suc level)))) word phys own says).0))

-- a frame within the physical addresses has a number of 40 bits
pub frame_few : (target : Target) → HasPhysBits target → (number : ℕ) → number < frames_end target → number < 2 ^ 40
frame_few target bits number within =
    let le : target.phys_bits - 12 ≤ 40 = omega (arith, bits.to) in
    let most : 2 ^ (target.phys_bits - 12) ≤ 2 ^ 40 = pow_mono {j = 40} le in
    omega (arith, within, most)

pub fill_as : (frame gap count : ℕ) {first step first' step' : ℕ} → first ≡ first' → step ≡ step'
    → ◌≡◌ {A = Option Fill} (Some (record { frame = frame; first = first; step = step; gap = gap; gap_count = count }))
    (Some (record { frame = frame; first = first'; step = step'; gap = gap; gap_count = count }))
fill_as frame gap count is alike = rw (is, alike) refl

module _ {memory : Memory} {p : Planner} (divided : IsDivided memory p) (request : IsRequest p.target p.request) {space : Space}
    (premise : IsPremise p.target.depth memory p.target.root (address_of p.request) space) where
  divided_end : EndAt p.target memory space p.level p.number p.rights (slice_index p.words p.level) divided.base
  divided_end = record {
    premise = subst (λ a. IsPremise p.target.depth memory p.target.root a space) divided.place premise;
    way = divided.way;
    word_is = divided.word_is;
    canonical = subst (IsCanonical p.target.depth) divided.place request.canonical;
  }

  -- a page that has parts is refused nothing
  pub division_due : refusal p.target space p.request ≡ None
  division_due = divides_due p.target space p.request divided.divides ∙ ap (split_refusal space) divided.place
      ∙ never_refused p.target p.level divided_end divided.large divided.page.2 divided.aligned

  divided_right : {base number phys : ℕ} {own : Rights} → p.request ≡ Split base → meaning p.level (slice_index p.words p.level) ≡ entry.Leaf phys own
      → number < frames_end p.target → IsSpare p.target.depth memory p.target.root number
      → meaning p.level (table_word number) ≡ entry.Table number all_rights → {plan : Plan}
      → plan.reply ≡ replies.Answer (answers.Changed (intersection p.rights own)) → plan.bits ≡ bits_in (size_at p.level) (slice_index p.words p.level)
      → plan.fill ≡ Some (parts_fill number base p.level (slice_index p.words p.level) phys own)
      → plan.stores.items ≡ store_at p.number (index_at p.level base) (slice_index p.words p.level) (table_word number) ∷ []
      → plan.flush ≡ flushes.Range base (size_at p.level) → plan.unlinked.items ≡ []
      → IsRight p.target p.request memory space (Some number ∷ []) plan
  divided_right {base} {number} {phys} {own} is says within spare leads {plan} reply told fill stores flush unlinked =
      let same : divided.base ≡ base = sym divided.place ∙ ap address_of is in
      subst (λ r. IsRight p.target r memory space (Some number ∷ []) plan) (sym is)
      (right_as plan reply told fill stores flush unlinked
      (split_parts p.target p.level (subst (EndAt p.target memory space p.level p.number p.rights (slice_index p.words p.level)) same divided_end)
      divided.large says
      (subst (λ b. b % bytes_of (size_at p.level) ≡ 0) same divided.aligned) number within spare leads))

  unmapped_right : {base first count number phys : ℕ} {own : Rights} → p.request ≡ UnmapPart base first count
      → meaning p.level (slice_index p.words p.level) ≡ entry.Leaf phys own → first + count ≤ 512
      → number < frames_end p.target → IsSpare p.target.depth memory p.target.root number
      → meaning p.level (table_word number) ≡ entry.Table number all_rights → {plan : Plan}
      → plan.reply ≡ replies.Answer (answers.Changed (intersection p.rights own)) → plan.bits ≡ bits_in (size_at p.level) (slice_index p.words p.level)
      → plan.fill ≡ Some (record (parts_fill number base p.level (slice_index p.words p.level) phys own) { gap = first; gap_count = count })
      → plan.stores.items ≡ store_at p.number (index_at p.level base) (slice_index p.words p.level) (table_word number) ∷ []
      → plan.flush ≡ flushes.Range base (size_at p.level) → plan.unlinked.items ≡ []
      → IsRight p.target p.request memory space (Some number ∷ []) plan
  unmapped_right {base} {first} {count} {number} {phys} {own} is says fits within spare leads {plan} reply told fill stores flush unlinked =
      let same : divided.base ≡ base = sym divided.place ∙ ap address_of is in
      subst (λ r. IsRight p.target r memory space (Some number ∷ []) plan) (sym is)
      (right_as plan reply told fill stores flush unlinked
      (unmapped_parts p.target p.level (subst (EndAt p.target memory space p.level p.number p.rights (slice_index p.words p.level)) same divided_end)
      divided.large says
      (subst (λ b. b % bytes_of (size_at p.level) ≡ 0) same divided.aligned) number within spare leads first count fits))

  -- all parts, or those outside of a gap
  pub parts_right : {base gap count number phys : ℕ} {own : Rights} → DividesAround p.request base gap count
      → meaning p.level (slice_index p.words p.level) ≡ entry.Leaf phys own
      → number < frames_end p.target → IsSpare p.target.depth memory p.target.root number
      → meaning p.level (table_word number) ≡ entry.Table number all_rights → {plan : Plan}
      → plan.reply ≡ replies.Answer (answers.Changed (intersection p.rights own)) → plan.bits ≡ bits_in (size_at p.level) (slice_index p.words p.level)
      → plan.fill ≡ Some (record (parts_fill number base p.level (slice_index p.words p.level) phys own) { gap = gap; gap_count = count })
      → plan.stores.items ≡ store_at p.number (index_at p.level base) (slice_index p.words p.level) (table_word number) ∷ []
      → plan.flush ≡ flushes.Range base (size_at p.level) → plan.unlinked.items ≡ []
      → IsRight p.target p.request memory space (Some number ∷ []) plan
  parts_right {base} {gap} {count} {number} {phys} {own} (inl (is, none, few)) says within spare leads reply told fill stores flush unlinked =
      let around : ℕ → ℕ → Option Fill = λ g n.
      Some (record (parts_fill number base p.level (slice_index p.words p.level) phys own) { gap = g; gap_count = n }) in
      divided_right is says within spare leads reply told (fill ∙ ap (λ g. around g count) none ∙ ap (around 0) few) stores flush unlinked
  parts_right (inr is) says within spare leads reply told fill stores flush unlinked =
      unmapped_right is says (subst (IsWhole p.target) is request.whole).1.within within spare leads reply told fill stores flush unlinked
