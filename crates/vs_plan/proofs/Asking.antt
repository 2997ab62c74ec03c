-- Plans that change nothing: what is asked, and where no page begins.
use Rattle.std.proofs.Common.{◌≡◌, ◌≢◌, ℕ, ◌+◌, ◌-◌, ◌%◌, ◌<◌, ◌≤◌, Some, None, ⊎_elim, refl, sym, ap, subst, ◌∙◌, arith}
use Rattle.std.proofs.lemmas.Bool.{cases_lt}
use Rattle.vs_types.specs.Depth.{index_at}
use Rattle.vs_types.specs.Entry.{meaning, size_at}
use Rattle.vs_types.specs.Page.{bytes_of, intersection}
use Rattle.vs_types.specs.Space.{Space, page_at}
use Rattle.vs_types.specs.Step.{Stepped, look}
use Rattle.vs_types.specs.declared.addresses.depth.Depth.{Depth}
use Rattle.vs_types.specs.declared.addresses.page.Page.{Page}
use Rattle.vs_types.specs.declared.addresses.page.Rights.{Rights}
use Rattle.vs_types.specs.declared.entries.entry.Meaning.{Meaning}
use Rattle.vs_types.specs.declared.entries.entry.Meaning.TheVariants as entry
use Rattle.vs_types.specs.declared.requests.answer.Answer.TheVariants as answers
use Rattle.vs_types.proofs.Spaces.{look_of_none}
use Rattle.vs_walk.specs.Memory.{Memory}
use Rattle.vs_walk.specs.Walk.{TranslatesAs}
use Rattle.vs_space.specs.Held.{word_at}
use Rattle.vs_space.specs.Path.{table_in}
use Rattle.vs_space.proofs.Meets.{never_table}
use Rattle.vs_space.proofs.Protects.{unmap_none, protect_none, unmap_inside, protect_inside}
use Rattle.vs_space.proofs.Regions.{IsLeafPage}
use Rattle.vs_plan.specs.declared.plans.plan.Plan.{Plan}
use Rattle.vs_plan.specs.declared.plans.plan.Reply.TheVariants as replies
use Rattle.vs_plan.specs.declared.plans.planner.Planner.{Planner}
use Rattle.vs_plan.specs.declared.plans.request.Request.{Request}
use Rattle.vs_plan.specs.declared.plans.request.Request.TheVariants.{Map, Unmap, Protect, Ask, Remap, Split, Join, Prune, UnmapPart, Collapse}
use Rattle.vs_plan.specs.declared.plans.target.Target.{Target}
use Rattle.vs_types.specs.Bits.{bits_in}
use Rattle.vs_plan.specs.Premise.{IsPremise}
use Rattle.vs_plan.specs.Request.{address_of, lowest_of, stepped, refusal}
use Rattle.vs_plan.specs.Right.{IsEntryOf}
use Rattle.vs_plan.specs.Way.{IsWay}
use Rattle.vs_plan.specs.inside.Ended.{IsAtEnd, IsNoMap, HasEnded, IsRightAt, ChangesNothing}
use Rattle.vs_plan.proofs.Changing.{change_none, change_inside, why_none}
use Rattle.vs_plan.proofs.Pages.{absent_here, reserved_never, page_here}
use Rattle.vs_plan.proofs.Parts.{nothing_right, due_as}
use Rattle.vs_plan.proofs.Ways.{way_table}

-- a word is the leaf that is read of it
pub read_leaf : (level : ℕ) {word taken phys : ℕ} {read : Meaning} {own : Rights} → taken ≡ word → read ≡ meaning level taken
    → read ≡ entry.Leaf phys own → meaning level word ≡ entry.Leaf phys own
read_leaf level same is leaf = ap (meaning level) (sym same) ∙ sym is ∙ leaf

-- ---- no page covers the address

stepped_none : (target : Target) (space : Space) (request : Request) → IsNoMap request → page_at space (address_of request) ≡ None
    → stepped target.depth space request ≡ record { space = space; answer = answers.NotMapped }
stepped_none target space (Map page bits) no_map none = absurd no_map
stepped_none target space (Unmap base) no_map none = unmap_none target.depth 0 space base none
stepped_none target space (Protect base rights) no_map none = protect_none target.depth 0 space base rights none
stepped_none target space (Ask address) no_map none = ap (λ a. let s : Stepped = record { space = space; answer = a } in s) (look_of_none space address none)
stepped_none target space (Prune address) no_map none = absurd no_map
stepped_none target space request no_map none = change_none space (address_of request) _ none

-- no refusal is due where no page begins at the address
pub no_refusal : (target : Target) (space : Space) (request : Request)
    → ((q : Page) → page_at space (address_of request) ≡ Some q → q.base ≢ address_of request) → refusal target space request ≡ None
no_refusal target space (Remap base phys rights) begins = why_none base _ (page_at space base) begins
no_refusal target space (Split base) begins = why_none base _ (page_at space base) begins
no_refusal target space (Join base) begins = why_none base _ (page_at space base) begins
no_refusal target space (UnmapPart base first count) begins = why_none base _ (page_at space base) begins
no_refusal target space (Collapse base phys rights) begins = why_none base _ (page_at space base) begins
no_refusal target space _ begins = refl

-- a request that changes a page that is there
abbrev pub IsOfPage : Request → Type 0
IsOfPage (Map page bits) = ⊥
IsOfPage (Ask address) = ⊥
IsOfPage (Prune address) = ⊥
IsOfPage _ = Unit {0}

-- which begins elsewhere
stepped_inside : (target : Target) (space : Space) (request : Request) → IsOfPage request → (q : Page) → page_at space (address_of request) ≡ Some q
    → q.base ≢ address_of request → stepped target.depth space request ≡ record { space = space; answer = answers.Inside q.base }
stepped_inside target space (Map page bits) of_page q here apart = absurd of_page
stepped_inside target space (Unmap base) of_page q here apart = unmap_inside target.depth 0 space base q here apart
stepped_inside target space (Protect base rights) of_page q here apart = protect_inside target.depth 0 space base rights q here apart
stepped_inside target space (Ask address) of_page q here apart = absurd of_page
stepped_inside target space (Prune address) of_page q here apart = absurd of_page
stepped_inside target space request of_page q here apart = change_inside space (address_of request) _ q here apart

lowest_no_map : (request : Request) → IsNoMap request → lowest_of request ≡ 1
lowest_no_map (Map page bits) no_map = absurd no_map
lowest_no_map _ no_map = refl

module _ {p : Planner} {word : ℕ} (end : IsAtEnd p) where
  module _ {memory : Memory} {space : Space} (ended : HasEnded memory p word)
      (premise : IsPremise p.target.depth memory p.target.root (address_of p.request) space) where
    pub never_reserved : meaning p.level word ≡ entry.Reserved → ⊥
    never_reserved says = reserved_never ended.way end.some ended.word_is premise end.request.canonical says

    -- what is no leaf and not reserved is absent
    absent_end : IsNoMap p.request → (e : Meaning) → meaning p.level word ≡ e → ((phys : ℕ) (own : Rights) → e ≢ entry.Leaf phys own) → e ≡ entry.Absent
    absent_end no_map entry.Absent says other = refl
    absent_end no_map entry.Reserved says other = absurd (never_reserved says)
    absent_end no_map (entry.Leaf phys own) says other = absurd (other phys own refl)
    absent_end no_map (entry.Table next own) says other = ⊎_elim
        (λ (deep : 1 < p.level).
        let none : table_in (Some (entry.Table next own)) ≡ None =
        ap (λ e. table_in (Some e)) (sym says) ∙ ended.ends (omega (arith, lowest_no_map p.request no_map, deep)) in
        cc)
        (λ (last : p.level ≤ 1).
        let one : p.level ≡ 1 = omega (arith, end.some) in
        absurd (never_table word next own (ap (λ l. meaning l word) (sym one) ∙ says)))
        (cases_lt 1 p.level)

  pub absent_right : IsNoMap p.request → ((phys : ℕ) (own : Rights) → meaning p.level word ≢ entry.Leaf phys own) → (plan : Plan)
      → ChangesNothing (replies.Answer answers.NotMapped) 0 plan → IsRightAt p word plan
  absent_right no_map other plan none memory ended space premise =
      let absent = absent_end ended premise no_map (meaning p.level word) refl other in
      let nothing = absent_here ended.way end.some ended.word_is premise end.request.canonical absent in
      let stays = stepped_none p.target space p.request no_map nothing in
      nothing_right premise (no_refusal p.target space p.request (λ q here. let both : Some q ≡ None = sym here ∙ nothing in absurd (cc))) plan none tt
      (sym (ap (λ (s : Stepped). s.answer) stays))
      (subst (λ (s : Space). TranslatesAs p.target.depth memory p.target.root s) (sym (ap (λ (s : Stepped). s.space) stays)) premise.translates) refl

  pub reserved_right : meaning p.level word ≡ entry.Reserved → (plan : Plan) → IsRightAt p word plan
  reserved_right says plan memory ended space premise = absurd (never_reserved ended premise says)

-- ---- a page covers the address

-- the entry at the end of the way
abbrev pub entry_of : {target : Target} {memory : Memory} {address level number word phys : ℕ} {rights own : Rights}
    → IsWay target.depth memory target.root address level number rights → word_at memory number (index_at level address) ≡ Some word
    → meaning level word ≡ entry.Leaf phys own → IsEntryOf target memory address (size_at level) word
entry_of {level = level} {number} {phys = phys} {rights} {own} way word_is says = record {
  level = level;
  number = number;
  reached = way_table level number rights way;
  word_is = word_is;
  leaf = (phys, own, says);
  size_is = refl;
}

-- the answer of a look, by the page
look_is : {depth : Depth} {space : Space} {address level phys : ℕ} {given : Rights} {q : Page} → IsLeafPage depth space address level phys given q
    → look space address ≡ answers.Mapped (phys + address % bytes_of (size_at level)) (size_at level) given
look_is {space = space} {address} {level} {phys} {given} {q} leaf =
    let bytes : bytes_of q.size ≡ bytes_of (size_at level) = ap bytes_of leaf.size in
    let offset : address % bytes_of q.size ≡ address % bytes_of (size_at level) = ap (λ n. address % n) bytes in
    let phys_is : q.phys + (address - q.base) ≡ phys + address % bytes_of (size_at level) = omega (arith, leaf.base, leaf.phys_is, offset) in
    let looks : look space address ≡ answers.Mapped (q.phys + (address - q.base)) q.size q.rights = rw leaf.here refl in
    looks ∙ cc (phys_is, leaf.size, leaf.rights)

module _ {p : Planner} {word : ℕ} (end : IsAtEnd p) {phys : ℕ} {own : Rights} (says : meaning p.level word ≡ entry.Leaf phys own) where
  -- the page is asked for
  pub ask_right : {address : ℕ} → p.request ≡ Ask address → (plan : Plan) → ChangesNothing
      (replies.Answer (answers.Mapped (phys + address % bytes_of (size_at p.level)) (size_at p.level) (intersection p.rights own)))
      (bits_in (size_at p.level) word) plan → IsRightAt p word plan
  ask_right {address} is plan none memory ended space premise =
      let here = page_here ended.way end.some ended.word_is premise end.request.canonical says in
      let place : address_of p.request ≡ address = ap address_of is in
      nothing_right premise (due_as p.target space is refl) plan none tt
      (subst (λ r. answers.Mapped (phys + address % bytes_of (size_at p.level)) (size_at p.level) (intersection p.rights own)
      ≡ (stepped p.target.depth space r).answer) (sym is)
      (subst (λ a. answers.Mapped (phys + a % bytes_of (size_at p.level)) (size_at p.level) (intersection p.rights own) ≡ look space a) place
      (sym (look_is here.1))))
      (subst (λ r. TranslatesAs p.target.depth memory p.target.root (stepped p.target.depth space r).space) (sym is) premise.translates)
      (word, entry_of ended.way ended.word_is says, refl)

  -- the address lies inside of the page
  module _ {memory : Memory} {space : Space} (ended : HasEnded memory p word)
      (premise : IsPremise p.target.depth memory p.target.root (address_of p.request) space) where
    pub page_met : (q : Page) × IsLeafPage p.target.depth space (address_of p.request) p.level phys (intersection p.rights own) q
    page_met = page_here ended.way end.some ended.word_is premise end.request.canonical says

    pub offset_met : address_of p.request % bytes_of page_met.0.size ≡ address_of p.request % bytes_of (size_at p.level)
    offset_met = ap (λ n. address_of p.request % n) (ap bytes_of page_met.1.size)

  pub inside_right : {request : Request} → p.request ≡ request → IsOfPage request → {bytes : ℕ} → bytes ≡ bytes_of (size_at p.level)
      → address_of request % bytes ≢ 0 → (plan : Plan)
      → ChangesNothing (replies.Answer (answers.Inside (address_of request - address_of request % bytes))) 0 plan → IsRightAt p word plan
  inside_right {request} is of_page {bytes} bytes_are inside plan none memory ended space premise =
      let here = page_met ended premise in
      let q = here.0 in
      let base = address_of request in
      let at : page_at space base ≡ Some q = subst (λ a. page_at space a ≡ Some q) (ap address_of is) here.1.here in
      let begins : q.base + base % bytes ≡ base = subst (λ n. q.base + base % n ≡ base) (sym bytes_are)
      (subst (λ a. q.base + a % bytes_of (size_at p.level) ≡ a) (ap address_of is) (omega (arith, here.1.base, offset_met ended premise))) in
      let apart : q.base ≢ base = λ e. inside (omega (arith, begins, e)) in
      let stays = ap (stepped p.target.depth space) is ∙ stepped_inside p.target space request of_page q at apart in
      let due = no_refusal p.target space request (λ z there same. let one : z ≡ q = cc (there, at) in apart (ap (λ (x : Page). x.base) (sym one) ∙ same)) in
      let base_is : q.base ≡ base - base % bytes = omega (arith, begins) in
      nothing_right premise (due_as p.target space is due) plan none tt (sym (ap (λ (s : Stepped). s.answer) stays ∙ ap answers.Inside base_is))
      (subst (λ (s : Space). TranslatesAs p.target.depth memory p.target.root s) (sym (ap (λ (s : Stepped). s.space) stays)) premise.translates) refl
