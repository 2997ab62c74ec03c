-- What a right plan says of the memory in which its stores begin.
use Rattle.std.proofs.Common.{◌≡◌, ◌≢◌, ℕ, ◌<◌, List, [], ◌∷◌, All, Option, Some, None, Bool, true, false, ⊎_elim, refl, sym, ap, subst, ◌∙◌}
use Rattle.std.proofs.lemmas.Bool.{cases_eq}
use Rattle.std.proofs.lemmas.List.Elements.{All-contains}
use Rattle.vs_types.specs.Depth.{levels, IsCanonical}
use Rattle.vs_types.specs.Laws.{changes}
use Rattle.vs_types.specs.Space.{Space, IsSpace, page_at}
use Rattle.vs_types.specs.Step.{Stepped}
use Rattle.vs_types.specs.declared.requests.answer.Answer.{Answer}
use Rattle.vs_types.specs.declared.addresses.depth.Depth.{Depth}
use Rattle.vs_types.specs.declared.addresses.page.Page.{Page}
use Rattle.vs_types.proofs.Spaces.{page_at_means}
use Rattle.vs_walk.specs.Memory.{Memory}
use Rattle.vs_space.specs.Path.{table_at}
use Rattle.vs_plan.specs.declared.plans.plan.Fill.{Fill}
use Rattle.vs_plan.specs.declared.plans.plan.Flush.{Flush}
use Rattle.vs_plan.specs.declared.plans.plan.Plan.{Plan}
use Rattle.vs_plan.specs.declared.plans.plan.Reply.{Reply}
use Rattle.vs_plan.specs.declared.plans.plan.Reply.TheVariants as replies
use Rattle.vs_plan.specs.declared.plans.plan.Store.{Store}
use Rattle.vs_plan.specs.declared.plans.request.Request.{Request}
use Rattle.vs_plan.specs.declared.plans.request.Request.TheVariants.{Map, Ask, Remap, Split, Join, UnmapPart, Collapse}
use Rattle.vs_plan.specs.declared.plans.target.Target.{Target}
use Rattle.vs_plan.specs.Changes.{change_page}
use Rattle.vs_plan.specs.Other.{HasSameTables}
use Rattle.vs_plan.specs.Premise.{IsPremise}
use Rattle.vs_plan.specs.Request.{address_of, stepped}
use Rattle.vs_plan.specs.Answered.{IsReply, Changes, space_after}
use Rattle.vs_plan.specs.Right.{IsRight, IsPut, IsMeantBy, IsFlushed, IsWritten, IsUnlinkedBy, IsOneWay, begun}
use Rattle.vs_plan.specs.Stores.{stored_all, filled, FindTheirWords, AreSafe}
use Rattle.vs_plan.proofs.Changing.{change_inside}
use Rattle.vs_plan.proofs.Sufficing.{AreUnreached}
use Rattle.vs_plan.proofs.Filled.{insert_same}

pub record IsGiven (target : Target) (request : Request) (memory start : Memory) (space : Space) (offered : List (Option ℕ)) (reply : Reply)
    (fill : Option Fill) (stores : List Store) (unlinked : List ℕ) (flush : Flush) : Type 0 where
  pub premise : IsPremise target.depth memory target.root (address_of request) space
  pub same : HasSameTables target.depth target.root memory start
  pub put : IsPut target request memory offered fill stores unlinked
  pub reply_is : IsReply target request memory space offered reply
  pub nothing : (Changes reply → ⊥) → stores ≡ []
  pub safe : AreSafe target.depth start target.root space (space_after target request space reply) stores
  pub found : FindTheirWords start stores
  pub meant : All (IsMeantBy target memory request unlinked) stores
  pub written : IsWritten request stores
  pub flushed : IsFlushed target memory request stores unlinked flush
  pub gone : All (IsUnlinkedBy target memory (stored_all start stores) request) unlinked
  pub one_way : IsOneWay request stores

-- ---- the table that is filled

one_fill : (x y : Fill) → Some y ≡ Some x → x ≡ y
one_fill x y e = cc

-- a right plan fills no table that a way leads to
pub filled_same : (target : Target) (request : Request) (memory : Memory) (offered : List (Option ℕ)) (fill : Option Fill) (stores : List Store)
    (unlinked : List ℕ) → IsPut target request memory offered fill stores unlinked → HasSameTables target.depth target.root memory (filled memory fill)
filled_same target request memory offered None stores unlinked put = λ level address number at. refl
filled_same target request memory offered (Some fill) stores unlinked put =
    insert_same target.depth target.root memory fill.frame _ (by request stores put) where
      by : (request : Request) (stores : List Store) → IsPut target request memory offered (Some fill) stores unlinked
          → (level b : ℕ) → table_at (levels target.depth) memory target.root level b ≢ Some fill.frame
      by request [] none = absurd (cc)
      by (Map page bits) (s ∷ later) none = absurd (cc)
      by (Ask address) (s ∷ later) none = absurd (cc)
      by (Split base) (s ∷ later) put =
          let same : put.0 ≡ fill = one_fill put.0 fill put.1 in
          subst (λ (f : Fill). (level b : ℕ) → table_at (levels target.depth) memory target.root level b ≢ Some f.frame) same put.2.spare.unreached
      by (UnmapPart base first count) (s ∷ later) put =
          let same : put.0 ≡ fill = one_fill put.0 fill put.1 in
          subst (λ (f : Fill). (level b : ℕ) → table_at (levels target.depth) memory target.root level b ≢ Some f.frame) same put.2.spare.unreached
      by _ (s ∷ later) put = let none = put.0 in absurd (cc)

pub parts_of : {target : Target} {request : Request} {memory : Memory} {space : Space} {offered : List (Option ℕ)} {plan : Plan}
    → IsPremise target.depth memory target.root (address_of request) space → IsRight target request memory space offered plan
    → IsGiven target request memory (begun memory plan) space offered plan.reply plan.fill plan.stores.items plan.unlinked.items plan.flush
parts_of {target} {request} {memory} {space} {offered} {plan} premise right = record {
  premise = premise;
  same = filled_same target request memory offered plan.fill plan.stores.items plan.unlinked.items right.put;
  put = right.put;
  reply_is = right.reply;
  nothing = right.nothing;
  safe = right.safe;
  found = right.found;
  meant = right.meant;
  written = right.written;
  flushed = right.flushed;
  gone = right.unlinked;
  one_way = right.one_way;
}

-- ---- the table that is unlinked was reached, and is no more

pub record WasUnlinked (target : Target) (memory after : Memory) (address number : ℕ) : Type 0 where
  pub level : ℕ
  pub was : table_at (levels target.depth) memory target.root level address ≡ Some number
  pub lower : level < levels target.depth
  pub unreached : (level b : ℕ) → table_at (levels target.depth) after target.root level b ≢ Some number

pub was_unlinked : (target : Target) (memory after : Memory) (request : Request) (number : ℕ) → IsUnlinkedBy target memory after request number
    → WasUnlinked target memory after (address_of request) number
was_unlinked target memory after (Map page bits) number is = record { level = is.level; was = is.was; lower = is.lower; unreached = is.unreached }
was_unlinked target memory after _ number is = record { level = is.level; was = is.was; lower = is.lower; unreached = is.unreached }

pub all_unreached : (target : Target) (memory after : Memory) (request : Request) (unlinked : List ℕ)
    → All (IsUnlinkedBy target memory after request) unlinked → AreUnreached target.depth target.root after unlinked
all_unreached target memory after request unlinked all number named =
    (was_unlinked target memory after request number (All-contains (IsUnlinkedBy target memory after request) unlinked number all named)).unreached

-- ---- where something is stored, a page begins at the base

-- the answer of a plan that stores something
pub changed_answer : (reply : Reply) (stores : List Store) → ((Changes reply → ⊥) → stores ≡ []) → (stores ≡ [] → ⊥)
    → (answer : Answer) × (reply ≡ replies.Answer answer) × (changes answer ≡ true)
changed_answer (replies.Answer answer) stores nothing some = by (changes answer) refl where
  by : (b : Bool) → changes answer ≡ b → (a : Answer) × (replies.Answer answer ≡ replies.Answer a) × (changes a ≡ true)
  by true is = (answer, refl, is)
  by false is = absurd (some (nothing (λ change. change is)))
changed_answer _ stores nothing some = absurd (some (nothing (λ none. none)))

module _ (space : Space) (base : ℕ) where
  abbrev pub BeginsThere : Type 0
  BeginsThere = (page : Page) × (page_at space base ≡ Some page) × (page.base ≡ base)

  -- where a change of the page there changes something
  change_begins_at : (after : Page → Space) (o : Option Page) → page_at space base ≡ o → changes (change_page space base after o).answer ≡ true
      → BeginsThere
  change_begins_at after None e is = absurd (cc)
  change_begins_at after (Some page) e is = ⊎_elim
      (λ (same : page.base ≡ base). (page, e, same))
      (λ (other : page.base ≢ base).
      let none : false ≡ true = ap (λ (s : Stepped). changes s.answer) (sym (change_inside space base after page refl other)) ∙ is in
      absurd (cc))
      (cases_eq page.base base)

-- a base at which a page begins is canonical
pub begins_canonical : {depth : Depth} {space : Space} → IsSpace depth space → (base : ℕ) → BeginsThere space base → IsCanonical depth base
begins_canonical {depth} {space} is base there =
    subst (IsCanonical depth) there.2 (is.well_formed there.0 ((page_at_means is base there.0).0 there.1).0).canonical

-- the requests by which a page is changed in another way than by its rights
abbrev pub IsChange : Request → ℕ → Type 0
IsChange (Remap at phys rights) base = at ≡ base
IsChange (Split at) base = at ≡ base
IsChange (Join at) base = at ≡ base
IsChange (UnmapPart at first count) base = at ≡ base
IsChange (Collapse at phys rights) base = at ≡ base
IsChange _ base = ⊥

pub change_begins : (depth : Depth) (space : Space) (request : Request) → IsChange request (address_of request)
    → changes (stepped depth space request).answer ≡ true → BeginsThere space (address_of request)
change_begins depth space (Remap base phys rights) is changed = change_begins_at space base _ (page_at space base) refl changed
change_begins depth space (Split base) is changed = change_begins_at space base _ (page_at space base) refl changed
change_begins depth space (Join base) is changed = change_begins_at space base _ (page_at space base) refl changed
change_begins depth space (UnmapPart base first count) is changed = change_begins_at space base _ (page_at space base) refl changed
change_begins depth space (Collapse base phys rights) is changed = change_begins_at space base _ (page_at space base) refl changed
change_begins depth space _ is changed = absurd is

pub change_canonical : {target : Target} {request : Request} {memory start : Memory} {space : Space} {offered : List (Option ℕ)} {reply : Reply}
    {fill : Option Fill} {stores : List Store} {unlinked : List ℕ} {flush : Flush}
    → IsGiven target request memory start space offered reply fill stores unlinked flush → IsChange request (address_of request) → (stores ≡ [] → ⊥)
    → IsCanonical target.depth (address_of request)
change_canonical {target} {request} {memory} {start} {space} {offered} {reply} {fill} {stores} {unlinked} {flush} given is some =
    let answer = changed_answer reply stores given.nothing some in
    let said : answer.0 ≡ (stepped target.depth space request).answer =
    subst (IsReply target request memory space offered) answer.1 given.reply_is in
    begins_canonical given.premise.is_space (address_of request)
    (change_begins target.depth space request is (ap changes (sym said) ∙ answer.2))
