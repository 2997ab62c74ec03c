-- A plan is right by its parts.
use Rattle.std.proofs.Common.{AllPairs, ◌≡◌, ◌≢◌, ℕ, zero, suc, ◌<◌, ◌≤◌, List, [], ◌∷◌, ◌++◌, length, take, Option, Some, None, inl, refl, sym, ap, subst, ◌∙◌}
use Rattle.std.proofs.Common.{arith, IsTrue}
use Rattle.std.proofs.lemmas.List.{length-append, take-append-le}
use Rattle.std.proofs.lemmas.List.Elements.{All-nil}
use Rattle.std.proofs.Math.Seq.{take-length}
use Rattle.vs_types.specs.Depth.{index_at, IsCanonical}
use Rattle.vs_types.specs.Entry.{meaning}
use Rattle.vs_types.specs.declared.entries.entry.Meaning.TheVariants as entry
use Rattle.vs_types.specs.Space.{Space}
use Rattle.vs_types.specs.declared.addresses.page.Rights.{Rights}
use Rattle.vs_space.specs.Held.{word_at}
use Rattle.vs_space.specs.Path.{found_at}
use Rattle.vs_types.specs.declared.addresses.depth.Depth.{Depth}
use Rattle.vs_walk.specs.Memory.{Memory}
use Rattle.vs_walk.specs.Walk.{TranslatesAs}
use Rattle.vs_plan.specs.declared.plans.plan.Fill.{Fill}
use Rattle.vs_plan.specs.declared.plans.plan.Flush.{Flush}
use Rattle.vs_plan.specs.declared.plans.plan.Flush.TheVariants as flushes
use Rattle.vs_plan.specs.declared.plans.plan.Plan.{Plan}
use Rattle.vs_plan.specs.declared.plans.plan.Reply.{Reply}
use Rattle.vs_plan.specs.declared.plans.plan.Reply.TheVariants as replies
use Rattle.vs_plan.specs.declared.plans.plan.Step.{Step}
use Rattle.vs_plan.specs.declared.plans.plan.Step.TheVariants as steps
use Rattle.vs_plan.specs.declared.plans.plan.Store.{Store}
use Rattle.vs_plan.specs.Shown.{IsNext}
use Rattle.vs_plan.specs.declared.plans.request.Request.{Request}
use Rattle.vs_plan.specs.declared.plans.request.Request.TheVariants.{Map, Unmap, Prune}
use Rattle.vs_plan.specs.declared.plans.target.Target.{Target}
use Rattle.vs_plan.specs.Premise.{IsPremise}
use Rattle.vs_plan.specs.Request.{address_of, refusal, stepped}
use Rattle.vs_plan.specs.Answered.{IsReply, refusal_in, space_after, AllowsLess, WantsMore}
use Rattle.vs_plan.specs.Right.{IsWritten, IsOneWay, IsTold, IsPut, IsAlready, IsFlushed, IsRight}
use Rattle.vs_plan.specs.Answered.{IsDue, LeadsBeyond}
use Rattle.vs_plan.specs.Target.{frames_end}
use Rattle.vs_plan.specs.Stores.{stored, stored_all, AreSafe}
use Rattle.vs_plan.specs.Way.{IsWay}
use Rattle.vs_plan.specs.declared.plans.planner.Planner.{Planner}
use Rattle.vs_plan.specs.inside.Ended.{IsAtEnd, HasEnded, ChangesNothing, IsPlanned}
use Rattle.vs_plan.proofs.EntryStores.{IsOwnTable}
use Rattle.vs_plan.proofs.Stored.{used_word}
use Rattle.vs_plan.proofs.Ways.{way_table}
use Rattle.vs_types.specs.Laws.{changes}
use Rattle.vs_types.specs.Page.{intersection}

-- where no table is unlinked
pub none_named : AllPairs (λ (number other : ℕ). number ≢ other) []
none_named i j d lt within = absurd (omega arith)

-- words that mean different things are different
pub words_apart : (level old new : ℕ) → (meaning level old ≡ meaning level new → ⊥) → old ≢ new
words_apart level old new apart same = apart (ap (meaning level) same)

-- a plan with these parts is right
abbrev pub Parts : Target → Request → Memory → Space → List (Option ℕ) → Reply → ℕ → Option Fill → List Store → Flush → List ℕ → Type 0
Parts target request memory space offered reply bits fill stores flush unlinked = IsRight target request memory space offered (record {
  reply = reply;
  bits = bits;
  fill = fill;
  stores = record { items = stores };
  flush = flush;
  unlinked = record { items = unlinked };
})

module _ {target : Target} {request : Request} {memory : Memory} {space : Space} {offered : List (Option ℕ)} where
  pub right_as : (plan : Plan) {reply : Reply} {bits : ℕ} {fill : Option Fill} {stores : List Store} {flush : Flush} {unlinked : List ℕ}
      → plan.reply ≡ reply → plan.bits ≡ bits → plan.fill ≡ fill → plan.stores.items ≡ stores → plan.flush ≡ flush → plan.unlinked.items ≡ unlinked
      → Parts target request memory space offered reply bits fill stores flush unlinked → IsRight target request memory space offered plan
  right_as plan e1 e2 e3 e4 e5 e6 parts = subst (IsRight target request memory space offered) (λ i. record {
    reply = sym e1 i;
    bits = sym e2 i;
    fill = sym e3 i;
    stores = record { items = sym e4 i };
    flush = sym e5 i;
    unlinked = record { items = sym e6 i };
  }) parts

-- a refusal that is due of a request, where the request is written otherwise
pub due_as : (target : Target) (space : Space) {request other : Request} {due : Option Reply} → request ≡ other → refusal target space other ≡ due
    → refusal target space request ≡ due
due_as target space same is = ap (refusal target space) same ∙ is

-- ---- when stores are safe

module _ {depth : Depth} {m : Memory} {root : ℕ} {before after : Space} where
  pub safe_none : TranslatesAs depth m root before → TranslatesAs depth m root after → AreSafe depth m root before after []
  safe_none at then = record {
    switch = 0;
    until = λ n le few. let none : 0 ≡ n = omega arith in subst (λ k. TranslatesAs depth (stored_all m (take k [])) root before) none at;
    since = λ n lt few. absurd (omega arith);
    done = then;
  }

  -- the first store is the switch
  pub safe_first : (s : Store) (rest : List Store) → TranslatesAs depth m root before
      → ((n : ℕ) → n ≤ length rest → TranslatesAs depth (stored_all (stored m s) (take n rest)) root after)
      → AreSafe depth m root before after (s ∷ rest)
  safe_first s rest at then = record {
    switch = 0;
    until = λ n le few. let none : 0 ≡ n = omega arith in subst (λ k. TranslatesAs depth (stored_all m (take k (s ∷ rest))) root before) none at;
    since = later;
    done = subst (λ (xs : List Store). TranslatesAs depth (stored_all (stored m s) xs) root after) (take-length rest) (then (length rest) (omega arith));
  } where
    later : (n : ℕ) → 0 < n → n ≤ length (s ∷ rest) → TranslatesAs depth (stored_all m (take n (s ∷ rest))) root after
    later zero lt few = absurd (omega arith)
    later (suc n) lt few = then n (omega arith)

  pub safe_one : (s : Store) → TranslatesAs depth m root before → TranslatesAs depth (stored m s) root after → AreSafe depth m root before after (s ∷ [])
  safe_one s at then = safe_first s [] at (λ n le.
      let none : 0 ≡ n = omega arith in subst (λ k. TranslatesAs depth (stored_all (stored m s) (take k [])) root after) none then)

  -- the last store is the switch
  pub safe_last : (stores : List Store) (s : Store) → ((n : ℕ) → n ≤ length stores → TranslatesAs depth (stored_all m (take n stores)) root before)
      → TranslatesAs depth (stored_all m (stores ++ s ∷ [])) root after → AreSafe depth m root before after (stores ++ s ∷ [])
  safe_last stores s at then = record {
    switch = length stores;
    until = λ n le few. subst (λ (xs : List Store). TranslatesAs depth (stored_all m xs) root before) (sym (take-append-le n stores (s ∷ []) le)) (at n le);
    since = λ n lt few.
        let all : n ≡ length (stores ++ s ∷ []) = omega (arith, length-append stores (s ∷ []), few, lt) in
        subst (λ (xs : List Store). TranslatesAs depth (stored_all m xs) root after)
        (sym (ap (λ k. take k (stores ++ s ∷ [])) all ∙ take-length (stores ++ s ∷ []))) then;
    done = then;
  }

-- ---- a plan that changes nothing

pub due_of : (target : Target) (space : Space) (request : Request) (reply : Reply) → refusal target space request ≡ refusal_in reply
    → IsDue target space request reply
due_of target space request (replies.Reserved number index) due = tt
due_of target space request _ due = due

module _ {target : Target} {request : Request} {memory : Memory} {space : Space} {offered : List (Option ℕ)}
    (premise : IsPremise target.depth memory target.root (address_of request) space) {reply : Reply} {bits : ℕ} where
  pub nothing_parts : IsDue target space request reply → IsAlready target memory request reply [] → IsReply target request memory space offered reply
      → TranslatesAs target.depth memory target.root (space_after target request space reply)
      → IsTold target memory (address_of request) bits reply → Parts target request memory space offered reply bits None [] flushes.Nothing []
  nothing_parts due already is then told = record {
    reply = is;
    due = due;
    put = put_none request;
    fits = tt;
    safe = safe_none premise.translates then;
    found = tt;
    meant = All-nil _;
    nothing = λ none. refl;
    written = written_none request;
    already = already;
    changing = All-nil _;
    one_way = one_way_none request;
    told = told;
    flushed = flushed_none request;
    unlinked = All-nil _;
    pruned = tt;
    named_once = none_named;
    whole = premise.whole;
    own = λ a has. has;
    reaches = λ level address number at. inl at;
  } where
    written_none : (request : Request) → IsWritten request []
    written_none request = tt

    put_none : (request : Request) → IsPut target request memory offered None [] []
    put_none request = refl

    one_way_none : (request : Request) → IsOneWay request []
    one_way_none (Map page bits) = All-nil _
    one_way_none (Unmap base) = All-nil _
    one_way_none (Prune address) = All-nil _
    one_way_none _ = tt

    flushed_none : (request : Request) → IsFlushed target memory request [] [] flushes.Nothing
    flushed_none request = refl

  pub nothing_right : refusal target space request ≡ refusal_in reply → (plan : Plan) → ChangesNothing reply bits plan
      → IsAlready target memory request reply []
      → IsReply target request memory space offered reply
      → TranslatesAs target.depth memory target.root (space_after target request space reply)
      → IsTold target memory (address_of request) bits reply → IsRight target request memory space offered plan
  nothing_right due plan none already is then told =
      right_as plan none.reply_is none.bits_are none.fill none.stores none.flush none.unlinked
      (nothing_parts (due_of target space request reply due) already is then told)

-- a link leads beyond the physical addresses
pub beyond_right : {target : Target} {request : Request} {memory : Memory} {space : Space} {offered : List (Option ℕ)}
    → IsPremise target.depth memory target.root (address_of request) space → (plan : Plan) {number index : ℕ}
    → ChangesNothing (replies.Reserved number index) 0 plan → LeadsBeyond target memory number index → IsRight target request memory space offered plan
beyond_right premise plan none beyond =
    right_as plan none.reply_is none.bits_are none.fill none.stores none.flush none.unlinked
    (nothing_parts premise tt tt beyond premise.translates refl)

-- a link on a way leads beyond the physical addresses
pub leads_beyond : (target : Target) {memory : Memory} (address level number : ℕ) (rights : Rights) → 1 ≤ level
    → IsWay target.depth memory target.root address level number rights → {next : ℕ} {own : Rights}
    → found_at level memory number address ≡ Some (entry.Table next own) → {index : ℕ} → index ≡ index_at level address → frames_end target ≤ next
    → LeadsBeyond target memory number index
leads_beyond target address zero number rights some way found at far = absurd (omega (arith, some))
leads_beyond target address (suc level) number rights some way {next} {own} found at far = record {
  level = level;
  address = address;
  rights = rights;
  next = next;
  own = own;
  way = way;
  index_is = at;
  link = found;
  beyond = far;
}

-- ---- one store

abbrev pub store_at : ℕ → ℕ → ℕ → ℕ → Store
store_at frame index old new = record { frame = frame; index = index; old = old; new = new }

-- the list with one store, as it was made
pub only_store : (before : List Store) → before ≡ [] → (frame old : ℕ) {index at new word : ℕ} → index ≡ at → new ≡ word
    → before ++ store_at frame index old new ∷ [] ≡ store_at frame at old word ∷ []
only_store before none frame old {index} {at} {new} {word} same written =
    ap (λ (xs : List Store). xs ++ store_at frame index old new ∷ []) none
    ∙ ap (λ i. store_at frame i old new ∷ []) same ∙ ap (λ w. store_at frame at old w ∷ []) written

-- ---- the end of a way, at the address of the request

pub record EndAt (target : Target) (memory : Memory) (space : Space) (level number : ℕ) (rights : Rights) (word : ℕ) (address : ℕ) : Type 0 where
  pub premise : IsPremise target.depth memory target.root address space
  pub way : IsWay target.depth memory target.root address level number rights
  pub word_is : word_at memory number (index_at level address) ≡ Some word
  pub canonical : IsCanonical target.depth address

-- which is a table with no other way
pub own_table : {target : Target} {memory : Memory} {space : Space} {level number : ℕ} {rights : Rights} {word address : ℕ}
    → EndAt target memory space level number rights word address → IsOwnTable target.depth memory target.root level address number
own_table {memory = memory} {level = level} {number} {rights} {word} {address} end = record {
  own = end.premise.own;
  whole = end.premise.whole;
  used = used_word memory number (index_at level address) word end.word_is;
  at = way_table level number rights end.way;
}

pub end_at : {p : Planner} {word : ℕ} → IsAtEnd p → {memory : Memory} {space : Space} → HasEnded memory p word
    → IsPremise p.target.depth memory p.target.root (address_of p.request) space → {address : ℕ} → address_of p.request ≡ address
    → EndAt p.target memory space p.level p.number p.rights word address
end_at {p} {word} end {memory} {space} ended premise place = subst (EndAt p.target memory space p.level p.number p.rights word) place
    (record { premise = premise; way = ended.way; word_is = ended.word_is; canonical = end.request.canonical })

-- a plan that changes nothing, with its reply and bits written otherwise
pub nothing_as : {reply reply' : Reply} {bits bits' : ℕ} {plan : Plan} → ChangesNothing reply bits plan → reply ≡ reply' → bits ≡ bits'
    → ChangesNothing reply' bits' plan
nothing_as none same alike = record {
  reply_is = none.reply_is ∙ same;
  bits_are = none.bits_are ∙ alike;
  fill = none.fill;
  stores = none.stores;
  flush = none.flush;
  unlinked = none.unlinked;
}

-- the entries above a page that is to be changed allow less than it is to allow
pub rights_right : {p : Planner} {word : ℕ} {request : Request} {rights : Rights} → p.request ≡ request
    → ((memory : Memory) → AllowsLess p.target memory (address_of request) rights → WantsMore p.target memory request)
    → intersection p.rights rights ≢ rights → {memory : Memory} → HasEnded memory p word → {space : Space}
    → IsPremise p.target.depth memory p.target.root (address_of p.request) space → refusal p.target space p.request ≡ None
    → IsTrue (changes (stepped p.target.depth space request).answer) → (plan : Plan) → ChangesNothing replies.Rights 0 plan
    → IsRight p.target p.request memory space [] plan
rights_right {p} is wants less {memory} ended {space} premise due would plan none = nothing_right premise due plan none tt (
  subst (WantsMore p.target memory) (sym is) (wants memory (record {
    level = p.level;
    number = p.number;
    rights = p.rights;
    way = subst (λ a. IsWay p.target.depth memory p.target.root a p.level p.number p.rights) (ap address_of is) ended.way;
    less = less;
  })),
  ap (λ r. changes (stepped p.target.depth space r).answer) is ∙ would,
) premise.translates refl

-- ---- the end of a planner

pub planned_next : {memory : Memory} (p p' : Planner) {offered : List (Option ℕ)} {reply : Reply} (step : Step) → p'.target ≡ p.target → p'.request ≡ p.request
    → IsPlanned reply step
    → ((plan : Plan) → ChangesNothing reply 0 plan → (space : Space) → IsPremise p.target.depth memory p.target.root (address_of p.request) space
    → IsRight p.target p.request memory space offered plan)
    → IsNext memory p' offered step
planned_next p p' (steps.See number) same_target same_request planned right = absurd planned
planned_next p p' steps.Give same_target same_request planned right = absurd planned
planned_next {memory} p p' {offered} (steps.Planned plan) same_target same_request planned right = λ space premise.
    subst (λ (r : Request). IsRight p'.target r memory space offered plan) (sym same_request)
    (subst (λ (t : Target). IsRight t p.request memory space offered plan) (sym same_target)
    (right plan planned space
    (subst (λ (r : Request). IsPremise p.target.depth memory p.target.root (address_of r) space) same_request
    (subst (λ (t : Target). IsPremise t.depth memory t.root (address_of p'.request) space) same_target premise))))
