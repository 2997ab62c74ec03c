-- What a kept call asks for, by its kind.
use Rattle.std.proofs.Common.{◌≡◌, ◌≢◌, ℕ, ◌+◌, ◌-◌, ◌<◌, ◌≤◌, ◌⊎◌, ⊎_elim, [], Bool, true, false, nat_eq, min, refl, sym, ap, subst, ◌∙◌, arith}
use Rattle.std.specs.Prelude.{nat_lt, if◌then◌else◌}
use Rattle.std.proofs.lemmas.Bool.{cases_eq, eqb-false, le-ltb, lt-ltb, ne_eqb}
use Rattle.vs_types.specs.Depth.{levels}
use Rattle.vs_types.specs.Page.{level_of}
use Rattle.vs_types.specs.declared.addresses.page.Size.{Size}
use Rattle.vs_types.specs.declared.addresses.page.Size.TheVariants.{K4, M2, G1}
use Rattle.vs_walk.specs.Memory.{Memory}
use Rattle.vs_plan.specs.declared.plans.request.Request.{Request}
use Rattle.vs_plan.specs.declared.plans.request.Request.TheVariants.{Map, Unmap, Protect, Ask, Remap, Split, Join, Prune, UnmapPart, Collapse}
use Rattle.vs_plan.specs.declared.plans.target.Target as targets
use Rattle.vs_plan.specs.Request.{IsRequest, IsWhole, lowest_of}
use Rattle.vs_plan.specs.Target.{highest_link}
use Rattle.nrvs_plan_c.specs.declared.end.End.{End}
use Rattle.nrvs_plan_c.specs.declared.records.kept.Call.{Call}
use Rattle.nrvs_plan_c.specs.declared.records.kept.Plan.{Plan}
use Rattle.nrvs_plan_c.specs.Kept.{depth_in, page_in, request_in, rights_in, shows_left, size_in, target_at, target_in}
use Rattle.nrvs_plan_c.specs.Next.{IsPlanned, shows_most}
use Rattle.nrvs_plan_c.specs.inside.End.{IsEndOf, IsRightFor}
use Rattle.nrvs_plan_c.proofs.Keeping.{target_kept}

-- ---- the page table of a way

whole_at : (call : Call) (code : ℕ) (request : Request) → IsWhole (target_in call) request → IsWhole (target_at code call) request
whole_at call code (Map page bits) is = record { good = is.good; within = is.within; bits = is.bits }
whole_at call code request is = is

whole_in : (call : Call) (code : ℕ) (request : Request) → IsWhole (target_at code call) request → IsWhole (target_in call) request
whole_in call code (Map page bits) is = record { good = is.good; within = is.within; bits = is.bits }
whole_in call code request is = is

pub good_at : (call : Call) (code : ℕ) (request : Request) → IsRequest (target_in call) request → IsRequest (target_at code call) request
good_at call code request is = record {
  phys_bits = record { from = is.phys_bits.from; to = is.phys_bits.to };
  root = is.root;
  canonical = is.canonical;
  whole = whole_at call code request is.whole;
}

pub good_in : (call : Call) (code : ℕ) (request : Request) → IsRequest (target_at code call) request → IsRequest (target_in call) request
good_in call code request is = record {
  phys_bits = record { from = is.phys_bits.from; to = is.phys_bits.to };
  root = is.root;
  canonical = is.canonical;
  whole = whole_in call code request is.whole;
}

-- ---- the request

first_size : (size : Size) → level_of size ≤ 1 → size ≡ K4
first_size K4 low = refl
first_size M2 low = absurd (omega (arith, low))
first_size G1 low = absurd (omega (arith, low))

maps_any : (call : Call) → call.kind ≡ 0 → request_in call ≡ Map (page_in call.address call.size call.physical call.rights) call.bits
maps_any call kind = ap (λ (k : ℕ). request_in (record call { kind = k })) kind

-- a map whose way goes down to level 1 is of a page of 4 KiB
pub maps : (call : Call) → call.kind ≡ 0 → lowest_of (request_in call) ≤ 1
    → request_in call ≡ Map (page_in call.address 0 call.physical call.rights) call.bits
maps call kind low =
    let any = maps_any call kind in
    let small = first_size (size_in call.size) (subst (λ (r : Request). lowest_of r ≤ 1) any low) in
    any ∙ ap (λ (s : Size). Map (record { base = call.address; size = s; rights = rights_in call.rights; phys = call.physical }) call.bits) small

pub unmaps : (call : Call) → call.kind ≡ 1 → request_in call ≡ Unmap call.address
unmaps call kind = ap (λ (k : ℕ). request_in (record call { kind = k })) kind

pub protects : (call : Call) → call.kind ≡ 2 → request_in call ≡ Protect call.address (rights_in call.rights)
protects call kind = ap (λ (k : ℕ). request_in (record call { kind = k })) kind

pub asks : (call : Call) → call.kind ≡ 3 → request_in call ≡ Ask call.address
asks call kind = ap (λ (k : ℕ). request_in (record call { kind = k })) kind

pub remaps : (call : Call) → call.kind ≡ 4 → request_in call ≡ Remap call.address call.physical (rights_in call.rights)
remaps call kind = ap (λ (k : ℕ). request_in (record call { kind = k })) kind

-- what is right for one request is right for the same
pub planned_as : {target : targets.Target} {memory : Memory} {after : Plan} {end : End} {r s : Request} {address : ℕ} → r ≡ s → IsRequest target r
    → IsRightFor s address end after → IsEndOf target memory address end → IsPlanned target r memory after []
planned_as {target} {memory} {after} same good right is =
    subst (λ (q : Request). IsPlanned target q memory after []) (sym same) (right target memory (subst (IsRequest target) same good) is)

abbrev other_by : Call → Bool → Bool → Bool → Bool → Bool → Bool → Bool → Bool → Bool → Request
other_by call map unmap protect ask remap split join prune part =
    if map then Map (page_in call.address call.size call.physical call.rights) call.bits
    else if unmap then Unmap call.address
    else if protect then Protect call.address (rights_in call.rights)
    else if ask then Ask call.address
    else if remap then Remap call.address call.physical (rights_in call.rights)
    else if split then Split call.address
    else if join then Join call.address
    else if prune then Prune call.address
    else if part then UnmapPart call.address call.physical call.bits
    else Collapse call.address call.physical (rights_in call.rights)

no_unmap_by : (call : Call) (base : ℕ) (a b c d e f g h : Bool) → other_by call a false b c d e f g h ≡ Unmap base → ⊥
no_unmap_by call base true b c d e f g h is = cc
no_unmap_by call base false true c d e f g h is = cc
no_unmap_by call base false false true d e f g h is = cc
no_unmap_by call base false false false true e f g h is = cc
no_unmap_by call base false false false false true f g h is = cc
no_unmap_by call base false false false false false true g h is = cc
no_unmap_by call base false false false false false false true h is = cc
no_unmap_by call base false false false false false false false true is = cc
no_unmap_by call base false false false false false false false false is = cc

pub no_unmap : (call : Call) → call.kind ≢ 1 → (base : ℕ) → request_in call ≡ Unmap base → ⊥
no_unmap call other base is =
    let k = call.kind in
    no_unmap_by call base (nat_eq k 0) (nat_eq k 2) (nat_eq k 3) (nat_eq k 4) (nat_eq k 5) (nat_eq k 6) (nat_eq k 7) (nat_eq k 8)
    (subst (λ (u : Bool). other_by call (nat_eq k 0) u (nat_eq k 2) (nat_eq k 3) (nat_eq k 4) (nat_eq k 5) (nat_eq k 6) (nat_eq k 7) (nat_eq k 8)
    ≡ Unmap base) (ne_eqb k 1 other) is)

-- ---- which tables may be unlinked

-- on the first way down of an unmap none
pub no_link : (call : Call) (code : ℕ) → code ≡ 0 → highest_link (target_at code call) ≡ 0
no_link call code is = ap (λ (n : ℕ). highest_link (target_at n call)) is ∙ (let e : min (levels (depth_in call.levels)) (1 - 1) ≡ 0 = omega arith in e)

-- and else those of the page table
pub same_link : (call : Call) (code : ℕ) → 1 ≤ code → highest_link (target_at code call) ≡ highest_link (target_in call)
same_link call code some = ap highest_link (target_kept call code some)

-- where each table stays linked none
pub links_few : (pinned most : ℕ) → (pinned ≡ 1) ⊎ (pinned ≡ 2) → (if nat_eq pinned 0 then most else min most (pinned - 1)) ≤ 1
links_few pinned most is = ⊎_elim
    (λ (one : pinned ≡ 1). subst (λ (p : ℕ). (if nat_eq p 0 then most else min most (p - 1)) ≤ 1) (sym one) (omega arith))
    (λ (two : pinned ≡ 2). subst (λ (p : ℕ). (if nat_eq p 0 then most else min most (p - 1)) ≤ 1) (sym two) (omega arith))
    is

-- and else one, at least
pub links_some : (pinned most : ℕ) → 4 ≤ most → pinned ≢ 1 → pinned ≢ 2 → 1 < (if nat_eq pinned 0 then most else min most (pinned - 1))
links_some pinned most four one two = by (nat_eq pinned 0) refl where
  by : (b : Bool) → nat_eq pinned 0 ≡ b → 1 < (if b then most else min most (pinned - 1))
  by true is = omega (arith, four)
  by false is = let some : pinned ≢ 0 = eqb-false pinned 0 is in omega (arith, four, one, two, some)

-- ---- how many frames are shown at most

shows_brief : (level count phase : ℕ) → phase ≡ 0 → level + (if nat_eq phase 0 then count else 0) ≡ level + count
shows_brief level count phase is = ap (λ (p : ℕ). level + (if nat_eq p 0 then count else 0)) is

shows_once : (level count phase : ℕ) → phase ≢ 0 → level + (if nat_eq phase 0 then count else 0) ≡ level
shows_once level count phase other = ap (λ (b : Bool). level + (if b then count else 0)) (ne_eqb phase 0 other) ∙ omega arith

most_else : (target : targets.Target) (request : Request) → ((base : ℕ) → request ≡ Unmap base → ⊥) → shows_most target request ≡ levels target.depth
most_else target (Unmap base) other = absurd (other base refl)
most_else target request other = refl

module _ (plan : Plan) where
  abbrev count : ℕ
  count = levels (depth_in plan.call.levels)

  abbrev link : ℕ
  link = highest_link (target_in plan.call)

  shows_unmap : plan.call.kind ≡ 1 → shows_most (target_in plan.call) (request_in plan.call) ≡ (if nat_lt 1 link then count + count else count)
  shows_unmap kind = ap (λ (r : Request). shows_most (target_in plan.call) r) (unmaps plan.call kind)

  pub most_shown : plan.way.level ≡ levels (depth_in plan.call.levels)
      → (plan.way.phase ≡ 0 → (plan.call.kind ≡ 1) × (1 < highest_link (target_in plan.call)))
      → (plan.way.phase ≢ 0 → plan.call.kind ≡ 1 → highest_link (target_in plan.call) ≤ 1)
      → shows_left plan ≡ shows_most (target_in plan.call) (request_in plan.call)
  most_shown top brief descent = ⊎_elim
      (λ (is : plan.way.phase ≡ 0).
      shows_brief plan.way.level count plan.way.phase is ∙ ap (λ (n : ℕ). n + count) top
      ∙ sym (shows_unmap (brief is).0 ∙ ap (λ (b : Bool). if b then count + count else count) (lt-ltb 1 link (brief is).1)))
      (λ (other : plan.way.phase ≢ 0).
      shows_once plan.way.level count plan.way.phase other ∙ top
      ∙ sym (⊎_elim
      (λ (unmap : plan.call.kind ≡ 1). shows_unmap unmap ∙ ap (λ (b : Bool). if b then count + count else count) (le-ltb 1 link (descent other unmap)))
      (λ (no : plan.call.kind ≢ 1). most_else (target_in plan.call) (request_in plan.call) (no_unmap plan.call no))
      (cases_eq plan.call.kind 1)))
      (cases_eq plan.way.phase 0)
