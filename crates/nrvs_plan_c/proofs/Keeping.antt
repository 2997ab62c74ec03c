-- A planner is kept whole: its codes read back as they were.
use Rattle.std.specs.Prelude.{IfSome, nat_eq, if◌then◌else◌}
use Rattle.std.proofs.Common.{◌≡◌, ℕ, zero, suc, ◌≤◌, arith, subst, Bool, true, false, Option, Some, None, List, ◌++◌, length, take, refl, sym, ap, ◌∙◌}
use Rattle.std.proofs.Math.Seq.{take-append_seam}
use Rattle.std.proofs.lemmas.Bool.{ne_eqb}
use Rattle.vs_types.specs.Codes.{rights_code}
use Rattle.vs_types.specs.Depth.{levels}
use Rattle.vs_types.specs.Space.{Space}
use Rattle.vs_types.specs.declared.addresses.page.Rights.{Rights}
use Rattle.vs_walk.specs.Memory.{Memory}
use Rattle.vs_plan.specs.declared.plans.plan.Plan as plans
use Rattle.vs_plan.specs.declared.plans.plan.Store.{Store}
use Rattle.vs_plan.specs.declared.plans.planner.Phase.{Phase}
use Rattle.vs_plan.specs.declared.plans.planner.Phase.TheVariants as phases
use Rattle.vs_plan.specs.declared.plans.planner.Planner.{Planner}
use Rattle.vs_plan.specs.declared.plans.request.Request.{Request}
use Rattle.vs_plan.specs.declared.plans.target.Target.{Target}
use Rattle.vs_plan.specs.Premise.{IsPremise}
use Rattle.vs_plan.specs.Request.{address_of}
use Rattle.vs_plan.specs.Right.{IsRight}
use Rattle.nrvs_plan_c.specs.declared.records.kept.Call.{Call}
use Rattle.nrvs_plan_c.specs.declared.records.kept.Plan.{Plan}
use Rattle.nrvs_plan_c.specs.Kept.{depth_in, phase_in, request_in, rights_in, shows_left, target_at, target_in}

-- but on the first way down of an unmap a way is gone for the page table that the plan is for
not_brief : (code : ℕ) → 1 ≤ code → nat_eq code 0 ≡ false
not_brief code some = ne_eqb code 0 (λ none. omega (arith, some, none))

abbrev target_by : Call → Bool → Target
target_by call brief =
    record { depth = depth_in call.levels; pinned = if brief then 1 else call.pinned; phys_bits = call.phys_bits; root = call.root }

pub target_kept : (call : Call) (code : ℕ) → 1 ≤ code → target_at code call ≡ target_in call
target_kept call code some = ap (target_by call) (not_brief code some)

pub ended_target : (plan : Plan) → plan.way.phase ≡ 5 → target_at plan.way.phase plan.call ≡ target_in plan.call
ended_target plan is = target_kept plan.call plan.way.phase (omega (arith, is))

pub one_way : (plan : Plan) → 1 ≤ plan.way.phase → shows_left plan ≡ plan.way.level
one_way plan some =
    let none : (if nat_eq plan.way.phase 0 then levels (depth_in plan.call.levels) else 0) ≡ 0 =
    ap (λ (b : Bool). if b then levels (depth_in plan.call.levels) else 0) (not_brief plan.way.phase some) in
    omega (arith, none)

pub goes_down : (code : ℕ) → code ≤ 1 → phase_in code ≡ phases.Descent
goes_down zero few = refl
goes_down (suc zero) few = refl
goes_down (suc (suc code)) few = absurd (omega (arith, few))

bits_back : (w u x : Bool) → rights_in (rights_code (record { write = w; user = u; exec = x })) ≡ record { write = w; user = u; exec = x }
bits_back true true true = refl
bits_back true false true = refl
bits_back false true true = refl
bits_back false false true = refl
bits_back _ _ _ = refl

pub rights_back : (rights : Rights) → rights_in (rights_code rights) ≡ rights
rights_back rights = bits_back rights.write rights.user rights.exec

-- the planner with other parts
abbrev pub with_parts : Planner → Target → Request → Phase → Rights → List Store → Planner
with_parts p target request phase rights stores =
    record p { target = target; request = request; phase = phase; rights = rights; stores = record { items = stores } }

pub parts_back : (p : Planner) (target : Target) (request : Request) (phase : Phase) (rights : Rights) (stores : List Store) → target ≡ p.target
    → request ≡ p.request → phase ≡ p.phase → rights ≡ p.rights → stores ≡ p.stores.items → with_parts p target request phase rights stores ≡ p
parts_back p target request phase rights stores a b c d e = λ i.
    record p { target = a i; request = b i; phase = c i; rights = d i; stores = record { items = e i } }

-- what was copied to the front of an array
pub front_back : (items copied rest : List Store) (n : ℕ) → copied ≡ items → n ≡ length items → take n (copied ++ rest) ≡ items
front_back items copied rest n same count =
    ap (λ (m : ℕ). take m (copied ++ rest)) (count ∙ ap length (sym same)) ∙ take-append_seam copied rest ∙ same

pub some_more : (o : Option ℕ) (P Q : ℕ → Type 0) → ((n : ℕ) → P n → Q n) → IfSome o P → IfSome o Q
some_more None P Q more is = tt
some_more (Some n) P Q more is = more n is

-- a plan is right for a request on a page table, whatever space the memory translates as
abbrev pub RightFor : Memory → List (Option ℕ) → plans.Plan → Target → Request → Type 0
RightFor memory offered made target request = (space : Space) → IsPremise target.depth memory target.root (address_of request) space
    → IsRight target request memory space offered made

pub right_as : (memory : Memory) (offered : List (Option ℕ)) (made : plans.Plan) (t u : Target) (r s : Request) → t ≡ u → r ≡ s
    → RightFor memory offered made t r → RightFor memory offered made u s
right_as memory offered made t u r s e f is =
    subst (λ (x : Target). RightFor memory offered made x s) e (subst (λ (x : Request). RightFor memory offered made t x) f is)

-- the address of a kept request is the kept one
address_if : (b : Bool) (r s : Request) (address : ℕ) → address_of r ≡ address → address_of s ≡ address
    → address_of (if b then r else s) ≡ address
address_if true r s address first second = first
address_if false r s address first second = second

pub address_in : (call : Call) → address_of (request_in call) ≡ call.address
address_in call =
    address_if (nat_eq call.kind 0) _ _ call.address refl
    (address_if (nat_eq call.kind 1) _ _ call.address refl
    (address_if (nat_eq call.kind 2) _ _ call.address refl
    (address_if (nat_eq call.kind 3) _ _ call.address refl
    (address_if (nat_eq call.kind 4) _ _ call.address refl
    (address_if (nat_eq call.kind 5) _ _ call.address refl
    (address_if (nat_eq call.kind 6) _ _ call.address refl
    (address_if (nat_eq call.kind 7) _ _ call.address refl
    (address_if (nat_eq call.kind 8) _ _ call.address refl refl))))))))
