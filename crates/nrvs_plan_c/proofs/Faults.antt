-- A well-formed request has no fault.
use Rattle.std.proofs.Common.{◌≡◌, ℕ, ◌+◌, ◌-◌, ◌%◌, ◌^◌, ◌<◌, ◌≤◌, min, Bool, true, false, not, Option, Some, None, ⊎_elim, refl, sym, ap, subst, ◌∙◌, arith}
use Rattle.std.specs.Prelude.{◌&&◌, ◌||◌, ◌==◌, nat_lt, if◌then◌else◌}
use Rattle.std.proofs.lemmas.Bool.{le-ltb, lt-ltb, cases_lt}
use Rattle.vs_types.specs.Depth.{is_canonical}
use Rattle.vs_types.specs.Page.{bytes_of}
use Rattle.vs_types.specs.declared.addresses.page.Page.{Page}
use Rattle.vs_plan.specs.declared.plans.request.BadRequest.{BadRequest}
use Rattle.vs_plan.specs.declared.plans.request.Request.{Request}
use Rattle.vs_plan.specs.declared.plans.request.Request.TheVariants.{Map, Ask, Prune, UnmapPart}
use Rattle.vs_plan.specs.declared.plans.target.Target.{Target}
use Rattle.vs_types.specs.Bits.{AreBits}
use Rattle.vs_plan.specs.Request.{ArePartsOf, IsRequest, IsMapped, IsWhole, address_of, are_bits, request_fault, page_fault, base_fault, part_fault, whole_fault}
use Rattle.vs_plan.specs.Target.{frames_end}

-- a test that finds no fault, and those after it
passes : (b : Bool) (e : BadRequest) (rest : Option BadRequest) → b ≡ false → rest ≡ None → (if b then Some e else rest) ≡ None
passes true e rest is more = absurd (cc)
passes false e rest is more = more

ends : (b : Bool) (e : BadRequest) → b ≡ true → (if b then None else Some e) ≡ None
ends true e is = refl
ends false e is = absurd (cc)

no_rest : (x : ℕ) → x ≡ 0 → not (x == 0) ≡ false
no_rest x is = ap (λ (n : ℕ). not (n == 0)) is

no_bits : (bits : ℕ) → AreBits bits → are_bits bits ≡ true
no_bits bits are =
    ap (λ (b : Bool). b && nat_lt (bits % 2 ^ 52) (2 ^ 12) && nat_lt bits (2 ^ 63)) (ap (λ (n : ℕ). n == 0) are.above)
    ∙ ap (λ (b : Bool). b && nat_lt bits (2 ^ 63)) (lt-ltb (bits % 2 ^ 52) (2 ^ 12) are.low)
    ∙ lt-ltb bits (2 ^ 63) are.high

in_range : (end most bits : ℕ) → end ≤ 2 ^ most → end ≤ 2 ^ bits → end ≤ 2 ^ min bits most
in_range end most bits below within = ⊎_elim
    (λ (lt : bits < most). let e : min bits most ≡ bits = omega (arith, lt) in subst (λ (n : ℕ). end ≤ 2 ^ n) (sym e) within)
    (λ (le : most ≤ bits). let e : min bits most ≡ most = omega (arith, le) in subst (λ (n : ℕ). end ≤ 2 ^ n) (sym e) below)
    (cases_lt bits most)

no_page_fault : (target : Target) (page : Page) (bits : ℕ) → IsMapped target page bits → page_fault page bits target.phys_bits ≡ None
no_page_fault target page bits is =
    passes (not (page.base % bytes_of page.size == 0)) _ _ (no_rest (page.base % bytes_of page.size) is.good.aligned)
    (passes (not (page.phys % bytes_of page.size == 0)) _ _ (no_rest (page.phys % bytes_of page.size) is.good.phys_aligned)
    (passes (nat_lt (2 ^ min target.phys_bits 51) (page.phys + bytes_of page.size)) _ _
    (le-ltb (2 ^ min target.phys_bits 51) (page.phys + bytes_of page.size)
    (in_range (page.phys + bytes_of page.size) 51 target.phys_bits is.good.phys_range is.within))
    (ends (are_bits bits) _ (no_bits bits is.bits))))

no_base_fault : (base : ℕ) → base % 4096 ≡ 0 → base_fault base ≡ None
no_base_fault base is = ends (base % 4096 == 0) _ (ap (λ (n : ℕ). n == 0) is)

no_part_fault : (base first count : ℕ) → (base % 4096 ≡ 0) × ArePartsOf first count → part_fault base first count ≡ None
no_part_fault base first count is =
    let parts = is.1 in
    passes (not (base % 4096 == 0)) _ _ (no_rest (base % 4096) is.0)
    (passes (nat_lt count 1 || nat_lt 511 count || nat_lt (512 - count) first) _ _
    (ap (λ (b : Bool). b || nat_lt 511 count || nat_lt (512 - count) first) (le-ltb count 1 parts.some)
    ∙ ap (λ (b : Bool). b || nat_lt (512 - count) first) (le-ltb 511 count (omega (arith, parts.few)))
    ∙ le-ltb (512 - count) first (omega (arith, parts.few, parts.within))) refl)

no_whole_fault : (target : Target) (request : Request) → IsWhole target request → whole_fault target request ≡ None
no_whole_fault target (Map page bits) is = no_page_fault target page bits is
no_whole_fault target (Ask address) is = refl
no_whole_fault target (Prune address) is = refl
no_whole_fault target (UnmapPart base first count) is = no_part_fault base first count is
no_whole_fault target request is = no_base_fault (address_of request) is

pub no_fault : (target : Target) (request : Request) → IsRequest target request → request_fault target request ≡ None
no_fault target request is =
    passes (nat_lt target.phys_bits 36 || nat_lt 52 target.phys_bits) _ _
    (ap (λ (b : Bool). b || nat_lt 52 target.phys_bits) (le-ltb target.phys_bits 36 is.phys_bits.from)
    ∙ le-ltb 52 target.phys_bits is.phys_bits.to)
    (passes (not (nat_lt target.root (frames_end target))) _ _ (ap not (lt-ltb target.root (frames_end target) is.root))
    (passes (not (is_canonical target.depth (address_of request))) _ _ (ap not is.canonical)
    (no_whole_fault target request is.whole)))
