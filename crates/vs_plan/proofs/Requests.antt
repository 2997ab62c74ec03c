-- A request with which nothing is wrong is well formed.
use Rattle.std.proofs.Common.{◌≡◌, ℕ, ◌+◌, ◌-◌, ◌%◌, ◌^◌, ◌≤◌, min, Bool, true, false, not, Option, Some, None, eqb-true, refl, arith}
use Rattle.std.specs.Prelude.{◌&&◌, ◌||◌, ◌==◌, nat_lt, if◌then◌else◌}
use lib.Pow.{pow_mono}
use Rattle.std.proofs.lemmas.Bool.{ltb-true, ltb-false}
use Rattle.vs_types.specs.Depth.{is_canonical, IsCanonical}
use Rattle.vs_types.specs.Page.{bytes_of}
use Rattle.vs_types.specs.declared.addresses.page.Page.{Page}
use Rattle.vs_types.proofs.Pages.{level_at_most}
use Rattle.vs_plan.specs.declared.plans.request.BadRequest.{BadRequest}
use Rattle.vs_plan.specs.declared.plans.request.Request.{Request}
use Rattle.vs_plan.specs.declared.plans.request.Request.TheVariants.{Map, Ask, Prune, UnmapPart}
use Rattle.vs_plan.specs.declared.plans.target.Target.{Target}
use Rattle.vs_types.specs.Bits.{AreBits}
use Rattle.vs_plan.specs.Request.{ArePartsOf, IsRequest, IsMapped, IsWhole, address_of, lowest_of, are_bits, request_fault, page_fault, base_fault, part_fault, whole_fault}
use Rattle.vs_plan.specs.Target.{frames_end}

-- a test that finds no fault, and those after it
pub passed : {E : Type 0} (b : Bool) (e : E) (rest : Option E) → (if b then Some e else rest) ≡ None → (b ≡ false) × (rest ≡ None)
passed true e rest is = absurd (cc)
passed false e rest is = (refl, is)

passes : (b : Bool) (e : BadRequest) → (if b then None else Some e) ≡ None → b ≡ true
passes true e is = refl
passes false e is = absurd (cc)

pub not_false : (b : Bool) → not b ≡ false → b ≡ true
not_false true is = refl
not_false false is = absurd (cc)

neither : (a b : Bool) → (a || b) ≡ false → (a ≡ false) × (b ≡ false)
neither true b is = absurd (cc)
neither false b is = (refl, is)

both : (a b : Bool) → (a && b) ≡ true → (a ≡ true) × (b ≡ true)
both true b is = (refl, is)
both false b is = absurd (cc)

bits_good : (bits : ℕ) → are_bits bits ≡ true → AreBits bits
bits_good bits is =
    let outer = both ((bits % 2 ^ 3 == 0) && nat_lt (bits % 2 ^ 52) (2 ^ 12)) (nat_lt bits (2 ^ 63)) is in
    let inner = both (bits % 2 ^ 3 == 0) (nat_lt (bits % 2 ^ 52) (2 ^ 12)) outer.0 in
    record {
      above = eqb-true (bits % 2 ^ 3) 0 inner.0;
      low = ltb-true (bits % 2 ^ 52) (2 ^ 12) inner.1;
      high = ltb-true bits (2 ^ 63) outer.1;
    }

page_good : (target : Target) (page : Page) (bits : ℕ) → IsCanonical target.depth page.base → page_fault page bits target.phys_bits ≡ None
    → IsMapped target page bits
page_good target page bits canonical is =
    let first = passed (not (page.base % bytes_of page.size == 0)) _ _ is in
    let second = passed (not (page.phys % bytes_of page.size == 0)) _ _ first.1 in
    let third = passed (nat_lt (2 ^ min target.phys_bits 51) (page.phys + bytes_of page.size)) _ _ second.1 in
    let within : page.phys + bytes_of page.size ≤ 2 ^ min target.phys_bits 51 =
    ltb-false (2 ^ min target.phys_bits 51) (page.phys + bytes_of page.size) third.0 in
    let low : 2 ^ min target.phys_bits 51 ≤ 2 ^ 51 = let le : min target.phys_bits 51 ≤ 51 = omega arith in pow_mono {j = 51} le in
    let own : 2 ^ min target.phys_bits 51 ≤ 2 ^ target.phys_bits =
    let le : min target.phys_bits 51 ≤ target.phys_bits = omega arith in pow_mono {j = target.phys_bits} le in
    record {
      good = record {
        canonical = canonical;
        aligned = eqb-true (page.base % bytes_of page.size) 0 (not_false (page.base % bytes_of page.size == 0) first.0);
        phys_aligned = eqb-true (page.phys % bytes_of page.size) 0 (not_false (page.phys % bytes_of page.size == 0) second.0);
        phys_range = omega (arith, within, low);
      };
      within = omega (arith, within, own);
      bits = bits_good bits (passes (are_bits bits) _ third.1);
    }

base_good : (base : ℕ) → base_fault base ≡ None → base % 4096 ≡ 0
base_good base is = eqb-true (base % 4096) 0 (passes (base % 4096 == 0) _ is)

part_good : (base first count : ℕ) → part_fault base first count ≡ None → (base % 4096 ≡ 0) × ArePartsOf first count
part_good base first count is =
    let outer = passed (not (base % 4096 == 0)) _ _ is in
    let inner = passed (nat_lt count 1 || nat_lt 511 count || nat_lt (512 - count) first) _ _ outer.1 in
    let last = neither (nat_lt count 1 || nat_lt 511 count) (nat_lt (512 - count) first) inner.0 in
    let both_ends = neither (nat_lt count 1) (nat_lt 511 count) last.0 in
    let few : count ≤ 511 = ltb-false 511 count both_ends.1 in
    let low : first ≤ 512 - count = ltb-false (512 - count) first last.1 in (
      eqb-true (base % 4096) 0 (not_false (base % 4096 == 0) outer.0),
      record { some = ltb-false count 1 both_ends.0; few = omega (arith, few); within = omega (arith, few, low) },
    )

whole_good : (target : Target) (request : Request) → IsCanonical target.depth (address_of request) → whole_fault target request ≡ None → IsWhole target request
whole_good target (Map page bits) canonical is = page_good target page bits canonical is
whole_good target (Ask address) canonical is = tt
whole_good target (Prune address) canonical is = tt
whole_good target (UnmapPart base first count) canonical is = part_good base first count is
whole_good target request canonical is = base_good (address_of request) is

pub request_good : (target : Target) (request : Request) → request_fault target request ≡ None → IsRequest target request
request_good target request is =
    let first = passed (nat_lt target.phys_bits 36 || nat_lt 52 target.phys_bits) _ _ is in
    let range = neither (nat_lt target.phys_bits 36) (nat_lt 52 target.phys_bits) first.0 in
    let second = passed (not (nat_lt target.root (frames_end target))) _ _ first.1 in
    let third = passed (not (is_canonical target.depth (address_of request))) _ _ second.1 in
    let canonical : IsCanonical target.depth (address_of request) = not_false (is_canonical target.depth (address_of request)) third.0 in
    record {
      phys_bits = record { from = ltb-false target.phys_bits 36 range.0; to = ltb-false 52 target.phys_bits range.1 };
      root = ltb-true target.root (frames_end target) (not_false (nat_lt target.root (frames_end target)) second.0);
      canonical = canonical;
      whole = whole_good target request canonical third.1;
    }

-- the level at which a way ends at the latest is one of pages
pub low_request : (request : Request) → lowest_of request ≤ 3
low_request (Map page bits) = level_at_most page.size
low_request _ = omega arith
