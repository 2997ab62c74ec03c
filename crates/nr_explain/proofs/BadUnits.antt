-- The unit that a refusal is about, and that bytes have one.
use Rattle.std.proofs.Common.{◌≡◌, ℕ, ◌+◌, ◌-◌, ◌≤◌, List, [], ◌++◌, length, min, take, drop, refl, ap, sym, ◌∙◌, subst, subst₂, arith, append_assoc}
use Rattle.std.proofs.lemmas.List.{append-nil, append_cancel_left, length-append, length-drop, length-take-le, take-append-drop, take-append-le, take-take}
use Rattle.std.proofs.lemmas.List.{take_at, take_min}
use Rattle.nr_trace.specs.FirstFault.{HasRefusalAs, IsRefusedBy, refusal_at, unit_size}
use Rattle.nr_trace.specs.declared.refusals.refusal.Refusal.{Refusal}
use Rattle.nr_trace.specs.declared.refusals.refusal.TraceUnit.{TraceUnit}
use Rattle.nr_trace.specs.declared.formats.version.Form.{Form}
use Rattle.nr_trace.specs.declared.formats.version.Form.TheVariants as forms
use Rattle.nr_trace.proofs.LawsOfFormat.{one_refusal}
use Rattle.nr_trace.proofs.Units.{more_left}
use Rattle.nr_explain.specs.Fields.{field_fault}
use Rattle.nr_explain.specs.Units.{IsBadUnit, IsBadUnitAs}
use Rattle.nr_explain.specs.inside.Ends.{IsUnitOf}
use Rattle.nr_explain.specs.declared.units.TheConstants.{HEADER_BYTES}
use Rattle.nr_explain.specs.declared.units.BadUnit.{BadUnit}

-- ---- what is said of a refusal

-- the header as far as it comes before the unit
header_before : (bytes header front rest : List ℕ) (most offset : ℕ) → header ≡ take most bytes → bytes ≡ front ++ rest → offset ≡ length front
    → take (min (min offset most) (length header)) header ≡ take most front
header_before bytes header front rest most offset is parts begins =
    let few = min offset most in
    take_min few header ∙ ap (take few) is ∙ take-take few most bytes (omega arith) ∙ ap (take few) parts
    ∙ take-append-le few front rest (omega (arith, begins))
    ∙ ap (λ (n : ℕ). take n front) (let same : few ≡ min most (length front) = omega (arith, begins) in same) ∙ take_min most front

pub bad_unit_of : (form : Form) (bytes before header last : List ℕ) (count : ℕ) (refusal : Refusal) (bad : BadUnit) → HasRefusalAs form bytes refusal
    → bytes ≡ before ++ last → refusal.left ≤ length last → count ≡ length bytes → header ≡ take HEADER_BYTES bytes
    → IsUnitOf refusal count header last bad → IsBadUnitAs form bytes bad
bad_unit_of form bytes before header last count refusal bad given cut within all header_is is =
    let n = length last - refusal.left in
    let front = before ++ take n last in
    let rest = drop n last in
    let parts : bytes ≡ front ++ rest =
    cut ∙ ap (λ (l : List ℕ). before ++ l) (sym (take-append-drop n last)) ∙ sym (append_assoc before (take n last) rest) in
    let left : refusal.left ≡ length rest = omega (arith, within, length-drop n last) in
    let begins : bad.offset ≡ length front = omega (
      arith,
      is.offset,
      all,
      within,
      ap length cut,
      length-append before last,
      length-append before (take n last),
      length-take-le n last (omega arith),
    ) in
    let same : refusal ≡ refusal_at bad.unit rest bad.fault =
    (λ i. let refusal : Refusal = record { fault = sym is.fault_is i; unit = sym is.unit_is i; left = left i } in refusal) in
    record {
      front = front;
      rest = rest;
      parts = parts;
      begins = begins;
      refused = subst (HasRefusalAs form bytes) same given;
      read = is.read ∙ ap (λ (u : TraceUnit). take (unit_size u) rest) (sym is.unit_is);
      field = is.field ∙ (λ i. field_fault (sym is.fault_is i) (header_before bytes header front rest HEADER_BYTES bad.offset header_is parts begins i)
          bad.read.items);
    }

-- ---- what comes behind

-- the refusal with nothing behind it
pub refused_alone : (form : Form) (bytes : List ℕ) (refusal : Refusal) → IsRefusedBy (HasRefusalAs form) bytes refusal → HasRefusalAs form bytes refusal
refused_alone form bytes refusal given =
    let none : refusal.left + 0 ≡ refusal.left = omega arith in
    subst₂ (HasRefusalAs form) (append-nil bytes)
    (λ i. let refusal : Refusal = record { fault = refusal.fault; unit = refusal.unit; left = none i } in refusal) (given.lasts [])

-- the bad unit of bytes that are refused whatever comes after them is that of all that begins with them
pub bad_unit_lasts : (form : Form) (bytes more : List ℕ) (refusal : Refusal) (bad : BadUnit) → IsRefusedBy (HasRefusalAs form) bytes refusal
    → IsBadUnitAs form bytes bad → IsBadUnitAs form (bytes ++ more) bad
bad_unit_lasts form bytes more refusal bad given is =
    let same : refusal ≡ refusal_at bad.unit is.rest bad.fault =
    one_refusal form bytes refusal (refusal_at bad.unit is.rest bad.fault) (refused_alone form bytes refusal given) is.refused in
    let whole : unit_size bad.unit ≤ length is.rest = subst (λ (r : Refusal). unit_size r.unit ≤ r.left) same given.whole in
    record {
      front = is.front;
      rest = is.rest ++ more;
      parts = ap (λ (l : List ℕ). l ++ more) is.parts ∙ append_assoc is.front is.rest more;
      begins = is.begins;
      refused = subst (HasRefusalAs form (bytes ++ more)) (sym (more_left bad.unit is.rest more bad.fault refusal same)) (given.lasts more);
      read = is.read ∙ sym (take-append-le (unit_size bad.unit) is.rest more whole);
      field = is.field;
    }

-- ---- one bad unit

module _ (bytes : List ℕ) (a b : BadUnit) (g : IsBadUnit bytes a) (h : IsBadUnit bytes b) where
  same : refusal_at a.unit g.rest a.fault ≡ refusal_at b.unit h.rest b.fault
  same = one_refusal forms.Trace bytes _ _ g.refused h.refused

  pub one_unit : a.unit ≡ b.unit
  one_unit = ap (λ (r : Refusal). r.unit) same

  pub one_format : a.fault ≡ b.fault
  one_format = ap (λ (r : Refusal). r.fault) same

  long : length g.front ≡ length h.front
  long = omega (
    arith,
    ap (λ (r : Refusal). r.left) same,
    ap length g.parts,
    length-append g.front g.rest,
    ap length h.parts,
    length-append h.front h.rest,
  )

  one_front : g.front ≡ h.front
  one_front = sym (take_at g.front g.rest (length h.front) long) ∙ ap (take (length h.front)) (sym g.parts ∙ h.parts)
      ∙ take_at h.front h.rest (length h.front) refl

  one_rest : g.rest ≡ h.rest
  one_rest = append_cancel_left g.front g.rest h.rest (sym g.parts ∙ h.parts ∙ ap (λ (l : List ℕ). l ++ h.rest) (sym one_front))

  pub one_offset : a.offset ≡ b.offset
  one_offset = g.begins ∙ long ∙ sym h.begins

  pub one_read : a.read.items ≡ b.read.items
  one_read = g.read ∙ (λ i. take (unit_size (one_unit i)) (one_rest i)) ∙ sym h.read

  pub one_field : a.field ≡ b.field
  one_field = g.field ∙ (λ i. field_fault (one_format i) (take HEADER_BYTES (one_front i)) (one_read i)) ∙ sym h.field
