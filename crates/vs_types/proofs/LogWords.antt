-- The fields of an operation are found again in the words of its entry.
use Rattle.std.proofs.Common.{◌≡◌, ℕ, ◌+◌, ◌-◌, ◌*◌, ◌/◌, ◌%◌, ◌^◌, ◌<◌, ◌≤◌, Bool, true, false, List, get_or, refl, ap, sym, ◌∙◌, arith}
use Rattle.vs_types.specs.Codes.{size_code, rights_code}
use Rattle.vs_types.specs.Operation.{IsAction, IsBase, IsSomeAction}
use Rattle.vs_types.specs.Fields.{request_fields, HasFields}
use Rattle.vs_types.specs.LogEntry.{SpellsEntry}
use Rattle.vs_types.specs.declared.requests.fields.RequestFields.{RequestFields}
use Rattle.vs_types.specs.declared.requests.request.Query.TheVariants.{Update}
use Rattle.vs_types.specs.declared.requests.request.Query.{Query}
use Rattle.vs_types.specs.declared.limits.TheConstants.{CALLS}
use Rattle.vs_types.specs.declared.addresses.depth.Depth.{Depth}
use Rattle.vs_types.specs.declared.addresses.page.Rights.{Rights}
use Rattle.vs_types.specs.declared.addresses.page.Size.{Size}
use Rattle.vs_types.specs.declared.addresses.page.Size.TheVariants.{K4}
use Rattle.vs_types.specs.declared.requests.op.Action.{Action}
use Rattle.vs_types.specs.declared.requests.op.Action.TheVariants.{Map, Unmap, Protect}
use Rattle.vs_types.proofs.Pages.{canonical_fits}
use Rattle.vs_types.specs.declared.log_entry.LogEntry.{LogEntry}

pub size_code_low : (size : Size) → size_code size < 3
size_code_low K4 = omega arith
size_code_low _ = omega arith

rights_bits_low : (w u x : Bool) → rights_code (record { write = w; user = u; exec = x }) < 8
rights_bits_low true true true = omega arith
rights_bits_low true true false = omega arith
rights_bits_low true false true = omega arith
rights_bits_low true false false = omega arith
rights_bits_low false true true = omega arith
rights_bits_low false true false = omega arith
rights_bits_low false false true = omega arith
rights_bits_low false false false = omega arith

pub rights_code_low : (rights : Rights) → rights_code rights < 8
rights_code_low rights = rights_bits_low rights.write rights.user rights.exec

-- the ranges of the fields
record InRange (fields : RequestFields) : Type 0 where
  kind : fields.kind < 3
  size : fields.size < 3
  rights : fields.rights < 8
  address : fields.address % 4096 ≡ 0
  address_range : fields.address < 2 ^ 64
  physical : fields.physical % 4096 ≡ 0
  physical_range : fields.physical < 2 ^ 51

page_part : (size : Size) (n : ℕ) → n % Rattle.vs_types.specs.Page.bytes_of size ≡ 0 → n % 4096 ≡ 0
page_part K4 n e = omega arith
page_part _ n e = omega arith

page_below : (size : Size) (n : ℕ) → n + Rattle.vs_types.specs.Page.bytes_of size ≤ 2 ^ 51 → n < 2 ^ 51
page_below K4 n e = omega arith
page_below _ n e = omega arith

-- the fields of an operation at the base of a page that is there
aligned_base : {depth : Depth} {kind size rights base : ℕ} → kind < 3 → size < 3 → rights < 8 → IsBase depth base
    → InRange (record { kind = kind; size = size; rights = rights; address = base; physical = 0 })
aligned_base {depth} {kind} {size} {rights} {base} few_kinds few_sizes few_rights is = record {
  kind = few_kinds;
  size = few_sizes;
  rights = few_rights;
  address = is.aligned;
  address_range = canonical_fits depth base is.canonical;
  physical = refl;
  physical_range = omega arith;
}

in_range : (depth : Depth) (action : Action) → IsAction depth action → InRange (request_fields (Update action))
in_range depth (Map page) is = record {
  kind = omega arith;
  size = size_code_low page.size;
  rights = rights_code_low page.rights;
  address = page_part page.size page.base is.aligned;
  address_range = canonical_fits depth page.base is.canonical;
  physical = page_part page.size page.phys is.phys_aligned;
  physical_range = page_below page.size page.phys is.phys_range;
}
in_range depth (Unmap base) is =
    aligned_base (omega arith) (omega arith) (omega arith) is
in_range depth (Protect base rights) is =
    aligned_base (omega arith) (omega arith) (rights_code_low rights) is

-- what two words have at the places of the fields
abbrev pub fields_at : ℕ → ℕ → RequestFields
fields_at operation rest =
    record {
      kind = operation % 4096 % 4;
      size = operation % 4096 / 4 % 4;
      rights = operation % 4096 / 16;
      address = operation - operation % 4096;
      physical = rest % 2 ^ 39 * 4096;
    }

same_fields : (f g : RequestFields) → f.kind ≡ g.kind → f.size ≡ g.size → f.rights ≡ g.rights → f.address ≡ g.address → f.physical ≡ g.physical → f ≡ g
same_fields f g k s r a p = λ i. record { kind = k i; size = s i; rights = r i; address = a i; physical = p i }

codes_are : (fields : RequestFields) → InRange fields
    → (fields.address + fields.kind + 4 * fields.size + 16 * fields.rights) % 4096 ≡ fields.kind + 4 * fields.size + 16 * fields.rights
codes_are fields is = omega arith

found : (fields : RequestFields) (call operation rest : ℕ) → InRange fields
    → operation ≡ fields.address + fields.kind + 4 * fields.size + 16 * fields.rights → rest ≡ fields.physical / 4096 + call * 2 ^ 39
    → fields_at operation rest ≡ fields
found fields call operation rest is first second =
    let codes : operation % 4096 ≡ fields.kind + 4 * fields.size + 16 * fields.rights = rw first (codes_are fields is) in
    same_fields (fields_at operation rest) fields (omega arith) (omega arith) (omega arith) (omega arith) (omega arith)

-- the codes are below 128, the call is the high part of the second word, and the fields are the operation's
pub record Found (depth : Depth) (words : List ℕ) (entry : LogEntry) : Type 0 where
  pub codes : get_or words 0 0 % 4096 < 128
  pub call : get_or words 1 0 / 2 ^ 39 ≡ entry.call
  pub in_range : entry.call < CALLS
  pub fields : HasFields depth (fields_at (get_or words 0 0) (get_or words 1 0)) (Update entry.op)

pub finds_again : (depth : Depth) (words : List ℕ) (entry : LogEntry) → SpellsEntry depth words entry → Found depth words entry
finds_again depth words entry is =
    let fields = request_fields (Update entry.op) in
    let ranges : InRange fields = in_range depth entry.op is.is_entry.well_formed in
    let first : get_or words 0 0 ≡ fields.address + fields.kind + 4 * fields.size + 16 * fields.rights = ap (λ (l : List ℕ). get_or l 0 0) is.spelled in
    let second : get_or words 1 0 ≡ fields.physical / 4096 + entry.call * 2 ^ 39 = ap (λ (l : List ℕ). get_or l 1 0) is.spelled in
    let codes : get_or words 0 0 % 4096 ≡ fields.kind + 4 * fields.size + 16 * fields.rights = rw first (codes_are fields ranges) in
    record {
      codes = omega (arith, ranges.kind, ranges.size, ranges.rights);
      call = omega (arith, ranges.physical_range);
      in_range = is.is_entry.in_range;
      fields = record { well_formed = is.is_entry.well_formed; fields_are = found fields entry.call (get_or words 0 0) (get_or words 1 0) ranges first second };
    }

-- the first sum of the log's words fits: an aligned address has room for the codes
pub fields_low : (fields : RequestFields) (action : Action) → fields ≡ request_fields (Update action) → IsSomeAction action
    → fields.address + (fields.kind + 4 * fields.size + 16 * fields.rights) < 2 ^ 64
fields_low fields action are is =
    let ranges = in_range is.0 action is.1 in
    rw are (omega (arith, ranges.kind, ranges.size, ranges.rights, ranges.address, ranges.address_range))

-- a request with the fields of an operation is an operation
pub spells_update : {fields : RequestFields} (query : Query) (action : Action) → fields ≡ request_fields query → fields ≡ request_fields (Update action)
    → (a : Action) × (query ≡ Update a)
spells_update {fields} query action first second = by_kind query (ap (λ (f : RequestFields). f.kind) (sym first ∙ second)) where
  in_kind : (a : Action) → (request_fields (Update a)).kind < 3
  in_kind (Map page) = omega arith
  in_kind (Unmap base) = omega arith
  in_kind (Protect base rights) = omega arith

  apart : (n k : ℕ) → 3 ≤ n → k < 3 → n ≡ k → ⊥
  apart n k low high e = omega arith

  by_kind : (q : Query) → (request_fields q).kind ≡ (request_fields (Update action)).kind → (a : Action) × (q ≡ Update a)
  by_kind (Update a) e = (a, refl)
  by_kind _ e = elim (apart _ _ (omega arith) (in_kind action) e) [ ]
