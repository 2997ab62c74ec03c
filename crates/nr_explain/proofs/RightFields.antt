-- What fields that are not wrong say: a request, and an answer.
use Rattle.std.proofs.Common.{◌≡◌, ℕ, zero, suc, ◌+◌, ◌%◌, ◌<◌, ◌≤◌, ◌^◌, Bool, true, false, List, ◌++◌, Option, Some, None}
use Rattle.std.proofs.Common.{refl, sym, subst, arith}
use Rattle.std.specs.Prelude.{if◌then◌else◌, nat_lt, ◌==◌}
use Rattle.std.specs.Int.{w16, from_be_bytes, to_be_bytes}
use Rattle.std.specs.Option.{option_or}
use Rattle.std.proofs.lemmas.Nat.{from_be_bytes-to_be_bytes_2}
use Rattle.std.proofs.lemmas.Bool.{ltb-true, ltb-false, eqb-true}
use Rattle.std.proofs.lemmas.Option.{none-some}
use Rattle.vs_types.specs.Codes.{access_code, answer_code, mode_code, size_code, rights_code}
use Rattle.vs_types.specs.Config.{Layout}
use Rattle.vs_types.specs.Depth.{is_canonical, levels, IsCanonical}
use Rattle.vs_types.specs.Fields.{request_fields}
use Rattle.vs_types.specs.Page.{bytes_of}
use Rattle.vs_types.specs.Query.{IsQuery}
use Rattle.vs_types.specs.declared.addresses.access.Mode.{Mode}
use Rattle.vs_types.specs.declared.addresses.access.Mode.TheVariants.{Supervisor, User}
use Rattle.vs_types.specs.declared.addresses.access.Access.{Access}
use Rattle.vs_types.specs.declared.addresses.access.Access.TheVariants.{Read, Write, Fetch}
use Rattle.vs_types.specs.declared.requests.answer.Answer.{Answer}
use Rattle.vs_types.specs.declared.requests.answer.Answer.TheVariants as answers
use Rattle.vs_types.specs.declared.addresses.depth.Depth.{Depth}
use Rattle.vs_types.specs.declared.addresses.depth.Depth.TheVariants.{Four, Five}
use Rattle.vs_types.specs.declared.requests.fields.RequestFields.{RequestFields}
use Rattle.vs_types.specs.declared.requests.op.Action.{Action}
use Rattle.vs_types.specs.declared.requests.op.Action.TheVariants.{Map, Unmap, Protect}
use Rattle.vs_types.specs.declared.addresses.page.Page.{Page}
use Rattle.vs_types.specs.declared.addresses.page.Size.{Size as PageSize}
use Rattle.vs_types.specs.declared.addresses.page.Size.TheVariants.{K4}
use Rattle.vs_types.specs.declared.addresses.page.TheConstants.Page.{PHYS_END}
use Rattle.vs_types.specs.declared.requests.request.Query.{Query}
use Rattle.vs_types.specs.declared.requests.request.Query.TheVariants.{Update, Resolve, Access as AccessQuery}
use Rattle.nr_trace.specs.FirstFault.{IsCounts}
use Rattle.nr_trace.specs.Versions.{KnowsQuery, KnowsAnswer, KnowsTouch}
use Rattle.nr_trace.specs.Recording.{IsAnswer, IsMemory}
use Rattle.nr_trace.specs.Spelling.{answer_fields, magic, release_fields, touch_fields, version_word, counts}
use Rattle.nr_trace.specs.declared.formats.fields.Counts.{Counts}
use Rattle.nr_trace.specs.declared.formats.version.Version.{Version}
use Rattle.nr_trace.specs.declared.formats.version.Version.TheVariants.{V1, V2, Segment}
use Rattle.nr_trace.proofs.LawsOfUnits.{is_wide, rights_from}
use Rattle.nr_explain.specs.Fields.{address_fault, answers_of, canonical, depth_of, kinds_of, limited, multiple, number_8}
use Rattle.nr_explain.specs.Fields.{number_16, physical_fault, rights_fault, rights_of, size_fault, size_of}
use Rattle.nr_explain.specs.Fields.{sizes_of, value_fault, within}
use Rattle.nr_explain.specs.declared.fields.BadField.{BadField}
use Rattle.nr_explain.specs.declared.fields.EventField.{EventField}
use Rattle.nr_explain.specs.declared.fields.EventField.TheVariants as fields

-- ---- a field that is not wrong

unless : (b : Bool) (x : BadField) → (if b then None else Some x) ≡ None → b ≡ true
unless true x h = refl
unless false x h = absurd (none-some x (sym h))

when : (b : Bool) (x : BadField) → (if b then Some x else None) ≡ None → b ≡ false
when true x h = absurd (none-some x (sym h))
when false x h = refl

pub both : (a b : Option BadField) → option_or a b ≡ None → (a ≡ None) × (b ≡ None)
both None b h = (refl, h)
both (Some x) b h = absurd (none-some x (sym h))

pub below : (field : EventField) (value limit : ℕ) → limited field value limit ≡ None → value < limit
unfolding limited
below field value limit h = ltb-true value limit (unless (nat_lt value limit) _ h)

unused : (field : EventField) (value : ℕ) → limited field value 1 ≡ None → value ≡ 0
unused field value h = omega (arith, below field value 1 h)

is_canonical_there : (depth : Depth) (address : ℕ) → canonical depth address ≡ None → IsCanonical depth address
unfolding canonical
is_canonical_there depth address h = unless (is_canonical depth address) _ h

is_multiple : (field : EventField) (value : ℕ) (size : PageSize) → multiple field value size ≡ None → value % bytes_of size ≡ 0
unfolding multiple
is_multiple field value size h = eqb-true (value % bytes_of size) 0 (unless (value % bytes_of size == 0) _ h)

is_within : (physical : ℕ) (size : PageSize) → within physical size ≡ None → physical + bytes_of size ≤ PHYS_END
unfolding within
is_within physical size h = ltb-false PHYS_END (physical + bytes_of size) (when (nat_lt PHYS_END (physical + bytes_of size)) _ h)

-- ---- codes

size_back : (code : ℕ) → code < 3 → code ≡ size_code (size_of code)
unfolding size_of
size_back (suc (suc (suc n))) few = absurd (omega arith)
size_back _ few = refl

rights_back : (code : ℕ) → code < 8 → code ≡ rights_code (rights_from code)
rights_back (suc (suc (suc (suc (suc (suc (suc (suc n)))))))) few = absurd (omega arith)
rights_back _ few = refl

-- ---- what a header says

abbrev pub kinds : Version → ℕ
kinds V1 = 4
kinds V2 = 5
kinds Segment = 7

abbrev pub answers_known : Version → ℕ
answers_known V1 = 8
answers_known _ = 10

pub record Says (header : List ℕ) (version : Version) (layout : Layout) : Type 0 where
  pub depth : depth_of header ≡ layout.depth
  pub replicas : number_8 header 7 ≡ layout.replicas
  pub threads : number_16 header 8 ≡ layout.threads
  pub kinds_are : kinds_of header ≡ kinds version
  pub answers_are : answers_of header ≡ answers_known version

abbrev pub header_bytes : Version → Counts → List ℕ → List ℕ
header_bytes version numbers behind = magic version ++ (version_word version ++ (counts version numbers ++ behind))

depth_back : (depth : Depth) → (if levels depth % 256 == 4 then Four else Five) ≡ depth
depth_back Four = refl
depth_back Five = refl

said : (version : Version) (numbers : Counts) (behind : List ℕ) → numbers.layout.replicas % 256 ≡ numbers.layout.replicas
    → from_be_bytes w16 (to_be_bytes w16 numbers.layout.threads) ≡ numbers.layout.threads → Says (header_bytes version numbers behind) version numbers.layout
unfolding depth_of kinds_of answers_of
said V1 numbers behind replicas threads =
    record { depth = depth_back numbers.layout.depth; replicas = replicas; threads = threads; kinds_are = refl; answers_are = refl }
said _ numbers behind replicas threads =
    record { depth = depth_back numbers.layout.depth; replicas = replicas; threads = threads; kinds_are = refl; answers_are = refl }

pub says : (version : Version) (numbers : Counts) (header behind : List ℕ) → IsCounts version numbers → header ≡ header_bytes version numbers behind
    → Says header version numbers.layout
says version numbers header behind in_range spelled =
    let wide = is_wide version numbers.layout in_range.layout in
    let threads = from_be_bytes-to_be_bytes_2 numbers.layout.threads (omega (arith, wide.few_threads)) in
    subst (λ (l : List ℕ). Says l version numbers.layout) (sym spelled) (said version numbers behind (omega (arith, wide.few_replicas)) threads)

-- ---- requests

abbrev SomeRequest : Version → Depth → RequestFields → Type 0
SomeRequest version depth of = (request : Query) × IsQuery depth request × KnowsQuery version request × (of ≡ request_fields request)

knows_update : (version : Version) (action : Action) → KnowsQuery version (Update action)
knows_update V1 action = tt
knows_update _ action = tt

knows_resolve : (version : Version) (address : ℕ) → KnowsQuery version (Resolve address)
knows_resolve V1 address = tt
knows_resolve _ address = tt

-- what an access does, and its mode
abbrev AreOfAccess : ℕ → ℕ → Type 0
AreOfAccess size rights = (mode : Mode) × (access : Access) × (size ≡ access_code access) × (rights ≡ mode_code mode)

access_back : (size rights : ℕ) → size < 3 → rights < 2 → AreOfAccess size rights
access_back zero zero s r = (Supervisor, Read, refl, refl)
access_back (suc zero) zero s r = (Supervisor, Write, refl, refl)
access_back (suc (suc zero)) zero s r = (Supervisor, Fetch, refl, refl)
access_back zero (suc zero) s r = (User, Read, refl, refl)
access_back (suc zero) (suc zero) s r = (User, Write, refl, refl)
access_back (suc (suc zero)) (suc zero) s r = (User, Fetch, refl, refl)
access_back (suc (suc (suc n))) rights s r = absurd (omega arith)
access_back size (suc (suc n)) s r = absurd (omega arith)

knows_access : (version : Version) (address : ℕ) (mode : Mode) (access : Access) → 4 < kinds version → KnowsQuery version (AccessQuery address mode access)
knows_access V1 address mode access few = absurd (omega arith)
knows_access _ address mode access few = tt

pub request_there : (version : Version) (depth : Depth) (kind size rights address physical : ℕ) → kind < kinds version → kind < 5
    → size_fault kind size ≡ None → rights_fault kind rights ≡ None → address_fault depth kind (size_of size) address ≡ None
    → physical_fault kind (size_of size) physical ≡ None
    → SomeRequest version depth (record { kind = kind; size = size; rights = rights; address = address; physical = physical })
unfolding size_fault rights_fault address_fault physical_fault
request_there version depth zero size rights address physical few most s r a p =
    let sizes = size_back size (below fields.Size size 3 s) in
    let all_rights = rights_back rights (below fields.Rights rights 8 r) in
    let at = both (canonical depth address) (multiple fields.Address address (size_of size)) a in
    let to = both (multiple fields.Physical physical (size_of size)) (within physical (size_of size)) p in
    let page : Page = record { base = address; size = size_of size; phys = physical; rights = rights_from rights } in (
      Update (Map page),
      record {
        canonical = is_canonical_there depth address at.0;
        aligned = is_multiple fields.Address address (size_of size) at.1;
        phys_aligned = is_multiple fields.Physical physical (size_of size) to.0;
        phys_range = is_within physical (size_of size) to.1;
      },
      knows_update version (Map page),
      λ i. record { kind = 0; size = sizes i; rights = all_rights i; address = address; physical = physical },
    )
request_there version depth (suc zero) size rights address physical few most s r a p =
    let no_size = unused fields.Size size s in
    let no_rights = unused fields.Rights rights r in
    let nowhere = unused fields.Physical physical p in
    let at = both (canonical depth address) (multiple fields.Address address K4) a in (
      Update (Unmap address),
      record { canonical = is_canonical_there depth address at.0; aligned = is_multiple fields.Address address K4 at.1 },
      knows_update version (Unmap address),
      λ i. record { kind = 1; size = no_size i; rights = no_rights i; address = address; physical = nowhere i },
    )
request_there version depth (suc (suc zero)) size rights address physical few most s r a p =
    let no_size = unused fields.Size size s in
    let all_rights = rights_back rights (below fields.Rights rights 8 r) in
    let nowhere = unused fields.Physical physical p in
    let at = both (canonical depth address) (multiple fields.Address address K4) a in (
      Update (Protect address (rights_from rights)),
      record { canonical = is_canonical_there depth address at.0; aligned = is_multiple fields.Address address K4 at.1 },
      knows_update version (Protect address (rights_from rights)),
      λ i. record { kind = 2; size = no_size i; rights = all_rights i; address = address; physical = nowhere i },
    )
request_there version depth (suc (suc (suc zero))) size rights address physical few most s r a p =
    let no_size = unused fields.Size size s in
    let no_rights = unused fields.Rights rights r in
    let nowhere = unused fields.Physical physical p in (
      Resolve address,
      is_canonical_there depth address (both (canonical depth address) None a).0,
      knows_resolve version address,
      λ i. record { kind = 3; size = no_size i; rights = no_rights i; address = address; physical = nowhere i },
    )
request_there version depth (suc (suc (suc (suc zero)))) size rights address physical few most s r a p =
    let (mode, access, does, by) = access_back size rights (below fields.Access size 3 s) (below fields.Mode rights 2 r) in
    let nowhere = unused fields.Physical physical p in (
      AccessQuery address mode access,
      is_canonical_there depth address (both (canonical depth address) None a).0,
      knows_access version address mode access few,
      λ i. record { kind = 4; size = does i; rights = by i; address = address; physical = nowhere i },
    )
request_there version depth (suc (suc (suc (suc (suc n))))) size rights address physical few most s r a p = absurd (omega arith)

abbrev SomeTouch : Depth → RequestFields → Type 0
SomeTouch depth of =
    (address : ℕ) × (mode : Mode) × (access : Access) × IsQuery depth (AccessQuery address mode access) × (of ≡ touch_fields address mode access)

pub touch_there : (depth : Depth) (kind size rights address physical : ℕ) → kind ≡ 5 → size_fault 5 size ≡ None → rights_fault 5 rights ≡ None
    → address_fault depth 5 (size_of size) address ≡ None → physical_fault 5 (size_of size) physical ≡ None
    → SomeTouch depth (record { kind = kind; size = size; rights = rights; address = address; physical = physical })
unfolding size_fault rights_fault address_fault physical_fault
touch_there depth kind size rights address physical is s r a p =
    let (mode, access, does, by) = access_back size rights (below fields.Access size 3 s) (below fields.Mode rights 2 r) in
    let nowhere = unused fields.Physical physical p in (
      address,
      mode,
      access,
      is_canonical_there depth address (both (canonical depth address) None a).0,
      λ i. record { kind = is i; size = does i; rights = by i; address = address; physical = nowhere i },
    )

pub knows_touch : (version : Version) (kind : ℕ) → kind < kinds version → kind ≡ 5 → KnowsTouch version
knows_touch Segment kind few is = tt
knows_touch _ kind few is = absurd (omega arith)

abbrev SomeRelease : RequestFields → Type 0
SomeRelease of = (size : PageSize) × (phys : ℕ) × IsMemory size phys × (of ≡ release_fields size phys)

pub release_there : (depth : Depth) (kind size rights address physical : ℕ) → kind ≡ 6 → size_fault 6 size ≡ None → rights_fault 6 rights ≡ None
    → address_fault depth 6 (size_of size) address ≡ None → physical_fault 6 (size_of size) physical ≡ None
    → SomeRelease (record { kind = kind; size = size; rights = rights; address = address; physical = physical })
unfolding size_fault rights_fault address_fault physical_fault
release_there depth kind size rights address physical is s r a p =
    let sizes = size_back size (below fields.Size size 3 s) in
    let no_rights = unused fields.Rights rights r in
    let nowhere = unused fields.Address address a in
    let from = both (multiple fields.Physical physical (size_of size)) (within physical (size_of size)) p in (
      size_of size,
      physical,
      (is_multiple fields.Physical physical (size_of size) from.0, is_within physical (size_of size) from.1),
      λ i. record { kind = is i; size = sizes i; rights = no_rights i; address = nowhere i; physical = physical },
    )

pub knows_release : (version : Version) (kind : ℕ) → kind < kinds version → kind ≡ 6 → KnowsTouch version
knows_release Segment kind few is = tt
knows_release V1 kind few is = absurd (omega arith)
knows_release V2 kind few is = absurd (omega arith)

-- ---- answers

pub record SomeAnswer (version : Version) (code size rights value : ℕ) : Type 0 where
  pub answer : Answer
  pub in_range : IsAnswer answer
  pub known : KnowsAnswer version answer
  pub code_is : code ≡ (answer_fields answer).code
  pub size_is : size ≡ (answer_fields answer).size
  pub rights_are : rights ≡ (answer_fields answer).rights
  pub value_is : value ≡ (answer_fields answer).value

few_answers : (version : Version) → answers_known version ≤ 10
few_answers V1 = omega arith
few_answers _ = omega arith

knows_below : (version : Version) (answer : Answer) → answer_code answer < answers_known version → KnowsAnswer version answer
knows_below V1 (answers.Allowed phys) few = absurd (omega arith)
knows_below V1 (answers.Fault code) few = absurd (omega arith)
knows_below _ _ few = tt

told : (version : Version) (size rights value : ℕ) (answer : Answer) → IsAnswer answer → answer_code answer < answers_known version
    → size ≡ (answer_fields answer).size → rights ≡ (answer_fields answer).rights → value ≡ (answer_fields answer).value
    → SomeAnswer version (answer_fields answer).code size rights value
told version size rights value answer in_range few s r v = record {
  answer = answer;
  in_range = in_range;
  known = knows_below version answer few;
  code_is = refl;
  size_is = s;
  rights_are = r;
  value_is = v;
}

pub answer_there : (version : Version) (code size rights value : ℕ) → code < answers_known version → size < sizes_of code → rights < rights_of code
    → value_fault code value ≡ None → value < 2 ^ 64 → SomeAnswer version code size rights value
unfolding sizes_of rights_of value_fault
answer_there version zero size rights value few s r v fits =
    told version size rights value answers.Done tt few (omega (arith, s)) (omega (arith, r)) (unused fields.Value value v)
answer_there version (suc zero) size rights value few s r v fits =
    told version size rights value (answers.Overlap value) fits few (omega (arith, s)) (omega (arith, r)) refl
answer_there version (suc (suc zero)) size rights value few s r v fits =
    told version size rights value (answers.Full value) fits few (omega (arith, s)) (omega (arith, r)) refl
answer_there version (suc (suc (suc zero))) size rights value few s r v fits =
    told version size rights value (answers.Removed value (size_of size) (rights_from rights)) fits few (size_back size s) (rights_back rights r) refl
answer_there version (suc (suc (suc (suc zero)))) size rights value few s r v fits =
    told version size rights value answers.NotMapped tt few (omega (arith, s)) (omega (arith, r)) (unused fields.Value value v)
answer_there version (suc (suc (suc (suc (suc zero))))) size rights value few s r v fits =
    told version size rights value (answers.Inside value) fits few (omega (arith, s)) (omega (arith, r)) refl
answer_there version (suc (suc (suc (suc (suc (suc zero)))))) size rights value few s r v fits =
    told version size rights value (answers.Changed (rights_from rights)) tt few (omega (arith, s)) (rights_back rights r) (unused fields.Value value v)
answer_there version (suc (suc (suc (suc (suc (suc (suc zero))))))) size rights value few s r v fits =
    told version size rights value (answers.Mapped value (size_of size) (rights_from rights)) fits few (size_back size s) (rights_back rights r) refl
answer_there version (suc (suc (suc (suc (suc (suc (suc (suc zero)))))))) size rights value few s r v fits =
    told version size rights value (answers.Allowed value) fits few (omega (arith, s)) (omega (arith, r)) refl
answer_there version (suc (suc (suc (suc (suc (suc (suc (suc (suc zero))))))))) size rights value few s r v fits =
    told version size rights value (answers.Fault value) fits few (omega (arith, s)) (omega (arith, r)) refl
answer_there version (suc (suc (suc (suc (suc (suc (suc (suc (suc (suc n)))))))))) size rights value few s r v fits =
    absurd (omega (arith, few, few_answers version))
