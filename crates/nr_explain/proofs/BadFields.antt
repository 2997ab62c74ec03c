-- Where no field of 24 bytes is wrong, they spell an event.
use Rattle.std.proofs.Common.{◌≡◌, ◌≢◌, inl, inr, eqb, ℕ, zero, suc, ◌+◌, ◌%◌, ◌<◌, ◌^◌, Bool, true, false, List, [], ◌∷◌, ◌++◌, length, get_or, None}
use Rattle.std.proofs.Common.{refl, ap, sym, ◌∙◌, subst, arith, rules}
use Rattle.std.specs.Prelude.{All, if◌then◌else◌, ◌==◌}
use Rattle.std.specs.Int.{w8, w16, w32, w64, to_be_bytes}
use Rattle.std.proofs.lemmas.Nat.{be_bytes_2, be_bytes_4, be_bytes_8}
use Rattle.std.proofs.lemmas.Bool.{eqb-true, eqb-false}
use Rattle.std.proofs.lemmas.Bool.Decides.{eqb_tells}
use Rattle.std.proofs.lemmas.List.{nil_from_length}
use Rattle.std.proofs.lemmas.List.Elements.{recursion_from_All}
use Rattle.vs_types.specs.Config.{Layout}
use Rattle.vs_types.specs.declared.addresses.depth.Depth.{Depth}
use Rattle.vs_types.specs.declared.requests.fields.RequestFields.{RequestFields}
use Rattle.nr_trace.specs.FirstFault.{IsCounts}
use Rattle.nr_trace.proofs.UnitsOfBytes.{bytes_from}
use Rattle.nr_trace.specs.Recording.{IsEvent}
use Rattle.nr_trace.specs.Spelling.{event}
use Rattle.nr_trace.specs.declared.recordings.event.Event.{Event}
use Rattle.nr_trace.specs.declared.recordings.event.Event.TheVariants.{Call, Reply}
use Rattle.nr_trace.specs.declared.recordings.event.Asked.TheVariants as askeds
use Rattle.nr_trace.specs.declared.formats.fields.Counts.{Counts}
use Rattle.nr_trace.specs.declared.formats.version.Version.{Version}
use Rattle.nr_trace.specs.declared.formats.version.Version.TheVariants.{Segment}
use Rattle.nr_explain.specs.Fields.{address_fault, answers_of, call_fault, event_fault, kinds_of, limited, number_8}
use Rattle.nr_explain.specs.Fields.{number_16, number_32, number_64, physical_fault, reply_fault, rights_fault, rights_of, size_fault, size_of}
use Rattle.nr_explain.specs.Fields.{sizes_of}
use Rattle.nr_explain.specs.declared.fields.EventField.TheVariants as fields
use Rattle.nr_explain.proofs.RightFields.{both, below, kinds, answers_known, Says, says, header_bytes, release_there, request_there, touch_there, knows_release}
use Rattle.nr_explain.proofs.RightFields.{knows_touch, answer_there}

-- ---- bytes

-- so many items from one on
abbrev items : ℕ → ℕ → List ℕ → List ℕ
items zero from list = []
items (suc many) from list = get_or list from 0 ∷ items many (suc from) list

items_behind : (many from first : ℕ) (list : List ℕ) → items many (suc from) (first ∷ list) ≡ items many from list
items_behind zero from first list = refl
items_behind (suc many) from first list = ap (λ (l : List ℕ). get_or list from 0 ∷ l) (items_behind many (suc from) first list)

all_items : (many : ℕ) (list : List ℕ) → length list ≡ many → list ≡ items many 0 list
all_items zero list long = nil_from_length list long
all_items (suc many) [] long = absurd (omega arith)
all_items (suc many) (first ∷ list) long =
    ap (λ (l : List ℕ). first ∷ l) (all_items many list (omega (arith, long)) ∙ sym (items_behind many 0 first list))

abbrev InBytes : List ℕ → Type 0
InBytes unit = (i : ℕ) → number_8 unit i < 256

two_bytes : (unit : List ℕ) (at : ℕ) → InBytes unit → to_be_bytes w16 (number_16 unit at) ≡ number_8 unit at ∷ number_8 unit (at + 1) ∷ []
two_bytes unit at fits = be_bytes_2 (number_8 unit at ∷ number_8 unit (at + 1) ∷ []) (number_16 unit at) refl
    (bytes_from (number_8 unit at ∷ number_8 unit (at + 1) ∷ []) (fits at, (fits (at + 1), tt))) refl

abbrev four : List ℕ → ℕ → List ℕ
four unit at = number_8 unit at ∷ number_8 unit (at + 1) ∷ number_8 unit (at + 2) ∷ number_8 unit (at + 3) ∷ []

four_bytes : (unit : List ℕ) (at : ℕ) → InBytes unit → to_be_bytes w32 (number_32 unit at) ≡ four unit at
four_bytes unit at fits = be_bytes_4 (four unit at) (number_32 unit at) refl
    (bytes_from (four unit at) (search rules)) refl

abbrev eight : List ℕ → ℕ → List ℕ
eight unit at = number_8 unit at ∷ number_8 unit (at + 1) ∷ number_8 unit (at + 2) ∷ number_8 unit (at + 3)
    ∷ number_8 unit (at + 4) ∷ number_8 unit (at + 5) ∷ number_8 unit (at + 6) ∷ number_8 unit (at + 7) ∷ []

eight_bytes : (unit : List ℕ) (at : ℕ) → InBytes unit → to_be_bytes w64 (number_64 unit at) ≡ eight unit at
eight_bytes unit at fits = be_bytes_8 (eight unit at) (number_64 unit at) refl (bytes_from (eight unit at) (search rules)) refl

few_32 : (unit : List ℕ) (at : ℕ) → InBytes unit → number_32 unit at < 2 ^ 32
few_32 unit at fits = omega (arith, fits at, fits (at + 1), fits (at + 2), fits (at + 3))

few_64 : (unit : List ℕ) (at : ℕ) → InBytes unit → number_64 unit at < 2 ^ 64
few_64 unit at fits =
    omega (arith, fits at, fits (at + 1), fits (at + 2), fits (at + 3), fits (at + 4), fits (at + 5), fits (at + 6), fits (at + 7))

-- ---- calls

abbrev fields_at : List ℕ → RequestFields
fields_at unit = record {
  kind = number_8 unit 4;
  size = number_8 unit 5;
  rights = number_8 unit 6;
  address = number_64 unit 8;
  physical = number_64 unit 16;
}

abbrev call_bytes : ℕ → ℕ → RequestFields → List ℕ
call_bytes replica thread of =
    to_be_bytes w8 0 ++ to_be_bytes w8 replica ++ to_be_bytes w16 thread ++ to_be_bytes w8 of.kind ++ to_be_bytes w8 of.size
    ++ to_be_bytes w8 of.rights ++ to_be_bytes w8 0 ++ to_be_bytes w64 of.address ++ to_be_bytes w64 of.physical

call_spelled : (unit : List ℕ) → length unit ≡ 24 → InBytes unit → number_8 unit 0 ≡ 0 → number_8 unit 7 ≡ 0
    → unit ≡ call_bytes (number_8 unit 1) (number_16 unit 2) (fields_at unit)
call_spelled unit long fits tag unused =
    let small : (i : ℕ) → number_8 unit i % 256 ≡ number_8 unit i = λ i. omega (arith, fits i) in
    let thread = two_bytes unit 2 fits in
    let address = eight_bytes unit 8 fits in
    let physical = eight_bytes unit 16 fits in
    let same : call_bytes (number_8 unit 1) (number_16 unit 2) (fields_at unit) ≡ items 24 0 unit =
    λ i. sym tag i ∷ small 1 i ∷ (thread i ++ (small 4 i ∷ small 5 i ∷ small 6 i ∷ sym unused i ∷ (address i ++ physical i))) in
    all_items 24 unit long ∙ sym same

below_five : (version : Version) (kind : ℕ) → kind < kinds version → kind ≢ 5 → kind ≢ 6 → kind < 5
below_five Segment kind few not other = grind arith
below_five _ kind few not other = omega arith

SomeEvent : Version → Layout → List ℕ → Type 0
SomeEvent version layout unit = (one : Event) × IsEvent version layout one × (unit ≡ event one)

call_there : (version : Version) (layout : Layout) (header unit : List ℕ) → Says header version layout → length unit ≡ 24 → InBytes unit
    → number_8 unit 0 ≡ 0 → call_fault header unit ≡ None → SomeEvent version layout unit
unfolding call_fault SomeEvent
call_there version layout header unit said long fits tag h =
    let (h7, physical) = both _ _ h in
    let (h6, address) = both _ _ h7 in
    let (h5, unused) = both _ _ h6 in
    let (h4, rights) = both _ _ h5 in
    let (h3, size) = both _ _ h4 in
    let (h2, kind) = both _ _ h3 in
    let (replica, thread) = both _ _ h2 in
    let few : number_8 unit 4 < kinds version = omega (arith, below fields.Kind (number_8 unit 4) (kinds_of header) kind, said.kinds_are) in
    let at = subst (λ (depth : Depth). address_fault depth (number_8 unit 4) (size_of (number_8 unit 5)) (number_64 unit 8) ≡ None) said.depth address in
    let none : number_8 unit 7 ≡ 0 = omega (arith, below fields.Unused (number_8 unit 7) 1 unused) in
    let there : number_8 unit 1 < layout.replicas = omega (arith, below fields.Replica (number_8 unit 1) (number_8 header 7) replica, said.replicas) in
    let here : number_16 unit 2 < layout.threads = omega (arith, below fields.Thread (number_16 unit 2) (number_16 header 8) thread, said.threads) in
    elim (eqb_tells (number_8 unit 4) 5) [
      | inl is ↦ (
          let found = touch_there layout.depth (number_8 unit 4) (number_8 unit 5) (number_8 unit 6) (number_64 unit 8) (number_64 unit 16) is.1
          (subst (λ (kind : ℕ). size_fault kind (number_8 unit 5) ≡ None) is.1 size)
          (subst (λ (kind : ℕ). rights_fault kind (number_8 unit 6) ≡ None) is.1 rights)
          (subst (λ (kind : ℕ). address_fault layout.depth kind (size_of (number_8 unit 5)) (number_64 unit 8) ≡ None) is.1 at)
          (subst (λ (kind : ℕ). physical_fault kind (size_of (number_8 unit 5)) (number_64 unit 16) ≡ None) is.1 physical) in (
            Call (number_8 unit 1) (number_16 unit 2) (askeds.Touch found.0 found.1 found.2),
            (there, here, found.3, knows_touch version (number_8 unit 4) few is.1),
            call_spelled unit long fits tag none ∙ ap (call_bytes (number_8 unit 1) (number_16 unit 2)) found.4,
          ))
      | inr not ↦ elim (eqb_tells (number_8 unit 4) 6) [
        | inl is ↦ (
            let found = release_there layout.depth (number_8 unit 4) (number_8 unit 5) (number_8 unit 6) (number_64 unit 8) (number_64 unit 16) is.1
            (subst (λ (kind : ℕ). size_fault kind (number_8 unit 5) ≡ None) is.1 size)
            (subst (λ (kind : ℕ). rights_fault kind (number_8 unit 6) ≡ None) is.1 rights)
            (subst (λ (kind : ℕ). address_fault layout.depth kind (size_of (number_8 unit 5)) (number_64 unit 8) ≡ None) is.1 at)
            (subst (λ (kind : ℕ). physical_fault kind (size_of (number_8 unit 5)) (number_64 unit 16) ≡ None) is.1 physical) in (
              Call (number_8 unit 1) (number_16 unit 2) (askeds.Release found.0 found.1),
              (there, here, found.2, knows_release version (number_8 unit 4) few is.1),
              call_spelled unit long fits tag none ∙ ap (call_bytes (number_8 unit 1) (number_16 unit 2)) found.3,
            ))
        | inr other ↦ (
            let most : number_8 unit 4 < 5 = below_five version (number_8 unit 4) few not.1 other.1 in
            let found = request_there version layout.depth (number_8 unit 4) (number_8 unit 5) (number_8 unit 6) (number_64 unit 8) (number_64 unit 16) few
            most size rights at physical in (
              Call (number_8 unit 1) (number_16 unit 2) (askeds.Request found.0),
              (there, here, found.1, found.2),
              call_spelled unit long fits tag none ∙ ap (call_bytes (number_8 unit 1) (number_16 unit 2)) found.3,
            ))
      ]
    ]

-- ---- replies

abbrev reply_bytes : ℕ → ℕ → ℕ → ℕ → ℕ → ℕ → List ℕ
reply_bytes call at code size rights value =
    to_be_bytes w8 1 ++ to_be_bytes w8 code ++ to_be_bytes w8 size ++ to_be_bytes w8 rights
    ++ to_be_bytes w32 call ++ to_be_bytes w32 at ++ to_be_bytes w32 0 ++ to_be_bytes w64 value

reply_spelled : (unit : List ℕ) → length unit ≡ 24 → InBytes unit → number_8 unit 0 ≡ 1 → number_32 unit 12 ≡ 0
    → unit ≡ reply_bytes (number_32 unit 4) (number_32 unit 8) (number_8 unit 1) (number_8 unit 2) (number_8 unit 3) (number_64 unit 16)
reply_spelled unit long fits tag unused =
    let small : (i : ℕ) → number_8 unit i % 256 ≡ number_8 unit i = λ i. omega (arith, fits i) in
    let call = four_bytes unit 4 fits in
    let at = four_bytes unit 8 fits in
    let none = ap (to_be_bytes w32) (sym unused) ∙ four_bytes unit 12 fits in
    let value = eight_bytes unit 16 fits in
    let same : reply_bytes (number_32 unit 4) (number_32 unit 8) (number_8 unit 1) (number_8 unit 2) (number_8 unit 3) (number_64 unit 16)
    ≡ items 24 0 unit = λ i. sym tag i ∷ small 1 i ∷ small 2 i ∷ small 3 i ∷ (call i ++ (at i ++ (none i ++ value i))) in
    all_items 24 unit long ∙ sym same

reply_there : (version : Version) (layout : Layout) (header unit : List ℕ) → Says header version layout → length unit ≡ 24 → InBytes unit
    → number_8 unit 0 ≡ 1 → reply_fault header unit ≡ None → SomeEvent version layout unit
unfolding reply_fault SomeEvent
reply_there version layout header unit said long fits tag h =
    let (h4, value) = both _ _ h in
    let (h3, unused) = both _ _ h4 in
    let (h2, rights) = both _ _ h3 in
    let (code, size) = both _ _ h2 in
    let answer = number_8 unit 1 in
    let few : answer < answers_known version = omega (arith, below fields.Answer answer (answers_of header) code, said.answers_are) in
    let found = answer_there version answer (number_8 unit 2) (number_8 unit 3) (number_64 unit 16) few
    (below fields.Size (number_8 unit 2) (sizes_of answer) size) (below fields.Rights (number_8 unit 3) (rights_of answer) rights) value
    (few_64 unit 16 fits) in
    let none : number_32 unit 12 ≡ 0 = omega (arith, below fields.Unused (number_32 unit 12) 1 unused) in (
      Reply (number_32 unit 4) (number_32 unit 8) found.answer,
      (few_32 unit 4 fits, few_32 unit 8 fits, found.in_range, found.known),
      reply_spelled unit long fits tag none
          ∙ (λ i. reply_bytes (number_32 unit 4) (number_32 unit 8) (found.code_is i) (found.size_is i) (found.rights_are i) (found.value_is i)),
    )

-- ---- events

by_tag : (version : Version) (layout : Layout) (header unit : List ℕ) (is_call is_reply : Bool) → Says header version layout → length unit ≡ 24
    → InBytes unit → eqb (number_8 unit 0) 0 ≡ is_call → eqb (number_8 unit 0) 1 ≡ is_reply
    → (if is_call then call_fault header unit else (if is_reply then reply_fault header unit else limited fields.Tag (number_8 unit 0) 2)) ≡ None
    → SomeEvent version layout unit
by_tag version layout header unit true is_reply said long fits c r none =
    call_there version layout header unit said long fits (eqb-true (number_8 unit 0) 0 c) none
by_tag version layout header unit false true said long fits c r none =
    reply_there version layout header unit said long fits (eqb-true (number_8 unit 0) 1 r) none
by_tag version layout header unit false false said long fits c r none =
    absurd (omega (arith, below fields.Tag (number_8 unit 0) 2 none, eqb-false (number_8 unit 0) 0 c, eqb-false (number_8 unit 0) 1 r))

pub spelled_unless_wrong : (version : Version) (numbers : Counts) (header behind unit : List ℕ) → IsCounts version numbers
    → header ≡ header_bytes version numbers behind → length unit ≡ 24 → All (λ byte. byte < 256) unit → event_fault header unit ≡ None
    → (one : Event) × IsEvent version numbers.layout one × (unit ≡ event one)
unfolding event_fault SomeEvent
spelled_unless_wrong version numbers header behind unit in_range spelled long all none =
    by_tag version numbers.layout header unit (number_8 unit 0 == 0) (number_8 unit 0 == 1) (says version numbers header behind in_range spelled) long
    (bytes_from unit (recursion_from_All (λ byte. byte < 256) unit all)) refl refl none
