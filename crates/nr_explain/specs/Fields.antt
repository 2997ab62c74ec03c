-- The first field of an event's 24 bytes that isn't what it may be, after the header of a trace or of a segment.
use Rattle.std.specs.Prelude.{ℕ, Bool, ◌+◌, ◌%◌, ◌==◌, ◌||◌, nat_lt, List, [], ◌∷◌, slice_index, Option, Some, None, if◌then◌else◌}
use Rattle.std.specs.Option.{option_or}
use Rattle.std.specs.Int.{w16, w32, w64, from_be_bytes}
use Rattle.vs_types.specs.Depth.{is_canonical, levels}
use Rattle.vs_types.specs.Page.{bytes_of}
use Rattle.vs_types.specs.declared.addresses.depth.Depth.{Depth}
use Rattle.vs_types.specs.declared.addresses.depth.Depth.TheVariants.{Four, Five}
use Rattle.vs_types.specs.declared.addresses.page.Size.{Size as PageSize}
use Rattle.vs_types.specs.declared.addresses.page.Size.TheVariants.{K4, M2, G1}
use Rattle.vs_types.specs.declared.addresses.page.TheConstants.Page.{PHYS_END}
use Rattle.nr_trace.specs.declared.refusals.fault.Format.{Format}
use Rattle.nr_trace.specs.declared.refusals.fault.Format.TheVariants.{BadEvent}
use Rattle.nr_explain.specs.declared.fields.EventField.{EventField}
use Rattle.nr_explain.specs.declared.fields.EventField.TheVariants.{Tag, Replica, Thread, Kind, Size, Access, Rights, Mode, Unused, Address, Physical, Answer}
use Rattle.nr_explain.specs.declared.fields.EventField.TheVariants.{Value}
use Rattle.nr_explain.specs.declared.fields.FieldFault.{FieldFault}
use Rattle.nr_explain.specs.declared.fields.FieldFault.TheVariants.{NotBelow, NotCanonical, NotMultiple, Beyond}
use Rattle.nr_explain.specs.declared.fields.BadField.{BadField}

-- ---- numbers

-- the number of the bytes from this one on
abbrev pub number_8 : List ℕ → ℕ → ℕ
number_8 bytes at = slice_index bytes at

-- the number of the two bytes from this one on, the greater one first
abbrev pub number_16 : List ℕ → ℕ → ℕ
number_16 bytes at = from_be_bytes w16 (number_8 bytes at ∷ number_8 bytes (at + 1) ∷ [])

-- the number of the four bytes from this one on, the greatest first
abbrev pub number_32 : List ℕ → ℕ → ℕ
number_32 bytes at =
    from_be_bytes w32 (number_8 bytes at ∷ number_8 bytes (at + 1) ∷ number_8 bytes (at + 2) ∷ number_8 bytes (at + 3) ∷ [])

-- the number of the eight bytes from this one on, the greatest first
abbrev pub number_64 : List ℕ → ℕ → ℕ
number_64 bytes at = from_be_bytes w64 (number_8 bytes at ∷ number_8 bytes (at + 1) ∷ number_8 bytes (at + 2) ∷ number_8 bytes (at + 3)
    ∷ number_8 bytes (at + 4) ∷ number_8 bytes (at + 5) ∷ number_8 bytes (at + 6) ∷ number_8 bytes (at + 7) ∷ [])

-- a segment's magic is NRVS, and a trace's NRVT
abbrev pub is_segment : List ℕ → Bool
is_segment header = number_8 header 3 == 83

-- what a header says: the depth, and the first kind and the first answer that its version doesn't know
unfoldable pub depth_of : List ℕ → Depth
depth_of header = if number_8 header 6 == 4 then Four else Five

-- the first kind of a request that the version of a header doesn't know
unfoldable pub kinds_of : List ℕ → ℕ
kinds_of header = if is_segment header then 7 else (if number_16 header 4 == 1 then 4 else 5)

-- the first answer that the version of a header doesn't know
unfoldable pub answers_of : List ℕ → ℕ
answers_of header = if is_segment header then 10 else (if number_16 header 4 == 1 then 8 else 10)

-- ---- what may be wrong with a field

-- a field, its value, and what is wrong with it
abbrev pub fault_of : EventField → ℕ → FieldFault → Option BadField
fault_of field value fault = Some (record { field = field; value = value; fault = fault })

-- a number that isn't below its limit; an unused field is 0
unfoldable pub limited : EventField → ℕ → ℕ → Option BadField
limited field value limit = if nat_lt value limit then None else fault_of field value (NotBelow limit)

-- an address that isn't canonical
unfoldable pub canonical : Depth → ℕ → Option BadField
canonical depth address = if is_canonical depth address then None else fault_of Address address (NotCanonical (levels depth))

-- an address at which a page can't begin
unfoldable pub multiple : EventField → ℕ → PageSize → Option BadField
multiple field value size = if value % bytes_of size == 0 then None else fault_of field value (NotMultiple (bytes_of size))

-- a page that ends too far
unfoldable pub within : ℕ → PageSize → Option BadField
within physical size = if nat_lt PHYS_END (physical + bytes_of size) then fault_of Physical physical Beyond else None

-- the first of two
infixl 10 ◌otherwise◌
abbrev pub ◌otherwise◌ : Option BadField → Option BadField → Option BadField
first otherwise second = option_or first second

-- ---- calls

-- the size of a code
unfoldable pub size_of : ℕ → PageSize
size_of code = if code == 0 then K4 else (if code == 1 then M2 else G1)

-- a map has a size and rights, a release a size, a protect rights, and an access or a touch what it does and the mode
unfoldable pub size_fault : ℕ → ℕ → Option BadField
size_fault kind size =
    if kind == 0 || kind == 6 then limited Size size 3 else (if kind == 4 || kind == 5 then limited Access size 3 else limited Size size 1)

-- what is wrong with the rights of a call: an access and a touch have the mode there
unfoldable pub rights_fault : ℕ → ℕ → Option BadField
rights_fault kind rights =
    if kind == 0 || kind == 2 then limited Rights rights 8
    else (if kind == 4 || kind == 5 then limited Mode rights 2 else limited Rights rights 1)

-- a release has no address; a map begins at a multiple of its size, an unmap and a protect at one of 4,096
unfoldable pub address_fault : Depth → ℕ → PageSize → ℕ → Option BadField
address_fault depth kind size address =
    if kind == 6 then limited Address address 1
    else (canonical depth address otherwise
    (if kind == 0 then multiple Address address size else (if nat_lt kind 3 then multiple Address address K4 else None)))

-- only a map and a release have a physical address
unfoldable pub physical_fault : ℕ → PageSize → ℕ → Option BadField
physical_fault kind size physical =
    if kind == 0 || kind == 6 then multiple Physical physical size otherwise within physical size else limited Physical physical 1

-- the first field of a call that isn't what it may be
unfoldable pub call_fault : List ℕ → List ℕ → Option BadField
call_fault header unit =
    let kind = number_8 unit 4 in
    limited Replica (number_8 unit 1) (number_8 header 7) otherwise limited Thread (number_16 unit 2) (number_16 header 8)
    otherwise limited Kind kind (kinds_of header) otherwise size_fault kind (number_8 unit 5) otherwise rights_fault kind (number_8 unit 6)
    otherwise limited Unused (number_8 unit 7) 1
    otherwise address_fault (depth_of header) kind (size_of (number_8 unit 5)) (number_64 unit 8)
    otherwise physical_fault kind (size_of (number_8 unit 5)) (number_64 unit 16)

-- ---- replies

-- a page that was removed or that is mapped has a size and rights, a changed one rights; done, not mapped and changed have no value
unfoldable pub sizes_of : ℕ → ℕ
sizes_of answer = if answer == 3 || answer == 7 then 3 else 1

-- the limit of the rights of an answer: 8, or 1 if it has none
unfoldable pub rights_of : ℕ → ℕ
rights_of answer = if answer == 3 || answer == 6 || answer == 7 then 8 else 1

-- what is wrong with the value of an answer: done, not mapped and changed have none
unfoldable pub value_fault : ℕ → ℕ → Option BadField
value_fault answer value = if answer == 0 || answer == 4 || answer == 6 then limited Value value 1 else None

-- the first field of a reply that isn't what it may be
unfoldable pub reply_fault : List ℕ → List ℕ → Option BadField
reply_fault header unit =
    let answer = number_8 unit 1 in
    limited Answer answer (answers_of header) otherwise limited Size (number_8 unit 2) (sizes_of answer)
    otherwise limited Rights (number_8 unit 3) (rights_of answer) otherwise limited Unused (number_32 unit 12) 1
    otherwise value_fault answer (number_64 unit 16)

-- ---- events

-- the first field of the unit that isn't what it may be: of a call, of a reply, or its tag
unfoldable pub event_fault : List ℕ → List ℕ → Option BadField
event_fault header unit =
    if number_8 unit 0 == 0 then call_fault header unit
    else (if number_8 unit 0 == 1 then reply_fault header unit else limited Tag (number_8 unit 0) 2)

-- the field of a unit with this fault, if it is an event
unfoldable pub field_fault : Format → List ℕ → List ℕ → Option BadField
field_fault (BadEvent index) header unit = event_fault header unit
field_fault fault header unit = None
