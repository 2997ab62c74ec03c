-- Each unit's spelling has a fixed length, and what fits is read back from it, so it differs from any other, whatever comes after it.
use Rattle.std.proofs.Common.{◌≡◌, ◌==◌, ℕ, zero, suc, ◌*◌, ◌<◌, ◌≤◌, ◌^◌, ◌%◌, Bool, true, false, List, [], ◌∷◌, ◌++◌, length, get_or, drop}
use Rattle.std.proofs.Common.{refl, ap, ap₂, sym, ◌∙◌, arith}
use Rattle.std.specs.Prelude.{flat_map, if◌then◌else◌}
use Rattle.std.specs.List.{AllByRecursion}
use Rattle.std.specs.Int.{w8, w16, w32, w64, to_be_bytes, from_be_bytes}
use Rattle.std.proofs.lemmas.Nat.{from_be_bytes-to_be_bytes_2, from_be_bytes-to_be_bytes_4, from_be_bytes-to_be_bytes_8}
use Rattle.std.proofs.lemmas.List.{append_assoc, length-append}
use Rattle.std.proofs.lemmas.List.Elements.{recursion_from_All}
use Rattle.vs_types.specs.Config.{Layout, IsLayoutWithin}
use Rattle.vs_types.specs.declared.limits.TheConstants.{FRAMES}
use Rattle.vs_types.specs.Depth.{levels}
use Rattle.vs_types.specs.Codes.{size_code, rights_code, mode_code, access_code}
use Rattle.vs_types.specs.Fields.{request_fields}
use Rattle.vs_types.specs.Frame.{IsFrame}
use Rattle.vs_types.specs.Query.{IsQuery}
use Rattle.vs_types.specs.declared.addresses.depth.Depth.{Depth}
use Rattle.vs_types.specs.declared.addresses.depth.Depth.TheVariants.{Four, Five}
use Rattle.vs_types.specs.declared.addresses.page.Rights.{Rights}
use Rattle.vs_types.specs.declared.addresses.page.Size.{Size}
use Rattle.vs_types.specs.declared.addresses.page.Size.TheVariants.{K4, M2, G1}
use Rattle.vs_types.specs.declared.addresses.access.Mode.{Mode}
use Rattle.vs_types.specs.declared.addresses.access.Mode.TheVariants.{Supervisor, User}
use Rattle.vs_types.specs.declared.addresses.access.Access as accesses
use Rattle.vs_types.specs.declared.addresses.access.Access.TheVariants.{Read, Write, Fetch}
use Rattle.vs_types.specs.declared.requests.op.Action.TheVariants.{Map, Unmap, Protect}
use Rattle.vs_types.specs.declared.requests.request.Query.{Query}
use Rattle.vs_types.specs.declared.requests.request.Query.TheVariants.{Update, Resolve, Access}
use Rattle.vs_types.specs.declared.requests.fields.RequestFields.{RequestFields}
use Rattle.vs_types.specs.declared.requests.answer.Answer.{Answer}
use Rattle.vs_types.specs.declared.requests.answer.Answer.TheVariants.{Done, Overlap, Full, Removed, NotMapped, Inside, Changed, Mapped, Allowed, Fault}
use Rattle.vs_types.proofs.Pages.{canonical_fits}
use Rattle.vs_types.proofs.LogWords.{size_code_low, rights_code_low}
use Rattle.nr_trace.specs.Recording.{IsAnswer}
use Rattle.nr_trace.specs.Spelling.{answer_fields, touch_fields, version_word, counts, log_word, event, dump_head, frame_number, frame_words}
use Rattle.nr_trace.specs.Versions.{IsVersionOf, most_frames, most_start, most_tables, most_threads}
use Rattle.nr_trace.specs.FirstFault.{IsCounts, IsDumpHead, counts_bytes}
use Rattle.nr_trace.specs.declared.formats.fields.AnswerFields.{AnswerFields}
use Rattle.nr_trace.specs.declared.formats.fields.Counts.{Counts}
use Rattle.nr_trace.specs.declared.formats.fields.DumpHead.{DumpHead}
use Rattle.nr_trace.specs.declared.formats.version.Version.{Version}
use Rattle.nr_trace.specs.declared.formats.version.Version.TheVariants.{V1, V2, Segment}
use Rattle.nr_trace.specs.declared.formats.version.Form.{Form}
use Rattle.nr_trace.specs.declared.formats.version.Form.TheVariants as forms
use Rattle.nr_trace.specs.declared.recordings.event.Event.{Event}
use Rattle.nr_trace.specs.declared.recordings.event.Event.TheVariants.{Call}

-- two values that fit are one if their spellings begin one list, and then what comes after is one too
abbrev pub ToldApart : {A : Type 0} → (A → Type 0) → (A → List ℕ) → Type 0
ToldApart {A} Fits spelled = (a b : A) (us vs : List ℕ) → Fits a → Fits b → spelled a ++ us ≡ spelled b ++ vs → (a ≡ b) × (us ≡ vs)

-- ---- numbers

fronts_same : (xs ys us vs : List ℕ) → length xs ≡ length ys → xs ++ us ≡ ys ++ vs → (xs ≡ ys) × (us ≡ vs)
fronts_same [] [] us vs l e = (refl, e)
fronts_same (x ∷ xs) (y ∷ ys) us vs l e =
    let h : x ≡ y = cc in
    let t : xs ++ us ≡ ys ++ vs = cc in
    let r = fronts_same xs ys us vs (omega arith) t in
    (ap₂ ◌∷◌ h r.0, r.1)
fronts_same _ _ us vs l e = absurd (omega arith)

-- spellings of one length differ where each value is read back from its own
pub apart_by : {A : Type 0} (Fits : A → Type 0) (spelled : A → List ℕ) (from : List ℕ → A) → ((value : A) → Fits value → from (spelled value) ≡ value)
    → (bytes : ℕ) → ((value : A) → length (spelled value) ≡ bytes) → ToldApart Fits spelled
apart_by Fits spelled from back bytes long a b us vs h k e =
    let r = fronts_same (spelled a) (spelled b) us vs (long a ∙ sym (long b)) e in
    (sym (back a h) ∙ ap from r.0 ∙ back b k, r.1)

pub number_8 : ToldApart (λ n. n < 2 ^ 8) (to_be_bytes w8)
number_8 = apart_by (λ n. n < 2 ^ 8) (to_be_bytes w8) (λ l. get_or l 0 0) (λ n h. let small : n % 256 ≡ n = omega arith in small) 1 (λ n. refl)

pub number_16 : ToldApart (λ n. n < 2 ^ 16) (to_be_bytes w16)
number_16 = apart_by (λ n. n < 2 ^ 16) (to_be_bytes w16) (from_be_bytes w16) from_be_bytes-to_be_bytes_2 2 (λ n. refl)

pub number_32 : ToldApart (λ n. n < 2 ^ 32) (to_be_bytes w32)
number_32 = apart_by (λ n. n < 2 ^ 32) (to_be_bytes w32) (from_be_bytes w32) from_be_bytes-to_be_bytes_4 4 (λ n. refl)

pub number_64 : ToldApart (λ n. n < 2 ^ 64) (to_be_bytes w64)
number_64 = apart_by (λ n. n < 2 ^ 64) (to_be_bytes w64) (from_be_bytes w64) from_be_bytes-to_be_bytes_8 8 (λ n. refl)

-- ---- codes, and the way back from each

abbrev pub size_from : ℕ → Size
size_from zero = K4
size_from (suc zero) = M2
size_from (suc (suc n)) = G1

pub size_back : (size : Size) → size_from (size_code size) ≡ size
size_back K4 = refl
size_back _ = refl

abbrev pub rights_from : ℕ → Rights
rights_from zero = record { write = false; user = false; exec = false }
rights_from (suc zero) = record { write = true; user = false; exec = false }
rights_from (suc (suc zero)) = record { write = false; user = true; exec = false }
rights_from (suc (suc (suc zero))) = record { write = true; user = true; exec = false }
rights_from (suc (suc (suc (suc zero)))) = record { write = false; user = false; exec = true }
rights_from (suc (suc (suc (suc (suc zero))))) = record { write = true; user = false; exec = true }
rights_from (suc (suc (suc (suc (suc (suc zero)))))) = record { write = false; user = true; exec = true }
rights_from (suc (suc (suc (suc (suc (suc (suc n))))))) = record { write = true; user = true; exec = true }

rights_back_by : (write user exec : Bool)
    → rights_from (rights_code (record { write = write; user = user; exec = exec })) ≡ record { write = write; user = user; exec = exec }
rights_back_by true true false = refl
rights_back_by false false true = refl
rights_back_by true false true = refl
rights_back_by false true true = refl
rights_back_by _ _ _ = refl

pub rights_back : (rights : Rights) → rights_from (rights_code rights) ≡ rights
rights_back rights = rights_back_by rights.write rights.user rights.exec

abbrev mode_from : ℕ → Mode
mode_from zero = Supervisor
mode_from (suc n) = User

mode_back : (mode : Mode) → mode_from (mode_code mode) ≡ mode
mode_back Supervisor = refl
mode_back User = refl

mode_few : (mode : Mode) → mode_code mode < 8
mode_few Supervisor = omega arith
mode_few User = omega arith

abbrev access_from : ℕ → accesses.Access
access_from zero = Read
access_from (suc zero) = Write
access_from (suc (suc n)) = Fetch

access_back : (access : accesses.Access) → access_from (access_code access) ≡ access
access_back Read = refl
access_back _ = refl

access_few : (access : accesses.Access) → access_code access < 3
access_few Read = omega arith
access_few _ = omega arith

abbrev request_of_kind : ℕ → RequestFields → Query
request_of_kind zero f = Update (Map (record { base = f.address; size = size_from f.size; phys = f.physical; rights = rights_from f.rights }))
request_of_kind (suc zero) f = Update (Unmap f.address)
request_of_kind (suc (suc zero)) f = Update (Protect f.address (rights_from f.rights))
request_of_kind (suc (suc (suc zero))) f = Resolve f.address
request_of_kind (suc (suc (suc (suc n)))) f = Access f.address (mode_from f.rights) (access_from f.size)

abbrev pub request_from : RequestFields → Query
request_from f = request_of_kind f.kind f

pub request_back : (request : Query) → request_from (request_fields request) ≡ request
request_back (Update (Map page)) =
    ap₂ (λ (size : Size) (rights : Rights). Update (Map (record { base = page.base; size = size; phys = page.phys; rights = rights }))) (size_back page.size)
    (rights_back page.rights)
request_back (Update (Protect base rights)) = ap (λ (rights : Rights). Update (Protect base rights)) (rights_back rights)
request_back (Access address mode access) = ap₂ (Access address) (mode_back mode) (access_back access)
request_back _ = refl

pub request_apart : (a b : Query) → request_fields a ≡ request_fields b → a ≡ b
request_apart a b e = sym (request_back a) ∙ ap request_from e ∙ request_back b

pub touch_back : (address : ℕ) (mode : Mode) (access : accesses.Access) → request_from (touch_fields address mode access) ≡ Access address mode access
touch_back address mode access = ap₂ (Access address) (mode_back mode) (access_back access)

abbrev answer_of_code : ℕ → AnswerFields → Answer
answer_of_code zero f = Done
answer_of_code (suc zero) f = Overlap f.value
answer_of_code (suc (suc zero)) f = Full f.value
answer_of_code (suc (suc (suc zero))) f = Removed f.value (size_from f.size) (rights_from f.rights)
answer_of_code (suc (suc (suc (suc zero)))) f = NotMapped
answer_of_code (suc (suc (suc (suc (suc zero))))) f = Inside f.value
answer_of_code (suc (suc (suc (suc (suc (suc zero)))))) f = Changed (rights_from f.rights)
answer_of_code (suc (suc (suc (suc (suc (suc (suc zero))))))) f = Mapped f.value (size_from f.size) (rights_from f.rights)
answer_of_code (suc (suc (suc (suc (suc (suc (suc (suc zero)))))))) f = Allowed f.value
answer_of_code (suc (suc (suc (suc (suc (suc (suc (suc (suc n))))))))) f = Fault f.value

abbrev pub answer_from : AnswerFields → Answer
answer_from f = answer_of_code f.code f

pub answer_back : (answer : Answer) → answer_from (answer_fields answer) ≡ answer
answer_back (Removed phys size rights) = ap₂ (Removed phys) (size_back size) (rights_back rights)
answer_back (Changed rights) = ap Changed (rights_back rights)
answer_back (Mapped phys size rights) = ap₂ (Mapped phys) (size_back size) (rights_back rights)
answer_back _ = refl

pub answer_apart : (a b : Answer) → answer_fields a ≡ answer_fields b → a ≡ b
answer_apart a b e = sym (answer_back a) ∙ ap answer_from e ∙ answer_back b

-- ---- the ranges of fields

-- the fields of a request or an answer fit the bytes that they have
pub record RequestFits (fields : RequestFields) : Type 0 where
  pub kind : fields.kind < 5
  pub size : fields.size < 3
  pub rights : fields.rights < 8
  pub address : fields.address < 2 ^ 64
  pub physical : fields.physical < 2 ^ 64

pub request_fits : (depth : Depth) (request : Query) → IsQuery depth request → RequestFits (request_fields request)
request_fits depth (Update (Map page)) h = record {
  kind = omega arith;
  size = size_code_low page.size;
  rights = rights_code_low page.rights;
  address = canonical_fits depth page.base h.canonical;
  physical = omega (arith, h.phys_range);
}
request_fits depth (Update (Unmap base)) h = record {
  kind = omega arith;
  size = omega arith;
  rights = omega arith;
  address = canonical_fits depth base h.canonical;
  physical = omega arith;
}
request_fits depth (Update (Protect base rights)) h = record {
  kind = omega arith;
  size = omega arith;
  rights = rights_code_low rights;
  address = canonical_fits depth base h.canonical;
  physical = omega arith;
}
request_fits depth (Resolve address) h = record {
  kind = omega arith;
  size = omega arith;
  rights = omega arith;
  address = canonical_fits depth address h;
  physical = omega arith;
}
request_fits depth (Access address mode access) h = record {
  kind = omega arith;
  size = access_few access;
  rights = mode_few mode;
  address = canonical_fits depth address h;
  physical = omega arith;
}

pub record AnswerFits (fields : AnswerFields) : Type 0 where
  pub code : fields.code < 10
  pub size : fields.size < 3
  pub rights : fields.rights < 8
  pub value : fields.value < 2 ^ 64

pub answer_fits : (answer : Answer) → IsAnswer answer → AnswerFits (answer_fields answer)
answer_fits Done h = record { code = omega arith; size = omega arith; rights = omega arith; value = omega arith }
answer_fits (Removed phys size rights) h = record { code = omega arith; size = size_code_low size; rights = rights_code_low rights; value = h }
answer_fits NotMapped h = record { code = omega arith; size = omega arith; rights = omega arith; value = omega arith }
answer_fits (Changed rights) h = record { code = omega arith; size = omega arith; rights = rights_code_low rights; value = omega arith }
answer_fits (Mapped phys size rights) h = record { code = omega arith; size = size_code_low size; rights = rights_code_low rights; value = h }
answer_fits (Fault code) h = record { code = omega arith; size = omega arith; rights = omega arith; value = h }
answer_fits _ h = record { code = omega arith; size = omega arith; rights = omega arith; value = h }

-- the layout of any version is within these ranges
abbrev pub IsWide : Layout → Type 0
IsWide layout = IsLayoutWithin FRAMES FRAMES layout

most_wide : (version : Version) → (most_threads version ≤ FRAMES) × (most_tables version ≤ FRAMES)
most_wide V1 = (omega arith, omega arith)
most_wide _ = (omega arith, omega arith)

pub is_wide : (version : Version) (layout : Layout) → IsLayoutWithin (most_threads version) (most_tables version) layout → IsWide layout
is_wide version layout l =
    let most = most_wide version in
    record {
      some_replica = l.some_replica;
      few_replicas = l.few_replicas;
      some_thread = l.some_thread;
      few_threads = omega (arith, l.few_threads, most.0);
      some_table = l.some_table;
      few_tables = omega (arith, l.few_tables, most.1);
    }

pub length-event : (e : Event) → length (event e) ≡ 24
length-event (Call replica thread request) = refl
length-event _ = refl

-- ---- versions, counts, places, heads and frames

pub length-counts : (version : Version) (numbers : Counts) → length (counts version numbers) ≡ counts_bytes version
length-counts V1 numbers = refl
length-counts _ numbers = refl

pub few_of_start : (version : Version) → most_start version ≤ FRAMES
few_of_start V1 = omega arith
few_of_start _ = omega arith

pub few_of : (version : Version) → most_frames version ≤ FRAMES
few_of V1 = omega arith
few_of _ = omega arith

abbrev pub version_from : Form → List ℕ → Version
version_from forms.Trace bytes = if from_be_bytes w16 bytes == 1 then V1 else V2
version_from (forms.Segment before) bytes = Segment

pub version_back : (form : Form) (version : Version) → IsVersionOf form version → version_from form (version_word version) ≡ version
version_back forms.Trace Segment h = absurd h
version_back (forms.Segment before) V1 h = absurd h
version_back (forms.Segment before) V2 h = absurd h
version_back _ _ h = refl

pub versions_apart : (form : Form) → ToldApart (IsVersionOf form) version_word
versions_apart form = apart_by (IsVersionOf form) version_word (version_from form) (version_back form) 2 (λ version. refl)

abbrev pub depth_from : ℕ → Depth
depth_from count = if count == 4 then Four else Five

depth_back : (depth : Depth) → depth_from (levels depth % 256) ≡ depth
depth_back Four = refl
depth_back Five = refl

abbrev pub start_from : Version → List ℕ → ℕ
start_from Segment bytes = from_be_bytes w32 (drop 14 bytes)
start_from version bytes = 0

abbrev pub counts_from : Version → List ℕ → Counts
counts_from version bytes = record {
  layout = record {
    depth = depth_from (get_or bytes 0 0);
    replicas = get_or bytes 1 0;
    threads = from_be_bytes w16 (drop 2 bytes);
    tables = from_be_bytes w16 (drop 4 bytes);
  };
  places = from_be_bytes w32 (drop 6 bytes);
  events = from_be_bytes w32 (drop 10 bytes);
  start = start_from version bytes;
}

start_back : (version : Version) (numbers : Counts) → numbers.start ≤ most_start version → start_from version (counts version numbers) ≡ numbers.start
start_back Segment numbers few = from_be_bytes-to_be_bytes_4 numbers.start (omega arith)
start_back _ numbers few = omega arith

pub counts_back : (version : Version) (numbers : Counts) → IsCounts version numbers → counts_from version (counts version numbers) ≡ numbers
counts_back version numbers h =
    let layout = numbers.layout in
    let wide = is_wide version layout h.layout in
    let depth = depth_back layout.depth in
    let replicas : layout.replicas % 256 ≡ layout.replicas = omega (arith, wide.few_replicas) in
    let threads = from_be_bytes-to_be_bytes_2 layout.threads (omega (arith, wide.few_threads)) in
    let tables = from_be_bytes-to_be_bytes_2 layout.tables (omega (arith, wide.few_tables)) in
    let places = from_be_bytes-to_be_bytes_4 numbers.places (omega (arith, h.few_places)) in
    let events = from_be_bytes-to_be_bytes_4 numbers.events (omega (arith, h.few_events)) in
    let start = start_back version numbers h.few_start in
    λ i. record {
      layout = record { depth = depth i; replicas = replicas i; threads = threads i; tables = tables i };
      places = places i;
      events = events i;
      start = start i;
    }

pub counts_apart : (version : Version) → ToldApart (IsCounts version) (counts version)
counts_apart version =
    apart_by (IsCounts version) (counts version) (counts_from version) (counts_back version) (counts_bytes version) (length-counts version)

pub log_words_apart : ToldApart (λ call. call < 2 ^ 32) log_word
log_words_apart = number_32

pub length-head : (head : DumpHead) → length (dump_head head) ≡ 16
length-head head = refl

abbrev pub head_from : List ℕ → DumpHead
head_from bytes =
    record { applied = from_be_bytes w32 bytes; frames = from_be_bytes w32 (drop 4 bytes); root = from_be_bytes w64 (drop 8 bytes) }

pub head_back : (version : Version) (head : DumpHead) → IsDumpHead version head → head_from (dump_head head) ≡ head
head_back version head h =
    let few = few_of version in
    let applied = from_be_bytes-to_be_bytes_4 head.applied h.applied in
    let frames = from_be_bytes-to_be_bytes_4 head.frames (omega (arith, h.few_frames, few)) in
    let root = from_be_bytes-to_be_bytes_8 head.root h.root in
    λ i. record { applied = applied i; frames = frames i; root = root i }

pub heads_apart : (version : Version) → ToldApart (IsDumpHead version) dump_head
heads_apart version = apart_by (IsDumpHead version) dump_head head_from (head_back version) 16 length-head

pub frame_numbers_apart : ToldApart (λ number. number < 2 ^ 40) frame_number
frame_numbers_apart a b us vs h k e = number_64 a b us vs (omega arith) (omega arith) e

-- ---- lists of units

pub lists_apart : {A : Type 0} (Fits : A → Type 0) (spelled : A → List ℕ) → ToldApart Fits spelled → (xs ys : List A) (us vs : List ℕ)
    → AllByRecursion Fits xs → AllByRecursion Fits ys → length xs ≡ length ys → flat_map spelled xs ++ us ≡ flat_map spelled ys ++ vs → (xs ≡ ys) × (us ≡ vs)
lists_apart Fits spelled apart [] [] us vs h k l e = (refl, e)
lists_apart Fits spelled apart (x ∷ xs) (y ∷ ys) us vs h k l e =
    let f = sym (append_assoc (spelled x) (flat_map spelled xs) us) ∙ e ∙ append_assoc (spelled y) (flat_map spelled ys) vs in
    let first = apart x y _ _ h.0 k.0 f in
    let rest = lists_apart Fits spelled apart xs ys us vs h.1 k.1 (omega arith) first.1 in
    (ap₂ ◌∷◌ first.0 rest.0, rest.1)
lists_apart Fits spelled apart _ _ us vs h k l e = absurd (omega arith)

pub length_of_units : {A : Type 0} (spelled : A → List ℕ) (n : ℕ) → ((a : A) → length (spelled a) ≡ n) → (xs : List A)
    → length (flat_map spelled xs) ≡ n * length xs
length_of_units spelled n each [] = omega arith
length_of_units spelled n each (x ∷ xs) =
    let h = each x in
    let k = length_of_units spelled n each xs in
    let l = length-append (spelled x) (flat_map spelled xs) in
    omega arith

pub length-frame_words : (words : List ℕ) → IsFrame words → length (frame_words words) ≡ 4096
length-frame_words words h = length_of_units (to_be_bytes w64) 8 (λ n. refl) words ∙ ap (λ n. 8 * n) h.whole

pub words_apart : ToldApart IsFrame frame_words
words_apart a b us vs h k e =
    lists_apart (λ n. n < 2 ^ 64) (to_be_bytes w64) number_64 a b us vs (recursion_from_All _ a h.fit) (recursion_from_All _ b k.fit) (h.whole ∙ sym k.whole) e
