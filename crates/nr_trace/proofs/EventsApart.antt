-- Events that fit are read back from their spelling, so it differs from any other, whatever comes after it.
use Rattle.std.proofs.Common.{◌≡◌, ◌==◌, ℕ, zero, suc, ◌<◌, ◌^◌, ◌%◌, Bool, false, List, [], ◌∷◌, ◌++◌, get_or, drop, ap, sym, ◌∙◌, arith}
use Rattle.std.specs.Prelude.{if◌then◌else◌}
use Rattle.std.specs.Int.{w8, w16, w32, w64, to_be_bytes, from_be_bytes}
use Rattle.std.proofs.lemmas.Bool.{ne_eqb}
use Rattle.std.proofs.lemmas.Nat.{from_be_bytes-to_be_bytes_2, from_be_bytes-to_be_bytes_4, from_be_bytes-to_be_bytes_8}
use Rattle.vs_types.specs.Config.{Layout}
use Rattle.vs_types.specs.declared.addresses.depth.Depth.{Depth}
use Rattle.vs_types.specs.Fields.{request_fields}
use Rattle.vs_types.specs.declared.addresses.page.Size.{Size}
use Rattle.vs_types.specs.declared.requests.request.Query.{Query}
use Rattle.vs_types.specs.declared.requests.request.Query.TheVariants.{Access}
use Rattle.vs_types.specs.declared.requests.fields.RequestFields.{RequestFields}
use Rattle.vs_types.specs.declared.requests.answer.Answer.{Answer}
use Rattle.vs_types.proofs.LogWords.{size_code_low}
use Rattle.nr_trace.specs.Recording.{IsAskable, IsEvent}
use Rattle.nr_trace.specs.Spelling.{answer_fields, asked_fields, event}
use Rattle.nr_trace.specs.declared.formats.fields.AnswerFields.{AnswerFields}
use Rattle.nr_trace.specs.declared.formats.version.Version.{Version}
use Rattle.nr_trace.specs.declared.recordings.event.Event.{Event}
use Rattle.nr_trace.specs.declared.recordings.event.Event.TheVariants.{Call, Reply}
use Rattle.nr_trace.specs.declared.recordings.event.Asked.{Asked}
use Rattle.nr_trace.specs.declared.recordings.event.Asked.TheVariants.{Request, Release, Touch}
use Rattle.nr_trace.proofs.LawsOfUnits.{ToldApart, IsWide, apart_by, length-event, request_from, request_back, request_fits, touch_back, answer_from}
use Rattle.nr_trace.proofs.LawsOfUnits.{answer_back, answer_fits, size_back, size_from}

-- what comes after the tag of a call, and of a reply; the unused field of each has this number
abbrev pub call_bytes : ℕ → ℕ → RequestFields → ℕ → List ℕ
call_bytes replica thread fields unused =
    to_be_bytes w8 replica ++ (to_be_bytes w16 thread ++ (to_be_bytes w8 fields.kind ++ (to_be_bytes w8 fields.size
    ++ (to_be_bytes w8 fields.rights ++ (to_be_bytes w8 unused ++ (to_be_bytes w64 fields.address ++ to_be_bytes w64 fields.physical))))))

pub record CallFits (replica thread : ℕ) (fields : RequestFields) (unused : ℕ) : Type 0 where
  pub replica_fits : replica < 2 ^ 8
  pub thread_fits : thread < 2 ^ 16
  pub kind : fields.kind < 2 ^ 8
  pub size : fields.size < 2 ^ 8
  pub rights : fields.rights < 2 ^ 8
  pub unused_fits : unused < 2 ^ 8
  pub address : fields.address < 2 ^ 64
  pub physical : fields.physical < 2 ^ 64

abbrev pub request_at : List ℕ → RequestFields
request_at bytes = record {
  kind = get_or bytes 4 0;
  size = get_or bytes 5 0;
  rights = get_or bytes 6 0;
  address = from_be_bytes w64 (drop 8 bytes);
  physical = from_be_bytes w64 (drop 16 bytes);
}

call_back : (replica thread unused : ℕ) (fields : RequestFields) (rest : List ℕ) → CallFits replica thread fields unused
    → request_at (0 ∷ (call_bytes replica thread fields unused ++ rest)) ≡ fields
call_back replica thread unused fields rest fits =
    let kind : fields.kind % 256 ≡ fields.kind = omega (arith, fits.kind) in
    let size : fields.size % 256 ≡ fields.size = omega (arith, fits.size) in
    let rights : fields.rights % 256 ≡ fields.rights = omega (arith, fits.rights) in
    let address = from_be_bytes-to_be_bytes_8 fields.address fits.address in
    let physical = from_be_bytes-to_be_bytes_8 fields.physical fits.physical in
    λ i. record { kind = kind i; size = size i; rights = rights i; address = address i; physical = physical i }

-- the fields that the bytes of a call have are those that they spell
pub one_call : (bytes : List ℕ) (replica thread unused r t : ℕ) (fields others : RequestFields) (rest : List ℕ)
    → bytes ≡ call_bytes replica thread fields unused ++ rest → CallFits replica thread fields unused → CallFits r t others 0
    → 0 ∷ bytes ≡ 0 ∷ call_bytes r t others 0 → fields ≡ others
one_call bytes replica thread unused r t fields others rest parts fits also spelled =
    sym (call_back replica thread unused fields rest fits) ∙ ap (λ (l : List ℕ). request_at (0 ∷ l)) (sym parts) ∙ ap request_at spelled
    ∙ call_back r t 0 others [] also

abbrev pub reply_bytes : AnswerFields → ℕ → ℕ → ℕ → List ℕ
reply_bytes fields call at unused =
    to_be_bytes w8 fields.code ++ (to_be_bytes w8 fields.size ++ (to_be_bytes w8 fields.rights
    ++ (to_be_bytes w32 call ++ (to_be_bytes w32 at ++ (to_be_bytes w32 unused ++ to_be_bytes w64 fields.value)))))

pub record ReplyFits (fields : AnswerFields) (call at unused : ℕ) : Type 0 where
  pub code : fields.code < 2 ^ 8
  pub size : fields.size < 2 ^ 8
  pub rights : fields.rights < 2 ^ 8
  pub call_fits : call < 2 ^ 32
  pub at_fits : at < 2 ^ 32
  pub unused_fits : unused < 2 ^ 32
  pub value : fields.value < 2 ^ 64

abbrev pub answer_at : List ℕ → AnswerFields
answer_at bytes = record { code = get_or bytes 1 0; size = get_or bytes 2 0; rights = get_or bytes 3 0; value = from_be_bytes w64 (drop 16 bytes) }

reply_back : (fields : AnswerFields) (call at unused : ℕ) (rest : List ℕ) → ReplyFits fields call at unused
    → answer_at (1 ∷ (reply_bytes fields call at unused ++ rest)) ≡ fields
reply_back fields call at unused rest fits =
    let code : fields.code % 256 ≡ fields.code = omega (arith, fits.code) in
    let size : fields.size % 256 ≡ fields.size = omega (arith, fits.size) in
    let rights : fields.rights % 256 ≡ fields.rights = omega (arith, fits.rights) in
    let value = from_be_bytes-to_be_bytes_8 fields.value fits.value in
    λ i. record { code = code i; size = size i; rights = rights i; value = value i }

pub one_reply : (bytes : List ℕ) (call at unused c a : ℕ) (fields others : AnswerFields) (rest : List ℕ)
    → bytes ≡ reply_bytes fields call at unused ++ rest → ReplyFits fields call at unused → ReplyFits others c a 0
    → 1 ∷ bytes ≡ 1 ∷ reply_bytes others c a 0 → fields ≡ others
one_reply bytes call at unused c a fields others rest parts fits also spelled =
    sym (reply_back fields call at unused rest fits) ∙ ap (λ (l : List ℕ). answer_at (1 ∷ l)) (sym parts) ∙ ap answer_at spelled
    ∙ reply_back others c a 0 [] also

-- the fields of what a call asks fit their bytes
record AskedFits (fields : RequestFields) : Type 0 where
  pub kind : fields.kind < 7
  pub size : fields.size < 3
  pub rights : fields.rights < 8
  pub address : fields.address < 2 ^ 64
  pub physical : fields.physical < 2 ^ 64

asked_fits : (depth : Depth) (asked : Asked) → IsAskable depth asked → AskedFits (asked_fields asked)
asked_fits depth (Request request) is =
    let fits = request_fits depth request is in
    record { kind = omega (arith, fits.kind); size = fits.size; rights = fits.rights; address = fits.address; physical = fits.physical }
asked_fits depth (Touch address mode access) is =
    let fits = request_fits depth (Access address mode access) is in
    record { kind = omega arith; size = fits.size; rights = fits.rights; address = fits.address; physical = fits.physical }
asked_fits depth (Release size phys) is =
    let low = size_code_low size in
    record { kind = omega arith; size = omega (arith, low); rights = omega arith; address = omega arith; physical = omega (arith, is.1) }

pub call_fits : (version : Version) (layout : Layout) (replica thread : ℕ) (what : Asked) → IsWide layout → IsEvent version layout (Call replica thread what)
    → CallFits replica thread (asked_fields what) 0
call_fits version layout replica thread what l h =
    let r : replica < layout.replicas = h.0 in
    let t : thread < layout.threads = h.1 in
    let fits = asked_fits layout.depth what h.2 in
    record {
      replica_fits = omega (arith, l.few_replicas);
      thread_fits = omega (arith, l.few_threads);
      kind = omega (arith, fits.kind);
      size = omega (arith, fits.size);
      rights = omega (arith, fits.rights);
      unused_fits = omega arith;
      address = fits.address;
      physical = fits.physical;
    }

pub reply_fits : (version : Version) (layout : Layout) (call at : ℕ) (answer : Answer) → IsEvent version layout (Reply call at answer)
    → ReplyFits (answer_fields answer) call at 0
reply_fits version layout call at answer h =
    let fits = answer_fits answer h.2 in
    record {
      code = omega (arith, fits.code);
      size = omega (arith, fits.size);
      rights = omega (arith, fits.rights);
      call_fits = h.0;
      at_fits = h.1;
      unused_fits = omega arith;
      value = fits.value;
    }

-- of kind 5, a touch; of kind 6, a release
abbrev touch_by : Query → Asked
touch_by (Access address mode access) = Touch address mode access
touch_by request = Request request

abbrev asked_from : ℕ → RequestFields → Asked
asked_from kind fields =
    if kind == 5 then touch_by (request_from fields)
    else (if kind == 6 then Release (size_from fields.size) fields.physical else Request (request_from fields))

-- what a call asks is read back from its fields
asked_back : (depth : Depth) (asked : Asked) → IsAskable depth asked → asked_from (asked_fields asked).kind (asked_fields asked) ≡ asked
asked_back depth (Request request) is =
    let fields = request_fields request in
    let few = (request_fits depth request is).kind in
    let no_touch : (fields.kind == 5) ≡ false = ne_eqb _ _ (λ e. omega (arith, few, e)) in
    let no_release : (fields.kind == 6) ≡ false = ne_eqb _ _ (λ e. omega (arith, few, e)) in
    ap (λ (b : Bool). if b then touch_by (request_from fields)
    else (if fields.kind == 6 then Release (size_from fields.size) fields.physical else Request (request_from fields))) no_touch
    ∙ ap (λ (b : Bool). if b then Release (size_from fields.size) fields.physical else Request (request_from fields)) no_release
    ∙ ap (λ (made : Query). Request made) (request_back request)
asked_back depth (Touch address mode access) is = ap touch_by (touch_back address mode access)
asked_back depth (Release size phys) is = ap (λ (s : Size). Release s phys) (size_back size)

abbrev pub event_by : ℕ → List ℕ → Event
event_by zero bytes = Call (get_or bytes 1 0) (from_be_bytes w16 (drop 2 bytes)) (asked_from (get_or bytes 4 0) (request_at bytes))
event_by (suc tag) bytes = Reply (from_be_bytes w32 (drop 4 bytes)) (from_be_bytes w32 (drop 8 bytes)) (answer_from (answer_at bytes))

abbrev pub event_from : List ℕ → Event
event_from bytes = event_by (get_or bytes 0 0) bytes

pub event_back : (version : Version) (layout : Layout) → IsWide layout → (recorded : Event) → IsEvent version layout recorded
    → event_from (event recorded) ≡ recorded
event_back version layout l (Call r t what) h =
    let fits = call_fits version layout r t what l h in
    let fields = asked_fields what in
    let replica : r % 256 ≡ r = omega (arith, fits.replica_fits) in
    let thread = from_be_bytes-to_be_bytes_2 t fits.thread_fits in
    let kind : fields.kind % 256 ≡ fields.kind = omega (arith, fits.kind) in
    let same : request_at (event (Call r t what)) ≡ fields = call_back r t 0 fields [] fits in
    (λ i. Call (replica i) (thread i) (asked_from (kind i) (same i)))
    ∙ ap (λ (a : Asked). Call r t a) (asked_back layout.depth what h.2)
event_back version layout l (Reply c a x) h =
    let fits = reply_fits version layout c a x h in
    let call = from_be_bytes-to_be_bytes_4 c fits.call_fits in
    let at = from_be_bytes-to_be_bytes_4 a fits.at_fits in
    let same : answer_at (event (Reply c a x)) ≡ answer_fields x = reply_back (answer_fields x) c a 0 [] fits in
    let answer = ap answer_from same ∙ answer_back x in
    λ i. Reply (call i) (at i) (answer i)

pub events_apart : (version : Version) (layout : Layout) → IsWide layout → ToldApart (IsEvent version layout) event
events_apart version layout l = apart_by (IsEvent version layout) event event_from (event_back version layout l) 24 length-event
