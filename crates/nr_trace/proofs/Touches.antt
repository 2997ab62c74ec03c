-- What a call asks, and its fields: a request, a touch, or a release.
use Rattle.std.proofs.Common.{◌≡◌, ℕ, ◌<◌, ◌≤◌, List, ◌∷◌, ◌++◌, length, Option, Some, None, refl, ap, subst, sym, ◌∙◌, arith}
use Rattle.vs_types.specs.Config.{Layout}
use Rattle.vs_types.specs.Fields.{HasFields}
use Rattle.vs_types.specs.Finds.{Finds}
use Rattle.vs_types.specs.declared.addresses.depth.Depth.{Depth}
use Rattle.vs_types.specs.declared.requests.fields.RequestFields.{RequestFields}
use Rattle.vs_types.specs.Codes.{size_code}
use Rattle.vs_types.specs.declared.addresses.page.Size.{Size}
use Rattle.vs_types.specs.declared.requests.request.Query.{Query}
use Rattle.vs_types.specs.declared.requests.request.Query.TheVariants.{Access}
use Rattle.nr_trace.specs.Versions.{KnowsAsked, KnowsTouch}
use Rattle.nr_trace.specs.Recording.{IsAskable, IsMemory}
use Rattle.nr_trace.specs.Spelling.{asked_fields, release_fields}
use Rattle.nr_trace.specs.inside.Reading.{IsAskedIn, IsReleaseWith, IsRequestIn, IsTouchWith, SpellsEvent}
use Rattle.nr_trace.specs.declared.recordings.event.Asked.{Asked}
use Rattle.nr_trace.specs.declared.recordings.event.Asked.TheVariants as askeds
use Rattle.nr_trace.specs.declared.formats.version.Version.{Version}
use Rattle.nr_trace.specs.declared.recordings.event.Event.TheVariants.{Call}
use Rattle.nr_trace.proofs.LawsOfUnits.{request_fits, size_back, size_from}
use Rattle.nr_trace.proofs.EventsApart.{call_bytes}
use Rattle.nr_trace.proofs.Taken.{only_front}

-- a size is read back from its code
same_size : (s t : Size) → size_code s ≡ size_code t → s ≡ t
same_size s t e = sym (size_back s) ∙ ap size_from e ∙ size_back t

-- the fields of a request, but for the kind
abbrev pub as_access : RequestFields → RequestFields
as_access fields = record { kind = 4; size = fields.size; rights = fields.rights; address = fields.address; physical = fields.physical }

-- no access has the fields but for the kind, so no touch has the fields
pub no_touch : (depth : Depth) (fields : RequestFields) → ((query : Query) → HasFields depth (as_access fields) query → ⊥)
    → (asked : Asked) → IsTouchWith depth fields asked → ⊥
no_touch depth fields none asked is =
    none (Access is.address is.mode is.access) (record { well_formed = is.in_range; fields_are = ap as_access is.fields_are })

-- the touch that was found is what is asked
touch_asked : (version : Version) (depth : Depth) (fields : RequestFields) (asked : Asked) → KnowsTouch version → IsTouchWith depth fields asked
    → IsAskedIn version depth fields asked
touch_asked version depth fields asked knows is = record {
  in_range = subst (λ (a : Asked). IsAskable depth a × KnowsAsked version a) (sym is.asked_is) (is.in_range, knows);
  fields_are = is.fields_are ∙ ap asked_fields (sym is.asked_is);
}

-- where no touch has these fields nothing has them, since no request has the kind of a touch
none_asked : (version : Version) (depth : Depth) (fields : RequestFields) → fields.kind ≡ 5 → ((asked : Asked) → IsTouchWith depth fields asked → ⊥)
    → (asked : Asked) → IsAskedIn version depth fields asked → ⊥
none_asked version depth fields kind none (askeds.Request request) is =
    omega (arith, kind, ap (λ (f : RequestFields). f.kind) is.fields_are, (request_fits depth request is.in_range.0).kind)
none_asked version depth fields kind none (askeds.Touch address mode access) is = none (askeds.Touch address mode access) (record {
  address = address;
  mode = mode;
  access = access;
  asked_is = refl;
  in_range = is.in_range.0;
  fields_are = is.fields_are;
})
none_asked version depth fields kind none (askeds.Release size phys) is =
    absurd (omega (arith, kind, ap (λ (f : RequestFields). f.kind) is.fields_are))

pub touches_asked : (version : Version) (depth : Depth) (fields : RequestFields) (found : Option Asked) → KnowsTouch version → fields.kind ≡ 5
    → Finds (IsTouchWith depth fields) found → Finds (IsAskedIn version depth fields) found
touches_asked version depth fields None knows kind none = none_asked version depth fields kind none
touches_asked version depth fields (Some asked) knows kind is = touch_asked version depth fields asked knows is

-- the same of a release
release_asked : (version : Version) (depth : Depth) (fields : RequestFields) (asked : Asked) → KnowsTouch version → IsReleaseWith fields asked
    → IsAskedIn version depth fields asked
release_asked version depth fields asked knows is = record {
  in_range = subst (λ (a : Asked). IsAskable depth a × KnowsAsked version a) (sym is.asked_is) (is.in_range, knows);
  fields_are = is.fields_are ∙ ap asked_fields (sym is.asked_is);
}

none_released : (version : Version) (depth : Depth) (fields : RequestFields) → fields.kind ≡ 6 → ((asked : Asked) → IsReleaseWith fields asked → ⊥)
    → (asked : Asked) → IsAskedIn version depth fields asked → ⊥
none_released version depth fields kind none (askeds.Request request) is =
    omega (arith, kind, ap (λ (f : RequestFields). f.kind) is.fields_are, (request_fits depth request is.in_range.0).kind)
none_released version depth fields kind none (askeds.Touch address mode access) is =
    absurd (omega (arith, kind, ap (λ (f : RequestFields). f.kind) is.fields_are))
none_released version depth fields kind none (askeds.Release size phys) is = none (askeds.Release size phys) (record {
  size = size;
  phys = phys;
  asked_is = refl;
  in_range = is.in_range.0;
  fields_are = is.fields_are;
})

pub releases_asked : (version : Version) (depth : Depth) (fields : RequestFields) (found : Option Asked) → KnowsTouch version → fields.kind ≡ 6
    → Finds (IsReleaseWith fields) found → Finds (IsAskedIn version depth fields) found
releases_asked version depth fields None knows kind none = none_released version depth fields kind none
releases_asked version depth fields (Some asked) knows kind is = release_asked version depth fields asked knows is

-- a version that knows no touches has nothing of a kind above those of requests
pub none_known : (version : Version) (depth : Depth) (fields : RequestFields) → (KnowsTouch version → ⊥) → 5 ≤ fields.kind
    → (asked : Asked) → IsAskedIn version depth fields asked → ⊥
none_known version depth fields unknown kind (askeds.Request request) is =
    omega (arith, kind, ap (λ (f : RequestFields). f.kind) is.fields_are, (request_fits depth request is.in_range.0).kind)
none_known version depth fields unknown kind (askeds.Touch address mode access) is = unknown is.in_range.1
none_known version depth fields unknown kind (askeds.Release size phys) is = unknown is.in_range.1

-- of another kind there are only requests
pub requests_asked : (version : Version) (depth : Depth) (fields : RequestFields) → (fields.kind ≡ 5 → ⊥) → (fields.kind ≡ 6 → ⊥)
    → ((request : Query) → IsRequestIn version depth fields request → ⊥) → (asked : Asked) → IsAskedIn version depth fields asked → ⊥
requests_asked version depth fields no_touch no_release none (askeds.Request request) is =
    none request (record { has = record { well_formed = is.in_range.0; fields_are = is.fields_are }; known = is.in_range.1 })
requests_asked version depth fields no_touch no_release none (askeds.Touch address mode access) is =
    no_touch (ap (λ (f : RequestFields). f.kind) is.fields_are)
requests_asked version depth fields no_touch no_release none (askeds.Release size phys) is =
    no_release (ap (λ (f : RequestFields). f.kind) is.fields_are)

-- no size has the code
pub none_of_size : (fields : RequestFields) → ((size : Size) → fields.size ≡ size_code size → ⊥) → (asked : Asked) → IsReleaseWith fields asked → ⊥
none_of_size fields none asked is = none is.size (ap (λ (f : RequestFields). f.size) is.fields_are)

-- the fields are no release of their size
pub none_so : (fields : RequestFields) (size : Size) → fields.size ≡ size_code size
    → (IsMemory size fields.physical × (fields ≡ release_fields size fields.physical) → ⊥) → (asked : Asked) → IsReleaseWith fields asked → ⊥
none_so fields size code none asked is =
    let same : is.size ≡ size = same_size is.size size (ap (λ (f : RequestFields). f.size) (sym is.fields_are) ∙ code) in
    let phys : is.phys ≡ fields.physical = ap (λ (f : RequestFields). f.physical) (sym is.fields_are) in
    none (
      subst (λ (n : ℕ). IsMemory size n) phys (subst (λ (s : Size). IsMemory s is.phys) same is.in_range),
      is.fields_are ∙ (λ i. release_fields (same i) (phys i)),
    )

-- ---- a call of 24 bytes

pub call_spelled : (version : Version) (layout : Layout) (bytes : List ℕ) (replica thread unused : ℕ) (fields : RequestFields) (rest : List ℕ)
    (asked : Asked) → bytes ≡ call_bytes replica thread fields unused ++ rest → length bytes ≡ 23 → unused ≡ 0 → replica < layout.replicas
    → thread < layout.threads → IsAskedIn version layout.depth fields asked → SpellsEvent version layout (0 ∷ bytes) (Call replica thread asked)
call_spelled version layout bytes replica thread unused fields rest asked parts long none r t is =
    let whole : bytes ≡ call_bytes replica thread fields unused = only_front bytes (call_bytes replica thread fields unused) rest parts long in
    record {
      in_range = (r, t, is.in_range.0, is.in_range.1);
      spelled = ap (λ (l : List ℕ). 0 ∷ l) (whole ∙ ap (call_bytes replica thread fields) none
          ∙ ap (λ (f : RequestFields). call_bytes replica thread f 0) is.fields_are);
    }
