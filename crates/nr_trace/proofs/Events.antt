-- What bytes that spell an event say of its fields.
use Rattle.std.proofs.Common.{◌≡◌, ℕ, List, ◌∷◌, ◌++◌, get_or, sym, ap, subst, ◌∙◌, arith}
use Rattle.vs_types.specs.Config.{Layout}
use Rattle.vs_types.specs.Fields.{HasFields}
use Rattle.vs_types.specs.declared.addresses.depth.Depth.{Depth}
use Rattle.vs_types.specs.declared.requests.request.Query.{Query}
use Rattle.vs_types.specs.declared.requests.fields.RequestFields.{RequestFields}
use Rattle.vs_types.specs.declared.requests.answer.Answer.{Answer}
use Rattle.nr_trace.specs.Versions.{KnowsQuery}
use Rattle.nr_trace.specs.Spelling.{answer_fields, asked_fields}
use Rattle.nr_trace.specs.inside.Reading.{HasAnswerFields, IsAskedIn, IsRequestIn, IsAnswerIn, SpellsEvent}
use Rattle.nr_trace.specs.declared.recordings.event.Asked.{Asked}
use Rattle.nr_trace.specs.declared.formats.fields.AnswerFields.{AnswerFields}
use Rattle.nr_trace.specs.declared.formats.version.Version.{Version}
use Rattle.nr_trace.specs.declared.recordings.event.Event.{Event}
use Rattle.nr_trace.specs.declared.recordings.event.Event.TheVariants.{Call, Reply}
use Rattle.nr_trace.proofs.LawsOfUnits.{IsWide, request_apart}
use Rattle.nr_trace.proofs.EventsApart.{call_bytes, CallFits, call_fits, one_call, reply_bytes, ReplyFits, reply_fits, one_reply}

-- a call that the bytes spell has those fields
call_has : (version : Version) (layout : Layout) (bytes : List ℕ) (replica thread unused : ℕ) (fields : RequestFields) (rest : List ℕ) → IsWide layout
    → bytes ≡ call_bytes replica thread fields unused ++ rest → CallFits replica thread fields unused
    → (r t : ℕ) (asked : Asked) → SpellsEvent version layout (0 ∷ bytes) (Call r t asked) → fields ≡ asked_fields asked
call_has version layout bytes replica thread unused fields rest well parts fits r t asked spells =
    one_call bytes replica thread unused r t fields (asked_fields asked) rest parts fits (call_fits version layout r t asked well spells.in_range)
    spells.spelled

-- only one request has these fields, so that the version knows none where it does not know this one
pub request_unknown : (version : Version) (depth : Depth) (fields : RequestFields) (given : Query) → HasFields depth fields given
    → (KnowsQuery version given → ⊥)
    → (request : Query) → IsRequestIn version depth fields request → ⊥
request_unknown version depth fields given is unknown request h =
    unknown (subst (KnowsQuery version) (request_apart request given (sym h.has.fields_are ∙ is.fields_are)) h.known)

-- no event has this tag, and these fields, of which the version knows nothing that a call asks
pub no_call : (version : Version) (layout : Layout) (bytes : List ℕ) (replica thread unused : ℕ) (fields : RequestFields) (rest : List ℕ) → IsWide layout
    → bytes ≡ call_bytes replica thread fields unused ++ rest → CallFits replica thread fields unused
    → ((asked : Asked) → IsAskedIn version layout.depth fields asked → ⊥)
    → (recorded : Event) → SpellsEvent version layout (0 ∷ bytes) recorded → ⊥
no_call version layout bytes replica thread unused fields rest well parts fits none (Call r t asked) spells =
    none asked (record {
      in_range = (spells.in_range.2, spells.in_range.3);
      fields_are = call_has version layout bytes replica thread unused fields rest well parts fits r t asked spells;
    })
no_call version layout bytes replica thread unused fields rest well parts fits none (Reply call at answer) spells =
    absurd (omega (arith, ap (λ (l : List ℕ). get_or l 0 0) spells.spelled))

-- a reply that the bytes spell has those fields
reply_has : (version : Version) (layout : Layout) (bytes : List ℕ) (call at unused : ℕ) (fields : AnswerFields) (rest : List ℕ)
    → bytes ≡ reply_bytes fields call at unused ++ rest → ReplyFits fields call at unused
    → (c a : ℕ) (answer : Answer) → SpellsEvent version layout (1 ∷ bytes) (Reply c a answer) → HasAnswerFields fields answer
reply_has version layout bytes call at unused fields rest parts fits c a answer spells =
    record {
      in_range = spells.in_range.2;
      fields_are = one_reply bytes call at unused c a fields (answer_fields answer) rest parts fits
          (reply_fits version layout c a answer spells.in_range) spells.spelled;
    }

-- no event has this tag, and these fields, of which the version knows no answer
pub no_reply : (version : Version) (layout : Layout) (bytes : List ℕ) (call at unused : ℕ) (fields : AnswerFields) (rest : List ℕ)
    → bytes ≡ reply_bytes fields call at unused ++ rest → ReplyFits fields call at unused
    → ((answer : Answer) → IsAnswerIn version fields answer → ⊥)
    → (recorded : Event) → SpellsEvent version layout (1 ∷ bytes) recorded → ⊥
no_reply version layout bytes call at unused fields rest parts fits none (Reply c a answer) spells =
    none answer (record { has = reply_has version layout bytes call at unused fields rest parts fits c a answer spells; known = spells.in_range.3 })
no_reply version layout bytes call at unused fields rest parts fits none _ spells =
    absurd (omega (arith, ap (λ (l : List ℕ). get_or l 0 0) spells.spelled))
