-- What the parts of the reader find.
use Rattle.std.specs.Prelude.{◌≡◌, ◌≢◌, ℕ, ◌+◌, ◌^◌, ◌<◌, ◌++◌, List, length, flat_map, All}
use Rattle.vs_types.specs.Config.{Layout}
use Rattle.vs_types.specs.Fields.{HasFields}
use Rattle.vs_types.specs.Query.{IsQuery}
use Rattle.vs_types.specs.declared.addresses.access.Mode.{Mode}
use Rattle.vs_types.specs.declared.addresses.access.Access.{Access as AccessKind}
use Rattle.vs_types.specs.declared.addresses.depth.Depth.{Depth}
use Rattle.vs_types.specs.declared.requests.fields.RequestFields.{RequestFields}
use Rattle.vs_types.specs.declared.requests.request.Query.{Query}
use Rattle.vs_types.specs.declared.requests.request.Query.TheVariants.{Access}
use Rattle.vs_types.specs.declared.requests.answer.Answer.{Answer}
use Rattle.vs_types.specs.declared.addresses.page.Size.{Size}
use Rattle.vs_walk.specs.Dump.{OpenImage}
use Rattle.nr_trace.specs.Versions.{KnowsQuery, KnowsAnswer, KnowsAsked}
use Rattle.nr_trace.specs.Recording.{IsAnswer, IsAskable, IsEvent, IsMemory}
use Rattle.nr_trace.specs.Spelling.{answer_fields, asked_fields, release_fields, touch_fields, counts, log_word, event, dump_head, frame_words}
use Rattle.nr_trace.specs.FirstFault.{IsCounts, IsDumpHead, refusal_at}
use Rattle.nr_trace.specs.declared.formats.version.Version.{Version}
use Rattle.nr_trace.specs.declared.formats.fields.AnswerFields.{AnswerFields}
use Rattle.nr_trace.specs.declared.formats.fields.Counts.{Counts}
use Rattle.nr_trace.specs.declared.formats.fields.DumpHead.{DumpHead}
use Rattle.nr_trace.specs.declared.recordings.event.Event.{Event}
use Rattle.nr_trace.specs.declared.recordings.event.Asked.{Asked}
use Rattle.nr_trace.specs.declared.recordings.event.Asked.TheVariants as askeds
use Rattle.nr_trace.specs.declared.refusals.fault.Format.TheVariants.{BadEvent}
use Rattle.nr_trace.specs.declared.refusals.refusal.Refusal.{Refusal}
use Rattle.nr_trace.specs.declared.refusals.refusal.TraceUnit.TheVariants as units

-- an answer in range with these fields
pub record HasAnswerFields (fields : AnswerFields) (answer : Answer) : Type 0 where
  pub in_range : IsAnswer answer
  pub fields_are : fields ≡ answer_fields answer

-- a request that is well formed at this depth, with these fields, if the version knows it
pub record IsRequestIn (version : Version) (depth : Depth) (fields : RequestFields) (request : Query) : Type 0 where
  pub has : HasFields depth fields request
  pub known : KnowsQuery version request

-- what the version knows of these fields: what is asked by a call
pub record IsAskedIn (version : Version) (depth : Depth) (fields : RequestFields) (asked : Asked) : Type 0 where
  pub in_range : IsAskable depth asked × KnowsAsked version asked
  pub fields_are : fields ≡ asked_fields asked

-- a touch with these fields
pub record IsTouchWith (depth : Depth) (fields : RequestFields) (asked : Asked) : Type 0 where
  pub address : ℕ
  pub mode : Mode
  pub access : AccessKind
  pub asked_is : asked ≡ askeds.Touch address mode access
  pub in_range : IsQuery depth (Access address mode access)
  pub fields_are : fields ≡ touch_fields address mode access

-- a release with these fields
pub record IsReleaseWith (fields : RequestFields) (asked : Asked) : Type 0 where
  pub size : Size
  pub phys : ℕ
  pub asked_is : asked ≡ askeds.Release size phys
  pub in_range : IsMemory size phys
  pub fields_are : fields ≡ release_fields size phys

pub record IsAnswerIn (version : Version) (fields : AnswerFields) (answer : Answer) : Type 0 where
  pub has : HasAnswerFields fields answer
  pub known : KnowsAnswer version answer

-- what the counts unit says, in range and spelled by the bytes
pub record SpellsCounts (version : Version) (bytes : List ℕ) (numbers : Counts) : Type 0 where
  pub in_range : IsCounts version numbers
  pub spelled : bytes ≡ counts version numbers

-- what the head of a dump says, in range and spelled by the bytes
pub record SpellsHead (version : Version) (bytes : List ℕ) (head : DumpHead) : Type 0 where
  pub in_range : IsDumpHead version head
  pub spelled : bytes ≡ dump_head head

-- an event in range that the bytes spell
pub record SpellsEvent (version : Version) (layout : Layout) (bytes : List ℕ) (recorded : Event) : Type 0 where
  pub in_range : IsEvent version layout recorded
  pub spelled : bytes ≡ event recorded

-- the calls that the bytes spell were put after those that there were
pub record ArePlaced (before bytes after : List ℕ) : Type 0 where
  pub calls : List ℕ
  pub fit : All (λ call. call < 2 ^ 32) calls
  pub added : after ≡ before ++ calls
  pub spelled : bytes ≡ flat_map log_word calls

-- the events that the bytes spell were put after those that there were
pub record AreRecorded (version : Version) (layout : Layout) (before : List Event) (bytes : List ℕ) (after : List Event) : Type 0 where
  pub recorded : List Event
  pub fit : All (IsEvent version layout) recorded
  pub added : after ≡ before ++ recorded
  pub spelled : bytes ≡ flat_map event recorded

-- after some events the bytes have 24 that spell none: the event of this index
pub record IsBadEvent (version : Version) (layout : Layout) (index : ℕ) (bytes : List ℕ) (refusal : Refusal) : Type 0 where
  pub recorded : List Event
  pub unit : List ℕ
  pub behind : List ℕ
  pub fit : All (IsEvent version layout) recorded
  pub parts : bytes ≡ flat_map event recorded ++ (unit ++ behind)
  pub whole : length unit ≡ 24
  pub none : (one : Event) → IsEvent version layout one → unit ≢ event one
  pub first : refusal ≡ refusal_at (units.Event (index + length recorded)) (unit ++ behind) (BadEvent (index + length recorded))

-- the words that the bytes spell were put after those that had come
pub record HasWords (before : OpenImage) (bytes : List ℕ) (after : OpenImage) : Type 0 where
  pub same : after ≡ record { dump = before.dump; number = before.number; coming = after.coming }
  pub spelled : frame_words after.coming ≡ frame_words before.coming ++ bytes
  pub fit : All (λ word. word < 2 ^ 64) before.coming → All (λ word. word < 2 ^ 64) after.coming
