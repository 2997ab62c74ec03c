-- What can be decided of every value: it is in range, or it is not.
use Rattle.std.proofs.Common.{◌≡◌, ℕ, suc, ◌+◌, ◌%◌, ◌^◌, ◌<◌, ◌≤◌, ◌⊎◌, inl, inr, Bool, true, false, ltb, List, refl, ap, arith, Option, Some, None}
use Rattle.std.specs.Prelude.{IsTrue, IfSome, ⊤}
use Rattle.std.specs.Bool.{Decides}
use Rattle.std.proofs.lemmas.Bool.{cases_eq}
use Rattle.std.proofs.lemmas.Bool.Decides.{Decides-ltb, not_from_Decides}
use Rattle.std.proofs.lemmas.Slice.Eq.{bytes_eq-Decides}
use Rattle.vs_types.specs.Config.{Layout, IsLayoutWithin}
use Rattle.vs_types.specs.Depth.{is_canonical}
use Rattle.vs_types.specs.Operation.{IsBase}
use Rattle.vs_types.specs.Page.{bytes_of, IsPage}
use Rattle.vs_types.specs.Query.{IsQuery}
use Rattle.vs_types.specs.declared.addresses.depth.Depth.{Depth}
use Rattle.vs_types.specs.declared.addresses.depth.Depth.TheVariants.{Four, Five}
use Rattle.vs_types.specs.declared.addresses.page.Page.{Page}
use Rattle.vs_types.specs.declared.addresses.page.Size.{Size}
use Rattle.vs_types.specs.declared.limits.TheConstants.{REPLICAS, LOG_PLACES, CALLS}
use Rattle.vs_types.specs.declared.requests.op.Action.TheVariants.{Map, Unmap, Protect}
use Rattle.vs_types.specs.declared.requests.request.Query.{Query}
use Rattle.vs_types.specs.declared.requests.request.Query.TheVariants.{Update, Resolve, Access}
use Rattle.vs_types.specs.declared.requests.answer.Answer.{Answer}
use Rattle.vs_types.specs.declared.requests.answer.Answer.TheVariants.{Overlap, Full, Removed, Inside, Mapped, Allowed, Fault}
use Rattle.nr_trace.specs.Versions.{KnowsDepth, KnowsQuery, KnowsAnswer, KnowsAsked, KnowsTouch}
use Rattle.nr_trace.specs.Versions.{IsVersionOf, least_frames, most_frames, most_start, most_tables}
use Rattle.nr_trace.specs.Versions.{most_threads}
use Rattle.nr_trace.specs.Recording.{IsAnswer, IsAskable, IsEvent, IsMemory}
use Rattle.nr_trace.specs.FirstFault.{IsCounts, IsDumpHead, IsNext}
use Rattle.nr_trace.specs.declared.formats.version.Version.{Version}
use Rattle.nr_trace.specs.declared.formats.version.Version.TheVariants.{V1, V2, Segment}
use Rattle.nr_trace.specs.declared.formats.version.Form.{Form}
use Rattle.nr_trace.specs.declared.formats.version.Form.TheVariants as forms
use Rattle.nr_trace.specs.declared.formats.fields.Counts.{Counts}
use Rattle.nr_trace.specs.declared.formats.fields.DumpHead.{DumpHead}
use Rattle.nr_trace.specs.declared.recordings.event.Event.{Event}
use Rattle.nr_trace.specs.declared.recordings.event.Event.TheVariants.{Call, Reply}
use Rattle.nr_trace.specs.declared.recordings.event.Asked.{Asked}
use Rattle.nr_trace.specs.declared.recordings.event.Asked.TheVariants.{Request, Release, Touch}

-- it holds, or it does not
abbrev pub Known : Type 0 → Type 0
Known P = P ⊎ (P → ⊥)

always : Known ⊤
always = inl tt

never : Known ⊥
never = inr (λ h. h)

pub both : {P Q : Type 0} → Known P → Known Q → Known (P × Q)
both (inl p) (inl q) = inl (p, q)
both (inl p) (inr n) = inr (λ h. n h.1)
both (inr n) k = inr (λ h. n h.0)

known_as : {P Q : Type 0} → (P → Q) → (Q → P) → Known P → Known Q
known_as there back (inl p) = inl (there p)
known_as there back (inr n) = inr (λ q. n (back q))

all_four : {P Q R S : Type 0} → Known P → Known Q → Known R → Known S → Known (P × Q × R × S)
all_four p q r s = known_as (λ h. (h.0.0, h.0.1, h.1.0, h.1.1)) (λ h. ((h.0, h.1), (h.2, h.3))) (both (both p q) (both r s))

decided : {P : Type 0} (r : Bool) → Decides r P → Known P
decided true d = inl (d.0 refl)
decided false d = inr (not_from_Decides false d refl)

pub same_bytes : (xs ys : List ℕ) → Known (xs ≡ ys)
same_bytes xs ys = decided _ (bytes_eq-Decides xs ys)

pub below : (m n : ℕ) → Known (m < n)
below m n = decided (ltb m n) (Decides-ltb m n)

at_most : (m n : ℕ) → Known (m ≤ n)
at_most m n = known_as (λ l. omega arith) (λ l. omega arith) (below m (suc n))

passes : (b : Bool) → Known (IsTrue b)
passes true = inl refl
passes false = inr (λ e. absurd cc)

-- ---- requests and answers

base_known : (depth : Depth) (base : ℕ) → Known (IsBase depth base)
base_known depth base =
    known_as (λ h. record { canonical = h.0; aligned = h.1 }) (λ h. (h.canonical, h.aligned))
    (both (passes (is_canonical depth base)) (cases_eq (base % 4096) 0))

page_known : (depth : Depth) (page : Page) → Known (IsPage depth page)
page_known depth page =
    known_as (λ h. record { canonical = h.0; aligned = h.1; phys_aligned = h.2; phys_range = h.3 })
    (λ h. (h.canonical, h.aligned, h.phys_aligned, h.phys_range))
    (all_four (passes (is_canonical depth page.base)) (cases_eq (page.base % bytes_of page.size) 0)
    (cases_eq (page.phys % bytes_of page.size) 0) (at_most (page.phys + bytes_of page.size) (2 ^ 51)))

query_known : (depth : Depth) (query : Query) → Known (IsQuery depth query)
query_known depth (Update (Map page)) = page_known depth page
query_known depth (Update (Unmap base)) = base_known depth base
query_known depth (Update (Protect base rights)) = base_known depth base
query_known depth (Resolve address) = passes (is_canonical depth address)
query_known depth (Access address mode access) = passes (is_canonical depth address)

knows_query : (version : Version) (query : Query) → Known (KnowsQuery version query)
knows_query V1 (Access address mode access) = never
knows_query _ _ = always

knows_touch : (version : Version) → Known (KnowsTouch version)
knows_touch Segment = always
knows_touch _ = never

answer_known : (answer : Answer) → Known (IsAnswer answer)
answer_known (Overlap base) = below base (2 ^ 64)
answer_known (Full need) = below need (2 ^ 64)
answer_known (Removed phys size rights) = below phys (2 ^ 64)
answer_known (Inside base) = below base (2 ^ 64)
answer_known (Mapped phys size rights) = below phys (2 ^ 64)
answer_known (Allowed phys) = below phys (2 ^ 64)
answer_known (Fault code) = below code (2 ^ 64)
answer_known _ = always

knows_answer : (version : Version) (answer : Answer) → Known (KnowsAnswer version answer)
knows_answer V1 (Allowed phys) = never
knows_answer V1 (Fault code) = never
knows_answer _ _ = always

-- ---- units

pub version_known : (form : Form) (version : Version) → Known (IsVersionOf form version)
version_known forms.Trace Segment = never
version_known (forms.Segment before) V1 = never
version_known (forms.Segment before) V2 = never
version_known _ _ = always

memory_known : (size : Size) (phys : ℕ) → Known (IsMemory size phys)
memory_known size phys = both (cases_eq (phys % bytes_of size) 0) (at_most (phys + bytes_of size) (2 ^ 51))

askable_known : (depth : Depth) (asked : Asked) → Known (IsAskable depth asked)
askable_known depth (Request request) = query_known depth request
askable_known depth (Touch address mode access) = query_known depth (Access address mode access)
askable_known depth (Release size phys) = memory_known size phys

knows_asked : (version : Version) (asked : Asked) → Known (KnowsAsked version asked)
knows_asked version (Request request) = knows_query version request
knows_asked version (Touch address mode access) = knows_touch version
knows_asked version (Release size phys) = knows_touch version

pub event_known : (version : Version) (layout : Layout) (recorded : Event) → Known (IsEvent version layout recorded)
event_known version layout (Call replica thread asked) =
    all_four (below replica layout.replicas) (below thread layout.threads) (askable_known layout.depth asked) (knows_asked version asked)
event_known version layout (Reply call at answer) =
    all_four (below call (2 ^ 32)) (below at (2 ^ 32)) (answer_known answer) (knows_answer version answer)

pub layout_known : (threads tables : ℕ) (layout : Layout) → Known (IsLayoutWithin threads tables layout)
layout_known threads tables layout =
    known_as (λ h. record {
      some_replica = h.0.0;
      few_replicas = h.0.1;
      some_thread = h.0.2;
      few_threads = h.0.3;
      some_table = h.1.0;
      few_tables = h.1.1;
    })
    (λ h. ((h.some_replica, h.few_replicas, h.some_thread, h.few_threads), (h.some_table, h.few_tables)))
    (both (all_four (at_most 1 layout.replicas) (at_most layout.replicas REPLICAS) (at_most 1 layout.threads) (at_most layout.threads threads))
    (both (at_most 1 layout.tables) (at_most layout.tables tables)))

knows_depth : (version : Version) (depth : Depth) → Known (KnowsDepth version depth)
knows_depth V1 Five = never
knows_depth _ _ = always

pub counts_known : (version : Version) (numbers : Counts) → Known (IsCounts version numbers)
counts_known version numbers =
    known_as (λ h. record { layout = h.0.0; depth = h.0.1; few_places = h.0.2; few_events = h.0.3; few_start = h.1 })
    (λ h. ((h.layout, h.depth, h.few_places, h.few_events), h.few_start))
    (both (all_four (layout_known (most_threads version) (most_tables version) numbers.layout) (knows_depth version numbers.layout.depth)
    (at_most numbers.places LOG_PLACES) (at_most numbers.events CALLS)) (at_most numbers.start (most_start version)))

-- all is 0, where there are no frames
nothing_known : (frames applied root : ℕ) → Known (frames ≡ 0 → (applied ≡ 0) × (root ≡ 0))
nothing_known frames applied root = by_count (cases_eq frames 0) (both (cases_eq applied 0) (cases_eq root 0)) where
  by_count : Known (frames ≡ 0) → Known ((applied ≡ 0) × (root ≡ 0)) → Known (frames ≡ 0 → (applied ≡ 0) × (root ≡ 0))
  by_count (inl none) (inl all) = inl (λ _. all)
  by_count (inl none) (inr some) = inr (λ h. some (h none))
  by_count (inr some) all = inl (λ none. absurd (some none))

pub head_known : (version : Version) (head : DumpHead) → Known (IsDumpHead version head)
head_known version head =
    known_as (λ h. record { applied = h.0.0; some_frame = h.0.1; few_frames = h.0.2; root = h.0.3; nothing = h.1 })
    (λ h. ((h.applied, h.some_frame, h.few_frames, h.root), h.nothing))
    (both (all_four (below head.applied (2 ^ 32)) (at_most (least_frames version) head.frames) (at_most head.frames (most_frames version))
    (below head.root (2 ^ 64))) (nothing_known head.frames head.applied head.root))

rises_known : (before : Option ℕ) (number : ℕ) → Known (IfSome before (λ last. last < number))
rises_known None number = always
rises_known (Some last) number = below last number

pub next_known : (before : Option ℕ) (number : ℕ) → Known (IsNext before number)
next_known before number =
    known_as (λ h. record { rises = h.0; in_range = h.1 }) (λ h. (h.rises, h.in_range)) (both (rises_known before number) (below number (2 ^ 40)))

-- whether two layouts are one
same_depth : (d e : Depth) → Known (d ≡ e)
same_depth Four Five = inr (λ e. absurd cc)
same_depth Five Four = inr (λ e. absurd cc)
same_depth _ _ = inl refl

pub same_layout : (a b : Layout) → Known (a ≡ b)
same_layout a b =
    known_as (λ h. λ i. record { depth = h.0 i; replicas = h.1 i; threads = h.2 i; tables = h.3 i })
    (λ e. (ap (λ (l : Layout). l.depth) e, ap (λ (l : Layout). l.replicas) e, ap (λ (l : Layout). l.threads) e, ap (λ (l : Layout). l.tables) e))
    (all_four (same_depth a.depth b.depth) (cases_eq a.replicas b.replicas) (cases_eq a.threads b.threads) (cases_eq a.tables b.tables))
