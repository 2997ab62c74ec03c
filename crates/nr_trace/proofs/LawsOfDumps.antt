-- Where no fault holds of a recording, each dump fits the recorded order.
use Rattle.std.proofs.Common.{◌≡◌, ◌≢◌, ℕ, zero, suc, ◌<◌, ◌≤◌, ◌⊎◌, inl, inr, List, length, take, slice_get, Contains, Some, refl, ap, ap₂, sym, ◌∙◌, subst}
use Rattle.std.proofs.Common.{arith}
use Rattle.std.proofs.lemmas.Bool.{cases_eq, cases_lt}
use Rattle.vs_types.specs.Space.{Space}
use Rattle.vs_types.specs.Step.{look}
use Rattle.vs_walk.specs.Dump.{Image}
use Rattle.vs_walk.specs.Walk.{walk, as_walk, TranslatesAs}
use Rattle.vs_walk.specs.declared.walk.Walk.{Walk}
use Rattle.vs_walk.specs.declared.walk.Walk.TheVariants as walks
use Rattle.nr_trace.specs.Recording.{Recording, IsImage, IsRecording, IsThere}
use Rattle.nr_trace.specs.Versions.{IsVersionOf}
use Rattle.nr_trace.specs.declared.formats.version.Version.{Version}
use Rattle.nr_trace.specs.declared.formats.version.Version.TheVariants.{V1, V2, Segment}
use Rattle.nr_trace.specs.declared.formats.version.Form.TheVariants as forms
use Rattle.std.proofs.lemmas.Option.{slice_get_within, get_or_from_slice_get}
use Rattle.vs_types.specs.Codes.{size_code, rights_code}
use Rattle.nr_trace.specs.declared.formats.fields.AnswerFields.{AnswerFields}
use Rattle.nr_trace.specs.Calls.{Invocation, call_of, IsUpdate, IsRead, Response, reply_of, reply_to}
use Rattle.nr_trace.specs.Orders.{below, before, updates, space_from, recorded_order, known_by, IsLegalFrom, FitsFrom}
use Rattle.nr_trace.specs.Faults.{StandsAfter, RestsOnMore}
use Rattle.vs_walk.specs.Differences.{IsLeast, TranslatesOtherwise}
use Rattle.vs_walk.proofs.Leasts.{none_from_no_least}
use Rattle.nr_trace.specs.Laws.{HasCleanLog, IsFaultlessFrom}
use Rattle.nr_trace.specs.declared.refusals.fault.Fault.TheVariants.{ThreadOpen, NoSuchCall, AnsweredTwice, NotAnUpdate, PlacedTwice, NotPlaced, PastLog, Early}
use Rattle.nr_trace.specs.declared.refusals.fault.Fault.TheVariants.{WrongAnswer, PrefixPastLog, PrefixShort, Differs}
use Rattle.nr_trace.proofs.LawsOfUnits.{size_from, size_back, rights_from, rights_back}
use Rattle.nr_trace.proofs.LawsOfLists.{In, Contains-from_in, in_from_Contains, in_either, in_filter}
use Rattle.nr_trace.proofs.LawsOfCalls.{the_some, not_both, reply_event, answered_stands}
use Rattle.nr_trace.proofs.LawsOfOrder.{saw, read_from_saw, blocks, in_blocks, earlier_reads, before_read, updates_of_order}
use Rattle.nr_trace.proofs.LawsOfPrecedence.{in_taken, known_of_update, known_of_read, legal}

-- ---- walks are one or not

abbrev none : ℕ → AnswerFields
none code = record { code = code; size = 0; rights = 0; value = 0 }

abbrev fields_of : Walk → AnswerFields
fields_of walks.NotMapped = none 0
fields_of walks.Reserved = none 1
fields_of walks.Missing = none 2
fields_of (walks.Mapped phys size rights) = record { code = 3; size = size_code size; rights = rights_code rights; value = phys }

abbrev walk_of_code : ℕ → AnswerFields → Walk
walk_of_code zero f = walks.NotMapped
walk_of_code (suc zero) f = walks.Reserved
walk_of_code (suc (suc zero)) f = walks.Missing
walk_of_code (suc (suc (suc n))) f = walks.Mapped f.value (size_from f.size) (rights_from f.rights)

abbrev walk_of : AnswerFields → Walk
walk_of f = walk_of_code f.code f

walk_back : (w : Walk) → walk_of (fields_of w) ≡ w
walk_back (walks.Mapped phys size rights) = ap₂ (walks.Mapped phys) (size_back size) (rights_back rights)
walk_back _ = refl

walk_apart : (a b : Walk) → fields_of a ≡ fields_of b → a ≡ b
walk_apart a b e = sym (walk_back a) ∙ ap walk_of e ∙ walk_back b

pub same_walk : (a b : Walk) → ((a ≢ b) → ⊥) → a ≡ b
same_walk a b h =
    by_parts (cases_eq (fields_of a).code (fields_of b).code) (cases_eq (fields_of a).size (fields_of b).size)
    (cases_eq (fields_of a).rights (fields_of b).rights) (cases_eq (fields_of a).value (fields_of b).value) where
      by_parts : ((fields_of a).code ≡ (fields_of b).code) ⊎ ((fields_of a).code ≡ (fields_of b).code → ⊥)
          → ((fields_of a).size ≡ (fields_of b).size) ⊎ ((fields_of a).size ≡ (fields_of b).size → ⊥)
          → ((fields_of a).rights ≡ (fields_of b).rights) ⊎ ((fields_of a).rights ≡ (fields_of b).rights → ⊥)
          → ((fields_of a).value ≡ (fields_of b).value) ⊎ ((fields_of a).value ≡ (fields_of b).value → ⊥)
          → a ≡ b
      by_parts (inl c) (inl s) (inl r) (inl v) = walk_apart a b (λ i. record { code = c i; size = s i; rights = r i; value = v i })
      by_parts (inr n) s r v = absurd (h (λ e. n (ap (λ x. (fields_of x).code) e)))
      by_parts (inl c) (inr n) r v = absurd (h (λ e. n (ap (λ x. (fields_of x).size) e)))
      by_parts (inl c) (inl s) (inr n) v = absurd (h (λ e. n (ap (λ x. (fields_of x).rights) e)))
      by_parts (inl c) (inl s) (inl r) (inr n) = absurd (h (λ e. n (ap (λ x. (fields_of x).value) e)))

-- ---- dumps

pub clean_if_faultless : (start : Space) (trace : Recording) → IsFaultlessFrom start trace → HasCleanLog trace
clean_if_faultless start trace faultless = record {
  no_thread_open = λ i h. faultless (ThreadOpen i) h;
  no_such_call = λ i h. faultless (NoSuchCall i) h;
  none_twice = λ i h. faultless (AnsweredTwice i) h;
  updates_alone = λ i h. faultless (NotAnUpdate i) h;
  placed_once = λ i h. faultless (PlacedTwice i) h;
  all_placed = λ i h. faultless (NotPlaced i) h;
  none_past_log = λ i h. faultless (PastLog i) h;
}

pub legal_if_faultless : (start : Space) (trace : Recording) → IsFaultlessFrom start trace → IsLegalFrom start trace (recorded_order trace)
legal_if_faultless start trace faultless =
    legal start trace (clean_if_faultless start trace faultless) (λ call h. faultless (Early call) h) (λ call h. faultless (WrongAnswer call) h)

-- the dump has applied what an answer given at its replica depends on
known_applied : (trace : Recording) (replica : ℕ) (dump : Image) (call : ℕ) (made : Invocation) (reply : Response) → (RestsOnMore trace replica dump → ⊥)
    → call_of trace call ≡ Some made → made.replica ≡ replica → reply_to trace call ≡ Some reply → (known_by trace reply ≤ dump.applied) × (reply.call ≡ call)
known_applied trace replica dump call made reply no_more is_made here is_reply = (by_order (cases_lt dump.applied (known_by trace reply)), event.2) where
  event : (index : ℕ) × (reply_of trace index ≡ Some reply) × (reply.call ≡ call)
  event = reply_event trace call reply is_reply

  by_order : (dump.applied < known_by trace reply) ⊎ (known_by trace reply ≤ dump.applied) → known_by trace reply ≤ dump.applied
  by_order (inl l) = absurd (no_more
      (record { index = event.0; reply = reply; is_reply = event.1; made = made; is_made = ap (call_of trace) event.2 ∙ is_made; here = here; more = l }))
  by_order (inr l) = l

pub dump_translates : (start : Space) (trace : Recording) (dump : Image)
    → ((address : ℕ) → IsLeast (TranslatesOtherwise trace.layout.depth dump.frames dump.root (space_from start trace (take dump.applied trace.log))) address
    → ⊥)
    → TranslatesAs trace.layout.depth dump.frames dump.root (space_from start trace (take dump.applied trace.log))
dump_translates start trace dump none_differs address canonical =
    same_walk (walk trace.layout.depth dump.frames dump.root address) (as_walk (look (space_from start trace (take dump.applied trace.log)) address))
    (λ apart. none_from_no_least (TranslatesOtherwise trace.layout.depth dump.frames dump.root (space_from start trace (take dump.applied trace.log)))
    none_differs
    address (canonical, apart))

-- the places that a dump has applied
abbrev Applied : Recording → Image → ℕ → Type 0
Applied trace dump call = Contains (take dump.applied trace.log) call

applied_place : (trace : Recording) (dump : Image) (place call : ℕ) → place < dump.applied → slice_get trace.log place ≡ Some call → Applied trace dump call
applied_place trace dump place call l e = Contains-from_in call (take dump.applied trace.log) (in_taken trace.log place dump.applied call l e)

own_update : (trace : Recording) (dump : Image) (call : ℕ) (reply : Response) → IsUpdate trace call → reply.call ≡ call → known_by trace reply ≤ dump.applied
    → StandsAfter trace call reply.at → Applied trace dump call
own_update trace dump call reply u g l (inl (v, e)) =
    let k = known_of_update trace reply (subst (IsUpdate trace) (sym g) u) in
    applied_place trace dump reply.at call (omega arith) e
own_update trace dump call reply u g l (inr r) = absurd (not_both trace call u r.0)

earlier_update : (trace : Recording) (dump : Image) (call earlier : ℕ) (reply : Response) → HasCleanLog trace → IsRead trace call
    → reply_to trace call ≡ Some reply → reply.call ≡ call → known_by trace reply ≤ dump.applied → reply.at ≤ length trace.log
    → IsUpdate trace earlier → In earlier (before call (recorded_order trace)) → Applied trace dump earlier
earlier_update trace dump call earlier reply clean r is_reply g l within u i =
    let k = known_of_read trace reply (subst (IsRead trace) (sym g) r) in
    by_side (omega arith) (in_either earlier (blocks trace reply.at) (earlier_reads trace reply.at call)
    (subst (In earlier) (before_read trace reply.at call clean within (r, reply, is_reply, refl)) i)) where
      by_stand : (m : ℕ) → m < dump.applied → StandsAfter trace earlier m → Applied trace dump earlier
      by_stand m m_less (inl (v, e)) = applied_place trace dump m earlier m_less e
      by_stand m m_less (inr s) = absurd (not_both trace earlier u s.0)

      by_side : reply.at ≤ dump.applied → In earlier (blocks trace reply.at) ⊎ In earlier (earlier_reads trace reply.at call) → Applied trace dump earlier
      by_side at_most (inl j) =
          let (m, m_less, h) = in_blocks trace reply.at earlier clean j in
          by_stand m (omega arith) h
      by_side at_most (inr j) = absurd
          (not_both trace earlier u (read_from_saw trace reply.at earlier (in_filter (saw trace reply.at) earlier (below call) j).1).0)

-- each dump of a trace is there
pub dump_is_there : (trace : Recording) (replica : ℕ) (dump : Image) → IsVersionOf forms.Trace trace.version → IsRecording trace
    → slice_get trace.dumps replica ≡ Some dump → IsThere dump
dump_is_there trace replica dump of range is =
    some_frame trace.version of (subst (IsImage trace.version) (get_or_from_slice_get trace.dumps replica dump dump is)
    (range.dumps replica dump (slice_get_within trace.dumps replica dump is))) where
      some_frame : (version : Version) → IsVersionOf forms.Trace version → IsImage version dump → IsThere dump
      some_frame V1 of image = image.some_frame
      some_frame V2 of image = image.some_frame
      some_frame Segment of image = absurd of

pub fits_if_faultless : (start : Space) (trace : Recording) (replica : ℕ) (dump : Image) → IsFaultlessFrom start trace
    → slice_get trace.dumps replica ≡ Some dump → IsThere dump → FitsFrom start trace (recorded_order trace) replica dump
fits_if_faultless start trace replica dump faultless is there = record {
  enough = subst (λ (log : List ℕ). dump.applied ≤ length log) (sym log_is) (by_order (cases_lt (length trace.log) dump.applied));
  translates = subst (λ (log : List ℕ). TranslatesAs trace.layout.depth dump.frames dump.root (space_from start trace (take dump.applied log))) (sym log_is)
      (dump_translates start trace dump (λ address h. faultless (Differs replica address) (dump, is, there, h)));
  own_updates = λ call made is_made here u answered. in_log call (of_update call made is_made here u (the_some (reply_to trace call) answered));
  own_reads = λ call earlier made is_made here r answered u i. in_log earlier
      (of_read call earlier made is_made here r (the_some (reply_to trace call) answered) u i);
} where
  clean : HasCleanLog trace
  clean = clean_if_faultless start trace faultless

  log_is : updates trace (recorded_order trace) ≡ trace.log
  log_is = updates_of_order trace clean

  by_order : (length trace.log < dump.applied) ⊎ (dump.applied ≤ length trace.log) → dump.applied ≤ length trace.log
  by_order (inl l) = absurd (faultless (PrefixPastLog replica) (dump, is, there, l))
  by_order (inr l) = l

  no_more : RestsOnMore trace replica dump → ⊥
  no_more h = faultless (PrefixShort replica) (dump, is, there, h)

  in_log : (call : ℕ) → Applied trace dump call → Contains (take dump.applied (updates trace (recorded_order trace))) call
  in_log call h = subst (λ (log : List ℕ). Contains (take dump.applied log) call) (sym log_is) h

  of_update : (call : ℕ) (made : Invocation) → call_of trace call ≡ Some made → made.replica ≡ replica → IsUpdate trace call
      → (reply : Response) × (reply_to trace call ≡ Some reply) → Applied trace dump call
  of_update call made is_made here u (reply, e) =
      let known = known_applied trace replica dump call made reply no_more is_made here e in
      own_update trace dump call reply u known.1 known.0 (answered_stands trace call reply clean (inl u) e).0

  of_read : (call earlier : ℕ) (made : Invocation) → call_of trace call ≡ Some made → made.replica ≡ replica → IsRead trace call
      → (reply : Response) × (reply_to trace call ≡ Some reply) → IsUpdate trace earlier
      → Contains (before call (recorded_order trace)) earlier → Applied trace dump earlier
  of_read call earlier made is_made here r (reply, e) u i =
      let known = known_applied trace replica dump call made reply no_more is_made here e in
      earlier_update trace dump call earlier reply clean r e known.1 known.0 (answered_stands trace call reply clean (inr r) e).1 u
      (in_from_Contains earlier (before call (recorded_order trace)) i)
