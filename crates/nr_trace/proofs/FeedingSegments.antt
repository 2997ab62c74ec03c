-- A feed of a segment.
use Rattle.std.proofs.Common.{◌≡◌, ◌↔◌, ◌⊎◌, inl, inr, ℕ, Bool, true, false, List, ◌++◌, Option, Some, None, Result, Ok, Err, is_none, is_some, not, refl, sym}
use Rattle.std.proofs.Common.{ap, length, subst, ◌∙◌}
use Rattle.std.proofs.Common.{Vec, Global}
use Rattle.std.specs.Prelude.{IsTrue}
use Rattle.std.proofs.lemmas.List.{append-nil}
use Rattle.vs_types.specs.Config.{Layout}
use Rattle.vs_types.specs.Refusal.{IfRefused}
use Rattle.vs_types.specs.declared.requests.refusal.Fail.{Fail}
use Rattle.nr_trace.specs.Recording.{Recording}
use Rattle.nr_trace.specs.Spelling.{SpellsAs}
use Rattle.nr_trace.specs.FirstFault.{HasFaultAs}
use Rattle.nr_trace.specs.Feed.{FedSegment, EndsSegment, FeedsSegment, IsRefusedAs, IsWhole, LastsAs, fault_alone, fault_of}
use Rattle.nr_trace.specs.Feed.Fed.{Taken}
use Rattle.nr_trace.specs.inside.Progress.{form_of, said, unit_bytes}
use Rattle.nr_trace.specs.inside.Feeding.{AreFewer, HasTaken, IsAtEnd, IsFeeding, fed}
use Rattle.nr_trace.specs.declared.refusals.refusal.Refusal.{Refusal}
use Rattle.nr_trace.specs.declared.refusals.fault.Format.TheVariants.{Truncated}
use Rattle.nr_trace.specs.declared.formats.version.Form.{Form}
use Rattle.nr_trace.specs.declared.formats.version.Form.TheVariants as forms
use Rattle.nr_trace.specs.declared.reading.reader.Reader.{Reader}
use Rattle.nr_trace.specs.declared.reading.feed.State.{State}
use Rattle.nr_trace.specs.declared.reading.feed.State.TheVariants.{Open, Stopped}
use Rattle.nr_trace.proofs.LawsOfFormat.{no_fault}
use Rattle.nr_trace.proofs.Whole.{ready_to_end}
use Rattle.nr_trace.proofs.Feeding.{IsEnded, ends_as, fault_lasts, fewer_than, goes_on, truncated}

-- what contracts see of a feed in this state
abbrev pub seen : Option Layout → State → FedSegment
seen before state = record { before = before; pieces = fed state }

-- a reader at its end has read the segment
whole_at_end : (form : Form) (reader : Reader) (begun : Vec ℕ Global) → IsFeeding form (Open reader begun) → unit_bytes reader ≡ None
    → (segment : Recording) × SpellsAs form (said reader ++ begun.items) segment
whole_at_end form reader begun feeding is =
    let end = ready_to_end reader feeding.1.ready is in
    let nothing = subst (λ o. AreFewer o begun.items) is feeding.2 in (
      end.0,
      subst (λ (f : Form). SpellsAs f (said reader ++ begun.items) end.0) feeding.0
          (subst (λ (l : List ℕ). SpellsAs (form_of reader) l end.0)
          (sym (append-nil (said reader)) ∙ ap (λ (l : List ℕ). said reader ++ l) (sym nothing)) end.1),
    )

at_end : (before : Option Layout) (state : State) → IsFeeding (forms.Segment before) state → IsAtEnd state → IsWhole (seen before state)
at_end before (Open reader begun) feeding is = whole_at_end (forms.Segment before) reader begun feeding is
at_end before (Stopped fail) feeding is = absurd is

-- where a unit is left there are too few bytes, which spell nothing
short_of : (form : Form) (len : ℕ) (reader : Reader) (begun : Vec ℕ Global) → IsFeeding form (Open reader begun) → unit_bytes reader ≡ Some len
    → HasFaultAs form (said reader ++ begun.items) Truncated
short_of form len reader begun feeding is =
    subst (λ (f : Form). HasFaultAs f (said reader ++ begun.items) Truncated) feeding.0
    (truncated reader len begun.items feeding.1 is (fewer_than (unit_bytes reader) len begun.items is feeding.2))

not_at_end : (form : Form) (o : Option ℕ) (reader : Reader) (begun : Vec ℕ Global) → IsFeeding form (Open reader begun) → unit_bytes reader ≡ o
    → (segment : Recording) → SpellsAs form (said reader ++ begun.items) segment → is_none o ≡ true
not_at_end form None reader begun feeding is segment spells = refl
not_at_end form (Some len) reader begun feeding is segment spells =
    absurd (no_fault form (said reader ++ begun.items) segment Truncated spells (short_of form len reader begun feeding is))

none_so : (o : Option ℕ) → is_none o ≡ true → o ≡ None
none_so None e = refl
none_so (Some len) e = absurd cc

says_none : (o : Option ℕ) (answer : Bool) → is_some o ≡ not answer → answer ≡ is_none o
says_none None false e = absurd cc
says_none (Some len) true e = absurd cc
says_none _ _ e = refl

pub whole_so : (self : FedSegment) (before : Option Layout) (state : State) (reader : Reader) (begun : Vec ℕ Global) (answer : Bool)
    → seen before state ≡ self → IsFeeding (forms.Segment before) state → state ≡ Open reader begun → is_some (unit_bytes reader) ≡ not answer
    → IsTrue answer ↔ IsWhole self
whole_so self before state reader begun answer view feeding is some =
    let says : answer ≡ is_none (unit_bytes reader) = says_none (unit_bytes reader) answer some in
    let here : IsFeeding (forms.Segment before) (Open reader begun) = subst (IsFeeding (forms.Segment before)) is feeding in
    let same : seen before (Open reader begun) ≡ self = ap (seen before) (sym is) ∙ view in (
      λ yes. subst IsWhole same (whole_at_end (forms.Segment before) reader begun here (none_so (unit_bytes reader) (sym says ∙ yes))),
      λ whole. let there : IsWhole (seen before (Open reader begun)) = subst IsWhole (sym same) whole in
          says ∙ not_at_end (forms.Segment before) (unit_bytes reader) reader begun here refl there.0 there.1,
    )

-- ---- pieces

-- the bytes spell a segment, or there are too few
whole_or_short : (form : Form) (o : Option ℕ) (reader : Reader) (begun : Vec ℕ Global) → IsFeeding form (Open reader begun) → unit_bytes reader ≡ o
    → ((segment : Recording) × SpellsAs form (said reader ++ begun.items) segment) ⊎ HasFaultAs form (said reader ++ begun.items) Truncated
whole_or_short form None reader begun feeding is = inl (whole_at_end form reader begun feeding is)
whole_or_short form (Some len) reader begun feeding is = inr (short_of form len reader begun feeding is)

so_far : (before : Option Layout) (state : State) (bytes : List ℕ) → IsFeeding (forms.Segment before) state → fed state ≡ Taken bytes
    → IsWhole (seen before state) ⊎ HasFaultAs (forms.Segment before) bytes Truncated
so_far before (Open reader begun) bytes feeding is =
    let same : said reader ++ begun.items ≡ bytes = cc in
    elim (whole_or_short (forms.Segment before) (unit_bytes reader) reader begun feeding refl) as (λ _. IsWhole (seen before (Open reader begun))
    ⊎ HasFaultAs (forms.Segment before) bytes Truncated) [
      | inl whole ↦ inl whole
      | inr short ↦ inr (subst (λ (l : List ℕ). HasFaultAs (forms.Segment before) l Truncated) same short)
    ]
so_far before (Stopped fail) bytes feeding is = absurd cc

pub segment_taken : (self : FedSegment) (before : Option Layout) (old next : State) (reader : Reader) (begun : Vec ℕ Global) (piece : List ℕ) (count : ℕ)
    → seen before old ≡ self → IsFeeding (forms.Segment before) old → old ≡ Open reader begun
    → HasTaken (form_of reader) (said reader ++ begun.items) piece next count → FeedsSegment self piece (seen before next) (Ok count)
segment_taken self before old next reader begun piece count view feeding is taken =
    let here : IsFeeding (forms.Segment before) (Open reader begun) = subst (IsFeeding (forms.Segment before)) is feeding in
    let has : HasTaken (forms.Segment before) (said reader ++ begun.items) piece next count =
    subst (λ (f : Form). HasTaken f (said reader ++ begun.items) piece next count) here.0 taken in
    subst (λ f. FeedsSegment f piece (seen before next) (Ok count)) (ap (seen before) (sym is) ∙ view) (
      refl,
      (
        has.within,
        has.come.bytes_are,
        goes_on (forms.Segment before) _ next has.come.feeding has.come.bytes_are,
        λ less. at_end before next has.come.feeding (has.at_end less),
        so_far before next _ has.come.feeding has.come.bytes_are,
      ),
    )

pub segment_refused : (self : FedSegment) (before : Option Layout) (old : State) (reader : Reader) (begun : Vec ℕ Global) (piece : List ℕ)
    (fail : Fail Refusal) → seen before old ≡ self → IsFeeding (forms.Segment before) old → old ≡ Open reader begun
    → IfRefused (IsRefusedAs (form_of reader) (said reader ++ begun.items ++ piece) (length (begun.items ++ piece))) fail
    → FeedsSegment self piece (seen before (Stopped fail)) (Err (fault_of fail))
segment_refused self before old reader begun piece fail view feeding is why =
    let here : IsFeeding (forms.Segment before) (Open reader begun) = subst (IsFeeding (forms.Segment before)) is feeding in
    subst (λ f. FeedsSegment f piece (seen before (Stopped fail)) (Err (fault_of fail))) (ap (seen before) (sym is) ∙ view) (
      refl,
      (
        refl,
        subst (λ (f : Form). IfRefused (LastsAs f (said reader ++ begun.items ++ piece)) (fault_of fail)) here.0
            (fault_lasts (form_of reader) (said reader ++ begun.items ++ piece) (length (begun.items ++ piece)) fail why),
      ),
    )

pub segment_still_refused : (self : FedSegment) (before : Option Layout) (old : State) (piece : List ℕ) (fail : Fail Refusal) → seen before old ≡ self
    → old ≡ Stopped fail → FeedsSegment self piece (seen before (Stopped fail)) (Err (fault_of fail))
segment_still_refused self before old piece fail view is =
    subst (λ f. FeedsSegment f piece (seen before (Stopped fail)) (Err (fault_of fail))) (ap (seen before) (sym is) ∙ view) (refl, (refl, refl))

-- ---- the end

pub segment_ends : (self : FedSegment) (before : Option Layout) (state : State) (reader : Reader) (begun : Vec ℕ Global)
    (result : Result Recording (Fail Refusal)) → seen before state ≡ self → IsFeeding (forms.Segment before) state → state ≡ Open reader begun
    → IsEnded reader begun.items result → EndsSegment self (fault_alone result)
segment_ends self before state reader begun result view feeding is h =
    subst (λ f. EndsSegment f (fault_alone result)) (ap (seen before) (sym is) ∙ view)
    (ends_as (forms.Segment before) reader begun result (subst (IsFeeding (forms.Segment before)) is feeding) h)

pub segment_ended_refused : (self : FedSegment) (before : Option Layout) (state : State) (fail : Fail Refusal) → seen before state ≡ self
    → state ≡ Stopped fail → EndsSegment self (fault_alone (Err fail))
segment_ended_refused self before state fail view is = subst (λ f. EndsSegment f (fault_alone (Err fail))) (ap (seen before) (sym is) ∙ view) refl
