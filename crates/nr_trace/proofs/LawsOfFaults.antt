-- Faults are distinguished by where they are, and one is first.
use Rattle.std.proofs.Common.{◌≡◌, ℕ, ◌<◌, ◌⊎◌, inl, inr, Some, List, length, get_or, take, slice_get, Contains, refl, ap, ap₂, sym, ◌∙◌, subst, arith, ◌∷◌, []}
use Rattle.std.specs.FinMap as finite
use Rattle.std.specs.Ordering.{nat_cmp, ordering_reverse}
use Rattle.std.proofs.lemmas.Cmp.{nat_list_cmp_total}
use Rattle.std.specs.Cmp.Lexicographic.{slice_cmp}
use Rattle.std.specs.declared.cmp.Ordering.{Ordering}
use Rattle.std.specs.declared.cmp.Ordering.TheVariants.{Less, Equal, Greater}
use Rattle.std.proofs.lemmas.Bool.Decides.{nat_tests}
use Rattle.std.proofs.lemmas.Option.{same_Some, slice_get_within}
use Rattle.vs_types.specs.Space.{Space, no_pages}
use Rattle.vs_walk.specs.Dump.{Image}
use Rattle.vs_walk.specs.declared.walk.WalkFault.TheVariants as walks
use Rattle.nr_trace.specs.Recording.{Recording}
use Rattle.nr_trace.specs.Spelling.{Spells}
use Rattle.nr_trace.specs.FirstFault.{HasFormatFault}
use Rattle.nr_trace.specs.Calls.{Invocation, call_of, Response}
use Rattle.nr_trace.specs.Orders.{before, space_from, recorded_order}
use Rattle.vs_walk.specs.Differences.{IsStray, TranslatesOtherwise}
use Rattle.vs_walk.proofs.Leasts.{one_least}
use Rattle.nr_trace.specs.Faults.{IsReplyWith, HasDump, IsWrongFrom, HasFault, HasFaultFrom, rank, Earlier, IsFirst, IsFirstFrom, IsFirstOf}
use Rattle.nr_trace.specs.Laws.{HasCleanLog, HasRank, IsFaultless}
use Rattle.nr_trace.specs.declared.refusals.fault.Format.{Format as FormatFault}
use Rattle.nr_trace.specs.declared.refusals.fault.Fault.{Fault}
use Rattle.nr_trace.specs.declared.refusals.fault.Fault.TheVariants.{Format, ThreadOpen, NoSuchCall, AnsweredTwice, NotAnUpdate, PlacedTwice, NotPlaced, PastLog, Early}
use Rattle.nr_trace.specs.declared.refusals.fault.Fault.TheVariants.{WrongAnswer, PrefixPastLog, PrefixShort, MissingFrame, SharedFrame, ReservedBit, StrayFrame}
use Rattle.nr_trace.specs.declared.refusals.fault.Fault.TheVariants.{Differs}
use Rattle.nr_trace.specs.declared.refusals.fault.Fault.TheVariants.{StartMissing, StartShared, StartReserved, StartStray, StartBeyond, StartDiffers, Stale, Reachable}
use Rattle.nr_trace.proofs.LawsOfLists.{In, earlier_member, member_before, in_from_Contains, Contains-from_in, same_place}
use Rattle.nr_trace.proofs.LawsOfCalls.{answered_stands, call_within, is_some_from, ordered_from_request, reply_below}
use Rattle.nr_trace.proofs.LawsOfOrder.{standing_is_member}
use Rattle.nr_trace.proofs.LawsOfSpelling.{one_trace}
use Rattle.nr_trace.proofs.LawsOfFormat.{one_fault, no_fault}
use Rattle.nr_trace.specs.declared.formats.version.Form.TheVariants as forms

abbrev second : List ℕ → ℕ
second ns = get_or ns 1 0

abbrev third : List ℕ → ℕ
third ns = get_or ns 2 0

-- ---- what a dump's fault names

-- what holds of a replica's dump holds of one dump
of_one_dump : (trace : Recording) (replica other : ℕ) (P Q : Image → Type 0) {C : Type 0} → replica ≡ other → HasDump trace replica P → HasDump trace other Q
    → ((dump : Image) → P dump → Q dump → C) → C
of_one_dump trace replica other P Q e (dump, is, there, h) (image, also, here, k) f =
    let same = same_Some dump image (sym is ∙ ap (slice_get trace.dumps) e ∙ also) in
    f dump h (subst Q (sym same) k)

missing_same : (m n : ℕ) → walks.Missing m ≡ walks.Missing n → m ≡ n
missing_same m n e = cc

shared_same : (m n : ℕ) → walks.Shared m ≡ walks.Shared n → m ≡ n
shared_same m n e = cc

reserved_same : (m n i j : ℕ) → walks.Reserved m i ≡ walks.Reserved n j → (m ≡ n) × (i ≡ j)
reserved_same m n i j e = (cc, cc)

-- ---- faults by their ranks

pub same_rank : (start : Space) (trace : Recording) (f g : Fault) → HasRank trace f → HasRank trace g → HasFaultFrom start trace f → HasFaultFrom start trace g
    → rank trace f ≡ rank trace g → f ≡ g
same_rank start trace (Format f) g a b h k e = absurd h
same_rank start trace (StartMissing n) g a b h k e = absurd h
same_rank start trace (StartShared n) g a b h k e = absurd h
same_rank start trace (StartReserved n i) g a b h k e = absurd h
same_rank start trace (StartStray n) g a b h k e = absurd h
same_rank start trace (StartBeyond n) g a b h k e = absurd h
same_rank start trace (StartDiffers n) g a b h k e = absurd h
same_rank start trace (Stale n) g a b h k e = absurd h
same_rank start trace (Reachable n) g a b h k e = absurd h
same_rank start trace (ThreadOpen i) (ThreadOpen j) a b h k e = ap ThreadOpen (ap second e)
same_rank start trace (NoSuchCall i) (NoSuchCall j) a b h k e = ap NoSuchCall (ap second e)
same_rank start trace (AnsweredTwice i) (AnsweredTwice j) a b h k e = ap AnsweredTwice (ap second e)
same_rank start trace (NotAnUpdate i) (NotAnUpdate j) a b h k e = ap NotAnUpdate (ap second e)
same_rank start trace (PlacedTwice i) (PlacedTwice j) a b h k e = ap PlacedTwice (ap second e)
same_rank start trace (NotPlaced i) (NotPlaced j) a b h k e = ap NotPlaced (ap second e)
same_rank start trace (PastLog i) (PastLog j) a b h k e = ap PastLog (ap second e)
same_rank start trace (Early i) (Early j) a b h k e = ap Early (ap second e)
same_rank start trace (WrongAnswer i) (WrongAnswer j) a b h k e =
    ap WrongAnswer (same_place i j (recorded_order trace) (in_from_Contains i (recorded_order trace) a)
    (in_from_Contains j (recorded_order trace) b) (ap second e))
same_rank start trace (PrefixPastLog i) (PrefixPastLog j) a b h k e = ap PrefixPastLog (ap second e)
same_rank start trace (PrefixShort i) (PrefixShort j) a b h k e = ap PrefixShort (ap second e)
same_rank start trace (MissingFrame i m) (MissingFrame j n) a b h k e =
    ap₂ MissingFrame (ap second e)
    (of_one_dump trace i j _ _ (ap second e) h k (λ dump p q. missing_same m n (same_Some (walks.Missing m) (walks.Missing n) (sym p ∙ q))))
same_rank start trace (SharedFrame i m) (SharedFrame j n) a b h k e =
    ap₂ SharedFrame (ap second e)
    (of_one_dump trace i j _ _ (ap second e) h k (λ dump p q. shared_same m n (same_Some (walks.Shared m) (walks.Shared n) (sym p ∙ q))))
same_rank start trace (ReservedBit i m x) (ReservedBit j n y) a b h k e =
    let both = of_one_dump trace i j _ _ (ap second e) h k
    (λ dump p q. reserved_same m n x y (same_Some (walks.Reserved m x) (walks.Reserved n y) (sym p ∙ q))) in
    let place = ap second e in
    λ t. ReservedBit (place t) (both.0 t) (both.1 t)
same_rank start trace (StrayFrame i m) (StrayFrame j n) a b h k e =
    ap₂ StrayFrame (ap second e) (of_one_dump trace i j _ _ (ap second e) h k
    (λ dump p q. one_least (IsStray trace.layout.depth dump.frames dump.root) m n p q))
same_rank start trace (Differs i m) (Differs j n) a b h k e =
    ap₂ Differs (ap second e) (of_one_dump trace i j _ _ (ap second e) h k
    (λ dump p q. one_least (TranslatesOtherwise trace.layout.depth dump.frames dump.root (space_from start trace (take dump.applied trace.log))) m n p q))
same_rank start trace f g a b h k e =
    let number = ap third e in
    absurd (omega arith)

pub ordered : (start : Space) (trace : Recording) (f g : Fault) → HasRank trace f → HasRank trace g → HasFaultFrom start trace f → HasFaultFrom start trace g
    → (f ≡ g) ⊎ (Earlier trace f g ⊎ Earlier trace g f)
ordered start trace f g a b h k = by_order (slice_cmp nat_cmp (rank trace f) (rank trace g)) refl where
  by_order : (r : Ordering) → slice_cmp nat_cmp (rank trace f) (rank trace g) ≡ r → (f ≡ g) ⊎ (Earlier trace f g ⊎ Earlier trace g f)
  by_order Less e = inr (inl e)
  by_order Equal e = inl (same_rank start trace f g a b h k (finite.slice_cmp-IsAntisymmetric finite.nat_cmp-IsAntisymmetric (rank trace f) (rank trace g) e))
  by_order Greater e = inr (inr (nat_list_cmp_total.antisymm (rank trace g) (rank trace f) ∙ ap ordering_reverse e))

-- ---- which rank is earlier

-- one rank is earlier than another where it is less in the first number in which they differ
abbrev pub IsBelow : (a b c x y z : ℕ) → Type 0
IsBelow a b c x y z = (a < x) ⊎ (((a ≡ x) × (b < y)) ⊎ ((a ≡ x) × (b ≡ y) × (c < z)))

pub below_from_less : (a b c x y z : ℕ) → slice_cmp nat_cmp (a ∷ b ∷ c ∷ []) (x ∷ y ∷ z ∷ []) ≡ Less → IsBelow a b c x y z
below_from_less a b c x y z h = grind (arith, nat_tests)

pub less_from_below : (a b c x y z : ℕ) → IsBelow a b c x y z → slice_cmp nat_cmp (a ∷ b ∷ c ∷ []) (x ∷ y ∷ z ∷ []) ≡ Less
less_from_below a b c x y z h = grind (arith, nat_tests)

-- the three numbers of a rank: the pass, the index in it, and the fault's own number
abbrev pub pass : Fault → ℕ
pass (Format fault) = 1
pass (StartMissing number) = 1
pass (StartShared number) = 1
pass (StartReserved number index) = 1
pass (StartStray number) = 1
pass (StartBeyond base) = 1
pass (StartDiffers address) = 1
pass (ThreadOpen index) = 2
pass (NoSuchCall index) = 2
pass (AnsweredTwice index) = 2
pass (NotAnUpdate place) = 3
pass (PlacedTwice place) = 3
pass (NotPlaced index) = 4
pass (PastLog index) = 4
pass (Early call) = 5
pass (WrongAnswer call) = 6
pass (Stale call) = 7
pass (Reachable call) = 8
pass _ = 9

abbrev pub index_of : Recording → Fault → ℕ
index_of trace fault = get_or (rank trace fault) 1 0

abbrev pub number_of : Recording → Fault → ℕ
number_of trace fault = get_or (rank trace fault) 2 0

pub rank_is : (trace : Recording) (fault : Fault) → rank trace fault ≡ pass fault ∷ index_of trace fault ∷ number_of trace fault ∷ []
rank_is trace (Format fault) = refl
rank_is trace (ThreadOpen index) = refl
rank_is trace (NoSuchCall index) = refl
rank_is trace (AnsweredTwice index) = refl
rank_is trace (NotAnUpdate place) = refl
rank_is trace (PlacedTwice place) = refl
rank_is trace (NotPlaced index) = refl
rank_is trace (PastLog index) = refl
rank_is trace (Early call) = refl
rank_is trace (WrongAnswer call) = refl
rank_is trace _ = refl

-- an earlier fault is of an earlier pass, or of an earlier index in the pass, or has a lower number at one index
pub earlier_parts : (trace : Recording) (f g : Fault) → Earlier trace f g
    → IsBelow (pass f) (index_of trace f) (number_of trace f) (pass g) (index_of trace g) (number_of trace g)
earlier_parts trace f g e = below_from_less _ _ _ _ _ _ (ap₂ (slice_cmp nat_cmp) (sym (rank_is trace f)) (sym (rank_is trace g)) ∙ e)

-- a fault of an earlier pass is earlier
pub earlier_pass : (trace : Recording) (f g : Fault) → pass f < pass g → Earlier trace f g
earlier_pass trace f g lt =
    ap₂ (slice_cmp nat_cmp) (rank_is trace f) (rank_is trace g) ∙ less_from_below (pass f) (index_of trace f) (number_of trace f) (pass g)
    (index_of trace g) (number_of trace g) (inl lt)

-- ---- the indexes of what holds

pub reply_within : (trace : Recording) (index : ℕ) (P : Response → Type 0) → IsReplyWith trace index P → index < length trace.events
reply_within trace index P (reply, e, h) = reply_below trace index reply e

pub dump_within : (trace : Recording) (replica : ℕ) (P : Image → Type 0) → HasDump trace replica P → replica < length trace.dumps
dump_within trace replica P (dump, e, there, h) = slice_get_within trace.dumps replica dump e

pub made_within : (trace : Recording) (call : ℕ) (made : Invocation) → call_of trace call ≡ Some made → call < length trace.events
made_within trace call made e = call_within trace call (is_some_from (call_of trace call) made e)

pub wrong_is_member : (start : Space) (trace : Recording) (call : ℕ) → HasCleanLog trace → IsWrongFrom start trace call → Contains (recorded_order trace) call
wrong_is_member start trace call clean wrong =
    let both = answered_stands trace call wrong.reply clean (ordered_from_request trace call wrong.request wrong.asks) wrong.is_reply in
    Contains-from_in call (recorded_order trace) (standing_is_member trace wrong.reply.at call both.1 both.0)

-- a wrong answer that is earlier than another one is of a call that comes before the other's
pub earlier_answer : (start : Space) (trace : Recording) (i j : ℕ) → HasCleanLog trace → HasFaultFrom start trace (WrongAnswer i)
    → HasFaultFrom start trace (WrongAnswer j)
    → Earlier trace (WrongAnswer i) (WrongAnswer j) → In i (before j (recorded_order trace))
earlier_answer start trace i j clean h k e =
    earlier_member i j (recorded_order trace) (in_from_Contains i (recorded_order trace) (wrong_is_member start trace i clean h))
    (in_from_Contains j (recorded_order trace) (wrong_is_member start trace j clean k))
    (by_parts (earlier_parts trace (WrongAnswer i) (WrongAnswer j) e)) where
      by_parts : IsBelow 6 (length (before i (recorded_order trace))) 10 6 (length (before j (recorded_order trace))) 10
          → length (before i (recorded_order trace)) < length (before j (recorded_order trace))
      by_parts (inl l) = absurd (omega arith)
      by_parts (inr (inl l)) = l.1
      by_parts (inr (inr l)) =
          let m = l.2 in
          absurd (omega arith)

pub answer_before : (trace : Recording) (i j : ℕ) → In i (before j (recorded_order trace)) → Earlier trace (WrongAnswer i) (WrongAnswer j)
answer_before trace i j h =
    less_from_below 6 (length (before i (recorded_order trace))) 10 6 (length (before j (recorded_order trace))) 10
    (inr (inl (refl, member_before i j (recorded_order trace) h)))

-- ---- the first fault

-- where a wrong answer is the first fault, no fault holds of the events, the log or a reply's place
pub clean_before_answers : (start : Space) (trace : Recording) (call : ℕ) → IsFirstFrom start trace (WrongAnswer call) → HasCleanLog trace
clean_before_answers start trace call first = record {
  no_thread_open = λ i h. first.none_earlier (ThreadOpen i) h refl;
  no_such_call = λ i h. first.none_earlier (NoSuchCall i) h refl;
  none_twice = λ i h. first.none_earlier (AnsweredTwice i) h refl;
  updates_alone = λ i h. first.none_earlier (NotAnUpdate i) h refl;
  placed_once = λ i h. first.none_earlier (PlacedTwice i) h refl;
  all_placed = λ i h. first.none_earlier (NotPlaced i) h refl;
  none_past_log = λ i h. first.none_earlier (PastLog i) h refl;
}

first_has_rank : (start : Space) (trace : Recording) (f : Fault) → IsFirstFrom start trace f → HasRank trace f
first_has_rank start trace (WrongAnswer call) first = wrong_is_member start trace call (clean_before_answers start trace call first) first.holds
first_has_rank start trace f first = tt

pub one_first : (start : Space) (trace : Recording) (f g : Fault) → IsFirstFrom start trace f → IsFirstFrom start trace g → f ≡ g
one_first start trace f g x y = by_order (ordered start trace f g (first_has_rank start trace f x) (first_has_rank start trace g y) x.holds y.holds) where
  by_order : (f ≡ g) ⊎ (Earlier trace f g ⊎ Earlier trace g f) → f ≡ g
  by_order (inl e) = e
  by_order (inr (inl l)) = absurd (y.none_earlier f x.holds l)
  by_order (inr (inr l)) = absurd (x.none_earlier g y.holds l)

-- ---- the first fault of bytes

abbrev OfFormat : List ℕ → Fault → Type 0
OfFormat bytes f = (fault : FormatFault) × (f ≡ Format fault) × HasFormatFault bytes fault

abbrev OfTrace : List ℕ → Fault → Type 0
OfTrace bytes f = (trace : Recording) × Spells bytes trace × IsFirst trace f

by_side : (bytes : List ℕ) (f : Fault) → IsFirstOf bytes f → OfFormat bytes f ⊎ OfTrace bytes f
by_side bytes (Format fault) h = inl (fault, refl, h)
by_side bytes f h = inr h

pub one_first_of : (bytes : List ℕ) (f g : Fault) → IsFirstOf bytes f → IsFirstOf bytes g → f ≡ g
one_first_of bytes f g x y = by_sides (by_side bytes f x) (by_side bytes g y) where
  by_sides : OfFormat bytes f ⊎ OfTrace bytes f → OfFormat bytes g ⊎ OfTrace bytes g → f ≡ g
  by_sides (inl (a, e, h)) (inl (b, d, k)) = e ∙ ap Format (one_fault forms.Trace bytes a b h k) ∙ sym d
  by_sides (inl (a, e, h)) (inr (trace, spells, first)) = absurd (no_fault forms.Trace bytes trace a spells h)
  by_sides (inr (trace, spells, first)) (inl (b, d, k)) = absurd (no_fault forms.Trace bytes trace b spells k)
  by_sides (inr (s, spells, first)) (inr (t, also, other)) =
      let e = one_trace bytes s t spells also in
      one_first no_pages t f g (subst (λ trace. IsFirst trace f) e first) other

-- no fault is the first of bytes that spell a trace without one
pub none_of_faultless : (bytes : List ℕ) (trace : Recording) (fault : Fault) → Spells bytes trace → IsFaultless trace → IsFirstOf bytes fault → ⊥
none_of_faultless bytes trace (Format fault) spells none first = no_fault forms.Trace bytes trace fault spells first
none_of_faultless bytes trace fault spells none (other, also, first) =
    none fault (subst (λ t. HasFault t fault) (one_trace bytes other trace also spells) first.holds)
