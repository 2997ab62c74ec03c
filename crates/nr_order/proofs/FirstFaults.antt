-- The first fault of a trace among those that need no order.
use Rattle.std.proofs.Common.{◌≡◌, ℕ, ◌+◌, ◌<◌, ◌≤◌, ◌⊎◌, inl, inr, [], ◌∷◌, length, slice_get, Option, Some, None, refl, ap, sym, ◌∙◌, subst, arith, lit<}
use Rattle.std.specs.Ordering.{nat_cmp}
use Rattle.std.specs.Cmp.Lexicographic.{slice_cmp}
use Rattle.std.specs.declared.cmp.Ordering.TheVariants.{Less}
use Rattle.std.proofs.lemmas.Bool.{cases_lt}
use Rattle.std.proofs.lemmas.Option.{same_Some, slice_get_past}
use Rattle.vs_types.specs.Space.{no_pages}
use Rattle.vs_types.specs.declared.addresses.depth.Depth.{Depth}
use Rattle.vs_plain.specs.Plain.{BoundedSpace}
use Rattle.vs_walk.specs.Dump.{Image}
use Rattle.nr_trace.specs.Recording.{Recording, IsThere}
use Rattle.nr_trace.specs.Faults.{rank, HasFault}
use Rattle.nr_trace.specs.declared.refusals.fault.Fault.{Fault}
use Rattle.nr_trace.specs.declared.refusals.fault.Fault.TheVariants.{Format, ThreadOpen, NoSuchCall, AnsweredTwice, NotAnUpdate, PlacedTwice, NotPlaced, PastLog, Early}
use Rattle.nr_trace.specs.declared.refusals.fault.Fault.TheVariants.{WrongAnswer, MissingFrame, SharedFrame, ReservedBit, StrayFrame}
use Rattle.nr_trace.specs.declared.refusals.fault.Fault.TheVariants.{StartMissing, StartShared, StartReserved, StartStray, StartBeyond, StartDiffers, Stale, Reachable}
use Rattle.nr_trace.proofs.LawsOfFaults.{earlier_parts, earlier_pass, pass}
use Rattle.nr_dump.specs.Faults as dumps
use Rattle.nr_dump.specs.declared.fault.DumpFault.{DumpFault}
use Rattle.nr_dump.specs.declared.fault.DumpFault.TheVariants as of_dump
use Rattle.nr_audit.specs.Dumps.{at_replica, IsFoundBeside}
use Rattle.nr_audit.specs.Faults.{HasFaultAfter, HasNoFaultAfter, IsFirstAfter}
use Rattle.nr_audit.specs.inside.Search.{HasNone, IsFirstAmong}
use Rattle.nr_audit.proofs.Ranks.{first_of_all, lower_number, more_of, none_of_all, IsRanked}
use Rattle.nr_order.specs.Finding.{IsFirstByItself, NeedsNoOrder}
use Rattle.nr_order.specs.inside.ByThemselves.{IsFoundAlone, IsFoundAmong, IsOfEvents, IsOfSomeTables, IsOfTables}

-- ---- events

module _ (trace : Recording) where
  event_holds : (fault : Fault) → IsOfEvents fault → HasFaultAfter None trace fault → HasFault trace fault
  event_holds (ThreadOpen index) is h = h
  event_holds (NoSuchCall index) is h = h
  event_holds (AnsweredTwice index) is h = h
  event_holds fault is h = absurd is

  event_after : (fault : Fault) → IsOfEvents fault → HasFault trace fault → HasFaultAfter None trace fault
  event_after (ThreadOpen index) is h = h
  event_after (NoSuchCall index) is h = h
  event_after (AnsweredTwice index) is h = h
  event_after fault is h = absurd is

  event_pass : (fault : Fault) → IsOfEvents fault → pass fault ≡ 2
  event_pass (ThreadOpen index) is = refl
  event_pass (NoSuchCall index) is = refl
  event_pass (AnsweredTwice index) is = refl
  event_pass fault is = absurd is

  pub first_event : (fault : Fault) → IsFirstAfter None trace fault → IsOfEvents fault → IsFirstAmong IsOfEvents trace fault
  first_event fault first is = record {
    is_among = is;
    holds = event_holds fault is first.holds;
    none_earlier = λ other among holds earlier. first.none_earlier other (event_after other among holds) earlier;
  }

  pub none_of_sound : HasNoFaultAfter None trace → HasNone IsOfEvents trace
  none_of_sound none other among holds = none other (event_after other among holds)

  module _ (empty : trace.start ≡ None) where
    no_image : {A : Type 0} (image : Image) → trace.start ≡ Some image → A
    no_image image is = absurd (let none = empty in cc)

    comes_later : (fault : Fault) → HasFaultAfter None trace fault → (IsOfEvents fault → ⊥) → 2 < pass fault
    comes_later (Format fault) h other = absurd h
    comes_later (StartMissing number) h other = no_image h.0 h.1
    comes_later (StartShared number) h other = no_image h.0 h.1
    comes_later (StartReserved number index) h other = no_image h.0 h.1
    comes_later (StartStray number) h other = no_image h.0 h.1
    comes_later (StartBeyond base) h other = no_image h.0 h.1
    comes_later (StartDiffers address) h other = no_image h.0 h.1
    comes_later (ThreadOpen index) h other = absurd (other tt)
    comes_later (NoSuchCall index) h other = absurd (other tt)
    comes_later (AnsweredTwice index) h other = absurd (other tt)
    comes_later (NotAnUpdate place) h other = lit< tt
    comes_later (PlacedTwice place) h other = lit< tt
    comes_later (NotPlaced index) h other = lit< tt
    comes_later (PastLog index) h other = lit< tt
    comes_later (Early call) h other = lit< tt
    comes_later (WrongAnswer call) h other = lit< tt
    comes_later (Stale call) h other = lit< tt
    comes_later (Reachable call) h other = lit< tt
    comes_later _ h other = lit< tt

    pub none_before : (fault : Fault) → IsFirstAfter None trace fault → (IsOfEvents fault → ⊥) → HasNone IsOfEvents trace
    none_before fault first is other among holds =
        let later = comes_later fault first.holds is in
        first.none_earlier other (event_after other among holds) (earlier_pass trace other fault (omega (arith, event_pass other among, later)))

-- ---- the tables of a dump

abbrev number_in : DumpFault → ℕ
number_in (of_dump.MissingFrame frame) = 13
number_in (of_dump.SharedFrame frame) = 14
number_in (of_dump.ReservedBit frame index) = 15
number_in (of_dump.StrayFrame frame) = 16
number_in (of_dump.Differs address) = 17

rank_in : (trace : Recording) (replica : ℕ) (fault : DumpFault) → rank trace (at_replica replica fault) ≡ 9 ∷ replica ∷ number_in fault ∷ []
rank_in trace replica (of_dump.MissingFrame frame) = refl
rank_in trace replica _ = refl

-- beside no pages, whatever is known of them
pub beside_empty : (depth given : Depth) (limit : ℕ) (dump : Image) (space : BoundedSpace) (found : Option DumpFault)
    → space ≡ record { depth = given; limit = limit; space = no_pages } → given ≡ depth → IsFoundBeside dump space found
    → IsFoundBeside dump (record { depth = depth; limit = limit; space = no_pages }) found
beside_empty depth given limit dump space found is same beside =
    subst (λ (s : BoundedSpace). IsFoundBeside dump s found)
    (is ∙ ap (λ (d : Depth). let empty : BoundedSpace = record { depth = d; limit = limit; space = no_pages } in empty) same) beside

-- what is found beside no pages
pub found_alone : (depth : Depth) (dump : Image) → dumps.HasNoFault depth dump no_pages → IsFoundAlone depth dump None
found_alone depth dump none = λ fault less holds. none fault holds

pub found_differs : (depth : Depth) (dump : Image) (address : ℕ) → dumps.IsFirstOfDump depth dump no_pages (of_dump.Differs address)
    → IsFoundAlone depth dump None
found_differs depth dump address first = λ fault less holds. first.none_earlier fault holds less

pub found_fault : (depth : Depth) (dump : Image) (fault : DumpFault) → ((address : ℕ) → fault ≡ of_dump.Differs address → ⊥)
    → dumps.IsFirstOfDump depth dump no_pages fault → IsFoundAlone depth dump (Some fault)
found_fault depth dump (of_dump.MissingFrame frame) other first = (lit< tt, first)
found_fault depth dump (of_dump.SharedFrame frame) other first = (lit< tt, first)
found_fault depth dump (of_dump.ReservedBit frame index) other first = (lit< tt, first)
found_fault depth dump (of_dump.StrayFrame frame) other first = (lit< tt, first)
found_fault depth dump (of_dump.Differs address) other first = absurd (other address refl)

-- a fault of a lower number comes earlier
comes_earlier : (depth : Depth) (dump : Image) (other fault : DumpFault) → number_in other < number_in fault
    → dumps.HoldsOfDump depth dump no_pages other → dumps.HoldsOfDump depth dump no_pages fault → dumps.rank_in_dump other < dumps.rank_in_dump fault
comes_earlier depth dump (of_dump.MissingFrame a) (of_dump.SharedFrame b) lt f g = absurd cc
comes_earlier depth dump (of_dump.MissingFrame a) (of_dump.ReservedBit b i) lt f g = absurd cc
comes_earlier depth dump (of_dump.MissingFrame a) (of_dump.StrayFrame b) lt f g = lit< tt
comes_earlier depth dump (of_dump.MissingFrame a) (of_dump.Differs b) lt f g = lit< tt
comes_earlier depth dump (of_dump.SharedFrame a) (of_dump.ReservedBit b i) lt f g = absurd cc
comes_earlier depth dump (of_dump.SharedFrame a) (of_dump.StrayFrame b) lt f g = lit< tt
comes_earlier depth dump (of_dump.SharedFrame a) (of_dump.Differs b) lt f g = lit< tt
comes_earlier depth dump (of_dump.ReservedBit a i) (of_dump.StrayFrame b) lt f g = lit< tt
comes_earlier depth dump (of_dump.ReservedBit a i) (of_dump.Differs b) lt f g = lit< tt
comes_earlier depth dump (of_dump.StrayFrame a) (of_dump.Differs b) lt f g = lit< tt
comes_earlier depth dump (of_dump.Differs a) (of_dump.MissingFrame b) lt f g = absurd (omega arith)
comes_earlier depth dump _ _ lt f g = absurd (omega arith)

module _ (trace : Recording) (replica : ℕ) where
  -- a fault of the tables is one of the dump that is there
  record OfDump (fault : Fault) : Type 0 where
    dump : Image
    is : slice_get trace.dumps replica ≡ Some dump
    there : IsThere dump
    own : DumpFault
    holds : dumps.HoldsOfDump trace.layout.depth dump no_pages own
    named : fault ≡ at_replica replica own
    low : dumps.rank_in_dump own < 3

  of_tables : (fault : Fault) → IsOfTables replica fault → HasFault trace fault → OfDump fault
  of_tables (MissingFrame at number) same (dump, is, there, holds) = record {
    dump = dump;
    is = ap (slice_get trace.dumps) (sym same) ∙ is;
    there = there;
    own = of_dump.MissingFrame number;
    holds = holds;
    named = ap (λ r. MissingFrame r number) same;
    low = lit< tt;
  }
  of_tables (SharedFrame at number) same (dump, is, there, holds) = record {
    dump = dump;
    is = ap (slice_get trace.dumps) (sym same) ∙ is;
    there = there;
    own = of_dump.SharedFrame number;
    holds = holds;
    named = ap (λ r. SharedFrame r number) same;
    low = lit< tt;
  }
  of_tables (ReservedBit at number index) same (dump, is, there, holds) = record {
    dump = dump;
    is = ap (slice_get trace.dumps) (sym same) ∙ is;
    there = there;
    own = of_dump.ReservedBit number index;
    holds = holds;
    named = ap (λ r. ReservedBit r number index) same;
    low = lit< tt;
  }
  of_tables (StrayFrame at number) same (dump, is, there, holds) = record {
    dump = dump;
    is = ap (slice_get trace.dumps) (sym same) ∙ is;
    there = there;
    own = of_dump.StrayFrame number;
    holds = holds;
    named = ap (λ r. StrayFrame r number) same;
    low = lit< tt;
  }
  of_tables fault same h = absurd same

  pub none_past : slice_get trace.dumps replica ≡ None → HasNone (IsOfTables replica) trace
  none_past none fault among holds = let of = of_tables fault among holds in let is = of.is in cc

  module _ (dump : Image) (is : slice_get trace.dumps replica ≡ Some dump) where
    pub none_absent : (IsThere dump → ⊥) → HasNone (IsOfTables replica) trace
    none_absent absent fault among holds =
        let of = of_tables fault among holds in
        absent (subst IsThere (same_Some of.dump dump (sym of.is ∙ is)) of.there)

    held : (fault : Fault) (of : OfDump fault) → dumps.HoldsOfDump trace.layout.depth dump no_pages of.own
    held fault of = subst (λ d. dumps.HoldsOfDump trace.layout.depth d no_pages of.own) (same_Some of.dump dump (sym of.is ∙ is)) of.holds

    pub none_found : IsFoundAlone trace.layout.depth dump None → HasNone (IsOfTables replica) trace
    none_found none fault among holds = let of = of_tables fault among holds in none of.own of.low (held fault of)

    told : (fault : DumpFault) → IsThere dump → dumps.rank_in_dump fault < 3 → dumps.HoldsOfDump trace.layout.depth dump no_pages fault
        → IsOfTables replica (at_replica replica fault) × HasFault trace (at_replica replica fault)
    told (of_dump.MissingFrame frame) there low holds = (refl, (dump, is, there, holds))
    told (of_dump.SharedFrame frame) there low holds = (refl, (dump, is, there, holds))
    told (of_dump.ReservedBit frame index) there low holds = (refl, (dump, is, there, holds))
    told (of_dump.StrayFrame frame) there low holds = (refl, (dump, is, there, holds))
    told (of_dump.Differs address) there low holds = absurd (omega arith)

    pub first_found : (fault : DumpFault) → IsThere dump → IsFoundAlone trace.layout.depth dump (Some fault)
        → IsFirstAmong (IsOfTables replica) trace (at_replica replica fault)
    first_found fault there (low, first) =
        let both = told fault there low first.holds in
        record {
          is_among = both.0;
          holds = both.1;
          none_earlier = λ other among holds earlier.
              let of = of_tables other among holds in
              let ranks : slice_cmp nat_cmp (9 ∷ replica ∷ number_in of.own ∷ []) (9 ∷ replica ∷ number_in fault ∷ []) ≡ Less =
              subst (λ r. slice_cmp nat_cmp (9 ∷ replica ∷ number_in of.own ∷ []) r ≡ Less) (rank_in trace replica fault)
              (subst (λ r. slice_cmp nat_cmp r (rank trace (at_replica replica fault)) ≡ Less)
              (ap (rank trace) of.named ∙ rank_in trace replica of.own) earlier) in
              let less = lower_number 9 replica (number_in of.own) replica (number_in fault) ranks refl in
              first.none_earlier of.own (held other of)
              (comes_earlier trace.layout.depth dump of.own fault less (held other of) first.holds);
        }

-- ---- all dumps

table_ranks : (trace : Recording) → IsRanked IsOfTables 9 trace
table_ranks trace replica (MissingFrame at number) among = (13, ap (λ i. 9 ∷ i ∷ 13 ∷ []) among)
table_ranks trace replica (SharedFrame at number) among = (14, ap (λ i. 9 ∷ i ∷ 14 ∷ []) among)
table_ranks trace replica (ReservedBit at number index) among = (15, ap (λ i. 9 ∷ i ∷ 15 ∷ []) among)
table_ranks trace replica (StrayFrame at number) among = (16, ap (λ i. 9 ∷ i ∷ 16 ∷ []) among)
table_ranks trace replica fault among = absurd among

pub first_of_replica : (trace : Recording) (replica : ℕ) (fault : Fault) → ((lower : ℕ) → lower < replica → HasNone (IsOfTables lower) trace)
    → IsFirstAmong (IsOfTables replica) trace fault → IsFirstAmong IsOfSomeTables trace fault
first_of_replica trace replica fault = first_of_all IsOfTables 9 trace (table_ranks trace) replica fault

pub more_replicas : (trace : Recording) (replica : ℕ) → ((lower : ℕ) → lower < replica → HasNone (IsOfTables lower) trace)
    → HasNone (IsOfTables replica) trace → (lower : ℕ) → lower < replica + 1 → HasNone (IsOfTables lower) trace
more_replicas trace = more_of IsOfTables trace

pub none_of_replicas : (trace : Recording) (n : ℕ) → length trace.dumps ≤ n → ((lower : ℕ) → lower < n → HasNone (IsOfTables lower) trace)
    → HasNone IsOfSomeTables trace
none_of_replicas trace n few none = none_of_all IsOfTables trace (λ replica. elim (cases_lt replica n) [
  | inl low ↦ none replica low
  | inr past ↦ none_past trace replica (slice_get_past trace.dumps replica (omega (arith, few, past)))
])

-- ---- both

split : (fault : Fault) → NeedsNoOrder fault → IsOfEvents fault ⊎ IsOfSomeTables fault
split (ThreadOpen index) needs = inl tt
split (NoSuchCall index) needs = inl tt
split (AnsweredTwice index) needs = inl tt
split (MissingFrame replica number) needs = inr (replica, refl)
split (SharedFrame replica number) needs = inr (replica, refl)
split (ReservedBit replica number index) needs = inr (replica, refl)
split (StrayFrame replica number) needs = inr (replica, refl)
split fault needs = absurd needs

of_events : (fault : Fault) → IsOfEvents fault → NeedsNoOrder fault
of_events (ThreadOpen index) is = tt
of_events (NoSuchCall index) is = tt
of_events (AnsweredTwice index) is = tt
of_events fault is = absurd is

of_some : (fault : Fault) → IsOfSomeTables fault → NeedsNoOrder fault
of_some (MissingFrame replica number) is = tt
of_some (SharedFrame replica number) is = tt
of_some (ReservedBit replica number index) is = tt
of_some (StrayFrame replica number) is = tt
of_some fault is = absurd is.1

table_pass : (fault : Fault) → IsOfSomeTables fault → pass fault ≡ 9
table_pass (MissingFrame replica number) is = refl
table_pass (SharedFrame replica number) is = refl
table_pass (ReservedBit replica number index) is = refl
table_pass (StrayFrame replica number) is = refl
table_pass fault is = absurd is.1

module _ (trace : Recording) where
  pub first_by_event : (fault : Fault) → IsFirstAmong IsOfEvents trace fault → IsFoundAmong NeedsNoOrder trace (Some fault)
  first_by_event fault first = record {
    is_among = of_events fault first.is_among;
    holds = first.holds;
    none_earlier = λ other needs holds earlier. elim (split other needs) [
      | inl is ↦ first.none_earlier other is holds earlier
      | inr is ↦ elim (earlier_parts trace other fault earlier) [
        | inl low ↦ absurd (omega (arith, low, table_pass other is, event_pass trace fault first.is_among))
        | inr rest ↦ elim rest [
          | inl same ↦ (let pass_is = same.0 in absurd (omega (arith, pass_is, table_pass other is, event_pass trace fault first.is_among)))
          | inr same ↦ (let pass_is = same.0 in absurd (omega (arith, pass_is, table_pass other is, event_pass trace fault first.is_among)))
        ]
      ]
    ];
  }

  pub found_behind : HasNone IsOfEvents trace → (found : Option Fault) → IsFoundAmong IsOfSomeTables trace found → IsFoundAmong NeedsNoOrder trace found
  found_behind none None tables = λ other needs holds. elim (split other needs) [
    | inl is ↦ none other is holds
    | inr is ↦ tables other is holds
  ]
  found_behind none (Some fault) first = record {
    is_among = of_some fault first.is_among;
    holds = first.holds;
    none_earlier = λ other needs holds earlier. elim (split other needs) [
      | inl is ↦ none other is holds
      | inr is ↦ first.none_earlier other is holds earlier
    ];
  }

  pub first_alone : (fault : Fault) → IsFirstAmong NeedsNoOrder trace fault → IsFirstByItself trace fault
  first_alone fault first = record { needs_none = first.is_among; holds = first.holds; none_earlier = first.none_earlier }
