-- What is wrong with the dump of one replica, and which of it comes first.
use Rattle.std.proofs.Common.{◌≡◌, ℕ, ◌<◌, ◌≤◌, ◌⊎◌, inl, inr, List, [], ◌∷◌, length, take, slice_get, get_or, Some, refl, sym, ap, subst, ◌∙◌, arith, lit<}
use Rattle.std.specs.Ordering.{nat_cmp}
use Rattle.std.specs.Cmp.Lexicographic.{slice_cmp}
use Rattle.std.specs.declared.cmp.Ordering.TheVariants.{Less}
use Rattle.std.proofs.lemmas.Bool.{cases_lt}
use Rattle.std.proofs.lemmas.Option.{slice_get_past, slice_get-get_or, same_Some}
use Rattle.vs_types.specs.Space.{Space}
use Rattle.vs_walk.specs.Dump.{Image}
use Rattle.nr_trace.specs.Recording.{Recording, IsThere}
use Rattle.nr_trace.specs.Orders.{space_from}
use Rattle.nr_trace.specs.Faults.{Earlier, rank, RestsOnMore, HasDump}
use Rattle.nr_trace.specs.declared.refusals.fault.Fault.{Fault}
use Rattle.nr_trace.specs.declared.refusals.fault.Fault.TheVariants.{PrefixPastLog, PrefixShort, MissingFrame, SharedFrame, ReservedBit, StrayFrame, Differs}
use Rattle.nr_trace.proofs.LawsOfCalls.{reply_below}
use Rattle.nr_dump.specs.Faults as dumps
use Rattle.nr_dump.specs.declared.fault.DumpFault.{DumpFault}
use Rattle.nr_dump.specs.declared.fault.DumpFault.TheVariants as of_dump
use Rattle.nr_audit.specs.inside.Search.{HasFaultOn, HasNoneFrom, IsFirstAmongFrom}
use Rattle.nr_audit.specs.inside.Passes.{IsDumpFaultAt, IsDumpFault}
use Rattle.nr_audit.specs.Dumps.{at_replica}
use Rattle.nr_audit.specs.inside.Prefixes.{AreNeeds}
use Rattle.nr_audit.proofs.Ranks.{IsRanked, none_from, first_from, lower_number}

pub dump_ranks : (trace : Recording) → IsRanked IsDumpFaultAt 9 trace
dump_ranks trace replica (PrefixPastLog at) among = (11, ap (λ i. 9 ∷ i ∷ 11 ∷ []) among)
dump_ranks trace replica (PrefixShort at) among = (12, ap (λ i. 9 ∷ i ∷ 12 ∷ []) among)
dump_ranks trace replica (MissingFrame at number) among = (13, ap (λ i. 9 ∷ i ∷ 13 ∷ []) among)
dump_ranks trace replica (SharedFrame at number) among = (14, ap (λ i. 9 ∷ i ∷ 14 ∷ []) among)
dump_ranks trace replica (ReservedBit at number index) among = (15, ap (λ i. 9 ∷ i ∷ 15 ∷ []) among)
dump_ranks trace replica (StrayFrame at number) among = (16, ap (λ i. 9 ∷ i ∷ 16 ∷ []) among)
dump_ranks trace replica (Differs at address) among = (17, ap (λ i. 9 ∷ i ∷ 17 ∷ []) among)
dump_ranks trace replica fault among = absurd among

-- the first fault of a replica, after replicas that have none, is the first of the dumps
pub first_dump_fault : (start : Space) (trace : Recording) (replica : ℕ) (fault : Fault)
    → ((lower : ℕ) → lower < replica → HasNoneFrom start (IsDumpFaultAt lower) trace)
    → IsFirstAmongFrom start (IsDumpFaultAt replica) trace fault → IsFirstAmongFrom start IsDumpFault trace fault
first_dump_fault start trace = first_from start IsDumpFaultAt 9 trace (dump_ranks trace)

-- a dump, as it is read
pub read_dump : (dumps real : List Image) (i : ℕ) (dump : Image) → dumps ≡ real → i < length real → dump ≡ get_or dumps i dump → slice_get real i ≡ Some dump
read_dump dumps real i dump same lt read =
    subst (λ (xs : List Image). slice_get xs i ≡ Some dump) same (slice_get-get_or dumps i dump (omega (arith, ap length same)) ∙ ap (λ d. Some d) (sym read))

-- where there is no dump nothing is wrong with it
no_dump_past : (trace : Recording) (replica : ℕ) (P : Image → Type 0) → length trace.dumps ≤ replica → HasDump trace replica P → ⊥
no_dump_past trace replica P past has = let none = slice_get_past trace.dumps replica past in let there = has.1 in cc

none_past : (start : Space) (trace : Recording) (replica : ℕ) → length trace.dumps ≤ replica → HasNoneFrom start (IsDumpFaultAt replica) trace
none_past start trace replica past (PrefixPastLog at) among holds = no_dump_past trace at _ (subst (λ r. length trace.dumps ≤ r) (sym among) past) holds
none_past start trace replica past (PrefixShort at) among holds = no_dump_past trace at _ (subst (λ r. length trace.dumps ≤ r) (sym among) past) holds
none_past start trace replica past (MissingFrame at frame) among holds = no_dump_past trace at _ (subst (λ r. length trace.dumps ≤ r) (sym among) past) holds
none_past start trace replica past (SharedFrame at frame) among holds = no_dump_past trace at _ (subst (λ r. length trace.dumps ≤ r) (sym among) past) holds
none_past start trace replica past (ReservedBit at frame index) among holds =
    no_dump_past trace at _ (subst (λ r. length trace.dumps ≤ r) (sym among) past) holds
none_past start trace replica past (StrayFrame at frame) among holds = no_dump_past trace at _ (subst (λ r. length trace.dumps ≤ r) (sym among) past) holds
none_past start trace replica past (Differs at address) among holds = no_dump_past trace at _ (subst (λ r. length trace.dumps ≤ r) (sym among) past) holds
none_past start trace replica past other among holds = among

-- nor with a dump that is not there
not_there : (trace : Recording) (replica : ℕ) (dump : Image) (P : Image → Type 0) → (IsThere dump → ⊥) → slice_get trace.dumps replica ≡ Some dump
    → HasDump trace replica P → ⊥
not_there trace replica dump P absent is has = absent (subst IsThere (same_Some has.0 dump (sym has.1 ∙ is)) has.2)

pub none_absent : (start : Space) (trace : Recording) (replica : ℕ) (dump : Image) → slice_get trace.dumps replica ≡ Some dump → (IsThere dump → ⊥)
    → HasNoneFrom start (IsDumpFaultAt replica) trace
none_absent start trace replica dump is absent other among holds = by_fault other among holds where
  at_other : (at : ℕ) → at ≡ replica → slice_get trace.dumps at ≡ Some dump
  at_other at same = ap (slice_get trace.dumps) same ∙ is

  by_fault : (fault : Fault) → IsDumpFaultAt replica fault → HasFaultOn start trace fault → ⊥
  by_fault (PrefixPastLog at) among holds = not_there trace at dump _ absent (at_other at among) holds
  by_fault (PrefixShort at) among holds = not_there trace at dump _ absent (at_other at among) holds
  by_fault (MissingFrame at frame) among holds = not_there trace at dump _ absent (at_other at among) holds
  by_fault (SharedFrame at frame) among holds = not_there trace at dump _ absent (at_other at among) holds
  by_fault (ReservedBit at frame index) among holds = not_there trace at dump _ absent (at_other at among) holds
  by_fault (StrayFrame at frame) among holds = not_there trace at dump _ absent (at_other at among) holds
  by_fault (Differs at address) among holds = not_there trace at dump _ absent (at_other at among) holds
  by_fault fault among holds = among

pub no_dump_fault : (start : Space) (trace : Recording) → ((lower : ℕ) → lower < length trace.dumps → HasNoneFrom start (IsDumpFaultAt lower) trace)
    → HasNoneFrom start IsDumpFault trace
no_dump_fault start trace none = none_from start IsDumpFaultAt trace (λ replica. elim (cases_lt replica (length trace.dumps)) [
  | inl low ↦ none replica low
  | inr past ↦ none_past start trace replica past
])

-- ---- one replica's faults, by number

abbrev number_of : Fault → ℕ
number_of (PrefixPastLog at) = 11
number_of (PrefixShort at) = 12
number_of (MissingFrame at number) = 13
number_of (SharedFrame at number) = 14
number_of (ReservedBit at number index) = 15
number_of (StrayFrame at number) = 16
number_of (Differs at address) = 17
number_of fault = 0

module _ (trace : Recording) (replica number : ℕ) (fault : Fault) (is : rank trace fault ≡ 9 ∷ replica ∷ number ∷ []) where
  ordered : (other : Fault) (at own : ℕ) → rank trace other ≡ 9 ∷ at ∷ own ∷ [] → at ≡ replica → Earlier trace other fault → own < number
  ordered other at own ranks same earlier =
      lower_number 9 at own replica number
      (subst (λ r. slice_cmp nat_cmp (9 ∷ at ∷ own ∷ []) r ≡ Less) is (subst (λ r. slice_cmp nat_cmp r (rank trace fault) ≡ Less) ranks earlier)) same

  lower : (other : Fault) → IsDumpFaultAt replica other → Earlier trace other fault → number_of other < number
  lower (PrefixPastLog at) among = ordered (PrefixPastLog at) at 11 refl among
  lower (PrefixShort at) among = ordered (PrefixShort at) at 12 refl among
  lower (MissingFrame at frame) among = ordered (MissingFrame at frame) at 13 refl among
  lower (SharedFrame at frame) among = ordered (SharedFrame at frame) at 14 refl among
  lower (ReservedBit at frame index) among = ordered (ReservedBit at frame index) at 15 refl among
  lower (StrayFrame at frame) among = ordered (StrayFrame at frame) at 16 refl among
  lower (Differs at address) among = ordered (Differs at address) at 17 refl among
  lower other among = absurd among

-- no fault of a dump has a lower number
none_lower : (replica : ℕ) (other : Fault) → IsDumpFaultAt replica other → number_of other < 11 → ⊥
none_lower replica (PrefixPastLog at) among lt = omega arith
none_lower replica (PrefixShort at) among lt = omega arith
none_lower replica (MissingFrame at frame) among lt = omega arith
none_lower replica (SharedFrame at frame) among lt = omega arith
none_lower replica (ReservedBit at frame index) among lt = omega arith
none_lower replica (StrayFrame at frame) among lt = omega arith
none_lower replica (Differs at address) among lt = omega arith
none_lower replica other among lt = among

one_lower : (start : Space) (trace : Recording) (replica : ℕ) (other : Fault) → (HasFaultOn start trace (PrefixPastLog replica) → ⊥)
    → IsDumpFaultAt replica other → HasFaultOn start trace other → number_of other < 12 → ⊥
one_lower start trace replica (PrefixPastLog at) none among holds lt = none (subst (λ r. HasFaultOn start trace (PrefixPastLog r)) among holds)
one_lower start trace replica (PrefixShort at) none among holds lt = omega arith
one_lower start trace replica (MissingFrame at frame) none among holds lt = omega arith
one_lower start trace replica (SharedFrame at frame) none among holds lt = omega arith
one_lower start trace replica (ReservedBit at frame index) none among holds lt = omega arith
one_lower start trace replica (StrayFrame at frame) none among holds lt = omega arith
one_lower start trace replica (Differs at address) none among holds lt = omega arith
one_lower start trace replica other none among holds lt = among

-- ---- faults of the tables

abbrev number_in : DumpFault → ℕ
number_in (of_dump.MissingFrame frame) = 13
number_in (of_dump.SharedFrame frame) = 14
number_in (of_dump.ReservedBit frame index) = 15
number_in (of_dump.StrayFrame frame) = 16
number_in (of_dump.Differs address) = 17

rank_in : (trace : Recording) (replica : ℕ) (fault : DumpFault) → rank trace (at_replica replica fault) ≡ 9 ∷ replica ∷ number_in fault ∷ []
rank_in trace replica (of_dump.MissingFrame frame) = refl
rank_in trace replica _ = refl

is_of_replica : (replica : ℕ) (fault : DumpFault) → IsDumpFaultAt replica (at_replica replica fault)
is_of_replica replica (of_dump.MissingFrame frame) = refl
is_of_replica replica _ = refl

module _ (start : Space) (trace : Recording) (replica : ℕ) (dump : Image) (is : slice_get trace.dumps replica ≡ Some dump) (there : IsThere dump) where
  -- what holds of the dump holds of the trace
  told : (fault : DumpFault) → dumps.HoldsOfDump trace.layout.depth dump (space_from start trace (take dump.applied trace.log)) fault
      → HasFaultOn start trace (at_replica replica fault)
  told (of_dump.MissingFrame frame) holds = (dump, is, there, holds)
  told _ holds = (dump, is, there, holds)

  own_dump : (at : ℕ) (other : Image) → at ≡ replica → slice_get trace.dumps at ≡ Some other → other ≡ dump
  own_dump at other same there = same_Some other dump (sym there ∙ ap (slice_get trace.dumps) same ∙ is)

  -- a fault of the replica that holds is one of its prefix, or one of the dump's
  back : (other : Fault) → IsDumpFaultAt replica other → HasFaultOn start trace other → (number_of other < 13)
      ⊎ ((fault : DumpFault) × dumps.HoldsOfDump trace.layout.depth dump (space_from start trace (take dump.applied trace.log)) fault
      × (number_in fault ≡ number_of other))
  back (PrefixPastLog at) among holds = inl (lit< tt)
  back (PrefixShort at) among holds = inl (lit< tt)
  back (MissingFrame at frame) among holds =
      inr (
        of_dump.MissingFrame frame,
        subst (λ d. dumps.HoldsOfDump trace.layout.depth d (space_from start trace (take d.applied trace.log)) (of_dump.MissingFrame frame))
            (own_dump at holds.0 among holds.1) holds.3,
        refl,
      )
  back (SharedFrame at frame) among holds =
      inr (
        of_dump.SharedFrame frame,
        subst (λ d. dumps.HoldsOfDump trace.layout.depth d (space_from start trace (take d.applied trace.log)) (of_dump.SharedFrame frame))
            (own_dump at holds.0 among holds.1) holds.3,
        refl,
      )
  back (ReservedBit at frame index) among holds =
      inr (
        of_dump.ReservedBit frame index,
        subst (λ d. dumps.HoldsOfDump trace.layout.depth d (space_from start trace (take d.applied trace.log)) (of_dump.ReservedBit frame index))
            (own_dump at holds.0 among holds.1) holds.3,
        refl,
      )
  back (StrayFrame at frame) among holds =
      inr (
        of_dump.StrayFrame frame,
        subst (λ d. dumps.HoldsOfDump trace.layout.depth d (space_from start trace (take d.applied trace.log)) (of_dump.StrayFrame frame))
            (own_dump at holds.0 among holds.1) holds.3,
        refl,
      )
  back (Differs at address) among holds =
      inr (
        of_dump.Differs address,
        subst (λ d. dumps.HoldsOfDump trace.layout.depth d (space_from start trace (take d.applied trace.log)) (of_dump.Differs address))
            (own_dump at holds.0 among holds.1) holds.3,
        refl,
      )
  back other among holds = absurd among

  past_log : HasFaultOn start trace (PrefixPastLog replica) → length trace.log < dump.applied
  past_log holds = subst (λ (d : Image). length trace.log < d.applied) (own_dump replica holds.0 refl holds.1) holds.3

  rests_on_more : HasFaultOn start trace (PrefixShort replica) → RestsOnMore trace replica dump
  rests_on_more holds = subst (λ (d : Image). RestsOnMore trace replica d) (own_dump replica holds.0 refl holds.1) holds.3

  -- a fault of a lower number comes earlier
  comes_earlier : (other fault : DumpFault) → number_in other < number_in fault
      → dumps.HoldsOfDump trace.layout.depth dump (space_from start trace (take dump.applied trace.log)) other
      → dumps.HoldsOfDump trace.layout.depth dump (space_from start trace (take dump.applied trace.log)) fault
      → dumps.rank_in_dump other < dumps.rank_in_dump fault
  comes_earlier (of_dump.MissingFrame a) (of_dump.SharedFrame b) lt f g = absurd cc
  comes_earlier (of_dump.MissingFrame a) (of_dump.ReservedBit b i) lt f g = absurd cc
  comes_earlier (of_dump.MissingFrame a) (of_dump.StrayFrame b) lt f g = lit< tt
  comes_earlier (of_dump.MissingFrame a) (of_dump.Differs b) lt f g = lit< tt
  comes_earlier (of_dump.SharedFrame a) (of_dump.ReservedBit b i) lt f g = absurd cc
  comes_earlier (of_dump.SharedFrame a) (of_dump.StrayFrame b) lt f g = lit< tt
  comes_earlier (of_dump.SharedFrame a) (of_dump.Differs b) lt f g = lit< tt
  comes_earlier (of_dump.ReservedBit a i) (of_dump.StrayFrame b) lt f g = lit< tt
  comes_earlier (of_dump.ReservedBit a i) (of_dump.Differs b) lt f g = lit< tt
  comes_earlier (of_dump.StrayFrame a) (of_dump.Differs b) lt f g = lit< tt
  comes_earlier (of_dump.Differs a) (of_dump.MissingFrame b) lt f g = absurd (omega arith)
  comes_earlier _ _ lt f g = absurd (omega arith)

  -- ---- how many entries are applied

  pub first_past_log : length trace.log < dump.applied → IsFirstAmongFrom start (IsDumpFaultAt replica) trace (PrefixPastLog replica)
  first_past_log past = record {
    is_among = refl;
    holds = (dump, is, there, past);
    none_earlier = λ other among holds earlier. none_lower replica other among (lower trace replica 11 (PrefixPastLog replica) refl other among earlier);
  }

  module _ (within : dump.applied ≤ length trace.log) where
    not_past : HasFaultOn start trace (PrefixPastLog replica) → ⊥
    not_past holds = let past = past_log holds in omega arith

    pub first_short : (needs : List ℕ) → AreNeeds trace (length trace.events) needs → dump.applied < get_or needs replica 0
        → IsFirstAmongFrom start (IsDumpFaultAt replica) trace (PrefixShort replica)
    first_short needs are short =
        let known = are.reached replica (omega arith) in
        record {
          is_among = refl;
          holds = (
            dump,
            is,
            there,
            record {
              index = known.index;
              reply = known.reply;
              is_reply = known.at.is_reply;
              made = known.at.made;
              is_made = known.at.is_made;
              here = known.at.here;
              more = let just = known.just in omega arith;
            },
          );
          none_earlier = λ other among holds earlier. one_lower start trace replica other not_past among holds
              (lower trace replica 12 (PrefixShort replica) refl other among earlier);
        }

    module _ (needs : List ℕ) (are : AreNeeds trace (length trace.events) needs) (enough : get_or needs replica 0 ≤ dump.applied) where
      not_short : HasFaultOn start trace (PrefixShort replica) → ⊥
      not_short holds =
          let rests = rests_on_more holds in
          let most = are.most replica rests.index rests.reply (record {
            below = reply_below trace rests.index rests.reply rests.is_reply;
            is_reply =
                rests.is_reply;
            made = rests.made;
            is_made = rests.is_made;
            here = rests.here;
          }) in
          let more = rests.more in
          omega arith

      no_prefix : (other : Fault) → IsDumpFaultAt replica other → HasFaultOn start trace other → number_of other < 13 → ⊥
      no_prefix (PrefixPastLog at) among holds lt = not_past (subst (λ r. HasFaultOn start trace (PrefixPastLog r)) among holds)
      no_prefix (PrefixShort at) among holds lt = not_short (subst (λ r. HasFaultOn start trace (PrefixShort r)) among holds)
      no_prefix (MissingFrame at frame) among holds lt = omega arith
      no_prefix (SharedFrame at frame) among holds lt = omega arith
      no_prefix (ReservedBit at frame index) among holds lt = omega arith
      no_prefix (StrayFrame at frame) among holds lt = omega arith
      no_prefix (Differs at address) among holds lt = omega arith
      no_prefix other among holds lt = among

      -- ---- the tables

      pub none_of_replica : dumps.HasNoFault trace.layout.depth dump (space_from start trace (take dump.applied trace.log))
          → HasNoneFrom start (IsDumpFaultAt replica) trace
      none_of_replica none other among holds = elim (back other among holds) [
        | inl low ↦ no_prefix other among holds low
        | inr there ↦ none there.0 there.1
      ]

      pub first_of_replica : (fault : DumpFault) → dumps.IsFirstOfDump trace.layout.depth dump (space_from start trace (take dump.applied trace.log)) fault
          → IsFirstAmongFrom start (IsDumpFaultAt replica) trace (at_replica replica fault)
      first_of_replica fault first = record {
        is_among = is_of_replica replica fault;
        holds = told fault first.holds;
        none_earlier = λ other among holds earlier.
            let less = lower trace replica (number_in fault) (at_replica replica fault) (rank_in trace replica fault) other among earlier in
            elim (back other among holds) [
              | inl low ↦ no_prefix other among holds low
              | inr there ↦ first.none_earlier there.0 there.1 (comes_earlier there.0 fault (let same = there.2 in omega arith) there.1 first.holds)
            ];
      }
