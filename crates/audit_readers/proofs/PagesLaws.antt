-- What is printed of the pages of a chain is one thing, and parts with equal ends are one chain.
use Rattle.std.proofs.Common.{◌≡◌, ℕ, ◌++◌, inl, inr, Bool, List, [], ◌∷◌, length, Option, Some, None, sym, ap, ap₂, ◌∙◌, subst}
use Rattle.vs_types.specs.Config.{Layout}
use Rattle.vs_types.specs.Space.{pages, IsSpace}
use Rattle.nr_trace.specs.Recording.{Recording}
use Rattle.nr_audit.specs.Met.{no_totals}
use Rattle.nr_audit.specs.Start.{first_space}
use Rattle.nr_trace.specs.declared.refusals.fault.Fault.{Fault}
use Rattle.nr_audit.proofs.FirstFaults.{one_first_after}
use Rattle.vs_types.specs.Space.{Space}
use Rattle.nr_trace.specs.Orders.{space_from}
use Rattle.nr_trace.specs.Run.{Run, end_of, IsOrderly}
use Rattle.nr_trace.proofs.Orderly.{space_of_both}
use Rattle.nr_audit.specs.Segments.{run_after}
use Rattle.std.proofs.lemmas.Option.{same_Some}
use Rattle.nr_chain.specs.Bytes.{layout_before, BeginsWith, GoesOnSo}
use Rattle.nr_chain.specs.Headline.{IsRightChain}
use Rattle.nr_chain.specs.Parts.{run_behind, MayFollow, SpellUpTo}
use Rattle.nr_chain.proofs.ByteParts.{comes_as_one, comes_orderly, goes_on_as_one}
use Rattle.nr_chain.proofs.Exact.{ends_or_sound, found_once}
use Rattle.nr_chain.proofs.FoundChains.{right_chain}
use Rattle.nr_chain.proofs.OneChain.{begins_some, one_front}
use Rattle.nr_chain.proofs.Restarts.{begins_in}
use Rattle.audit_texts.specs.Listing.{pages_text}
use Rattle.audit_texts.proofs.Texts.{equal_spaces}
use Rattle.audit_readers.specs.ChainAudit.{IsChainAudit}
use Rattle.audit_readers.specs.ChainPages.{IsChainEnd, IsChainStart, IsSettledBefore, ShowsEnd, ShowsStart, TellsFault}
use Rattle.audit_texts.specs.ChainText.{end_lines, quiet_lines}

abbrev Same : List ℕ → List ℕ → ℕ → ℕ → Type 0
Same text other status same = (text ≡ other) × (status ≡ same)

-- ---- one text

same_faults : (orders others : List (List ℕ)) (bytes text other : List ℕ) (status same : ℕ) → TellsFault orders bytes text status
    → TellsFault others bytes other same → Same text other status same
same_faults orders others bytes text other status same a b =
    let one = found_once one_first_after None bytes orders others (Some a.fault) (Some b.fault) a.goes_on b.goes_on in
    let count : length orders ≡ length others = ap (λ (os : List (List ℕ)). length os) one.0 in
    (a.text_is ∙ ap₂ (λ (n : ℕ) (f : Option Fault). end_lines n f) count one.1 ∙ sym b.text_is, a.status_is ∙ sym b.status_is)

pub one_start : (as_ranges : Bool) (bytes text other : List ℕ) (status same : ℕ) → IsChainStart as_ranges bytes text status
    → IsChainStart as_ranges bytes other same → Same text other status same
one_start as_ranges bytes text other status same (inl a) (inl b) =
    let one = one_front None bytes a.first b.first a.rest b.rest a.begins b.begins in
    (a.text_is ∙ ap (λ (s : Recording). pages_text as_ranges (pages (first_space None s))) one.1 ∙ sym b.text_is, a.status_is ∙ sym b.status_is)
one_start as_ranges bytes text other status same (inl a) (inr b) =
    absurd (ends_or_sound None bytes (Some b.fault) a.first a.rest b.goes_on a.begins a.sound)
one_start as_ranges bytes text other status same (inr a) (inl b) =
    absurd (ends_or_sound None bytes (Some a.fault) b.first b.rest a.goes_on b.begins b.sound)
one_start as_ranges bytes text other status same (inr a) (inr b) = same_faults [] [] bytes text other status same a b

-- bytes come to one thing
comes_once : (kept : Option Run) (bytes : List ℕ) (first second : List Recording) (a b : Run) → SpellUpTo kept bytes first a → SpellUpTo kept bytes second b
    → a ≡ b
comes_once kept bytes [] [] a b (none, is) (none_too, is_too) = let same : Some a ≡ Some b = sym is ∙ is_too in cc
comes_once kept bytes [] (segment ∷ more) a b (none, is) (rest, begins, next) = absurd (begins_some (layout_before kept) bytes segment rest begins none)
comes_once kept bytes (segment ∷ more) [] a b (rest, begins, next) (none, is) = absurd (begins_some (layout_before kept) bytes segment rest begins none)
comes_once kept bytes (segment ∷ more) (other ∷ others) a b (rest, begins, next) (last, starts, next_too) =
    let one = one_front (layout_before kept) bytes segment other rest last begins starts in
    comes_once (Some (run_after kept segment)) rest more others a b next
    (subst (λ (bs : List ℕ). SpellUpTo (Some (run_after kept segment)) bs others b) (sym one.0)
    (subst (λ (s : Recording). SpellUpTo (Some (run_after kept s)) last others b) (sym one.1) next_too))

well_or_not : (bytes : List ℕ) (orders others : List (List ℕ)) (fault : Fault) → GoesOnSo None bytes orders None
    → GoesOnSo None bytes others (Some fault) → ⊥
well_or_not bytes orders others fault well not_well =
    let one = found_once one_first_after None bytes orders others None (Some fault) well not_well in
    let wrong : None ≡ Some fault = one.1 in cc

pub one_end : (as_ranges : Bool) (bytes text other : List ℕ) (status same : ℕ) → IsChainEnd as_ranges bytes text status
    → IsChainEnd as_ranges bytes other same → Same text other status same
one_end as_ranges bytes text other status same (inl a) (inl b) =
    let one : a.last ≡ b.last = comes_once None bytes a.comes.0 b.comes.0 a.last b.last a.comes.1 b.comes.1 in
    (a.text_is ∙ ap (λ (r : Run). pages_text as_ranges (pages (end_of r))) one ∙ sym b.text_is, a.status_is ∙ sym b.status_is)
one_end as_ranges bytes text other status same (inl a) (inr (orders, b)) = absurd (well_or_not bytes a.orders orders b.fault a.goes_on b.goes_on)
one_end as_ranges bytes text other status same (inr (orders, a)) (inl b) = absurd (well_or_not bytes b.orders orders a.fault b.goes_on a.goes_on)
one_end as_ranges bytes text other status same (inr (orders, a)) (inr (others, b)) = same_faults orders others bytes text other status same a b

-- ---- parts

-- a run begins in the space of this segment's start, and is laid out as that
record BeginsIn (first : Recording) (run : Run) : Type 0 where
  start : run.start ≡ first_space None first
  layout : run.trace.layout ≡ first.layout

begins_still : (first : Recording) (run last : Run) (bytes : List ℕ) (segments : List Recording) → BeginsIn first run → SpellUpTo (Some run) bytes segments last
    → BeginsIn first last
begins_still first run last bytes [] begun (none, is) = subst (BeginsIn first) (same_Some run last is) begun
begins_still first run last bytes (segment ∷ more) begun (rest, begins, next) =
    begins_still first (run_after (Some run) segment) last rest more (record { start = begun.start; layout = begun.layout }) next

begun_in : (bytes : List ℕ) (first : Recording) (rest : List ℕ) → BeginsWith None bytes first rest → (segments : List Recording) (last : Run)
    → SpellUpTo None bytes segments last → BeginsIn first last
begun_in bytes first rest begins [] last (none, is) = absurd (let wrong : None ≡ Some last = is in cc)
begun_in bytes first rest begins (segment ∷ more) last (behind, starts, next) =
    let one = (one_front None bytes segment first behind rest starts begins).1 in
    begins_still first (run_after None segment) last behind more (record {
      start = ap (first_space None) one;
      layout = ap (λ (r : Recording). r.layout) one;
    }) next

pub same_ends : (as_ranges : Bool) (front back text : List ℕ) (status same : ℕ) (end : ShowsEnd as_ranges front text status)
    (start : ShowsStart as_ranges back text same) → start.first.layout ≡ end.last.trace.layout → end_of end.last ≡ first_space None start.first
same_ends as_ranges front back text status same end start layout =
    let own = (begins_in start.first start.begins.spelled.in_range start.sound).0 in
    let there : IsSpace end.last.trace.layout.depth (first_space None start.first) =
    subst (λ (l : Layout). IsSpace l.depth (first_space None start.first)) layout own in
    equal_spaces as_ranges end.last.trace.layout.depth (end_of end.last) (first_space None start.first) end.is_space there (sym end.text_is ∙ start.text_is)

module _ (as_ranges : Bool) (front back text : List ℕ) (status same : ℕ) (end : ShowsEnd as_ranges front text status)
    (start : ShowsStart as_ranges back text same) (layout : start.first.layout ≡ end.last.trace.layout) (settled : IsSettledBefore end.last back) where
  follows : MayFollow end.last back
  follows = record {
    first = start.first;
    rest = start.rest;
    begins = start.begins;
    layout = layout;
    pages = sym (same_ends as_ranges front back text status same end start layout);
    settled = settled;
  }

  -- the front comes to an orderly run
  orderly : IsOrderly end.last.trace
  orderly = comes_orderly None front end.orders end.comes.0 end.last tt end.goes_on end.comes.1

  pub as_one : (others : List (List ℕ)) → GoesOnSo None back others None → GoesOnSo None (front ++ back) (end.orders ++ others) None
  as_one others behind = goes_on_as_one end.last orderly back follows None front end.orders others end.comes.0 end.goes_on end.comes.1 behind

  pub right_as_one : (others : List (List ℕ)) → GoesOnSo None back others None → IsRightChain (front ++ back) (end.orders ++ others)
  right_as_one others behind = right_chain (front ++ back) (end.orders ++ others) (as_one others behind)

  pub ends_as_one : (last : List ℕ) → ShowsEnd as_ranges back last 0 → ShowsEnd as_ranges (front ++ back) last 0
  ends_as_one last behind = record {
    orders = end.orders ++ behind.orders;
    goes_on = as_one behind.orders behind.goes_on;
    right = right_as_one behind.orders behind.goes_on;
    last = run_behind end.last behind.last;
    comes = comes_as_one end.last back follows None front end.comes.0 behind.last end.comes.1 behind.comes;
    is_space =
        let is : IsSpace end.last.trace.layout.depth (end_of behind.last) =
        subst (λ (l : Layout). IsSpace l.depth (end_of behind.last)) (begun.layout ∙ layout) behind.is_space in
        subst (IsSpace end.last.trace.layout.depth) (sym same_end) is;
    text_is = behind.text_is ∙ ap (λ (s : Space). pages_text as_ranges (pages s)) (sym same_end);
    status_is = behind.status_is;
  } where
    begun : BeginsIn start.first behind.last
    begun = begun_in back start.first start.rest start.begins behind.comes.0 behind.last behind.comes.1

    -- the whole ends as the second does
    same_end : end_of (run_behind end.last behind.last) ≡ end_of behind.last
    same_end =
        space_of_both end.last.start end.last.trace behind.last.trace (begun.layout ∙ layout) orderly
        ∙ ap (λ (s : Space). space_from s behind.last.trace behind.last.trace.log)
        (same_ends as_ranges front back text status same end start layout ∙ sym begun.start)

-- ---- a chain that is refused

pub told_as_audited : (orders : List (List ℕ)) (bytes text : List ℕ) (status least : ℕ) → TellsFault orders bytes text status
    → IsChainAudit quiet_lines least bytes text status
told_as_audited orders bytes text status least tells = record {
  orders = orders;
  found = Some tells.fault;
  goes_on = tells.goes_on;
  right = λ none. absurd (let wrong : Some tells.fault ≡ None = none in cc);
  totals = no_totals;
  counted = λ counts none. absurd (let wrong : Some tells.fault ≡ None = none in cc);
  text_is = tells.text_is;
  status_is = tells.status_is;
}
