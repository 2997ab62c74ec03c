-- A chain of which some segments are right, as far as it has come.
use Rattle.std.proofs.Common.{◌≡◌, ◌≤◌, ◌<◌, ℕ, ◌+◌, ◌++◌, ◌⊎◌, inl, inr, true, false, is_some, List, [], ◌∷◌, length, take, drop, append_assoc, append-nil, Option}
use Rattle.std.proofs.Common.{Some, None, Result, Ok, Err, IfErr, refl, sym, ap, ◌∙◌, subst, arith}
use Rattle.std.specs.Result.{IsErrAnd}
use Rattle.std.specs.Io.KnownBytes.{Appends}
use Rattle.std.proofs.KnownBytes.{Appends-nil, Appends-trans}
use Rattle.std.proofs.lemmas.List.{length-append, length-drop, take-append-drop}
use Rattle.nr_trace.specs.declared.refusals.fault.Fault.TheVariants.{Format}
use Rattle.nr_trace.specs.declared.refusals.fault.Format.TheVariants.{Truncated}
use Rattle.nr_trace.specs.declared.formats.version.Form.TheVariants as forms
use Rattle.nr_trace.specs.declared.refusals.fault.Fault.{Fault}
use Rattle.nr_trace.specs.Run.{Run}
use Rattle.nr_audit.specs.Met.{totals_with}
use Rattle.nr_audit.specs.Segments.{run_after}
use Rattle.nr_audit.specs.declared.histories.met.Met.{Met}
use Rattle.nr_audit.specs.declared.histories.met.Totals.{Totals}
use Rattle.nr_chain.specs.Fed.{ChainFed, IsKeptOf}
use Rattle.nr_chain.specs.Bytes.{layout_before, EndsWith, GoesOnSo}
use Rattle.nr_chain.specs.Verdict.{FeedsChain, LastsNext}
use Rattle.nr_chain.specs.declared.chain.Step.TheVariants as steps
use Rattle.nr_chain.proofs.Ends.{ends_first, none_is_short}
use Rattle.audit_readers.specs.declared.fault.ProgFault.{ProgFault}
use Rattle.audit_readers.specs.declared.fault.ProgFault.TheVariants.{CannotWrite, Memory}
use Rattle.audit_readers.specs.ChainAudit.{AreRightYet, CountsTo}
use Rattle.audit_texts.specs.ChainText.{lines_of, shown_lines}
use Rattle.audit_readers.specs.inside.Going.{totals_if, GoesOnTo, Grows, IsShort, IsUnderWay, TakesBlock, TakesSegments, TakesSome}
use Rattle.audit_readers.specs.declared.chain.audit.Taken.TheVariants.{More, Wrong}
use Rattle.audit_texts.specs.declared.chain.style.Style.{Style}
use Rattle.audit_readers.proofs.Lines.{none_shown, one_shown, shown_lines-append}

-- ---- right segments

-- bytes that come behind
pub extend : (old new : Option Totals) (kept last : Option Run) (bytes rest left : List ℕ) (orders : List (List ℕ))
    → GoesOnTo kept bytes orders last rest old new → GoesOnTo kept (bytes ++ left) orders last (rest ++ left) old new
extend old new kept last bytes rest left [] (same, is, totals) = (same, ap (λ (l : List ℕ). l ++ left) is, totals)
extend old new kept last bytes rest left (order ∷ more) (segment, behind, begins, sound, recorded, met, counted, has, next) = (
  segment,
  behind ++ left,
  record {
    own = begins.own;
    is = ap (λ (l : List ℕ). l ++ left) begins.is ∙ append_assoc begins.own behind left;
    spelled = begins.spelled;
  },
  sound,
  recorded,
  met,
  counted,
  has,
  extend (totals_if old order met) new (Some (run_after kept segment)) last behind rest left more next,
)

-- segments, and then more of them
pub through : (old between new : Option Totals) (kept middle last : Option Run) (bytes rest end : List ℕ) (orders more : List (List ℕ))
    → GoesOnTo kept bytes orders middle rest old between → GoesOnTo middle rest more last end between new
    → GoesOnTo kept bytes (orders ++ more) last end old new
through old between new kept middle last bytes rest end [] more (same, is, totals) next =
    subst (λ (t : Option Totals). GoesOnTo kept bytes more last end t new) totals
    (subst (λ (k : Option Run). GoesOnTo k bytes more last end between new) same
    (subst (λ (l : List ℕ). GoesOnTo middle l more last end between new) is next))
through old between new kept middle last bytes rest end (order ∷ orders) more (segment, behind, begins, sound, recorded, met, counted, has, first) next = (
  segment,
  behind,
  begins,
  sound,
  recorded,
  met,
  counted,
  has,
  through (totals_if old order met) between new (Some (run_after kept segment)) middle last behind rest end orders more first next,
)

-- and the end of the chain
pub ended : (old new : Option Totals) (kept last : Option Run) (bytes rest : List ℕ) (orders : List (List ℕ)) (found : Option Fault)
    → GoesOnTo kept bytes orders last rest old new → EndsWith last rest found → GoesOnSo kept bytes orders found
ended old new kept last bytes rest [] found (same, is, totals) ends =
    subst (λ (k : Option Run). EndsWith k bytes found) same (subst (λ (l : List ℕ). EndsWith last l found) is ends)
ended old new kept last bytes rest (order ∷ orders) found (segment, behind, begins, sound, recorded, met, counted, has, next) ends =
    (segment, behind, begins, sound, recorded, ended (totals_if old order met) new (Some (run_after kept segment)) last behind rest orders found next ends)

-- the front of the bytes, which is of these segments alone
pub front_of : (old new : Option Totals) (kept last : Option Run) (bytes rest : List ℕ) (orders : List (List ℕ))
    → GoesOnTo kept bytes orders last rest old new
    → (front : List ℕ) × (bytes ≡ front ++ rest) × GoesOnTo kept front orders last [] old new
front_of old new kept last bytes rest [] (same, is, totals) = ([], sym is, (same, refl, totals))
front_of old new kept last bytes rest (order ∷ orders) (segment, behind, begins, sound, recorded, met, counted, has, next) =
    let (front, is, goes_on) = front_of (totals_if old order met) new (Some (run_after kept segment)) last behind rest orders next in (
      begins.own ++ front,
      begins.is ∙ ap (λ (l : List ℕ). begins.own ++ l) is ∙ sym (append_assoc begins.own front rest),
      (segment, front, record { own = begins.own; is = refl; spelled = begins.spelled }, sound, recorded, met, counted, has, goes_on),
    )

-- ---- what is counted

-- totals stay, and so do none
pub still_counted : (old new : Option Totals) (kept last : Option Run) (bytes rest : List ℕ) (orders : List (List ℕ))
    → GoesOnTo kept bytes orders last rest old new → is_some new ≡ is_some old
still_counted old new kept last bytes rest [] (same, is, totals) = ap is_some totals
still_counted old new kept last bytes rest (order ∷ orders) (segment, behind, begins, sound, recorded, met, counted, has, next) =
    still_counted (totals_if old order met) new (Some (run_after kept segment)) last behind rest orders next ∙ both old met has where
      both : (totals : Option Totals) (one : Option Met) → is_some one ≡ is_some totals → is_some (totals_if totals order one) ≡ is_some totals
      both None one e = refl
      both (Some totals) None e = e
      both (Some totals) (Some one) e = refl

-- the totals at the end, of those at the beginning
pub counts_to : (new : Option Totals) (kept last : Option Run) (bytes rest : List ℕ) (orders : List (List ℕ)) (begun : Totals)
    → GoesOnTo kept bytes orders last rest (Some begun) new → (totals : Totals) × (new ≡ Some totals) × CountsTo kept bytes orders begun totals
counts_to new kept last bytes rest [] begun (same, is, totals) = (begun, totals, refl)
counts_to new kept last bytes rest (order ∷ orders) begun (segment, behind, begins, sound, recorded, None, counted, has, next) =
    absurd (let wrong : false ≡ true = has in cc)
counts_to new kept last bytes rest (order ∷ orders) begun (segment, behind, begins, sound, recorded, Some met, counted, has, next) =
    let (totals, is, more) = counts_to new (Some (run_after kept segment)) last behind rest orders (totals_with begun order met) next in
    (totals, is, (segment, behind, begins, met, counted, more))

-- ---- nothing is wrong yet

pub none_short : (kept : Option Run) → IsShort kept []
none_short kept = none_is_short (forms.Segment (layout_before kept))

pub ends_yet : (last : Option Run) (rest : List ℕ) → IsShort last rest
    → (found : Option Fault) × EndsWith last rest found × ((found ≡ None) ⊎ (found ≡ Some (Format Truncated)))
ends_yet None rest short = (Some (Format Truncated), short, inr refl)
ends_yet (Some kept) [] short = (None, refl, inl refl)
ends_yet (Some kept) (x ∷ rest) short = (Some (Format Truncated), short, inr refl)

pub right_yet : (old new : Option Totals) (last : Option Run) (bytes rest : List ℕ) (orders : List (List ℕ))
    → GoesOnTo None bytes orders last rest old new → IsShort last rest → AreRightYet bytes orders
right_yet old new last bytes rest orders goes_on short =
    let (found, ends, early) = ends_yet last rest short in
    (found, ended old new None last bytes rest orders found goes_on ends, early)

-- ---- a fault, whatever comes behind

nothing_left : (front behind : List ℕ) → front ++ behind ≡ [] → front ≡ []
nothing_left [] behind e = refl
nothing_left (x ∷ front) behind e = cc

pub lasting : (old new : Option Totals) (last : Option Run) (bytes rest left : List ℕ) (orders : List (List ℕ)) (fault : Fault)
    → GoesOnTo None bytes orders last rest old new → LastsNext last rest fault → (rest ≡ [] → ⊥) → GoesOnSo None (bytes ++ left) orders (Some fault)
lasting old new last bytes rest left orders fault goes_on lasts some =
    ended old new None last (bytes ++ left) (rest ++ left) orders (Some fault) (extend old new None last bytes rest left orders goes_on)
    (ends_first last (rest ++ left) fault (λ kept none. some (nothing_left rest left none)) (lasts left))

-- ---- a block

pub block_begins : (run : Option Run) (style : Style) (old : ChainFed) (number : ℕ) (block : List ℕ) (known : Option (List ℕ)) {totals : Option Totals}
    → IsKeptOf run old.kept → IsShort run old.bytes → IsUnderWay run style old number block old number block known known totals totals
block_begins run style old number block known kept short = record {
  last = run;
  kept = kept;
  taken = record {
    orders = [];
    goes_on = (refl, refl, refl);
    counted = omega arith;
    written = subst (Appends known known) (sym (none_shown style number)) (Appends-nil known);
  };
  short = short;
  few = omega arith;
}

-- a segment is whole, and right
pub one_right : {known totals : Option Totals} (run : Option Run) (style : Style) (old chain next : ChainFed) (number count taken : ℕ)
    (block left order : List ℕ)
    (met : Option Met) (before now after : Option (List ℕ)) (under : IsUnderWay run style old number block chain count left before now known totals)
    (feeds : FeedsChain under.last chain left (steps.Right taken order met next)) → is_some met ≡ is_some totals
    → Appends now after (lines_of style count order)
    → TakesSegments run style old number block (Some (run_after under.last feeds.2)) (next.bytes ++ drop taken left) (count + 1) before after known
    (totals_if totals order met)
one_right {totals = totals} run style old chain next number count taken block left order met before now after under
    (some, within, segment, spelled, sound, recorded, kept, none, met_is) has written =
    let so_far = under.taken in
    let own : List ℕ = chain.bytes ++ take taken left in
    let rest : List ℕ = drop taken left in
    let last : Option Run = Some (run_after under.last segment) in
    let bytes_are : chain.bytes ++ left ≡ own ++ rest = ap (λ (l : List ℕ). chain.bytes ++ l) (sym (take-append-drop taken left))
    ∙ sym (append_assoc chain.bytes (take taken left) rest) in
    let one : GoesOnTo under.last (chain.bytes ++ left) (order ∷ []) last (next.bytes ++ rest) totals (totals_if totals order met) = (
      segment,
      rest,
      record { own = own; is = bytes_are; spelled = spelled },
      sound,
      recorded,
      met,
      met_is,
      has,
      (refl, ap (λ (l : List ℕ). l ++ rest) none, refl),
    ) in
    let long : length (so_far.orders ++ order ∷ []) ≡ length so_far.orders + 1 = length-append so_far.orders (order ∷ []) in
    let counted = so_far.counted in
    record {
      orders = so_far.orders ++ order ∷ [];
      goes_on = through _ _ _ run under.last last (old.bytes ++ block) (chain.bytes ++ left) (next.bytes ++ rest) so_far.orders
          (order ∷ []) so_far.goes_on one;
      counted = omega arith;
      written = subst (Appends before after)
          (ap (λ (l : List ℕ). shown_lines style number so_far.orders ++ l) (one_shown style count order
          ∙ ap (λ n. shown_lines style n (order ∷ [])) counted)
          ∙ sym (shown_lines-append style number so_far.orders (order ∷ [])))
          (Appends-trans before now after (shown_lines style number so_far.orders) (lines_of style count order) so_far.written written);
    }

fewer : (taken : ℕ) (left : List ℕ) (number count most : ℕ) → 0 < taken → taken ≤ length left → count + length left ≤ number + most
    → (count + 1) + length (drop taken left) ≤ number + most
fewer taken left number count most some within few = let long = length-drop taken left in omega arith

pub next_segment : {known totals : Option Totals} (run : Option Run) (style : Style) (old chain next : ChainFed) (number count taken : ℕ)
    (block left behind order : List ℕ) (met : Option Met) (before now after : Option (List ℕ)) (more : Option Totals)
    (under : IsUnderWay run style old number block chain count left before now known totals)
    → FeedsChain under.last chain left (steps.Right taken order met next) → is_some met ≡ is_some totals → more ≡ totals_if totals order met
    → Appends now after (lines_of style count order) → behind ≡ drop taken left
    → IsUnderWay run style old number block next (count + 1) behind before after known more
next_segment {known = known} {totals = totals} run style old chain next number count taken block left behind order met before now after more under feeds has
    more_is written same =
    let last : Option Run = Some (run_after under.last feeds.2) in
    subst (λ (t : Option Totals). IsUnderWay run style old number block next (count + 1) behind before after known t) (sym more_is)
    (subst (λ (l : List ℕ). IsUnderWay run style old number block next (count + 1) l before after known (totals_if totals order met)) (sym same) record {
      last = last;
      kept = feeds.6;
      taken = one_right run style old chain next number count taken block left order met before now after under feeds has written;
      short = subst (IsShort last) (sym feeds.7) (none_short last);
      few = fewer taken left number count (length block) feeds.0 feeds.1 under.few;
    })

-- the whole block is taken
pub block_taken : {known totals : Option Totals} (run : Option Run) (style : Style) (old chain next : ChainFed) (number count : ℕ)
    (block left : List ℕ) (before now : Option (List ℕ))
    (under : IsUnderWay run style old number block chain count left before now known totals) → FeedsChain under.last chain left (steps.More next)
    → TakesBlock run style old number block before now known (More next count totals)
block_taken {known = known} {totals = totals} run style old chain next number count block left before now under (is, short) =
    let so_far = under.taken in
    let few = under.few in
    let bytes_are : next.bytes ≡ chain.bytes ++ left = ap (λ (f : ChainFed). f.bytes) is in (
      under.last,
      record {
        orders = so_far.orders;
        goes_on = subst (λ (l : List ℕ). GoesOnTo run (old.bytes ++ block) so_far.orders under.last l known totals) (sym bytes_are) so_far.goes_on;
        counted = so_far.counted;
        written = so_far.written;
      },
      subst (λ (f : ChainFed). IsKeptOf under.last f.kept) (sym is) under.kept,
      short,
      omega arith,
    )

-- nothing of it is left
pub block_left : {known totals : Option Totals} (run : Option Run) (style : Style) (old chain : ChainFed) (number count : ℕ)
    (block left : List ℕ) (before now : Option (List ℕ))
    → IsUnderWay run style old number block chain count left before now known totals → left ≡ []
    → TakesBlock run style old number block before now known (More chain count totals)
block_left {known = known} {totals = totals} run style old chain number count block left before now under none =
    let few = under.few in (
      under.last,
      subst (λ (l : List ℕ). TakesSegments run style old number block under.last l count before now known totals)
          (ap (λ (l : List ℕ). chain.bytes ++ l) none ∙ append-nil chain.bytes) under.taken,
      under.kept,
      under.short,
      omega arith,
    )

some_behind : (front left : List ℕ) → (left ≡ [] → ⊥) → front ++ left ≡ [] → ⊥
some_behind [] left some e = some e
some_behind (x ∷ front) left some e = cc

-- the next segment has a fault
pub block_wrong : {known totals : Option Totals} (run : Option Run) (style : Style) (old chain : ChainFed) (number count : ℕ)
    (block left : List ℕ) (before now : Option (List ℕ))
    (fault : Fault) (under : IsUnderWay run style old number block chain count left before now known totals)
    → FeedsChain under.last chain left (steps.Wrong fault) → (left ≡ [] → ⊥) → TakesBlock run style old number block before now known (Wrong count fault)
block_wrong {totals = totals} run style old chain number count block left before now fault under lasts some =
    (under.last, chain.bytes ++ left, totals, under.taken, lasts, some_behind chain.bytes left some)

-- memory ran out
pub some_taken : {known totals : Option Totals} (run : Option Run) (style : Style) (old chain : ChainFed) (number count : ℕ)
    (block left : List ℕ) (before now after : Option (List ℕ))
    → IsUnderWay run style old number block chain count left before now known totals → after ≡ now
    → TakesSome run style old number block before after known
some_taken {known = known} {totals = totals} run style old chain number count block left before now after under same = (
  under.last,
  chain.bytes ++ left,
  count,
  totals,
  subst (λ (k : Option (List ℕ)). TakesSegments run style old number block under.last (chain.bytes ++ left) count before k known totals) (sym same)
      under.taken,
)

-- what was written grows
pub block_grows : {known totals : Option Totals} (run : Option Run) (style : Style) (old chain : ChainFed) (number count : ℕ)
    (block left : List ℕ) (before now : Option (List ℕ))
    → IsUnderWay run style old number block chain count left before now known totals → Grows before now
block_grows run style old chain number count block left before now under = (shown_lines style number under.taken.orders, under.taken.written)

-- an error that is passed on
pub passed_on : {T : Type 0} (result : Result T ProgFault) (fault : ProgFault) (P : ProgFault
    → Type 0) → IsErrAnd result (λ why. why ≡ fault) → P fault → IfErr result P
passed_on (Ok value) fault P same h = tt
passed_on (Err why) fault P same h = subst P (sym same) h

-- the lines of a segment were not written
pub unwritten_lines : {W : Type 0} {known totals : Option Totals} (run : Option Run) (style : Style) (old chain : ChainFed)
    (number count : ℕ) (block left : List ℕ)
    (before : Option (List ℕ)) (contents : W → Option (List ℕ)) (now after : W) (fault : ProgFault)
    → IsUnderWay run style old number block chain count left before (contents now) known totals → (fault ≡ CannotWrite) ⊎ ((fault ≡ Memory) × (after ≡ now))
    → (fault ≡ CannotWrite) ⊎ ((fault ≡ Memory) × TakesSome run style old number block before (contents after) known)
unwritten_lines run style old chain number count block left before contents now after fault under (inl unwritable) = inl unwritable
unwritten_lines run style old chain number count block left before contents now after fault under (inr (none, same)) =
    inr (none, some_taken run style old chain number count block left before (contents now) (contents after) under (ap contents same))
