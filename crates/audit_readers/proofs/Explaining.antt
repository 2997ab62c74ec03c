-- What is known of a chain that is read in blocks and explained.
use Rattle.std.proofs.Common.{◌≡◌, ◌≤◌, ◌+◌, ◌-◌, ◌^◌, inr, ℕ, List, [], ◌++◌, length, Option, None, refl, sym, subst, take, arith}
use Rattle.std.specs.Io.KnownBytes.{Consumes, IsAtEnd, Keeps}
use Rattle.std.proofs.KnownBytes.{Consumes-kept, Consumes-nil, Consumes-trans}
use Rattle.std.proofs.lemmas.List.{append-nil, append_assoc, length-append}
use Rattle.nr_trace.specs.Recording.{Recording}
use Rattle.nr_trace.specs.FirstFault.{HasSegmentFault}
use Rattle.nr_trace.specs.declared.refusals.fault.Format.TheVariants.{Truncated}
use Rattle.nr_explain.specs.Progress.{ChainState, ReaderState, layout_in, run_in, IsSeenOf}
use Rattle.nr_explain.specs.ChainExplanation.{Explains, FeedsReader, GoesOnTo, IsExplanationFrom, IsExplanationOfChain}
use Rattle.nr_explain.specs.declared.chain.reader.ReaderStep.TheVariants.{More}
use Rattle.nr_explain.proofs.Feeding.{explains_on, goes_and, goes_with}
use Rattle.nr_explain.proofs.Verdicts.{goes_on_so, orders_in}
use Rattle.audit_readers.specs.ChainAudit.{HasReadFewOfChain}
use Rattle.audit_readers.proofs.Going.{ends_yet, none_short}
use Rattle.audit_readers.proofs.Reading.{many_more}
use Rattle.audit_readers.specs.declared.chain.audit.TheConstants.{MOST_BLOCKS}
use Rattle.audit_readers.specs.Ends.{IsUnreadable}
use Rattle.nr_explain.specs.declared.chain.explanation.ChainExplanation.{ChainExplanation}
use Rattle.audit_readers.proofs.Inputs.{one_block, whole_read, whole_with}
use Rattle.audit_readers.specs.inside.Explaining.{HasExplained}

-- what was read is right segments, and the beginning of one more, and so many blocks may be read yet
pub record IsExplaining (known left : Option (List ℕ)) (chain : ReaderState) (room : ℕ) : Type 0 where
  pub read : List ℕ
  pub many : 2 ^ 52 - 1 ≤ room + length read
  pub consumed : Consumes known left read
  pub last : Option ChainState
  pub seen : IsSeenOf last chain.state
  pub segments : List Recording
  pub goes_on : GoesOnTo None read segments last chain.bytes
  pub short : HasSegmentFault (layout_in last) chain.bytes Truncated

pub explaining_starts : (known : Option (List ℕ)) (chain : ReaderState) → chain ≡ record { state = None; bytes = [] }
    → IsExplaining known known chain MOST_BLOCKS
explaining_starts known chain is =
    let nothing : ReaderState = record { state = None; bytes = [] } in
    let here : IsExplaining known known nothing MOST_BLOCKS = record {
      read = [];
      many = omega arith;
      consumed = Consumes-nil known;
      last = None;
      seen = tt;
      segments = [];
      goes_on = (refl, refl);
      short = none_short None;
    } in
    subst (λ (seen : ReaderState). IsExplaining known known seen MOST_BLOCKS) (sym is) here

-- a block was read and taken
pub explaining_goes_on : (known left new : Option (List ℕ)) (chain next : ReaderState) (block : List ℕ) (room less : ℕ)
    → (here : IsExplaining known left chain room) → Consumes left new block → 1 ≤ length block → less + 1 ≡ room → (block ≡ [] → ⊥)
    → FeedsReader here.last chain block (More next) → IsExplaining known new next less
explaining_goes_on known left new chain next block room less here lost size one some (more, last, on, seen, short) = record {
  read = here.read ++ block;
  many = many_more (length here.read) (length block) _ room less here.many size one (length-append here.read block);
  consumed = Consumes-trans known left new here.read block here.consumed lost;
  last = last;
  seen = seen;
  segments = here.segments ++ more;
  goes_on = goes_and None here.last last (here.read ++ block) (chain.bytes ++ block) next.bytes here.segments more
      (goes_with None here.last here.read chain.bytes block here.segments here.goes_on) on;
  short = short some;
}

-- nothing is wrong yet with the bytes before the block
few_more : {room : ℕ} (known left new : Option (List ℕ)) (chain : ReaderState) (block : List ℕ) → IsExplaining known left chain room → Consumes left new block
    → length block ≤ 4096 → HasReadFewOfChain known new
few_more known left new chain block here lost size =
    let (found, ends, early) = ends_yet (run_in here.last) chain.bytes here.short in
    record {
      before = here.read;
      block = block;
      read = Consumes-trans known left new here.read block here.consumed lost;
      orders = orders_in here.segments;
      right_yet = (found, goes_on_so None here.last here.read chain.bytes here.segments found here.goes_on ends, early);
      one_block = size;
    }

pub few_read : {known left new : Option (List ℕ)} {chain : ReaderState} {room : ℕ} (count : ℕ) (block : List ℕ) → IsExplaining known left chain room
    → Consumes left new (take count block) → length block ≡ 4096 → HasReadFewOfChain known new
few_read count block here lost full = few_more _ _ _ _ (take count block) here lost (one_block count block full)

pub few_kept : {known left new : Option (List ℕ)} {chain : ReaderState} {room : ℕ} → IsExplaining known left chain room → Keeps left new
    → HasReadFewOfChain known new
few_kept {left = left} {new = new} here keeps =
    few_more _ _ _ _ [] here (Consumes-kept left left new [] (Consumes-nil left) keeps) (omega arith)

-- so many blocks were read
pub explains_too_late : {known left : Option (List ℕ)} {chain : ReaderState} {room : ℕ} (last : Option ℕ) → IsExplaining known left chain room → room ≡ 0
    → IsUnreadable (2 ^ 52 - 1) known left last
explains_too_late last here none =
    let many = here.many in
    inr (here.read, here.consumed, omega (arith, many, none))

-- nothing is left to read
pub explained_at_end : {room : ℕ} (known left new : Option (List ℕ)) (chain : ReaderState) (block : List ℕ) (explanation : ChainExplanation)
    → (here : IsExplaining known left chain room) → Consumes left new block → block ≡ [] → IsAtEnd new → Explains here.last chain [] explanation
    → HasExplained known explanation
explained_at_end known left new chain block explanation here lost none end explains =
    let lost_none = subst (Consumes left new) none lost in
    let consumed = subst (Consumes known new) (append-nil here.read) (Consumes-trans known left new here.read [] here.consumed lost_none) in
    record {
      input = here.read;
      is_read = whole_read known new here.read consumed end;
      is_explanation = explains_on None here.last here.read chain.bytes here.segments explanation here.goes_on
          (subst (λ (bytes : List ℕ). IsExplanationFrom here.last bytes explanation) (append-nil chain.bytes) explains);
    }

-- the fault shows in a block, whatever comes behind it
pub explained_in_block : {room : ℕ} (known left new : Option (List ℕ)) (chain : ReaderState) (block : List ℕ) (explanation : ChainExplanation)
    → (here : IsExplaining known left chain room) → Consumes left new block → ((rest : List ℕ) → Explains here.last chain (block ++ rest) explanation)
    → HasExplained known explanation
explained_in_block known left new chain block explanation here lost explains =
    let (behind, is) = whole_with known new (here.read ++ block) (Consumes-trans known left new here.read block here.consumed lost) in
    record {
      input = (here.read ++ block) ++ behind;
      is_read = is;
      is_explanation = subst (λ (bytes : List ℕ). IsExplanationOfChain bytes explanation) (sym (append_assoc here.read block behind))
          (explains_on None here.last (here.read ++ (block ++ behind)) (chain.bytes ++ (block ++ behind)) here.segments explanation
          (goes_with None here.last here.read chain.bytes (block ++ behind) here.segments here.goes_on) (explains behind));
    }
