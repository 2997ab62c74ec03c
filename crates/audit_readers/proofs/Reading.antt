-- A chain that is read in blocks, whose lines are written as its segments are judged.
use Rattle.std.proofs.Common.{◌≡◌, ◌≢◌, ◌≤◌, ℕ, ◌+◌, ◌*◌, ◌++◌, ◌⊎◌, inl, inr, Bool, true, false, List, [], length, append-nil, Option, Some, None, Result, Ok}
use Rattle.std.proofs.Common.{Err, IfErr, IfOk, refl, sym, ap, ◌∙◌, subst, take, arith, append_assoc, unwrap_or, ◌^◌, ◌-◌}
use Rattle.std.specs.Io.KnownBytes.{Appends, Consumes, IsAtEnd, Keeps}
use Rattle.std.proofs.KnownBytes.{Appends-nil, Appends-trans, Consumes-kept, Consumes-nil, Consumes-trans}
use Rattle.std.proofs.lemmas.Bool.{true≢false}
use Rattle.std.proofs.lemmas.List.{length-append, length-take}
use Rattle.audit_readers.proofs.Inputs.{one_block, whole_read, whole_with}
use Rattle.audit_readers.specs.Answers.{IsReadOf, WritesReport}
use Rattle.audit_readers.specs.Ends.{IsUnreadable}
use Rattle.audit_readers.specs.declared.fault.ProgFault.{ProgFault}
use Rattle.audit_readers.specs.declared.fault.ProgFault.TheVariants.{CannotRead, CannotWrite, Memory}
use Rattle.nr_trace.specs.declared.refusals.fault.Fault.{Fault}
use Rattle.nr_trace.specs.Run.{Run}
use Rattle.nr_audit.specs.Met.{no_totals}
use Rattle.nr_audit.specs.declared.histories.met.Totals.{Totals}
use Rattle.nr_chain.specs.Fed.{ChainFed, IsKeptOf}
use Rattle.nr_chain.specs.Bytes.{EndsWith, GoesOnSo}
use Rattle.nr_chain.specs.Verdict.{LastsNext}
use Rattle.nr_chain.proofs.FoundChains.{right_chain}
use Rattle.audit_readers.specs.ChainAudit.{AuditsWhatIsRead, CountsTo, HasReadFewOfChain, HasWrittenAtOnce, HasWrittenFirst, IsChainAudit, IsCounted}
use Rattle.audit_texts.specs.ChainText.{chain_status, chain_text, shown_lines, told_end}
use Rattle.audit_readers.proofs.Growing.{grows_nothing}
use Rattle.audit_readers.specs.inside.Going.{GoesOnTo, Grows, IsShort, TakesBlock, TakesSegments, TakesSome}
use Rattle.audit_readers.specs.inside.Judged.{totals_begun, IsAt}
use Rattle.audit_readers.specs.declared.chain.audit.TheConstants.{MOST_BLOCKS}
use Rattle.audit_readers.specs.declared.chain.audit.Taken.TheVariants.{More}
use Rattle.audit_texts.specs.declared.chain.style.Style.{Style}
use Rattle.audit_readers.proofs.Lines.{none_shown, shown_lines-append}
use Rattle.audit_readers.proofs.Going.{counts_to, ended, extend, front_of, lasting, none_short, right_yet, through}

-- between two blocks
pub record IsReading (style : Style) (known left old new : Option (List ℕ)) (chain : ChainFed) (count room : ℕ) (begun totals : Option Totals) : Type 0 where
  pub last : Option Run
  pub kept : IsKeptOf last chain.kept
  pub here : IsAt style known left old new last chain.bytes count begun totals
  pub short : IsShort last chain.bytes
  pub few : count + 4096 * room ≤ 4096 * MOST_BLOCKS
  pub many : 2 ^ 52 - 1 ≤ room + length here.read

pub reading_begins : (style : Style) (known old : Option (List ℕ)) (begun : Option Totals) (chain : ChainFed) → chain ≡ record { kept = None; bytes = [] }
    → IsReading style known known old old chain 0 MOST_BLOCKS begun begun
reading_begins style known old begun chain is = subst (λ (f : ChainFed). IsReading style known known old old f 0 MOST_BLOCKS begun begun) (sym is) record {
  last = None;
  kept = tt;
  here = record {
    read = [];
    consumed = Consumes-nil known;
    orders = [];
    goes_on = (refl, refl, refl);
    counted = refl;
    written = subst (Appends old old) (sym (none_shown style 0)) (Appends-nil old);
  };
  short = none_short None;
  few = omega arith;
  many = omega arith;
}

-- the reader has lost as much, and no more
pub stayed : {begun totals : Option Totals} (style : Style) (known left next old new : Option (List ℕ)) (last : Option Run) (rest : List ℕ) (count : ℕ)
    → IsAt style known left old new last rest count begun totals → Keeps left next → IsAt style known next old new last rest count begun totals
stayed style known left next old new last rest count here keeps = record {
  read = here.read;
  consumed = Consumes-kept known left next here.read here.consumed keeps;
  orders = here.orders;
  goes_on = here.goes_on;
  counted = here.counted;
  written = here.written;
}

pub read_nothing : {begun totals : Option Totals} (style : Style) (known left next old new : Option (List ℕ)) (last : Option Run)
    (rest piece : List ℕ) (count : ℕ)
    → IsAt style known left old new last rest count begun totals → Consumes left next piece → piece ≡ []
    → IsAt style known next old new last rest count begun totals
read_nothing style known left next old new last rest piece count here lost none = record {
  read = here.read;
  consumed = subst (Consumes known next) (append-nil here.read)
      (Consumes-trans known left next here.read [] here.consumed (subst (Consumes left next) none lost));
  orders = here.orders;
  goes_on = here.goes_on;
  counted = here.counted;
  written = here.written;
}

-- nothing more was written
pub unwritten : {begun totals : Option Totals} {W : Type 0} (style : Style) (known left old : Option (List ℕ)) (contents : W
    → Option (List ℕ)) (now next : W) (last : Option Run) (rest : List ℕ) (count : ℕ)
    → IsAt style known left old (contents now) last rest count begun totals → next ≡ now
    → IsAt style known left old (contents next) last rest count begun totals
unwritten {begun = begun} {totals = totals} style known left old contents now next last rest count here same =
    subst (λ w. IsAt style known left old (contents w) last rest count begun totals) (sym same) here

-- a block more
pub next_block : {begun totals more : Option Totals} (run : Option Run) (style : Style) (known left next old now new : Option (List ℕ))
    (chain : ChainFed) (block : List ℕ)
    (last : Option Run) (rest : List ℕ) (number count : ℕ)
    → IsAt style known left old now run chain.bytes number begun totals → Consumes left next block
    → TakesSegments run style chain number block last rest count now new totals more
    → IsAt style known next old new last rest count begun more
next_block run style known left next old now new chain block last rest number count here lost taken =
    let own = here.counted in
    let so_far : number ≡ 0 + length here.orders = omega arith in
    let counted = taken.counted in
    let long : length (here.orders ++ taken.orders) ≡ length here.orders + length taken.orders = length-append here.orders taken.orders in
    record {
      read = here.read ++ block;
      consumed = Consumes-trans known left next here.read block here.consumed lost;
      orders = here.orders ++ taken.orders;
      goes_on = through _ _ _ None run last (here.read ++ block) (chain.bytes ++ block) rest here.orders taken.orders
          (extend _ _ None run here.read chain.bytes block here.orders here.goes_on) taken.goes_on;
      counted = omega arith;
      written = subst (Appends old new)
          (ap (λ n. shown_lines style 0 here.orders ++ shown_lines style n taken.orders) so_far
          ∙ sym (shown_lines-append style 0 here.orders taken.orders))
          (Appends-trans old now new (shown_lines style 0 here.orders) (shown_lines style number taken.orders) here.written taken.written);
    }

fewer_left : (count number size room less : ℕ) → count ≤ number + size → number + 4096 * room ≤ 4096 * MOST_BLOCKS → size ≤ 4096
    → less + 1 ≡ room
    → count + 4096 * less ≤ 4096 * MOST_BLOCKS
fewer_left count number size room less more few short one = omega arith

pub many_more : (size block all room less : ℕ) → 2 ^ 52 - 1 ≤ room + size → 1 ≤ block → less + 1 ≡ room → all ≡ size + block
    → 2 ^ 52 - 1 ≤ less + all
many_more size block all room less many some one long = omega arith

pub reads_on : {begun totals after : Option Totals} (style : Style) (known left next old now new : Option (List ℕ)) (chain more : ChainFed) (block : List ℕ)
    (number count room less : ℕ)
    → (reading : IsReading style known left old now chain number room begun totals) → Consumes left next block → length block ≤ 4096 → 1 ≤ length block
    → less + 1 ≡ room → TakesBlock reading.last style chain number block now new totals (More more count after)
    → IsReading style known next old new more count less begun after
unfolding next_block
reads_on style known left next old now new chain more block number count room less reading lost size some one (last, taken, kept, short, most) = record {
  last = last;
  kept = kept;
  here = next_block reading.last style known left next old now new chain block last more.bytes number count reading.here lost taken;
  short = short;
  few = fewer_left count number (length block) room less most reading.few size one;
  many = many_more (length reading.here.read) (length block) _ room less reading.many some one (length-append reading.here.read block);
}

-- ---- how much is read

few_more : {begun totals : Option Totals} {style : Style} {known left next old new : Option (List ℕ)} {chain : ChainFed} {number room : ℕ} (block : List ℕ)
    → IsReading style known left old new chain number room begun totals → Consumes left next block → length block ≤ 4096 → HasReadFewOfChain known next
few_more {known = known} {left = left} {next = next} {chain = chain} block reading lost size =
    let here = reading.here in
    record {
      before = here.read;
      block = block;
      read = Consumes-trans known left next here.read block here.consumed lost;
      orders = here.orders;
      right_yet = right_yet _ _ reading.last here.read chain.bytes here.orders here.goes_on reading.short;
      one_block = size;
    }

pub few_read : {begun totals : Option Totals} {style : Style} {known left next old new : Option (List ℕ)} {chain : ChainFed}
    {number room : ℕ} (count : ℕ) (block : List ℕ)
    → IsReading style known left old new chain number room begun totals → Consumes left next (take count block) → length block ≡ 4096
    → HasReadFewOfChain known next
few_read count block reading lost full = few_more (take count block) reading lost (one_block count block full)

pub few_kept : {begun totals : Option Totals} {style : Style} {known left next old new : Option (List ℕ)} {chain : ChainFed} {number room : ℕ}
    → IsReading style known left old new chain number room begun totals → Keeps left next → HasReadFewOfChain known next
few_kept {left = left} {next = next} reading keeps =
    few_more [] reading (Consumes-kept left left next [] (Consumes-nil left) keeps) (omega arith)

-- the lines are written of all segments that were whole before the last read
pub written_at_once : {begun totals : Option Totals} {style : Style} {known left next old now new : Option (List ℕ)} {chain : ChainFed}
    {number room : ℕ} (block : List ℕ)
    (last : Option ℕ) → IsReading style known left old now chain number room begun totals → Consumes left next block → length block ≤ unwrap_or last 0
    → Grows now new → HasWrittenAtOnce style known next last old new
written_at_once {style = style} {known = known} {left = left} {next = next} {old = old} {now = now} {new = new} {chain = chain} block last reading
    lost size (more, grown) =
    let here = reading.here in
    record {
      before = here.read;
      block = block;
      read = Consumes-trans known left next here.read block here.consumed lost;
      last_read = size;
      orders = here.orders;
      right_yet = right_yet _ _ reading.last here.read chain.bytes here.orders here.goes_on reading.short;
      more = more;
      written = Appends-trans old now new (shown_lines style 0 here.orders) more here.written grown;
    }

pub block_at_once : {begun totals : Option Totals} {style : Style} {known left next old now new : Option (List ℕ)} {chain : ChainFed}
    {number room : ℕ} (count : ℕ)
    (block : List ℕ) (last : Option ℕ) → IsReading style known left old now chain number room begun totals → Consumes left next (take count block)
    → last ≡ Some count → Grows now new → HasWrittenAtOnce style known next last old new
block_at_once count block last reading lost is grown =
    written_at_once (take count block) last reading lost
    (subst (λ (l : Option ℕ). length (take count block) ≤ unwrap_or l 0) (sym is) (let long = length-take count block in omega arith)) grown

pub kept_at_once : {begun totals : Option Totals} {style : Style} {known left next old now : Option (List ℕ)} {chain : ChainFed}
    {number room : ℕ} (last : Option ℕ)
    → IsReading style known left old now chain number room begun totals → Keeps left next → HasWrittenAtOnce style known next last old now
kept_at_once {left = left} {next = next} {now = now} last reading keeps =
    written_at_once [] last reading (Consumes-kept left left next [] (Consumes-nil left) keeps) (omega arith) (grows_nothing now)

pub more_at_once : {style : Style} {known left old now new : Option (List ℕ)} {last : Option ℕ}
    → HasWrittenAtOnce style known left last old now → Grows now new → HasWrittenAtOnce style known left last old new
more_at_once {style = style} {old = old} {now = now} {new = new} so_far (more, grown) = record {
  before = so_far.before;
  block = so_far.block;
  read = so_far.read;
  last_read = so_far.last_read;
  orders = so_far.orders;
  right_yet = so_far.right_yet;
  more = so_far.more ++ more;
  written = subst (Appends old new) (append_assoc (shown_lines style 0 so_far.orders) so_far.more more)
      (Appends-trans old now new (shown_lines style 0 so_far.orders ++ so_far.more) more so_far.written grown);
}

-- so many blocks were read
pub reads_too_much : {begun totals : Option Totals} {style : Style} {known left old now : Option (List ℕ)} {chain : ChainFed}
    {number room : ℕ} (last : Option ℕ)
    → IsReading style known left old now chain number room begun totals → room ≡ 0 → IsUnreadable (2 ^ 52 - 1) known left last
reads_too_much last reading none =
    let many = reading.many in
    inr (reading.here.read, reading.here.consumed, omega (arith, many, none))

-- ---- where there is no answer

-- the lines of all segments that were whole
pub all_written : {begun totals : Option Totals} (style : Style) (known left old new : Option (List ℕ)) (last : Option Run) (rest : List ℕ)
    (count : ℕ) (fault : ProgFault)
    → IsAt style known left old new last rest count begun totals → IsShort last rest → HasWrittenFirst style known left old new fault
all_written style known left old new last rest count fault here short = record {
  front = here.read;
  rest = [];
  read = subst (Consumes known left) (sym (append-nil here.read)) here.consumed;
  whole = λ unread. refl;
  orders = here.orders;
  right_yet = right_yet _ _ last here.read rest here.orders here.goes_on short;
  written = here.written;
}

-- of some
pub some_written : {begun totals : Option Totals} (style : Style) (known left old new : Option (List ℕ)) (last : Option Run) (rest : List ℕ)
    (count : ℕ) (fault : ProgFault)
    → IsAt style known left old new last rest count begun totals → fault ≡ Memory → HasWrittenFirst style known left old new fault
some_written style known left old new last rest count fault here none =
    let (front, is, goes_on) = front_of _ _ None last here.read rest here.orders here.goes_on in
    record {
      front = front;
      rest = rest;
      read = subst (Consumes known left) is here.consumed;
      whole = λ unread. absurd (let wrong : Memory ≡ CannotRead = sym none ∙ unread in cc);
      orders = here.orders;
      right_yet = right_yet _ _ last front [] here.orders goes_on (none_short last);
      written = here.written;
    }

-- of a block that was not taken
pub block_refused : {begun totals : Option Totals} (run : Option Run) (style : Style) (known left next old now new : Option (List ℕ))
    (chain : ChainFed) (block : List ℕ)
    (number : ℕ) (fault : ProgFault)
    → IsAt style known left old now run chain.bytes number begun totals → Consumes left next block
    → (fault ≡ CannotWrite) ⊎ ((fault ≡ Memory) × TakesSome run style chain number block now new totals) → fault ≢ CannotWrite
    → HasWrittenFirst style known next old new fault
block_refused run style known left next old now new chain block number fault here lost (inl unwritten) written = absurd (written unwritten)
block_refused run style known left next old now new chain block number fault here lost (inr (none, (last, rest, count, more, taken))) written =
    some_written style known next old new last rest count fault
    (next_block run style known left next old now new chain block last rest number count here lost taken) none

-- the last lines were not written
pub end_refused : {begun totals : Option Totals} {W : Type 0} {style : Style} {known left old : Option (List ℕ)} {last : Option Run} {rest : List ℕ} {count : ℕ}
    (contents : W → Option (List ℕ)) (now next : W) (result : Result ℕ ProgFault) → IsAt style known left old (contents now) last rest count begun totals
    → IfErr result (λ fault. (fault ≡ CannotWrite) ⊎ ((fault ≡ Memory) × (next ≡ now)))
    → IfErr result (λ fault. fault ≢ CannotWrite → HasWrittenFirst style known left old (contents next) fault)
end_refused contents now next (Ok status) here err = tt
end_refused contents now next (Err fault) here (inl unwritable) = λ written. absurd (written unwritable)
end_refused contents now next (Err fault) here (inr (none, same)) = λ written.
    some_written _ _ _ _ (contents next) _ _ _ fault (unwritten _ _ _ _ contents now next _ _ _ here same) none

-- ---- the answer

-- what is counted of a whole chain
pub counted_end : (counted : Option Totals) (counts : Bool) (style : Style) (least : ℕ) → (counts ≡ false → (style.as_json ≡ false) × (least ≡ 0))
    → (last : Option Run) (bytes rest : List ℕ) (orders : List (List ℕ)) → GoesOnTo None bytes orders last rest (totals_begun counts) counted
    → IsCounted style least → CountsTo None bytes orders no_totals (unwrap_or counted no_totals)
counted_end counted true style least none last bytes rest orders goes_on asked =
    let (totals, is, counts) = counts_to _ None last bytes rest orders no_totals goes_on in
    subst (λ (t : Option Totals). CountsTo None bytes orders no_totals (unwrap_or t no_totals)) (sym is) counts
counted_end counted false style least none last bytes rest orders goes_on asked =
    let (lines, nothing) = none refl in
    elim asked [ inl json ↦ absurd (true≢false (sym json ∙ lines)) | inr some ↦ absurd (omega (arith, some, nothing)) ]

-- of so much that is said of a chain
abbrev Told : Style → ℕ → List ℕ → List (List ℕ) → Totals → Option Fault → Type 0
Told style least bytes orders told found = IsCounted style least → found ≡ None → CountsTo None bytes orders no_totals told

audit_of : (style : Style) (least : ℕ) (bytes text : List ℕ) (orders : List (List ℕ)) (told : Totals) (found : Option Fault) (status : ℕ)
    → GoesOnSo None bytes orders found → Told style least bytes orders told found
    → text ≡ chain_text style orders told found → status ≡ chain_status least told found → IsChainAudit style least bytes text status
audit_of style least bytes text orders told found status goes_on counted is exit = record {
  orders = orders;
  found = found;
  goes_on = goes_on;
  right = λ none. right_chain bytes orders (subst (GoesOnSo None bytes orders) none goes_on);
  totals = told;
  counted = counted;
  text_is = is;
  status_is = exit;
}

-- the lines of right segments, and the last ones of what is found of these bytes
audited : {style : Style} {known left old now : Option (List ℕ)} {last : Option Run} {rest : List ℕ} {count : ℕ} {begun totals : Option Totals}
    (least : ℕ) (bytes : List ℕ) (told : Totals) (found : Option Fault) (status : ℕ)
    → (here : IsAt style known left old now last rest count begun totals) → GoesOnSo None bytes here.orders found
    → Told style least bytes here.orders told found → status ≡ chain_status least told found
    → IsChainAudit style least bytes (shown_lines style 0 here.orders ++ told_end style.as_json count told found) status
audited {style = style} {count = count} least bytes told found status here goes_on counted exit =
    audit_of style least bytes (shown_lines style 0 here.orders ++ told_end style.as_json count told found) here.orders told found status goes_on counted
    (ap (λ n. shown_lines style 0 here.orders ++ told_end style.as_json n told found) here.counted) exit

-- they are an answer on what was read
answers : {style : Style} {known left old now : Option (List ℕ)} {last : Option Run} {rest : List ℕ} {count : ℕ} {begun totals : Option Totals} {E : Type 0}
    (least : ℕ) (new : Option (List ℕ)) (told : Totals) (found : Option Fault) (result : Result ℕ E)
    → (here : IsAt style known left old now last rest count begun totals) → GoesOnSo None here.read here.orders found
    → Told style least here.read here.orders told found
    → IfOk result (λ status. (status ≡ chain_status least told found) × Appends now new (told_end style.as_json count told found))
    → IfOk result (AuditsWhatIsRead style least known left old new)
answers {style = style} {old = old} {now = now} {count = count} least new told found (Ok status) here goes_on counted (exit, written) = record {
  read = here.read;
  consumed = here.consumed;
  text = shown_lines style 0 here.orders ++ told_end style.as_json count told found;
  is_audit = audited least here.read told found status here goes_on counted exit;
  written = Appends-trans old now new (shown_lines style 0 here.orders) (told_end style.as_json count told found) here.written written;
}
answers least new told found (Err fault) here goes_on counted failed = tt

-- and on the input
reports : {style : Style} {known left old now : Option (List ℕ)} {last : Option Run} {rest : List ℕ} {count : ℕ} {begun totals : Option Totals} {E : Type 0}
    (least : ℕ) (new : Option (List ℕ)) (input : List ℕ) (told : Totals) (found : Option Fault) (result : Result ℕ E) → IsReadOf known input
    → (here : IsAt style known left old now last rest count begun totals) → GoesOnSo None input here.orders found
    → Told style least input here.orders told found
    → IfOk result (λ status. (status ≡ chain_status least told found) × Appends now new (told_end style.as_json count told found))
    → IfOk result (WritesReport (IsChainAudit style least) known old new)
reports {style = style} {old = old} {now = now} {count = count} least new input told found (Ok status) is here goes_on counted (exit, written) = record {
  input = input;
  is_read = is;
  text = shown_lines style 0 here.orders ++ told_end style.as_json count told found;
  is_report = audited least input told found status here goes_on counted exit;
  written = Appends-trans old now new (shown_lines style 0 here.orders) (told_end style.as_json count told found) here.written written;
}
reports least new input told found (Err fault) is here goes_on counted failed = tt

-- ---- the input ends

module _ {style : Style} {known left old now : Option (List ℕ)} {last : Option Run} {rest : List ℕ} {count : ℕ} {totals : Option Totals} {E : Type 0}
    (counts : Bool) (least : ℕ) (asked : counts ≡ false → (style.as_json ≡ false) × (least ≡ 0)) (new : Option (List ℕ)) (told : Totals)
    (told_is : told ≡ unwrap_or totals no_totals) (found : Option Fault) (result : Result ℕ E)
    (here : IsAt style known left old now last rest count (totals_begun counts) totals) (ends : EndsWith last rest found)
    (done : IfOk result (λ status. (status ≡ chain_status least told found) × Appends now new (told_end style.as_json count told found))) where
  goes_so : GoesOnSo None here.read here.orders found
  goes_so = ended _ _ None last here.read rest here.orders found here.goes_on ends

  counted_so : Told style least here.read here.orders told found
  counted_so = λ is none. subst (CountsTo None here.read here.orders no_totals) (sym told_is)
      (counted_end _ counts style least asked last here.read rest here.orders here.goes_on is)

  pub answers_end : IfOk result (AuditsWhatIsRead style least known left old new)
  answers_end = answers least new told found result here goes_so counted_so done

  pub reports_end : IsAtEnd left → IfOk result (WritesReport (IsChainAudit style least) known old new)
  reports_end end = reports least new here.read told found result (whole_read known left here.read here.consumed end) here goes_so counted_so done

-- ---- a fault, of what was read, and of whatever comes behind it

module _ {style : Style} {known left old now : Option (List ℕ)} {last : Option Run} {rest : List ℕ} {count : ℕ} {begun totals : Option Totals} {E : Type 0}
    (least : ℕ) (new : Option (List ℕ)) (told : Totals) (fault : Fault) (result : Result ℕ E)
    (here : IsAt style known left old now last rest count begun totals) (lasts : LastsNext last rest fault) (some : rest ≡ [] → ⊥)
    (done : IfOk result (λ status. (status ≡ 1) × Appends now new (told_end style.as_json count told (Some fault)))) where
  none_told : (bytes : List ℕ) → Told style least bytes here.orders told (Some fault)
  none_told bytes = λ is none. absurd (let wrong : Some fault ≡ None = none in cc)

  pub answers_wrong : IfOk result (AuditsWhatIsRead style least known left old new)
  answers_wrong =
      answers least new told (Some fault) result here
      (subst (λ (bytes : List ℕ). GoesOnSo None bytes here.orders (Some fault)) (append-nil here.read)
      (lasting _ _ last here.read rest [] here.orders fault here.goes_on lasts some)) (none_told here.read) done

  pub reports_wrong : IfOk result (WritesReport (IsChainAudit style least) known old new)
  reports_wrong =
      let (behind, is) = whole_with known left here.read here.consumed in
      reports least new (here.read ++ behind) told (Some fault) result is here
      (lasting _ _ last here.read rest behind here.orders fault here.goes_on lasts some) (none_told (here.read ++ behind)) done
