-- A long script that is read in blocks, and its end.
use Rattle.std.proofs.Common.{◌≡◌, ◌≢◌, ◌<◌, ◌≤◌, ℕ, ◌+◌, ◌-◌, ◌*◌, ◌^◌, ◌++◌, List, [], length, Option, Some, None, Result, Ok, Err, refl, sym, ap, subst, ◌∙◌, arith}
use Rattle.std.proofs.Common.{append-nil, inr, replicate}
use Rattle.std.specs.Prelude.{IfErr, IfOk}
use Rattle.std.specs.Io.KnownBytes.{Appends, Consumes, IsAtEnd, Keeps}
use Rattle.std.proofs.KnownBytes.{Consumes-kept, Consumes-nil, Consumes-trans}
use Rattle.std.proofs.lemmas.List.{length-append}
use Rattle.std.proofs.lemmas.List.Folds.{sum_by-replicate}
use Rattle.vs_types.specs.Config.{Layout}
use Rattle.vs_types.specs.Refusal.{IfRefused}
use Rattle.vs_types.specs.declared.addresses.depth.Depth.{Depth}
use Rattle.vs_types.specs.declared.requests.refusal.Fail.{Fail}
use Rattle.vs_types.specs.declared.requests.refusal.Fail.TheVariants as fails
use Rattle.vs_types.specs.declared.requests.request.Query.{Query}
use Rattle.nr_ring.specs.Pass.{TableId}
use Rattle.nr_serve.specs.RunState.{RunState, new_run}
use Rattle.nr_script.specs.Portion.{EndsPortion, IsNoRequest, PortionState, no_portion, request_count}
use Rattle.nr_script.specs.declared.script.BadLine.{BadLine as BadLineOfScript}
use Rattle.audit_readers.specs.Ends.{IsUnreadable}
use Rattle.audit_readers.specs.declared.chain.audit.TheConstants.{MOST_BLOCKS}
use Rattle.audit_readers.specs.declared.fault.ProgFault.{ProgFault}
use Rattle.audit_readers.specs.declared.fault.ProgFault.TheVariants.{CannotRead, CannotWrite}
use Rattle.audit_readers.proofs.Inputs.{whole_read}
use Rattle.nrvs.specs.ServedChain.{HasServed, HasWrittenSegments, IsChainFault, IsServedChain, chain_layout, end_line}
use Rattle.nrvs.specs.Simulation.{script_fault}
use Rattle.nrvs.specs.inside.ChainGoing.{HasCome, HasRunSegment, HasWrittenSome, IsLastFault, IsLastingFault, status_of}
use Rattle.nrvs.specs.declared.runs.served_chain.After.{After}
use Rattle.nrvs.specs.declared.runs.served_chain.After.TheVariants.{GoesOn, Ends}
use Rattle.nrvs.specs.declared.runs.chain_setup.ChainSetup.{ChainSetup}
use Rattle.nrvs.specs.declared.runs.setup.Setup.{Setup}
use Rattle.nrvs.proofs.ServedChains.{has_begun, last_told, whole_told}
use Rattle.nrvs.proofs.ServedFaults.{bad_end, last_fault, segments_written, written_so_far}

-- between two blocks
pub record IsReading (setup : Setup) (chain : ChainSetup) (known unread old now : Option (List ℕ)) (run : RunState) (portion : PortionState)
    (room : ℕ) : Type 0 where
  pub read : List ℕ
  pub consumed : Consumes known unread read
  pub many : 2 ^ 52 - 1 ≤ room + length read
  pub come : HasCome setup chain read old now run portion
  pub few : request_count portion.lists < chain.most

-- nothing is read
pub reading_begins : (setup : Setup) (chain : ChainSetup) (known old : Option (List ℕ)) (layout : Layout) (run : RunState)
    (portion : PortionState) (log : TableId)
    → 1 ≤ chain.most → layout ≡ chain_layout setup → run ≡ new_run layout log → portion ≡ no_portion setup.depth
    → IsReading setup chain known known old old run portion MOST_BLOCKS
reading_begins setup chain known old layout run portion log some laid is none = record {
  read = [];
  consumed = Consumes-nil known;
  many = omega arith;
  come = has_begun setup chain old run portion log (is ∙ ap (λ (l : Layout). new_run l log) laid) none;
  few =
      let empty : request_count (replicate 64 []) ≡ 64 * 0 = sum_by-replicate (λ (list : List Query). length list) 64 [] in
      let same : request_count portion.lists ≡ request_count (replicate 64 []) = ap (λ (p : PortionState). request_count p.lists) none in
      omega (arith, some, empty, same);
}

-- no more is read
pub still_read : (setup : Setup) (chain : ChainSetup) (known left next old now : Option (List ℕ)) (run : RunState) (portion : PortionState) (room : ℕ)
    → IsReading setup chain known left old now run portion room → Keeps left next → IsReading setup chain known next old now run portion room
still_read setup chain known left next old now run portion room reading keeps = record {
  read = reading.read;
  consumed = Consumes-kept known left next reading.read reading.consumed keeps;
  many = reading.many;
  come = reading.come;
  few = reading.few;
}

-- a block is read and taken
pub reads_on : (setup : Setup) (chain : ChainSetup) (known left next old now new : Option (List ℕ)) (run after : RunState) (portion behind : PortionState)
    (room more : ℕ) (piece : List ℕ) → (reading : IsReading setup chain known left old now run portion room) → Consumes left next piece
    → 0 < length piece → room ≡ more + 1 → HasCome setup chain (reading.read ++ piece) old new after behind
    → request_count behind.lists < chain.most → IsReading setup chain known next old new after behind more
reads_on setup chain known left next old now new run after portion behind room more piece reading lost some less come few = record {
  read = reading.read ++ piece;
  consumed = Consumes-trans known left next reading.read piece reading.consumed lost;
  many = omega (arith, reading.many, some, less, length-append reading.read piece);
  come = come;
  few = few;
}

-- what is read with a block
pub lost_with : (setup : Setup) (chain : ChainSetup) (known left next old now : Option (List ℕ)) (run : RunState) (portion : PortionState) (room : ℕ)
    (piece : List ℕ) → (reading : IsReading setup chain known left old now run portion room) → Consumes left next piece
    → Consumes known next (reading.read ++ piece)
lost_with setup chain known left next old now run portion room piece reading lost =
    Consumes-trans known left next reading.read piece reading.consumed lost

-- what was written so far
pub written_here : (setup : Setup) (chain : ChainSetup) (bytes : List ℕ) (old now : Option (List ℕ)) (run : RunState) (portion : PortionState)
    → HasCome setup chain bytes old now run portion → request_count portion.lists ≤ chain.most → HasWrittenSome setup chain 0 bytes old now
written_here setup chain bytes old now run portion come few =
    subst (λ (bytes : List ℕ). HasWrittenSome setup chain 0 bytes old now) (append-nil bytes)
    (written_so_far setup chain bytes [] 0 old now run portion come few (omega arith))

pub written_between : (setup : Setup) (chain : ChainSetup) (known left old now : Option (List ℕ)) (run : RunState) (portion : PortionState) (room : ℕ)
    → IsReading setup chain known left old now run portion room → HasWrittenSegments setup chain known left old now
written_between setup chain known left old now run portion room reading =
    segments_written setup chain 0 reading.read known left old now reading.consumed
    (written_here setup chain reading.read old now run portion reading.come (omega (arith, reading.few))) (omega arith)

-- the name of no log
abbrev no_log : TableId
no_log = record { words = 0; slots = 0; views_name = 0; atom = 0; block = 0; offset = 0; slot_names = [] }

-- nothing was read and nothing written
pub none_written : (setup : Setup) (chain : ChainSetup) (known old : Option (List ℕ)) → HasWrittenSegments setup chain known known old old
none_written setup chain known old =
    let layout = chain_layout setup in
    written_between setup chain known known old old (new_run layout no_log) (no_portion setup.depth) MOST_BLOCKS
    (reading_begins setup chain known old layout (new_run layout no_log) (no_portion setup.depth) no_log chain.in_range.0 refl refl refl)

-- whatever the fault
pub whatever_fault : {A : Type 0} (result : Result A ProgFault) (Written : Type 0) → Written → IfErr result (λ fault. fault ≢ CannotWrite → Written)
whatever_fault (Ok value) Written written = tt
whatever_fault (Err fault) Written written = λ other. written

-- as many blocks were read as may be
pub reads_too_much : (setup : Setup) (chain : ChainSetup) (known left old now : Option (List ℕ)) (run : RunState) (portion : PortionState) (room : ℕ)
    (last : Option ℕ) → IsReading setup chain known left old now run portion room → room ≡ 0 → IsUnreadable (2 ^ 52 - 1) known left last
reads_too_much setup chain known left old now run portion room last reading none =
    inr (reading.read, reading.consumed, omega (arith, reading.many, none))

-- ---- the end of the script

-- the last line is bad
pub end_line_fault : (setup : Setup) (chain : ChainSetup) (bytes : List ℕ) (old now : Option (List ℕ)) (run : RunState) (portion : PortionState)
    (fail : Fail BadLineOfScript) → HasCome setup chain bytes old now run portion
    → IfRefused (λ bad. (bad.0 ≡ portion.number) × IsNoRequest portion.depth portion.begun) fail
    → IsLastFault setup.depth bytes (script_fault fail)
end_line_fault setup chain bytes old now run portion fails.Memory come bad = tt
end_line_fault setup chain bytes old now run portion (fails.Refused bad) come is =
    bad_end setup chain bytes old now run portion bad.0 come is.0 is.1

none_is_some : (status : ℕ) → Some status ≡ None → ⊥
none_is_some status is = cc

same_status : (first second : ℕ) → Some first ≡ Some second → first ≡ second
same_status first second is = cc

-- the answer is whole, or the output can't be written to
pub end_told : {J E : Type 0} (setup : Setup) (chain : ChainSetup) (bytes : List ℕ) (old now new end : Option (List ℕ)) (run : RunState)
    (portion : PortionState) (lists : List (List Query)) (after : After J) (result : Result ℕ E) → HasCome setup chain bytes old now run portion
    → EndsPortion portion lists → request_count lists ≤ chain.most → HasRunSegment chain.as_trace run lists now new after → status_of after ≡ None
    → IfOk result (λ status. (status ≡ 0) × Appends new end (end_line chain.as_trace))
    → IfOk result (λ status. (text : List ℕ) × IsServedChain setup chain bytes bytes text status × Appends old end text)
end_told {J = J} setup chain bytes old now new end run portion lists (GoesOn next) (Ok status) come ends few made none line =
    subst (λ (status : ℕ). (text : List ℕ) × IsServedChain setup chain bytes bytes text status × Appends old end text) (sym line.0)
    (whole_told {J = J} setup chain bytes old now new end run next portion lists come ends few made line.1)
end_told setup chain bytes old now new end run portion lists (GoesOn next) (Err fault) come ends few made none line = tt
end_told setup chain bytes old now new end run portion lists (Ends status) result come ends few made none line = absurd (none_is_some status none)

-- or the last segment is the last of the run
pub stop_told : {J : Type 0} (setup : Setup) (chain : ChainSetup) (bytes : List ℕ) (old now new : Option (List ℕ)) (run : RunState)
    (portion : PortionState) (lists : List (List Query)) (after : After J) (status : ℕ) → HasCome setup chain bytes old now run portion
    → EndsPortion portion lists → request_count lists ≤ chain.most → HasRunSegment chain.as_trace run lists now new after
    → status_of after ≡ Some status → (text : List ℕ) × IsServedChain setup chain bytes bytes text status × Appends old new text
stop_told setup chain bytes old now new run portion lists (GoesOn next) status come ends few made is = absurd (none_is_some status (sym is))
stop_told {J = J} setup chain bytes old now new run portion lists (Ends ended) status come ends few made is =
    subst (λ (status : ℕ). (text : List ℕ) × IsServedChain setup chain bytes bytes text status × Appends old new text) (same_status ended status is)
    (last_told {J = J} setup chain bytes old now new run portion lists ended come ends few made)

-- the answer is on the whole input
pub whole_report : {E : Type 0} (setup : Setup) (chain : ChainSetup) (bytes : List ℕ) (known left old new : Option (List ℕ)) (result : Result ℕ E)
    → Consumes known left bytes → IsAtEnd left
    → IfOk result (λ status. (text : List ℕ) × IsServedChain setup chain bytes bytes text status × Appends old new text)
    → IfOk result (HasServed setup chain known left old new)
whole_report setup chain bytes known left old new (Ok status) consumed end told = record {
  front = bytes;
  behind = [];
  consumed = subst (Consumes known left) (sym (append-nil bytes)) consumed;
  one_block = omega arith;
  report = record { input = bytes; is_read = whole_read known left bytes consumed end; text = told.0; is_report = told.1; written = told.2 };
}
whole_report setup chain bytes known left old new (Err fault) consumed end told = tt

pub whole_fault : {A : Type 0} (depth : Depth) (bytes : List ℕ) (known left : Option (List ℕ)) (result : Result A ProgFault) → Consumes known left bytes
    → IsAtEnd left → IfErr result (IsLastFault depth bytes) → IfErr result (IsChainFault depth known)
whole_fault depth bytes known left (Ok value) consumed end failed = tt
whole_fault depth bytes known left (Err fault) consumed end failed =
    last_fault depth known bytes fault (whole_read known left bytes consumed end) failed

-- only the last read can be refused
pub never_unread : {A : Type 0} (depth : Depth) (bytes : List ℕ) (known left : Option (List ℕ)) (last : Option ℕ) (result : Result A ProgFault)
    → IfErr result (IsLastFault depth bytes) → IfErr result (λ fault. fault ≡ CannotRead → IsUnreadable (2 ^ 52 - 1) known left last)
never_unread depth bytes known left last (Ok value) failed = tt
never_unread depth bytes known left last (Err fault) failed = λ same. absurd (subst (IsLastFault depth bytes) same failed)

pub whole_written : {A : Type 0} (setup : Setup) (chain : ChainSetup) (bytes : List ℕ) (known left old new : Option (List ℕ)) (result : Result A ProgFault)
    → Consumes known left bytes → IfErr result (λ fault. fault ≢ CannotWrite → HasWrittenSome setup chain 0 bytes old new)
    → IfErr result (λ fault. fault ≢ CannotWrite → HasWrittenSegments setup chain known left old new)
whole_written setup chain bytes known left old new (Ok value) consumed failed = tt
whole_written setup chain bytes known left old new (Err fault) consumed failed = λ written.
    segments_written setup chain 0 bytes known left old new consumed (failed written) (omega arith)

-- the same of a piece that is not taken
pub lasts_unread : (depth : Depth) (bytes : List ℕ) (known left : Option (List ℕ)) (last : Option ℕ) (fault : ProgFault) → IsLastingFault depth bytes fault
    → fault ≡ CannotRead → IsUnreadable (2 ^ 52 - 1) known left last
lasts_unread depth bytes known left last fault failed same = absurd (subst (IsLastingFault depth bytes) same failed)

-- what was read with a last block that has nothing
pub read_to_end : (setup : Setup) (chain : ChainSetup) (known left next old now : Option (List ℕ)) (run : RunState) (portion : PortionState) (room : ℕ)
    (piece : List ℕ) → (reading : IsReading setup chain known left old now run portion room) → Consumes left next piece → piece ≡ []
    → Consumes known next reading.read
read_to_end setup chain known left next old now run portion room piece reading lost none =
    subst (Consumes known next) (append-nil reading.read)
    (subst (λ (piece : List ℕ). Consumes known next (reading.read ++ piece)) none
    (lost_with setup chain known left next old now run portion room piece reading lost))
