-- Why a long run gives no answer, what was written then, and how far was read.
use Rattle.std.proofs.Common.{◌≡◌, ◌≤◌, ℕ, ◌++◌, List, [], ◌∷◌, length, Option, Some, refl, sym, ap, subst, ◌∙◌, arith}
use Rattle.std.proofs.Common.{append_assoc}
use Rattle.std.specs.List.{AllZip}
use Rattle.std.specs.Io.KnownBytes.{Consumes}
use Rattle.vs_types.specs.declared.addresses.depth.Depth.{Depth}
use Rattle.nr_serve.specs.RunState.{RunState}
use Rattle.nr_script.specs.Lines.{lines, Says}
use Rattle.nr_script.specs.Portion.{HasBadNext, IsNoRequest, PortionState, number_behind, request_count}
use Rattle.nr_script.specs.Script.{steps_of}
use Rattle.nr_script.specs.declared.line.Line.{Line}
use Rattle.nr_script.proofs.LinesFed.{lines_go_on}
use Rattle.audit_readers.specs.Answers.{IsReadOf}
use Rattle.audit_readers.specs.declared.fault.ProgFault.{ProgFault}
use Rattle.audit_readers.specs.declared.fault.ProgFault.TheVariants.{BadAddress, BadLine, CannotRead, CannotWrite, InputTooLong}
use Rattle.audit_readers.specs.declared.fault.ProgFault.TheVariants.{Memory, NoSuchReplica, NoThread, NotCanonical}
use Rattle.audit_readers.proofs.Inputs.{whole_with}
use Rattle.nrvs.specs.ServedChain.{BeginsAsScript, HasNoRequestLine, HasServed, HasWrittenSegments, IsChainFault}
use Rattle.nrvs.specs.ServedRun.{IsRunEnd}
use Rattle.nrvs.specs.inside.ChainGoing.{EndsHere, HasCome, HasWrittenSome, IsLastFault, IsLastingFault}
use Rattle.nrvs.specs.declared.runs.chain_setup.ChainSetup.{ChainSetup}
use Rattle.nrvs.specs.declared.runs.setup.Setup.{Setup}
use Rattle.nrvs.proofs.ServedChains.{lines_come}

no_request_line : (depth : Depth) (input : List ℕ) (texts : List (List ℕ)) (said : List Line) (line : List ℕ) (rest : List (List ℕ)) (number : ℕ)
    → lines input ≡ texts ++ line ∷ rest → AllZip (Says depth) texts said → steps_of said ≡ [] → number ≡ number_behind 1 (length said)
    → IsNoRequest depth line → HasNoRequestLine depth (Some input) number
no_request_line depth input texts said line rest number lines_are says none number_is bad = record {
  input = input;
  is_read = refl;
  said = said;
  line = line;
  rest = rest;
  script = record { texts = texts; lines_are = lines_are; each_says = says; no_step = none };
  number_is = number_is;
  is_bad = bad;
}

-- a line of the piece
pub bad_line : (setup : Setup) (chain : ChainSetup) (bytes piece : List ℕ) (old now : Option (List ℕ)) (run : RunState) (portion : PortionState) (number : ℕ)
    → HasCome setup chain bytes old now run portion → HasBadNext portion piece chain.most number → IsLastingFault setup.depth (bytes ++ piece) (BadLine number)
bad_line setup chain bytes piece old now run portion number come bad = λ behind.
    let mid = lines_come setup chain bytes bad.front old now run portion bad.mid come bad.takes in
    let front = bytes ++ bad.front in
    let ended = bad.lines_are front mid.before mid.ends_in in
    let goes = lines_go_on (front ++ bad.ended) (bad.rest ++ behind) [] (mid.before ++ bad.line ∷ []) ended in
    let all = lines (bad.rest ++ behind) in
    let lines_are : lines ((front ++ bad.ended) ++ (bad.rest ++ behind)) ≡ mid.before ++ bad.line ∷ all =
    goes ∙ append_assoc mid.before (bad.line ∷ []) all in
    let same : (front ++ bad.ended) ++ (bad.rest ++ behind) ≡ (bytes ++ piece) ++ behind =
    sym (append_assoc (front ++ bad.ended) bad.rest behind)
    ∙ ap (λ (whole : List ℕ). whole ++ behind) (append_assoc front bad.ended bad.rest ∙ append_assoc bytes bad.front (bad.ended ++ bad.rest)
    ∙ ap (λ (piece : List ℕ). bytes ++ piece) (sym bad.split)) in
    no_request_line setup.depth ((bytes ++ piece) ++ behind) mid.before mid.said bad.line all number (ap lines (sym same) ∙ lines_are) mid.each_says
    mid.no_step (bad.number_is ∙ mid.number_is) (subst (λ (depth : Depth). IsNoRequest depth bad.line) come.depth_is bad.is_bad)

-- the last line
pub bad_end : (setup : Setup) (chain : ChainSetup) (bytes : List ℕ) (old now : Option (List ℕ)) (run : RunState) (portion : PortionState) (number : ℕ)
    → HasCome setup chain bytes old now run portion → number ≡ portion.number → IsNoRequest portion.depth portion.begun
    → HasNoRequestLine setup.depth (Some bytes) number
bad_end setup chain bytes old now run portion number come is bad =
    no_request_line setup.depth bytes come.before come.said portion.begun [] number come.ends_in come.each_says come.no_step (is ∙ come.number_is)
    (subst (λ (depth : Depth). IsNoRequest depth portion.begun) come.depth_is bad)

-- whatever comes behind what was written, if it is not too much
pub written_so_far : (setup : Setup) (chain : ChainSetup) (bytes behind : List ℕ) (most : ℕ) (old now : Option (List ℕ)) (run : RunState)
    (portion : PortionState) → HasCome setup chain bytes old now run portion → request_count portion.lists ≤ chain.most → length behind ≤ most
    → HasWrittenSome setup chain most (bytes ++ behind) old now
written_so_far setup chain bytes behind most old now run portion come few short =
    record { front = bytes; behind = behind; split = refl; short = short; run = run; portion = portion; few = few; come = come }

pub segments_written : (setup : Setup) (chain : ChainSetup) (most : ℕ) (bytes : List ℕ) (known unread old new : Option (List ℕ))
    → Consumes known unread bytes → HasWrittenSome setup chain most bytes old new → most ≤ 4096 → HasWrittenSegments setup chain known unread old new
segments_written setup chain most bytes known unread old new consumed some less =
    let come = some.come in
    record {
      front = some.front;
      behind = some.behind;
      consumed = subst (Consumes known unread) some.split consumed;
      one_block = omega (arith, some.short, less);
      said = come.said;
      begun = some.portion.begun;
      script = record { texts = come.before; lines_are = come.ends_in; each_says = come.each_says; no_step = come.no_step };
      log = come.asked.log;
      own = come.asked.own;
      segments = come.asked.segments;
      full = come.asked.full;
      end = some.run;
      runs = come.asked.runs;
      left = some.portion.lists;
      few = some.few;
      given = come.asked.given;
      written = come.asked.written;
    }

-- a line of these bytes is one of the input that they are
line_of_input : (depth : Depth) (known : Option (List ℕ)) (input : List ℕ) (number : ℕ) → IsReadOf known input
    → HasNoRequestLine depth (Some input) number → HasNoRequestLine depth known number
line_of_input depth known input number is bad = record {
  input = input;
  is_read = is;
  said = bad.said;
  line = bad.line;
  rest = bad.rest;
  script = subst (λ (input : List ℕ). BeginsAsScript depth input bad.said (bad.line ∷ bad.rest)) bad.is_read bad.script;
  number_is = bad.number_is;
  is_bad = bad.is_bad;
}

-- what no contract says
pub run_fault : (depth : Depth) (bytes : List ℕ) (fault : ProgFault) → IsRunEnd fault → IsLastingFault depth bytes fault
run_fault depth bytes NoThread end = end
run_fault depth bytes CannotWrite end = end
run_fault depth bytes Memory end = end
run_fault depth bytes BadAddress end = absurd end
run_fault depth bytes NotCanonical end = absurd end
run_fault depth bytes NoSuchReplica end = absurd end
run_fault depth bytes InputTooLong end = absurd end
run_fault depth bytes (BadLine number) end = absurd end
run_fault depth bytes CannotRead end = absurd end

pub run_last_fault : (depth : Depth) (bytes : List ℕ) (fault : ProgFault) → IsRunEnd fault → IsLastFault depth bytes fault
run_last_fault depth bytes NoThread end = end
run_last_fault depth bytes CannotWrite end = end
run_last_fault depth bytes Memory end = end
run_last_fault depth bytes BadAddress end = absurd end
run_last_fault depth bytes NotCanonical end = absurd end
run_last_fault depth bytes NoSuchReplica end = absurd end
run_last_fault depth bytes InputTooLong end = absurd end
run_last_fault depth bytes (BadLine number) end = absurd end
run_last_fault depth bytes CannotRead end = absurd end

-- bytes that are not taken are at the front of the input
pub lasting_fault : (depth : Depth) (known unread : Option (List ℕ)) (bytes : List ℕ) (fault : ProgFault) → Consumes known unread bytes
    → IsLastingFault depth bytes fault → IsChainFault depth known fault
lasting_fault depth known unread bytes (BadLine number) consumed lasts =
    let (behind, is) = whole_with known unread bytes consumed in
    line_of_input depth known (bytes ++ behind) number is (lasts behind)
lasting_fault depth known unread bytes NoThread consumed end = tt
lasting_fault depth known unread bytes CannotWrite consumed end = tt
lasting_fault depth known unread bytes Memory consumed end = tt
lasting_fault depth known unread bytes BadAddress consumed end = absurd end
lasting_fault depth known unread bytes NotCanonical consumed end = absurd end
lasting_fault depth known unread bytes NoSuchReplica consumed end = absurd end
lasting_fault depth known unread bytes InputTooLong consumed end = absurd end
lasting_fault depth known unread bytes CannotRead consumed end = absurd end

-- or they are the whole of it
pub last_fault : (depth : Depth) (known : Option (List ℕ)) (bytes : List ℕ) (fault : ProgFault) → IsReadOf known bytes → IsLastFault depth bytes fault
    → IsChainFault depth known fault
last_fault depth known bytes (BadLine number) is bad = line_of_input depth known bytes number is bad
last_fault depth known bytes NoThread is end = tt
last_fault depth known bytes CannotWrite is end = tt
last_fault depth known bytes Memory is end = tt
last_fault depth known bytes BadAddress is end = absurd end
last_fault depth known bytes NotCanonical is end = absurd end
last_fault depth known bytes NoSuchReplica is end = absurd end
last_fault depth known bytes InputTooLong is end = absurd end
last_fault depth known bytes CannotRead is end = absurd end

-- the answer is on the input
pub ended_report : (setup : Setup) (chain : ChainSetup) (most : ℕ) (bytes : List ℕ) (known unread old new : Option (List ℕ)) (status : ℕ)
    → Consumes known unread bytes → EndsHere setup chain most bytes old new status → most ≤ 4096 → HasServed setup chain known unread old new status
ended_report setup chain most bytes known unread old new status consumed ends less =
    let (more, is) = whole_with known unread bytes consumed in
    record {
      front = ends.front;
      behind = ends.behind;
      consumed = subst (Consumes known unread) ends.split consumed;
      one_block = omega (arith, ends.short, less);
      report = record { input = bytes ++ more; is_read = is; text = ends.text; is_report = ends.tells more; written = ends.written };
    }
