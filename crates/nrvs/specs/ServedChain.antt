-- What `run --chain` answers to a script of any length: what came of each call, segment by segment, and that the run is verified; or what came
-- of the calls of the segments that are right, and the first fault of the next.
use Rattle.std.specs.Prelude.{◌≡◌, ◌<◌, ◌≤◌, ◌⊎◌, ℕ, ◌++◌, Bool, List, [], ◌∷◌, Option, codes, flat_map, length, slice_index_or, ⊤}
use Rattle.std.specs.List.{All, AllZip}
use Rattle.std.specs.Io.KnownBytes.{Appends, Consumes}
use Rattle.vs_types.specs.Config.{Layout}
use Rattle.vs_types.specs.declared.addresses.depth.Depth.{Depth}
use Rattle.vs_types.specs.declared.requests.request.Query.{Query}
use Rattle.nr_trace.specs.declared.refusals.fault.Fault.{Fault}
use Rattle.nr_chain.specs.Headline.{IsRightChain}
use Rattle.nr_ring.specs.Pass.{Known, TableId}
use Rattle.nr_ring.specs.declared.ring.log_event.LogEvent.{LogEvent}
use Rattle.nr_serve.specs.ChainOfRun.{HasFailed, RunsOn, logs_of, orders_of}
use Rattle.nr_serve.specs.Run.{IsLogOf}
use Rattle.nr_serve.specs.RunState.{HasOneLog, RunState, new_run}
use Rattle.nr_serve.specs.SegmentRun.{AreAllAnswered, IsRightSegment, Ran}
use Rattle.nr_script.specs.Lines.{lines, Says}
use Rattle.nr_script.specs.Portion.{IsNoRequest, number_behind, request_count}
use Rattle.nr_script.specs.Script.{requests_by, steps_of}
use Rattle.nr_script.specs.declared.line.Line.{Line}
use Rattle.audit_readers.specs.Answers.{IsReadOf, WritesReport}
use Rattle.audit_readers.specs.declared.fault.ProgFault.{ProgFault}
use Rattle.audit_readers.specs.declared.fault.ProgFault.TheVariants.{BadLine, CannotRead, CannotWrite, Memory, NoThread}
use Rattle.nrvs.specs.RunText.{refused_text, said_lines}
use Rattle.nrvs.specs.ServedRun.{asked_for}
use Rattle.nrvs.specs.Simulation.{layout_of}
use Rattle.nrvs.specs.declared.runs.chain_setup.ChainSetup.{ChainSetup}
use Rattle.nrvs.specs.declared.runs.setup.Setup.{Setup}

-- the lines of a segment's calls; its bytes, where these are asked for
abbrev pub segment_text : Bool → Ran → List ℕ
segment_text as_trace ran = asked_for as_trace ran.bytes (said_lines ran.answers)

-- the texts of segments, one after the other
abbrev pub segments_text : Bool → List Ran → List ℕ
segments_text as_trace segments = flat_map (segment_text as_trace) segments

-- that the run is verified, which is said behind the last segment, but not behind bytes
abbrev pub end_line : Bool → List ℕ
end_line as_trace = asked_for as_trace [] (codes "verified\n")

-- a run in segments has 64 threads
abbrev pub chain_layout : Setup → Layout
chain_layout setup = layout_of setup 64

-- the bytes begin with lines that say this, and no line of them is a step; then come these lines
pub record BeginsAsScript (depth : Depth) (bytes : List ℕ) (said : List Line) (rest : List (List ℕ)) : Type 0 where
  pub texts : List (List ℕ)
  pub lines_are : lines bytes ≡ texts ++ rest
  pub each_says : AllZip (Says depth) texts said
  pub no_step : steps_of said ≡ []

-- what a thread was given in these segments, one after the other
abbrev pub given_to : List Ran → ℕ → List Query
given_to segments thread = flat_map (λ ran. slice_index_or ran.scripts thread []) segments

-- each of 64 threads was given in segments what these lines ask of it, but for what is left
abbrev pub AreGivenBut : (ℕ → List Query) → List Line → List Ran → Type 0
AreGivenBut left said segments = (thread : ℕ) → thread < 64 → given_to segments thread ++ left thread ≡ requests_by said thread

-- each of 64 threads was given in segments what these lines ask of it
abbrev pub AreGiven : List Line → List Ran → Type 0
AreGiven said segments = AreGivenBut (λ thread. []) said segments

-- each segment was given so many requests
abbrev pub AreFull : ℕ → List Ran → Type 0
AreFull most segments = All (λ ran. request_count ran.scripts ≡ most) segments

-- all lines were asked, in segments that are right, of which all but the last are full: their bytes are one right chain, and their logs are one
-- log
pub record TellsAll (setup : Setup) (chain : ChainSetup) (bytes text : List ℕ) (status : ℕ) : Type 0 where
  pub said : List Line
  pub script : BeginsAsScript setup.depth bytes said []
  pub log : TableId
  pub own : List ℕ
  pub segments : List Ran
  pub full : AreFull chain.most segments
  pub last : Ran
  pub few : request_count last.scripts ≤ chain.most
  pub end : RunState
  pub runs : RunsOn (new_run (chain_layout setup) log) own (segments ++ last ∷ []) end
  pub given : AreGiven said (segments ++ last ∷ [])
  pub right : IsRightChain own (orders_of (segments ++ last ∷ []))
  pub one_log : HasOneLog end (logs_of (segments ++ last ∷ []))
  pub text_is : text ≡ segments_text chain.as_trace (segments ++ last ∷ []) ++ end_line chain.as_trace
  pub status_is : status ≡ 0

-- full segments are right up to here. The front of the bytes begins with the lines that asked for them and for what is left; but one line has
-- begun. Nothing was asked of the bytes behind the front
pub record HasRunFront (setup : Setup) (chain : ChainSetup) (front bytes : List ℕ) : Type 0 where
  pub behind : List ℕ
  pub bytes_are : bytes ≡ front ++ behind
  pub said : List Line
  pub rest : List (List ℕ)
  pub script : BeginsAsScript setup.depth front said rest
  pub one_begun : length rest ≤ 1
  pub log : TableId
  pub own : List ℕ
  pub segments : List Ran
  pub full : AreFull chain.most segments
  pub mid : RunState
  pub runs : RunsOn (new_run (chain_layout setup) log) own segments mid

-- a thread was stopped in the last segment: the same of these segments, which were given what the lines of the front ask
pub record TellsStopped (setup : Setup) (chain : ChainSetup) (front bytes text : List ℕ) (status : ℕ) : Type 0 where
  pub so_far : HasRunFront setup chain front bytes
  pub last : Ran
  pub few : request_count last.scripts ≤ chain.most
  pub passes : List Known
  pub history : List LogEvent
  pub is_right : IsRightSegment so_far.mid last passes history
  pub stopped : AreAllAnswered last.scripts last.answers → ⊥
  pub given : AreGiven so_far.said (so_far.segments ++ last ∷ [])
  pub right : IsRightChain (so_far.own ++ last.bytes) (orders_of (so_far.segments ++ last ∷ []))
  pub one_log : IsLogOf (chain_layout setup) (logs_of (so_far.segments ++ last ∷ [])) passes
  pub text_is : text ≡ segments_text chain.as_trace (so_far.segments ++ last ∷ []) ++ end_line chain.as_trace
  pub status_is : status ≡ 0

-- a segment behind right ones is wrong, and this is its first fault. It was the last that was run
pub record TellsWrong (setup : Setup) (chain : ChainSetup) (front bytes text : List ℕ) (status : ℕ) : Type 0 where
  pub so_far : HasRunFront setup chain front bytes
  pub scripts : List (List Query)
  pub few : request_count scripts ≤ chain.most
  pub given : AreGivenBut (λ thread. slice_index_or scripts thread []) so_far.said so_far.segments
  pub wrong : List ℕ
  pub fault : Fault
  pub failed : HasFailed so_far.mid scripts wrong fault
  pub text_is : text ≡ segments_text chain.as_trace so_far.segments ++ asked_for chain.as_trace wrong (refused_text fault)
  pub status_is : status ≡ 1

-- the answer of `run --chain`: of a run that ended early, nothing was asked of the bytes behind this front
abbrev pub IsServedChain : Setup → ChainSetup → List ℕ → List ℕ → List ℕ → ℕ → Type 0
IsServedChain setup chain front bytes text status =
    TellsAll setup chain bytes text status ⊎ TellsStopped setup chain front bytes text status ⊎ TellsWrong setup chain front bytes text status

-- the answer on the input was written. Of what was read, nothing was asked of no more than a block
pub record HasServed (setup : Setup) (chain : ChainSetup) (known unread old new : Option (List ℕ)) (status : ℕ) : Type 0 where
  pub front : List ℕ
  pub behind : List ℕ
  pub consumed : Consumes known unread (front ++ behind)
  pub one_block : length behind ≤ 4096
  pub report : WritesReport (IsServedChain setup chain front) known old new status

-- a line of the input has no form or is a step, and none before it does or is; from 4,294,967,295 on its number is that
pub record HasNoRequestLine (depth : Depth) (known : Option (List ℕ)) (number : ℕ) : Type 0 where
  pub input : List ℕ
  pub is_read : IsReadOf known input
  pub said : List Line
  pub line : List ℕ
  pub rest : List (List ℕ)
  pub script : BeginsAsScript depth input said (line ∷ rest)
  pub number_is : number ≡ number_behind 1 (length said)
  pub is_bad : IsNoRequest depth line

-- why `run --chain` gives no answer: a line; or an end gave an error, no thread could be started, the log could not be cut or memory ran out,
-- of which no contract says when
abbrev pub IsChainFault : Depth → Option (List ℕ) → ProgFault → Type 0
IsChainFault depth known (BadLine number) = HasNoRequestLine depth known number
IsChainFault depth known NoThread = ⊤
IsChainFault depth known CannotRead = ⊤
IsChainFault depth known CannotWrite = ⊤
IsChainFault depth known Memory = ⊤
IsChainFault depth known _ = ⊥

-- what was written where there is no answer: what came of right segments, all full. Of the lines that were read, the requests that are left
-- fill no more than a segment. Then come a line that has begun, and no more than a block
pub record HasWrittenSegments (setup : Setup) (chain : ChainSetup) (known unread old new : Option (List ℕ)) : Type 0 where
  pub front : List ℕ
  pub behind : List ℕ
  pub consumed : Consumes known unread (front ++ behind)
  pub one_block : length behind ≤ 4096
  pub said : List Line
  pub begun : List ℕ
  pub script : BeginsAsScript setup.depth front said (begun ∷ [])
  pub log : TableId
  pub own : List ℕ
  pub segments : List Ran
  pub full : AreFull chain.most segments
  pub end : RunState
  pub runs : RunsOn (new_run (chain_layout setup) log) own segments end
  pub left : List (List Query)
  pub few : request_count left ≤ chain.most
  pub given : AreGivenBut (λ thread. slice_index_or left thread []) said segments
  pub written : Appends old new (segments_text chain.as_trace segments)
