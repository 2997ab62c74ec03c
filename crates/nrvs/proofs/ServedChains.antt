-- How a run in segments goes on: with the lines of a piece, with a segment that is full, and to its end.
use Rattle.std.proofs.Common.{◌≡◌, ◌<◌, ◌≤◌, ℕ, ◌+◌, ◌++◌, ◌⊎◌, Bool, true, false, List, [], ◌∷◌, length, Option, refl, sym, ap, ap₂, subst, ◌∙◌, arith}
use Rattle.std.proofs.Common.{append-nil, append_assoc, get_or, replicate, inl, inr, codes, Result, Ok, Err}
use Rattle.std.specs.Prelude.{IfOk, OnOk}
use Rattle.std.specs.List.{All, AllZip}
use Rattle.std.specs.Io.KnownBytes.{Appends}
use Rattle.std.proofs.KnownBytes.{Appends-nil, Appends-trans}
use Rattle.std.proofs.lemmas.Grind.{flat_map-append}
use Rattle.std.proofs.lemmas.List.Elements.{All-append, All-from_recursion}
use Rattle.std.proofs.lemmas.List.{get_or-append-add, get_or-replicate, get_or_default, length-append, length-replicate}
use Rattle.vs_types.specs.Config.{Layout}
use Rattle.vs_types.specs.Query.{AreScripts, IsQuery}
use Rattle.vs_types.specs.declared.addresses.depth.Depth.{Depth}
use Rattle.vs_types.specs.declared.requests.request.Query.{Query}
use Rattle.nr_core.specs.declared.runs.step.Step.{Step}
use Rattle.nr_ring.specs.Pass.{Known, TableId}
use Rattle.nr_ring.specs.declared.ring.log_event.LogEvent.{LogEvent}
use Rattle.nr_serve.specs.ChainOfRun.{IsOutcomeOf, RunsOn, ran_of}
use Rattle.nr_serve.specs.RunState.{RunState, new_run}
use Rattle.nr_serve.specs.SegmentRun.{GoesOn as GoesOnBehind, IsRightSegment, Ran}
use Rattle.nr_serve.specs.declared.endings.segment_outcome.SegmentOutcome.{SegmentOutcome}
use Rattle.nr_serve.specs.declared.endings.segment_outcome.SegmentOutcome.TheVariants.{Right, Last, Wrong}
use Rattle.nr_serve.proofs.Runs.{one_log, one_log_with_last, right_with_last, runs_on}
use Rattle.nr_script.specs.Lines.{Says}
use Rattle.nr_script.specs.Portion.{AsksMore, EndsPortion, PortionState, TakesLines, no_portion, request_count}
use Rattle.nr_script.specs.Script.{requests_by, step_in, steps_of}
use Rattle.nr_script.specs.declared.line.Line.{Line}
use Rattle.nr_script.proofs.Portions.{requests_behind}
use Rattle.nr_script.proofs.Shares.{well_formed_requests}
use Rattle.audit_readers.specs.declared.fault.ProgFault.{ProgFault}
use Rattle.nrvs.specs.ServedChain.{AreFull, AreGivenBut, BeginsAsScript, HasRunFront, IsServedChain}
use Rattle.nrvs.specs.ServedChain.{TellsAll, TellsStopped}
use Rattle.nrvs.specs.ServedChain.{TellsWrong, chain_layout, end_line, given_to, segment_text, segments_text}
use Rattle.nrvs.specs.ServedRun.{asked_for}
use Rattle.nrvs.specs.RunText.{said_lines, verified_text}
use Rattle.nrvs.specs.inside.ChainGoing.{EndsHere, HasAsked, HasCome, HasEnded, HasRunSegment, IsAfter}
use Rattle.nrvs.specs.inside.ChainGoing.{told_of_segment}
use Rattle.nrvs.specs.declared.runs.served_chain.After.{After}
use Rattle.nrvs.specs.declared.runs.served_chain.After.TheVariants.{GoesOn, Ends}
use Rattle.nrvs.specs.declared.runs.chain_setup.ChainSetup.{ChainSetup}
use Rattle.nrvs.specs.declared.runs.setup.Setup.{Setup}

-- ---- lists

-- two lists each behind another
zipped_behind : {A B : Type 0} (R : A → B → Type 0) (xs vs : List A) (ys ws : List B) → AllZip R xs ys → AllZip R vs ws → AllZip R (xs ++ vs) (ys ++ ws)
zipped_behind R [] vs [] ws front back = back
zipped_behind R (x ∷ xs) vs (y ∷ ys) ws front back = (front.0, zipped_behind R xs vs ys ws front.1 back)
zipped_behind R _ vs _ ws front back = absurd front

no_steps : (first second : List Line) → steps_of first ≡ [] → steps_of second ≡ [] → steps_of (first ++ second) ≡ []
no_steps first second none other = flat_map-append step_in first second ∙ ap₂ (λ (a b : List Step). a ++ b) none other

given_behind : (segments : List Ran) (ran : Ran) (thread : ℕ)
    → given_to (segments ++ ran ∷ []) thread ≡ given_to segments thread ++ get_or ran.scripts thread []
given_behind segments ran thread =
    flat_map-append (λ (ran : Ran). get_or ran.scripts thread []) segments (ran ∷ [])
    ∙ ap (λ (more : List Query). given_to segments thread ++ more) (append-nil (get_or ran.scripts thread []))

text_behind : (as_trace : Bool) (segments : List Ran) (ran : Ran)
    → segments_text as_trace (segments ++ ran ∷ []) ≡ segments_text as_trace segments ++ segment_text as_trace ran
text_behind as_trace segments ran =
    flat_map-append (segment_text as_trace) segments (ran ∷ [])
    ∙ ap (λ (more : List ℕ). segments_text as_trace segments ++ more) (append-nil (segment_text as_trace ran))

-- ---- what a segment makes of what was asked

-- what is left was given to the segment
all_given : (said : List Line) (segments : List Ran) (ran : Ran) (lists : List (List Query)) → ran.scripts ≡ lists
    → AreGivenBut (λ thread. get_or lists thread []) said segments → (thread : ℕ) → thread < 64
    → given_to (segments ++ ran ∷ []) thread ≡ requests_by said thread
all_given said segments ran lists is given thread below =
    given_behind segments ran thread
    ∙ ap (λ (lists : List (List Query)). given_to segments thread ++ get_or lists thread []) is
    ∙ given thread below

-- what came of a segment more is written
written_behind : (as_trace : Bool) (segments : List Ran) (ran : Ran) (old now new : Option (List ℕ)) → Appends old now (segments_text as_trace segments)
    → Appends now new (segment_text as_trace ran) → Appends old new (segments_text as_trace (segments ++ ran ∷ []))
written_behind as_trace segments ran old now new before behind =
    subst (Appends old new) (sym (text_behind as_trace segments ran))
    (Appends-trans old now new (segments_text as_trace segments) (segment_text as_trace ran) before behind)

full_more : (most : ℕ) (segments : List Ran) (ran : Ran) → AreFull most segments → request_count ran.scripts ≡ most → AreFull most (segments ++ ran ∷ [])
full_more most segments ran full size =
    let P : Ran → Type 0 = λ ran. request_count ran.scripts ≡ most in
    All-append P segments (ran ∷ []) full (All-from_recursion P (ran ∷ []) (size, tt))

-- the run goes on behind a segment that is right
pub goes_behind : (setup : Setup) (chain : ChainSetup) (said : List Line) (lists : List (List Query)) (old now new : Option (List ℕ)) (run next : RunState)
    (ran : Ran) (passes : List Known) (history : List LogEvent) → HasAsked setup chain said lists old now run → ran.scripts ≡ lists
    → request_count lists ≡ chain.most → IsRightSegment run ran passes history → GoesOnBehind run ran history next
    → Appends now new (segment_text chain.as_trace ran)
    → HasAsked setup chain said (replicate 64 []) old new next
goes_behind setup chain said lists old now new run next ran passes history asked is size right on written = record {
  log = asked.log;
  own = asked.own ++ ran.bytes;
  segments = asked.segments ++ ran ∷ [];
  runs = runs_on (new_run (chain_layout setup) asked.log) asked.own asked.segments run ran passes history next asked.runs right on;
  full = full_more chain.most asked.segments ran asked.full (ap request_count is ∙ size);
  one_each = length-replicate {A = List Query} 64 [];
  given = λ thread below.
      ap (λ (left : List Query). given_to (asked.segments ++ ran ∷ []) thread ++ left) (get_or-replicate 64 thread [] [] below)
      ∙ append-nil (given_to (asked.segments ++ ran ∷ []) thread)
      ∙ all_given said asked.segments ran lists is asked.given thread below;
  written = written_behind chain.as_trace asked.segments ran old now new asked.written written;
}

pub segment_goes : {J : Type 0} (setup : Setup) (chain : ChainSetup) (said : List Line) (lists : List (List Query)) (old now new : Option (List ℕ))
    (run next : RunState) → HasAsked setup chain said lists old now run → request_count lists ≡ chain.most
    → HasRunSegment {J = J} chain.as_trace run lists now new (GoesOn next) → HasAsked setup chain said (replicate 64 []) old new next
segment_goes {J = J} setup chain said lists old now new run next asked size made = by_cases made.outcome made.of_scripts made.goes_so made.written where
  by_cases : (outcome : SegmentOutcome J) → IsOutcomeOf run lists outcome → IsAfter outcome (GoesOn next)
      → Appends now new (told_of_segment chain.as_trace outcome)
      → HasAsked setup chain said (replicate 64 []) old new next
  by_cases (Right answers bytes order behind) gone same written =
      subst (HasAsked setup chain said (replicate 64 []) old new) same
      (goes_behind setup chain said lists old now new run behind (ran_of gone.trace lists answers bytes order) gone.passes gone.history asked refl
      size gone.right gone.on written)
  by_cases (Last answers bytes order passes) ended same written = absurd same
  by_cases (Wrong bytes fault) failed same written = absurd same

-- the front of a run that ends early
abbrev run_so_far : (setup : Setup) (chain : ChainSetup) (said : List Line) (lists : List (List Query)) (old now : Option (List ℕ)) (run : RunState)
    → HasAsked setup chain said lists old now run → (front behind : List ℕ) (rest : List (List ℕ)) → BeginsAsScript setup.depth front said rest
    → length rest ≤ 1 → HasRunFront setup chain front (front ++ behind)
run_so_far setup chain said lists old now run asked front behind rest script one = record {
  behind = behind;
  bytes_are = refl;
  said = said;
  rest = rest;
  script = script;
  one_begun = one;
  log = asked.log;
  own = asked.own;
  segments = asked.segments;
  full = asked.full;
  mid = run;
  runs = asked.runs;
}

-- what is written of a last segment: its text and the line behind it
last_text : (as_trace : Bool) (bytes said : List ℕ) → asked_for as_trace bytes said ++ end_line as_trace ≡ asked_for as_trace bytes (said ++ codes "verified\n")
last_text true bytes said = append-nil bytes
last_text false bytes said = refl

-- the segment was the last
pub segment_ends : {J : Type 0} (setup : Setup) (chain : ChainSetup) (said : List Line) (lists : List (List Query)) (old now new : Option (List ℕ))
    (run : RunState) (status : ℕ) → HasAsked setup chain said lists old now run → request_count lists ≤ chain.most
    → HasRunSegment {J = J} chain.as_trace run lists now new (Ends status) → HasEnded setup chain said old new status
segment_ends {J = J} setup chain said lists old now new run status asked few made = by_cases made.outcome made.of_scripts made.goes_so made.written where
  by_cases : (outcome : SegmentOutcome J) → IsOutcomeOf run lists outcome → IsAfter outcome (Ends status)
      → Appends now new (told_of_segment chain.as_trace outcome)
      → HasEnded setup chain said old new status
  by_cases (Right answers bytes order behind) gone same written = absurd same
  by_cases (Last answers bytes order passes) ended same written =
      let ran = ran_of ended.trace lists answers bytes order in
      let front = segments_text chain.as_trace asked.segments in
      let is : front ++ asked_for chain.as_trace bytes (verified_text answers) ≡ segments_text chain.as_trace (asked.segments ++ ran ∷ [])
      ++ end_line chain.as_trace =
      ap (λ (more : List ℕ). front ++ more) (sym (last_text chain.as_trace bytes (said_lines answers)))
      ∙ sym (append_assoc front (segment_text chain.as_trace ran) (end_line chain.as_trace))
      ∙ ap (λ (text : List ℕ). text ++ end_line chain.as_trace) (sym (text_behind chain.as_trace asked.segments ran)) in
      record {
        text = front ++ asked_for chain.as_trace bytes (verified_text answers);
        written = Appends-trans old now new front (asked_for chain.as_trace bytes (verified_text answers)) asked.written written;
        tells = λ front behind rest script one. inl (record {
          so_far = run_so_far setup chain said lists old now run asked front behind rest script one;
          last = ran;
          few = few;
          passes = passes;
          history = ended.history;
          is_right = ended.right;
          stopped = ended.stopped;
          given = λ thread below.
              append-nil (given_to (asked.segments ++ ran ∷ []) thread) ∙ all_given said asked.segments ran lists refl asked.given thread below;
          right = right_with_last (chain_layout setup) asked.log asked.own asked.segments run ran passes ended.history asked.runs ended.right;
          one_log = one_log_with_last (chain_layout setup) asked.log asked.own asked.segments run ran passes ended.history (omega arith) asked.runs
              ended.right;
          text_is = is;
          status_is = same;
        });
      }
  by_cases (Wrong bytes fault) failed same written = record {
    text = segments_text chain.as_trace asked.segments ++ told_of_segment {J = J} chain.as_trace (Wrong bytes fault);
    written =
        Appends-trans old now new (segments_text chain.as_trace asked.segments) (told_of_segment {J = J} chain.as_trace (Wrong bytes fault))
        asked.written written;
    tells = λ front behind rest script one. inr (record {
      so_far = run_so_far setup chain said lists old now run asked front behind rest script one;
      scripts = lists;
      few = few;
      given = asked.given;
      wrong = bytes;
      fault = fault;
      failed = failed;
      text_is = refl;
      status_is = same;
    });
  }

-- all was asked, and the line behind the last segment is written
pub all_told : {J : Type 0} (setup : Setup) (chain : ChainSetup) (said : List Line) (lists : List (List Query)) (old now new end : Option (List ℕ))
    (run next : RunState) (bytes : List ℕ) → HasAsked setup chain said lists old now run → request_count lists ≤ chain.most
    → HasRunSegment {J = J} chain.as_trace run lists now new (GoesOn next) → Appends new end (end_line chain.as_trace)
    → BeginsAsScript setup.depth bytes said []
    → (text : List ℕ) × TellsAll setup chain bytes text 0 × Appends old end text
all_told {J = J} setup chain said lists old now new end run next bytes asked few made line script =
    by_cases made.outcome made.of_scripts made.goes_so made.written
  where
    by_cases : (outcome : SegmentOutcome J) → IsOutcomeOf run lists outcome → IsAfter outcome (GoesOn next)
        → Appends now new (told_of_segment chain.as_trace outcome) → (text : List ℕ) × TellsAll setup chain bytes text 0 × Appends old end text
    by_cases (Right answers own order behind) gone same written =
        let ran = ran_of gone.trace lists answers own order in
        let state = new_run (chain_layout setup) asked.log in
        let all = written_behind chain.as_trace asked.segments ran old now new asked.written written in
        let runs = runs_on state asked.own asked.segments run ran gone.passes gone.history behind asked.runs gone.right gone.on in
        let text = segments_text chain.as_trace (asked.segments ++ ran ∷ []) in (
          text ++ end_line chain.as_trace,
          record {
            said = said;
            script = script;
            log = asked.log;
            own = asked.own ++ own;
            segments = asked.segments;
            full = asked.full;
            last = ran;
            few = few;
            end = behind;
            runs = runs;
            given = λ thread below.
                append-nil (given_to (asked.segments ++ ran ∷ []) thread) ∙ all_given said asked.segments ran lists refl asked.given thread below;
            right = right_with_last (chain_layout setup) asked.log asked.own asked.segments run ran gone.passes gone.history asked.runs gone.right;
            one_log = one_log (chain_layout setup) asked.log (asked.own ++ own) (asked.segments ++ ran ∷ []) behind (omega arith) runs;
            text_is = refl;
            status_is = refl;
          },
          Appends-trans old new end text (end_line chain.as_trace) all line,
        )
    by_cases (Last answers own order passes) ended same written = absurd same
    by_cases (Wrong own fault) failed same written = absurd same

-- ---- the scripts of a segment

-- a run is laid out as it began
laid_out : (state : RunState) (bytes : List ℕ) (segments : List Ran) (end : RunState) → RunsOn state bytes segments end → end.layout ≡ state.layout
laid_out state bytes [] end (none, same) = ap (λ (s : RunState). s.layout) (sym same)
laid_out state bytes (first ∷ segments) end (passes, history, next, rest, is, right, on, more) =
    laid_out next rest segments end more ∙ on.layout_is

back_of : {X : Type 0} (P : X → Type 0) (front back : List X) → All P (front ++ back) → All P back
back_of P front back all = λ k d below.
    subst P (get_or-append-add front back k d) (all (length front + k) d (omega (arith, below, length-append front back)))

-- what is left is a script for each thread
pub are_scripts : (setup : Setup) (chain : ChainSetup) (texts : List (List ℕ)) (said : List Line) (lists : List (List Query)) (old new : Option (List ℕ))
    (run : RunState) → HasAsked setup chain said lists old new run → AllZip (Says setup.depth) texts said → request_count lists ≤ 65536
    → AreScripts run.layout lists
are_scripts setup chain texts said lists old new run asked says few =
    subst (λ (l : Layout). AreScripts l lists) (sym (laid_out (new_run (chain_layout setup) asked.log) asked.own asked.segments run asked.runs)) (record {
      one_each = asked.one_each;
      few = few;
      well_formed = λ k d below.
          let within : k < 64 = omega (arith, asked.one_each, below) in
          let whole = well_formed_requests setup.depth texts said k says in
          let parts = subst (All (IsQuery setup.depth)) (sym (asked.given k within)) whole in
          subst (All (IsQuery setup.depth)) (get_or_default lists k [] d below)
          (back_of (IsQuery setup.depth) (given_to asked.segments k) (get_or lists k []) parts);
    })

-- ---- the lines of the script

-- nothing has come yet
pub has_begun : (setup : Setup) (chain : ChainSetup) (old : Option (List ℕ)) (run : RunState) (portion : PortionState) (log : TableId)
    → run ≡ new_run (chain_layout setup) log → portion ≡ no_portion setup.depth → HasCome setup chain [] old old run portion
has_begun setup chain old run portion log is none =
    subst (HasCome setup chain [] old old run) (sym none)
    (subst (λ (run : RunState). HasCome setup chain [] old old run (no_portion setup.depth)) (sym is) (record {
      depth_is = refl;
      before = [];
      ends_in = refl;
      said = [];
      each_says = tt;
      no_step = refl;
      number_is = refl;
      asked = record {
        log = log;
        own = [];
        segments = [];
        runs = (refl, refl);
        full = λ k d below. absurd (omega (arith, below));
        one_each = length-replicate {A = List Query} 64 [];
        given = λ thread below. get_or-replicate 64 thread [] [] below;
        written = Appends-nil old;
      };
    }))

asks_more : (setup : Setup) (chain : ChainSetup) (first second : List Line) (old lists : List (List Query)) (before now : Option (List ℕ)) (run : RunState)
    → HasAsked setup chain first old before now run → AsksMore old second lists → HasAsked setup chain (first ++ second) lists before now run
asks_more setup chain first second old lists before now run asked more = record {
  log = asked.log;
  own = asked.own;
  segments = asked.segments;
  runs = asked.runs;
  full = asked.full;
  one_each = more.as_many ∙ asked.one_each;
  given = λ thread below.
      let given = given_to asked.segments thread in
      ap (λ (left : List Query). given ++ left) (more.lists_are thread below)
      ∙ sym (append_assoc given (get_or old thread []) (requests_by second thread))
      ∙ ap (λ (front : List Query). front ++ requests_by second thread) (asked.given thread below)
      ∙ sym (requests_behind first second thread);
  written = asked.written;
}

-- lines more have come
pub lines_come : (setup : Setup) (chain : ChainSetup) (bytes piece : List ℕ) (old now : Option (List ℕ)) (run : RunState) (portion next : PortionState)
    → HasCome setup chain bytes old now run portion → TakesLines portion piece next → HasCome setup chain (bytes ++ piece) old now run next
lines_come setup chain bytes piece old now run portion next come takes = record {
  depth_is = takes.depth_is ∙ come.depth_is;
  before = come.before ++ takes.texts;
  ends_in = takes.lines_are bytes come.before come.ends_in;
  said = come.said ++ takes.said;
  each_says =
      zipped_behind (Says setup.depth) come.before takes.texts come.said takes.said come.each_says
      (subst (λ (depth : Depth). AllZip (Says depth) takes.texts takes.said) come.depth_is takes.each_says);
  no_step = no_steps come.said takes.said come.no_step takes.no_step;
  number_is = omega (arith, takes.number_is, come.number_is, length-append come.said takes.said);
  asked = asks_more setup chain come.said takes.said portion.lists next.lists old now run come.asked takes.asks;
}

-- and their segment was run
pub portion_goes : {J : Type 0} (setup : Setup) (chain : ChainSetup) (bytes : List ℕ) (old now new : Option (List ℕ)) (run next : RunState)
    (portion : PortionState) → HasCome setup chain bytes old now run portion → request_count portion.lists ≡ chain.most
    → HasRunSegment {J = J} chain.as_trace run portion.lists now new (GoesOn next)
    → HasCome setup chain bytes old new next (record portion { lists = replicate 64 [] })
portion_goes setup chain bytes old now new run next portion come size made = record {
  depth_is = come.depth_is;
  before = come.before;
  ends_in = come.ends_in;
  said = come.said;
  each_says = come.each_says;
  no_step = come.no_step;
  number_is = come.number_is;
  asked = segment_goes setup chain come.said portion.lists old now new run next come.asked size made;
}

-- the segment was the last
pub portion_ends : {J : Type 0} (setup : Setup) (chain : ChainSetup) (most : ℕ) (bytes rest : List ℕ) (old now new : Option (List ℕ)) (run : RunState)
    (portion : PortionState) (status : ℕ) → HasCome setup chain bytes old now run portion → request_count portion.lists ≡ chain.most
    → HasRunSegment {J = J} chain.as_trace run portion.lists now new (Ends status) → length rest ≤ most
    → EndsHere setup chain most (bytes ++ rest) old new status
portion_ends setup chain most bytes rest old now new run portion status come size made short =
    let ended = segment_ends setup chain come.said portion.lists old now new run status come.asked (omega (arith, size)) made in
    let script : BeginsAsScript setup.depth bytes come.said (portion.begun ∷ []) =
    record { texts = come.before; lines_are = come.ends_in; each_says = come.each_says; no_step = come.no_step } in
    record {
      front = bytes;
      behind = rest;
      split = refl;
      short = short;
      text = ended.text;
      written = ended.written;
      tells = λ more.
          inr (subst (λ (input : List ℕ). TellsStopped setup chain bytes input ended.text status ⊎ TellsWrong setup chain bytes input ended.text status)
          (sym (append_assoc bytes rest more)) (ended.tells bytes (rest ++ more) (portion.begun ∷ []) script (omega arith)));
    }

-- ---- the end of the script

last_line : (setup : Setup) (chain : ChainSetup) (bytes : List ℕ) (old now : Option (List ℕ)) (run : RunState) (portion : PortionState)
    (lists : List (List Query)) → (come : HasCome setup chain bytes old now run portion) → (end : EndsPortion portion lists)
    → BeginsAsScript setup.depth bytes (come.said ++ end.said ∷ []) []
last_line setup chain bytes old now run portion lists come end = record {
  texts = come.before ++ portion.begun ∷ [];
  lines_are = come.ends_in ∙ sym (append-nil (come.before ++ portion.begun ∷ []));
  each_says =
      zipped_behind (Says setup.depth) come.before (portion.begun ∷ []) come.said (end.said ∷ []) come.each_says
      (subst (λ (depth : Depth). Says depth portion.begun end.said) come.depth_is end.says, tt);
  no_step = no_steps come.said (end.said ∷ []) come.no_step (append-nil (step_in end.said) ∙ end.no_step);
}

pub last_asked : (setup : Setup) (chain : ChainSetup) (bytes : List ℕ) (old now : Option (List ℕ)) (run : RunState) (portion : PortionState)
    (lists : List (List Query)) → (come : HasCome setup chain bytes old now run portion) → (end : EndsPortion portion lists)
    → HasAsked setup chain (come.said ++ end.said ∷ []) lists old now run
last_asked setup chain bytes old now run portion lists come end =
    asks_more setup chain come.said (end.said ∷ []) portion.lists lists old now run come.asked end.asks

pub last_scripts : (setup : Setup) (chain : ChainSetup) (bytes : List ℕ) (old now : Option (List ℕ)) (run : RunState) (portion : PortionState)
    (lists : List (List Query)) → HasCome setup chain bytes old now run portion → EndsPortion portion lists → request_count lists ≤ 65536
    → AreScripts run.layout lists
last_scripts setup chain bytes old now run portion lists come end few =
    let script = last_line setup chain bytes old now run portion lists come end in
    are_scripts setup chain script.texts (come.said ++ end.said ∷ []) lists old now run
    (last_asked setup chain bytes old now run portion lists come end) script.each_says few

-- the whole script was asked
pub whole_told : {J : Type 0} (setup : Setup) (chain : ChainSetup) (bytes : List ℕ) (old now new end : Option (List ℕ)) (run next : RunState)
    (portion : PortionState) (lists : List (List Query)) → HasCome setup chain bytes old now run portion → EndsPortion portion lists
    → request_count lists ≤ chain.most → HasRunSegment {J = J} chain.as_trace run lists now new (GoesOn next) → Appends new end (end_line chain.as_trace)
    → (text : List ℕ) × IsServedChain setup chain bytes bytes text 0 × Appends old end text
whole_told setup chain bytes old now new end run next portion lists come ends few made line =
    let told = all_told setup chain (come.said ++ ends.said ∷ []) lists old now new end run next bytes
    (last_asked setup chain bytes old now run portion lists come ends) few made line (last_line setup chain bytes old now run portion lists come ends) in
    (told.0, inl told.1, told.2)

-- or its last segment is the last of the run
pub last_told : {J : Type 0} (setup : Setup) (chain : ChainSetup) (bytes : List ℕ) (old now new : Option (List ℕ)) (run : RunState)
    (portion : PortionState) (lists : List (List Query)) (status : ℕ) → HasCome setup chain bytes old now run portion → EndsPortion portion lists
    → request_count lists ≤ chain.most → HasRunSegment {J = J} chain.as_trace run lists now new (Ends status)
    → (text : List ℕ) × IsServedChain setup chain bytes bytes text status × Appends old new text
last_told setup chain bytes old now new run portion lists status come ends few made =
    let ended = segment_ends setup chain (come.said ++ ends.said ∷ []) lists old now new run status
    (last_asked setup chain bytes old now run portion lists come ends) few made in (
      ended.text,
      inr (subst (λ (input : List ℕ). TellsStopped setup chain bytes input ended.text status ⊎ TellsWrong setup chain bytes input ended.text status)
          (append-nil bytes) (ended.tells bytes [] [] (last_line setup chain bytes old now run portion lists come ends) (omega arith))),
      ended.written,
    )

-- a segment that was run, and what it leaves
pub segment_told : {J : Type 0} (as_trace : Bool) (state : RunState) (scripts : List (List Query)) (old new : Option (List ℕ)) (outcome : SegmentOutcome J)
    (result : Result (After J) ProgFault) → IsOutcomeOf state scripts outcome → IfOk result (IsAfter outcome)
    → OnOk result (Appends old new (told_of_segment as_trace outcome)) → IfOk result (HasRunSegment as_trace state scripts old new)
segment_told as_trace state scripts old new outcome (Ok after) made goes written =
    record { outcome = outcome; of_scripts = made; goes_so = goes; written = written }
segment_told as_trace state scripts old new outcome (Err fault) made goes written = tt
