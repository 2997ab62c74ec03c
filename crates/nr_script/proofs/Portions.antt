-- What lines more make of what is gathered, and of the state of a script that comes in pieces.
use Rattle.std.proofs.Common.{◌≡◌, ℕ, ◌+◌, ◌-◌, ◌<◌, ◌≤◌, ◌++◌, ◌==◌, ◌≢◌, Bool, true, false, cond, List, [], ◌∷◌, length, map, filter, refl, sym, ap, subst, ◌∙◌}
use Rattle.std.proofs.Common.{Option, Some, None, arith, append-nil, append_assoc, get_or, set, take, drop, inl, inr, length-append}
use Rattle.std.proofs.Math.Seq.{map-set_same, take-add}
use Rattle.std.proofs.lemmas.Bool.Decides.{nat_tests}
use Rattle.std.proofs.lemmas.Grind.{flat_map-append, get_or-set_at}
use Rattle.std.proofs.lemmas.List.{get_or-set_other, length-set, map-append, take-append-drop, take_all, take_rest}
use Rattle.std.proofs.lemmas.List.Elements.{filter-append}
use Rattle.std.proofs.lemmas.List.Sums.{sum_by-set}
use Rattle.std.proofs.lemmas.Slice.Zip.{all_zipped_more}
use Rattle.std.specs.declared.vec.Vec.{Vec}
use Rattle.std.specs.declared.alloc.Global.{Global}
use Rattle.vs_types.specs.Finds.{Finds}
use Rattle.vs_types.specs.declared.addresses.depth.Depth.{Depth}
use Rattle.vs_types.specs.declared.requests.request.Query.{Query}
use Rattle.vs_types.specs.Refusal.{IfRefused}
use Rattle.vs_types.specs.declared.requests.refusal.Fail.{Fail}
use Rattle.vs_types.specs.declared.requests.refusal.Fail.TheVariants.{Memory, Refused}
use Rattle.nr_core.specs.declared.runs.step.Step.{Step}
use Rattle.nr_script.specs.Fed.{EndsIn, EndsLine, FeedsLine, GoesOn}
use Rattle.nr_script.specs.Lines.{Says}
use Rattle.nr_script.specs.Portion.{AsksMore, EndsPortion, HasBadNext, IsNoRequest, PortionState, TakesLines, number_behind, request_count}
use Rattle.nr_script.specs.Script.{asked, request_in, requests_by, step_in}
use Rattle.nr_script.specs.declared.gathering.Gathering.{Gathering}
use Rattle.nr_script.specs.declared.line.Line.{Line}
use Rattle.nr_script.specs.declared.script.BadLine.{BadLine}
use Rattle.nr_script.specs.declared.line.Line.TheVariants as says
use Rattle.nr_script.specs.declared.line_feed.Fed.{Fed}
use Rattle.nr_script.specs.declared.line_feed.Fed.TheVariants.{Ended}
use Rattle.nr_script.specs.inside.Gathering.{IsCounted, IsFedTo, IsNothingOrStep, IsOfThreads, TakesLine, lists_in, state_of}
use Rattle.nr_script.specs.inside.Reading.{with_request}
use Rattle.nr_script.proofs.Gathered.{steps_more}

-- what a thread asks in lines and in lines behind them
pub requests_behind : (first second : List Line) (thread : ℕ) → requests_by (first ++ second) thread ≡ requests_by first thread ++ requests_by second thread
requests_behind first second thread =
    let test : ℕ × Query → Bool = λ it. it.0 == thread in
    let query : ℕ × Query → Query = λ it. it.1 in
    ap (λ (them : List (ℕ × Query)). map query (filter test them)) (flat_map-append request_in first second)
    ∙ ap (λ (them : List (ℕ × Query)). map query them) (filter-append test (asked first) (asked second))
    ∙ map-append query (filter test (asked first)) (filter test (asked second))

pub asks_nothing : (lists : List (List Query)) → AsksMore lists [] lists
asks_nothing lists = record { as_many = refl; lists_are = λ thread below. sym (append-nil (get_or lists thread [])) }

pub asks_then : (old mid new : List (List Query)) (first second : List Line) → AsksMore old first mid → AsksMore mid second new
    → AsksMore old (first ++ second) new
asks_then old mid new first second before behind = record {
  as_many = behind.as_many ∙ before.as_many;
  lists_are = λ thread below.
      behind.lists_are thread below
      ∙ ap (λ (front : List Query). front ++ requests_by second thread) (before.lists_are thread below)
      ∙ append_assoc (get_or old thread []) (requests_by first thread) (requests_by second thread)
      ∙ ap (λ (more : List Query). get_or old thread [] ++ more) (sym (requests_behind first second thread));
}

pub asks_passed_over : (lists : List (List Query)) → AsksMore lists (says.PassedOver ∷ []) lists
asks_passed_over lists = record { as_many = refl; lists_are = λ thread below. sym (append-nil (get_or lists thread [])) }

-- what a thread asks in a line that is a request
asked_in : (thread k : ℕ) (query : Query) (b : Bool) → (thread == k) ≡ b
    → requests_by (says.Request thread query ∷ []) k ≡ map {A = ℕ × Query} (λ it. it.1) (cond b ((thread, query) ∷ []) [])
asked_in thread k query b is = ap (λ (b : Bool). map {A = ℕ × Query} (λ it. it.1) (cond b ((thread, query) ∷ []) [])) is

list_with : (lists : List (List Query)) (thread k : ℕ) (query : Query) (b : Bool) → (thread == k) ≡ b → thread < length lists
    → get_or (with_request thread query lists) k [] ≡ get_or lists k [] ++ requests_by (says.Request thread query ∷ []) k
list_with lists thread k query true is within =
    let same : k ≡ thread = grind (arith, nat_tests) in
    get_or-set_at lists thread k (get_or lists thread [] ++ query ∷ []) [] same within
    ∙ ap (λ (thread : ℕ). get_or lists thread [] ++ query ∷ []) (sym same)
    ∙ ap (λ (more : List Query). get_or lists k [] ++ more) (sym (asked_in thread k query true is))
list_with lists thread k query false is within =
    let other : k ≢ thread = grind (arith, nat_tests) in
    get_or-set_other lists thread k (get_or lists thread [] ++ query ∷ []) [] other
    ∙ sym (append-nil (get_or lists k []))
    ∙ ap (λ (more : List Query). get_or lists k [] ++ more) (sym (asked_in thread k query false is))

pub asks_request : (lists : List (List Query)) (thread : ℕ) (query : Query) → thread < length lists
    → AsksMore lists (says.Request thread query ∷ []) (with_request thread query lists)
asks_request lists thread query within = record {
  as_many = length-set lists thread (get_or lists thread [] ++ query ∷ []);
  lists_are = λ k below. list_with lists thread k query (thread == k) refl within;
}

-- a request more is counted
pub one_more : (lists : List (List Query)) (thread : ℕ) (query : Query) → thread < length lists
    → request_count (with_request thread query lists) ≡ request_count lists + 1
one_more lists thread query within =
    omega (
      arith,
      sum_by-set (λ (list : List Query). length list) lists thread (get_or lists thread [] ++ query ∷ []) [] within,
      length-append (get_or lists thread []) (query ∷ []),
    )

-- what is counted and has a request more
pub counted_more : (old new : Gathering) (thread : ℕ) (query : Query) → IsCounted old → thread < 64
    → lists_in new ≡ with_request thread query (lists_in old) → new.asked ≡ old.asked + 1 → new.number ≡ old.number → IsCounted new
counted_more old new thread query counted within lists_are asked_is number_is =
    let below : thread < length (lists_in old) = omega (arith, counted.one_each) in
    record {
      fits = omega (arith, number_is, counted.fits);
      one_each = ap length lists_are ∙ length-set (lists_in old) thread (get_or (lists_in old) thread [] ++ query ∷ []) ∙ counted.one_each;
      counted =
          ap request_count lists_are ∙ one_more (lists_in old) thread query below ∙ ap (λ (count : ℕ). count + 1) counted.counted ∙ sym asked_is;
    }

-- what is counted and has the same lists
pub counted_same : (old new : Gathering) → IsCounted old → lists_in new ≡ lists_in old → new.asked ≡ old.asked → new.number ≤ 4294967295 → IsCounted new
counted_same old new counted same asked_is fits = record {
  fits = fits;
  one_each = ap length same ∙ counted.one_each;
  counted = ap request_count same ∙ counted.counted ∙ sym asked_is;
}

-- a list that is written as it was
pub written_back : (lists : List (Vec Query Global)) (new : Vec Query Global) (thread : ℕ) (old : Vec Query Global) → old ≡ get_or lists thread old
    → new.items ≡ old.items → map (λ list. list.items) (set lists thread new) ≡ map (λ list. list.items) lists
written_back lists new thread old is same =
    let items : Vec Query Global → List Query = λ list. list.items in
    map-set_same items lists thread new old (same ∙ ap items is)

-- nothing more comes
pub takes_none : (state : PortionState) → state.number ≤ 4294967295 → TakesLines state [] state
takes_none state fits = record {
  texts = [];
  said = [];
  each_says = tt;
  no_step = refl;
  lines_are = λ text before is.
      let P : List ℕ → List (List ℕ) → Type 0 = λ text before. EndsIn text before state.begun in
      subst (λ (whole : List ℕ). P whole (before ++ [])) (sym (append-nil text)) (subst (λ (them : List (List ℕ)). P text them) (sym (append-nil before)) is);
  depth_is = refl;
  number_is = omega (arith, fits);
  asks = asks_nothing state.lists;
}

-- the line that has begun goes on
pub takes_more : (old mid : PortionState) (bytes piece new : List ℕ) → TakesLines old bytes mid → GoesOn mid.begun piece new
    → TakesLines old (bytes ++ piece) (record mid { begun = new })
takes_more old mid bytes piece new takes goes = record {
  texts = takes.texts;
  said = takes.said;
  each_says = takes.each_says;
  no_step = takes.no_step;
  lines_are = λ text before is.
      let lines = before ++ takes.texts in
      subst (λ (whole : List ℕ). EndsIn whole lines new) (append_assoc text bytes piece)
      (goes.lines_are (text ++ bytes) lines (takes.lines_are text before is));
  depth_is = takes.depth_is;
  number_is = takes.number_is;
  asks = takes.asks;
}

-- the line that has begun ends, and is taken
pub takes_line : (old mid new : PortionState) (bytes piece : List ℕ) (count : ℕ) (said : Option Line) → TakesLines old bytes mid
    → (ends : EndsLine old.depth mid.begun piece new.begun count said) → (it : Line) → said ≡ Some it → step_in it ≡ [] → new.depth ≡ mid.depth
    → new.number ≡ number_behind mid.number 1 → AsksMore mid.lists (it ∷ []) new.lists → TakesLines old (bytes ++ take count piece) new
takes_line old mid new bytes piece count said takes ends it is no_step same_depth number_is asks = record {
  texts = takes.texts ++ ends.line ∷ [];
  said = takes.said ++ it ∷ [];
  each_says =
      all_zipped_more (Says old.depth) takes.texts takes.said ends.line it takes.each_says
      (subst (λ (said : Option Line). Finds (Says old.depth ends.line) said) is ends.says);
  no_step = steps_more takes.said it ∙ ap (λ (front : List Step). front ++ step_in it) takes.no_step ∙ no_step;
  lines_are = λ text before is.
      let lines = before ++ takes.texts in
      let there = ends.lines_are (text ++ bytes) lines (takes.lines_are text before is) in
      let whole = subst (λ (whole : List ℕ). EndsIn whole (lines ++ ends.line ∷ []) new.begun) (append_assoc text bytes (take count piece)) there in
      subst (λ (them : List (List ℕ)). EndsIn (text ++ (bytes ++ take count piece)) them new.begun) (append_assoc before takes.texts (ends.line ∷ [])) whole;
  depth_is = same_depth ∙ takes.depth_is;
  number_is = omega (arith, number_is, takes.number_is, length-append takes.said (it ∷ []));
  asks = asks_then old.lists mid.lists new.lists takes.said (it ∷ []) takes.asks asks;
}

-- a line more is passed over, or asks something
pub takes_passed_over : (old new : Gathering) (said : Option Line) → said ≡ Some says.PassedOver → lists_in new ≡ lists_in old
    → new.number ≡ number_behind old.number 1 → TakesLine said old new
takes_passed_over old new said is same number_is = record {
  it = says.PassedOver;
  is = is;
  no_step = refl;
  number_is = number_is;
  asks = subst (λ (lists : List (List Query)). AsksMore (lists_in old) (says.PassedOver ∷ []) lists) (sym same) (asks_passed_over (lists_in old));
}

pub takes_request : (old new : Gathering) (said : Option Line) (thread : ℕ) (query : Query) → said ≡ Some (says.Request thread query) → IsCounted old
    → thread < 64 → lists_in new ≡ with_request thread query (lists_in old) → new.number ≡ number_behind old.number 1 → TakesLine said old new
takes_request old new said thread query is counted within same number_is = record {
  it = says.Request thread query;
  is = is;
  no_step = refl;
  number_is = number_is;
  asks = subst (λ (lists : List (List Query)). AsksMore (lists_in old) (says.Request thread query ∷ []) lists) (sym same)
      (asks_request (lists_in old) thread query (omega (arith, counted.one_each)));
}

-- a line that says nothing, or a step
pub no_request : (depth : Depth) (line : List ℕ) (said : Option Line) → Finds (Says depth line) said → IsNothingOrStep said → IsNoRequest depth line
no_request depth line None none is = inl none
no_request depth line (Some says.PassedOver) says is = absurd is
no_request depth line (Some (says.Request thread query)) says is = absurd is
no_request depth line (Some (says.Step step)) says is = inr (step, says)

pub of_threads : (depth : Depth) (line : List ℕ) (said : Option Line) → Finds (Says depth line) said → IsOfThreads said
of_threads depth line None none = tt
of_threads depth line (Some says.PassedOver) says = tt
of_threads depth line (Some (says.Request thread query)) says = says.thread_fits
of_threads depth line (Some (says.Step step)) says = tt

-- the line that has begun ends, and is bad
pub bad_next : (old mid : PortionState) (whole bytes piece new : List ℕ) (count : ℕ) (said : Option Line) (most number : ℕ) → TakesLines old bytes mid
    → EndsLine old.depth mid.begun piece new count said → whole ≡ bytes ++ piece → IsNothingOrStep said → number ≡ mid.number
    → request_count mid.lists < most → HasBadNext old whole most number
bad_next old mid whole bytes piece new count said most number takes ends whole_is bad number_is room = record {
  front = bytes;
  ended = take count piece;
  rest = drop count piece;
  split = whole_is ∙ ap (λ (more : List ℕ). bytes ++ more) (sym (take-append-drop count piece));
  mid = mid;
  takes = takes;
  room = room;
  number_is = number_is;
  line = ends.line;
  lines_are = λ text before is.
      subst (λ (begun : List ℕ). EndsIn (text ++ take count piece) (before ++ ends.line ∷ []) begun) ends.none_begun (ends.lines_are text before is);
  is_bad = no_request old.depth ends.line said ends.says bad;
}

-- the last line is taken
pub ends_portion : (state : PortionState) (found : Option Line) (old new : Gathering) → Finds (Says state.depth state.begun) found
    → lists_in old ≡ state.lists → TakesLine found old new → EndsPortion state (lists_in new)
ends_portion state found old new finds lists_are taken = record {
  said = taken.it;
  says = subst (λ (found : Option Line). Finds (Says state.depth state.begun) found) taken.is finds;
  no_step = taken.no_step;
  asks = subst (λ (lists : List (List Query)). AsksMore lists (taken.it ∷ []) (lists_in new)) lists_are taken.asks;
}

-- a piece is fed so far, and its rest is the line that goes on
pub fed_whole : (depth : Depth) (initial begun new piece : List ℕ) (first gathering : Gathering) (most taken : ℕ)
    → IsFedTo depth initial first piece most taken begun gathering → GoesOn begun (drop taken piece) new
    → TakesLines (state_of depth initial first) (take (length piece) piece) (state_of depth new gathering)
fed_whole depth initial begun new piece first gathering most taken fed goes =
    subst (λ (bytes : List ℕ). TakesLines (state_of depth initial first) bytes (state_of depth new gathering))
    (take-append-drop taken piece ∙ sym (take_all (length piece) piece (omega arith)))
    (takes_more (state_of depth initial first) (state_of depth begun gathering) (take taken piece) (drop taken piece) new fed.takes goes)

-- what is left of a piece has ended the line
pub ended_line : (depth : Depth) (begun new piece : List ℕ) (taken count : ℕ) (said : Option Line) (fed : Fed) → fed ≡ Ended count said
    → FeedsLine depth begun (take (length piece - taken) (drop taken piece)) new fed → EndsLine depth begun (drop taken piece) new count said
ended_line depth begun new piece taken count said fed is feeds =
    subst (λ (rest : List ℕ). EndsLine depth begun rest new count said) (take_rest piece taken)
    (subst (λ (fed : Fed). FeedsLine depth begun (take (length piece - taken) (drop taken piece)) new fed) is feeds)

-- or it has a line more
pub fed_line : (depth : Depth) (initial begun new piece : List ℕ) (first old gathering : Gathering) (most taken count : ℕ) (said : Option Line)
    → IsFedTo depth initial first piece most taken begun old → EndsLine depth begun (drop taken piece) new count said
    → TakesLine said old gathering
    → TakesLines (state_of depth initial first) (take (taken + count) piece) (state_of depth new gathering)
fed_line depth initial begun new piece first old gathering most taken count said fed ends line =
    subst (λ (bytes : List ℕ). TakesLines (state_of depth initial first) bytes (state_of depth new gathering)) (sym (take-add taken count piece))
    (takes_line (state_of depth initial first) (state_of depth begun old) (state_of depth new gathering) (take taken piece) (drop taken piece) count said
    fed.takes ends line.it line.is line.no_step refl line.number_is line.asks)

-- or a line that is bad
pub fed_bad : (depth : Depth) (initial begun new piece : List ℕ) (first old : Gathering) (most taken count : ℕ) (said : Option Line) (number : ℕ)
    → IsFedTo depth initial first piece most taken begun old → old.asked < most → EndsLine depth begun (drop taken piece) new count said
    → number ≡ old.number → IsNothingOrStep said → HasBadNext (state_of depth initial first) piece most number
fed_bad depth initial begun new piece first old most taken count said number fed room ends number_is bad =
    bad_next (state_of depth initial first) (state_of depth begun old) piece (take taken piece) (drop taken piece) new count said most number
    fed.takes ends (sym (take-append-drop taken piece)) bad number_is (subst (λ (n : ℕ). n < most) (sym fed.counted.counted) room)

pub fed_refused : (depth : Depth) (initial begun new piece : List ℕ) (first old : Gathering) (most taken count : ℕ) (said : Option Line) (fail : Fail BadLine)
    → IsFedTo depth initial first piece most taken begun old → old.asked < most → EndsLine depth begun (drop taken piece) new count said
    → IfRefused (λ bad. (bad.0 ≡ old.number) × IsNothingOrStep said) fail
    → IfRefused (λ bad. HasBadNext (state_of depth initial first) piece most bad.0) fail
fed_refused depth initial begun new piece first old most taken count said Memory fed room ends h = tt
fed_refused depth initial begun new piece first old most taken count said (Refused bad) fed room ends h =
    fed_bad depth initial begun new piece first old most taken count said bad.0 fed room ends h.0 h.1

-- the last line is bad
pub end_refused : (depth : Depth) (line : List ℕ) (said : Option Line) (number : ℕ) (fail : Fail BadLine) → Finds (Says depth line) said
    → IfRefused (λ bad. (bad.0 ≡ number) × IsNothingOrStep said) fail → IfRefused (λ bad. (bad.0 ≡ number) × IsNoRequest depth line) fail
end_refused depth line said number Memory finds h = tt
end_refused depth line said number (Refused bad) finds h = (h.0, no_request depth line said finds h.1)
