-- A piece of a long script that is taken line by line, and segment by segment.
use Rattle.std.proofs.Common.{◌≡◌, ◌<◌, ◌≤◌, ℕ, ◌*◌, ◌++◌, List, [], ◌∷◌, length, Option, refl, sym, ap, subst, ◌∙◌, arith, append-nil, append_assoc, drop, take, replicate}
use Rattle.std.proofs.lemmas.List.{length-append, take-append-drop}
use Rattle.std.proofs.lemmas.List.Folds.{sum_by-replicate}
use Rattle.vs_types.specs.Query.{AreScripts}
use Rattle.vs_types.specs.Refusal.{IfRefused}
use Rattle.vs_types.specs.declared.requests.request.Query.{Query}
use Rattle.vs_types.specs.declared.requests.refusal.Fail.{Fail}
use Rattle.vs_types.specs.declared.requests.refusal.Fail.TheVariants as fails
use Rattle.nr_serve.specs.RunState.{RunState}
use Rattle.nr_script.specs.Portion.{HasBadNext, PortionState, TakesLines, request_count}
use Rattle.nr_script.specs.declared.script.BadLine.{BadLine as BadLineOfScript}
use Rattle.nrvs.specs.Simulation.{script_fault}
use Rattle.nrvs.specs.inside.ChainGoing.{EndsHere, HasCome, HasRunSegment, HasWrittenSome, IsLastingFault, IsUnderWay}
use Rattle.nrvs.specs.declared.runs.served_chain.After.TheVariants.{GoesOn, Ends}
use Rattle.nrvs.specs.declared.runs.chain_setup.ChainSetup.{ChainSetup}
use Rattle.nrvs.specs.declared.runs.setup.Setup.{Setup}
use Rattle.nrvs.proofs.ServedChains.{are_scripts, lines_come, portion_ends, portion_goes}
use Rattle.nrvs.proofs.ServedFaults.{bad_line, written_so_far}

-- nothing of the piece is taken
pub under_begins : (setup : Setup) (chain : ChainSetup) (piece : List ℕ) (first : Option (List ℕ)) (initial : RunState) (begun : PortionState)
    → IsUnderWay setup chain piece piece first first initial initial begun begun
under_begins setup chain piece first initial begun = record {
  taken = [];
  split = refl;
  come = λ bytes old come. subst (λ (bytes : List ℕ). HasCome setup chain bytes old first initial begun) (sym (append-nil bytes)) come;
}

-- lines of it are taken
pub under_more : (setup : Setup) (chain : ChainSetup) (piece rest left : List ℕ) (count : ℕ) (first now : Option (List ℕ)) (initial run : RunState)
    (begun portion next : PortionState) → IsUnderWay setup chain piece rest first now initial run begun portion
    → TakesLines portion (take count rest) next → left ≡ drop count rest → IsUnderWay setup chain piece left first now initial run begun next
under_more setup chain piece rest left count first now initial run begun portion next under takes is =
    let bytes_taken = take count rest in
    subst (λ (left : List ℕ). IsUnderWay setup chain piece left first now initial run begun next) (sym is) (record {
      taken = under.taken ++ bytes_taken;
      split = under.split ∙ ap (λ (more : List ℕ). under.taken ++ more) (sym (take-append-drop count rest))
          ∙ sym (append_assoc under.taken bytes_taken (drop count rest));
      come = λ bytes old come.
          subst (λ (bytes : List ℕ). HasCome setup chain bytes old now run next) (append_assoc bytes under.taken bytes_taken)
          (lines_come setup chain (bytes ++ under.taken) bytes_taken old now run portion next (under.come bytes old come) takes);
    })

-- a segment is full with them, and the run goes on
pub under_goes : {J : Type 0} (setup : Setup) (chain : ChainSetup) (piece rest : List ℕ) (first now new : Option (List ℕ)) (initial run next : RunState)
    (begun portion emptied : PortionState) (lists : List (List Query)) → IsUnderWay setup chain piece rest first now initial run begun portion
    → request_count portion.lists ≡ chain.most → lists ≡ portion.lists → HasRunSegment {J = J} chain.as_trace run lists now new (GoesOn next)
    → emptied ≡ record portion { lists = replicate 64 [] } → IsUnderWay setup chain piece rest first new initial next begun emptied
under_goes {J = J} setup chain piece rest first now new initial run next begun portion emptied lists under size same made is =
    subst (IsUnderWay setup chain piece rest first new initial next begun) (sym is) (record {
      taken = under.taken;
      split = under.split;
      come = λ bytes old come.
          portion_goes setup chain (bytes ++ under.taken) old now new run next portion (under.come bytes old come) size
          (subst (λ (lists : List (List Query)). HasRunSegment {J = J} chain.as_trace run lists now new (GoesOn next)) same made);
    })

-- with the lists of a new portion no segment is full
pub emptied_few : (portion emptied : PortionState) (most : ℕ) → 1 ≤ most → emptied ≡ record portion { lists = replicate 64 [] }
    → request_count emptied.lists < most
emptied_few portion emptied most some is =
    let empty : request_count (replicate 64 []) ≡ 64 * 0 = sum_by-replicate (λ (list : List Query). length list) 64 [] in
    let same : request_count emptied.lists ≡ request_count (replicate 64 []) = ap (λ (p : PortionState). request_count p.lists) is in
    omega (arith, some, empty, same)

-- whatever had come before the piece
whole_piece : (setup : Setup) (chain : ChainSetup) (piece rest : List ℕ) (first now : Option (List ℕ)) (initial run : RunState)
    (begun portion : PortionState) (bytes : List ℕ) → (under : IsUnderWay setup chain piece rest first now initial run begun portion)
    → (bytes ++ under.taken) ++ rest ≡ bytes ++ piece
whole_piece setup chain piece rest first now initial run begun portion bytes under =
    append_assoc bytes under.taken rest ∙ ap (λ (more : List ℕ). bytes ++ more) (sym under.split)

-- what is left of it is no longer
no_longer : (setup : Setup) (chain : ChainSetup) (piece rest : List ℕ) (first now : Option (List ℕ)) (initial run : RunState)
    (begun portion : PortionState) → IsUnderWay setup chain piece rest first now initial run begun portion → length rest ≤ length piece
no_longer setup chain piece rest first now initial run begun portion under =
    let long : length piece ≡ length (under.taken ++ rest) = ap (λ (bytes : List ℕ). length bytes) under.split in
    omega (arith, long, length-append under.taken rest)

pub under_written : (setup : Setup) (chain : ChainSetup) (piece rest : List ℕ) (first now : Option (List ℕ)) (initial run : RunState)
    (begun portion : PortionState) → IsUnderWay setup chain piece rest first now initial run begun portion → request_count portion.lists ≤ chain.most
    → (bytes : List ℕ) (old : Option (List ℕ)) → HasCome setup chain bytes old first initial begun
    → HasWrittenSome setup chain (length piece) (bytes ++ piece) old now
under_written setup chain piece rest first now initial run begun portion under few bytes old come =
    subst (λ (bytes : List ℕ). HasWrittenSome setup chain (length piece) bytes old now)
    (whole_piece setup chain piece rest first now initial run begun portion bytes under)
    (written_so_far setup chain (bytes ++ under.taken) rest (length piece) old now run portion (under.come bytes old come) few
    (no_longer setup chain piece rest first now initial run begun portion under))

-- a line is bad
pub under_fault : (setup : Setup) (chain : ChainSetup) (piece rest : List ℕ) (first now : Option (List ℕ)) (initial run : RunState)
    (begun portion : PortionState) (fail : Fail BadLineOfScript) → IsUnderWay setup chain piece rest first now initial run begun portion
    → IfRefused (λ bad. HasBadNext portion rest chain.most bad.0) fail → (bytes : List ℕ) (old : Option (List ℕ))
    → HasCome setup chain bytes old first initial begun → IsLastingFault setup.depth (bytes ++ piece) (script_fault fail)
under_fault setup chain piece rest first now initial run begun portion fails.Memory under h bytes old come = tt
under_fault setup chain piece rest first now initial run begun portion (fails.Refused bad) under h bytes old come =
    subst (λ (bytes : List ℕ). IsLastingFault setup.depth bytes (script_fault (fails.Refused bad)))
    (whole_piece setup chain piece rest first now initial run begun portion bytes under)
    (bad_line setup chain (bytes ++ under.taken) rest old now run portion bad.0 (under.come bytes old come) h)

-- the segment was the last
pub under_ends : {J : Type 0} (setup : Setup) (chain : ChainSetup) (piece rest : List ℕ) (first now new : Option (List ℕ)) (initial run : RunState)
    (begun portion : PortionState) (lists : List (List Query)) (status : ℕ) → IsUnderWay setup chain piece rest first now initial run begun portion
    → request_count portion.lists ≡ chain.most → lists ≡ portion.lists → HasRunSegment {J = J} chain.as_trace run lists now new (Ends status)
    → (bytes : List ℕ) (old : Option (List ℕ)) → HasCome setup chain bytes old first initial begun
    → EndsHere setup chain (length piece) (bytes ++ piece) old new status
under_ends {J = J} setup chain piece rest first now new initial run begun portion lists status under size same made bytes old come =
    subst (λ (bytes : List ℕ). EndsHere setup chain (length piece) bytes old new status)
    (whole_piece setup chain piece rest first now initial run begun portion bytes under)
    (portion_ends setup chain (length piece) (bytes ++ under.taken) rest old now new run portion status (under.come bytes old come) size
    (subst (λ (lists : List (List Query)). HasRunSegment {J = J} chain.as_trace run lists now new (Ends status)) same made)
    (no_longer setup chain piece rest first now initial run begun portion under))

-- what is gathered is a script for each thread
pub under_scripts : (setup : Setup) (chain : ChainSetup) (piece rest : List ℕ) (first now : Option (List ℕ)) (initial run : RunState)
    (begun portion : PortionState) (lists : List (List Query)) → IsUnderWay setup chain piece rest first now initial run begun portion
    → (bytes : List ℕ) × (old : Option (List ℕ)) × HasCome setup chain bytes old first initial begun → request_count portion.lists ≤ 65536
    → lists ≡ portion.lists → AreScripts run.layout lists
under_scripts setup chain piece rest first now initial run begun portion lists under (bytes, old, come) few same =
    let here = under.come bytes old come in
    subst (AreScripts run.layout) (sym same)
    (are_scripts setup chain here.before here.said portion.lists old now run here.asked here.each_says few)

none_left : (rest : List ℕ) → length rest ≡ 0 → rest ≡ []
none_left [] none = refl
none_left (byte ∷ rest) none = absurd (omega (arith, none))

-- the whole piece is taken
pub under_done : (setup : Setup) (chain : ChainSetup) (piece rest : List ℕ) (first now : Option (List ℕ)) (initial run : RunState)
    (begun portion : PortionState) → IsUnderWay setup chain piece rest first now initial run begun portion → length rest ≡ 0 → (bytes : List ℕ)
    (old : Option (List ℕ)) → HasCome setup chain bytes old first initial begun → HasCome setup chain (bytes ++ piece) old now run portion
under_done setup chain piece rest first now initial run begun portion under none bytes old come =
    let all : under.taken ≡ piece =
    sym (append-nil under.taken) ∙ ap (λ (more : List ℕ). under.taken ++ more) (sym (none_left rest none)) ∙ sym under.split in
    subst (λ (more : List ℕ). HasCome setup chain (bytes ++ more) old now run portion) all (under.come bytes old come)
