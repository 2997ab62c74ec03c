-- What a piece makes of a chain that was fed some bytes.
use Rattle.std.proofs.Common.{◌≡◌, ℕ, ◌<◌, ◌≤◌, List, [], ◌∷◌, ◌++◌, append_assoc, length, take, Option, Some, None, Result, Ok, Err, refl, sym, ap, ◌∙◌, subst}
use Rattle.std.specs.Prelude.{Bool, IfOk}
use Rattle.std.proofs.lemmas.List.{append-nil}
use Rattle.nr_trace.specs.FirstFault.{HasSegmentFault}
use Rattle.nr_trace.specs.declared.refusals.fault.Fault.{Fault}
use Rattle.nr_trace.specs.declared.refusals.fault.Format.TheVariants.{Truncated}
use Rattle.nr_trace.specs.declared.formats.version.Form.TheVariants as forms
use Rattle.nr_chain.specs.Fed.{ChainFed, IsKeptOf}
use Rattle.nr_trace.specs.Run.{Run}
use Rattle.nr_audit.specs.Segments.{run_after}
use Rattle.nr_chain.specs.Bytes.{layout_before, EndsWith, GoesOnSo}
use Rattle.nr_chain.specs.Headline.{IsRightChain}
use Rattle.nr_chain.specs.Verdict.{FeedsChain}
use Rattle.nr_chain.specs.declared.chain.Step.TheVariants as steps
use Rattle.nr_audit.specs.declared.histories.met.Met.{Met}
use Rattle.nr_audit.specs.declared.verdicts.verdict.Verdict.TheVariants.{Yes}
use Rattle.nr_chain.proofs.Ends.{ends_first, none_is_short}
use Rattle.nr_chain.proofs.FoundChains.{right_chain}
use Rattle.nr_explain.specs.Progress.{ChainState, ReaderState, IsSeenOf}
use Rattle.nr_explain.specs.ChainExplanation.{Explains, FeedsReader, IsExplanationFrom, IsExplanationOfChain}
use Rattle.nr_explain.specs.declared.chain.explanation.ChainExplanation.{ChainExplanation}
use Rattle.nr_explain.specs.declared.chain.reader.ReaderStep.TheVariants as reader_steps
use Rattle.nr_explain.proofs.Feeding.{explains_on, goes_and, goes_with}
use Rattle.audit_numbers.specs.Calls.{IsVerdictOfSegment}
use Rattle.audit_numbers.specs.Chains.{HasJudged, IsFed, IsTelling, IsTold}
use Rattle.audit_numbers.specs.declared.judging.Judging.TheVariants.{Open}
use Rattle.audit_numbers.specs.declared.telling.Telling.{Telling}
use Rattle.audit_numbers.specs.declared.telling.Telling.TheVariants.{Reading, Explained}

-- ---- the judgement

-- nothing has come yet
pub nothing_judged : (chain : ChainFed) → chain ≡ record { kept = None; bytes = [] } → HasJudged [] [] chain
nothing_judged chain is =
    let nothing : ChainFed = record { kept = None; bytes = [] } in
    let here : HasJudged [] [] nothing = record {
      run = None;
      goes_on = λ rest more found goes. goes;
      kept = tt;
      short = none_is_short (forms.Segment (layout_before None));
    } in
    subst (HasJudged [] []) (sym is) here

-- the piece is taken, and no segment ends in it
pub more_judged : (bytes piece : List ℕ) (orders : List (List ℕ)) (old new : ChainFed) (here : HasJudged bytes orders old)
    → FeedsChain here.run old piece (steps.More new) → HasJudged (bytes ++ piece) orders new
more_judged bytes piece orders old new here (is, short) = record {
  run = here.run;
  goes_on = λ rest more found goes.
      subst (λ (all : List ℕ). GoesOnSo None all (orders ++ more) found) (sym (append_assoc bytes piece rest))
      (here.goes_on (piece ++ rest) more found
      (subst (λ (all : List ℕ). GoesOnSo here.run all more found)
      (ap (λ (fed : ChainFed). fed.bytes ++ rest) is ∙ append_assoc old.bytes piece rest) goes));
  kept = subst (λ (fed : ChainFed). IsKeptOf here.run fed.kept) (sym is) here.kept;
  short = short;
}

-- so many bytes end a right segment
right_judged : (bytes piece : List ℕ) (orders : List (List ℕ)) (old new : ChainFed) (count : ℕ) (order : List ℕ) (met : Option Met)
    (here : HasJudged bytes orders old)
    → FeedsChain here.run old piece (steps.Right count order met new) → HasJudged (bytes ++ take count piece) (orders ++ order ∷ []) new
right_judged bytes piece orders old new count order met here (some, within, segment, spelled, sound, recorded, kept, none, counted) =
    let front : List ℕ = take count piece in
    let next : Option Run = Some (run_after here.run segment) in
    record {
      run = next;
      goes_on = λ rest more found goes.
          subst (λ (all : List ℕ). GoesOnSo None all ((orders ++ order ∷ []) ++ more) found) (sym (append_assoc bytes front rest))
          (subst (λ (all : List (List ℕ)). GoesOnSo None (bytes ++ (front ++ rest)) all found) (sym (append_assoc orders (order ∷ []) more))
          (here.goes_on (front ++ rest) (order ∷ more) found (
            segment,
            rest,
            record { own = old.bytes ++ front; is = sym (append_assoc old.bytes front rest); spelled = spelled },
            sound,
            recorded,
            subst (λ (left : List ℕ). GoesOnSo next (left ++ rest) more found) none goes,
          )));
      kept = kept;
      short = subst (λ (left : List ℕ). HasSegmentFault (layout_before next) left Truncated) (sym none)
          (none_is_short (forms.Segment (layout_before next)));
    }

-- what is found where the chain ends so
pub found_at_end : (bytes : List ℕ) (orders : List (List ℕ)) (chain : ChainFed) (found : Option Fault) (here : HasJudged bytes orders chain)
    → EndsWith here.run chain.bytes found → GoesOnSo None bytes orders found
found_at_end bytes orders chain found here ends =
    subst (λ (all : List ℕ). GoesOnSo None all orders found) (append-nil bytes)
    (subst (λ (all : List (List ℕ)). GoesOnSo None (bytes ++ []) all found) (append-nil orders)
    (here.goes_on [] [] found (subst (λ (all : List ℕ). EndsWith here.run all found) (sym (append-nil chain.bytes)) ends)))

-- behind a right segment the chain is right
right_so_far : (bytes piece : List ℕ) (orders : List (List ℕ)) (old new : ChainFed) (count : ℕ) (order : List ℕ) (met : Option Met)
    (here : HasJudged bytes orders old)
    → FeedsChain here.run old piece (steps.Right count order met new) → IsRightChain (bytes ++ take count piece) (orders ++ order ∷ [])
right_so_far bytes piece orders old new count order met here (some, within, segment, spelled, sound, recorded, kept, none, counted) =
    let front : List ℕ = take count piece in
    right_chain (bytes ++ front) (orders ++ order ∷ []) (here.goes_on front (order ∷ []) None (
      segment,
      [],
      record { own = old.bytes ++ front; is = sym (append-nil (old.bytes ++ front)); spelled = spelled },
      sound,
      recorded,
      refl,
    ))

right_within : (before : Option Run) (old new : ChainFed) (piece : List ℕ) (count : ℕ) (order : List ℕ) (met : Option Met)
    → FeedsChain before old piece (steps.Right count order met new) → (0 < count) × (count ≤ length piece)
right_within before old new piece count order met (some, within, segment, spelled, sound, recorded, kept, none, counted) = (some, within)

-- what is said of it
pub right_verdict : (bytes piece : List ℕ) (orders : List (List ℕ)) (explain : Bool) (old new : ChainFed) (count : ℕ) (order : List ℕ) (met : Option Met)
    (telling : Option Telling) (here : HasJudged bytes orders old) → FeedsChain here.run old piece (steps.Right count order met new)
    → IsTold (bytes ++ take count piece) explain telling
    → IsVerdictOfSegment bytes orders explain piece count (Yes order) (Some (Open new telling))
right_verdict bytes piece orders explain old new count order met telling here feeds told =
    let (some, within) = right_within here.run old new piece count order met feeds in (
      some,
      within,
      right_so_far bytes piece orders old new count order met here feeds,
      (right_judged bytes piece orders old new count order met here feeds, told),
    )

front_none : (front behind : List ℕ) → front ++ behind ≡ [] → front ≡ []
front_none [] behind e = refl
front_none (x ∷ front) behind e = cc

rest_none : (front behind : List ℕ) → front ++ behind ≡ [] → behind ≡ []
rest_none [] behind e = e
rest_none (x ∷ front) behind e = cc

-- the next segment has a fault, whatever comes behind the piece
pub wrong_judged : (bytes piece : List ℕ) (orders : List (List ℕ)) (old : ChainFed) (fault : Fault) (here : HasJudged bytes orders old)
    → FeedsChain here.run old piece (steps.Wrong fault) → (piece ≡ [] → ⊥) → (rest : List ℕ)
    → GoesOnSo None ((bytes ++ piece) ++ rest) orders (Some fault)
wrong_judged bytes piece orders old fault here lasts some rest =
    subst (λ (all : List ℕ). GoesOnSo None all orders (Some fault)) (sym (append_assoc bytes piece rest))
    (subst (λ (all : List (List ℕ)). GoesOnSo None (bytes ++ (piece ++ rest)) all (Some fault)) (append-nil orders)
    (here.goes_on (piece ++ rest) [] (Some fault)
    (subst (λ (all : List ℕ). EndsWith here.run all (Some fault)) (append_assoc old.bytes piece rest)
    (ends_first here.run ((old.bytes ++ piece) ++ rest) fault
    (λ kept none. some (rest_none old.bytes piece (front_none (old.bytes ++ piece) rest none))) (lasts rest)))))

-- ---- what explains it

-- a reader of which nothing has come yet
pub nothing_told : (reader : ReaderState) → reader ≡ record { state = None; bytes = [] } → IsTelling [] (Reading reader)
nothing_told reader is =
    let nothing : ReaderState = record { state = None; bytes = [] } in
    let here : IsTelling [] (Reading nothing) = ([], None, (refl, refl), tt) in
    subst (λ (seen : ReaderState). IsTelling [] (Reading seen)) (sym is) here

-- a reader that has taken the piece
pub more_told : (bytes piece : List ℕ) (old new : ReaderState)
    → ((came : Option ChainState) → IsSeenOf came old.state → FeedsReader came old piece (reader_steps.More new)) → IsTelling bytes (Reading old)
    → IsTelling (bytes ++ piece) (Reading new)
more_told bytes piece old new feeds (segments, last, goes, seen) =
    let (more, then, on, seen_then, short) = feeds last seen in (
      segments ++ more,
      then,
      goes_and None last then (bytes ++ piece) (old.bytes ++ piece) new.bytes segments more
          (goes_with None last bytes old.bytes piece segments goes) on,
      seen_then,
    )

-- a fault that shows in the piece
pub found_told : (bytes piece : List ℕ) (old : ReaderState) (explanation : ChainExplanation)
    → ((came : Option ChainState) → IsSeenOf came old.state → FeedsReader came old piece (reader_steps.Found explanation))
    → IsTelling bytes (Reading old) → IsTelling (bytes ++ piece) (Explained explanation)
found_told bytes piece old explanation feeds (segments, last, goes, seen) = λ rest.
    subst (λ (all : List ℕ). IsExplanationOfChain all explanation) (sym (append_assoc bytes piece rest))
    (explains_on None last (bytes ++ (piece ++ rest)) (old.bytes ++ (piece ++ rest)) segments explanation
    (goes_with None last bytes old.bytes (piece ++ rest) segments goes) (feeds last seen rest))

-- an explanation stays one
pub still_told : (bytes piece : List ℕ) (explanation : ChainExplanation) → IsTelling bytes (Explained explanation)
    → IsTelling (bytes ++ piece) (Explained explanation)
still_told bytes piece explanation told = λ rest.
    subst (λ (all : List ℕ). IsExplanationOfChain all explanation) (sym (append_assoc bytes piece rest)) (told (piece ++ rest))

-- no piece comes any more
pub end_of_reader : (bytes : List ℕ) (old : ReaderState) (explanation : ChainExplanation)
    → ((came : Option ChainState) → IsSeenOf came old.state → Explains came old [] explanation) → IsTelling bytes (Reading old)
    → IsExplanationOfChain bytes explanation
end_of_reader bytes old explanation explains (segments, last, goes, seen) =
    explains_on None last bytes old.bytes segments explanation goes
    (subst (λ (all : List ℕ). IsExplanationFrom last all explanation) (append-nil old.bytes) (explains last seen))

pub end_of_explained : (bytes : List ℕ) (explanation : ChainExplanation) → IsTelling bytes (Explained explanation) → IsExplanationOfChain bytes explanation
end_of_explained bytes explanation told = subst (λ (all : List ℕ). IsExplanationOfChain all explanation) (append-nil bytes) (told [])

pub reader_ends : {E : Type 0} (bytes : List ℕ) (old : ReaderState) (result : Result ChainExplanation E)
    → ((came : Option ChainState) → IsSeenOf came old.state → IfOk result (Explains came old [])) → IsTelling bytes (Reading old)
    → IfOk result (IsExplanationOfChain bytes)
reader_ends bytes old (Ok explanation) explains told = end_of_reader bytes old explanation explains told
reader_ends bytes old (Err why) explains told = tt

-- ---- both

-- nothing is fed
pub empty_piece : (bytes piece : List ℕ) (orders : List (List ℕ)) (explain : Bool) (chain : ChainFed) (telling : Option Telling) → piece ≡ []
    → HasJudged bytes orders chain → IsTold bytes explain telling → IsFed (bytes ++ piece) orders explain (Some (Open chain telling))
empty_piece bytes piece orders explain chain telling none judged told =
    subst (λ (all : List ℕ). IsFed all orders explain (Some (Open chain telling)))
    (sym (ap (λ (p : List ℕ). bytes ++ p) none ∙ append-nil bytes)) (judged, told)
