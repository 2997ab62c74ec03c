-- What a line more makes of what was kept.
use Rattle.std.proofs.Common.{◌≡◌, ℕ, ◌+◌, ◌<◌, ◌≤◌, ◌++◌, max, Bool, true, false, cond, List, [], ◌∷◌, length, refl, sym, ap, subst, ◌∙◌, arith, append-nil}
use Rattle.std.proofs.Common.{length-append}
use Rattle.std.proofs.Common.{Option, Some, None, suc, add-zero}
use Rattle.std.specs.List.{fold, position_from}
use Rattle.std.specs.Option.{option_or}
use Rattle.std.proofs.lemmas.Grind.{flat_map-append}
use Rattle.std.proofs.lemmas.List.Sums.{fold-append}
use Rattle.vs_types.specs.declared.limits.TheConstants.{LOG_PLACES}
use Rattle.vs_types.specs.declared.addresses.depth.Depth.{Depth}
use Rattle.vs_types.specs.declared.requests.request.Query.{Query}
use Rattle.nr_core.specs.declared.runs.step.Step.{Step}
use Rattle.nr_script.specs.declared.script.TheConstants.{SCRIPT_STEPS}
use Rattle.nr_script.specs.Lines.{Says}
use Rattle.nr_script.specs.Script.{asked, first_step_in, is_step, request_in, step_in, steps_of, thread_count, IsWithinLimits}
use Rattle.nr_script.specs.declared.line.Line.{Line}
use Rattle.nr_script.specs.declared.reading.Reading.{Reading}
use Rattle.nr_script.specs.Lines.{lines}
use Rattle.vs_text.specs.Words.{parts}
use Rattle.nr_script.specs.Script.{IsBadAfter, IsBadLine}
use Rattle.nr_script.specs.declared.line.Line.TheVariants as says
use Rattle.nr_script.specs.inside.Left.{parts_left}
use Rattle.nr_script.specs.inside.Reading.{IsReadSoFar, IsReadUpTo, with_request}
use Rattle.std.specs.Borrow.{Bor}
use Rattle.std.specs.declared.vec.Vec.{Vec}
use Rattle.std.specs.declared.alloc.Global.{Global}
use Rattle.std.proofs.lemmas.List.Splits.{length-slice_split}
use Rattle.std.proofs.lemmas.List.Sums.{count_by-le-length}
use Rattle.std.proofs.lemmas.Slice.Zip.{AllZip-long, all_zipped_more}
use Rattle.std.proofs.Common.{◌==◌, ◌≢◌, append_assoc, filter, get_or, map, set, take}
use Rattle.std.specs.List.{range_with_len}
use Rattle.std.proofs.lemmas.Bool.Decides.{nat_tests}
use Rattle.std.proofs.lemmas.Grind.{get_or-set_at}
use Rattle.std.proofs.lemmas.List.{get_or-map, get_or-set_other, length-map, length-set, map-append, map-set, take-map}
use Rattle.std.proofs.lemmas.List.Elements.{filter-append}
use Rattle.std.proofs.lemmas.List.FromFn.{fill_by_all, get_or-map-range_with_len, length-map-range_with_len, map-range_with_len_more, take-map-range_with_len}
use Rattle.vs_types.specs.Refusal.{IfRefused}
use Rattle.vs_types.specs.declared.requests.refusal.Fail.{Fail}
use Rattle.vs_types.specs.declared.requests.refusal.Fail.TheVariants.{Memory, Refused}
use Rattle.nr_script.specs.Script.{requests_by}
use Rattle.nr_script.specs.declared.script.BadLine.{BadLine}

pub asked_more : (said : List Line) (it : Line) → asked (said ++ it ∷ []) ≡ asked said ++ request_in it
asked_more said it = flat_map-append request_in said (it ∷ []) ∙ ap (λ (more : List (ℕ × Query)). asked said ++ more) (append-nil (request_in it))

pub steps_more : (said : List Line) (it : Line) → steps_of (said ++ it ∷ []) ≡ steps_of said ++ step_in it
steps_more said it = flat_map-append step_in said (it ∷ []) ∙ ap (λ (more : List Step). steps_of said ++ more) (append-nil (step_in it))

higher : ℕ → ℕ × Query → ℕ
higher most it = max most (it.0 + 1)

threads_more : (said : List Line) (it : Line) → thread_count (said ++ it ∷ []) ≡ fold higher (thread_count said) (request_in it)
unfolding higher
threads_more said it =
    ap (λ (them : List (ℕ × Query)). fold higher 1 them) (asked_more said it) ∙ fold-append higher 1 (asked said) (request_in it)

-- the first that passes, with one more at the end
from_more : {X : Type 0} (p : X → Bool) (i : ℕ) (xs : List X) (y : X)
    → position_from p i (xs ++ y ∷ []) ≡ option_or (position_from p i xs) (cond (p y) (Some (i + length xs)) None)
from_more p i [] y = ap (λ (at : ℕ). cond (p y) (Some at) None) (sym (add-zero i))
from_more p i (x ∷ xs) y =
    elim (p x) as (λ passes. cond passes (Some i) (position_from p (i + 1) (xs ++ y ∷ []))
    ≡ option_or (cond passes (Some i) (position_from p (i + 1) xs)) (cond (p y) (Some (i + suc (length xs))) None)) [
      | true ↦ refl
      | false ↦ from_more p (i + 1) xs y
          ∙ ap (λ (at : ℕ). option_or (position_from p (i + 1) xs) (cond (p y) (Some at) None)) (omega arith)
    ]

first_more : (said : List Line) (it : Line) (number : ℕ) → number ≡ length said + 1
    → first_step_in (said ++ it ∷ []) ≡ option_or (first_step_in said) (cond (is_step it) (Some number) None)
first_more said it number is =
    from_more is_step 1 said it ∙ ap (λ (at : ℕ). option_or (first_step_in said) (cond (is_step it) (Some at) None)) (omega arith)

pub or_none : {X : Type 0} (o : Option X) → option_or o None ≡ o
or_none None = refl
or_none (Some x) = refl

-- what a thread asks of all that is asked
abbrev share : List (ℕ × Query) → ℕ → List Query
share them thread = map (λ it. it.1) (filter (λ it. it.0 == thread) them)

abbrev shares : List (ℕ × Query) → List (List Query)
shares them = map (share them) (range_with_len 0 64)

share_more : (them : List (ℕ × Query)) (thread other : ℕ) (query : Query) (b : Bool) → (thread == other) ≡ b
    → share (them ++ (thread, query) ∷ []) other ≡ share them other ++ map {A = ℕ × Query} (λ it. it.1) (cond b ((thread, query) ∷ []) [])
share_more them thread other query b is =
    let test : ℕ × Query → Bool = λ it. it.0 == other in
    let last : List (ℕ × Query) = (thread, query) ∷ [] in
    ap (λ (some : List (ℕ × Query)). map (λ it. it.1) some) (filter-append test them last)
    ∙ map-append (λ (it : ℕ × Query). it.1) (filter test them) (filter test last)
    ∙ ap (λ (b : Bool). share them other ++ map {A = ℕ × Query} (λ it. it.1) (cond b last [])) is

-- a request more comes last in its thread's list, and the others are as before
share_at : (them : List (ℕ × Query)) (thread k : ℕ) (query : Query) (b : Bool) → thread < 64 → k < 64 → (thread == k) ≡ b
    → get_or (with_request thread query (shares them)) k [] ≡ share (them ++ (thread, query) ∷ []) k
share_at them thread k query true within below is =
    let same : k ≡ thread = grind (arith, nat_tests) in
    let old = shares them in
    get_or-set_at old thread k (get_or old thread [] ++ query ∷ []) [] same (omega (arith, length-map-range_with_len (share them) 0 64))
    ∙ ap (λ (first : List Query). first ++ query ∷ []) (get_or-map-range_with_len (share them) 0 64 thread k [] within (omega (arith, same)))
    ∙ sym (share_more them thread k query true is)
share_at them thread k query false within below is =
    let other : k ≢ thread = grind (arith, nat_tests) in
    let old = shares them in
    get_or-set_other old thread k (get_or old thread [] ++ query ∷ []) [] other
    ∙ get_or-map-range_with_len (share them) 0 64 k k [] below (omega arith)
    ∙ sym (share_more them thread k query false is ∙ append-nil (share them k))

pub shares_more : (them : List (ℕ × Query)) (thread : ℕ) (query : Query) → thread < 64
    → with_request thread query (shares them) ≡ shares (them ++ (thread, query) ∷ [])
shares_more them thread query within =
    let old = shares them in
    fill_by_all (share (them ++ (thread, query) ∷ [])) (with_request thread query old) 64 []
    (length-set old thread (get_or old thread [] ++ query ∷ []) ∙ length-map-range_with_len (share them) 0 64)
    (λ k below. share_at them thread k query (thread == k) within below refl)

-- a request that is pushed onto the list of a thread
pub pushed : (lists : List (Vec Query Global)) (old new : Vec Query Global) (thread : ℕ) (query : Query) → thread < length lists
    → old ≡ get_or lists thread old → new.items ≡ old.items ++ query ∷ []
    → map (λ list. list.items) (set lists thread new) ≡ with_request thread query (map (λ list. list.items) lists)
pushed lists old new thread query within is more =
    let items : Vec Query Global → List Query = λ list. list.items in
    let before : old.items ≡ get_or (map items lists) thread [] = ap items is ∙ sym (get_or-map items lists thread old [] within) in
    map-set items lists thread new
    ∙ ap (λ (list : List Query). set (map items lists) thread list) (more ∙ ap (λ (first : List Query). first ++ query ∷ []) before)

-- what is kept with one line more
pub read_more : (said : List Line) (old new : Reading) (it : Line) (number : ℕ) → IsReadSoFar said old → number ≡ length said + 1
    → new.asked ≡ old.asked + length (request_in it) → new.threads ≡ fold (λ most asked. max most (asked.0 + 1)) old.threads (request_in it)
    → map (λ list. list.items) new.lists.items ≡ shares (asked said ++ request_in it)
    → new.steps.items ≡ old.steps.items ++ step_in it → new.first_step ≡ option_or old.first_step (cond (is_step it) (Some number) None)
    → new.asked ≤ LOG_PLACES → length new.steps.items ≤ SCRIPT_STEPS → IsReadSoFar (said ++ it ∷ []) new
unfolding higher
read_more said old new it number kept is asked_is threads_is lists_are steps_is first_is few_asked few_steps =
    let all_asked = asked_more said it in
    let count : new.asked ≡ length (asked (said ++ it ∷ [])) =
    omega (arith, asked_is, kept.asked_is, ap length all_asked, length-append {A = ℕ × Query}) in
    let all_steps : new.steps.items ≡ steps_of (said ++ it ∷ []) =
    steps_is ∙ ap (λ (them : List Step). them ++ step_in it) kept.steps_are ∙ sym (steps_more said it) in
    record {
      threads_are = threads_is ∙ ap (λ (most : ℕ). fold higher most (request_in it)) kept.threads_are ∙ sym (threads_more said it);
      asked_is = count;
      lists_are = lists_are ∙ ap shares (sym all_asked);
      steps_are = all_steps;
      first_step_is =
          first_is ∙ ap (λ (first : Option ℕ). option_or first (cond (is_step it) (Some number) None)) kept.first_step_is ∙ sym (first_more said it number is);
      within_limits = record {
        requests = subst (λ (n : ℕ). n ≤ LOG_PLACES) count few_asked;
        steps = subst (λ (them : List Step). length them ≤ SCRIPT_STEPS) all_steps few_steps;
      };
    }

-- a request past the limit
pub past_requests : (said : List Line) (old : Reading) (thread : ℕ) (query : Query) (it : Line) → request_in it ≡ (thread, query) ∷ []
    → IsReadSoFar said old → LOG_PLACES ≤ old.asked
    → IsWithinLimits (said ++ it ∷ []) → ⊥
past_requests said old thread query it is kept full within =
    omega (arith, ap length (asked_more said it), ap length is, kept.asked_is, within.requests, length-append {A = ℕ × Query})

few_steps_kept : (said : List Line) (reading : Reading) → IsReadSoFar said reading → length reading.steps.items ≤ SCRIPT_STEPS
few_steps_kept said reading kept = subst (λ (them : List Step). length them ≤ SCRIPT_STEPS) (sym kept.steps_are) kept.within_limits.steps

few_asked_kept : (said : List Line) (reading : Reading) → IsReadSoFar said reading → reading.asked ≤ LOG_PLACES
few_asked_kept said reading kept = omega (arith, kept.asked_is, kept.within_limits.requests)

-- there is a list for each of the most threads
pub all_lists : (said : List Line) (reading : Reading) → IsReadSoFar said reading → length reading.lists.items ≡ 64
all_lists said reading kept =
    sym (length-map reading.lists.items (λ (list : Vec Query Global). list.items)) ∙ ap length kept.lists_are
    ∙ length-map-range_with_len (requests_by said) 0 64

same_shares : (said : List Line) (reading : Reading) → IsReadSoFar said reading → map (λ list. list.items) reading.lists.items ≡ shares (asked said ++ [])
same_shares said reading kept = kept.lists_are ∙ ap shares (sym (append-nil (asked said)))

pub read_passed_over : (said : List Line) (reading : Reading) (number : ℕ) → IsReadSoFar said reading → number ≡ length said + 1
    → IsReadSoFar (said ++ says.PassedOver ∷ []) reading
read_passed_over said reading number kept is =
    read_more said reading reading says.PassedOver number kept is (sym (add-zero reading.asked)) refl (same_shares said reading kept)
    (sym (append-nil reading.steps.items)) (sym (or_none reading.first_step)) (few_asked_kept said reading kept) (few_steps_kept said reading kept)

pub read_request : (said : List Line) (old new : Reading) (thread : ℕ) (query : Query) (number : ℕ) → IsReadSoFar said old → number ≡ length said + 1
    → thread < 64 → new.threads ≡ max old.threads (thread + 1) → new.asked ≡ old.asked + 1
    → map (λ list. list.items) new.lists.items ≡ with_request thread query (map (λ list. list.items) old.lists.items)
    → new.steps ≡ old.steps → new.first_step ≡ old.first_step → old.asked < LOG_PLACES
    → IsReadSoFar (said ++ says.Request thread query ∷ []) new
read_request said old new thread query number kept is within threads_is asked_is lists_are steps_is first_is few =
    read_more said old new (says.Request thread query) number kept is asked_is threads_is
    (lists_are ∙ ap (with_request thread query) kept.lists_are ∙ shares_more (asked said) thread query within)
    (ap (λ (them : Vec Step Global). them.items) steps_is ∙ sym (append-nil old.steps.items)) (first_is ∙ sym (or_none old.first_step))
    (omega (arith, asked_is))
    (subst (λ (them : Vec Step Global). length them.items ≤ SCRIPT_STEPS) (sym steps_is) (few_steps_kept said old kept))

pub read_step : (said : List Line) (old new : Reading) (step : Step) (number : ℕ) → IsReadSoFar said old → number ≡ length said + 1
    → new.threads ≡ old.threads → new.asked ≡ old.asked → new.lists ≡ old.lists → new.steps.items ≡ old.steps.items ++ step ∷ []
    → new.first_step ≡ option_or old.first_step (Some number) → length old.steps.items < SCRIPT_STEPS
    → IsReadSoFar (said ++ says.Step step ∷ []) new
read_step said old new step number kept is threads_is asked_is lists_is steps_is first_is few =
    read_more said old new (says.Step step) number kept is (asked_is ∙ sym (add-zero old.asked)) threads_is
    (ap (λ (them : Vec (Vec Query Global) Global). map (λ list. list.items) them.items) lists_is ∙ same_shares said old kept) steps_is first_is
    (subst (λ (n : ℕ). n ≤ LOG_PLACES) (sym asked_is) (few_asked_kept said old kept))
    (omega (arith, ap length steps_is, length-append {A = Step}))

-- no text has more lines than bytes, but for one
pub few_lines : (bytes : List ℕ) (done rest : List (List ℕ)) → lines bytes ≡ done ++ rest → length done ≤ length bytes + 1
few_lines bytes done rest same =
    omega (arith, ap length same, length-append {A = List ℕ}, length-slice_split (λ byte. byte == 10) bytes, count_by-le-length (λ byte. byte == 10) bytes)

moved : {A : Type 0} (done : List A) (line : A) (rest : List A) → done ++ line ∷ rest ≡ (done ++ line ∷ []) ++ rest
moved done line rest = simp append_assoc

pub line_more : (depth : Depth) (bytes line : List ℕ) (left : Bor (List ℕ)) (rest : Option (Bor (List ℕ))) (number : ℕ) (old new : Reading)
    → (up : IsReadUpTo depth bytes (Some left) number old) → parts 10 left.now ≡ line ∷ parts_left 10 rest
    → (it : Line) → Says depth line it → IsReadSoFar (up.said ++ it ∷ []) new → IsReadUpTo depth bytes rest (number + 1) new
line_more depth bytes line left rest number old new up cut it said kept = record {
  done = up.done ++ line ∷ [];
  lines_are = up.lines_are ∙ ap (λ (them : List (List ℕ)). up.done ++ them) cut ∙ moved up.done line (parts_left 10 rest);
  number_is = omega (arith, up.number_is, length-append {A = List ℕ});
  said = up.said ++ it ∷ [];
  each_says = all_zipped_more (Says depth) up.done up.said line it up.each_says said;
  kept = kept;
}

pub bad_line : (depth : Depth) (bytes line : List ℕ) (left : Bor (List ℕ)) (rest : Option (Bor (List ℕ))) (number bad : ℕ) (old : Reading)
    → (up : IsReadUpTo depth bytes (Some left) number old) → parts 10 left.now ≡ line ∷ parts_left 10 rest
    → bad ≡ number + 1 → IsBadAfter depth up.said line → IsBadLine depth bytes bad
bad_line depth bytes line left rest number bad old up cut is after = record {
  before = up.done;
  line = line;
  rest = parts_left 10 rest;
  lines_are = up.lines_are ∙ ap (λ (them : List (List ℕ)). up.done ++ them) cut;
  number_is = is ∙ ap (λ (n : ℕ). n + 1) up.number_is;
  said = up.said;
  each_says = up.each_says;
  within_limits = up.kept.within_limits;
  is_bad = after;
}

-- the number of the next line
pub next_number : (depth : Depth) (bytes : List ℕ) (left : Option (Bor (List ℕ))) (number : ℕ) (reading : Reading)
    → (up : IsReadUpTo depth bytes left number reading) → number + 1 ≡ length up.said + 1
next_number depth bytes left number reading up = omega (arith, up.number_is, AllZip-long (Says depth) up.done up.said up.each_says)

pub number_fits : (depth : Depth) (bytes : List ℕ) (left : Option (Bor (List ℕ))) (number : ℕ) (reading : Reading)
    → IsReadUpTo depth bytes left number reading → number ≤ length bytes + 1
number_fits depth bytes left number reading up = omega (arith, up.number_is, few_lines bytes up.done (parts_left 10 left) up.lines_are)

pub refused_at : (depth : Depth) (bytes line : List ℕ) (left : Bor (List ℕ)) (rest : Option (Bor (List ℕ))) (number : ℕ) (old : Reading)
    → (up : IsReadUpTo depth bytes (Some left) number old) → parts 10 left.now ≡ line ∷ parts_left 10 rest
    → (fail : Fail BadLine) → IfRefused (λ bad. (bad.0 ≡ number + 1) × IsBadAfter depth up.said line) fail
    → IfRefused (λ bad. IsBadLine depth bytes bad.0) fail
refused_at depth bytes line left rest number old up cut Memory h = tt
refused_at depth bytes line left rest number old up cut (Refused bad) h = bad_line depth bytes line left rest number bad.0 old up cut h.0 h.1

-- a list more
pub lists_more : (f : ℕ → List Query) (old new : List (Vec Query Global)) (list : Vec Query Global) (n : ℕ) → new ≡ old ++ list ∷ []
    → map (λ it. it.items) old ≡ map f (range_with_len 0 n) → list.items ≡ f n → map (λ it. it.items) new ≡ map f (range_with_len 0 (n + 1))
lists_more f old new list n is so_far last =
    ap (λ (them : List (Vec Query Global)). map (λ it. it.items) them) is
    ∙ map-append (λ (it : Vec Query Global). it.items) old (list ∷ [])
    ∙ ap (λ (them : List (List Query)). them ++ list.items ∷ []) so_far
    ∙ ap (λ (it : List Query). map f (range_with_len 0 n) ++ it ∷ []) last
    ∙ sym (map-range_with_len_more f 0 n n (omega arith))

-- what each thread asks, where there are so many
pub first_lists : (said : List Line) (all some : List (Vec Query Global)) (n : ℕ) → some ≡ take n all → n ≤ 64 → n ≡ thread_count said
    → map (λ list. list.items) all ≡ map (requests_by said) (range_with_len 0 64)
    → map (λ list. list.items) some ≡ map (requests_by said) (range_with_len 0 (thread_count said))
first_lists said all some n first few count are =
    ap (λ (them : List (Vec Query Global)). map (λ it. it.items) them) first
    ∙ sym (take-map (λ (it : Vec Query Global). it.items) n all)
    ∙ ap (take n) are ∙ take-map-range_with_len (requests_by said) 0 64 n few
    ∙ ap (λ (count : ℕ). map (requests_by said) (range_with_len 0 count)) count
