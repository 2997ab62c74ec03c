-- What each thread asks is its share of what is asked: the shares are no more than the whole, and well formed.
use Rattle.std.proofs.Common.{◌≡◌, ℕ, ◌+◌, ◌<◌, ◌≤◌, ◌==◌, max, Bool, true, false, cond, List, [], ◌∷◌, zero, suc, length, map, filter, refl, sym, ap, subst}
use Rattle.std.proofs.Common.{◌∙◌, arith}
use Rattle.std.specs.List.{All, AllByRecursion, AllZip, fold, range_with_len, sum_by}
use Rattle.std.proofs.lemmas.Bool.Decides.{nat_tests}
use Rattle.std.proofs.lemmas.List.Elements.{All-from_recursion}
use Rattle.std.proofs.lemmas.List.FromFn.{length-map-range_with_len}
use Rattle.std.proofs.lemmas.List.Sums.{sum_by-cons}
use Rattle.vs_types.specs.Config.{Layout}
use Rattle.vs_types.specs.Query.{IsQuery}
use Rattle.vs_types.specs.declared.addresses.depth.Depth.{Depth}
use Rattle.vs_types.specs.declared.requests.request.Query.{Query}
use Rattle.vs_types.specs.Query.{AreScripts}
use Rattle.nr_script.specs.Lines.{Says}
use Rattle.nr_script.specs.Script.{asked, requests_by, thread_count, IsScript}
use Rattle.nr_script.specs.Lines.{lines}
use Rattle.nr_script.specs.declared.line.Line.{Line}
use Rattle.nr_script.specs.declared.line.Line.TheVariants as says
use Rattle.nr_script.specs.declared.script.Script.{Script}

-- a thread below 64, and a request that is well formed
abbrev IsAsked : Depth → ℕ × Query → Type 0
IsAsked depth it = (it.0 < 64) × IsQuery depth it.1

all_asked : (depth : Depth) (texts : List (List ℕ)) (said : List Line) → AllZip (Says depth) texts said → AllByRecursion (IsAsked depth) (asked said)
all_asked depth [] [] all = tt
all_asked depth (text ∷ texts) (says.PassedOver ∷ said) all = all_asked depth texts said all.1
all_asked depth (text ∷ texts) (says.Step step ∷ said) all = all_asked depth texts said all.1
all_asked depth (text ∷ texts) (says.Request thread query ∷ said) all = ((all.0.thread_fits, all.0.query_is.well_formed), all_asked depth texts said all.1)
all_asked depth _ _ all = absurd all

highest : (depth : Depth) (them : List (ℕ × Query)) (most : ℕ) → AllByRecursion (IsAsked depth) them → 1 ≤ most → most ≤ 64
    → (1 ≤ fold (λ most it. max most (it.0 + 1)) most them) × (fold (λ most it. max most (it.0 + 1)) most them ≤ 64)
highest depth [] most all low high = (low, high)
highest depth (it ∷ them) most all low high =
    let fits = all.0.0 in
    highest depth them (max most (it.0 + 1)) all.1 (omega arith) (omega arith)

pub threads_in_range : (depth : Depth) (texts : List (List ℕ)) (said : List Line) → AllZip (Says depth) texts said
    → (1 ≤ thread_count said) × (thread_count said ≤ 64)
threads_in_range depth texts said all = highest depth (asked said) 1 (all_asked depth texts said all) (omega arith) (omega arith)

-- the share of a thread
share : List (ℕ × Query) → ℕ → List Query
share them thread = map (λ it. it.1) (filter (λ it. it.0 == thread) them)

abbrev tally : Bool → ℕ
tally b = cond b 1 0

-- how often a thread is among those from a on
hits : ℕ → ℕ → ℕ → ℕ
hits thread a zero = 0
hits thread a (suc n) = tally (thread == a) + hits thread (a + 1) n

no_hits : (thread a n : ℕ) → thread < a → hits thread a n ≡ 0
unfolding hits
no_hits thread a zero below = refl
no_hits thread a (suc n) below =
    let other : (thread == a) ≡ false = grind (arith, nat_tests) in
    omega (arith, ap tally other, no_hits thread (a + 1) n (omega arith))

few_hits : (thread a n : ℕ) → hits thread a n ≤ 1
unfolding hits
few_hits thread a zero = omega arith
few_hits thread a (suc n) = by_test (few_hits thread (a + 1) n) (thread == a) refl where
  by_test : hits thread (a + 1) n ≤ 1 → (b : Bool) → (thread == a) ≡ b → tally (thread == a) + hits thread (a + 1) n ≤ 1
  by_test few true is =
      let same : thread ≡ a = grind (arith, nat_tests) in
      omega (arith, ap tally is, no_hits thread (a + 1) n (omega arith))
  by_test few false is = omega (arith, ap tally is)

sizes : List (ℕ × Query) → ℕ → ℕ → ℕ
sizes them a n = sum_by (λ list. length list) (map (share them) (range_with_len a n))

sizes_more : (them : List (ℕ × Query)) (a n : ℕ) → sizes them a (suc n) ≡ length (share them a) + sizes them (a + 1) n
unfolding sizes
sizes_more them a n = sum_by-cons (λ list. length list) (share them a) (map (share them) (range_with_len (a + 1) n))

share_more : (it : ℕ × Query) (them : List (ℕ × Query)) (thread : ℕ) → length (share (it ∷ them) thread) ≡ tally (it.0 == thread) + length (share them thread)
unfolding share
share_more it them thread =
    elim (it.0 == thread) as (λ b. length
    (map {A = ℕ × Query} (λ asked. asked.1)
    (cond b (it ∷ filter (λ asked. asked.0 == thread) them) (filter (λ asked. asked.0 == thread) them)))
    ≡ tally b + length (map {A = ℕ × Query} (λ asked. asked.1) (filter (λ asked. asked.0 == thread) them))) [
      | true ↦ omega arith
      | false ↦ omega arith
    ]

sizes_of_none : (a n : ℕ) → sizes [] a n ≡ 0
unfolding sizes share
sizes_of_none a zero = refl
sizes_of_none a (suc n) =
    let none : length (share [] a) ≡ 0 = refl in
    omega (arith, sizes_more [] a n, sizes_of_none (a + 1) n)

sizes_of_more : (it : ℕ × Query) (them : List (ℕ × Query)) (a n : ℕ) → sizes (it ∷ them) a n ≡ hits it.0 a n + sizes them a n
unfolding hits
sizes_of_more it them a zero = unfold sizes in refl
sizes_of_more it them a (suc n) =
    omega (arith, sizes_more (it ∷ them) a n, sizes_more them a n, share_more it them a, sizes_of_more it them (a + 1) n)

shares_fit : (them : List (ℕ × Query)) (a n : ℕ) → sizes them a n ≤ length them
shares_fit [] a n = omega (arith, sizes_of_none a n)
shares_fit (it ∷ them) a n = omega (arith, sizes_of_more it them a n, few_hits it.0 a n, shares_fit them a n)

well_formed_share : (depth : Depth) (them : List (ℕ × Query)) (thread : ℕ) → AllByRecursion (IsAsked depth) them
    → AllByRecursion (IsQuery depth) (share them thread)
unfolding share
well_formed_share depth [] thread all = tt
well_formed_share depth (it ∷ them) thread all =
    elim (it.0 == thread) as (λ b. AllByRecursion (IsQuery depth)
    (map {A = ℕ × Query} (λ asked. asked.1)
    (cond b (it ∷ filter (λ asked. asked.0 == thread) them) (filter (λ asked. asked.0 == thread) them)))) [
      | true ↦ (all.0.1, well_formed_share depth them thread all.1)
      | false ↦ well_formed_share depth them thread all.1
    ]

each_well_formed : (depth : Depth) (them : List (ℕ × Query)) (a n : ℕ) → AllByRecursion (IsAsked depth) them
    → AllByRecursion (All (IsQuery depth)) (map (share them) (range_with_len a n))
each_well_formed depth them a zero all = tt
each_well_formed depth them a (suc n) all =
    (All-from_recursion (IsQuery depth) (share them a) (well_formed_share depth them a all), each_well_formed depth them (a + 1) n all)

-- the requests are scripts for that many threads
pub scripts_of : (depth : Depth) (bytes : List ℕ) (script : Script) (layout : Layout) → IsScript depth bytes script → layout.depth ≡ depth
    → layout.threads ≡ script.threads
    → AreScripts layout (map (λ list. list.items) script.requests.items)
unfolding share sizes
scripts_of depth bytes script layout is deep many =
    let said = is.said in
    let all = all_asked depth (lines bytes) said is.each_says in
    let count = thread_count said in
    let P : List (List Query) → Type 0 = AreScripts layout in
    subst P (sym is.requests_are) (record {
      one_each = length-map-range_with_len (requests_by said) 0 count ∙ sym is.threads_are ∙ sym many;
      few = omega (arith, shares_fit (asked said) 0 count, is.within_limits.requests);
      well_formed =
          let Q : Depth → Type 0 = λ depth. All (All (IsQuery depth)) (map (requests_by said) (range_with_len 0 count)) in
          subst Q (sym deep) (All-from_recursion (All (IsQuery depth)) (map (requests_by said) (range_with_len 0 count))
          (each_well_formed depth (asked said) 0 count all));
    })

-- what a thread asks in lines is well formed
pub well_formed_requests : (depth : Depth) (texts : List (List ℕ)) (said : List Line) (thread : ℕ) → AllZip (Says depth) texts said
    → All (IsQuery depth) (requests_by said thread)
unfolding share
well_formed_requests depth texts said thread all =
    All-from_recursion (IsQuery depth) (share (asked said) thread) (well_formed_share depth (asked said) thread (all_asked depth texts said all))
