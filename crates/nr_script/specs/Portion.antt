-- Portions of a script of any length that comes in pieces: what each thread asks in some of its lines.
use Rattle.std.specs.Prelude.{◌≡◌, ◌<◌, ◌⊎◌, ℕ, ◌+◌, List, [], ◌∷◌, ◌++◌, length, min, replicate, slice_index_or}
use Rattle.std.specs.List.{sum_by, AllZip}
use Rattle.vs_types.specs.declared.addresses.depth.Depth.{Depth}
use Rattle.vs_types.specs.declared.requests.request.Query.{Query}
use Rattle.nr_core.specs.declared.runs.step.Step.{Step}
use Rattle.nr_script.specs.Fed.{EndsIn}
use Rattle.nr_script.specs.Lines.{Says}
use Rattle.nr_script.specs.Script.{requests_by, step_in, steps_of}
use Rattle.nr_script.specs.declared.line.Line.{Line}
use Rattle.nr_script.specs.declared.line.Line.TheVariants as says

-- the depth of the requests; the bytes of the line that has begun, and its number; and what each of 64 threads asks in the lines since the
-- last portion
pub record PortionState : Type 0 where
  pub depth : Depth
  pub begun : List ℕ
  pub number : ℕ
  pub lists : List (List Query)

-- nothing has come yet
abbrev pub no_portion : Depth → PortionState
no_portion depth = record { depth = depth; begun = []; number = 1; lists = replicate 64 [] }

-- how many requests these lists have in all
abbrev pub request_count : List (List Query) → ℕ
request_count lists = sum_by (λ list. length list) lists

-- the number of the line so many behind the one of this number; from 4,294,967,295 on all lines have that number
abbrev pub number_behind : ℕ → ℕ → ℕ
number_behind number count = min (number + count) 4294967295

-- each thread's list has behind it what these lines ask of the thread
pub record AsksMore (old : List (List Query)) (said : List Line) (new : List (List Query)) : Type 0 where
  pub as_many : length new ≡ length old
  pub lists_are : (thread : ℕ) → thread < 64 → slice_index_or new thread [] ≡ slice_index_or old thread [] ++ requests_by said thread

-- these bytes come, and end some lines, which are no steps: of any text that ends in the line that had begun they are the next lines, and
-- the lists have behind them what these lines ask
pub record TakesLines (old : PortionState) (bytes : List ℕ) (new : PortionState) : Type 0 where
  pub texts : List (List ℕ)
  pub said : List Line
  pub each_says : AllZip (Says old.depth) texts said
  pub no_step : steps_of said ≡ []
  pub lines_are : (text : List ℕ) (before : List (List ℕ)) → EndsIn text before old.begun → EndsIn (text ++ bytes) (before ++ texts) new.begun
  pub depth_is : new.depth ≡ old.depth
  pub number_is : new.number ≡ number_behind old.number (length said)
  pub asks : AsksMore old.lists said new.lists

-- the line has no form, or is a step
abbrev pub IsNoRequest : Depth → List ℕ → Type 0
IsNoRequest depth line = ((it : Line) → Says depth line it → ⊥) ⊎ ((step : Step) × Says depth line (says.Step step))

-- behind lines that are taken, with fewer requests than so many in all, these bytes end a line that has no form or is a step, and it has this
-- number
pub record HasBadNext (old : PortionState) (bytes : List ℕ) (most number : ℕ) : Type 0 where
  pub front : List ℕ
  pub ended : List ℕ
  pub rest : List ℕ
  pub split : bytes ≡ front ++ (ended ++ rest)
  pub mid : PortionState
  pub takes : TakesLines old front mid
  pub room : request_count mid.lists < most
  pub number_is : number ≡ mid.number
  pub line : List ℕ
  pub lines_are : (text : List ℕ) (before : List (List ℕ)) → EndsIn text before mid.begun → EndsIn (text ++ ended) (before ++ line ∷ []) []
  pub is_bad : IsNoRequest old.depth line

-- the text ends: the line that has begun is its last and no step, and these are the lists with what it asks
pub record EndsPortion (old : PortionState) (lists : List (List Query)) : Type 0 where
  pub said : Line
  pub says : Says old.depth old.begun said
  pub no_step : step_in said ≡ []
  pub asks : AsksMore old.lists (said ∷ []) lists
