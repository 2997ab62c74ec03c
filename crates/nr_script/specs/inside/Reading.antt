-- What is kept of the lines so far.
use Rattle.std.specs.Prelude.{◌≡◌, ℕ, ◌++◌, List, [], ◌∷◌, length, map, slice_index_or, slice_set, Option}
use Rattle.std.specs.List.{range_with_len, AllZip}
use Rattle.std.specs.Borrow.{Bor}
use Rattle.vs_types.specs.declared.addresses.depth.Depth.{Depth}
use Rattle.vs_types.specs.declared.requests.request.Query.{Query}
use Rattle.nr_script.specs.Lines.{lines, Says}
use Rattle.nr_script.specs.Script.{asked, first_step_in, requests_by, steps_of, thread_count, IsWithinLimits}
use Rattle.nr_script.specs.inside.Left.{parts_left}
use Rattle.nr_script.specs.declared.line.Line.{Line}
use Rattle.nr_script.specs.declared.reading.Reading.{Reading}

-- what each thread asks, with a request more of this one
abbrev pub with_request : ℕ → Query → List (List Query) → List (List Query)
with_request thread request lists = slice_set lists thread (slice_index_or lists thread [] ++ request ∷ [])

-- the lines said this
pub record IsReadSoFar (said : List Line) (reading : Reading) : Type 0 where
  pub threads_are : reading.threads ≡ thread_count said
  pub asked_is : reading.asked ≡ length (asked said)
  pub lists_are : map (λ list. list.items) reading.lists.items ≡ map (requests_by said) (range_with_len 0 64)
  pub steps_are : reading.steps.items ≡ steps_of said
  pub first_step_is : reading.first_step ≡ first_step_in said
  pub within_limits : IsWithinLimits said

-- so many lines are taken off, each says something, and that is what is kept
pub record IsReadUpTo (depth : Depth) (bytes : List ℕ) (left : Option (Bor (List ℕ))) (number : ℕ) (reading : Reading) : Type 0 where
  pub done : List (List ℕ)
  pub lines_are : lines bytes ≡ done ++ parts_left 10 left
  pub number_is : number ≡ length done
  pub said : List Line
  pub each_says : AllZip (Says depth) done said
  pub kept : IsReadSoFar said reading

-- all lines are taken off
pub record IsAllRead (depth : Depth) (bytes : List ℕ) (reading : Reading) : Type 0 where
  pub said : List Line
  pub each_says : AllZip (Says depth) (lines bytes) said
  pub kept : IsReadSoFar said reading
