-- What a reader of a chain has come to.
use Rattle.std.specs.Prelude.{◌≡◌, ℕ, List, Option, None, Some, ⊤}
use Rattle.vs_types.specs.Config.{Layout}
use Rattle.nr_trace.specs.Run.{Run}
use Rattle.nr_audit.specs.Segments.{IsKept}
use Rattle.nr_audit.specs.declared.histories.past.Past.{Past}

-- what is kept of the segments so far, for the next one: how they are laid out, the space after the last of them, and how addresses may still be
-- found to look otherwise
pub record Kept : Type 0 where
  pub layout : Layout
  pub past : Past

-- that, if there are any, and the bytes of the next segment so far
pub record ChainFed : Type 0 where
  pub kept : Option Kept
  pub bytes : List ℕ

-- this is kept of a run
abbrev pub IsKeptOf : Option Run → Option Kept → Type 0
IsKeptOf None None = ⊤
IsKeptOf (Some run) (Some kept) = (kept.layout ≡ run.trace.layout) × IsKept run kept.past
IsKeptOf run kept = ⊥
