-- What is printed of the pages of a dump.
use Rattle.std.specs.Prelude.{◌≡◌, ℕ, Bool, List, None}
use Rattle.vs_types.specs.Depth.{IsCanonical}
use Rattle.vs_types.specs.declared.addresses.depth.Depth.{Depth}
use Rattle.vs_walk.specs.Dump.{Image, IsDump}
use Rattle.vs_walk.specs.Traversal.{found_in, walk_fault}
use Rattle.vs_walk.specs.Walk.{walk}
use Rattle.audit_texts.specs.Listing.{pages_text}

-- what is printed of its pages, in the order of the traversal: each once, by rising base
abbrev pub dump_text : Bool → Depth → Image → List ℕ
dump_text as_ranges depth dump = pages_text as_ranges (found_in depth dump)

-- a dump whose traversal meets no fault
pub record IsFaultless (depth : Depth) (dump : Image) : Type 0 where
  pub is_dump : IsDump dump
  pub no_fault : walk_fault depth dump.frames dump.root ≡ None

-- both translate each address alike that is canonical for both
abbrev pub TranslateAlike : Depth → Image → Depth → Image → Type 0
TranslateAlike depth dump other_depth other = (address : ℕ) → IsCanonical depth address → IsCanonical other_depth address
    → walk depth dump.frames dump.root address ≡ walk other_depth other.frames other.root address
