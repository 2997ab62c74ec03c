-- What a region of memory owns and lends, at values of the row R. No clause of a public call cites it.
use Rattle.std.specs.Prelude.{ℕ, ◌+◌, ◌*◌, ◌^◌, List, [], ◌∷◌, length, Option, Some, None}
use Rattle.std.specs.Mem.{type_size}
use base.Fraction.{full_share}
use base.Fml.{Lft, Fml, ftrue, ffalse, fsep, flt, froom}
use mir.Syntax.{Ty, ty_array}
use mir.Raw.{raw}
use denote.RattleType.{RattleType}
use denote.Memory.{lone, part_at, shared_of}
use denote.Sharing.{nothing, said, beside}
use denote.RawPtr.{Ptr, block_ptr, null_ptr}

module _ (R : RattleType) where
  -- one place, o bytes into the block b: a value, or room for one
  abbrev pub place : ℕ → ℕ → Option R.Denot → Fml
  place b o (Some x) = part_at R full_share x b o
  place b o None = froom (raw (lone R.mir)) b o

  -- places side by side
  abbrev pub row_of : ℕ → ℕ → List (Option R.Denot) → Fml
  row_of b o [] = ftrue
  row_of b o (c ∷ cs) = fsep (place b o c) (row_of b (o + type_size R) cs)

  -- what a `&` shows of them
  abbrev pub place_lent : ℕ → ℕ → Option R.Denot → Lft → Fml
  place_lent b o (Some x) = shared_of R x b o
  place_lent b o None = nothing

  abbrev pub row_lent : ℕ → ℕ → List (Option R.Denot) → Lft → Fml
  row_lent b o [] = nothing
  row_lent b o (c ∷ cs) = beside (place_lent b o c) (row_lent b (o + type_size R) cs)

  -- the places take fewer than 2 ^ 63 bytes
  abbrev pub fit : List (Option R.Denot) → Fml
  fit cs = flt (length cs * type_size R) (2 ^ 63)

  abbrev pub region_owns : Ptr → List (Option R.Denot) → Fml
  region_owns (block_ptr b o) cs = fsep (fit cs) (row_of b o cs)
  region_owns null_ptr cs = ffalse

  abbrev pub region_lends : Ptr → List (Option R.Denot) → Lft → Fml
  region_lends (block_ptr b o) cs = beside (said (fit cs)) (row_lent b o cs)
  region_lends null_ptr cs = said ffalse

  -- the allocator's token for a block of n places
  abbrev pub lease_owns : (Ty → Ptr → Fml) → Ptr → ℕ → Fml
  lease_owns token p n = token (raw (ty_array (lone R.mir) n)) p
