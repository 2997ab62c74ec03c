-- A region may cross threads as its values may, and a lease as its allocator may.
use Rattle.std.specs.Prelude.{ℕ, ◌+◌, List, [], ◌∷◌, Option, Some, None}
use Rattle.std.specs.Mem.{type_size}
use base.Fraction.{full_share}
use base.Shift.{Keyless}
use denote.RattleType.{RattleType}
use denote.RawPtr.{Ptr, block_ptr, null_ptr}
use denote.Exit.{Exit, unchanged, leaves, hidden, under}
use denote.Struct.Struct.{exits_of}
use denote.Struct.Owning.{shape, fields, to}
use denote.Param.Send.{IsSend, IsSync, Frees, Quiet, Common, AllSend, part_keyless, owning_send, struct_send, struct_sync, sendable}
use Rattle.std.specs.declared.alloc.Allocator.{Ghosts}
use Rattle.vs_arena.specs.inside.RegionMemory.{row_of, row_lent, region_owns, region_lends}
use Rattle.vs_arena.specs.contracts.region.Region as Region
use Rattle.vs_arena.specs.contracts.region.Lease as Lease

quiet : {D X : Type 0} (to : D → X) (e : Exit X) → Quiet e → Quiet (hidden (under to e))
quiet to unchanged q = λ x w. tt
quiet to (leaves L l S s r₀) q = λ d. q (to d)

module _ (R : RattleType) where
  row-Keyless : IsSend R → (b o : ℕ) (cs : List (Option R.Denot)) → Keyless (row_of R b o cs)
  row-Keyless s b o [] = tt
  row-Keyless s b o (Some x ∷ cs) = (part_keyless R s full_share x b o, row-Keyless s b (o + type_size R) cs)
  row-Keyless s b o (None ∷ cs) = (tt, row-Keyless s b (o + type_size R) cs)

  row_lent-Common : IsSync R → (b o : ℕ) (cs : List (Option R.Denot)) → Common (row_lent R b o cs)
  row_lent-Common y b o [] κ = tt
  row_lent-Common y b o (Some x ∷ cs) κ = (y.shared x b o κ, row_lent-Common y b (o + type_size R) cs κ)
  row_lent-Common y b o (None ∷ cs) κ = (tt, row_lent-Common y b (o + type_size R) cs κ)

  region-Keyless : IsSend R → (p : Ptr) (cs : List (Option R.Denot)) → Keyless (region_owns R p cs)
  region-Keyless s (block_ptr b o) cs = (tt, row-Keyless s b o cs)
  region-Keyless s null_ptr cs = tt

  region_lends-Common : IsSync R → (p : Ptr) (cs : List (Option R.Denot)) → Common (region_lends R p cs)
  region_lends-Common y (block_ptr b o) cs κ = (tt, row_lent-Common y b o cs κ)
  region_lends-Common y null_ptr cs κ = tt

  pub Region-send : IsSend R → IsSend (Region.the_row R)
  Region-send s =
      let O = Region.the_type R in let all : AllSend (fields O) = (search sendable, tt) in
      owning_send O all (λ d. region-Keyless s d.first d.places) (λ k. quiet (to O) (exits_of k (fields O)) ((struct_send (shape O) all).leaving k))

  pub Region-sync : IsSync R → IsSync (Region.the_row R)
  Region-sync y = let O = Region.the_type R in record
      { shared = λ d b o κ. ((struct_sync (shape O) (search sendable, tt)).shared (to O d) b o κ, region_lends-Common y d.first d.places κ) }

  module _ (A : RattleType) (g : Ghosts A.Denot) where
    pub Lease-send : Frees g g.dealloc_token → IsSend (Lease.the_row R A g)
    Lease-send f =
        let O = Lease.the_type R A g in let all : AllSend (fields O) = (search sendable, tt) in
        owning_send O all (λ d. f.frees d.alloc _ d.first) (λ k. quiet (to O) (exits_of k (fields O)) ((struct_send (shape O) all).leaving k))

    pub Lease-sync : IsSync (Lease.the_row R A g)
    Lease-sync = let O = Lease.the_type R A g in record { shared = λ d b o κ. ((struct_sync (shape O) (search sendable, tt)).shared (to O d) b o κ, tt) }
