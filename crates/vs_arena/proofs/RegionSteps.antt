-- Steps of the walks of the functions with raw pointers.
--     region_had, region_made           what a region owns is taken apart and made
--     region_opens, region_closes       a `&mut` to a region is opened and closed
--     pointer_in, pointer_out           a pointer behind a `&` is looked at
--     lease_had                         what a lease owns is taken apart
--     knowing                           what the types say of the machine values passed
use mathlib.Core.Path.{◌≡◌, refl, sym, ap, ◌∙◌}
use Prim.Native.Nat.{ℕ, zero, suc, ◌*◌, ◌<◌, ◌^◌}
use native.Mathlib.Nat.{zero-mul, suc-mul}
use native.Mathlib.Omega.{arith}
use mathlib.Core.List.{List, [], ◌∷◌}
use lib.ListN.{length}
use seplogic.Ra.Ura.{Ura}
use base.Fraction.{full_share}
use base.Stored.{Gv}
use mir.Syntax.{Ty, Args, a_type, dcons, dnil, ty_array, ty_ptr}
use mir.Val.{Val, vptr}
use mir.Raw.{raw as bare}
use base.Logic.{SProp, ent, via, id⊢, never, fst∗, snd∗}
use base.Fml.{Lft, GName, Share, fsep, fat, flft, fobs, fauth, fbor, fobor}
use prog.Memory.{size, align, capped}
use prog.Capped.{capped_is}
use prog.RawLaws.{size-raw, align-raw}
use types.Logic.{Logic, sem}
use contract.Monad.{Fun, fact_use}
use types.Kit.{Goal, Soaks, Step, step, Seq, Item, ‵, ◌$◌, move, drop, rewrite, fsplit, fjoin, feq_i, feq_l, flt_l, flt_i}
use types.SemTy.{Body}
use denote.RattleType.{RattleType, owns}
use denote.Laws.{Are, Ises, owns_show, showss}
use denote.Memory.{cell_at, mem, part_at, hidden_shr}
use denote.Opens.{Shut}
use denote.Copied.{plain_Copied}
use denote.Param.{param, bounded}
use denote.RawPtr.{Ptr, RawPtr, block_ptr, in_a_block, coded_ptr, ptr_own, rawptr_pure, ptr_val}
use denote.Signature.{types_at}
use denote.Steps.{opens, closes, looks, shuts}
use denote.Struct.Laws.{RawPtr-laws}
use denote.Triple.Clauses.{Clauses, Ended}
use denote.Triple.Entry.{on_entry, alive}
use denote.Triple.Walked.{Stays, walk_of}
use Rattle.std.proofs.mem.Param.{El, R, el_x, elτ}
use Rattle.std.proofs.alloc.Calls.{Al, token}
use Rattle.std.proofs.RcSteps.{word}
use Rattle.vs_arena.specs.inside.RegionMemory.{row_of, region_owns, lease_owns}
use Rattle.vs_arena.specs.declared.region.Region.{Region}
use Rattle.vs_arena.specs.contracts.region.Lease as L
use Rattle.vs_arena.proofs.RegionMemory.{Rr, Word, sz, mark, word_had, word_made, mark_had}

module _ (E : El) {M : Type 1} {𝓤 : Ura M} {𝓛 : Logic 𝓤} {K : Type 0} {Γ : List (Item 𝓤)} {G : Goal 𝓤 𝓛.H} where
  pub region_had : K → (d : Region (el_x E)) (vs : List Val)
      → ((b o : ℕ) → d.first ≡ block_ptr b o → vs ≡ word (block_ptr b o) ∷ [] → length d.places * sz E < 2 ^ 63
      → Seq K 𝓛 (‵ (row_of (R E) b o d.places) ∷ Γ) G)
      → Seq K 𝓛 (‵ ((Rr E).own_val d vs) ∷ Γ) G
  region_had t d vs k =
      fsplit t $ word_had t E d.first vs (λ e₀.
      in_a_block t d.first (λ p. region_owns (R E) p d.places) (id⊢ 𝓤 (never 𝓤)) (λ b o e. fsplit t $ flt_l t (λ fit.
      k b o e (e₀ ∙ ap (λ (p : Ptr). word p ∷ []) e) fit)))

  pub region_made : K → (d : Region (el_x E)) (b o : ℕ) → d.first ≡ block_ptr b o → length d.places * sz E < 2 ^ 63
      → Step K 𝓛 (‵ ((Rr E).own_val d (word (block_ptr b o) ∷ [])) ∷ Γ) G (‵ (row_of (R E) b o d.places) ∷ Γ) G
  region_made t d b o at fit = step (λ s.
      flt_i t (length d.places * sz E) (2 ^ 63) fit $ fjoin t $ word_made t E (block_ptr b o) $ fjoin t $
      rewrite t 0 (λ (p : Ptr). ‵ (fsep ((Word E).own_val (p, tt) (word (block_ptr b o) ∷ [])) (region_owns (R E) p d.places))) (sym at) refl $ s)

module _ (E : El) {M : Type 1} {𝓤 : Ura M} {𝓛 : Logic 𝓤} {K : Type 0} {Γ : List (Item 𝓤)} {G : Goal 𝓤 𝓛.H} where
  -- [the row; the pointer's cell; the open borrow; obs; auth]
  pub region_opens : K → Soaks G → {κ : Lft} {q : Share} {γ : GName} (d : Region (el_x E)) (rb ro : ℕ)
      → ((b o : ℕ) → d.first ≡ block_ptr b o → length d.places * sz E < 2 ^ 63
      → Seq K 𝓛 (‵ (row_of (R E) b o d.places) ∷ ‵ (cell_at full_share (Rr E).mir (word (block_ptr b o) ∷ []) rb ro) ∷ ‵ (fobor κ q (Body (mem (Rr E)) rb ro γ))
      ∷ ‵ (fobs γ ((Rr E).coded.code d)) ∷ ‵ (fauth γ ((Rr E).coded.code d)) ∷ Γ) G)
      → Seq K 𝓛 (‵ (fobs γ ((Rr E).coded.code d)) ∷ ‵ (fbor κ (Body (mem (Rr E)) rb ro γ)) ∷ ‵ (flft κ q) ∷ Γ) G
  region_opens t z d rb ro k =
      opens t z (Rr E) {h = d} rb ro (λ vs. move t (1 ∷ []) $ region_had E t d vs (λ b o e is fit.
      rewrite t 1 (λ (ws : List Val). ‵ (cell_at full_share (Rr E).mir ws rb ro)) is refl $ k b o e fit))

  pub region_closes : K → Soaks G → {κ : Lft} {q : Share} {u v : Gv} {γ : GName} (d : Region (el_x E)) (b o rb ro : ℕ) → d.first ≡ block_ptr b o
      → length d.places * sz E < 2 ^ 63
      → Step K 𝓛 (‵ (fobs γ ((Rr E).coded.code d)) ∷ ‵ (fbor κ (Body (mem (Rr E)) rb ro γ)) ∷ ‵ (flft κ q) ∷ Γ) G
      (‵ (row_of (R E) b o d.places) ∷ ‵ (cell_at full_share (Rr E).mir (word (block_ptr b o) ∷ []) rb ro) ∷ ‵ (fobor κ q (Body (mem (Rr E)) rb ro γ))
      ∷ ‵ (fobs γ u) ∷ ‵ (fauth γ v) ∷ Γ) G
  region_closes t z d b o rb ro at fit = step (λ s.
      region_made E t d b o at fit $ move t (1 ∷ 0 ∷ []) $ closes t z (Rr E) d (word (block_ptr b o) ∷ []) rb ro $ s)

module _ {M : Type 1} {𝓤 : Ura M} {𝓛 : Logic 𝓤} {K : Type 0} {Γ : List (Item 𝓤)} {G : Goal 𝓤 𝓛.H} where
  -- [the pointer; the way back]
  pub pointer_in : K → Soaks G → {κ : Lft} {q : Share} (p : Ptr) (pb po : ℕ) → p ≡ block_ptr pb po → (b at : ℕ)
      → ((q' : Share) → Seq K 𝓛 (‵ (fat q' ty_ptr b at (vptr pb po)) ∷ Shut 𝓛 κ q (part_at RawPtr q' p b at) ∷ Γ) G)
      → Seq K 𝓛 (‵ (hidden_shr RawPtr κ p b at) ∷ ‵ (flft κ q) ∷ Γ) G
  pointer_in t z p pb po is b at k =
      looks t z RawPtr (plain_Copied 𝓛 Ptr coded_ptr (ty_ptr ∷ []) ptr_own rawptr_pure ptr_val RawPtr-laws.tells).opens p b at (λ q' vs. move t (1 ∷ []) $
      feq_l t (λ e.
      rewrite t 0 (λ (us : List Val). ‵ (cell_at q' RawPtr.mir us b at)) (e ∙ ap (λ (r : Ptr). ptr_val r ∷ []) is) refl $ move t (2 ∷ []) $ drop t $ k q'))

  pub pointer_out : K → Soaks G → {κ : Lft} {q q' : Share} (p : Ptr) (pb po : ℕ) → p ≡ block_ptr pb po → (b at : ℕ)
      → Step K 𝓛 (‵ (flft κ q) ∷ Γ) G (‵ (fat q' ty_ptr b at (vptr pb po)) ∷ Shut 𝓛 κ q (part_at RawPtr q' p b at) ∷ Γ) G
  pointer_out t z {q' = q'} p pb po is b at = step (λ s.
      feq_i t (List Val) (vptr pb po ∷ []) (ptr_val p ∷ []) (ap (λ (r : Ptr). ptr_val r ∷ []) (sym is)) $
      move t (1 ∷ 0 ∷ []) $ shuts t z RawPtr q' p (vptr pb po ∷ []) b at $ s)

-- where the product fits a word, the count is zero or the size fits too
pub uncapped : (i k : ℕ) → i * k < 2 ^ 64 → i * capped k ≡ i * k
uncapped zero k h = zero-mul (capped k) ∙ sym (zero-mul k)
uncapped (suc i) k h = let up = suc-mul i k in ap (λ (j : ℕ). suc i * j) (capped_is k (omega arith))

module _ (E : El) where
  -- the type that a block of n places is allocated for
  abbrev pub block_ty : ℕ → Ty
  block_ty n = bare (ty_array (elτ E) n)

  pub block_size : (n : ℕ) → n * sz E < 2 ^ 64 → capped (size (block_ty n)) ≡ n * sz E
  block_size n fits = ap capped (size-raw (ty_array (elτ E) n)) ∙ capped_is (n * sz E) fits

  pub block_align : (n : ℕ) → capped (align (block_ty n)) ≡ capped (align (elτ E))
  block_align n = ap capped (align-raw (ty_array (elτ E) n))

module _ (E : El) (Z : Al) where
  abbrev pub args : Args
  args = bounded (a_type ∷ a_type ∷ []) (E.row, (Z.row, tt)) (dcons Z.d (dcons Z.drops dnil))

  abbrev pub P : RattleType
  P = param 1 Z.row

  abbrev pub Lr : RattleType
  Lr = L.the_row (R E) P Z.g

module _ (E : El) (Z : Al) {M : Type 1} {𝓤 : Ura M} {𝓛 : Logic 𝓤} {K : Type 0} {Γ : List (Item 𝓤)} {G : Goal 𝓤 𝓛.H} where
  pub lease_had : K → (d : (Lr E Z).Denot) (vs : List Val)
      → (vs ≡ mark ∷ [] → Seq K 𝓛 (‵ (lease_owns (R E) (token Z d.alloc) d.first d.len) ∷ Γ) G) → Seq K 𝓛 (‵ ((Lr E Z).own_val d vs) ∷ Γ) G
  lease_had t d vs k = fsplit t $ mark_had t E (P E Z) Z.g vs k

module _ {M : Type 1} {𝓤 : Ura M} (𝓛 : Logic 𝓤) (T : Ended) (hs : Stays T.signature.params T.kept) (c : Clauses 𝓤 T) (run : Fun 𝓤)
    (y : (walk_of 𝓛 T hs c).Ghost) where
  abbrev Rs : List RattleType
  Rs = types_at T.signature.params y.0.0

  abbrev Goes : Type 1
  Goes = ent 𝓤 ((walk_of 𝓛 T hs c).pre y) (run ((walk_of 𝓛 T hs c).args y) ((walk_of 𝓛 T hs c).post y))

  pub knowing : (Are Rs (Ises Rs) y.0.3 y.0.4 → Goes) → Goes
  knowing k =
      let a = y.0.3 in let vss = y.0.4 in
      let entry : SProp 𝓤 = on_entry 𝓛 T.signature y.0.0 y.0.1 a vss in
      fact_use 𝓤 (Are Rs (Ises Rs) a vss) (via 𝓤 (sem 𝓛 (owns Rs a vss))
      (via 𝓤 entry (fst∗ 𝓤 entry ((c y.0.0 a).requires y.1)) (snd∗ 𝓤 (alive 𝓛 T.signature y.0.0 y.0.1) (sem 𝓛 (owns Rs a vss))))
      (owns_show 𝓛 Rs (Ises Rs) (showss 𝓛 Rs) a vss)) k
