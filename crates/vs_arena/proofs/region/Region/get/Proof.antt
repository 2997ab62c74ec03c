-- `get` hands on the `&` to the value at the index that a `&` to the region has.
use mathlib.Core.Path.{refl}
use Prim.Native.Nat.{ℕ, ◌+◌, ◌*◌, ◌<◌, ◌^◌}
use native.Mathlib.Omega.{arith}
use mathlib.Core.List.{List, [], ◌∷◌}
use lib.ListN.{length, get_or}
use seplogic.Ra.Ura.{Ura}
use mir.Syntax.{Fn, w64, named}
use mir.Val.{Val, vint, vptr}
use mir.MapTy.{inst_fn}
use base.Logic.{SProp, ent, never, id⊢}
use base.Fml.{ftrue, flft}
use prog.Memory.{Memory}
use prog.Routine.{Routine}
use prog.Wp.{Env, WpFn, Tables}
use types.Logic.{Logic}
use contract.BorrowLft.{◌⊑◌}
use contract.Monad.{Fun, fact}
use contract.Running.{tables, tables_of}
use sound.WpLaws.{WpFn-mono}
use types.Kit.{‵, raw, ◌⊛◌, at_ret, ◌$◌, ◌∵◌, !, qed, move, keep, use1, drop, split, join, rewrite, fsplit, fjoin, feq_i, flt_l, suffices, done}
use types.Run.{look, stop, fld, load, addr, size_lit, of_opd, bin, first, blocks, exec, returns, enter}
use types.ByLocal.{alloc_all, pass_all, free_all, look_at, get, through, sets, sets_last, env}
use denote.Exit.{yes}
use denote.Builtin.{usize, RefOf}
use denote.Memory.{hidden_shr}
use denote.Opens.{hide}
use denote.Plain.{uint_vals, uint_Tells}
use denote.RattleType.{owns}
use denote.RawPtr.{RawPtr, in_a_block}
use denote.Ref.{shr_vals, shr_Tells}
use denote.Signature.{plain, types_at}
use denote.Steps.{heard, nothing}
use denote.Triple.Clauses.{Clauses, Ended, closing}
use denote.Triple.Spec.{Meets, triple_of}
use denote.Triple.Table.{entered}
use denote.Triple.Walked.{says, Stays, stay_dropped, walk_of, ends_at, walked, Goes-dropped, walk_Meets}
use Rattle.std.specs.Prelude.{None}
use Rattle.std.proofs.mem.Param.{El, R, args, el_x}
use Rattle.std.proofs.ptr.Rows.{times_below, one_below}
use Rattle.std.proofs.VecSteps.Shapes.{after}
use Rattle.vs_arena.specs.inside.Region.{IsFilled}
use Rattle.vs_arena.specs.inside.RegionMemory.{place_lent, region_lends}
use Rattle.vs_arena.specs.declared.region.Region.{Region}
use Rattle.vs_arena.proofs.RegionMemory.{Rr, sz, Place, filled_within, place_seen, shown}
use Rattle.vs_arena.proofs.RegionSteps.{pointer_in, pointer_out}
use Rattle.vs_arena.specs.contracts.region.Region.get as F
use Rattle.vs_arena.specs.contracts.region.Region.get.Key.{name as #self}
use Rattle.vs_arena.proofs.region.Region.get.Statement as stated
use Rattle.vs_arena.proofs.region.Region.get.Code as code

module _ (E : El) where
  abbrev here : Fn
  here = inst_fn (args E) code.function

  abbrev ended : Ended
  ended = F.ended E.row

  abbrev stayed : Stays ended.signature.params ended.kept
  stayed = (stay_dropped (RefOf (0 ∷ []) tt (plain (λ _. Rr E)) (λ _. tt)) yes, (stay_dropped (plain (λ _. usize)) yes, tt))

  module _ {M : Type 1} {𝓤 : Ura M} (𝓛 : Logic 𝓤) (at_mem : Memory → SProp 𝓤) (run : Routine → Fun 𝓤) (𝓣 : Tables 𝓤 𝓛.H) where
    open 𝓛 use {H}

    abbrev held : Clauses 𝓤 ended
    held = F.clauses E.row 𝓛 at_mem run

    abbrev Bound : Type 0
    Bound = (walk_of 𝓛 ended stayed held).Ghost

    abbrev Goes : Bound → Type 1
    Goes y = ent 𝓤 ((walk_of 𝓛 ended stayed held).pre y) (WpFn 𝓤 H 𝓣.C 𝓣.Λ here ((walk_of 𝓛 ended stayed held).args y) ((walk_of 𝓛 ended stayed held).post y))

    abbrev spelled : Bound → Bound
    spelled z = ((z.0.0, z.0.1, z.0.2, z.0.3, (shr_vals z.0.3.0, (uint_vals w64 z.0.3.1.0, tt))), z.1)

    walk : (z : Bound) → z.0.3.1.0 < 2 ^ 64 → Goes (spelled z)
    walk z fi =
        let κ = z.0.0.0 in let κ₁ = z.0.0.1.0 in let q = z.0.1.0 in let q₁ = z.0.1.1.0 in
        let rb : ℕ = z.0.3.0.ref_ptr.0 in let ro : ℕ = z.0.3.0.ref_ptr.1 in
        let h : Region (el_x E) = z.0.3.0.now in let i : ℕ = z.0.3.1.0 in
        let Post : Val → SProp 𝓤 = (walk_of 𝓛 ended stayed held).post (spelled z) in
        let Ok : Type 0 = IsFilled h.places i in
        let s : ℕ = sz E in
        qed 𝓛 (((‵ (flft κ q) ⊛ ‵ (flft κ₁ q₁) ⊛ ‵ ftrue) ⊛ ‵ (owns (types_at ended.signature.params z.0.0) z.0.3 (spelled z).0.4))
        ∷ (raw (fact 𝓤 (κ₁ ⊑ E.row.lives)) ⊛ raw (fact 𝓤 Ok)) ∷ []) ∵
        move ! (1 ∷ []) $ split ! $ drop ! $ heard ! Ok (λ ok.
        let x : el_x E = ok.0 in let within = filled_within h.places i x ok.1 in
        split ! $ split ! $ move ! (2 ∷ []) $ fsplit ! $ fsplit ! $ drop ! $
        use1 𝓛 (‵ (hidden_shr RawPtr κ h.first rb (ro + 0)) ⊛ ‵ (region_lends (R E) h.first h.places κ)) (shown E 𝓛 rb κ h ro) $
        split ! $ move ! (1 ∷ []) $
        in_a_block ! h.first (λ p. region_lends (R E) p h.places κ) (id⊢ 𝓤 (never 𝓤)) (λ b o at_b. fsplit ! $ flt_l ! (λ fit.
        let tiny : s < 2 ^ 64 = omega (arith, one_below (length h.places) s (2 ^ 63) (omega arith) fit) in
        let far : i * s < 2 ^ 64 = omega (arith, times_below i (length h.places) s (2 ^ 63) (omega arith) fit) in
        use1 𝓛 (‵ (place_lent (R E) b (i * s + o) (get_or h.places i None) κ)) (place_seen E 𝓛 b κ o h.places i within) $
        rewrite ! 0 (λ (c : Place E). ‵ (place_lent (R E) b (i * s + o) c κ)) ok.1 refl $ hide ! $ keep ! (1 ∷ 3 ∷ 4 ∷ 0 ∷ []) $
        -- [a `&` to the pointer; the token; the other token; the `&` to the value]
        enter ! 𝓣.C 𝓣.Λ here (vptr rb ro ∷ vint w64 i ∷ []) _ $ alloc_all ! (λ l. pass_all ! refl ((tt, tt), ((tt, record { fits = fi }), tt)) $
        let En : Env 𝓤 H = env here.locals l in
        first ! $ blocks ! $ pointer_in ! tt h.first b o at_b rb (ro + 0) (λ q'.
        sets ! (of_opd ! (load ! (through ! refl (fld ! refl (stop !))) (look ! 0 refl))) refl (tt, tt) $
        pointer_out ! tt h.first b o at_b rb (ro + 0) $
        sets ! (bin ! (get ! refl) (size_lit ! (record { fits = tiny })) (record { fits = far })) refl (tt, record { fits = far }) $
        sets ! (bin ! (get ! refl) (get ! refl) tt) refl (tt, tt) $
        sets_last ! (addr ! (through ! refl (stop !))) refl (tt, tt) $
        exec ! 𝓣.C 𝓣.Λ En (after 1 here.body) (at_ret En Post) $ sets ! (of_opd ! (get ! refl)) refl (tt, tt) $
        returns ! (look_at ! 0 refl) $ free_all ! refl $
        suffices ! _ (ends_at 𝓛 ended stayed held (spelled z) (vptr b (i * s + o)) (record { ref_ptr = (b, i * s + o); now = x }) (tt, (tt, tt))
        (tt, (tt, tt))) $ says ! ok.1 $
        join ! $ move ! (1 ∷ []) $ feq_i ! (List Val) (vptr b (i * s + o) ∷ []) (vptr b (i * s + o) ∷ []) refl $ fjoin ! $
        nothing ! $ nothing ! $ fjoin ! $ nothing ! $ fjoin ! $ keep ! (2 ∷ 0 ∷ 1 ∷ []) $ done !)))))

    meets : Meets 𝓛 ended.signature (WpFn 𝓤 H 𝓣.C 𝓣.Λ here) (closing 𝓛 ended held)
    meets =
        walk_Meets 𝓛 ended stayed (
          Goes-dropped 𝓛 2 (RefOf (0 ∷ []) tt (plain (λ _. Rr E)) (λ _. tt)) yes (λ κs x f. refl),
          (Goes-dropped 𝓛 2 (plain (λ _. usize)) yes (λ κs x f. refl), tt),
        ) held
        (WpFn 𝓤 H 𝓣.C 𝓣.Λ here) (WpFn-mono 𝓤 H 𝓛.laws 𝓣 here)
        (walked 𝓛 ended stayed held (WpFn 𝓤 H 𝓣.C 𝓣.Λ here) (λ κs. (shr_vals, (uint_vals w64, tt)))
        (λ κs. (shr_Tells (named 0) κs.0 (Rr E), (uint_Tells w64, tt)))
        (λ κs qs bounds a g are. walk ((κs, qs, bounds, a, (shr_vals a.0, (uint_vals w64 a.1.0, tt))), g) are.1.0.1))

pub get_spec : {M : Type 1} → stated.statement M
unfolding tables_of
get_spec 𝓤 𝓛 𝓜 𝓡 wired X L =
    let E : El = record { row = X; laws = L } in
    let 𝓣 : Tables 𝓤 𝓛.H = tables_of 𝓤 𝓛.H 𝓜 (tables 𝓤 𝓛.H 𝓜 𝓡 𝓡.env) in
    entered 𝓤 𝓛.H (triple_of 𝓛 (F.signature X) (F.spec X 𝓛 𝓜.mem 𝓡.returns)) 𝓣.C 𝓣.Λ (#self (args E)) (here E) (code.unfolded 𝓤 𝓛.H 𝓜 𝓡 wired (X, tt))
    (meets E 𝓛 𝓜.mem 𝓡.returns 𝓣)
