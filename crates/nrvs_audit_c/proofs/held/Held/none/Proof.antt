-- `none` puts the two fields together, and keeps nothing.
use Rattle.std.proofs.Common.{◌≡◌, List, [], ◌∷◌, ◌++◌, refl, sym, ap, ◌∙◌, subst}
use Rattle.std.specs.Prelude.{Option, None, Some, is_some, true}
use mir.Val.{Val, vptr}
use base.Logic.{SProp, ent, emp, id⊢}
use base.Fml.{ftrue}
use prog.Wp.{WpFn}
use types.Kit.{‵, raw, ◌⊛◌, ◌$◌, ◌∵◌, !, qed, by, move, keep, drop, use0, use1, split, fsplit, fjoin, suffices}
use types.Run.{stop, fld, of_opd, no_more, and_then, returns, enter}
use types.ByLocal.{alloc_all, pass_all, free_all, look_at, get, get_in, sets}
use types.Part.{agg, sub, whole}
use contract.Monad.{fact, fact_i}
use contract.Running.{tables}
use denote.RattleType.{RattleType, owns}
use denote.Signature.{types_at, plain}
use denote.Steps.{nothing, heard}
use denote.Triple.Entry.{alive}
use denote.Triple.Walked.{Stays, stay_dropped, walk_of}
use Rattle.core.proofs.alloc.Calls.{Goes-blank}
use Rattle.std.proofs.raw_atomic.Walks.{proved_at, leaves}
use Rattle.std.proofs.alloc.Global.TheLaws as heap_laws
use Rattle.std.specs.contracts.impls.GlobalAllocator.TheImpl.{ghosts}
use mir.Syntax.{ty_ptr}
use mir.Val.{has_ty}
use types.Kit.{fsplit3, rewrite}
use denote.Builtin.{RawPtr}
use denote.RawPtr.{Ptr, ptr_val}
use denote.Param.{layout}
use denote.Triple.Walked.{Goes-dropped}
use Rattle.core.proofs.atomic.Steps.{Ptr-Good}
use Rattle.core.proofs.cell.Inside.{Good, one}
use Rattle.nrvs_audit_c.proofs.LooseValues.{both, both_tt}
use Rattle.nrvs_audit_c.proofs.HeldValues.{R, Z, Held, none_in}
use Rattle.nrvs_audit_c.specs.contracts.held.Held.none.{ended, clauses}
use Rattle.nrvs_audit_c.specs.contracts.held.Held.none.Key.{name as #self}
use Rattle.nrvs_audit_c.proofs.held.Held.none.Statement.{statement}
use Rattle.nrvs_audit_c.proofs.held.Held.none.Code as code

pub none_spec : {M : Type 1} → statement M
none_spec 𝓤 𝓛 𝓜 𝓡 wired =
    let H = 𝓛.H in let 𝓣 = tables 𝓤 H 𝓜 𝓡 𝓡.env in let LZ = heap_laws.the_row_laws in let c = clauses 𝓛 𝓜.mem 𝓡.returns in
    let fn = code.function in let hs : Stays ended.signature.params ended.kept = (
      stay_dropped (plain (λ _. RawPtr)) ended.kept.0,
      (stay_dropped (plain (λ _. Z)) ended.kept.1.0, tt),
    ) in
    proved_at 𝓛 ended hs c 𝓜 𝓡 (
      Goes-dropped 𝓛 0 (plain (λ _. RawPtr)) ended.kept.0 (λ κs x f. refl),
      (Goes-dropped 𝓛 0 (plain (λ _. Z)) ended.kept.1.0 (λ κs x f. refl), tt),
    ) #self fn (code.unfolded 𝓤 H 𝓜 𝓡 wired) (λ z are.
    let κs = z.0.0 in let qs = z.0.1 in let Post : Val → SProp 𝓤 = (walk_of 𝓛 ended hs c).post z in let Run : List Val
    → SProp 𝓤 = λ ws. WpFn 𝓤 H 𝓣.C 𝓣.Λ fn ws Post in
    let p = z.0.3.0 in let a = z.0.3.1.0 in let nothing_there : Option R.Denot = None in
    let h = one (layout Z) z.0.4.1.0 ((LZ.lawful 𝓛).typed a z.0.4.1.0 are.1.0) in let w : Val = both (ptr_val p) h.0 in
    let good : Good (layout Held) w = (both_tt (has_ty ty_ptr (ptr_val p)) (has_ty (layout Z) h.0) (Ptr-Good p).0 h.2.0, ((Ptr-Good p).1, (h.2.1, tt))) in
    qed 𝓛 ((raw (alive 𝓛 ended.signature κs qs) ⊛ ‵ (owns (types_at ended.signature.params κs) z.0.3 z.0.4)) ∷ ‵ ftrue ∷ []) ∵
    move ! (1 ∷ []) $ drop ! $ split ! $ move ! (1 ∷ []) $ fsplit3 ! $ drop ! $
    rewrite ! 0 (λ (us : List Val). ‵ (Z.own_val a us)) h.1 refl $ none_in ! p h.0 a $
    suffices ! (Run (ptr_val p ∷ h.0 ∷ [])) (subst (λ (us : List Val). ent 𝓤 (Run (ptr_val p ∷ h.0 ∷ [])) (Run us))
    (sym (λ i. are.0 i ++ (h.1 i ++ []))) (id⊢ 𝓤 (Run (ptr_val p ∷ h.0 ∷ [])))) $
    enter ! 𝓣.C 𝓣.Λ fn (ptr_val p ∷ h.0 ∷ []) Post $ alloc_all ! (λ l. pass_all ! refl (Ptr-Good p, (h.2, tt)) $
    sets ! (agg ! (and_then ! (get ! refl) (and_then ! (get ! refl) (no_more !)))) refl good $
    use0 𝓛 (raw (fact 𝓤 (nothing_there ≡ None))) (fact_i 𝓤 (nothing_there ≡ None) (emp 𝓤) refl) $ nothing ! $ nothing ! $ fjoin ! $ nothing ! $ fjoin ! $
    returns ! (look_at ! 0 refl) $ free_all ! refl $ keep ! (4 ∷ 0 ∷ 2 ∷ 1 ∷ []) $
    by ! (leaves 𝓛 ended hs c z w (record { at = p; alloc = a; value = None }) (tt, (tt, tt)) (tt, (tt, tt)))))
