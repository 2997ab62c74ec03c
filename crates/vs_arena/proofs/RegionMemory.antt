-- What the walks of the functions with raw pointers share.
--     word_had, word_made, mark_had, mark_made      a value of one pointer, and one of no bytes
--     place_out, place_in, place_seen               one place is taken out of the row, put back, or seen
--     of_room, to_room                              room for an array is a row of empty places, and any row is such room
use mathlib.Core.Path.{◌≡◌, refl, sym, ap, subst, ◌∙◌}
use Prim.Native.Nat.{ℕ, zero, suc, ◌+◌, ◌*◌, ◌<◌, ◌≤◌}
use native.Mathlib.Omega.{arith}
use native.Mathlib.Nat.{zero-mul, suc-mul}
use mathlib.Core.List.{List, [], ◌∷◌, ◌++◌}
use lib.ListN.{length, take, drop, set, get_or, replicate, take-append-drop, length-take}
use lib.Seq.{drop-cons, set_split}
use seplogic.Ra.Ura.{Ura}
use base.Fraction.{full_share}
use mir.Syntax.{Ty, ty_array}
use mir.Val.{Val, vstruct, vcons, vnil, of_list}
use base.Logic.{SProp, ent, sep, emp, ex, guard, via, snd∗, id⊢}
use base.Fml.{Fml, Lft, ftrue, fsep, fat, froom, fhide}
use types.Logic.{Logic, sem}
use types.Kit.{Item, Goal, Seq, Step, step, ‵, some, given, ◌⊛◌, ◌$◌, ◌∵◌, !, qed, by, move, keep, drop as skip, use1, use2, pick, split, learn, check, show}
use types.Kit.{frame, fsplit, fjoin, fpick, fpack, feq_i, feq_l, rewrite, done}
use denote.RattleType.{RattleType, Valss}
use denote.Memory.{part_at, hidden_shr}
use denote.RawPtr.{Ptr, RawPtr, ptr_val}
use denote.Shadow.{makes_shadow}
use denote.Laws.{Typed, Is, shows}
use denote.Opens.{unhide}
use denote.Steps.{nothing, peeks}
use denote.Struct.Struct.{Struct, within}
use denote.Struct.Owning.{shape}
use denote.Struct.Declared as Declared
use denote.Struct.Lending.{lent_out}
use denote.Struct.Tuple.{Tuple, tuple_type}
use borrow.Table.OneValue.{part_in, part_out}
use Rattle.std.specs.Prelude.{Option, Some, None}
use Rattle.std.specs.Mem.{type_size}
use Rattle.std.specs.declared.alloc.Allocator.{Ghosts}
use Rattle.std.proofs.mem.Param.{El, R, el_x, elτ, lawful}
use Rattle.std.proofs.RcSteps.{Good, word}
use Rattle.vs_arena.specs.inside.RegionMemory.{place, row_of, place_lent, row_lent, region_lends}
use Rattle.vs_arena.specs.declared.region.Region.{Region}
use Rattle.vs_arena.specs.contracts.region.Region as C
use Rattle.vs_arena.specs.contracts.region.Lease as L

module _ (E : El) where
  abbrev pub Rr : RattleType
  Rr = C.the_row (R E)

  abbrev pub sz : ℕ
  sz = type_size (R E)

  abbrev pub Place : Type 0
  Place = Option (el_x E)

  -- the one field of a region, as a plain struct
  abbrev pub Word : RattleType
  Word = Struct (shape (C.the_type (R E)))

  -- the one field of a lease, which takes no bytes
  abbrev pub Mark : (A : RattleType) → Ghosts A.Denot → RattleType
  Mark A g = Struct (shape (L.the_type (R E) A g))

abbrev pub mark : Val
mark = vstruct (vcons (vstruct vnil) vnil)

pub mark_made : (E : El) (A : RattleType) (g : Ghosts A.Denot) {M : Type 1} {𝓤 : Ura M} (𝓛 : Logic 𝓤)
    → ent 𝓤 (emp 𝓤) (sem 𝓛 ((Mark E A g).own_val (tt, tt) (mark ∷ [])))
mark_made E A g 𝓛 =
    makes_shadow 𝓛 ((Mark E A g).own_val (tt, tt) (mark ∷ [])) (λ vss. (tt, ((λ uss. (tt, tt)), tt))) ((vstruct vnil ∷ [], tt), (refl, ((tt, (refl, tt)), tt)))

module _ {M : Type 1} {𝓤 : Ura M} {𝓛 : Logic 𝓤} {K : Type 0} {Γ : List (Item 𝓤)} {G : Goal 𝓤 𝓛.H} where
  pub word_had : K → (E : El) (c : Ptr) (vs : List Val) → (vs ≡ word c ∷ [] → Seq K 𝓛 Γ G) → Seq K 𝓛 (‵ ((Word E).own_val (c, tt) vs) ∷ Γ) G
  word_had t E c vs k = fpick t (λ vss. fsplit t $ feq_l t (λ ev. fsplit t $ feq_l t (λ e. skip t $
      k (subst (λ (ws : List Val). vs ≡ vstruct (of_list (ws ++ [])) ∷ []) e ev))))

  pub word_made : K → (E : El) (c : Ptr) → Step K 𝓛 (‵ ((Word E).own_val (c, tt) (word c ∷ [])) ∷ Γ) G Γ G
  word_made t E c = step (λ s.
      nothing t $ feq_i t (List Val) (ptr_val c ∷ []) (ptr_val c ∷ []) refl $ fjoin t $
      feq_i t (List Val) (word c ∷ []) (word c ∷ []) refl $ fjoin t $
      fpack t (Valss (RawPtr ∷ [])) (within (shape (C.the_type (R E))) (c, tt) (word c ∷ [])) (ptr_val c ∷ [], tt) $ s)

  pub mark_had : K → (E : El) (A : RattleType) (g : Ghosts A.Denot) (vs : List Val) → (vs ≡ mark ∷ [] → Seq K 𝓛 Γ G)
      → Seq K 𝓛 (‵ ((Mark E A g).own_val (tt, tt) vs) ∷ Γ) G
  mark_had t E A g vs k = fpick t (λ vss. fsplit t $ feq_l t (λ ev. fsplit t $ fpick t (λ uss. fsplit t $ feq_l t (λ e. skip t $ skip t $
      k (subst (λ (ws : List Val). vs ≡ vstruct (of_list (ws ++ [])) ∷ []) e ev)))))

abbrev pub two_val : Val → Val → Val
two_val u v = vstruct (vcons u (vcons v vnil))

pub two_of : {M : Type 1} {𝓤 : Ura M} (𝓛 : Logic 𝓤) (S T : RattleType) (x : S.Denot) (y : T.Denot) (u v : Val)
    → ent 𝓤 (sep 𝓤 (sem 𝓛 (S.own_val x (u ∷ []))) (sem 𝓛 (T.own_val y (v ∷ [])))) (sem 𝓛 ((Tuple (S ∷ T ∷ [])).own_val (x, y) (two_val u v ∷ [])))
two_of 𝓛 S T x y u v =
    qed 𝓛 (‵ (S.own_val x (u ∷ [])) ∷ ‵ (T.own_val y (v ∷ [])) ∷ []) ∵ nothing ! $ move ! (2 ∷ 0 ∷ []) $ fjoin ! $ move ! (1 ∷ 0 ∷ []) $ fjoin ! $
    feq_i ! (List Val) (two_val u v ∷ []) (two_val u v ∷ []) refl $ fjoin ! $
    fpack ! (Valss (S ∷ T ∷ [])) (within (Declared.shape (tuple_type (S ∷ T ∷ []))) (x, (y, tt)) (two_val u v ∷ [])) (u ∷ [], (v ∷ [], tt)) $ done !

alone : (τ : Ty) (vs : List Val) → Typed (τ ∷ []) vs → (v : Val) × ((vs ≡ v ∷ []) × Good τ v)
alone τ [] t = absurd t
alone τ (v ∷ []) t = (v, (refl, t.0))
alone τ (v ∷ w ∷ vs) t = absurd t.1

module _ (E : El) {M : Type 1} {𝓤 : Ura M} {𝓛 : Logic 𝓤} {K : Type 0} {Γ : List (Item 𝓤)} {G : Goal 𝓤 𝓛.H} where
  -- what is owned of a value is one machine value, of its type
  pub tells : K → (x : el_x E) (vs : List Val)
      → ((v : Val) → vs ≡ v ∷ [] → Good (elτ E) v → Seq K 𝓛 (‵ (E.row.own_val x (v ∷ [])) ∷ Γ) G) → Seq K 𝓛 (‵ (E.row.own_val x vs) ∷ Γ) G
  tells t x vs k =
      peeks t (R E) (Is (R E)) (shows 𝓛 (R E)) x vs (λ is.
      let one = alone (elτ E) vs ((lawful E 𝓛).typed x vs is) in
      rewrite t 0 (λ (us : List Val). ‵ (E.row.own_val x us)) one.1.0 refl $ k one.0 one.1.0 one.1.1)

module _ (E : El) {M : Type 1} {𝓤 : Ura M} (𝓛 : Logic 𝓤) where
  open 𝓛 use {H}

  abbrev Cell : el_x E → ℕ → ℕ → Val → SProp 𝓤
  Cell x b o v = guard 𝓤 (Good (elτ E) v) (sep 𝓤 (H.at full_share (elτ E) b o v) (sem 𝓛 (E.row.own_val x (v ∷ []))))

  value_out : (x : el_x E) (b o : ℕ) → ent 𝓤 (sem 𝓛 (part_at (R E) full_share x b o)) (ex 𝓤 (Cell x b o))
  value_out x b o = qed 𝓛 (‵ (part_at (R E) full_share x b o) ∷ []) ∵
      use1 𝓛 (some (λ (v : Val). ‵ (fat full_share (elτ E) b o v) ⊛ ‵ (E.row.own_val x (v ∷ [])))) (part_out 𝓛 (R E) refl full_share x b o) $
      pick ! (λ v. split ! $ move ! (1 ∷ []) $ peeks ! (R E) (Is (R E)) (shows 𝓛 (R E)) x (v ∷ []) (λ p.
      show ! (Cell x b o) v $ check ! ((lawful E 𝓛).typed x (v ∷ []) p).0 $ move ! (1 ∷ 0 ∷ []) $ done !))

  pub value_in : (x : el_x E) (b o : ℕ) (v : Val) → ent 𝓤 (sep 𝓤 (H.at full_share (elτ E) b o v) (sem 𝓛 (E.row.own_val x (v ∷ []))))
      (sem 𝓛 (part_at (R E) full_share x b o))
  value_in x b o v = part_in 𝓛 (R E) refl full_share x b o v

pub filled_within : {X : Type 0} (cs : List (Option X)) (i : ℕ) (x : X) → get_or cs i None ≡ Some x → i < length cs
filled_within [] i x e = cc
filled_within (c ∷ cs) zero x e = omega arith
filled_within (c ∷ cs) (suc i) x e = omega (arith, filled_within cs i x e)

module _ (E : El) {M : Type 1} {𝓤 : Ura M} (𝓛 : Logic 𝓤) (b : ℕ) where
  open 𝓛 use {H}

  abbrev s : ℕ
  s = sz E

  abbrev Row : ℕ → List (Place E) → Fml
  Row = row_of (R E) b

  cut : (xs ys : List (Place E)) (o at : ℕ) → at ≡ length xs * s + o → ent 𝓤 (sem 𝓛 (Row o (xs ++ ys))) (sep 𝓤 (sem 𝓛 (Row o xs)) (sem 𝓛 (Row at ys)))
  cut [] ys o at e = qed 𝓛 (‵ (Row o ys) ∷ []) ∵ rewrite ! 0 (λ (k : ℕ). ‵ (Row k ys)) {x = at} (omega (arith, zero-mul s)) refl $ nothing ! $ done !
  cut (x ∷ xs) ys o at e = let more : at ≡ suc (length xs) * s + o = e in qed 𝓛 (‵ (Row o (x ∷ xs ++ ys)) ∷ []) ∵ fsplit ! $ move ! (1 ∷ []) $
      use1 𝓛 (‵ (Row (o + s) xs) ⊛ ‵ (Row at ys)) (cut xs ys (o + s) at (omega (arith, suc-mul (length xs) s))) $ split ! $ move ! (2 ∷ 0 ∷ []) $ fjoin ! $
      done !

  glue : (xs ys : List (Place E)) (o at : ℕ) → at ≡ length xs * s + o → ent 𝓤 (sep 𝓤 (sem 𝓛 (Row o xs)) (sem 𝓛 (Row at ys))) (sem 𝓛 (Row o (xs ++ ys)))
  glue [] ys o at e = qed 𝓛 (‵ ftrue ∷ ‵ (Row at ys) ∷ []) ∵ skip ! $ rewrite ! 0 (λ (k : ℕ). ‵ (Row k ys)) {x = o} (omega (arith, zero-mul s)) refl $ done !
  glue (x ∷ xs) ys o at e = let more : at ≡ suc (length xs) * s + o = e in qed 𝓛 (‵ (Row o (x ∷ xs)) ∷ ‵ (Row at ys) ∷ []) ∵ fsplit ! $ move ! (1 ∷ 2 ∷ []) $
      use2 𝓛 (‵ (Row (o + s) (xs ++ ys))) (glue xs ys (o + s) at (omega (arith, suc-mul (length xs) s))) $ move ! (1 ∷ 0 ∷ []) $ fjoin ! $ done !

  module _ (o : ℕ) (cs : List (Place E)) (i : ℕ) where
    -- the places but for the i-th
    abbrev pub Besides : Fml
    Besides = fsep (Row o (take i cs)) (Row (i * s + o + s) (drop (suc i) cs))

    before : i ≤ length cs → i * s + o ≡ length (take i cs) * s + o
    before le = let long : i ≡ length (take i cs) = omega (arith, length-take i cs) in ap (λ k. k * s + o) long

    pub place_out : i < length cs → ent 𝓤 (sem 𝓛 (Row o cs)) (sep 𝓤 (sem 𝓛 (place (R E) b (i * s + o) (get_or cs i None))) (sem 𝓛 Besides))
    place_out lt = qed 𝓛 (‵ (Row o cs) ∷ []) ∵
        rewrite ! 0 (λ (l : List (Place E)). ‵ (Row o l)) (sym (take-append-drop i cs) ∙ ap (λ l. take i cs ++ l) (drop-cons cs i None lt)) refl $
        use1 𝓛 (‵ (Row o (take i cs)) ⊛ ‵ (Row (i * s + o) (get_or cs i None ∷ drop (suc i) cs)))
        (cut (take i cs) (get_or cs i None ∷ drop (suc i) cs) o (i * s + o) (before (omega arith))) $
        split ! $ move ! (1 ∷ []) $ fsplit ! $ move ! (2 ∷ 1 ∷ []) $ fjoin ! $ move ! (1 ∷ []) $ done !

    pub place_in : i < length cs → (c : Place E) → ent 𝓤 (sep 𝓤 (sem 𝓛 (place (R E) b (i * s + o) c)) (sem 𝓛 Besides)) (sem 𝓛 (Row o (set cs i c)))
    place_in lt c = qed 𝓛 (‵ (place (R E) b (i * s + o) c) ∷ ‵ Besides ∷ []) ∵ move ! (1 ∷ []) $ fsplit ! $ move ! (2 ∷ 1 ∷ []) $ fjoin ! $
        move ! (1 ∷ 0 ∷ []) $
        use2 𝓛 (‵ (Row o (take i cs ++ c ∷ drop (suc i) cs))) (glue (take i cs) (c ∷ drop (suc i) cs) o (i * s + o) (before (omega arith))) $
        rewrite ! 0 (λ (l : List (Place E)). ‵ (Row o l)) (sym (set_split cs i c lt)) refl $ done !

  pub of_room : (n o : ℕ) → ent 𝓤 (H.room (ty_array (elτ E) n) b o) (sem 𝓛 (Row o (replicate n None)))
  of_room zero o = qed 𝓛 (‵ (froom (ty_array (elτ E) 0) b o) ∷ []) ∵ keep ! [] $ done !
  of_room (suc n) o = qed 𝓛 (‵ (froom (ty_array (elτ E) (suc n)) b o) ∷ []) ∵
      use1 𝓛 (‵ (froom (elτ E) b o) ⊛ ‵ (froom (ty_array (elτ E) n) b (o + s))) (𝓛.laws.room_uncons (elτ E) n b o) $ split ! $
      use1 𝓛 (‵ (place (R E) b o None)) (𝓛.laws.room-raw (elτ E) b o) $ frame ! $ by ! (of_room n (o + s))

  -- a place is room, whether or not it has a value
  emptied : (c : Place E) (o : ℕ) → ent 𝓤 (sem 𝓛 (place (R E) b o c)) (H.room (elτ E) b o)
  emptied None o = 𝓛.laws.raw-room (elτ E) b o
  emptied (Some x) o = qed 𝓛 (‵ (part_at (R E) full_share x b o) ∷ []) ∵
      use1 𝓛 (some (λ (v : Val). given (Good (elτ E) v) (‵ (fat full_share (elτ E) b o v) ⊛ ‵ (E.row.own_val x (v ∷ []))))) (value_out E 𝓛 x b o) $
      pick ! (λ v. learn ! (λ tv. split ! $ keep ! (0 ∷ []) $ by ! (𝓛.laws.at_room (elτ E) b o v)))

  pub to_room : (cs : List (Place E)) (o : ℕ) → ent 𝓤 (sem 𝓛 (Row o cs)) (H.room (ty_array (elτ E) (length cs)) b o)
  to_room [] o = 𝓛.laws.room_nil (elτ E) b o
  to_room (c ∷ cs) o = qed 𝓛 (‵ (place (R E) b o c) ∷ ‵ (Row (o + s) cs) ∷ []) ∵
      use1 𝓛 (‵ (froom (elτ E) b o)) (emptied c o) $ move ! (1 ∷ []) $
      use1 𝓛 (‵ (froom (ty_array (elτ E) (length cs)) b (o + s))) (to_room cs (o + s)) $ move ! (1 ∷ []) $ by ! (𝓛.laws.room_cons (elτ E) (length cs) b o)

  module _ (κ : Lft) where
    abbrev Seen : ℕ → List (Place E) → Fml
    Seen o cs = row_lent (R E) b o cs κ

    from_on : (cs : List (Place E)) (i o at : ℕ) → i ≤ length cs → at ≡ i * s + o → ent 𝓤 (sem 𝓛 (Seen o cs)) (sem 𝓛 (Seen at (drop i cs)))
    from_on cs zero o at le e = let same : o ≡ at = omega (arith, zero-mul s) in subst (λ k. ent 𝓤 (sem 𝓛 (Seen o cs)) (sem 𝓛 (Seen k cs))) same (id⊢ 𝓤 _)
    from_on [] (suc i) o at le e = absurd (omega arith)
    from_on (c ∷ cs) (suc i) o at le e =
        via 𝓤 (sem 𝓛 (Seen (o + s) cs)) (snd∗ 𝓤 (sem 𝓛 (place_lent (R E) b o c κ)) (sem 𝓛 (Seen (o + s) cs)))
        (from_on cs i (o + s) at (omega arith) (omega (arith, suc-mul i s)))

    pub place_seen : (o : ℕ) (cs : List (Place E)) (i : ℕ) → i < length cs
        → ent 𝓤 (sem 𝓛 (Seen o cs)) (sem 𝓛 (place_lent (R E) b (i * s + o) (get_or cs i None) κ))
    place_seen o cs i lt = qed 𝓛 (‵ (Seen o cs) ∷ []) ∵ use1 𝓛 (‵ (Seen (i * s + o) (drop i cs))) (from_on cs i o (i * s + o) (omega arith) refl) $
        rewrite ! 0 (λ (l : List (Place E)). ‵ (Seen (i * s + o) l)) (drop-cons cs i None lt) refl $ fsplit ! $ keep ! (0 ∷ []) $ done !

    -- what a `&` to a region has: its pointer, and what it lends
    pub shown : (d : Region (el_x E)) (o : ℕ)
        → ent 𝓤 (sem 𝓛 (hidden_shr (Rr E) κ d b o)) (sep 𝓤 (sem 𝓛 (hidden_shr RawPtr κ d.first b (o + 0))) (sem 𝓛 (region_lends (R E) d.first d.places κ)))
    shown d o = qed 𝓛 (‵ (hidden_shr (Rr E) κ d b o) ∷ []) ∵
        use1 𝓛 (‵ (hidden_shr (Word E) κ (d.first, tt) b o) ⊛ ‵ (fhide (C.the_lent (R E) d d.first κ)))
        (lent_out 𝓛 (C.struct (R E)) (C.the_codes (el_x E) (R E).coded) (C.the_heap (R E)) (C.the_lent (R E)) κ d b o) $ split ! $
        unhide ! $ fsplit ! $ fsplit ! $ keep ! (0 ∷ 3 ∷ []) $ done !
