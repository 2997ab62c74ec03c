-- Each step on the table of a cell keeps its rule.
use Rattle.std.proofs.Common.{◌≡◌, ◌≢◌, ◌⊎◌, ℕ, zero, suc, ◌+◌, ◌-◌, ◌<◌, ◌≤◌, eqb, Bool, true, false, if◌then◌else◌, nat_le, List, [], ◌∷◌, ◌++◌, map, length}
use Rattle.std.proofs.Common.{get_or, set, sym, refl, ap, ◌∙◌, subst, ⊎_elim, inl, inr, arith, le_refl, length-set, length-drop, drop}
use Rattle.std.proofs.Common.{get_or-set_other, get_or-set_same, eq-eqb, ne_eqb}
use Rattle.std.proofs.lemmas.Bool.{false≢true}
use Rattle.std.proofs.lemmas.List.{get_or-drop}
use mathlib.Core.Logic.{dite}
use mathlib.Core.Option.{none, some, some-injective, some-ne-none}
use mathlib.Core.List.{map-append}
use native.Mathlib.Decide.{ℕ_discrete}
use lib.ListN.{get_elem?}
use lib.Seq.{set-get_or, map-set}
use prog.Atomic.{either}
use Rattle.atomic_table.specs.Table.{State, Me, step, keeps, opening, stepped, Allows, Splits, Joins}
use Rattle.crossbeam_utils.specs.Register.{TurnsAt, Turns, Forks, Merges}
use Rattle.version_cell.specs.Meetings.{Recalls}
use Rattle.version_cell.specs.Words.{IsOwn, LiesIn, Leaves}
use Rattle.version_cell.specs.declared.doing.Doing.{Doing}
use Rattle.version_cell.specs.inside.Steps.{IsLook, first_part, glued, loaded, looked, put, recalled, rest_of, seen, spent, swapped}
use Rattle.version_cell.specs.inside.Versions.{ComesTo, Knows, Versioned, beginning, client}
use Rattle.atomic_table.proofs.Lists.{at_set, set_again, at_snoc, at_map}
use Rattle.version_cell.proofs.Parts.{at_end, in_first, in_rest, parts_apart, first_lies, rest_lies, first_within, rest_within}

module _ {V X : Type 0} (wide : ℕ) (holds : X → List V → Type 0) (start : X) (code age : X → ℕ) (needs : X → ℕ → ℕ → Type 0)
    (lasts : V → X → ℕ → ℕ → Type 0) where
  abbrev D : Type 0
  D = Doing V X

  abbrev St : Type 0
  St = State (Unit {0}) D

  abbrev M : Type 0
  M = Me (Unit {0}) D

  abbrev Rule : St → Type 0
  Rule = Versioned wide holds start code age needs lasts

  abbrev Knowing : List ℕ → X → D → Type 0
  Knowing = Knows code age needs lasts

  abbrev version : St → ℕ
  version s = get_or s.words 16 0

  abbrev Apart : List D → Type 0
  Apart vs = (j k : ℕ) (d e : D) (place : ℕ) → j ≢ k → get_elem? vs j ≡ some d → get_elem? vs k ≡ some e → IsOwn d.from d.own place
      → IsOwn e.from e.own place → ⊥

  -- each of these seats has words that the one of its number had among those
  abbrev HaveLess : List D → List D → Type 0
  HaveLess vs vs' = (j : ℕ) (d' : D) → get_elem? vs' j ≡ some d'
      → (d : D) × (get_elem? vs j ≡ some d) × ((place : ℕ) → IsOwn d'.from d'.own place → IsOwn d.from d.own place)

  still_apart : (vs vs' : List D) → HaveLess vs vs' → Apart vs → Apart vs'
  still_apart vs vs' less apart j k d' e' place other at there mine its =
      let d = less j d' at in let e = less k e' there in apart j k d.0 e.0 place other d.1 e.1 (d.2 place mine) (e.2 place its)

  have_less : (vs : List D) (me : ℕ) (d w : D) → get_elem? vs me ≡ some d → ((place : ℕ) → IsOwn w.from w.own place → IsOwn d.from d.own place)
      → HaveLess vs (set vs me w)
  have_less vs me d w at less j d' there = ⊎_elim
      (λ (t : (j ≡ me) × (w ≡ d')). (
        d,
        ap (λ (n : ℕ). get_elem? vs n) t.0 ∙ at,
        λ place own. less place (subst (λ (z : D). IsOwn z.from z.own place) (sym t.1) own),
      ))
      (λ (t : (j ≢ me) × (get_elem? vs j ≡ some d')). (d', t.1, λ place own. own))
      (at_set vs me j w d' there)

  seats_stay : (K : D → Type 0) (vs : List D) (me : ℕ) (w : D) → K w → ((j : ℕ) (d : D) → j ≢ me → get_elem? vs j ≡ some d → K d)
      → (j : ℕ) (d : D) → get_elem? (set vs me w) j ≡ some d → K d
  seats_stay K vs me w mine others j d e = ⊎_elim (λ (t : (j ≡ me) × (w ≡ d)). subst K t.1 mine)
      (λ (t : (j ≢ me) × (get_elem? vs j ≡ some d)). others j d t.0 t.1) (at_set vs me j w d e)

  same_clients : (x : X) (vs : List D) (me : ℕ) (d w : D) → get_elem? vs me ≡ some d → w.client ≡ d.client → holds x (map client vs)
      → holds x (map client (set vs me w))
  same_clients x vs me d w at e =
      subst (holds x) (sym (map-set client vs me w ∙ (ap (set (map client vs) me) e ∙ set_again (map client vs) me d.client (at_map client vs me d at))))

  -- a step that changes no word, and no seat's own words
  unmoved : (s : St) (r : Rule s) (i me : ℕ) (cs : List (ℕ × Unit {0})) (d w : D) → get_elem? s.views me ≡ some d → w.from ≡ d.from → w.own ≡ d.own
      → Knowing s.words r.value w → holds r.value (map client (set s.views me w))
      → Rule (stepped s i (get_or s.words i 0) me cs w keeps)
  unmoved s r i me cs d w at from own mine kept =
      subst (λ (ws : List ℕ). Rule record { words = ws; homes = s.homes; views = set s.views me w }) (sym (set-get_or s.words i 0)) record {
        value = r.value;
        width = r.width;
        long = r.long;
        version_is = r.version_is;
        risen = r.risen;
        begun = r.begun;
        lie = r.lie;
        each_seat = seats_stay (Knowing s.words r.value) s.views me w mine (λ j d _. r.each_seat j d);
        apart = still_apart s.views (set s.views me w)
            (have_less s.views me d w at (λ place own'. subst (λ (z : ℕ × List ℕ). IsOwn z.0 z.1 place) (λ i. (from i, own i)) own')) r.apart;
        kept = kept;
      }

  -- a seat that has just seen the value
  sees : (words : List ℕ) (value : X) (d : D) (v : V) → d.from + length d.own + 32 ≤ length words
      → ((i : ℕ) → i < length d.own → get_or words (d.from + i + 32) 0 ≡ get_or d.own i 0) → Knowing words value (seen d value v)
  sees words value d v within lie = record {
    risen = le_refl (code value);
    same = (λ _. refl, inl refl);
    within = within;
    lie = lie;
    needed = λ _ place word _ n. n;
    last = λ _ place word _ n. n;
  }

  turned : (tells : V → X → X → V → Type 0) (s : St) (r : Rule s) (id : ℕ) (d : D) (y : X) (w : V → D) → ((v : V) → (w v).client ≡ v)
      → get_elem? s.views id ≡ some d
      → TurnsAt holds id d.client r.value y tells
      → (v : V) × holds y (map client (set s.views id (w v))) × tells d.client r.value y v
  turned tells s r id d y w is at asked = let t = asked (map client s.views) r.kept (at_map client s.views id d at) in
      (t.0, subst (holds y) (sym (map-set client s.views id (w t.0) ∙ ap (set (map client s.views) id) (is t.0))) t.1, t.2)

  look : (tells : V → X → X → V → Type 0) (s : St) (r : Rule s) (id : ℕ) (me : M) → get_elem? s.views id ≡ some me.0 → Turns holds id me.0.client (λ x. x) tells
      → (w : D) × Rule (stepped s 16 (version s) id me.1 w keeps) × IsLook code age tells (version s) me.0 w
  look tells s r id me at asked =
      let k = r.each_seat id me.0 at in
      let t = turned tells s r id me.0 r.value (seen me.0 r.value) (λ v. refl) at (asked r.value) in
      let w : D = seen me.0 r.value t.0 in (
        w,
        unmoved s r 16 id me.1 me.0 w at refl refl (sees s.words r.value me.0 t.0 k.within k.lie) t.1,
        record { value = r.value; is = refl; version_is = r.version_is; risen = k.risen; same = k.same; told = t.2 },
      )

  pub looks : (tells : V → X → X → V → Type 0) (slots id : ℕ) (me : M) → Turns holds id me.0.client (λ x. x) tells
      → Allows Rule slots id me 16 (λ x. x) (looked code age tells (step slots 16 0 0 none) me)
  looks tells slots id me asked s r _ at _ = let l = look tells s r id me at asked in (l.0, keeps, tt, l.1, l.2)

  pub loads : (slots id : ℕ) (me : M) (i : ℕ) → me.0.fresh ≡ true
      → Allows Rule slots id me (i + 32) (λ x. x) (loaded needs lasts (step slots (i + 32) 0 0 none) me)
  loads slots id me i fresh s r _ at _ =
      let k = r.each_seat id me.0 at in let back : i ≡ (i + 32) - 32 = omega arith in (
        me.0,
        keeps,
        tt,
        unmoved s r (i + 32) id me.1 me.0 me.0 at refl refl k (same_clients r.value s.views id me.0 me.0 at refl r.kept),
        (
          refl,
          subst (λ (p : ℕ). (word : ℕ) → lasts me.0.client me.0.value p word → needs me.0.value p word → get_or s.words (i + 32) 0 ≡ word) back
              (λ word l n. r.lie i word (k.last fresh i word l n)),
        ),
      )

  pub puts : (slots id : ℕ) (me : M) (i word : ℕ) → IsOwn me.0.from me.0.own i → me.0.fresh ≡ true → ((other : ℕ) → needs me.0.value i other → ⊥)
      → Allows Rule slots id me (i + 32) (λ _. word) (λ _. put (step slots (i + 32) word 0 none) me word)
  puts slots id me i word own fresh free s r _ at _ =
      let k = r.each_seat id me.0 at in let within = k.within in let width = r.width in
      let n : ℕ = (i + 32) - 32 - me.0.from in
      let is_n : me.0.from + n ≡ i = omega (arith, own.0) in
      let inside : n < length me.0.own = omega (arith, own.0, own.1) in
      let w : D = record { value = me.0.value; fresh = me.0.fresh; from = me.0.from; own = set me.0.own n word; client = me.0.client } in
      let words' : List ℕ = set s.words (i + 32) word in
      let long : length words' ≡ length s.words = length-set s.words (i + 32) word in
      let same_length : length w.own ≡ length me.0.own = length-set me.0.own n word in
      let still : get_or words' 16 0 ≡ version s = get_or-set_other s.words (i + 32) 16 word 0 (λ e. omega arith) in
      let elsewhere : (p : ℕ) → p ≢ i → get_or words' (p + 32) 0 ≡ get_or s.words (p + 32) 0 = λ p other. get_or-set_other s.words (i + 32) (p + 32) word 0
      (λ e. other (omega (arith, e))) in
      let mine : Knowing words' r.value w = record {
        risen = k.risen;
        same = k.same;
        within = omega (arith, within, long, same_length);
        lie = λ q lt. dite (ℕ_discrete q n)
            (λ e. ap (λ (z : ℕ). get_or words' (me.0.from + z + 32) 0) e ∙ (ap (λ (z : ℕ). get_or words' (z + 32) 0) is_n
            ∙ (get_or-set_same s.words (i + 32) word 0 (omega (arith, within, is_n, inside))
            ∙ (sym (get_or-set_same me.0.own n word 0 inside) ∙ ap (λ (z : ℕ). get_or w.own z 0) (sym e)))))
            (λ other. elsewhere (me.0.from + q) (λ e. other (omega (arith, e, is_n)))
            ∙ (k.lie q (omega (arith, lt, same_length)) ∙ sym (get_or-set_other me.0.own n q word 0 other)));
        needed = λ f place other o. k.needed f place other (o.0, omega (arith, o.1, same_length));
        last = k.last;
      } in (
        w,
        keeps,
        tt,
        record {
          value = r.value;
          width = long ∙ width;
          long = r.long;
          version_is = still ∙ r.version_is;
          risen = r.risen;
          begun = r.begun;
          lie = λ place other n. elsewhere place
              (λ e. free other (k.needed fresh i other own (subst (λ (z : ℕ). needs r.value z other) e n))) ∙ r.lie place other n;
          each_seat = seats_stay (Knowing words' r.value) s.views id w mine (λ j d other there. let g = r.each_seat j d there in record {
            risen = g.risen;
            same = g.same;
            within = omega (arith, g.within, long);
            lie = λ q lt. elsewhere (d.from + q)
                (λ e. r.apart j id d me.0 i other there at (omega (arith, e), omega (arith, e, lt)) own) ∙ g.lie q lt;
            needed = g.needed;
            last = g.last;
          });
          apart = still_apart s.views (set s.views id w) (have_less s.views id me.0 w at (λ place o. (o.0, omega (arith, o.1, same_length)))) r.apart;
          kept = same_clients r.value s.views id me.0 w at refl r.kept;
        },
        refl,
      )

  -- a value that has come so far has come further when the next one has
  comes_on : (x y z : X) → ComesTo code age x y → age y < age z → (x ≡ z) ⊎ (age x < age z)
  comes_on x y z to older = inr (⊎_elim (λ (e : x ≡ y). subst (λ (w : X). age w < age z) (sym e) older) (λ (lt : age x < age y). omega (arith, lt, older)) to.1)

  module _ (next : X → X) (tells else_tells : V → X → X → V → Type 0) where
    -- the value becomes the next one
    swapped_at : (s : St) (r : Rule s) (id v : ℕ) (d w : D) (y : X) (cs : List (ℕ × Unit {0})) → get_elem? s.views id ≡ some d
        → code r.value < v → v ≡ code y → age r.value < age y
        → ((place word : ℕ) → needs y place word → needs r.value place word ⊎ LiesIn d.from d.own place word)
        → Leaves holds needs lasts id d.client r.value y
        → w.from ≡ d.from → w.own ≡ d.own → Knowing (set s.words 16 v) y w
        → holds y (map client (set s.views id w)) → Rule (stepped s 16 v id cs w keeps)
    swapped_at s r id v d w y cs at more is older stored leaves from own mine kept =
        let k = r.each_seat id d at in let width = r.width in let long = r.long in
        let words' : List ℕ = set s.words 16 v in
        let same_long : length words' ≡ length s.words = length-set s.words 16 v in
        let beside : (p : ℕ) → get_or words' (p + 32) 0 ≡ get_or s.words (p + 32) 0 = λ p. get_or-set_other s.words 16 (p + 32) v 0 (λ e. omega arith) in
        record {
          value = y;
          width = same_long ∙ width;
          long = r.long;
          version_is = get_or-set_same s.words 16 v 0 (omega (arith, width, long)) ∙ is;
          risen = omega (arith, r.risen, more, is);
          begun = (λ e. absurd (omega (arith, e, r.risen, more, is)), comes_on start r.value y r.begun older);
          lie = λ place word n. beside place ∙ ⊎_elim (r.lie place word) (λ (l : LiesIn d.from d.own place word). lies_at k place word l) (stored place word n);
          each_seat = seats_stay (Knowing words' y) s.views id w mine (λ j e other there. let g = r.each_seat j e there in record {
            risen = omega (arith, g.risen, more, is);
            same = (λ q. absurd (omega (arith, q, g.risen, more, is)), comes_on e.value r.value y g.same older);
            within = omega (arith, g.within, same_long);
            lie = λ i lt. beside (e.from + i) ∙ g.lie i lt;
            needed = λ f place word o n. ⊎_elim (g.needed f place word o)
                (λ (l : LiesIn d.from d.own place word). absurd (r.apart j id e d place other there at o l.0))
                (stored place word n);
            last = λ f place word l n. leaves (map client s.views) r.kept (at_map client s.views id d at) j e.client e.value place word other
                (at_map client s.views j e there) l n (g.last f place word l n);
          });
          apart = still_apart s.views (set s.views id w)
              (have_less s.views id d w at (λ place own'. subst (λ (z : ℕ × List ℕ). IsOwn z.0 z.1 place) (λ i. (from i, own i)) own')) r.apart;
          kept = kept;
        } where
          lies_at : Knowing s.words r.value d → (place word : ℕ) → LiesIn d.from d.own place word → get_or s.words (place + 32) 0 ≡ word
          lies_at k place word l = let there : d.from + (place - d.from) ≡ place = omega (arith, l.0.0) in
              ap (λ (z : ℕ). get_or s.words (z + 32) 0) (sym there) ∙ (k.lie (place - d.from) (omega (arith, l.0.0, l.0.1)) ∙ l.1)

    pub swaps : (slots id : ℕ) (me : M) (at v : ℕ) → at ≡ code me.0.value → v ≡ code (next me.0.value) → code me.0.value < v
        → age me.0.value < age (next me.0.value)
        → TurnsAt holds id me.0.client me.0.value (next me.0.value) tells
        → ((place word : ℕ) → needs (next me.0.value) place word → needs me.0.value place word ⊎ LiesIn me.0.from me.0.own place word)
        → Leaves holds needs lasts id me.0.client me.0.value (next me.0.value)
        → Turns holds id me.0.client (λ x. x) else_tells
        → Allows Rule slots id me 16 (λ n. either (eqb n at) v n) (swapped code age next tells else_tells (step slots 16 at v none) me)
    swaps slots id me at v is_at is_v more older asked stored leaves look_asked s r _ there _ =
        let n : ℕ = version s in
        let k = r.each_seat id me.0 there in
        dite (ℕ_discrete n at)
        (λ hit.
        let same : me.0.value ≡ r.value = k.same.0 (sym is_at ∙ (sym hit ∙ r.version_is)) in
        let y : X = next me.0.value in
        let t = turned tells s r id me.0 y (seen me.0 y) (λ v. refl) there (subst (λ (z : X). TurnsAt holds id me.0.client z y tells) same asked) in
        let w : D = seen me.0 y t.0 in (
          w,
          keeps,
          tt,
          subst (λ b. Rule (stepped s 16 (either b v n) id me.1 w keeps)) (sym (eq-eqb n at hit))
              (swapped_at s r id v me.0 w y me.1 there (subst (λ (z : X). code z < v) same more) is_v (subst (λ (z : X). age z < age y) same older)
              (λ place word m. subst (λ (z : X). needs z place word ⊎ LiesIn me.0.from me.0.own place word) same (stored place word m))
              (subst (λ (z : X). Leaves holds needs lasts id me.0.client z y) same leaves) refl refl
              (sees (set s.words 16 v) y me.0 t.0 (omega (arith, k.within, length-set s.words 16 v))
              (λ i lt. get_or-set_other s.words 16 (me.0.from + i + 32) v 0 (λ e. omega arith) ∙ k.lie i lt)) t.1),
          (
            (λ _. (refl, subst (λ (z : X). tells me.0.client z y t.0) (sym same) t.2)),
            λ miss. absurd (miss hit),
          ),
        ))
        (λ miss. let l = look else_tells s r id me there look_asked in (
          l.0,
          keeps,
          tt,
          subst (λ b. Rule (stepped s 16 (either b v n) id me.1 l.0 keeps)) (sym (ne_eqb n at miss)) l.1,
          (
            (λ hit. absurd (miss hit)),
            λ _. (
              not_same (code me.0.value) n (omega (arith, k.risen, r.version_is)) (λ e. miss (sym e ∙ sym is_at)),
              aged l.0 l.2 (λ e. miss (l.2.version_is ∙ (ap code (sym e) ∙ sym is_at))),
              l.2,
            ),
          ),
        )) where
          aged : (w : D) → (l : IsLook code age else_tells (version s) me.0 w) → (me.0.value ≡ l.value → ⊥) → age me.0.value < age w.value
          aged w l other = ⊎_elim (λ (e : me.0.value ≡ l.value). absurd (other e))
              (λ (lt : age me.0.value < age l.value). subst (λ (z : D). age me.0.value < age z.value) (sym l.is) lt) l.same.1

          not_same : (a b : ℕ) → a ≤ b → a ≢ b → a < b
          not_same a b le other = ⊎_elim (λ (lt : a < b). lt) (λ (e : a ≡ b). absurd (other e)) (less_or_same a b le) where
            less_or_same : (a b : ℕ) → a ≤ b → (a < b) ⊎ (a ≡ b)
            less_or_same a b le = dite (ℕ_discrete a b) (λ e. inr e) (λ o. inl (omega (arith, le, o)))

  -- a seat that saw its value by another
  stale : (words : List ℕ) (value : X) (d : D) → code d.value ≤ code value → ComesTo code age d.value value → d.from + length d.own + 32 ≤ length words
      → ((i : ℕ) → i < length d.own → get_or words (d.from + i + 32) 0 ≡ get_or d.own i 0) → d.fresh ≡ false → Knowing words value d
  stale words value d risen same within lie not = record {
    risen = risen;
    same = same;
    within = within;
    lie = lie;
    needed = λ f. absurd (false≢true (sym not ∙ f));
    last = λ f. absurd (false≢true (sym not ∙ f));
  }

  -- a step that looks at nothing, and speaks of a value that was seen
  pub recalls : (tells : V → X → X → V → Type 0) (slots id : ℕ) (me : M) → Recalls holds id me.0.client me.0.value tells
      → Allows Rule slots id me 0 (λ x. x) (recalled tells (step slots 0 0 0 none) me)
  recalls tells slots id me asked s r _ at _ =
      let k = r.each_seat id me.0 at in
      let t = asked r.value (map client s.views) r.kept (at_map client s.views id me.0 at) in
      let w : D = record { value = me.0.value; fresh = false; from = me.0.from; own = me.0.own; client = t.0 } in (
        w,
        keeps,
        tt,
        unmoved s r 0 id me.1 me.0 w at refl refl (stale s.words r.value w k.risen k.same k.within k.lie refl)
            (subst (holds r.value) (sym (map-set client s.views id w)) t.1),
        (refl, t.2),
      )

  pub splits : (id n : ℕ) (d : D) (left right : V) → n ≤ length d.own → Forks holds id d.client left right
      → Splits Rule id d (rest_of n d left) (first_part n d right)
  splits id n d left right few asked s r there =
      let w : D = rest_of n d left in let u : D = first_part n d right in let k = r.each_seat id d there in
      let mine : Knowing s.words r.value w = stale s.words r.value w k.risen k.same (rest_within n d.from (length s.words) d.own few k.within)
      (rest_lies n d.from s.words d.own few k.lie) refl in
      let its : Knowing s.words r.value u = stale s.words r.value u k.risen k.same (first_within n d.from (length s.words) d.own few k.within)
      (first_lies n d.from s.words d.own few k.lie) refl in
      record {
        value = r.value;
        width = r.width;
        long = r.long;
        version_is = r.version_is;
        risen = r.risen;
        begun = r.begun;
        lie = r.lie;
        each_seat = λ j e p. ⊎_elim (seats_stay (Knowing s.words r.value) s.views id w mine (λ i y _. r.each_seat i y) j e)
            (λ (t : u ≡ e). subst (Knowing s.words r.value) t its) (at_snoc (set s.views id w) u e j p);
        apart = split_apart;
        kept = subst (holds r.value) (sym (map-append client (set s.views id w) (u ∷ []) ∙ ap (λ l. l ++ right ∷ []) (map-set client s.views id w)))
            (asked r.value (map client s.views) r.kept (at_map client s.views id d there));
      } where
        -- what a seat has of the words now, the seat of its number had, and the new one had of the one that was split
        vs : List D
        vs = set s.views id (rest_of n d left)

        u : D
        u = first_part n d right

        less : HaveLess s.views vs
        less = have_less s.views id d (rest_of n d left) there (λ place own. in_rest n d.from place d.own few own)

        -- a seat of before, and the new one
        beside_new : (j : ℕ) (e : D) (place : ℕ) → get_elem? vs j ≡ some e → IsOwn e.from e.own place → IsOwn u.from u.own place → ⊥
        beside_new j e place at mine its = ⊎_elim
            (λ (t : (j ≡ id) × (rest_of n d left ≡ e)). parts_apart n d.from place d.own few (subst (λ (z : D). IsOwn z.from z.own place) (sym t.1) mine) its)
            (λ (t : (j ≢ id) × (get_elem? s.views j ≡ some e)). r.apart j id e d place t.0 t.1 there mine (in_first n d.from place d.own few its))
            (at_set s.views id j (rest_of n d left) e at)

        split_apart : Apart (vs ++ u ∷ [])
        split_apart j k e f place other at its mine theirs = ⊎_elim
            (λ (a : get_elem? vs j ≡ some e). ⊎_elim
            (λ (b : get_elem? vs k ≡ some f). still_apart s.views vs less r.apart j k e f place other a b mine theirs)
            (λ (b : (k ≡ length vs) × (u ≡ f)). beside_new j e place a mine (subst (λ (z : D). IsOwn z.from z.own place) (sym b.1) theirs))
            (at_end vs u f k its))
            (λ (a : (j ≡ length vs) × (u ≡ e)). ⊎_elim
            (λ (b : get_elem? vs k ≡ some f). beside_new k f place b theirs (subst (λ (z : D). IsOwn z.from z.own place) (sym a.1) mine))
            (λ (b : (k ≡ length vs) × (u ≡ f)). other (a.0 ∙ sym b.0))
            (at_end vs u f k its))
            (at_end vs u e j at)

  pub joins : (id : ℕ) (d : D) (other : ℕ) (e : D) (both end : V) → Merges holds id d.client other e.client both end
      → Joins Rule id d other e (glued code d e both) (spent start end)
  joins id d other e both end asked s r at apart there =
      let w : D = glued code d e both in let u : D = spent start end in
      let vs : List D = set s.views id w in let same = map-set client s.views id w in
      let its : get_elem? s.views other ≡ some e = ⊎_elim (λ (t : (other ≡ id) × (w ≡ e)). absurd (apart t.0))
      (λ (t : (other ≢ id) × (get_elem? s.views other ≡ some e)). t.1) (at_set s.views id other w e there) in
      let k = r.each_seat id d at in let g = r.each_seat other e its in
      let mine : Knowing s.words r.value w = stale s.words r.value w
      (later_risen d.value e.value r.value k.risen g.risen (nat_le (code e.value) (code d.value)))
      (later_same d.value e.value r.value k.same g.same (nat_le (code e.value) (code d.value))) k.within k.lie refl in
      let none_left : Knowing s.words r.value u = stale s.words r.value u r.risen r.begun (omega (arith, r.long, r.width))
      (λ i lt. absurd (omega arith)) refl in
      record {
        value = r.value;
        width = r.width;
        long = r.long;
        version_is = r.version_is;
        risen = r.risen;
        begun = r.begun;
        lie = r.lie;
        each_seat = λ j x. seats_stay (Knowing s.words r.value) vs other u none_left
            (λ i y _. seats_stay (Knowing s.words r.value) s.views id w mine (λ l z _. r.each_seat l z) i y) j x;
        apart = still_apart vs (set vs other u) (have_less vs other e u there (λ place own. absurd (omega (arith, own.0, own.1))))
            (still_apart s.views vs (have_less s.views id d w at (λ place own. own)) r.apart);
        kept = subst (holds r.value) (sym (map-set client vs other u ∙ ap (λ l. set l other end) same))
            (asked r.value (map client s.views) r.kept (at_map client s.views id d at) apart
            (subst (λ l. get_elem? l other ≡ some e.client) same (at_map client vs other e there)));
      } where
        later_risen : (x y value : X) → code x ≤ code value → code y ≤ code value → (c : Bool) → code (if c then x else y) ≤ code value
        later_risen x y value a b true = a
        later_risen x y value a b false = b

        later_same : (x y value : X) → ComesTo code age x value → ComesTo code age y value → (c : Bool) → ComesTo code age (if c then x else y) value
        later_same x y value a b true = a
        later_same x y value a b false = b

pub opens : {V X : Type 0} (holds : X → List V → Type 0) (start : X) (code age : X → ℕ) (needs : X → ℕ → ℕ → Type 0) (lasts : V → X → ℕ → ℕ → Type 0)
    (words : List ℕ) (first : V) → 32 ≤ length words → get_or words 16 0 ≡ code start → ((place word : ℕ) → needs start place word → ⊥)
    → holds start (first ∷ [])
    → Versioned (length words) holds start code age needs lasts (opening words [] (beginning start first (drop 32 words)))
opens {V} {X} holds start code age needs lasts words first long is unneeded kept = record {
  value = start;
  width = refl;
  long = long;
  version_is = is;
  risen = le_refl (code start);
  begun = (λ _. refl, inl refl);
  lie = λ place word n. absurd (unneeded place word n);
  each_seat = λ j d there. only j d there;
  apart = λ j k d e place other at there _ _. other (alone j d at ∙ sym (alone k e there));
  kept = kept;
} where
  seat : Doing V X
  seat = beginning start first (drop 32 words)

  alone : (j : ℕ) (d : Doing V X) → get_elem? (seat ∷ []) j ≡ some d → j ≡ 0
  alone zero d there = refl
  alone (suc j) d there = absurd (some-ne-none d (sym there))

  knows : Knows code age needs lasts words start seat
  knows = record {
    risen = le_refl (code start);
    same = (λ _. refl, inl refl);
    within = omega (arith, length-drop 32 words, long);
    lie = λ i lt. let e : 0 + i + 32 ≡ 32 + i = omega arith in ap (λ (z : ℕ). get_or words z 0) e ∙ sym (get_or-drop 32 words i 0);
    needed = λ _ place word _ n. n;
    last = λ _ place word _ n. n;
  }

  only : (j : ℕ) (d : Doing V X) → get_elem? (seat ∷ []) j ≡ some d → Knows code age needs lasts words start d
  only zero d there = subst (Knows code age needs lasts words start) (some-injective seat d there) knows
  only (suc j) d there = absurd (some-ne-none d (sym there))
