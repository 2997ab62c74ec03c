-- The moments at which an address looks otherwise, one by one.
use Rattle.std.proofs.Common.{◌≡◌, ◌≢◌, ℕ, ◌+◌, ◌<◌, ◌≤◌, ◌⊎◌, inl, inr, List, [], ◌∷◌, ◌++◌, Contains, sym, ap, subst, ◌∙◌, arith}
use Rattle.std.specs.Prelude.{All}
use Rattle.std.specs.List.{AllPairs}
use Rattle.std.proofs.lemmas.Bool.{cases_lt}
use Rattle.std.proofs.lemmas.List.Elements.{All-append, All-cons, All-nil, All-weaker, Contains-append_left, Contains-append_right}
use Rattle.vs_types.specs.Space.{Space}
use Rattle.vs_types.proofs.Lists.{Contains-head}
use Rattle.vs_walk.proofs.LawsOfLists.{all_pairs_append}
use Rattle.vs_types.specs.declared.requests.answer.Answer.{Answer}
use Rattle.nr_trace.specs.Recording.{Recording}
use Rattle.nr_explain.specs.ChainEvidence.{AreLooks}
use Rattle.nr_explain.specs.Facts.{looks_from}
use Rattle.nr_explain.specs.ChainFacts.{IsChangedAt}
use Rattle.nr_explain.specs.inside.Windows.{AreLooksBelow}
use Rattle.nr_explain.specs.declared.chain.evidence.Moment.{Moment}

module _ (start : Space) (segment : Recording) (address first : ℕ) where
  abbrev Listed : List Moment → ℕ → Type 0
  Listed looks n = (moment : Moment) × Contains looks moment × (moment.entries ≡ n)

  abbrev Is : Moment → Type 0
  Is moment = moment.look ≡ looks_from start segment address moment.entries

  abbrev Changed : Moment → Type 0
  Changed moment = (moment.entries ≡ first) ⊎ IsChangedAt start segment address moment.entries

  abbrev Before : Moment → Moment → Type 0
  Before moment later = moment.entries < later.entries

  one_alone : (moment : Moment) → AllPairs Before (moment ∷ [])
  one_alone moment i j d lt within = absurd (omega arith)

  none_below : AreLooksBelow start segment address first 0 []
  none_below = record {
    within = All-nil _;
    are = All-nil _;
    rising = λ i j d lt within. absurd (omega arith);
    changed = All-nil _;
    all = λ n low high which. absurd (omega arith);
  }

  -- a moment more
  pub look_pushed : (end : ℕ) (looks next : List Moment) (moment : Moment) → moment.entries ≡ end → first ≤ end → Is moment → Changed moment
      → next ≡ looks ++ moment ∷ [] → AreLooksBelow start segment address first end looks → AreLooksBelow start segment address first (end + 1) next
  look_pushed end looks next moment at low is changed same are =
      subst (AreLooksBelow start segment address first (end + 1)) (sym same) record {
        within = All-append (λ (m : Moment). (first ≤ m.entries) × (m.entries < end + 1)) looks (moment ∷ [])
            (All-weaker (λ (m : Moment). (first ≤ m.entries) × (m.entries < end)) (λ (m : Moment). (first ≤ m.entries) × (m.entries < end + 1))
            (λ m h. (h.0, (let less = h.1 in omega arith))) looks are.within)
            (All-cons (λ (m : Moment). (first ≤ m.entries) × (m.entries < end + 1)) moment [] (omega arith, omega arith) (All-nil _));
        are = All-append Is looks (moment ∷ []) are.are (All-cons Is moment [] is (All-nil Is));
        rising = all_pairs_append Before looks (moment ∷ []) are.rising (one_alone moment)
            (All-weaker (λ (m : Moment). (first ≤ m.entries) × (m.entries < end)) (λ (m : Moment). All (Before m) (moment ∷ []))
            (λ m h. All-cons (Before m) moment [] (let less = h.1 in omega arith) (All-nil (Before m))) looks are.within);
        changed = All-append Changed looks (moment ∷ []) are.changed (All-cons Changed moment [] changed (All-nil Changed));
        all = λ n from below which. elim (cases_lt n end) [
          | inl lt ↦ (let old = are.all n from lt which in (old.0, Contains-append_left looks (moment ∷ []) old.0 old.1, old.2))
          | inr here ↦ (moment, Contains-append_right looks (moment ∷ []) moment (Contains-head moment []), omega arith)
        ];
      }

  -- none
  pub look_skipped : (end : ℕ) (looks : List Moment) → ((first ≤ end) → (end ≡ first) ⊎ IsChangedAt start segment address end → ⊥)
      → AreLooksBelow start segment address first end looks → AreLooksBelow start segment address first (end + 1) looks
  look_skipped end looks none are = record {
    within = All-weaker (λ (m : Moment). (first ≤ m.entries) × (m.entries < end)) (λ (m : Moment). (first ≤ m.entries) × (m.entries < end + 1))
        (λ m h. (h.0, (let less = h.1 in omega arith))) looks are.within;
    are = are.are;
    rising = are.rising;
    changed = are.changed;
    all = λ n from below which. elim (cases_lt n end) [
      | inl lt ↦ are.all n from lt which
      | inr here ↦ (let same : n ≡ end = omega arith in
          absurd (none (omega arith) (subst (λ (e : ℕ). (e ≡ first) ⊎ IsChangedAt start segment address e) same which)))
    ];
  }

  pub look_first : (looks : List Moment) (moment : Moment) → first ≡ 0 → moment.entries ≡ 0 → Is moment → looks ≡ moment ∷ []
      → AreLooksBelow start segment address first 1 looks
  look_first looks moment at_zero at is same =
      look_pushed 0 [] looks moment at (omega arith) is (inl (at ∙ sym at_zero)) same none_below

  pub look_later : (looks : List Moment) → 0 < first → looks ≡ [] → AreLooksBelow start segment address first 1 looks
  look_later looks some none =
      subst (AreLooksBelow start segment address first 1) (sym none) (look_skipped 0 [] (λ low which. omega arith) none_below)

  -- whether it looks otherwise there
  pub changed_at : (place : ℕ) (before then : Answer) → before ≡ looks_from start segment address place → then ≡ looks_from start segment address (place + 1)
      → (before ≢ then) → IsChangedAt start segment address (place + 1)
  changed_at place before then b t other = record {
    some = omega arith;
    changed = λ same. other (b ∙ ap (looks_from start segment address) (omega arith) ∙ same ∙ sym t);
  }

  pub differs_at : (place : ℕ) (before then : Answer) → before ≡ looks_from start segment address place → then ≡ looks_from start segment address (place + 1)
      → IsChangedAt start segment address (place + 1) → (before ≢ then)
  differs_at place before then b t at = λ same. at.changed (ap (looks_from start segment address) (omega arith) ∙ sym b ∙ same ∙ t)

  pub all_looks : (last : ℕ) (looks : List Moment) → AreLooksBelow start segment address first (last + 1) looks
      → AreLooks start segment address first last looks
  all_looks last looks are = record {
    within = All-weaker (λ (m : Moment). (first ≤ m.entries) × (m.entries < last + 1)) (λ (m : Moment). (first ≤ m.entries) × (m.entries ≤ last))
        (λ m h. (h.0, (let less = h.1 in omega arith))) looks are.within;
    are = are.are;
    rising = are.rising;
    changed = are.changed;
    all = λ n from to which. are.all n from (omega arith) which;
  }
