use Rattle.std.proofs.Common.{◌≡◌, ℕ, ◌-◌, Bool, List, [], ◌∷◌, ◌++◌, Some, None, length, get_or, take, vec_len, Vec, Global, refl, sym, ap, subst, ◌∙◌, arith}
use Rattle.std.proofs.Common.{below_more}
use Rattle.std.proofs.lemmas.Bool.{iff_false}
use Rattle.std.proofs.lemmas.List.{length-append}
use Rattle.std.specs.FinMap as finite
use Rattle.vs_types.specs.Entry.{meaning}
use Rattle.nr_explain.specs.inside.Ways.{GoesNowhere, IsMet, IsSearched}
use Rattle.nr_explain.specs.declared.trace.evidence.TableEntry.{TableEntry}
use Rattle.nr_explain.proofs.Searches.{IsNotHere, entry_of, front_left, nowhere_from_missing, nowhere_from_table, IsPassed}
use Rattle.nr_explain.proofs.tables.paths.+go_on.Goals as goal
use Rattle.nr_explain.proofs.tables.paths.+go_on.Goals.{else-number-target-via-then-number-target+else-is_met, else-number-target-via-else-number-target}
use Rattle.nr_explain.proofs.tables.paths.+go_on.Goals.{in-Table+in_ok-push+in_ok-go_on+else-branch, in_default-read}

abbrev step_of : ℕ → ℕ → ℕ → ℕ → TableEntry
step_of level number index word = record { level = level; frame = number; index = index; word = word }

pub returns-in_default : goal.returns-in_default
returns-in_default t c =
    let memory = c.args.dump.now.frames in
    let target = c.args.target.now in
    let begun = c.args.way.now.items in
    let none : IsNotHere memory target c.args.level c.args.number begun = elim c.else-number-target.branch [
      | else-number-target-via-then-number-target+else-is_met w ↦ λ here met. iff_false w.is_met.ensures w.if-is_met.false
          (subst (λ (l : List TableEntry). IsMet memory target c.args.level l) (sym w.deref.ensures.value) met)
      | else-number-target-via-else-number-target w ↦ λ here met. w.if-number-target.false here
    ] in
    let gone : finite.get memory c.args.number ≡ None = sym c.in_default.ensures in
    (refl, nowhere_from_missing memory target c.args.level c.args.number begun gone none)

pub loop-index-preserved : goal.loop-index-preserved
loop-index-preserved t c =
    let memory = c.args.dump.now.frames in
    let target = c.args.target.now in
    let level = c.args.level in
    let number = c.args.number in
    let begun = c.args.way.now.items in
    let words = c.in-Some.words in
    let index = c.loop-index.index in
    let old = c.loop-index.invariant in
    let read : meaning level (get_or words index 0) ≡ c.read.result = ap (meaning level) (sym (c.new.ensures ∙ c.word-word.ensures)) ∙ sym c.read.ensures in
    elim c.match-read.branch [
      | in-Table+in_ok-push+in_ok-go_on+else-branch w ↦
          let step : TableEntry = entry_of level number words index in
          let pushed : w.push.new.self.items ≡ begun ++ step ∷ [] = w.in_ok-push.ensures.items
          ∙ ap (λ (word : ℕ). c.loop-index.way.items ++ step_of level number index word ∷ []) c.word-word.ensures
          ∙ ap (λ (l : List TableEntry). l ++ step ∷ []) old.way in
          let searched = subst (λ (b : Bool). IsSearched memory target (level - 1) w.in-Table.next w.push.new.self.items w.go_on.new.way.items b)
          w.if-branch.false w.in_ok-go_on.ensures in
          let whole : w.go_on.new.way.items ≡ begun ++ step ∷ [] = searched.0 ∙ pushed in
          record {
            way = ap (λ (v : Vec TableEntry Global). v.items) w.way'-is
                ∙ front_left begun w.pop-passed.new.self.items step (vec_len w.go_on.new.way - 1)
                (omega (arith, w.go_on.new.way.ok.0, ap length whole, length-append begun (step ∷ [])))
                (w.pop-passed.ensures.rest ∙ ap (λ (l : List TableEntry). take (vec_len w.go_on.new.way - 1) l) whole);
            passed = below_more (IsPassed memory target level number begun words) index old.passed (λ next own means.
                let same : w.in-Table.next ≡ next = cc (w.in-Table.is, read, means) in
                subst (λ (n : ℕ). GoesNowhere memory target (level - 1) n (begun ++ step ∷ [])) same
                (subst (λ (l : List TableEntry). GoesNowhere memory target (level - 1) w.in-Table.next l) pushed searched.1));
          }
      | in_default-read w ↦ record {
        way = ap (λ (v : Vec TableEntry Global). v.items) w.way'-is ∙ old.way;
        passed = below_more (IsPassed memory target level number begun words) index old.passed
            (λ next own means. absurd (w.in_default-read.not-Table next own (sym read ∙ means)));
      }
    ]

pub returns : goal.returns
returns t c =
    let memory = c.args.dump.now.frames in
    let target = c.args.target.now in
    let level = c.args.level in
    let begun = c.args.way.now.items in
    let words = c.in-Some.words in
    let none : IsNotHere memory target level c.args.number begun = elim c.else-number-target.branch [
      | else-number-target-via-then-number-target+else-is_met w ↦ λ here met. iff_false w.is_met.ensures w.if-is_met.false
          (subst (λ (l : List TableEntry). IsMet memory target level l) (sym w.deref.ensures.value) met)
      | else-number-target-via-else-number-target w ↦ λ here met. w.if-number-target.false here
    ] in
    let some : finite.get memory c.args.number ≡ Some words = sym c.in-Some.ensures in (
      c.loop-index.invariant.way,
      nowhere_from_table memory target level c.args.number begun words some none
          (λ index lt. c.loop-index.invariant.passed index (omega arith)),
    )
