use Rattle.std.proofs.Common.{◌∙◌, ap, codes, inr, map, option_map, subst, sym, Bool, Bor, List, Some, ℕ}
use Rattle.std.specs.Prelude.{MatchBool}
use Rattle.std.specs.List.{All}
use Rattle.std.proofs.lemmas.Bool.{true≢false}
use Rattle.std.proofs.lemmas.List.Elements.{All-map}
use Rattle.audit_commands.proofs.CommandLines.{of_each}
use Rattle.clap.specs.Words.{Text, found_of, rows_of}
use Rattle.clap.proofs.WalkLemmas.{raw_values-rows}
use Rattle.audit_commands.specs.Words.{HasNoOtherOption, HasOtherOption, IsPlain, IsTestsMisuse}
use Rattle.audit_commands.proofs.inspection.read_tests.Goals as goal

abbrev texts_of : List (Bor (List ℕ)) → List Text
texts_of names = map (λ name. name.now) names

pub returns-then-other-clause-misused : goal.returns-then-other-clause-misused
returns-then-other-clause-misused c =
    let rows = rows_of (found_of c.args.given.now) in
    inr (subst (IsTestsMisuse rows) (sym c.in_ok-conflict.ensures.kind)
    (subst (λ (b : Bool). MatchBool b (HasOtherOption rows) (HasNoOtherOption rows)) c.if-other.true c.has_other_option-other.ensures))

pub returns-then-plain-clause-asks : goal.returns-then-plain-clause-asks
returns-then-plain-clause-asks c =
    let rows = rows_of (found_of c.args.given.now) in
    let read = c.get_raw.ensures ∙ raw_values-rows (found_of c.args.given.now) (codes "file") in
    let given_is = ap (option_map (λ (s : Bor (List (Bor (List ℕ)))). texts_of s.now)) (sym c.in-Some.is) ∙ read in
    let items_are = sym c.in_ok-names-in-Some.ensures.items in (
      subst (λ (b : Bool). MatchBool b (HasOtherOption rows) (HasNoOtherOption rows)) c.if-other.false c.has_other_option-other.ensures,
      sym given_is ∙ ap (λ (l : List (Bor (List ℕ))). Some (texts_of l)) items_are,
      subst (λ (l : List (Bor (List ℕ))). All IsPlain (texts_of l)) items_are
          (All-map IsPlain (λ (name : Bor (List ℕ)). name.now) c.in-Some.names.now (c.are_plain-plain.ensures.0 c.if-plain.true)),
    )

pub returns-in_ok-unfit-in-Some-clause-misused : goal.returns-in_ok-unfit-in-Some-clause-misused
returns-in_ok-unfit-in-Some-clause-misused c =
    let rows = rows_of (found_of c.args.given.now) in
    let read = c.get_raw.ensures ∙ raw_values-rows (found_of c.args.given.now) (codes "file") in
    let given_is = ap (option_map (λ (s : Bor (List (Bor (List ℕ)))). texts_of s.now)) (sym c.in-Some.is) ∙ read in
    inr (subst (IsTestsMisuse rows) (sym c.in_ok-unfit-in-Some.ensures.kind) (
      texts_of c.in-Some.names.now,
      sym given_is,
      λ all. true≢false (sym (c.are_plain-plain.ensures.1 (of_each IsPlain c.in-Some.names.now all)) ∙ c.if-plain.false),
    ))

pub returns-in_ok-none-in-None-clause-misused : goal.returns-in_ok-none-in-None-clause-misused
returns-in_ok-none-in-None-clause-misused c =
    let rows = rows_of (found_of c.args.given.now) in
    let read = c.get_raw.ensures ∙ raw_values-rows (found_of c.args.given.now) (codes "file") in
    let given_is = ap (option_map (λ (s : Bor (List (Bor (List ℕ)))). texts_of s.now)) (sym c.in-None.is) ∙ read in
    inr (subst (IsTestsMisuse rows) (sym c.in_ok-none-in-None.ensures.kind) (sym given_is))
