use Rattle.std.proofs.Common.{◌∙◌, ◌<◌, ◌≤◌, ap, arith, codes, inr, length, map, Option, option_map, Some, subst, sym, List, ℕ, Bor}
use Rattle.std.specs.Prelude.{IfSome}
use Rattle.std.proofs.lemmas.List.{length-map}
use Rattle.clap.specs.Words.{Text, found_of, rows_of}
use Rattle.clap.proofs.WalkLemmas.{raw_values-rows}
use Rattle.audit_commands.specs.Words.{IsLeast, IsMisuse}
use Rattle.audit_commands.proofs.CommandLines.{none_asked}
use Rattle.audit_commands.proofs.inspection.read_traces.Goals as goal

abbrev texts_of : List (Bor (List ℕ)) → List Text
texts_of names = map (λ name. name.now) names

abbrev has_few : Option (List Text) → Type 0
has_few given = IfSome given (λ names. length names ≤ 1)

few_texts : (names : List (Bor (List ℕ))) → length names ≤ 1 → has_few (Some (texts_of names))
few_texts names few = subst (λ (n : ℕ). n ≤ 1) (sym (length-map names (λ (name : Bor (List ℕ)). name.now))) few

many : (names : List (Bor (List ℕ))) → 1 < length names → 2 ≤ length names
many names more = omega arith

many_texts : (names : List (Bor (List ℕ))) → 2 ≤ length names → 2 ≤ length (texts_of names)
many_texts names more = subst (λ (n : ℕ). 2 ≤ n) (sym (length-map names (λ (name : Bor (List ℕ)). name.now))) more

pub returns-then-least-gt0-clause-misused : goal.returns-then-least-gt0-clause-misused
returns-then-least-gt0-clause-misused c =
    let found = found_of c.args.given.now in
    let rows = rows_of found in
    let given_is = ap (option_map (λ (s : Bor (List (Bor (List ℕ)))). texts_of s.now)) (sym c.in-Some.is)
    ∙ (c.get_raw.ensures ∙ raw_values-rows found (codes "file")) in
    inr (subst (IsMisuse rows) (sym c.in_ok-several-in-Some.ensures.kind) (
      inr (c.args.least, c.requires, c.if-least-gt0.true),
      (texts_of c.in-Some.names.now, sym given_is, many_texts c.in-Some.names.now (many c.in-Some.names.now c.if-names-gt1.true)),
    ))

pub returns-then-names-gt1-clause-asks : goal.returns-then-names-gt1-clause-asks
returns-then-names-gt1-clause-asks c =
    let found = found_of c.args.given.now in
    let read = c.get_raw.ensures ∙ raw_values-rows found (codes "file") in
    let given_is = ap (option_map (λ (s : Bor (List (Bor (List ℕ)))). texts_of s.now)) (sym c.in-Some.is) ∙ read in
    let items_are = sym c.in_ok-names-in-Some.ensures.items in (
      c.is_given-as_json.ensures,
      subst (IsLeast (rows_of found)) (none_asked c.args.least c.if-least-gt0.false) c.requires,
      sym given_is ∙ ap (λ (l : List (Bor (List ℕ))). Some (texts_of l)) items_are,
      subst (λ (l : List (Bor (List ℕ))). 2 ≤ length l) items_are (many c.in-Some.names.now c.if-names-gt1.true),
    )

pub returns-else-names-gt1-clause-asks : goal.returns-else-names-gt1-clause-asks
returns-else-names-gt1-clause-asks c =
    let read = c.get_raw.ensures ∙ raw_values-rows (found_of c.args.given.now) (codes "file") in
    let given_is = ap (option_map (λ (s : Bor (List (Bor (List ℕ)))). texts_of s.now)) (sym c.in-Some.is) ∙ read in
    (c.is_given-as_json.ensures, c.requires, (subst has_few given_is (few_texts c.in-Some.names.now c.if-names-gt1.false), c.input_of.ensures))

pub returns-in-None-clause-asks : goal.returns-in-None-clause-asks
returns-in-None-clause-asks c =
    let read = c.get_raw.ensures ∙ raw_values-rows (found_of c.args.given.now) (codes "file") in
    let given_is = ap (option_map (λ (s : Bor (List (Bor (List ℕ)))). texts_of s.now)) (sym c.in-None.is) ∙ read in
    (c.is_given-as_json.ensures, c.requires, (subst has_few given_is tt, c.input_of-in-None.ensures))
