use Rattle.std.proofs.Common.{◌<◌, ℕ, List, [], ◌∷◌, codes, ◌≡◌, length, get_or, ap, ◌∙◌, refl, inl, inr, lit<, lit≤, arith}
use Rattle.std.proofs.lemmas.Fmt.{decimal_digit}
use Rattle.vs_types.specs.declared.addresses.depth.Depth.TheVariants.{Four}
use Rattle.vs_types.specs.declared.requests.request.Query.TheVariants.{Resolve}
use Rattle.nr_script.specs.Lines.{Says}
use Rattle.vs_text.specs.Requests.{name_of, name_text}
use Rattle.nr_script.specs.declared.line.Line.{Line}
use Rattle.nr_script.specs.declared.line.Line.TheVariants as says
use Rattle.vs_text.specs.declared.name.Name.{Name}
use Rattle.vs_text.specs.declared.name.Name.TheVariants as names
use Rattle.nr_script.proofs.examples.two_spaces_are_a_bad_line.Goals as goal

no_empty_name : (name : Name) → 0 < length (name_text name)
no_empty_name names.Map = lit< tt
no_empty_name _ = lit< tt

says_nothing : (it : Line) → Says Four (codes "0  resolve 0x0") it → ⊥
says_nothing says.PassedOver (inl empty) = omega (arith, ap length empty)
says_nothing says.PassedOver (inr comment) = omega (arith, ap (λ (text : List ℕ). get_or text 0 0) comment.1)
says_nothing (says.Request thread query) said =
    let name : codes "" ≡ name_text (name_of query) = ap (λ (words : List (List ℕ)). get_or words 1 []) said.words_are
    ∙ ap (λ (asks : List (List ℕ)). get_or asks 0 []) said.query_is.words_are in
    omega (arith, no_empty_name (name_of query), ap length name)
says_nothing (says.Step step) said = omega (arith, ap (λ (words : List (List ℕ)). length (get_or words 0 [])) said.words_are)

a_resolve : Says Four (codes "0 resolve 0x0") (says.Request 0 (Resolve 0))
a_resolve = record {
  asks = codes "resolve" ∷ codes "0x0" ∷ [];
  words_are = rw (decimal_digit 0 (lit< tt)) refl;
  thread_fits = lit< tt;
  query_is = record {
    arguments = codes "0x0" ∷ [];
    words_are = refl;
    arguments_are = record {
      word = codes "0x0";
      words_are = refl;
      address_is = record { digits = codes "0"; spelled = refl; numeral = (lit< tt, (lit< tt, tt)); few = lit≤ tt; value = refl };
    };
    well_formed = refl;
  };
}

pub returns : goal.returns
returns c = record {
  before = codes "0 resolve 0x0" ∷ [];
  line = codes "0  resolve 0x0";
  rest = codes "0 resolve" ∷ [];
  lines_are = refl;
  number_is = refl;
  said = says.Request 0 (Resolve 0) ∷ [];
  each_says = (a_resolve, tt);
  within_limits = record { requests = lit≤ tt; steps = lit≤ tt };
  is_bad = inl says_nothing;
}
