use Rattle.std.proofs.Common.{[], ◌∷◌, codes, refl, inl, inr, lit<, lit≤}
use Rattle.std.specs.List.{AllZip}
use Rattle.std.proofs.lemmas.Fmt.{decimal_digit}
use Rattle.vs_types.specs.declared.addresses.depth.Depth.TheVariants.{Four}
use Rattle.nr_core.specs.declared.runs.step.Act.TheVariants.{Call, Take}
use Rattle.nr_script.specs.Examples.{map_it, resolve_it, short_lines, short_script}
use Rattle.nr_script.specs.Lines.{Says}
use Rattle.nr_script.specs.Lines.{lines}
use Rattle.vs_text.specs.Words.{SpellsAddress}
use Rattle.nr_script.specs.declared.line.Line.TheVariants as says
use Rattle.nr_script.proofs.examples.short_script_is_read.Goals as goal

a_comment : Says Four (codes "# a page") says.PassedOver
a_comment = inr (codes " a page", refl)

base : SpellsAddress (codes "0x400000") 0x400000
base = record {
  digits = codes "400000";
  spelled = refl;
  numeral = (lit< tt, (lit< tt, (lit< tt, (lit< tt, (lit< tt, (lit< tt, (lit< tt, tt)))))));
  few = lit≤ tt;
  value = refl;
}

phys : SpellsAddress (codes "0x1000") 0x1000
phys = record {
  digits = codes "1000";
  spelled = refl;
  numeral = (lit< tt, (lit< tt, (lit< tt, (lit< tt, (lit< tt, tt)))));
  few = lit≤ tt;
  value = refl;
}

of_either_case : SpellsAddress (codes "0x400aBc") 0x400abc
of_either_case = record {
  digits = codes "400aBc";
  spelled = refl;
  numeral = (lit< tt, (lit< tt, (lit< tt, (lit< tt, (lit< tt, (lit< tt, (lit< tt, tt)))))));
  few = lit≤ tt;
  value = refl;
}

a_map : Says Four (codes "0 map 4K 0x400000 0x1000 wux") (says.Request 0 map_it)
a_map = record {
  asks = codes "map" ∷ codes "4K" ∷ codes "0x400000" ∷ codes "0x1000" ∷ codes "wux" ∷ [];
  words_are = rw (decimal_digit 0 (lit< tt)) refl;
  thread_fits = lit< tt;
  query_is = record {
    arguments = codes "4K" ∷ codes "0x400000" ∷ codes "0x1000" ∷ codes "wux" ∷ [];
    words_are = refl;
    arguments_are = record { base = codes "0x400000"; phys = codes "0x1000"; words_are = refl; base_is = base; phys_is = phys };
    well_formed = record { canonical = refl; aligned = refl; phys_aligned = refl; phys_range = lit≤ tt };
  };
}

a_resolve : Says Four (codes "1 resolve 0x400aBc") (says.Request 1 resolve_it)
a_resolve = record {
  asks = codes "resolve" ∷ codes "0x400aBc" ∷ [];
  words_are = rw (decimal_digit 1 (lit< tt)) refl;
  thread_fits = lit< tt;
  query_is = record {
    arguments = codes "0x400aBc" ∷ [];
    words_are = refl;
    arguments_are = record { word = codes "0x400aBc"; words_are = refl; address_is = of_either_case };
    well_formed = refl;
  };
}

a_call : Says Four (codes "step 0 call") (says.Step (record { thread = 0; act = Call }))
a_call = record {
  acts = codes "call" ∷ [];
  words_are = rw (decimal_digit 0 (lit< tt)) refl;
  thread_fits = lit< tt;
  act_is = record { words_are = refl; number_fits = lit< tt };
}

a_take : Says Four (codes "step 1 take 2") (says.Step (record { thread = 1; act = Take 2 }))
a_take = record {
  acts = codes "take" ∷ codes "2" ∷ [];
  words_are = rw (decimal_digit 1 (lit< tt)) refl;
  thread_fits = lit< tt;
  act_is = record { words_are = rw (decimal_digit 2 (lit< tt)) refl; number_fits = lit< tt };
}

says_so : AllZip (Says Four) (lines short_script) short_lines
says_so = (a_comment, (a_map, (inl refl, (a_resolve, (a_call, (a_take, tt))))))

pub returns-clause-says : goal.returns-clause-says
returns-clause-says c = says_so

pub returns-clause-script : goal.returns-clause-script
returns-clause-script c = λ script threads requests steps first. record {
  said = short_lines;
  each_says = says_so;
  within_limits = record { requests = lit≤ tt; steps = lit≤ tt };
  threads_are = threads;
  requests_are = requests;
  steps_are = steps;
  first_step_is = first;
}
