-- What is written is read back.
use Rattle.std.proofs.Common.{◌≡◌, ℕ, zero, suc, ◌+◌, ◌/◌, ◌%◌, ◌^◌, ◌<◌, ◌≤◌, ◌==◌, ◌++◌, Bool, true, false, cond, List, [], ◌∷◌, codes, length, refl, sym, ap}
use Rattle.std.proofs.Common.{◌∙◌, arith}
use Rattle.std.specs.Char.{digit_value}
use Rattle.std.specs.Fmt.{digit_glyph, digits, digits_onto}
use Rattle.std.specs.List.{AllByRecursion}
use Rattle.std.specs.Str.Parse.{AllDigits}
use Rattle.std.proofs.lemmas.Bool.Decides.{nat_tests}
use Rattle.std.proofs.lemmas.Fmt.{digits_is_IsNumeral}
use Rattle.std.proofs.Math.Nat.{pow-suc, pow-zero}
use Rattle.vs_types.specs.Query.{IsQuery}
use Rattle.vs_types.specs.declared.addresses.access.Access.{Access}
use Rattle.vs_types.specs.declared.addresses.access.Access.TheVariants.{Read}
use Rattle.vs_types.specs.declared.addresses.access.Mode.{Mode}
use Rattle.vs_types.specs.declared.addresses.access.Mode.TheVariants.{Supervisor, User}
use Rattle.vs_types.specs.declared.addresses.depth.Depth.{Depth}
use Rattle.vs_types.specs.declared.requests.op.Action.TheVariants.{Map, Unmap, Protect}
use Rattle.vs_types.specs.declared.addresses.page.Page.{Page}
use Rattle.vs_types.specs.declared.addresses.page.Rights.{Rights}
use Rattle.vs_types.specs.declared.addresses.page.Size.{Size}
use Rattle.vs_types.specs.declared.addresses.page.Size.TheVariants.{K4}
use Rattle.vs_types.specs.declared.requests.request.Query.{Query}
use Rattle.vs_types.specs.declared.requests.request.Query.TheVariants as queries
use Rattle.vs_types.proofs.Pages.{canonical_fits}
use Rattle.vs_text.specs.Requests.{request_text, SpellsQuery}
use Rattle.vs_text.specs.Words.{access_text, hexadecimal, mark, mode_text, rights_text, size_text, space, words, SpellsAddress}
use Rattle.vs_text.proofs.Cuts.{first_word, last_word, HasNoSpace}

-- the digits before the last
abbrev written_before : ℕ → ℕ → List ℕ → List ℕ
written_before fuel n after = digits_onto fuel 16 false (n / 16) (digit_glyph false (n % 16) ∷ after)

-- they are few where those of each smaller number are
abbrev AreFewBefore : ℕ → ℕ → List ℕ → Type 0
AreFewBefore fuel n after = (j : ℕ) → n / 16 < 16 ^ suc j → length (written_before fuel n after) ≤ suc j + (length after + 1)

one_more : (fuel k n : ℕ) (after : List ℕ) → n < 16 ^ suc k → 16 ≤ n → AreFewBefore fuel n after → length (written_before fuel n after) ≤ suc k + length after
one_more fuel zero n after below high rest = omega (arith, pow-suc 16 0, pow-zero 16)
one_more fuel (suc j) n after below high rest =
    let few = rest j (omega (arith, pow-suc 16 (suc j))) in
    omega arith

by_last : (fuel k n : ℕ) (after : List ℕ) → n < 16 ^ suc k → AreFewBefore fuel n after → (last : Bool) → (n / 16 == 0) ≡ last
    → length (cond last (digit_glyph false (n % 16) ∷ after) (written_before fuel n after)) ≤ suc k + length after
by_last fuel k n after below rest true is = omega arith
by_last fuel k n after below rest false is =
    let some : n / 16 ≡ 0 → ⊥ = λ none. grind (arith, nat_tests) in
    one_more fuel k n after below (omega arith) rest

-- a number below 16 ^ k is written with k digits at most, where there is one
length_written : (fuel k n : ℕ) (after : List ℕ) → n < 16 ^ suc k → length (digits_onto fuel 16 false n after) ≤ suc k + length after
length_written zero k n after below = omega arith
length_written (suc fuel) k n after below =
    by_last fuel k n after below (λ j small. let few = length_written fuel j (n / 16) (digit_glyph false (n % 16) ∷ after) small in
    omega arith) (n / 16 == 0) refl

few_digits : (n : ℕ) → n < 2 ^ 64 → length (digits 16 false n) ≤ 16
unfolding digits
few_digits n below = length_written 64 15 n [] below

-- an address as it is written is read back
pub address_back : (address : ℕ) → address < 2 ^ 64 → SpellsAddress (hexadecimal address) address
address_back address below =
    let is = digits_is_IsNumeral 16 false (omega arith) (omega arith) address (omega arith) in
    record { digits = digits 16 false address; spelled = refl; numeral = is.0; few = few_digits address below; value = sym is.1 }

-- no word that is written has a space
not_space : (d : ℕ) → digit_value d < 16 → (is : Bool) → (d == 32) ≡ is → is ≡ false
not_space d small false e = refl
not_space d small true e =
    let same : d ≡ 32 = grind (arith, nat_tests) in
    let large : digit_value d ≡ 36 = ap digit_value same in
    absurd (omega arith)

digits_alone : (ds : List ℕ) → AllDigits 16 ds → HasNoSpace ds
digits_alone [] all = tt
digits_alone (d ∷ ds) all = (not_space d all.0 (d == 32) refl, digits_alone ds all.1)

address_alone : (address : ℕ) → address < 2 ^ 64 → HasNoSpace (hexadecimal address)
address_alone address below =
    let is = digits_is_IsNumeral 16 false (omega arith) (omega arith) address (omega arith) in
    (refl, (refl, digits_alone (digits 16 false address) is.0.1))

size_alone : (size : Size) → HasNoSpace (size_text size)
size_alone K4 = (refl, (refl, tt))
size_alone _ = (refl, (refl, tt))

mark_alone : (given : Bool) (letter : ℕ) (rest : List ℕ) → (letter == 32) ≡ false → HasNoSpace rest → HasNoSpace (mark given (letter ∷ []) ++ rest)
mark_alone true letter rest is none = (is, none)
mark_alone false letter rest is none = (refl, none)

exec_alone : (given : Bool) → HasNoSpace (mark given (codes "x"))
exec_alone true = (refl, tt)
exec_alone false = (refl, tt)

rights_alone : (rights : Rights) → HasNoSpace (rights_text rights)
rights_alone rights = mark_alone rights.write 119 _ refl (mark_alone rights.user 117 _ refl (exec_alone rights.exec))

mode_alone : (mode : Mode) → HasNoSpace (mode_text mode)
mode_alone Supervisor = (refl, tt)
mode_alone User = (refl, tt)

access_alone : (access : Access) → HasNoSpace (access_text access)
access_alone Read = (refl, tt)
access_alone _ = (refl, tt)

-- words with one space between them
abbrev joined : List ℕ → List (List ℕ) → List ℕ
joined word [] = word
joined word (next ∷ others) = word ++ (space ++ joined next others)

joined_words : (word : List ℕ) (others : List (List ℕ)) → HasNoSpace word → AllByRecursion HasNoSpace others → words (joined word others) ≡ word ∷ others
joined_words word [] none all = last_word word none
joined_words word (next ∷ others) none all =
    first_word word (joined next others) none ∙ ap (λ (them : List (List ℕ)). word ∷ them) (joined_words next others all.0 all.1)

map_words : (page : Page) → page.base < 2 ^ 64 → page.phys < 2 ^ 64 → words (request_text (queries.Update (Map page)))
    ≡ codes "map" ∷ size_text page.size ∷ hexadecimal page.base ∷ hexadecimal page.phys ∷ rights_text page.rights ∷ []
unfolding request_text
map_words page base phys =
    joined_words (codes "map") (size_text page.size ∷ hexadecimal page.base ∷ hexadecimal page.phys ∷ rights_text page.rights ∷ [])
    (refl, (refl, (refl, tt)))
    (size_alone page.size, (address_alone page.base base, (address_alone page.phys phys, (rights_alone page.rights, tt))))

unmap_words : (base : ℕ) → base < 2 ^ 64 → words (request_text (queries.Update (Unmap base))) ≡ codes "unmap" ∷ hexadecimal base ∷ []
unfolding request_text
unmap_words base fits =
    joined_words (codes "unmap") (hexadecimal base ∷ []) (refl, (refl, (refl, (refl, (refl, tt))))) (address_alone base fits, tt)

protect_words : (base : ℕ) (rights : Rights) → base < 2 ^ 64
    → words (request_text (queries.Update (Protect base rights))) ≡ codes "protect" ∷ hexadecimal base ∷ rights_text rights ∷ []
unfolding request_text
protect_words base rights fits =
    joined_words (codes "protect") (hexadecimal base ∷ rights_text rights ∷ []) (refl, (refl, (refl, (refl, (refl, (refl, (refl, tt)))))))
    (address_alone base fits, (rights_alone rights, tt))

resolve_words : (address : ℕ) → address < 2 ^ 64 → words (request_text (queries.Resolve address)) ≡ codes "resolve" ∷ hexadecimal address ∷ []
unfolding request_text
resolve_words address fits =
    joined_words (codes "resolve") (hexadecimal address ∷ []) (refl, (refl, (refl, (refl, (refl, (refl, (refl, tt)))))))
    (address_alone address fits, tt)

access_words : (address : ℕ) (mode : Mode) (access : Access) → address < 2 ^ 64
    → words (request_text (queries.Access address mode access)) ≡ codes "access" ∷ mode_text mode ∷ access_text access ∷ hexadecimal address ∷ []
unfolding request_text
access_words address mode access fits =
    joined_words (codes "access") (mode_text mode ∷ access_text access ∷ hexadecimal address ∷ [])
    (refl, (refl, (refl, (refl, (refl, (refl, tt))))))
    (mode_alone mode, (access_alone access, (address_alone address fits, tt)))

pub request_back : (depth : Depth) (query : Query) → IsQuery depth query → SpellsQuery depth (words (request_text query)) query
request_back depth (queries.Update (Map page)) is =
    let base = canonical_fits depth page.base is.canonical in
    let phys : page.phys < 2 ^ 64 = omega (arith, is.phys_range) in
    record {
      arguments = size_text page.size ∷ hexadecimal page.base ∷ hexadecimal page.phys ∷ rights_text page.rights ∷ [];
      words_are = map_words page base phys;
      arguments_are = record {
        base = hexadecimal page.base;
        phys = hexadecimal page.phys;
        words_are = refl;
        base_is = address_back page.base base;
        phys_is = address_back page.phys phys;
      };
      well_formed = is;
    }
request_back depth (queries.Update (Unmap base)) is =
    let fits = canonical_fits depth base is.canonical in
    record {
      arguments = hexadecimal base ∷ [];
      words_are = unmap_words base fits;
      arguments_are = record { word = hexadecimal base; words_are = refl; address_is = address_back base fits };
      well_formed = is;
    }
request_back depth (queries.Update (Protect base rights)) is =
    let fits = canonical_fits depth base is.canonical in
    record {
      arguments = hexadecimal base ∷ rights_text rights ∷ [];
      words_are = protect_words base rights fits;
      arguments_are = record { word = hexadecimal base; words_are = refl; base_is = address_back base fits };
      well_formed = is;
    }
request_back depth (queries.Resolve address) is =
    let fits = canonical_fits depth address is in
    record {
      arguments = hexadecimal address ∷ [];
      words_are = resolve_words address fits;
      arguments_are = record { word = hexadecimal address; words_are = refl; address_is = address_back address fits };
      well_formed = is;
    }
request_back depth (queries.Access address mode access) is =
    let fits = canonical_fits depth address is in
    record {
      arguments = mode_text mode ∷ access_text access ∷ hexadecimal address ∷ [];
      words_are = access_words address mode access fits;
      arguments_are = record { word = hexadecimal address; words_are = refl; address_is = address_back address fits };
      well_formed = is;
    }
