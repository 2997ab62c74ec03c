-- Words are one request at most.
use Rattle.std.proofs.Common.{◌≡◌, ℕ, ◌+◌, ◌*◌, ◌==◌, List, [], ◌<◌, length, arith, drop, get_or, refl, sym, ap, subst, ◌∙◌}
use Rattle.std.specs.Prelude.{if◌then◌else◌}
use Rattle.std.specs.List.{fold}
use Rattle.vs_types.specs.declared.addresses.depth.Depth.{Depth}
use Rattle.vs_types.specs.declared.requests.op.Action.TheVariants.{Map, Unmap, Protect}
use Rattle.vs_types.specs.declared.requests.request.Query.{Query}
use Rattle.vs_types.specs.declared.requests.request.Query.TheVariants as queries
use Rattle.vs_text.specs.Requests.{name_of, name_text, AreArguments, SpellsQuery}
use Rattle.vs_text.specs.declared.name.Name.{Name}
use Rattle.vs_text.specs.declared.name.Name.TheVariants as names
use Rattle.vs_text.proofs.ByName.{access_kind, map_kind, protect_kind, resolve_kind, unmap_kind, Kind}

-- the number that the letters of a word make, which says words apart
abbrev pub word_number : List ℕ → ℕ
word_number word = fold (λ number letter. number * 256 + letter) 0 word

abbrev name_at : ℕ → Name
name_at word =
    if word == 0x6d6170 then names.Map
    else if word == 0x756e6d6170 then names.Unmap
    else if word == 0x70726f74656374 then names.Protect
    else if word == 0x7265736f6c7665 then names.Resolve
    else names.Access

found_name : (name : Name) → name_at (word_number (name_text name)) ≡ name
found_name names.Map = refl
found_name _ = refl

same_name : (a b : Name) → name_text a ≡ name_text b → a ≡ b
same_name a b same = sym (found_name a) ∙ ap (λ (word : List ℕ). name_at (word_number word)) same ∙ found_name b

same_of_kind : {A : Type 0} {make : A → Query} {Spelled : A → Type 0} (name : Name) (words : List (List ℕ)) → Kind name words A make Spelled
    → (a b : Query) → name_of a ≡ name → name_of b ≡ name → AreArguments words a → AreArguments words b → a ≡ b
same_of_kind {make = make} name words kind a b is_a is_b spelled_a spelled_b =
    let first = kind.made_of a is_a spelled_a in
    let second = kind.made_of b is_b spelled_b in
    first.1 ∙ ap make (kind.one first.0 second.0 first.2 second.2) ∙ sym second.1

same_query : (name : Name) (words : List (List ℕ)) (a b : Query) → name_of a ≡ name → name_of b ≡ name → AreArguments words a → AreArguments words b → a ≡ b
same_query names.Map words = same_of_kind names.Map words (map_kind words)
same_query names.Unmap words = same_of_kind names.Unmap words (unmap_kind words)
same_query names.Protect words = same_of_kind names.Protect words (protect_kind words)
same_query names.Resolve words = same_of_kind names.Resolve words (resolve_kind words)
same_query names.Access words = same_of_kind names.Access words (access_kind words)

pub one_request : (depth : Depth) (words : List (List ℕ)) (a b : Query) → SpellsQuery depth words a → SpellsQuery depth words b → a ≡ b
one_request depth words a b p q =
    let same = sym p.words_are ∙ q.words_are in
    let name = same_name (name_of a) (name_of b) (ap (λ (parts : List (List ℕ)). get_or parts 0 []) same) in
    let arguments : p.arguments ≡ q.arguments = ap (λ (parts : List (List ℕ)). drop 1 parts) same in
    let spelled = subst (λ (parts : List (List ℕ)). AreArguments parts b) (sym arguments) q.arguments_are in
    same_query (name_of b) p.arguments a b name refl p.arguments_are spelled

-- a request has at most five words
few_arguments : (query : Query) (arguments : List (List ℕ)) → AreArguments arguments query → length arguments < 5
few_arguments (queries.Update (Map page)) arguments are = omega (arith, ap length are.words_are)
few_arguments _ arguments are = omega (arith, ap length are.words_are)

pub few_words_of_request : (depth : Depth) (words : List (List ℕ)) (query : Query) → SpellsQuery depth words query → length words < 6
few_words_of_request depth words query is = omega (arith, few_arguments query is.arguments is.arguments_are, ap length is.words_are)
