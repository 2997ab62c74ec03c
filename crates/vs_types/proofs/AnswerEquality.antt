-- When two answers are the same, as `==` says.
use Rattle.std.proofs.Common.{◌≡◌, ℕ, Bool, true, false, ◌&&◌, ◌↔◌, eqb, refl, sym, ap, subst, ◌∙◌}
use Rattle.std.proofs.lemmas.Bool.{false≢true, eq-eqb, eqb-true, and_parts, and_from}
use Rattle.vs_types.specs.declared.addresses.page.Size.{Size}
use Rattle.vs_types.specs.declared.addresses.page.Size.TheVariants.{K4, M2, G1}
use Rattle.vs_types.specs.declared.addresses.page.Rights.{Rights}
use Rattle.vs_types.specs.declared.requests.answer.Answer.{Answer}
use Rattle.vs_types.specs.declared.requests.answer.Answer.TheVariants.{Done, Overlap, Full, Removed, NotMapped, Inside, Changed, Mapped, Allowed, Fault}
use Rattle.vs_types.specs.contracts.addresses.page.SizePartialEq.TheImpl as sizes
use Rattle.vs_types.specs.contracts.addresses.page.RightsPartialEq.TheImpl as rights
use Rattle.vs_types.specs.contracts.requests.answer.AnswerPartialEq.TheImpl as answers

pub same_size : (s t : Size) → sizes.ghosts.eq s t ≡ true → s ≡ t
same_size K4 K4 e = refl
same_size M2 M2 e = refl
same_size G1 G1 e = refl
same_size s t e = absurd (false≢true e)

pub size_itself : (s : Size) → sizes.ghosts.eq s s ≡ true
size_itself K4 = refl
size_itself _ = refl

abbrev rights_of : Bool → Bool → Bool → Rights
rights_of write user exec = record { write = write; user = user; exec = exec }

same_bits : (a b c x y z : Bool) → rights.ghosts.eq (rights_of a b c) (rights_of x y z) ≡ true → rights_of a b c ≡ rights_of x y z
same_bits true true true true true true e = refl
same_bits true true false true true false e = refl
same_bits true false true true false true e = refl
same_bits true false false true false false e = refl
same_bits false true true false true true e = refl
same_bits false true false false true false e = refl
same_bits false false true false false true e = refl
same_bits false false false false false false e = refl
same_bits a b c x y z e = absurd (false≢true e)

bits_itself : (a b c : Bool) → rights.ghosts.eq (rights_of a b c) (rights_of a b c) ≡ true
bits_itself true true true = refl
bits_itself true true false = refl
bits_itself true false true = refl
bits_itself true false false = refl
bits_itself false true true = refl
bits_itself false true false = refl
bits_itself false false true = refl
bits_itself false false false = refl

pub same_rights : (p q : Rights) → rights.ghosts.eq p q ≡ true → p ≡ q
same_rights p q e = same_bits p.write p.user p.exec q.write q.user q.exec e

pub rights_itself : (p : Rights) → rights.ghosts.eq p p ≡ true
rights_itself p = bits_itself p.write p.user p.exec

-- a number, a size and rights are compared one after another
parts : (x y : ℕ) (s t : Size) (p q : Rights) → (eqb x y && (sizes.ghosts.eq s t && rights.ghosts.eq p q)) ≡ true → (x ≡ y) × (s ≡ t) × (p ≡ q)
parts x y s t p q e =
    let first = and_parts (eqb x y) _ e in
    let second = and_parts (sizes.ghosts.eq s t) _ first.1 in
    (eqb-true x y first.0, same_size s t second.0, same_rights p q second.1)

all_parts : (x : ℕ) (s : Size) (p : Rights) → (eqb x x && (sizes.ghosts.eq s s && rights.ghosts.eq p p)) ≡ true
all_parts x s p = and_from (eqb x x) _ (eq-eqb x x refl) (and_from (sizes.ghosts.eq s s) _ (size_itself s) (rights_itself p))

same : (a b : Answer) → answers.ghosts.eq a b ≡ true → a ≡ b
same Done Done e = refl
same (Overlap x) (Overlap y) e = ap (λ n. Overlap n) (eqb-true x y e)
same (Full x) (Full y) e = ap (λ n. Full n) (eqb-true x y e)
same (Removed x s p) (Removed y t q) e = let each = parts x y s t p q e in
    ap (λ n. Removed n s p) each.0 ∙ ap (λ u. Removed y u p) each.1 ∙ ap (λ r. Removed y t r) each.2
same NotMapped NotMapped e = refl
same (Inside x) (Inside y) e = ap (λ n. Inside n) (eqb-true x y e)
same (Changed p) (Changed q) e = ap (λ r. Changed r) (same_rights p q e)
same (Mapped x s p) (Mapped y t q) e = let each = parts x y s t p q e in
    ap (λ n. Mapped n s p) each.0 ∙ ap (λ u. Mapped y u p) each.1 ∙ ap (λ r. Mapped y t r) each.2
same (Allowed x) (Allowed y) e = ap (λ n. Allowed n) (eqb-true x y e)
same (Fault x) (Fault y) e = ap (λ n. Fault n) (eqb-true x y e)
same a b e = absurd (false≢true e)

itself : (a : Answer) → answers.ghosts.eq a a ≡ true
itself (Overlap x) = eq-eqb x x refl
itself (Full x) = eq-eqb x x refl
itself (Removed x s p) = all_parts x s p
itself (Inside x) = eq-eqb x x refl
itself (Changed p) = rights_itself p
itself (Mapped x s p) = all_parts x s p
itself (Allowed x) = eq-eqb x x refl
itself (Fault x) = eq-eqb x x refl
itself _ = refl

pub same_answers : (a b : Answer) (told : Bool) → told ≡ answers.ghosts.eq a b → (told ≡ true) ↔ (a ≡ b)
same_answers a b told e = (λ t. same a b (sym e ∙ t), λ s. e ∙ subst (λ c. answers.ghosts.eq a c ≡ true) s (itself a))
