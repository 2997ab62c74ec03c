-- Words say one thing at most.
use Rattle.std.proofs.Common.{◌≡◌, ℕ, ◌==◌, Bool, true, false, if◌then◌else◌, List, [], ◌∷◌, get_or, refl, sym, ap, ◌∙◌}
use Rattle.std.specs.Str.Parse.{digits_value}
use Rattle.vs_types.specs.declared.addresses.access.Access.{Access}
use Rattle.vs_types.specs.declared.addresses.access.Access.TheVariants.{Read, Write, Fetch}
use Rattle.vs_types.specs.declared.addresses.access.Mode.{Mode}
use Rattle.vs_types.specs.declared.addresses.access.Mode.TheVariants.{Supervisor, User}
use Rattle.vs_types.specs.declared.addresses.page.Page.{Page}
use Rattle.vs_types.specs.declared.addresses.page.Rights.{Rights}
use Rattle.vs_types.specs.declared.addresses.page.Size.{Size}
use Rattle.vs_types.specs.declared.addresses.page.Size.TheVariants.{K4, M2, G1}
use Rattle.vs_types.proofs.Pages.{same_page}
use Rattle.vs_text.specs.Words.{access_text, mode_text, rights_text, size_text, SpellsAddress}
use Rattle.vs_text.specs.Requests.{SpellsAccess, SpellsOne, SpellsPage, SpellsRights}

pub one_address : (v w : List ℕ) (a b : ℕ) → v ≡ w → SpellsAddress v a → SpellsAddress w b → a ≡ b
one_address v w a b same first second =
    let joined : 48 ∷ 120 ∷ first.digits ≡ 48 ∷ 120 ∷ second.digits = sym first.spelled ∙ same ∙ second.spelled in
    let digits : first.digits ≡ second.digits = cc in
    first.value ∙ ap (λ (ds : List ℕ). digits_value 16 ds) digits ∙ sym second.value

-- the byte of a text at an index
at : List ℕ → ℕ → ℕ
at text k = get_or text k 0

-- each is read back from its text
size_in : List ℕ → Size
size_in text = if at text 0 == 52 then K4 else if at text 0 == 50 then M2 else G1

size_back : (size : Size) → size_in (size_text size) ≡ size
unfolding size_in at
size_back K4 = refl
size_back _ = refl

pub one_size : (a b : Size) → size_text a ≡ size_text b → a ≡ b
one_size a b same = sym (size_back a) ∙ ap size_in same ∙ size_back b

mode_in : List ℕ → Mode
mode_in text = if at text 0 == 115 then Supervisor else User

mode_back : (mode : Mode) → mode_in (mode_text mode) ≡ mode
unfolding mode_in at
mode_back Supervisor = refl
mode_back User = refl

one_mode : (a b : Mode) → mode_text a ≡ mode_text b → a ≡ b
one_mode a b same = sym (mode_back a) ∙ ap mode_in same ∙ mode_back b

access_in : List ℕ → Access
access_in text = if at text 0 == 114 then Read else if at text 0 == 119 then Write else Fetch

access_back : (access : Access) → access_in (access_text access) ≡ access
unfolding access_in at
access_back Read = refl
access_back _ = refl

one_access : (a b : Access) → access_text a ≡ access_text b → a ≡ b
one_access a b same = sym (access_back a) ∙ ap access_in same ∙ access_back b

rights_of : Bool → Bool → Bool → Rights
rights_of write user exec = record { write = write; user = user; exec = exec }

rights_in : List ℕ → Rights
rights_in text = rights_of (at text 0 == 119) (at text 1 == 117) (at text 2 == 120)

marks_back : (write user exec : Bool) → rights_in (rights_text (rights_of write user exec)) ≡ rights_of write user exec
unfolding rights_in rights_of at
marks_back true true true = refl
marks_back true true false = refl
marks_back true false true = refl
marks_back true false false = refl
marks_back false true true = refl
marks_back false true false = refl
marks_back false false true = refl
marks_back false false false = refl

rights_back : (rights : Rights) → rights_in (rights_text rights) ≡ rights
unfolding rights_of
rights_back rights = marks_back rights.write rights.user rights.exec

pub one_rights : (a b : Rights) → rights_text a ≡ rights_text b → a ≡ b
one_rights a b same = sym (rights_back a) ∙ ap rights_in same ∙ rights_back b

pub one_alone : (words : List (List ℕ)) (a b : ℕ) → SpellsOne words a → SpellsOne words b → a ≡ b
one_alone words a b first second =
    let same : first.word ∷ [] ≡ second.word ∷ [] = sym first.words_are ∙ second.words_are in
    one_address first.word second.word a b (cc) first.address_is second.address_is

pub one_page : (words : List (List ℕ)) (a b : Page) → SpellsPage words a → SpellsPage words b → a ≡ b
one_page words a b first second =
    let same = sym first.words_are ∙ second.words_are in
    let size = one_size a.size b.size (cc) in
    let base = one_address first.base second.base a.base b.base (cc) first.base_is second.base_is in
    let phys = one_address first.phys second.phys a.phys b.phys (cc) first.phys_is second.phys_is in
    let rights = one_rights a.rights b.rights (cc) in
    same_page a b base size phys rights

pub one_protected : (words : List (List ℕ)) (a b : ℕ) (p q : Rights) → SpellsRights words a p → SpellsRights words b q → (a ≡ b) × (p ≡ q)
one_protected words a b p q first second =
    let same = sym first.words_are ∙ second.words_are in
    (one_address first.word second.word a b (cc) first.base_is second.base_is, one_rights p q (cc))

pub one_accessed : (words : List (List ℕ)) (a b : ℕ) (m n : Mode) (f g : Access) → SpellsAccess words a m f → SpellsAccess words b n g
    → (a ≡ b) × (m ≡ n) × (f ≡ g)
one_accessed words a b m n f g first second =
    let same = sym first.words_are ∙ second.words_are in
    (one_address first.word second.word a b (cc) first.address_is second.address_is, one_mode m n (cc), one_access f g (cc))
