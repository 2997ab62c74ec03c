-- The words of a text, and what a word says: an address, a page's size and rights, who makes an access, and what the access does.
use Rattle.std.specs.Prelude.{◌≡◌, ◌≤◌, ◌==◌, ◌++◌, ℕ, Bool, false, List, codes, length, map, if◌then◌else◌}
use Rattle.std.specs.Borrow.{Bor}
use Rattle.std.specs.Fmt.{digits}
use Rattle.std.specs.List.{slice_split}
use Rattle.std.specs.Str.Parse.{IsNumeral, digits_value}
use Rattle.vs_types.specs.declared.addresses.access.Access.{Access}
use Rattle.vs_types.specs.declared.addresses.access.Access.TheVariants.{Read, Write, Fetch}
use Rattle.vs_types.specs.declared.addresses.access.Mode.{Mode}
use Rattle.vs_types.specs.declared.addresses.access.Mode.TheVariants.{Supervisor, User}
use Rattle.vs_types.specs.declared.addresses.page.Rights.{Rights}
use Rattle.vs_types.specs.declared.addresses.page.Size.{Size}
use Rattle.vs_types.specs.declared.addresses.page.Size.TheVariants.{K4, M2, G1}

-- a text is cut at each separator
abbrev pub parts : ℕ → List ℕ → List (List ℕ)
parts separator text = slice_split (λ byte. byte == separator) text

-- the words of a text, which spaces separate
abbrev pub words : List ℕ → List (List ℕ)
words text = parts 32 text

-- the sign between two words: one space
abbrev pub space : List ℕ
space = codes " "

-- the texts of borrowed words
abbrev pub texts : List (Bor (List ℕ)) → List (List ℕ)
texts words = map (λ word. word.now) words

-- 0x and 1 to 16 hexadecimal digits of either case spell their value
pub record SpellsAddress (word : List ℕ) (address : ℕ) : Type 0 where
  pub digits : List ℕ
  pub spelled : word ≡ codes "0x" ++ digits
  pub numeral : IsNumeral 16 digits
  pub few : length digits ≤ 16
  pub value : address ≡ digits_value 16 digits

-- as an address is written: 0x and lower case digits, the first of which is 0 only where there is no other
abbrev pub hexadecimal : ℕ → List ℕ
hexadecimal address = codes "0x" ++ digits 16 false address

-- as a size is written: 4K, 2M or 1G
abbrev pub size_text : Size → List ℕ
size_text K4 = codes "4K"
size_text M2 = codes "2M"
size_text G1 = codes "1G"

-- the letter of a right, or a dash where it is not given
abbrev pub mark : Bool → List ℕ → List ℕ
mark given letter = if given then letter else codes "-"

-- three signs for rights: write, user, exec
abbrev pub rights_text : Rights → List ℕ
rights_text rights = mark rights.write (codes "w") ++ (mark rights.user (codes "u") ++ mark rights.exec (codes "x"))

-- a page's physical address, its size and its rights
abbrev pub page_text : ℕ → Size → Rights → List ℕ
page_text phys size rights = hexadecimal phys ++ (space ++ (size_text size ++ (space ++ rights_text rights)))

-- as a mode is written: s or u
abbrev pub mode_text : Mode → List ℕ
mode_text Supervisor = codes "s"
mode_text User = codes "u"

-- as what an access does is written: r, w or x
abbrev pub access_text : Access → List ℕ
access_text Read = codes "r"
access_text Write = codes "w"
access_text Fetch = codes "x"
