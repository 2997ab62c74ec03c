-- A code represents one size, and one set of rights.
use Rattle.std.proofs.Common.{◌≡◌, ap, sym, ◌∙◌}
use Rattle.vs_types.specs.Codes.{size_code, rights_code}
use Rattle.vs_types.specs.inside.Telling.{rights_in, size_in}
use Rattle.vs_types.specs.declared.addresses.page.Page.{Page}
use Rattle.vs_types.proofs.OneEntry.{rights_back, size_back}
use Rattle.vs_types.proofs.Pages.{same_page}

-- a page is the one of its numbers
pub page_is : (page other : Page) → page.base ≡ other.base → size_code page.size ≡ size_code other.size → page.phys ≡ other.phys
    → rights_code page.rights ≡ rights_code other.rights → page ≡ other
page_is page other base size phys rights = same_page page other base
    (sym (size_back page.size) ∙ ap size_in size ∙ size_back other.size) phys
    (sym (rights_back page.rights) ∙ ap rights_in rights ∙ rights_back other.rights)
