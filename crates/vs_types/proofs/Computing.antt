-- Operations on the sorted entries of a space in place of the space, so that the worked examples compute.
use Rattle.std.proofs.Common.{◌≡◌, ℕ, ◌+◌, ◌-◌, Bool, true, false, not, cond, eqb, List, [], ◌∷◌, map, length, Option, Some, None, refl, ap, sym, ◌∙◌, arith}
use Rattle.std.specs.Prelude.{nat_le, filter, find, if◌then◌else◌}
use Rattle.std.specs.FinMap as finite
use Rattle.std.specs.FinMap.Entries as kept
use Rattle.std.specs.Ordering.{nat_cmp, eq_by_cmp, is_eq}
use Rattle.std.specs.Cmp.{nat_cmp_total, eq_by_cmp_equiv, alike_right}
use Rattle.vs_types.specs.Depth.{levels}
use Rattle.vs_types.specs.Examples.{answers_from, answers, tables_after, look_after, allow_after}
use Rattle.vs_types.specs.Page.{covers, overlaps}
use Rattle.vs_types.specs.Space.{Space, no_pages, least, least_overlapped, page_at, tables_of_levels, table_count}
use Rattle.vs_types.specs.Step.{Stepped, step, after_all, look_in_page, allow_in_page}
use Rattle.vs_types.specs.declared.addresses.access.Mode.{Mode}
use Rattle.vs_types.specs.declared.addresses.access.Access.{Access}
use Rattle.vs_types.specs.declared.addresses.depth.Depth.{Depth}
use Rattle.vs_types.specs.declared.addresses.depth.Depth.TheVariants.{Four, Five}
use Rattle.vs_types.specs.declared.addresses.page.Page.{Page}
use Rattle.vs_types.specs.declared.addresses.page.Rights.{Rights}
use Rattle.vs_types.specs.declared.requests.op.Action.{Action}
use Rattle.vs_types.specs.declared.requests.op.Action.TheVariants.{Map, Unmap, Protect}
use Rattle.vs_types.specs.declared.requests.answer.Answer.{Answer}
use Rattle.vs_types.specs.declared.requests.answer.Answer.TheVariants.{Done, Overlap, Full, Removed, NotMapped, Inside, Changed}

-- what holds at each depth holds at any
pub at_both : (P : Depth → Type 0) → P Four → P Five → (depth : Depth) → P depth
at_both P four five Four = four
at_both P four five Five = five

no_length : {A : Type 0} (xs : List A) → length xs ≡ 0 → xs ≡ []
no_length [] e = refl
no_length (x ∷ xs) e = absurd (omega arith)

abbrev pub Entries : Type 0
Entries = List (ℕ × Page)

pub entries_empty : finite.entries no_pages ≡ []
entries_empty = no_length _ (sym (finite.len-entries _) ∙ finite.len-empty nat_cmp Page)

pub entries_insert : (space : Space) (k : ℕ) (v : Page) → finite.entries (finite.insert space k v) ≡ kept.put nat_cmp k v (finite.entries space)
entries_insert space k v = finite.entries-insert nat_cmp_total space k v

turned : {A : Type 0} (b : Bool) (x y : A) → cond (not b) x y ≡ cond b y x
turned true x y = refl
turned false x y = refl

abbrev without : ℕ → Entries → Entries
without k es = kept.where_key nat_cmp (λ x. not (eq_by_cmp nat_cmp k x)) es

pub entries_remove : (space : Space) (k : ℕ) → finite.entries (finite.remove space k) ≡ without k (finite.entries space)
entries_remove space k =
    let test = λ (x : ℕ). not (eq_by_cmp nat_cmp k x) in
    let es = finite.entries space in
    let rest : Space = finite.from_sorted (without k es) in
    let sorted = kept.is_sorted-where_key nat_cmp test es (finite.entries_sorted space) in
    let same : finite.remove space k ≡ rest = finite.same_map nat_cmp_total finite.nat_cmp-IsAntisymmetric (finite.remove space k) rest
    (λ q. finite.get-remove nat_cmp_total space k q
    ∙ ap (λ b. cond b None (finite.get space q)) ((eq_by_cmp_equiv nat_cmp_total).symm q k)
    ∙ sym (turned (eq_by_cmp nat_cmp k q) _ _)
    ∙ ap (λ found. cond (test q) found None) (finite.get-entries space q)
    ∙ sym (kept.find-where_key nat_cmp test q (λ x t. ap (λ r. not (is_eq r)) (sym (alike_right nat_cmp_total q x k t))) es)
    ∙ sym (finite.get-from_sorted nat_cmp (without k es) q sorted)) in
    ap finite.entries same ∙ finite.entries-from_sorted nat_cmp (without k es) sorted

-- the entries after a step, and its answer
pub record Ran : Type 0 where
  pub entries : Entries
  pub answer : Answer

abbrev pub count : Depth → Entries → ℕ
count depth es = 1 + tables_of_levels (levels depth - 1) (map (λ e. e.1) es)

abbrev pub at : Entries → ℕ → Option Page
at es address = find (λ page. covers page address) (map (λ e. e.1) es)

abbrev map_step : Depth → ℕ → Entries → Page → Option ℕ → Ran
map_step depth limit es page (Some base) = record { entries = es; answer = Overlap base }
map_step depth limit es page None =
    let grown = kept.put nat_cmp page.base page es in
    if nat_le (count depth grown) limit then record { entries = grown; answer = Done } else record { entries = es; answer = Full (count depth grown) }

abbrev unmap_step : Entries → ℕ → Option Page → Ran
unmap_step es base None = record { entries = es; answer = NotMapped }
unmap_step es base (Some page) =
    if eqb page.base base then record { entries = without base es; answer = Removed page.phys page.size page.rights }
    else record { entries = es; answer = Inside page.base }

abbrev protect_step : Entries → ℕ → Rights → Option Page → Ran
protect_step es base rights None = record { entries = es; answer = NotMapped }
protect_step es base rights (Some page) =
    if eqb page.base base then record { entries = kept.put nat_cmp page.base (record page { rights = rights }) es; answer = Changed page.rights }
    else record { entries = es; answer = Inside page.base }

abbrev pub run_one : Depth → ℕ → Entries → Action → Ran
run_one depth limit es (Map page) = map_step depth limit es page (least (map (λ p. p.base) (filter (overlaps page) (map (λ e. e.1) es))))
run_one depth limit es (Unmap base) = unmap_step es base (at es base)
run_one depth limit es (Protect base rights) = protect_step es base rights (at es base)

record Agrees (stepped : Stepped) (ran : Ran) : Type 0 where
  entries : finite.entries stepped.space ≡ ran.entries
  answer : stepped.answer ≡ ran.answer

map_agrees : (depth : Depth) (limit : ℕ) (space : Space) (page : Page) (o : Option ℕ) (b : Bool) → least_overlapped space page ≡ o
    → nat_le (table_count depth (finite.insert space page.base page)) limit ≡ b
    → Agrees (step depth limit space (Map page)) (run_one depth limit (finite.entries space) (Map page))
map_agrees depth limit space page (Some base) b e f = rw e (record { entries = refl; answer = refl })
map_agrees depth limit space page None true e f =
    let g = rw entries_insert at f in
    rw (e, f, g) (record { entries = entries_insert space page.base page; answer = refl })
map_agrees depth limit space page None false e f =
    let g = rw entries_insert at f in
    rw (e, f, g) (record { entries = refl; answer = ap (λ es. Full (count depth es)) (entries_insert space page.base page) })

unmap_agrees : (depth : Depth) (limit : ℕ) (space : Space) (base : ℕ) (o : Option Page) → page_at space base ≡ o
    → Agrees (step depth limit space (Unmap base)) (run_one depth limit (finite.entries space) (Unmap base))
unmap_agrees depth limit space base None e = rw e (record { entries = refl; answer = refl })
unmap_agrees depth limit space base (Some page) e = rw e (removed (eqb page.base base)) where
  removed : (b : Bool) → Agrees
      (if b then record { space = finite.remove space base; answer = Removed page.phys page.size page.rights }
      else record { space = space; answer = Inside page.base })
      (if b then record { entries = without base (finite.entries space); answer = Removed page.phys page.size page.rights }
      else record { entries = finite.entries space; answer = Inside page.base })
  removed true = record { entries = entries_remove space base; answer = refl }
  removed false = record { entries = refl; answer = refl }

protect_agrees : (depth : Depth) (limit : ℕ) (space : Space) (base : ℕ) (rights : Rights) (o : Option Page) → page_at space base ≡ o
    → Agrees (step depth limit space (Protect base rights)) (run_one depth limit (finite.entries space) (Protect base rights))
protect_agrees depth limit space base rights None e = rw e (record { entries = refl; answer = refl })
protect_agrees depth limit space base rights (Some page) e = rw e (changed (eqb page.base base)) where
  changed : (b : Bool) → Agrees
      (if b then record { space = finite.insert space page.base (record page { rights = rights }); answer = Changed page.rights }
      else record { space = space; answer = Inside page.base })
      (if b then record { entries = kept.put nat_cmp page.base (record page { rights = rights }) (finite.entries space); answer = Changed page.rights }
      else record { entries = finite.entries space; answer = Inside page.base })
  changed true = record { entries = entries_insert space page.base (record page { rights = rights }); answer = refl }
  changed false = record { entries = refl; answer = refl }

agrees : (depth : Depth) (limit : ℕ) (space : Space) (action : Action)
    → Agrees (step depth limit space action) (run_one depth limit (finite.entries space) action)
agrees depth limit space (Map page) = map_agrees depth limit space page _ _ refl refl
agrees depth limit space (Unmap base) = unmap_agrees depth limit space base _ refl
agrees depth limit space (Protect base rights) = protect_agrees depth limit space base rights _ refl

abbrev pub run_answers : Depth → ℕ → Entries → List Action → List Answer
run_answers depth limit es [] = []
run_answers depth limit es (action ∷ actions) =
    let next = run_one depth limit es action in
    next.answer ∷ run_answers depth limit next.entries actions

abbrev pub run_entries : Depth → ℕ → Entries → List Action → Entries
run_entries depth limit es [] = es
run_entries depth limit es (action ∷ actions) = run_entries depth limit (run_one depth limit es action).entries actions

answers_run : (depth : Depth) (limit : ℕ) (space : Space) (es : Entries) (actions : List Action) → finite.entries space ≡ es
    → answers_from depth limit space actions ≡ run_answers depth limit es actions
answers_run depth limit space es [] e = refl
answers_run depth limit space es (action ∷ actions) e =
    let h = rw e at (agrees depth limit space action) in
    λ i. h.answer i ∷ answers_run depth limit (step depth limit space action).space _ actions h.entries i

entries_run : (depth : Depth) (limit : ℕ) (space : Space) (es : Entries) (actions : List Action) → finite.entries space ≡ es
    → finite.entries (after_all depth limit space actions) ≡ run_entries depth limit es actions
entries_run depth limit space es [] e = e
entries_run depth limit space es (action ∷ actions) e =
    let h = rw e at (agrees depth limit space action) in
    entries_run depth limit (step depth limit space action).space _ actions h.entries

-- the answers of operations from the empty space on
pub answers_compute : (depth : Depth) (limit : ℕ) (actions : List Action) → answers depth limit actions ≡ run_answers depth limit [] actions
answers_compute depth limit actions = answers_run depth limit no_pages [] actions entries_empty

-- the table count after them
pub tables_compute : (depth : Depth) (limit : ℕ) (actions : List Action) → tables_after depth limit actions ≡ count depth (run_entries depth limit [] actions)
tables_compute depth limit actions = ap (count depth) (entries_run depth limit no_pages [] actions entries_empty)

-- the page that covers an address after them
page_computes : (depth : Depth) (limit : ℕ) (actions : List Action) (address : ℕ)
    → page_at (after_all depth limit no_pages actions) address ≡ at (run_entries depth limit [] actions) address
page_computes depth limit actions address = ap (λ es. at es address) (entries_run depth limit no_pages [] actions entries_empty)

-- how an address looks after them
pub look_computes : (depth : Depth) (limit : ℕ) (actions : List Action) (address : ℕ)
    → look_after depth limit actions address ≡ look_in_page address (at (run_entries depth limit [] actions) address)
look_computes depth limit actions address = ap (look_in_page address) (page_computes depth limit actions address)

-- what an access is answered after them
pub allow_computes : (depth : Depth) (limit : ℕ) (actions : List Action) (address : ℕ) (mode : Mode) (access : Access)
    → allow_after depth limit actions address mode access ≡ allow_in_page address mode access (at (run_entries depth limit [] actions) address)
allow_computes depth limit actions address mode access = ap (allow_in_page address mode access) (page_computes depth limit actions address)
