-- A query as one case each of operations and reads. No public clause cites this file.
use Rattle.std.specs.Prelude.{◌≡◌}
use Rattle.std.proofs.Common.{refl, ap}
use Rattle.vs_types.specs.declared.requests.op.Action.TheVariants.{Map, Unmap, Protect}
use Rattle.vs_types.specs.declared.requests.request.Query.{Query}
use Rattle.vs_types.specs.declared.requests.request.Query.TheVariants.{Update, Resolve, Access}
use Rattle.vs_types.specs.declared.requests.request.Asked.{Asked}
use Rattle.vs_types.specs.declared.requests.request.Asked.TheVariants as asked
use Rattle.vs_types.specs.declared.requests.request.Request.TheInside.{Inside}

abbrev pub query_of : Asked → Query
query_of (asked.Map page) = Update (Map page)
query_of (asked.Unmap base) = Update (Unmap base)
query_of (asked.Protect base rights) = Update (Protect base rights)
query_of (asked.Resolve address) = Resolve address
query_of (asked.Access address mode access) = Access address mode access

abbrev pub asked_by : Query → Asked
asked_by (Update (Map page)) = asked.Map page
asked_by (Update (Unmap base)) = asked.Unmap base
asked_by (Update (Protect base rights)) = asked.Protect base rights
asked_by (Resolve address) = asked.Resolve address
asked_by (Access address mode access) = asked.Access address mode access

same : (a : Asked) → asked_by (query_of a) ≡ a
same (asked.Map page) = refl
same (asked.Unmap base) = refl
same (asked.Protect base rights) = refl
same (asked.Resolve address) = refl
same (asked.Access address mode access) = refl

pub same_asked : (r : Inside) → ◌≡◌ {A = Inside} (record { asked = asked_by (query_of r.asked) }) r
same_asked r = ap (λ a. let inside : Inside = record { asked = a } in inside) (same r.asked)
