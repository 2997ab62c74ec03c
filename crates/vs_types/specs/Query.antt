-- Requests: which are well formed, and the first thing that is wrong with one.
use Rattle.std.specs.Prelude.{◌≡◌, ℕ, ◌≤◌, not, List, length, All, sum_by, Option, Some, None, if◌then◌else◌}
use Rattle.vs_types.specs.Config.{Layout}
use Rattle.vs_types.specs.Depth.{is_canonical, IsCanonical}
use Rattle.vs_types.specs.Operation.{IsAction, action_fault}
use Rattle.vs_types.specs.declared.limits.TheConstants.{LOG_PLACES}
use Rattle.vs_types.specs.declared.addresses.depth.Depth.{Depth}
use Rattle.vs_types.specs.declared.requests.request.Query.{Query}
use Rattle.vs_types.specs.declared.requests.request.Query.TheVariants.{Update, Resolve, Access}
use Rattle.vs_types.specs.declared.requests.op.BadOp.{BadOp}
use Rattle.vs_types.specs.declared.requests.op.BadOp.TheVariants.{NotCanonical}

-- a request that is well formed at this depth
abbrev pub IsQuery : Depth → Query → Type 0
IsQuery depth (Update action) = IsAction depth action
IsQuery depth (Resolve address) = IsCanonical depth address
IsQuery depth (Access address mode access) = IsCanonical depth address

-- a request that is well formed at some depth
abbrev pub IsSomeQuery : Query → Type 0
IsSomeQuery query = (depth : Depth) × IsQuery depth query

-- the first thing that is wrong with an address that is read
abbrev address_fault : Depth → ℕ → Option BadOp
address_fault depth address = if not (is_canonical depth address) then Some NotCanonical else None

-- the first thing that is wrong with a query
abbrev pub query_fault : Depth → Query → Option BadOp
query_fault depth (Update action) = action_fault depth action
query_fault depth (Resolve address) = address_fault depth address
query_fault depth (Access address mode access) = address_fault depth address

-- a script for each thread, with as many requests in all as a log has places, at most, each well formed at the depth
pub record AreScripts (layout : Layout) (scripts : List (List Query)) : Type 0 where
  pub one_each : length scripts ≡ layout.threads
  pub few : sum_by (λ script. length script) scripts ≤ LOG_PLACES
  pub well_formed : All (All (IsQuery layout.depth)) scripts
