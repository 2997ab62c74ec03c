-- The fields that spell a request.
use Rattle.std.specs.Prelude.{◌≡◌}
use Rattle.vs_types.specs.Codes.{kind_code, size_code, rights_code, mode_code, access_code}
use Rattle.vs_types.specs.Query.{IsQuery}
use Rattle.vs_types.specs.declared.addresses.depth.Depth.{Depth}
use Rattle.vs_types.specs.declared.requests.op.Action.TheVariants.{Map, Unmap, Protect}
use Rattle.vs_types.specs.declared.requests.request.Query.{Query}
use Rattle.vs_types.specs.declared.requests.request.Query.TheVariants.{Update, Resolve, Access}
use Rattle.vs_types.specs.declared.requests.fields.RequestFields.{RequestFields}

-- the fields of a request: the code of its kind, and what the kind uses; the other fields are 0
abbrev pub request_fields : Query → RequestFields
request_fields (Update (Map page)) =
    record { kind = kind_code (Update (Map page)); size = size_code page.size; rights = rights_code page.rights; address = page.base; physical = page.phys }
request_fields (Update (Unmap base)) = record { kind = kind_code (Update (Unmap base)); size = 0; rights = 0; address = base; physical = 0 }
request_fields (Update (Protect base rights)) =
    record { kind = kind_code (Update (Protect base rights)); size = 0; rights = rights_code rights; address = base; physical = 0 }
request_fields (Resolve address) = record { kind = kind_code (Resolve address); size = 0; rights = 0; address = address; physical = 0 }
request_fields (Access address mode access) =
    record { kind = kind_code (Access address mode access); size = access_code access; rights = mode_code mode; address = address; physical = 0 }

-- a request that is well formed at this depth and has the fields
pub record HasFields (depth : Depth) (fields : RequestFields) (query : Query) : Type 0 where
  pub well_formed : IsQuery depth query
  pub fields_are : fields ≡ request_fields query
