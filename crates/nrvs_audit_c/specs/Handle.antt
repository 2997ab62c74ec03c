-- What C keeps of a chain.
use Rattle.std.specs.Prelude.{◌≡◌, true, is_some}
use Rattle.nrvs_audit_c.specs.declared.handle.Handle.{Handle}
use Rattle.nrvs_audit_c.specs.declared.handle.TheConstants.{MADE}

-- a handle that was made keeps a chain
abbrev pub IsSound : Handle → Type 0
IsSound handle = handle.magic ≡ MADE → is_some handle.held.value ≡ true
