-- The outline of a header that was read: all that a comparison with another one takes.
use Rattle.std.specs.Prelude.{ℕ, List}
use Rattle.luks_reading.specs.Header.{IsHeader}
use Rattle.luks_reading.specs.declared.header.Header.{Header}
use Rattle.luks_keeping.specs.Laid.{IsLaidOut}
use Rattle.luks_keeping.specs.Places.{AreInside}
use Rattle.luks_keeping.specs.Salts.{HoldsSalts}
use Rattle.luks_keeping.specs.SameKeys.{IsIdentity}
use Rattle.luks_keeping.specs.declared.outline.Outline.{Outline}

-- it is the header's
pub record IsOutline (header : Header) (outline : Outline) : Type 0 where
  pub identity : IsIdentity header outline.identity
  pub salts : HoldsSalts header 32 outline.salts
  pub laid : IsLaidOut header outline.places

-- and that header was read of the volume `v`
pub record Outlines (v : List ℕ) (outline : Outline) : Type 0 where
  pub header : Header
  pub is_header : IsHeader v header
  pub is : IsOutline header outline

-- its header and its key areas lie inside a device of `total` bytes
pub record IsWithin (outline : Outline) (total : ℕ) : Type 0 where
  pub inside : AreInside outline.places total
