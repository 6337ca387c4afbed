-- A volume of which ranges are given, as a device that is only read.
use Rattle.std.specs.Prelude.{◌≡◌, ℕ, List, Some, None}
use Rattle.luks_given.specs.declared.given.Given.{Ghosts as OfGiven}
use Rattle.luks_given.specs.declared.given_parts.GivenParts.{GivenParts}
use Rattle.luks_given.specs.declared.parts.Part.{Part}

-- its bytes: those of the volume of which the ranges are given, whatever is beside them
abbrev pub given_bytes : {K : Type 0} {given : OfGiven K} → GivenParts K given → List ℕ
given_bytes {given = given} device = given.bytes

-- how many these are
abbrev pub given_size : {K : Type 0} {given : OfGiven K} → GivenParts K given → ℕ
given_size device = device.total

-- how many of its calls have failed
abbrev pub given_failures : {K : Type 0} {given : OfGiven K} → GivenParts K given → ℕ
given_failures device = device.failures

-- what the last failing read wanted
abbrev pub wanted_by : {K : Type 0} {given : OfGiven K} → GivenParts K given → Part
wanted_by device = device.missing

-- no call tried to write a byte
abbrev pub IsUnwritten : {K : Type 0} {given : OfGiven K} → GivenParts K given → Type 0
IsUnwritten device = device.refused ≡ None

-- the first call that tried to write a byte began at the place `p`
abbrev pub IsRefusedAt : {K : Type 0} {given : OfGiven K} → GivenParts K given → ℕ → Type 0
IsRefusedAt device p = device.refused ≡ Some p
