-- Facts on texts that are given.
use Rattle.std.proofs.Common.{ℕ, List, Option, Some, None, refl}
use Rattle.arrayvec.specs.ArrayString.{ArrayString}
use Rattle.luks_c_headers.specs.RebuildAnswers.{IsMaybeField, IsNoText}

-- bytes that are no text are none in a field either
pub no_field : (room : ℕ) (bytes : List ℕ) → IsNoText bytes → (text : Option ArrayString) → IsMaybeField room bytes text → ⊥
no_field room bytes none None is = none None is
no_field room bytes none (Some text) is = none (Some bytes) (is.0, is.1, refl)
