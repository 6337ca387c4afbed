-- What the plan of a keyslot of LUKS2 tells of its type.
use Rattle.std.proofs.Common.{◌≡◌, ◌∙◌, codes, sym, Some}
use Rattle.serde_json.specs.Data.{Data}
use Rattle.luks_rules.specs.declared.table.Outer.TheVariants as outer
use Rattle.luks_meta.specs.Faults.{type_at}
use Rattle.luks_slot.specs.declared.plan.Argon2Kind.{Argon2Kind}
use Rattle.luks_slot.specs.declared.plan.Argon2Kind.TheVariants.{I, Id}
use Rattle.luks_slot.specs.declared.plan.Argon2Plan.{Argon2Plan}
use Rattle.luks_slot.specs.declared.plan.Derivation.TheVariants.{Argon2}
use Rattle.luks_reading.specs.Plans.{kind_text, IsLuks2Derivation}

other_text : (k : Argon2Kind) → Some (kind_text k) ≡ Some (codes "pbkdf2") → ⊥
other_text I same = cc
other_text Id same = cc

-- a derivation by Argon2 isn't one by PBKDF2
pub no_pbkdf2 : (d : Data) (costs : Argon2Plan) → IsLuks2Derivation d (Argon2 costs) → type_at d outer.Kdf ≡ Some (codes "pbkdf2") → ⊥
no_pbkdf2 d costs is other = other_text costs.kind (sym is.0 ∙ other)
