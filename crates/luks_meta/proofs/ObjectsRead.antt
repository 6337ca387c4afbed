-- Objects of an accepted value are read.
use Rattle.std.proofs.Common.{◌≡◌, ℕ, ◌<◌, true, false, Option, Some, None, is_some, IfSome}
use Rattle.std.proofs.lemmas.Bool.{both_ways}
use Rattle.serde_json.specs.Data.{Data}
use Rattle.luks_rules.specs.declared.table.Section.{Section}
use Rattle.luks_rules.specs.Faults.{object_at, is_numbered}
use Rattle.luks_rules.specs.Accepted.{HasObject}
use Rattle.luks_meta.specs.Objects.{IsObject, IsMissing}

pub told : {K : Type 0} (tells : Data → K → Type 0) (j : Data) (s : Section) (n : ℕ) (d : Data) (r : Option K) → object_at j s n ≡ Some d
    → IfSome r (tells d) → IfSome r (IsObject tells j s n)
told tells j s n d None is b = tt
told tells j s n d (Some k) is b = record { object = d; is = is; tells_members = b }

pub not_missing : {K : Type 0} (r : Option K) (j : Data) (s : Section) (n : ℕ) → is_some r ≡ true → is_some r ≡ false → IsMissing j s n
not_missing r j s n there none = absurd (both_ways (is_some r) none there)

pub held : (j : Data) (s : Section) (n : ℕ) (d : Data) → is_numbered s ≡ true → (n < 32) × (object_at j s n ≡ Some d) → HasObject j s n d
held j s n d numbered h = record { numbered = numbered; named = h.0; is = h.1 }
