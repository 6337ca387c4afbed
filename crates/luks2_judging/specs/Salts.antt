-- What new metadata is made by, of one value.
use Rattle.std.specs.Prelude.{◌≡◌, ℕ}
use Rattle.serde_json.specs.Data.{Data as Value}
use Rattle.luks_making.specs.Naming.{IsDigestOf}

-- a keyslot is named by one digest at most
pub record HasOneDigest (j : Value) : Type 0 where
  pub one : (n m k : ℕ) → IsDigestOf j n m → IsDigestOf j n k → m ≡ k
