-- The two files of a command on a header backup: the volume's and the backup's.
use Rattle.std.specs.Prelude.{◌≡◌, ℕ, List}

-- of two devices that are there, of which one is only read, the source, and the other may be written: their
-- bytes, and how many of their calls had failed before the command and after it
pub record Pair : Type 0 where
  pub source : List ℕ
  pub total : ℕ
  pub old : List ℕ
  pub new : List ℕ
  pub source_before : ℕ
  pub source_after : ℕ
  pub before : ℕ
  pub after : ℕ

abbrev pub pair_of : {D : Type 0} → (D → ℕ) → (D → List ℕ) → (D → ℕ) → D → D → D → D → Pair
pair_of size bytes failed source source_new old new = record {
  source = bytes source;
  total = size old;
  old = bytes old;
  new = bytes new;
  source_before = failed source;
  source_after = failed source_new;
  before = failed old;
  after = failed new;
}

-- no call failed
abbrev pub NoneFailed : Pair → Type 0
NoneFailed d = (d.source_after ≡ d.source_before) × (d.after ≡ d.before)
