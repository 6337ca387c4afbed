-- Keyslots, digests and segments that are whole in bytes that needn't be JSON.
use Rattle.std.specs.Prelude.{◌≡◌, ℕ, ◌+◌, ◌<◌, ◌≤◌, List, [], ◌∷◌, ◌++◌, length, Option, Some, None}
use Rattle.luks_area.specs.Ranges.{part}
use Rattle.luks_json.specs.Number.{number_text}
use Rattle.luks_fragments.specs.Kinds.{HasKind}
use Rattle.luks_fragments.specs.Objects.{IsObjectAt}
use Rattle.luks_fragments.specs.declared.fragment.Fragment.{Fragment}
use Rattle.luks_fragments.specs.declared.kinds.Kind.{Kind}

-- ---- the number before an object: `"0":`

abbrev pub quoted : ℕ → List ℕ
quoted n = 0x22 ∷ (number_text n ++ 0x22 ∷ 0x3A ∷ [])

-- the name of the object that begins at `start` is the number, which stands right before it
pub record IsNamedAt (area : List ℕ) (start n : ℕ) : Type 0 where
  pub low : n < 32
  pub place : ℕ
  pub ends : place + length (quoted n) ≡ start
  pub is : part area place (length (quoted n)) ≡ quoted n

abbrev pub HasName : List ℕ → ℕ → Option ℕ → Type 0
HasName area start (Some n) = IsNamedAt area start n
HasName area start None = (n : ℕ) → IsNamedAt area start n → ⊥

-- ---- fragments

pub record IsFragmentAt (area : List ℕ) (start len : ℕ) (kind : Kind) : Type 0 where
  pub object : IsObjectAt area start len
  pub is : HasKind (part area start len) kind

-- one begins there
pub record HasFragmentAt (area : List ℕ) (start : ℕ) : Type 0 where
  pub len : ℕ
  pub kind : Kind
  pub fragment : IsFragmentAt area start len kind

pub record IsFragment (area : List ℕ) (f : Fragment) : Type 0 where
  pub fragment : IsFragmentAt area f.start f.len f.kind
  pub name : HasName area f.start f.number

-- the first one from the place on
pub record IsFirstFragment (area : List ℕ) (from : ℕ) (f : Fragment) : Type 0 where
  pub behind : from ≤ f.start
  pub is : IsFragment area f
  pub first : (p : ℕ) → from ≤ p → p < f.start → HasFragmentAt area p → ⊥

-- there is none from the place on
abbrev pub HasNoneFrom : List ℕ → ℕ → Type 0
HasNoneFrom area from = (p : ℕ) → from ≤ p → HasFragmentAt area p → ⊥
