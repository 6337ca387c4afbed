-- Trying the keyslots of a header that was read, one by one in two turns.
use Rattle.std.specs.Prelude.{◌≡◌, ◌⊎◌, ℕ, ◌+◌, ◌<◌, ◌≤◌, List, length, Bool, true, false, Option, Some, None, Result, Ok, Err}
use Rattle.luks_meta.specs.Content.{content}
use Rattle.luks_slot.specs.declared.allowed.Allowed.{Allowed}
use Rattle.luks_reading.specs.declared.header.Header.{Header}
use Rattle.luks_reading.specs.declared.header.Header.TheVariants.{Luks1, Luks2}
use Rattle.luks_reading.specs.declared.open_fault.OpenFault.{OpenFault}
use Rattle.luks_reading.specs.Header.{IsHeader}
use Rattle.luks_reading.specs.Unlocking.{is_normal, is_preferred, priority_of}
use Rattle.luks_commands.specs.declared.open.searching.Turn.{Turn}
use Rattle.luks_commands.specs.declared.open.searching.Turn.TheVariants.{First, Later}
use Rattle.luks_commands.specs.Searched.{IsPassedOver, OpensTo, StaysShut}

-- a keyslot of LUKS1 that isn't in use is refused when it is tried
abbrev pub is_in_turn : Turn → Header → ℕ → Bool
is_in_turn First (Luks1 bytes) n = false
is_in_turn Later (Luks1 bytes) n = true
is_in_turn First (Luks2 copy) n = is_preferred (priority_of (content copy.meta) n)
is_in_turn Later (Luks2 copy) n = is_normal (priority_of (content copy.meta) n)

-- what opening a keyslot gave is a key
abbrev pub is_opened : Result (Option (List ℕ)) OpenFault → Bool
is_opened (Ok (Some key)) = true
is_opened (Ok None) = false
is_opened (Err f) = false

-- the keyslot `n` has been tried, by the header that was read: it opens, or it is passed over, or a call failed
abbrev pub TriesOne : Type 0 → List ℕ → Header → Allowed → List ℕ → ℕ → ℕ → ℕ → Bool → Type 0
TriesOne tells v header allowed p n before after true = (after ≡ before) × (tells → IsHeader v header → (key : List ℕ) × OpensTo allowed v p n key)
TriesOne tells v header allowed p n before after false =
    ((after ≡ before) × (tells → IsHeader v header → StaysShut allowed v p n)) ⊎ (after ≡ before + 1)

-- of the numbers below 32 that a test picks the first that opens is `n`
pub record IsFirstPicked (shut : ℕ → Type 0) (opens_to : ℕ → List ℕ → Type 0) (test : ℕ → Bool) (n : ℕ) : Type 0 where
  pub low : n < 32
  pub is_picked : test n ≡ true
  pub key : List ℕ
  pub opens : opens_to n key
  pub all_shut : (m : ℕ) → m < n → test m ≡ true → shut m

-- trying them gives one of them, or none
abbrev pub GivesPicked : (ℕ → Type 0) → (ℕ → List ℕ → Type 0) → (ℕ → Bool) → Option ℕ → Type 0
GivesPicked shut opens_to test None = (m : ℕ) → m < 32 → test m ≡ true → shut m
GivesPicked shut opens_to test (Some n) = IsFirstPicked shut opens_to test n

-- the keyslots of a turn have been tried
pub record TriesTurn (tells : Type 0) (v : List ℕ) (header : Header) (allowed : Allowed) (p : List ℕ) (turn : Turn) (before after : ℕ) (found : Option ℕ) : Type 0 where
  pub lost : List ℕ
  pub count : after ≡ before + length lost
  pub few : length lost ≤ 32
  pub gives : tells → IsHeader v header → GivesPicked (IsPassedOver allowed v p lost) (OpensTo allowed v p) (is_in_turn turn header) found
