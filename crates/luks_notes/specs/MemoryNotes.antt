-- How a keyslot derives by Argon2, and what is said of the memory that it takes.
use Rattle.std.specs.Prelude.{◌≡◌, ◌⊎◌, ◌↔◌, ℕ, ◌+◌, ◌<◌, ◌≤◌, ◌/◌, List, [], ◌∷◌, ◌++◌, codes, Bool, true, false, Option, Some, None, IsNone, IsTrue, length}
use Rattle.std.specs.Fmt.{decimal}
use Rattle.serde_json.specs.Data.{Data}
use Rattle.luks_rules.specs.declared.table.Outer.TheVariants as outer
use Rattle.luks_rules.specs.declared.table.Member.TheVariants as name
use Rattle.luks_rules.specs.declared.table.Section.TheVariants.{Keyslots}
use Rattle.luks_rules.specs.Faults.{object_at, type_at}
use Rattle.luks_meta.specs.Content.{content}
use Rattle.luks_meta.specs.Says.{small_at}
use Rattle.luks_slot.specs.declared.allowed.Allowed.{Allowed}
use Rattle.luks_reading.specs.declared.header.Header.{Header}
use Rattle.luks_reading.specs.declared.header.Header.TheVariants.{Luks1, Luks2}
use Rattle.luks_reading.specs.declared.open_fault.OpenFault.{OpenFault}
use Rattle.luks_reading.specs.Answer.{FirstRefusal, IsRefusalWithin}
use Rattle.luks_reading.specs.Header.{IsHeader}
use Rattle.luks_notes.specs.declared.memory.Derived.{Derived}
use Rattle.luks_notes.specs.declared.memory.MemoryNote.{MemoryNote}

-- ---- how it derives

-- the member `kdf` of a keyslot's object names this kind of Argon2, and so many KiB
abbrev pub SaysArgon2 : Data → List ℕ → ℕ → Type 0
SaysArgon2 keyslot kind kib = (type_at keyslot outer.Kdf ≡ Some kind) × ((kind ≡ codes "argon2i") ⊎ (kind ≡ codes "argon2id"))
    × (small_at keyslot outer.Kdf name.Memory ≡ Some kib)

-- the keyslot `n` of the header does
abbrev pub DerivesBy : Header → ℕ → List ℕ → ℕ → Type 0
DerivesBy (Luks1 bytes) n kind kib = ⊥
DerivesBy (Luks2 copy) n kind kib = (object : Data) × (object_at (content copy.meta) Keyslots n ≡ Some object) × SaysArgon2 object kind kib

-- it isn't there, or derives otherwise
abbrev pub NeverDerives : Header → ℕ → Type 0
NeverDerives header n = (kind : List ℕ) (kib : ℕ) → n < 32 → DerivesBy header n kind kib → ⊥

-- whether a volume of `total` bytes with this header tries the keyslot where so much is allowed
abbrev pub IsTried : Header → ℕ → ℕ → Allowed → Bool → Type 0
IsTried header n total allowed tried = (v : List ℕ) → IsHeader v header → length v ≡ total
    → (refusal : Option OpenFault) × FirstRefusal (IsRefusalWithin allowed v n) refusal × (IsTrue tried ↔ IsNone refusal)

-- what is noted of it
pub record IsMemoryNote (header : Header) (n total : ℕ) (allowed : Allowed) (note : MemoryNote) : Type 0 where
  pub slot : note.slot ≡ n
  pub derives : DerivesBy header n note.kind.now note.kib
  pub tried : IsTried header n total allowed note.is_tried
  -- it takes more than is allowed, and would be tried with as much, were ciphers and hashes of older disks accepted
  pub more : allowed.memory < note.kib → IsTried header n total (record { memory = note.kib; older = true }) note.wants_more
  pub enough : note.kib ≤ allowed.memory → note.wants_more ≡ false

-- ---- the lines

-- so many KiB in MiB, rounded up
abbrev pub mib_of : ℕ → ℕ
mib_of kib = (kib + 1023) / 1024

-- a line can say what a command line would have to allow, which names 4194303 MiB at most
abbrev pub CanBeAllowed : MemoryNote → Type 0
CanBeAllowed note = IsTrue note.wants_more × (mib_of note.kib ≤ 4194303)

abbrev pub derived_text : Derived → List ℕ
derived_text derived = codes "keyslot " ++ decimal derived.slot ++ codes " is derived by " ++ derived.kind.now

abbrev pub allowing_text : ℕ → List ℕ
allowing_text mib = decimal mib ++ codes " MiB of memory: --memory " ++ decimal mib ++ codes " allows it"

abbrev pub refused_line : List ℕ → ℕ → List ℕ
refused_line derived mib = codes "luks: " ++ derived ++ codes ", which takes " ++ allowing_text mib ++ 10 ∷ []

abbrev pub wanting_line : List ℕ → ℕ → List ℕ
wanting_line derived mib = codes "luks: " ++ derived ++ codes ", which asks for " ++ decimal mib ++ codes " MiB of memory" ++ 10 ∷ []

abbrev pub derived_of : MemoryNote → Derived
derived_of note = record { slot = note.slot; kind = note.kind }
