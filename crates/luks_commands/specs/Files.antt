-- The files of a command line.
use Rattle.std.specs.Prelude.{◌≡◌, ◌≢◌, ◌<◌, List, [], ℕ, Option, Some, None, IfSome, Result, Ok, Err, length, take}
use Rattle.std.specs.declared.io.ErrorKind.{ErrorKind}
use Rattle.std.specs.declared.io.ErrorKind.TheVariants.{OutOfMemory}
use Rattle.luks_area.specs.Device.{IsSettled, IsUnchanged}
use Rattle.luks_commands.specs.declared.inputs.InputFault.{InputFault}
use Rattle.luks_commands.specs.declared.inputs.InputFault.TheVariants.{Absent, Unreadable, NoMemory}

-- the fault of a file whose reading met an error of this kind
abbrev pub IsFaultOf : ErrorKind → InputFault → Type 0
IsFaultOf kind Absent = ⊥
IsFaultOf kind (Unreadable reason) = kind ≡ OutOfMemory → ⊥
IsFaultOf kind NoMemory = kind ≡ OutOfMemory

-- ---- what was read

-- where the file is there and tells its bytes, these hold so
abbrev pub OfFile : {R : Type 0} → (R → Option (List ℕ)) → Result R InputFault → (List ℕ → Type 0) → Type 0
OfFile remaining (Ok file) holds = IfSome (remaining file) holds
OfFile remaining (Err fault) holds = ⊥

-- these bytes are the file's
abbrev pub IsWhole : {R : Type 0} → (R → Option (List ℕ)) → Result R InputFault → List ℕ → Type 0
IsWhole remaining file bytes = OfFile remaining file (λ known. bytes ≡ known)

-- the file has more bytes than a passphrase may have
abbrev pub IsLong : {R : Type 0} → (R → Option (List ℕ)) → Result R InputFault → Type 0
IsLong remaining file = OfFile remaining file (λ known. 65536 < length known)

-- these bytes are the first `count` of the file, or all of a shorter one; where none is named, there
-- are none, and of a file that can't be read there are none to be taken
abbrev pub AreFirstBytes : {R : Type 0} → ℕ → (R → Option (List ℕ)) → Result R InputFault → List ℕ → Type 0
AreFirstBytes count remaining (Ok file) bytes = IfSome (remaining file) (λ known. bytes ≡ take count known)
AreFirstBytes count remaining (Err Absent) bytes = bytes ≡ []
AreFirstBytes count remaining (Err fault) bytes = (count ≡ 0) × (bytes ≡ [])

-- the fault of a file that can't be read: what it isn't there for, or any that its reading meets
abbrev pub IsUnread : {R : Type 0} → Result R InputFault → InputFault → Type 0
IsUnread (Ok file) f = f ≢ Absent
IsUnread (Err fault) f = f ≡ fault

-- the same of a file of random bytes that is to give so many: where none is named, none are missed
pub record IsUnreadRandom {R : Type 0} (count : ℕ) (file : Result R InputFault) (f : InputFault) : Type 0 where
  pub some : 0 < count
  pub named : f ≢ Absent
  pub unread : IsUnread file f

-- a file has a name, and this holds of it
abbrev pub OfNamed : {A : Type 0} → Option A → Type 0 → Type 0
OfNamed None holds = ⊥
OfNamed (Some name) holds = holds

-- ---- what becomes of the volume

-- the volume is there as it was, and nothing of it changed
abbrev pub KeepsVolume : {T : Type 0} → Type 0 → (T → ℕ) → (T → List ℕ) → (T → ℕ → Type 0) → Result T InputFault → Result T InputFault → Type 0
KeepsVolume {T} tells size bytes unsettled (Ok old) (Ok new) = IsUnchanged tells size bytes unsettled old new
KeepsVolume {T} tells size bytes unsettled (Ok old) (Err fault) = ⊥
KeepsVolume {T} tells size bytes unsettled (Err fault) new = new ≡ Err fault

-- nothing of a volume that is there is unsettled, unless a device call failed
abbrev pub LeavesSettled : {T : Type 0} → Type 0 → (T → ℕ) → (T → ℕ → Type 0) → Result T InputFault → Result T InputFault → Type 0
LeavesSettled {T} tells failed unsettled (Ok old) (Ok new) = tells → failed new ≡ failed old → IsSettled unsettled new
LeavesSettled {T} tells failed unsettled (Ok old) (Err fault) = ⊥
LeavesSettled {T} tells failed unsettled (Err fault) new = new ≡ Err fault

-- the device is as long as it was, and where it tells its bytes, this is said of them
pub record IsLeft {D : Type 0} (tells : Type 0) (size_of : D → ℕ) (bytes_of : D → List ℕ) (says : List ℕ → List ℕ → Type 0) (old new : D) : Type 0 where
  pub size : size_of new ≡ size_of old
  pub said : tells → says (bytes_of old) (bytes_of new)

-- the same of a volume that is there; one that isn't stays so
abbrev pub LeavesVolume : {D : Type 0} → Type 0 → (D → ℕ) → (D → List ℕ) → (List ℕ → List ℕ → Type 0)
    → Result D InputFault → Result D InputFault → Type 0
LeavesVolume tells size bytes says (Ok old) (Ok new) = IsLeft tells size bytes says old new
LeavesVolume tells size bytes says (Ok old) (Err fault) = ⊥
LeavesVolume tells size bytes says (Err fault) new = new ≡ Err fault
