-- What is looked for where a header was made, and what is said of what is left (LUKS2 On-Disk Format 1.1, 2.1, for the places
-- of second copies).
use Rattle.std.specs.Prelude.{ℕ, List, [], ◌∷◌, ◌++◌, ◌==◌, if◌then◌else◌, codes, flat_map}
use Rattle.std.specs.Fmt.{decimal}
use Rattle.luks_notes.specs.Leftovers.{IsLeft}
use Rattle.luks_notes.specs.declared.leftover.Leftover.{Leftover}
use Rattle.luks_notes.specs.declared.leftover.Leftover.TheVariants.{SecondCopy, Ext, Swap}

-- all that is looked for, in its order
abbrev pub looked_for : List Leftover
looked_for =
    SecondCopy 0x4000 ∷ SecondCopy 0x8000 ∷ SecondCopy 0x10000 ∷ SecondCopy 0x20000 ∷ SecondCopy 0x40000 ∷ SecondCopy 0x80000
    ∷ SecondCopy 0x100000 ∷ SecondCopy 0x200000 ∷ SecondCopy 0x400000 ∷ Ext ∷ Swap ∷ []

-- the members of a list of which P holds, and no others, in their order
pub data AreThose {A : Type 0} (P : A → Type 0) : List A → List A → Type 0 where
  ended : AreThose P [] []
  taken : {x : A} {all those : List A} → P x → AreThose P all those → AreThose P (x ∷ all) (x ∷ those)
  passed : {x : A} {all those : List A} → (P x → ⊥) → AreThose P all those → AreThose P (x ∷ all) those

-- all that is left on a volume that begins with the bytes `v`, the first `own` of which are of the header that was made
abbrev pub AreLeft : List ℕ → ℕ → List Leftover → Type 0
AreLeft v own found = AreThose (IsLeft v own) looked_for found

-- ---- the lines

-- where something is left, and what it is
abbrev pub leftover_text : Leftover → List ℕ
leftover_text (SecondCopy place) = codes "byte " ++ decimal place ++ codes ": the second copy of an older LUKS2 header"
leftover_text Ext = codes "byte 1080: the signature of ext2, ext3 or ext4"
leftover_text Swap = codes "byte 4086: the signature of swap"

-- the line of one that is left on the volume of this name
abbrev pub left_line : List ℕ → Leftover → List ℕ
left_line volume leftover = codes "luks: " ++ volume ++ codes ": left at " ++ leftover_text leftover ++ 10 ∷ []

-- by what it is taken away, on a volume that begins at this byte of its file
abbrev pub wiping_text : ℕ → List ℕ
wiping_text begins = if begins == 0 then codes "wipefs --offset BYTE takes it away, wipefs --all before format all"
    else codes "wipefs --offset BYTE takes it away, on the device of losetup --offset " ++ decimal begins

abbrev pub wiping_line : List ℕ → ℕ → List ℕ
wiping_line volume begins = codes "luks: " ++ volume ++ codes ": " ++ wiping_text begins ++ 10 ∷ []

-- all lines: none where nothing is left
abbrev pub leftovers_text : List ℕ → ℕ → List Leftover → List ℕ
leftovers_text volume begins [] = []
leftovers_text volume begins found = flat_map (left_line volume) found ++ wiping_line volume begins
