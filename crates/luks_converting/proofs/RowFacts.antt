-- The first fault of a conversion among the faults that stand, row by row of the table.
use Rattle.std.proofs.Common.{◌≡◌, ◌≢◌, ℕ, ◌<◌, ◌≤◌, List, length, false, refl, sym, subst, arith, inl}
use Rattle.luks_area.specs.First.{IsLeast, NotAfter}
use Rattle.luks2_header.specs.Selection.{luks1, luks2}
use Rattle.luks2_header.proofs.ChoiceFacts.{choices_agree}
use Rattle.luks_reading.specs.declared.check_fault.CheckFault.{CheckFault}
use Rattle.luks_reading.specs.declared.check_fault.CheckFault.TheVariants as check
use Rattle.luks_reading.specs.declared.report.Data.{Data}
use Rattle.luks_reading.specs.Checked.{First, IsCheckRefusal}
use Rattle.luks_making.proofs.ConvertedTextFacts.{text_short}
use Rattle.luks_converting.specs.Accepted.{IsHeaderOf, IsOther, IsUnaccepted}
use Rattle.luks_converting.specs.ConvertFaults.{checked_convert, convert_key, is_convert_failure}
use Rattle.luks_converting.specs.Outcome.{IsAnsweredFault, IsConvertFault, IsConvertible, IsFull, IsLuks2, LacksRoom}
use Rattle.luks_converting.specs.Source.{header_members, IsSource}
use Rattle.luks_converting.proofs.SourceFacts.{can, fits}
use Rattle.luks_converting.specs.declared.convert_fault.ConvertFault.{ConvertFault}
use Rattle.luks_converting.specs.declared.convert_fault.ConvertFault.TheVariants.{NotAccepted, NotLuks1, TooSmall, NoRoom, MetadataFull, RandomLength, Memory, Device}

-- ---- the source's check

-- what a check refuses by isn't a source
pub unaccepted_of : (v : List ℕ) (payload : Data) (f : CheckFault) → IsCheckRefusal v payload f → IsUnaccepted v payload (checked_convert f)
unaccepted_of v payload check.Device x = tt
unaccepted_of v payload other x = x

pub first_unaccepted : (v : List ℕ) (payload : Data) (f : CheckFault) → f ≢ check.Device → f ≢ check.Memory → First v payload f → IsUnaccepted v payload (checked_convert f)
first_unaccepted v payload check.Device own memory x = tt
first_unaccepted v payload check.Memory own memory x = absurd (memory refl)
first_unaccepted v payload other own memory x = x

-- the first fault of a check is the first of all
check_first : (v : List ℕ) (payload : Data) (total : ℕ) (random : List ℕ) (f : CheckFault) → First v payload f → IsLeast convert_key (IsConvertFault v payload total random) (NotAccepted f)
check_first v payload total random f first = (first.0, after)
  where
    after : (g : ConvertFault) → IsConvertFault v payload total random g → NotAfter (convert_key (NotAccepted f)) (convert_key g)
    after (NotAccepted g) bad = (omega arith, λ same. first.1 g bad)
    after Memory bad = absurd bad
    after Device bad = absurd bad
    after other bad = (omega arith, λ same. absurd (omega (arith, same)))

other_first : (v : List ℕ) (payload : Data) (total : ℕ) (random : List ℕ) → IsOther v payload → IsLeast convert_key (IsConvertFault v payload total random) NotLuks1
other_first v payload total random other = (other.luks2, after)
  where
    after : (g : ConvertFault) → IsConvertFault v payload total random g → NotAfter (convert_key NotLuks1) (convert_key g)
    after (NotAccepted g) bad = absurd (other.faultless g bad)
    after Memory bad = absurd bad
    after Device bad = absurd bad
    after other bad = (omega arith, λ same. tt)

-- why the source isn't accepted is what is answered
pub unaccepted_first : (v : List ℕ) (payload : Data) (total : ℕ) (random : List ℕ) (f : ConvertFault) → IsUnaccepted v payload f → IsAnsweredFault v payload total random f
unaccepted_first v payload total random (NotAccepted f) x = check_first v payload total random f x
unaccepted_first v payload total random NotLuks1 x = other_first v payload total random x
unaccepted_first v payload total random Memory x = inl x
unaccepted_first v payload total random Device x = tt
unaccepted_first v payload total random other x = absurd x

-- ---- of an accepted LUKS1 volume

-- the metadata is never longer than its area holds
pub never_full : (h : List ℕ) → IsSource h → IsFull h → ⊥
never_full h source full = (let short = text_short (header_members h) (fits h source) (can h source) in omega (arith, full, short))

module _
    (h v : List ℕ) (payload : Data) (total : ℕ) (random : List ℕ) (is : IsHeaderOf h payload v)
  where
    not_luks2 : IsLuks2 v → ⊥
    not_luks2 bad = let same : luks1 ≡ luks2 bad.place bad.copies = choices_agree v luks1 (luks2 bad.place bad.copies) is.chosen bad.chosen in absurd (let no = same in cc)

    pub too_small : total < 16777216 → IsLeast convert_key (IsConvertFault v payload total random) TooSmall
    too_small small = (small, after)
      where
        after : (g : ConvertFault) → IsConvertFault v payload total random g → NotAfter (convert_key TooSmall) (convert_key g)
        after (NotAccepted g) bad = absurd (is.faultless g bad)
        after NotLuks1 bad = absurd (not_luks2 bad)
        after Memory bad = absurd bad
        after Device bad = absurd bad
        after other bad = (omega arith, λ same. tt)

    pub no_room : 16777216 ≤ total → LacksRoom h → IsLeast convert_key (IsConvertFault v payload total random) NoRoom
    no_room large lacks = (record { chosen = is.chosen; holds = subst LacksRoom is.begins lacks }, after)
      where
        after : (g : ConvertFault) → IsConvertFault v payload total random g → NotAfter (convert_key NoRoom) (convert_key g)
        after (NotAccepted g) bad = absurd (is.faultless g bad)
        after NotLuks1 bad = absurd (not_luks2 bad)
        after TooSmall bad = absurd (omega (arith, bad, large))
        after Memory bad = absurd bad
        after Device bad = absurd bad
        after other bad = (omega arith, λ same. tt)

    pub random_length : 16777216 ≤ total → IsSource h → length random ≢ 128 → IsLeast convert_key (IsConvertFault v payload total random) RandomLength
    random_length large source other = (other, after)
      where
        after : (g : ConvertFault) → IsConvertFault v payload total random g → NotAfter (convert_key RandomLength) (convert_key g)
        after (NotAccepted g) bad = absurd (is.faultless g bad)
        after NotLuks1 bad = absurd (not_luks2 bad)
        after TooSmall bad = absurd (omega (arith, bad, large))
        after NoRoom bad = (let lacks : LacksRoom h = subst LacksRoom (sym is.begins) bad.holds in let room = source.room in absurd (omega (arith, lacks, room)))
        after MetadataFull bad = absurd (never_full h source (subst IsFull (sym is.begins) bad.holds))
        after RandomLength bad = (omega arith, λ same. tt)
        after other bad = absurd bad

    pub convertible : 16777216 ≤ total → IsSource h → length random ≡ 128 → IsConvertible v payload total random
    convertible large source counted = record { none = none }
      where
        none : (f : ConvertFault) → IsConvertFault v payload total random f → ⊥
        none (NotAccepted g) bad = is.faultless g bad
        none NotLuks1 bad = not_luks2 bad
        none TooSmall bad = absurd (omega (arith, bad, large))
        none NoRoom bad = (let lacks : LacksRoom h = subst LacksRoom (sym is.begins) bad.holds in let room = source.room in absurd (omega (arith, lacks, room)))
        none MetadataFull bad = never_full h source (subst IsFull (sym is.begins) bad.holds)
        none RandomLength bad = bad counted
        none other bad = bad

-- ---- what is answered of an accepted source

-- a fault that is the first, and neither a failed allocation nor a device's
pub answered_first : (v : List ℕ) (payload : Data) (total : ℕ) (random : List ℕ) (f : ConvertFault) → f ≢ Memory → is_convert_failure f ≡ false
    → IsLeast convert_key (IsConvertFault v payload total random) f → IsAnsweredFault v payload total random f
answered_first v payload total random Memory memory own x = absurd (memory refl)
answered_first v payload total random Device memory own x = tt
answered_first v payload total random f memory own x = x
