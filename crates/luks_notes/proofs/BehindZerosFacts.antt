-- A copy with nothing but zeros before it: it is sound there exactly where it is sound, and it is the one that is chosen.
use Rattle.std.proofs.Common.{◌≡◌, ◌↔◌, ℕ, ◌<◌, ◌≤◌, List, [], ◌∷◌, ◌==◌, if◌then◌else◌, Bool, true, false, length, take, drop, get_or, min, replicate, refl, sym, ap, ◌∙◌, arith, subst}
use Rattle.std.proofs.lemmas.Grind.{common_steps}
use Rattle.std.proofs.lemmas.List.{length-append, length-drop, length-replicate}
use Rattle.std.proofs.lemmas.Slice.{drop-append-drop}
use Rattle.luks1_header.specs.Faults.{is_device_fault}
use Rattle.luks1_header.specs.Header1.{luks_magic}
use Rattle.luks2_header.specs.Header2.{copy_at, hdr_size, second_magic, IsSound}
use Rattle.luks2_header.specs.Sizes.{IsListed}
use Rattle.luks2_header.specs.Selection.{Chosen, IsChosenCopy, IsRefused, IsSecondAlone, IsSelectFault, IsVersion1, luks2, nothing}
use Rattle.luks2_header.proofs.ChoiceFacts.{chosen_is_sound}
use Rattle.luks2_header.proofs.SoundnessFacts.{sound_by_copy}
use Rattle.luks_notes.specs.BehindZeros.{behind_zeros}
use Rattle.luks1_header.specs.declared.fault.HeadFault.{HeadFault}
use Rattle.luks1_header.specs.declared.fault.HeadFault.TheVariants as fault
use Rattle.luks2_header.specs.declared.selection.Copies.{Copies}
use Rattle.luks2_header.specs.declared.selection.Copies.TheVariants.{InStep, FirstNewer, SecondNewer, FirstOnly, SecondOnly}

pub length-behind : (v : List ℕ) (p : ℕ) → length (behind_zeros v p) ≡ length v
length-behind v p = grind (arith, length-append (replicate (min p (length v)) 0) (drop (min p (length v)) v), length-replicate {A = ℕ} (min p (length v)) 0, length-drop (min p (length v)) v)

-- from the place on they are the same
same_behind : (v : List ℕ) (p : ℕ) → drop p (behind_zeros v p) ≡ drop p v
same_behind v p = drop-append-drop (min p (length v)) v (replicate (min p (length v)) 0) p (omega arith) (length-replicate {A = ℕ} (min p (length v)) 0)

pub same_copy : (v : List ℕ) (p : ℕ) → copy_at (behind_zeros v p) p ≡ copy_at v p
same_copy v p = ap (λ d. take (hdr_size (take 4096 d)) d) (same_behind v p)

-- a copy begins with a byte that isn't zero
head_of : (is_first : Bool) → get_or (if is_first then luks_magic else second_magic) 0 0 ≡ 0 → ⊥
head_of true e = omega arith
head_of false e = omega arith

first_byte : (d : List ℕ) → get_or (take 6 (drop 0 (take 4096 d))) 0 0 ≡ get_or d 0 0
first_byte [] = refl
first_byte (x ∷ d) = refl

unsound_at_zero : (w : List ℕ) (q : ℕ) → get_or (drop q w) 0 0 ≡ 0 → IsSound w q → ⊥
unsound_at_zero w q e sound = head_of (q == 0) (sym (ap (λ l. get_or l 0 0) sound.form.magic) ∙ first_byte (drop q w) ∙ e)

-- before the place there are zeros, or nothing
zero_before : (v : List ℕ) (p q : ℕ) → q < p → get_or (drop q (behind_zeros v p)) 0 0 ≡ 0
zero_before v p q before = grind (arith, common_steps)

-- so no copy is sound there
pub unsound_before : (v : List ℕ) (p q : ℕ) → q < p → IsSound (behind_zeros v p) q → ⊥
unsound_before v p q before = unsound_at_zero (behind_zeros v p) q (zero_before v p q before)

-- the copy at the place is sound behind zeros as it is in its place
pub sound_behind : (v : List ℕ) (p : ℕ) → IsSound v p ↔ IsSound (behind_zeros v p) p
sound_behind v p = (sound_by_copy v (behind_zeros v p) p (sym (length-behind v p)) (sym (same_copy v p)), sound_by_copy (behind_zeros v p) v p (length-behind v p) (same_copy v p))

-- where the copy at the place is sound, the one that is chosen alone is that copy
least_is : (v : List ℕ) (p o : ℕ) → 1 ≤ p → IsSecondAlone (behind_zeros v p) o → IsSound v p → o ≡ p
least_is v p o after alone sound =
    let there : IsSound (behind_zeros v p) p = (sound_behind v p).0 sound in
    let listed : IsListed p = subst IsListed (there.form.second (λ e. omega arith)) there.form.listed in
    let least : o ≤ p = alone.least p listed there in
    let no_less : o < p → ⊥ = λ less. unsound_before v p o less alone.sound in
    grind (arith, least, no_less)

-- what is chosen behind zeros is the copy at the place, exactly where that one is sound
pub chosen_behind : (v : List ℕ) (p o : ℕ) (copies : Copies) → 1 ≤ p → Chosen (behind_zeros v p) (luks2 o copies) → (o ≡ p → IsSound v p) × (IsSound v p → o ≡ p)
chosen_behind v p o copies after chosen =
    (λ e. (sound_behind v p).1 (subst (IsSound (behind_zeros v p)) e (chosen_is_sound (behind_zeros v p) o copies chosen.1)), of_copies copies chosen.1)
  where
    of_copies : (copies : Copies) → IsChosenCopy (behind_zeros v p) o copies → IsSound v p → o ≡ p
    of_copies InStep is sound = absurd (unsound_before v p 0 after is.0.first)
    of_copies FirstNewer is sound = absurd (unsound_before v p 0 after is.0.first)
    of_copies SecondNewer is sound = absurd (unsound_before v p 0 after is.0.first)
    of_copies FirstOnly is sound = absurd (unsound_before v p 0 after is.0.first)
    of_copies SecondOnly is sound = least_is v p o after is sound

-- behind zeros there is no LUKS1 header
pub no_luks1 : (v : List ℕ) (p : ℕ) → 1 ≤ p → IsVersion1 (behind_zeros v p) → ⊥
no_luks1 v p after is = head_of true (sym (ap (λ l. get_or l 0 0) is.magic) ∙ six (behind_zeros v p) ∙ zero_before v p 0 after)
  where
    six : (d : List ℕ) → get_or (take 6 (drop 0 d)) 0 0 ≡ get_or (drop 0 d) 0 0
    six [] = refl
    six (x ∷ d) = refl

-- where something refuses the choice, the copy at the place isn't sound
pub unsound_refused : (v : List ℕ) (p : ℕ) (f : HeadFault) → 592 ≤ p → IsSelectFault (behind_zeros v p) f → IsSound v p → ⊥
unsound_refused v p f after refused sound = of_fault f refused
  where
    there : IsSound (behind_zeros v p) p
    there = (sound_behind v p).0 sound

    long : 592 ≤ length (behind_zeros v p)
    long = omega (arith, there.form.inside, after)

    listed : IsListed p
    listed = subst IsListed (there.form.second (λ e. omega (arith, after))) there.form.listed

    none : Chosen (behind_zeros v p) nothing → ⊥
    none chosen = (chosen.1 long).no_second p listed there

    of_fault : (f : HeadFault) → IsSelectFault (behind_zeros v p) f → ⊥
    of_fault fault.TooShort r = omega (arith, r, long)
    of_fault fault.NotLuks r = none r.0
    of_fault fault.Version r = none r.0
    of_fault fault.NoSoundCopy r = none r
    of_fault _ r = absurd r

-- where the choice is refused on a device in memory, of which no call fails, the copy at the place isn't sound
pub unsound_if_refused : (v : List ℕ) (p : ℕ) (f : HeadFault) → 592 ≤ p → (is_device_fault f ≡ true → ⊥) → IsRefused (behind_zeros v p) f → IsSound v p → ⊥
unsound_if_refused v p f after no_failure refused = unsound_refused v p f after (of_fault f no_failure refused)
  where
    of_fault : (f : HeadFault) → (is_device_fault f ≡ true → ⊥) → IsRefused (behind_zeros v p) f → IsSelectFault (behind_zeros v p) f
    of_fault fault.Device never r = absurd (never refl)
    of_fault _ never r = r.0
