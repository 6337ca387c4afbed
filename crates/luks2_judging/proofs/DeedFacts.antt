-- What an edit seals, by its parts, and the edit that does a deed.
use Rattle.std.proofs.Common.{◌≡◌, ℕ, Bor, List, Bool, true, false, ap, refl, subst}
use Rattle.std.proofs.lemmas.Bool.{true≢false}
use Rattle.luks_making.specs.declared.derivation.AskedDerivation.{AskedDerivation}
use Rattle.luks_edit.specs.declared.deed.Deed.{Deed}
use Rattle.luks_edit.specs.declared.deed.Deed.TheVariants as deed
use Rattle.luks_edit.specs.declared.deed.Place.{Place}
use Rattle.luks_edit.specs.declared.deed.Place.TheVariants.{New, Opened}
use Rattle.luks_edit.specs.declared.deed.Removed.{Removed}
use Rattle.luks_edit.specs.declared.deed.Sealed.{Sealed}
use Rattle.luks_edit.specs.declared.edit.Edit.{Edit}
use Rattle.luks_edit.specs.declared.edit.Edit.TheVariants.{Add, AddByKey, Change, Remove, Erase, Repair, Label, Uuid, Amend}
use Rattle.luks_edit.specs.declared.edit.Secret.{Secret}
use Rattle.luks_edit.specs.Asked.{allowed_by, allowed_for, allowed_in, deed_of, opener_at}
use Rattle.luks2_judging.specs.Judging.{sealing}

pub sealed_as : (e : Edit) (s : Sealed) (place : Place) (asked : AskedDerivation) → deed_of e ≡ deed.Seal s → s.place ≡ place → asked ≡ s.derivation
    → deed_of e ≡ deed.Seal (sealing place s.passphrase asked)
sealed_as e s place asked is at same = rw (same, ← at) is

-- what it allows
pub sealed_allowed : (e : Edit) (s : Sealed) → deed_of e ≡ deed.Seal s → allowed_by e ≡ allowed_for (opener_at s.place) s.passphrase.now
sealed_allowed e s is = ap allowed_in is

pub allowed_at : (e : Edit) (s : Sealed) (place : Place) → deed_of e ≡ deed.Seal s → s.place ≡ place → allowed_by e ≡ allowed_for (opener_at place) s.passphrase.now
allowed_at e s place is at = subst (λ p. allowed_by e ≡ allowed_for (opener_at p) s.passphrase.now) at (sealed_allowed e s is)

-- what gives its key
pub opener_is : (s : Sealed) (place : Place) → s.place ≡ place → opener_at s.place ≡ opener_at place
opener_is s place at = ap opener_at at

-- ---- the edit that seals a key in the keyslot that was opened, and the one that removes a keyslot

abbrev edit_at : Place → Sealed → Edit
edit_at (New o to) s = Repair
edit_at (Opened slot old) s = Change slot old s.passphrase s.derivation.iterations s.derivation.chosen

abbrev edit_of : Deed → Edit
edit_of (deed.Seal s) = edit_at s.place s
edit_of (deed.Remove r) = Remove r.slot r.by_ r.secret
edit_of (deed.Rewrite r) = Repair
edit_of deed.Erase = Erase

pub removed_is : (e : Edit) (r : Removed) → deed_of e ≡ deed.Remove r → e ≡ Remove r.slot r.by_ r.secret
removed_is (Add by_ old new to iterations chosen) r is = absurd (cc)
removed_is (AddByKey key new to iterations chosen) r is = absurd (cc)
removed_is (Change slot old new iterations chosen) r is = absurd (cc)
removed_is (Remove slot by_ secret) r is = ap edit_of is
removed_is Erase r is = absurd (cc)
removed_is Repair r is = absurd (cc)
removed_is (Label text subsystem) r is = absurd (cc)
removed_is (Uuid uuid) r is = absurd (cc)
removed_is (Amend c) r is = absurd (cc)

-- the one that erases all keyslots
pub erased_is : (e : Edit) → deed_of e ≡ deed.Erase → e ≡ Erase
erased_is (Add by_ old new to iterations chosen) is = absurd (cc)
erased_is (AddByKey key new to iterations chosen) is = absurd (cc)
erased_is (Change slot old new iterations chosen) is = absurd (cc)
erased_is (Remove slot by_ secret) is = absurd (cc)
erased_is Erase is = refl
erased_is Repair is = absurd (cc)
erased_is (Label text subsystem) is = absurd (cc)
erased_is (Uuid uuid) is = absurd (cc)
erased_is (Amend c) is = absurd (cc)

-- a new keyslot isn't the one that was opened
abbrev is_new_at : Place → Bool
is_new_at (New o to) = true
is_new_at (Opened slot old) = false

abbrev is_new : Deed → Bool
is_new (deed.Seal s) = is_new_at s.place
is_new (deed.Remove r) = false
is_new (deed.Rewrite r) = false
is_new deed.Erase = false

pub changed_is : (e : Edit) (slot : ℕ) (old : Secret) (new : Bor (List ℕ)) (asked : AskedDerivation) → deed_of e ≡ deed.Seal (sealing (Opened slot old) new asked)
    → e ≡ Change slot old new asked.iterations asked.chosen
changed_is (Add by_ own passphrase to iterations chosen) slot old new asked is = absurd (true≢false (ap is_new is))
changed_is (AddByKey key passphrase to iterations chosen) slot old new asked is = absurd (true≢false (ap is_new is))
changed_is (Change named own passphrase iterations chosen) slot old new asked is = ap edit_of is
changed_is (Remove named by_ secret) slot old new asked is = absurd (cc)
changed_is Erase slot old new asked is = absurd (cc)
changed_is Repair slot old new asked is = absurd (cc)
changed_is (Label text subsystem) slot old new asked is = absurd (cc)
changed_is (Uuid uuid) slot old new asked is = absurd (cc)
changed_is (Amend c) slot old new asked is = absurd (cc)
