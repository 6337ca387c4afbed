-- What an edit replies that seals a key, once its keyslot was made.
use Rattle.std.proofs.Common.{◌≡◌, ◌⊎◌, ℕ, List, subst, inl, inr, Option, Some, None}
use Rattle.luks_area.specs.declared.area.Area.{Area}
use Rattle.luks1_header.specs.declared.luks1.Luks1Slot.{Luks1Slot}
use Rattle.luks_reading.specs.declared.report.Data.{Data}
use Rattle.luks_edit.specs.declared.deed.Deed.TheVariants.{Seal}
use Rattle.luks_edit.specs.declared.deed.Place.{Place}
use Rattle.luks_edit.specs.declared.deed.Place.TheVariants.{New, Opened}
use Rattle.luks_edit.specs.declared.deed.Sealed.{Sealed}
use Rattle.luks_edit.specs.declared.edit.Edit.{Edit}
use Rattle.luks_edit.specs.declared.edit.Opener.{Opener}
use Rattle.luks_edit.specs.declared.edit.Opener.TheVariants.{Keyslot}
use Rattle.luks_edit.specs.declared.edit.Secret.{Secret}
use Rattle.luks_edit.specs.Asked.{deed_of, MatchPlace, opener_at}
use Rattle.luks1_edits.specs.Accepted.{IsHeaderOf, IsSealedNew, IsUsable}
use Rattle.luks1_edits.specs.Edited.{IsInUse, IsLeastFree, IsNewKeyslot, IsRemoved, iterations_of, number_asked, Opens1}
use Rattle.luks1_edits.specs.Leftovers.{IsHalfChanged, IsHalfMade, IsHalfRemoved, IsTorn1, Leftover1}
use Rattle.luks1_edits.specs.Replies.{IsDone1}
use Rattle.luks1_edits.specs.Steps.{IsKeyslotAt}
use Rattle.luks1_edits.proofs.ChangeFacts.{changed, half_changed, still_at}

-- while its keyslot was made
torn_at : (v : List ℕ) (s : Sealed) (r w : List ℕ) (place : Place)
    → IsHalfMade (opener_at place) v s.passphrase.now (number_asked place) (iterations_of s.derivation) r w
    → MatchPlace place (λ o to. IsHalfMade o v s.passphrase.now to (iterations_of s.derivation) r w)
    (λ slot secret. IsHalfMade (Keyslot slot secret) v s.passphrase.now None (iterations_of s.derivation) r w
    ⊎ IsHalfChanged v slot secret s.passphrase.now (iterations_of s.derivation) r w)
torn_at v s r w (New o to) x = x
torn_at v s r w (Opened slot secret) x = inl x

pub half_made : (v : List ℕ) (e : Edit) (s : Sealed) (r w : List ℕ) → deed_of e ≡ Seal s
    → IsHalfMade (opener_at s.place) v s.passphrase.now (number_asked s.place) (iterations_of s.derivation) r w → IsTorn1 v e r w
half_made v e s r w is x = rw is (torn_at v s r w s.place x)

-- the keyslot that is opened is in use
pub opened_used : (v : List ℕ) {place : Place} {slot : ℕ} {secret : Secret} → place ≡ Opened slot secret → IsUsable v (opener_at place) → IsInUse v slot
opened_used v same x = subst (λ p. IsUsable v (opener_at p)) same x

module _ (payload : Data) (v : List ℕ) (e : Edit) (s : Sealed) (r : List ℕ) (n : ℕ) (u : List ℕ) (is : deed_of e ≡ Seal s) (x : IsSealedNew payload v s r n u) where
  -- it is a new one
  pub added : (o : Opener) (to : Option ℕ) → s.place ≡ New o to → IsDone1 payload v e r (record { slot = Some n }) u
  added o to place = record {
    unrefused = x.unrefused e is;
    after = rw (is, place) (record {
      slot = n;
      is_new = subst (λ p. IsNewKeyslot v (number_asked p) n) place x.is_new;
      key = x.key;
      opened = subst (λ p. Opens1 v (opener_at p) x.key) place x.opened;
      rest = x.made.rest;
      made = x.made.made;
      holds = x.made.holds;
    });
    told = rw is x.is_new;
  }

  module _ (h : List ℕ) (of : IsHeaderOf h payload v) (slot : ℕ) (secret : Secret) (place : s.place ≡ Opened slot secret) where
    least : IsLeastFree v n
    least = subst (λ p. IsNewKeyslot v (number_asked p) n) place x.is_new

    used : IsInUse v slot
    used = opened_used v place x.used

    opened : Opens1 v (Keyslot slot secret) x.key
    opened = subst (λ p. Opens1 v (opener_at p) x.key) place x.opened

    -- the one that was opened is where it was
    pub opened_at : {t : Luks1Slot} {a : Area} → IsKeyslotAt v slot t a → IsKeyslotAt u slot t a
    opened_at at = still_at h payload v of slot n used least (iterations_of s.derivation) s.passphrase.now x.key r u x.made at

    -- it was removed
    pub renewed : (w : List ℕ) → IsRemoved u slot w → IsDone1 payload v e r (record { slot = Some n }) w
    renewed w removed = record {
      unrefused = x.unrefused e is;
      after = rw (is, place) (changed h payload v of slot n used least (iterations_of s.derivation) s.passphrase.now x.key r u x.made secret w opened removed);
      told = rw is x.is_new;
    }

    -- or the device failed meanwhile
    pub half_renewed : (w : List ℕ) → IsHalfRemoved u slot w → Leftover1 v payload e r w
    half_renewed w half = inr (
      x.unrefused e is,
      rw (is, place)
          (inr (half_changed h payload v of slot n used least (iterations_of s.derivation) s.passphrase.now x.key r u x.made secret w opened half)),
    )
