-- How the volume key is judged by the digests of the metadata `j`: words of private contracts.
use Rattle.std.specs.Prelude.{◌≡◌, ℕ, ◌≤◌, Bool, true, false, List, length, None, ⊤}
use Rattle.serde_json.specs.Data.{Data as Value}
use Rattle.luks_slot.specs.declared.plan.DigestPlan.{DigestPlan}
use Rattle.luks_slot.specs.Opening.{meets_digest}
use Rattle.luks_slot.specs.Refusal.{is_known_hash}
use Rattle.luks_edit.specs.declared.edit.Opener.{Opener}
use Rattle.luks_edit.specs.declared.edit_fault.EditFault.{EditFault}
use Rattle.luks_edit.specs.declared.edit_fault.EditFault.TheVariants as fault
use Rattle.luks_edit.specs.Asked.{MatchOpener}
use Rattle.luks2_edit_laws.specs.declared.like.Like.{Like}
use Rattle.luks2_edit_laws.specs.declared.like.Like.TheVariants.{Keyslot, Digest}
use Rattle.luks2_edit_laws.specs.Likes.{HasNoDigestFor, HasRefusal, IsAssigned, MayMeetUnknown, MeetsKey, MeetsNone, TakesKey}
use Rattle.luks2_edit_laws.specs.Metadata.{IsInUse}

-- the digest `m` takes a key of so many bytes, and its hash is known or isn't
pub record IsTakenBy (older : Bool) (j : Value) (m len : ℕ) (known : Bool) : Type 0 where
  pub digest : DigestPlan
  pub takes : TakesKey j m len digest
  pub is : is_known_hash older digest.hash.now ≡ known

-- the hash of the digest is known, and the key meets it
pub record IsMetBy (older : Bool) (digest : DigestPlan) (key : List ℕ) : Type 0 where
  pub known : is_known_hash older digest.hash.now ≡ true
  pub meets : meets_digest digest key ≡ true

-- the key meets the digest `m`, and a segment is assigned to that where it has to be
abbrev pub IsMetHere : Bool → Bool → Value → List ℕ → ℕ → Type 0
IsMetHere older false j key m = MeetsKey older j key m
IsMetHere older true j key m = MeetsKey older j key m × IsAssigned j m

-- the least of these
pub record IsFirstMet (older assigned : Bool) (j : Value) (key : List ℕ) (m : ℕ) : Type 0 where
  pub is : IsMetHere older assigned j key m
  pub first : (k : ℕ) → IsMetHere older assigned j key k → m ≤ k

-- why the key meets none
abbrev pub IsUnlike : Bool → Value → List ℕ → EditFault → Type 0
IsUnlike older j key fault.KeyLength = HasNoDigestFor j (length key)
IsUnlike older j key fault.WrongKey = MeetsNone older j key
IsUnlike older j key (fault.Slot f) = MayMeetUnknown older j key f
IsUnlike older j key f = ⊥

-- by the volume key, a keyslot that is made like this one isn't refused
abbrev pub IsAcceptedLike : Value → Opener → Like → Type 0
IsAcceptedLike j o like = MatchOpener o (λ slot secret. ⊤) (λ key. HasRefusal key.allowed.older j like None)

-- the keyslot like which one is made is there
abbrev pub IsThereLike : Value → Like → Type 0
IsThereLike j (Keyslot n) = IsInUse j n
IsThereLike j (Digest number len) = ⊤
