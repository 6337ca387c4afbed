-- Which digest a key meets first, and what a new keyslot is made like by it.
use Rattle.std.proofs.Common.{◌≡◌, ◌≢◌, ℕ, ◌<◌, ◌≤◌, List, length, Bool, true, false, Some, None, inl, inr, refl, subst, arith}
use Rattle.std.proofs.lemmas.Bool.{cases_lt}
use Rattle.serde_json.specs.Data.{Data as Value}
use Rattle.luks_rules.specs.declared.table.Member.TheVariants as name
use Rattle.luks_rules.specs.declared.table.Outer.TheVariants as outer
use Rattle.luks_rules.specs.Faults.{member_at}
use Rattle.luks_meta.specs.Content.{content}
use Rattle.luks_making.specs.Conditions.{Between}
use Rattle.luks_making.specs.Naming.{IsDigestOf}
use Rattle.luks_reading.specs.KeyDigests.{IsLuks2KeyLength, NamesKeyslot}
use Rattle.luks_reading.specs.Plans.{HasLuks2KeyBytes}
use Rattle.luks2_edit_laws.proofs.ToldFacts.{in_between}
use Rattle.luks_reading.specs.declared.header.ChosenCopy.{ChosenCopy}
use Rattle.luks_reading.specs.Header.{json_at, IsChosenCopy}
use Rattle.luks_edit.specs.declared.edit.Edit.{Edit}
use Rattle.luks_edit.specs.declared.edit.Opener.TheVariants as opener
use Rattle.luks_edit.specs.declared.edit.VolumeKey.{VolumeKey}
use Rattle.luks_edit.specs.Asked.{deed_of, opener_in}
use Rattle.luks_edit.specs.EditFaults.{is_edit_failure}
use Rattle.luks_edit.specs.declared.edit_fault.EditFault.{EditFault}
use Rattle.luks_edit.specs.declared.edit_fault.EditFault.TheVariants as fault
use Rattle.luks2_edit_laws.specs.declared.like.Like.{Like}
use Rattle.luks2_edit_laws.specs.declared.like.Like.TheVariants.{Keyslot, Digest}
use Rattle.luks2_edit_laws.specs.Likes.{HasRefusal, IsAssigned, IsKeyDigest, IsLikeByKey, IsLikeOf}
use Rattle.luks2_edit_laws.specs.Refused.{IsUnkeyed2}
use Rattle.luks2_judging.specs.Keys.{IsFirstMet, IsMetHere, IsUnlike}
use Rattle.luks2_judging.specs.Opened.{HasKeyBytesLike, IsUnopened, Opens}
use Rattle.luks2_judging.proofs.ChosenFacts.{metadata_of, said, say}
use Rattle.luks2_judging.proofs.UnkeyedFacts.{unkeyed_past}

-- ---- the digest

module _ (older : Bool) (j : Value) (key : List ℕ) (m : ℕ) (first : IsFirstMet older false j key m) where
  -- the least that the key meets, where a segment is assigned to it
  pub met_assigned : IsAssigned j m → IsKeyDigest older j key m
  met_assigned assigned = record { meets = first.is; first = λ k meets. record { assigned = λ other. assigned; number = λ also. first.first k meets } }

  -- or where none is assigned that it meets
  pub met_unassigned : ((k : ℕ) → IsMetHere older true j key k → ⊥) → IsKeyDigest older j key m
  met_unassigned none = record { meets = first.is; first = λ k meets. record { assigned = λ other. absurd (none k (meets, other)); number = λ also. first.first k meets } }

-- else the least of these
pub met_first : (older : Bool) (j : Value) (key : List ℕ) (m : ℕ) → IsFirstMet older true j key m → IsKeyDigest older j key m
met_first older j key m first = record {
  meets = first.is.0;
  first = λ k meets. record { assigned = λ other. first.is.1; number = λ also. first.first k (meets, also first.is.1) };
}

-- the one that was found is the least where none before it is met
pub least_met : (older assigned : Bool) (j : Value) (key : List ℕ) (m : ℕ) → IsMetHere older assigned j key m → ((k : ℕ) → k < m → IsMetHere older assigned j key k → ⊥)
    → IsFirstMet older assigned j key m
least_met older assigned j key m is none = record {
  is = is;
  first = λ k met. elim (cases_lt k m) [ inl before ↦ absurd (none k before met) | inr past ↦ past ];
}

-- ---- what a keyslot is made like

-- no keyslot below this one is the digest's with a key of so many bytes
abbrev pub HasNoneBelow : Value → ℕ → ℕ → ℕ → Type 0
HasNoneBelow j m len n = (k : ℕ) → k < n → IsDigestOf j k m → HasLuks2KeyBytes j k len → ⊥

pub first_keyslot : (j : Value) (m len n : ℕ) → HasNoneBelow j m len n → IsDigestOf j n m → HasLuks2KeyBytes j n len → IsLikeOf j m len (Keyslot n)
first_keyslot j m len n none names long = record {
  names = names;
  long = long;
  first = λ k other same. elim (cases_lt k n) [ inl before ↦ absurd (none k before other same) | inr past ↦ past ];
}

none_named : (j : Value) (m len end : ℕ) → 32 ≤ end → HasNoneBelow j m len end → IsLuks2KeyLength j m len → NamesKeyslot j m → ⊥
none_named j m len end past none (inl of) named = let low = of.names.named in none of.slot (omega (arith, past, low)) of.names of.long
none_named j m len end past none (inr free) named = free.0 named

pub none_left : (j : Value) (m len end : ℕ) → 32 ≤ end → HasNoneBelow j m len end → IsLuks2KeyLength j m len → IsLikeOf j m len (Digest m len)
none_left j m len end past none long = record { number_is = refl; key_bytes_are = refl; none = none_named j m len end past none long }

-- ---- its key

-- it has 1 to 128 bytes
pub key_between : (j : Value) (m len : ℕ) → IsLuks2KeyLength j m len → Between 1 128 len
key_between j m len (inl of) = in_between 1 128 len (member_at of.long.object outer.Top name.KeySize) of.long.is
key_between j m len (inr free) = record { from = free.1; to = free.2 }

-- why it meets none is why it doesn't give itself
pub unlike_unkeyed : (older : Bool) (j : Value) (key : List ℕ) (f : EditFault) → IsUnlike older j key f → IsUnkeyed2 older j key f
unlike_unkeyed older j key fault.KeyLength bad = bad
unlike_unkeyed older j key fault.WrongKey bad = bad
unlike_unkeyed older j key (fault.Slot s) bad = inl bad
unlike_unkeyed older j key f bad = absurd bad

-- ---- what the volume key answers

-- it isn't the device's failure, nor a failed allocation
pub unkeyed_own : (older : Bool) (j : Value) (key : List ℕ) (f : EditFault) → IsUnkeyed2 older j key f → is_edit_failure f ≡ false
unkeyed_own older j key fault.Device bad = absurd bad
unkeyed_own older j key f bad = refl

pub unkeyed_memory : (older : Bool) (j : Value) (key : List ℕ) (f : EditFault) → IsUnkeyed2 older j key f → f ≢ fault.Memory
unkeyed_memory older j key f bad same = subst (IsUnkeyed2 older j key) same bad

-- its length is that of what a keyslot is made like
pub own_bytes : (older : Bool) (j : Value) (key : List ℕ) (like : Like) → IsLikeByKey older j key like → HasKeyBytesLike j like (length key)
own_bytes older j key (Keyslot n) is = is.like_is.long
own_bytes older j key (Digest number key_bytes) is = is.like_is.key_bytes_are

module _ (v : List ℕ) (copy : ChosenCopy) (x : IsChosenCopy v copy) (e : Edit) (key : VolumeKey) (asked : opener_in (deed_of e) ≡ Some (opener.Key key)) where
  -- it gives itself
  pub own_given : (own : List ℕ) (like : Like) → own ≡ key.bytes.now → IsLikeByKey key.allowed.older (content copy.meta) key.bytes.now like
      → HasRefusal key.allowed.older (content copy.meta) like None → Opens v e own
  own_given own like same is accepted =
      let m = metadata_of v copy x in
      record {
        gives = rw asked (same, record { place = copy.header.hdr_offset; value = content copy.meta; metadata = m; like = like; is_like = is; accepted = accepted });
        past = record {
          none = λ f bad.
              unkeyed_past (json_at v copy.header.hdr_offset) (content copy.meta) x.metadata key.allowed.older key.bytes.now like is accepted f
              (said v copy.header.hdr_offset (content copy.meta) m (λ o j. IsUnkeyed2 key.allowed.older j key.bytes.now f) (rw asked at bad));
        };
      }

  -- or it doesn't
  pub own_unopened : (f : EditFault) → IsUnkeyed2 key.allowed.older (content copy.meta) key.bytes.now f → IsUnopened v e f
  own_unopened fault.KeyLength bad = rw asked (say v copy.header.hdr_offset (content copy.meta) (metadata_of v copy x) (λ o j. IsUnkeyed2 key.allowed.older j key.bytes.now fault.KeyLength) bad)
  own_unopened fault.WrongKey bad = rw asked (say v copy.header.hdr_offset (content copy.meta) (metadata_of v copy x) (λ o j. IsUnkeyed2 key.allowed.older j key.bytes.now fault.WrongKey) bad)
  own_unopened (fault.Slot s) bad = rw asked (say v copy.header.hdr_offset (content copy.meta) (metadata_of v copy x) (λ o j. IsUnkeyed2 key.allowed.older j key.bytes.now (fault.Slot s)) bad)
  own_unopened f bad = absurd bad
