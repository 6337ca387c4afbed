-- A keyslot that was made by the volume key opens by its passphrase to that key, though none was opened.
use Rattle.std.proofs.Common.{◌≡◌, ℕ, ◌≤◌, List, [], ◌∷◌, length, Bool, codes, true, false, Some, None, refl, sym, ap, subst, ◌∙◌}
use Rattle.serde_json.specs.Data.{Data as Value}
use Rattle.luks_rules.specs.declared.table.Member.TheVariants as name
use Rattle.luks_rules.specs.declared.table.Outer.TheVariants as outer
use Rattle.luks_rules.specs.declared.table.Section.TheVariants.{Digests}
use Rattle.luks_rules.specs.Faults.{member_at, object_at}
use Rattle.luks_rules.specs.Reading.{bytes_in, number_in, text_of}
use Rattle.luks_making.specs.Derivations.{beyond}
use Rattle.luks_making.specs.declared.derivation.NewDerivation.{NewDerivation}
use Rattle.luks_making.specs.Keyslots.{derivation_by, slot_value, NewMembers, SlotMembers}
use Rattle.luks_making.specs.Naming.{IsDigestOf}
use Rattle.luks_making.specs.Unchanged.{GainsSlot, KeepsOthers, SaysDerivation, SaysMembers}
use Rattle.luks_meta.proofs.Namings.{one_digest}
use Rattle.luks_slot.specs.declared.allowed.Allowed.{Allowed}
use Rattle.luks_slot.specs.declared.plan.Derivation.{Derivation}
use Rattle.luks_slot.specs.declared.plan.Derivation.TheVariants as derivation
use Rattle.luks_slot.specs.declared.plan.DigestPlan.{DigestPlan}
use Rattle.luks_slot.specs.declared.plan.SlotPlan.{SlotPlan}
use Rattle.luks_slot.specs.Refusal.{is_known_hash, slot_refusal_within}
use Rattle.luks_reading.specs.declared.report.Data.{Data}
use Rattle.luks_reading.specs.Answer.{opens, AnswerWithin}
use Rattle.luks_reading.specs.Header.{json_at}
use Rattle.luks_reading.specs.KeyDigests.{SaysDigest}
use Rattle.luks_reading.specs.Plans.{IsLuks2Derivation, IsLuks2Digest, IsLuks2Plan}
use Rattle.luks2_edit_laws.specs.declared.like.Like.{Like}
use Rattle.luks2_edit_laws.specs.declared.like.Like.TheVariants.{Keyslot, Digest}
use Rattle.luks2_edit_laws.specs.Edited.{HoldsKey, IsOwnKey}
use Rattle.luks2_edit_laws.specs.Likes.{derived_anew, digest_by, fresh_members, HasRefusal, IsAddedLike, IsLikeByKey, IsLikeOf, slot_by}
use Rattle.luks2_edit_laws.proofs.AfterFacts.{new_derivation, new_salt}
use Rattle.luks2_edit_laws.proofs.AlikeFacts.{chosen_opens, fresh_refusal, sealed_refusal, OpensAlike, SaysSealing}
use Rattle.luks2_edit_laws.specs.Metadata.{HasMetadata}
use Rattle.luks2_edit_laws.proofs.LikeFacts.{one_like_by_key}
use Rattle.luks2_edit_laws.proofs.MetadataFacts.{some_same}
use Rattle.luks2_edit_laws.proofs.OpenFacts.{holds_opens, one_plan, SameDigest}
use Rattle.luks2_edit_laws.proofs.VolumeFacts.{copy_meta, one_metadata, HasCopy, IsLayout}

-- a digest says of a keyslot that it names what it said before it named it
said_of : (k : Value) (n m : ℕ) (d : DigestPlan) (found now : Value) → SaysDigest found d → IsDigestOf k n m → object_at k Digests m ≡ Some now
    → KeepsOthers (codes "keyslots" ∷ []) found now → IsLuks2Digest k n d
said_of k n m d found now says names there same = record {
  number = m;
  names = names;
  object = now;
  there = there;
  hash = ap text_of (same (codes "hash") refl) ∙ says.hash;
  iterations = ap (number_in 1 4294967295) (same (codes "iterations") refl) ∙ says.iterations;
  salt = ap (bytes_in 1 128) (same (codes "salt") refl) ∙ says.salt;
  stored = ap (bytes_in 20 64) (same (codes "digest") refl) ∙ says.stored;
}

-- the digest of a keyslot that is there
said_in : (j : Value) (n m : ℕ) (d : DigestPlan) (found : Value) → SaysDigest found d → IsDigestOf j n m → object_at j Digests m ≡ Some found → IsLuks2Digest j n d
said_in j n m d found says names there = record {
  number = m;
  names = names;
  object = found;
  there = there;
  hash = says.hash;
  iterations = says.iterations;
  salt = says.salt;
  stored = says.stored;
}

-- the hash of a keyslot's splitter, and its derivation, by what is chosen
module _ (allowed : Allowed) (k : Value) (n : ℕ) (s : SlotMembers) (found : Value) (is : found ≡ slot_value s) (says : SaysMembers s (slot_value s))
    (c : NewDerivation) (chosen : s.derivation ≡ derivation_by s.splitter_hash c) (long : 8 ≤ length s.salt) (within : beyond allowed.memory c ≡ false) where
  derived_as : (a : Derivation) (plan : SlotPlan) → IsLuks2Plan k n found plan → OpensAlike allowed s.splitter_hash a plan.derivation
  derived_as a plan told =
      chosen_opens allowed s.splitter_hash s.salt (slot_value s) says.salt long c a plan.derivation within
      (subst (λ x. SaysDerivation x (slot_value s)) chosen says.derivation) (subst (λ d. IsLuks2Derivation d plan.derivation) is told.derivation)

-- one that is made like a keyslot of the digest isn't refused
module _
    (allowed : Allowed) (v : List ℕ) (o h : ℕ) (payload : Data) (j k : Value) (before : HasCopy v o h j) (was : IsLayout h (length v) payload j)
    (by_ n m : ℕ) (told : DigestPlan) (found : Value) (says_told : SaysDigest found told) (there : object_at j Digests m ≡ Some found)
    (f : NewMembers) (a : IsAddedLike n (Keyslot by_) f j k) (names : IsDigestOf j by_ m) (accepted : HasRefusal allowed.older j (Keyslot by_) None)
    (new : Value) (is : new ≡ slot_value a.slot) (says : SaysMembers a.slot (slot_value a.slot))
    (c : NewDerivation) (chosen : a.slot.derivation ≡ derivation_by a.slot.splitter_hash c) (long : 8 ≤ length a.slot.salt) (within : beyond allowed.memory c ≡ false)
  where
    from_same : a.from ≡ accepted.object
    from_same = some_same a.from accepted.object (sym a.there.is ∙ accepted.there.is)

    like_sealed : SaysSealing accepted.object new
    like_sealed = record {
      encryption = ap (λ x. text_of (member_at x outer.Area name.Encryption)) is ∙ says.encryption ∙ sym a.made.encryption
          ∙ ap (λ x. text_of (member_at x outer.Area name.Encryption)) from_same;
      area_key = ap (λ x. number_in 1 128 (member_at x outer.Area name.KeySize)) is ∙ says.area_key_size ∙ sym a.made.area_key_size
          ∙ ap (λ x. number_in 1 128 (member_at x outer.Area name.KeySize)) from_same;
      splitter = ap (λ x. text_of (member_at x outer.Af name.Hash)) is ∙ says.splitter_hash ∙ sym a.made.splitter_hash
          ∙ ap (λ x. text_of (member_at x outer.Af name.Hash)) from_same;
    }

    splitter_is : a.slot.splitter_hash ≡ accepted.plan.splitter_hash.now
    splitter_is = some_same a.slot.splitter_hash accepted.plan.splitter_hash.now
        (sym a.made.splitter_hash ∙ ap (λ x. text_of (member_at x outer.Af name.Hash)) from_same ∙ accepted.is.splitter_hash)

    one : (x y : ℕ) → IsDigestOf j by_ x → IsDigestOf j by_ y → x ≡ y
    one = λ x y. one_digest (json_at v o) j (copy_meta v o h j before was.held) by_ x y

    -- its digest is the one that the key meets
    digest_same : SameDigest accepted.plan.digest told
    digest_same = one_plan j by_ accepted.plan.digest told one accepted.is.digest (said_in j by_ m told found says_told names there)

    like_fine : (plan : SlotPlan) → IsLuks2Plan k n new plan → SameDigest told plan.digest → slot_refusal_within allowed plan ≡ None
    like_fine plan z same =
        let alike : OpensAlike allowed a.slot.splitter_hash (derived_anew accepted.plan).derivation plan.derivation =
        derived_as allowed k n a.slot new is says c chosen long within (derived_anew accepted.plan).derivation plan z in
        let open_ : slot_refusal_within allowed (derived_anew accepted.plan) ≡ None = accepted.refused in
        sym (sealed_refusal allowed (derived_anew accepted.plan) plan like_sealed (subst (λ x. OpensAlike allowed x (derived_anew accepted.plan).derivation plan.derivation) splitter_is alike) open_
        (record { cipher = accepted.is.cipher; area_key_bytes = accepted.is.area_key_bytes; splitter_hash = accepted.is.splitter_hash }) z (digest_same.hash ∙ same.hash)) ∙ open_

-- nor is one like that of a new volume
sha256_known : (older : Bool) → is_known_hash older (codes "sha256") ≡ true
sha256_known false = refl
sha256_known true = refl

module _
    (allowed : Allowed) (k : Value) (n key_bytes : ℕ) (f : NewMembers) (told : DigestPlan) (known : is_known_hash allowed.older told.hash.now ≡ true)
    (new : Value) (is : new ≡ slot_value (fresh_members key_bytes f)) (says : SaysMembers (fresh_members key_bytes f) (slot_value (fresh_members key_bytes f)))
    (c : NewDerivation) (chosen : (fresh_members key_bytes f).derivation ≡ derivation_by (codes "sha256") c) (long : 8 ≤ length f.salt) (within : beyond allowed.memory c ≡ false)
  where
    fresh_fine : (plan : SlotPlan) → IsLuks2Plan k n new plan → SameDigest told plan.digest → slot_refusal_within allowed plan ≡ None
    fresh_fine plan z same =
        let other : Derivation = derivation.Pbkdf2 told.hash 1000 told.salt in
        let alike : OpensAlike allowed (codes "sha256") other plan.derivation = derived_as allowed k n (fresh_members key_bytes f) new is says c chosen long within other plan z in
        let splitter : plan.splitter_hash.now ≡ codes "sha256" = some_same plan.splitter_hash.now (codes "sha256")
        (sym z.splitter_hash ∙ ap (λ x. text_of (member_at x outer.Af name.Hash)) is ∙ says.splitter_hash) in
        fresh_refusal allowed plan z (ap (λ x. text_of (member_at x outer.Area name.Encryption)) is ∙ says.encryption)
        (ap (λ x. number_in 1 128 (member_at x outer.Area name.KeySize)) is ∙ says.area_key_size) (alike.argon2 refl) (alike.known (sha256_known allowed.older) known)
        (subst (λ x. is_known_hash allowed.older x ≡ true) (sym splitter) (sha256_known allowed.older))
        (subst (λ x. is_known_hash allowed.older x ≡ true) same.hash known)

-- ---- no plan of the keyslot is refused

module _
    (allowed : Allowed) (v : List ℕ) (o h : ℕ) (payload : Data) (j k : Value) (n : ℕ) (key : List ℕ) (before : HasCopy v o h j) (was : IsLayout h (length v) payload j)
    (f : NewMembers) (c : NewDerivation) (chosen : f.derivation.chosen ≡ Some c) (long : 8 ≤ length f.salt) (within : beyond allowed.memory c ≡ false)
    (like : Like) (is : IsLikeByKey allowed.older j key like) (accepted : HasRefusal allowed.older j like None) (a : IsAddedLike n like f j k)
    (gains : GainsSlot n (digest_by n like f j k a) (slot_by n like f j k a) j k) (says : SaysMembers (slot_by n like f j k a) (slot_value (slot_by n like f j k a)))
  where
    -- the digest that the key meets names it
    own_digest : digest_by n like f j k a ≡ is.digest
    own_digest = digest_same_by like is.like_is a
      where
        digest_same_by : (it : Like) → IsLikeOf j is.digest (length key) it → (x : IsAddedLike n it f j k) → digest_by n it f j k x ≡ is.digest
        digest_same_by (Keyslot by_) y x = one_digest (json_at v o) j (copy_meta v o h j before was.held) by_ x.digest is.digest x.names y.names
        digest_same_by (Digest number key_bytes) y x = y.number_is

    own_gains : GainsSlot n is.digest (slot_by n like f j k a) j k
    own_gains = subst (λ m. GainsSlot n m (slot_by n like f j k a) j k) own_digest gains

    pub own_told : IsLuks2Digest k n is.is.meets.digest
    own_told =
        let takes = is.is.meets.takes in
        let now = own_gains.rest.digests.there is.digest takes.object takes.there.is in
        said_of k n is.digest is.is.meets.digest takes.object now.0 takes.says own_gains.names now.1 now.2

    fine_by : (it : Like) → IsLikeOf j is.digest (length key) it → HasRefusal allowed.older j it None → (x : IsAddedLike n it f j k)
        → SaysMembers (slot_by n it f j k x) (slot_value (slot_by n it f j k x)) → (found : Value) → found ≡ slot_value (slot_by n it f j k x)
        → (plan : SlotPlan) → IsLuks2Plan k n found plan → SameDigest is.is.meets.digest plan.digest → slot_refusal_within allowed plan ≡ None
    fine_by (Keyslot by_) y fine x said found same plan z digests =
        like_fine allowed v o h payload j k before was by_ n is.digest is.is.meets.digest is.is.meets.takes.object is.is.meets.takes.says is.is.meets.takes.there.is f x y.names fine
        found same said c (new_derivation n (Keyslot by_) f j k x c chosen) (subst (λ s. 8 ≤ length s) (sym (new_salt n (Keyslot by_) f j k x)) long) within plan z digests
    fine_by (Digest number key_bytes) y fine x said found same plan z digests =
        fresh_fine allowed k n key_bytes f is.is.meets.digest is.is.meets.known found same said c (new_derivation n (Digest number key_bytes) f j k x c chosen) long within plan z digests

    pub own_fine : (found : Value) → found ≡ slot_value (slot_by n like f j k a) → (plan : SlotPlan) → IsLuks2Plan k n found plan → SameDigest is.is.meets.digest plan.digest
        → slot_refusal_within allowed plan ≡ None
    own_fine found same plan z digests = fine_by like is.like_is accepted a says found same plan z digests

    -- so it opens where it holds the key
    pub own_opens : (w : List ℕ) (p : ℕ) (new random : List ℕ) → HasCopy w p h k → IsLayout h (length w) payload k → HoldsKey w k n new key random → AnswerWithin allowed w n new (opens key)
    own_opens w p new random after layout y =
        holds_opens allowed w payload p h k n new key random is.is.meets.digest is.is.meets.meets after layout y
        (λ plan z digests. own_fine y.object (some_same y.object (slot_value (slot_by n like f j k a)) (sym y.there.is ∙ gains.there)) plan z digests)
        (λ m l. one_digest (json_at w p) k (copy_meta w p h k after layout.held) n m l) own_told

-- what the volume key's own metadata say, those say that count
pub own_accepted : (older : Bool) (v bytes : List ℕ) (o : ℕ) (j : Value) (like : Like) → HasMetadata v o j → IsOwnKey older v bytes → IsLikeByKey older j bytes like → HasRefusal older j like None
own_accepted older v bytes o j like m own is =
    let value : own.value ≡ j = one_metadata v o own.place m.copies own.metadata.copies j own.value m.chosen m.holds own.metadata.chosen own.metadata.holds in
    let there : IsLikeByKey older j bytes own.like = subst (λ i. IsLikeByKey older i bytes own.like) value own.is_like in
    let same : own.like ≡ like = one_like_by_key older j bytes own.like like there is in
    subst (λ l. HasRefusal older j l None) same (subst (λ i. HasRefusal older i own.like None) value own.accepted)
