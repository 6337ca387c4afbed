-- The metadata that an edit of a LUKS2 volume makes with a keyslot that it seals.
use Rattle.std.proofs.Common.{◌≡◌, ℕ, ◌+◌, ◌-◌, ◌*◌, ◌≤◌, List, length, Option, Some, None, is_some, true, refl, sym, subst, ◌∙◌, arith}
use Rattle.std.proofs.lemmas.Bool.{false≢true}
use Rattle.std.proofs.lemmas.Option.{same_Some}
use Rattle.serde_json.specs.Data.{Data as Value}
use Rattle.luks_area.specs.declared.area.Area.{Area}
use Rattle.luks_area.specs.Sectors.{rounded_to_sectors}
use Rattle.luks_rules.specs.declared.table.Section.TheVariants.{Keyslots}
use Rattle.luks_rules.specs.Faults.{object_at}
use Rattle.luks_rules.specs.Sizes.{region_start}
use Rattle.luks_making.specs.declared.derivation.AskedDerivation.{AskedDerivation}
use Rattle.luks_making.specs.Conditions.{CanSeal, IsInRegion, IsThere}
use Rattle.luks_making.specs.Derivations.{IsPositive}
use Rattle.luks_reading.specs.declared.report.Data.{Data}
use Rattle.luks_edit.specs.declared.edit.Edit.{Edit}
use Rattle.luks_edit.specs.declared.deed.Deed.{Deed}
use Rattle.luks_edit.specs.declared.deed.Deed.TheVariants as deed
use Rattle.luks_edit.specs.declared.deed.Place.{Place}
use Rattle.luks_edit.specs.declared.deed.Place.TheVariants.{New, Opened}
use Rattle.luks_edit.specs.declared.deed.Sealed.{Sealed}
use Rattle.luks_edit.specs.declared.edit.Opener.TheVariants as opener
use Rattle.luks_edit.specs.Asked.{deed_of, MatchPlace, opener_at}
use Rattle.luks2_edit_laws.specs.declared.like.Like.{Like}
use Rattle.luks2_edit_laws.specs.declared.like.Like.TheVariants.{Keyslot, Digest}
use Rattle.luks2_edit_laws.specs.Likes.{ForLike}
use Rattle.luks2_edit_laws.specs.Edited.{members_of, HasAdded, HasChanged, IsEdited}
use Rattle.luks2_edit_laws.specs.Metadata.{HasStripes, IsInUse}
use Rattle.luks2_edit_laws.specs.Places.{rounded_to_blocks, IsNewArea}
use Rattle.luks2_edit_laws.specs.Refused.{Need2, NeedsLike}
use Rattle.luks2_edit_laws.proofs.LikeFacts.{model_by_key, IsModel}
use Rattle.luks2_edit_laws.proofs.PlaceFacts.{sectors_in_blocks}
use Rattle.luks2_edit_laws.proofs.ToldFacts.{same_stripes}
use Rattle.luks2_judging.specs.Keys.{IsThereLike as IsThereForNeed}
use Rattle.luks2_judging.specs.Room.{IsPlaced, IsSealableLike}
use Rattle.luks2_judging.proofs.KeyslotFacts.{there_of}
use Rattle.luks2_editing.specs.declared.sealed_metadata.SealedSlot.{SealedSlot}
use Rattle.luks2_editing.specs.declared.sealed_metadata.SealedSlot.TheVariants.{Made, Renewed}
use Rattle.luks2_editing.specs.MadeMetadata.{like_of, AsksFor, AsksOf, CanMake, CanSealLike, HasDigest, IsMadeBy, IsThereLike}

-- ---- the area that is found for a keyslot

-- it holds the stripes, and lies in the region
placed_large : (len : ℕ) (j : Value) (total : ℕ) (like : Like) (area : Area) (x : IsPlaced len j total like area) (key stripes : ℕ) → key ≡ x.blocks.key_bytes → stripes ≡ x.blocks.stripes
    → rounded_to_sectors (key * stripes) ≤ area.len
placed_large len j total like area x key stripes key_is stripes_is =
    let fits : rounded_to_sectors (x.blocks.key_bytes * x.blocks.stripes) ≤ rounded_to_blocks (x.blocks.key_bytes * x.blocks.stripes) = sectors_in_blocks (x.blocks.key_bytes * x.blocks.stripes) in
    rw (key_is, stripes_is, x.blocks.is) fits

placed_within : (len : ℕ) (j : Value) (total : ℕ) (like : Like) (area : Area) → IsPlaced len j total like area → IsInRegion len j area.start area.len
placed_within len j total like area x = λ bytes says.
    (let region : x.bytes ≡ bytes = same_Some x.bytes bytes (sym x.bytes_are ∙ says) in
    (x.from, subst (λ b. area.start + area.len ≤ region_start len + b) region x.to))

-- what is there is some object
some_object : (o : Option Value) → is_some o ≡ true → (d : Value) × (o ≡ Some d)
some_object None there = absurd (false≢true there)
some_object (Some d) there = (d, refl)

-- the keyslot like which it is made is there, if it is one
pub placed_there : (len : ℕ) (j : Value) (total : ℕ) (like : Like) (area : Area) → IsPlaced len j total like area → IsThereForNeed j like
placed_there len j total like area x = there_of j like x.blocks.can

-- it suits the keyslot
slot_suits : (len : ℕ) (j : Value) (total n : ℕ) (area : Area) (derivation : AskedDerivation) (salt : List ℕ)
    → IsPlaced len j total (Keyslot n) area → IsThere j n → IsPositive derivation → length salt ≡ 32 → CanSeal len j n (members_of derivation salt area)
slot_suits len j total n area derivation salt x slot positive long = record {
  slot = slot;
  derivation = positive;
  salt = record { from = omega (arith, long); to = omega (arith, long) };
  large = λ key stripes is_key are_stripes. (
      let here : HasStripes j n key stripes = record { object = slot.object; there = slot.there; key_bytes_are = is_key; stripes_are = are_stripes } in
      let same = same_stripes j n key stripes x.blocks.key_bytes x.blocks.stripes here x.blocks.slot in
      placed_large len j total (Keyslot n) area x key stripes same.key_bytes same.stripes);
  within = placed_within len j total (Keyslot n) area x;
}

-- so it does one that is made as a new volume has it
digest_suits : (len : ℕ) (j : Value) (total number key_bytes : ℕ) (area : Area) (derivation : AskedDerivation) (salt : List ℕ)
    → IsPlaced len j total (Digest number key_bytes) area → HasDigest j number → IsPositive derivation → length salt ≡ 32 → CanMake len j number key_bytes (members_of derivation salt area)
digest_suits len j total number key_bytes area derivation salt x there positive long = record {
  digest = there;
  key = record { from = x.blocks.can.0; to = x.blocks.can.1 };
  derivation = positive;
  salt = record { from = omega (arith, long); to = omega (arith, long) };
  large = placed_large len j total (Digest number key_bytes) area x key_bytes 4000 (sym x.blocks.slot.0) (sym x.blocks.slot.1);
  within = placed_within len j total (Digest number key_bytes) area x;
}

pub placed_suits : (len : ℕ) (j : Value) (total : ℕ) (like : Like) (area : Area) (derivation : AskedDerivation) (salt : List ℕ)
    → IsPlaced len j total like area → IsThereLike j like → IsPositive derivation → length salt ≡ 32 → CanSealLike len j like (members_of derivation salt area)
placed_suits len j total (Keyslot n) area derivation salt x there positive long = slot_suits len j total n area derivation salt x there positive long
placed_suits len j total (Digest number key_bytes) area derivation salt x there positive long = digest_suits len j total number key_bytes area derivation salt x there positive long

-- ---- the edit

-- what is made by it is what it makes
made_place : (h total : ℕ) (payload : Data) (place : Place) (own : AskedDerivation) (j k : Value) (keyslot : SealedSlot) (derivation : AskedDerivation) (salt : List ℕ) (area : Area)
    → AsksOf place own j keyslot derivation → IsNewArea h total payload j (like_of keyslot) area → IsMadeBy keyslot (members_of derivation salt area) j k
    → MatchPlace place (λ o to. ForLike j o (HasAdded h total payload to own salt j k)) (λ slot secret. HasChanged h total payload slot own salt j k)
made_place h total payload (New o to) own j k (Made slot like) derivation salt area asked place made = record {
  like = like;
  is_like = asked.0;
  has = subst (λ i. HasAdded h total payload to i salt j k like) asked.1 (record { slot = slot; is_new = asked.2; area = area; place = place; is = made.added });
}
made_place h total payload (New o to) own j k (Renewed slot) derivation salt area asked place made = absurd asked
made_place h total payload (Opened named secret) own j k (Made slot like) derivation salt area asked place made = absurd asked
made_place h total payload (Opened named secret) own j k (Renewed slot) derivation salt area asked place made =
    subst (λ i. HasChanged h total payload named i salt j k) asked.1
    (subst (λ m. HasChanged h total payload m derivation salt j k) asked.0
    (record { area = area; place = place; is = made.is }))

-- no other edit seals one
asks_sealed : (e : Edit) (j : Value) (keyslot : SealedSlot) (derivation : AskedDerivation) → AsksFor e j keyslot derivation → (s : Sealed) × ((deed_of e ≡ deed.Seal s) × AsksOf s.place s.derivation j keyslot derivation)
asks_sealed e j keyslot derivation asked = asks_by (deed_of e) refl
  where
    asks_by : (d : Deed) → deed_of e ≡ d → (s : Sealed) × ((deed_of e ≡ deed.Seal s) × AsksOf s.place s.derivation j keyslot derivation)
    asks_by (deed.Seal s) is = (s, (is, rw is at asked))
    asks_by (deed.Remove r) is = absurd (rw is at asked)
    asks_by (deed.Rewrite r) is = absurd (rw is at asked)
    asks_by deed.Erase is = absurd (rw is at asked)

pub made_edited : (h total : ℕ) (payload : Data) (e : Edit) (j k : Value) (keyslot : SealedSlot) (derivation : AskedDerivation) (salt : List ℕ) (area : Area)
    → AsksFor e j keyslot derivation → IsNewArea h total payload j (like_of keyslot) area → IsMadeBy keyslot (members_of derivation salt area) j k
    → IsEdited h total payload e salt j k
made_edited h total payload e j k keyslot derivation salt area asked place made =
    let s = asks_sealed e j keyslot derivation asked in
    rw s.1.0 (made_place h total payload s.0.place s.0.derivation j k keyslot derivation salt area s.1.1 place made)

-- it takes as many random bytes as a keyslot like that
need_place : (place : Place) (own : AskedDerivation) (j : Value) (keyslot : SealedSlot) (derivation : AskedDerivation) (k : ℕ) → AsksOf place own j keyslot derivation → NeedsLike j k (like_of keyslot)
    → ForLike j (opener_at place) (NeedsLike j k)
need_place (New o to) own j (Made slot like) derivation k asked need = record { like = like; is_like = asked.0; has = need }
need_place (New o to) own j (Renewed slot) derivation k asked need = absurd asked
need_place (Opened named secret) own j (Made slot like) derivation k asked need = absurd asked
need_place (Opened named secret) own j (Renewed slot) derivation k asked need =
    record { like = Keyslot named; is_like = refl; has = subst (λ m. NeedsLike j k (Keyslot m)) asked.0 need }

pub asked_need : (e : Edit) (j : Value) (keyslot : SealedSlot) (derivation : AskedDerivation) (k : ℕ) → AsksFor e j keyslot derivation → NeedsLike j k (like_of keyslot) → Need2 j e k
asked_need e j keyslot derivation k asked need =
    let s = asks_sealed e j keyslot derivation asked in
    rw s.1.0 (need_place s.0.place s.0.derivation j keyslot derivation k s.1.1 need)

-- what it is made like is there
there_model : (j : Value) (like : Like) → IsModel j like → IsThereLike j like
there_model j (Keyslot n) x = x
there_model j (Digest number key_bytes) x = record { object = x.object; there = x.there }

there_slot : (j : Value) (n : ℕ) → IsInUse j n → IsThereLike j (Keyslot n)
there_slot j n used = (let x = some_object (object_at j Keyslots n) used.1 in record { object = x.0; there = record { numbered = refl; named = used.0; is = x.1 } })

there_place : (len : ℕ) (j : Value) (total : ℕ) (area : Area) (place : Place) (own : AskedDerivation) (keyslot : SealedSlot) (derivation : AskedDerivation) → AsksOf place own j keyslot derivation
    → IsPlaced len j total (like_of keyslot) area → IsThereLike j (like_of keyslot)
there_place len j total area place own (Renewed slot) derivation asked x = there_slot j slot x.blocks.can
there_place len j total area (New (opener.Keyslot slot secret) to) own (Made made like) derivation asked x =
    subst (IsThereLike j) (sym asked.0) (there_slot j slot (subst (IsSealableLike j) asked.0 x.blocks.can))
there_place len j total area (New (opener.Key key) to) own (Made made like) derivation asked x = there_model j like (model_by_key key.allowed.older j key.bytes.now like asked.0)
there_place len j total area (Opened slot secret) own (Made made like) derivation asked x = absurd asked

pub asked_there : (len : ℕ) (j : Value) (total : ℕ) (area : Area) (e : Edit) (keyslot : SealedSlot) (derivation : AskedDerivation) → AsksFor e j keyslot derivation
    → IsPlaced len j total (like_of keyslot) area → IsThereLike j (like_of keyslot)
asked_there len j total area e keyslot derivation asked x =
    let s = asks_sealed e j keyslot derivation asked in
    there_place len j total area s.0.place s.0.derivation keyslot derivation s.1.1 x

-- as many random bytes are enough for the salt
pub enough_random : (j : Value) (like : Like) (k : ℕ) → NeedsLike j k like → 160 ≤ k
enough_random j like k x = let count : k ≡ 64 + 64 + 32 + (x.stripes - 1) * x.key_bytes = x.count in omega (arith, count)
