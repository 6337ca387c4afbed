-- The uuid's field of a header after an edit.
use Rattle.std.proofs.Common.{◌≡◌, ◌⊎◌, ℕ, ◌↔◌, List, take, Option, Some, None, ap, subst, sym, ◌∙◌, inl, inr}
use Rattle.luks_area.specs.Text.{text_of}
use Rattle.luks1_header.specs.Bytes.{IsUuid}
use Rattle.luks1_header.specs.declared.fault.HeadFault.{HeadFault}
use Rattle.luks1_header.proofs.DecidableFacts.{uuid_or_not}
use Rattle.luks2_header.specs.Header2.{hdr_size, header_at, uuid_field, IsUuidFault, IsUuidField}
use Rattle.luks2_header.proofs.UuidFacts.{field_text, fills, uuid_text-is}
use Rattle.luks_reading.proofs.VolumeLaws.{uuid_faultless}
use Rattle.luks_reading.specs.declared.report.Data.{Data}
use Rattle.luks_edit.specs.declared.edit.Edit.{Edit}
use Rattle.luks_edit.specs.declared.edit_fault.EditFault.TheVariants.{BadUuid}
use Rattle.luks_edit.specs.declared.new_uuid.NewUuid.{NewUuid}
use Rattle.luks_edit.specs.declared.new_uuid.NewUuid.TheVariants.{Text, Random}
use Rattle.luks_edit.specs.Asked.{uuid_by}
use Rattle.luks_edit.specs.NewUuids.{new_uuid_text, uuid_field_after, HasBadUuid, IsBadUuid}
use Rattle.luks2_edit_laws.specs.Copies.{uuid_after, uuid_random}
use Rattle.luks2_edit_laws.specs.Edited.{After2}
use Rattle.luks2_edit_laws.specs.Refused.{IsUnrefused2}

-- the fields of two uuids have the same faults: none
pub same_faults : (a b : List ℕ) → IsUuidField a → IsUuidField b → (f : HeadFault) → IsUuidFault a f ↔ IsUuidFault b f
same_faults a b one other f = (λ bad. absurd ((uuid_faultless a).1 one f bad), λ bad. absurd ((uuid_faultless b).1 other f bad))

-- the text that is set is that of a uuid
text_is : (uuid : NewUuid) (random : List ℕ) → (IsBadUuid (Some uuid) → ⊥) → IsUuid (new_uuid_text uuid random)
text_is (Text text) random good = elim (uuid_or_not text.now) [
  | inl is ↦ is
  | inr not ↦ absurd (good not)
]
text_is Random random good = uuid_text-is (take 16 random)

-- a field with the uuid that is given, or as it was
given_fills : (given : Option NewUuid) (random field_ : List ℕ) → (IsBadUuid given → ⊥) → IsUuidField field_ → IsUuidField (uuid_field_after given random field_)
given_fills None random field_ good was = was
given_fills (Some uuid) random field_ good was = fills (new_uuid_text uuid random) (text_is uuid random good)

-- the field of a uuid is one after an edit
pub uuid_stays : (e : Edit) (random field_ : List ℕ) → (HasBadUuid e → ⊥) → IsUuidField field_ → IsUuidField (uuid_after e random field_)
uuid_stays e random field_ good was = given_fills (uuid_by e) (uuid_random random) field_ good was

-- ---- an edit that sets the uuid

module _ (v : List ℕ) (payload : Data) (e : Edit) (random w : List ℕ) (uuid : NewUuid) (free : IsUnrefused2 v payload e random) (a : After2 v payload e random w)
    (is : uuid_by e ≡ Some uuid) where
  set_is : IsUuid (new_uuid_text uuid (uuid_random random))
  set_is = text_is uuid (uuid_random random) (subst (λ o. IsBadUuid o → ⊥) is (free.none BadUuid))

  set_text : (field_ : List ℕ) → text_of (uuid_after e random field_) ≡ new_uuid_text uuid (uuid_random random)
  set_text field_ = ap (λ o. text_of (uuid_field_after o (uuid_random random) field_)) is ∙ field_text (new_uuid_text uuid (uuid_random random)) set_is

  -- both copies have its text
  pub copies_say : (q : ℕ) → (q ≡ 0) ⊎ (q ≡ hdr_size (header_at v a.place)) → text_of (uuid_field (header_at w q)) ≡ new_uuid_text uuid (uuid_random random)
  copies_say q (inl zero) = ap (λ p. text_of (uuid_field (header_at w p))) zero ∙ ap text_of a.first.renewed.uuid ∙ set_text (uuid_field (header_at v a.place))
  copies_say q (inr second) = ap (λ p. text_of (uuid_field (header_at w p))) second ∙ ap text_of a.second.renewed.uuid ∙ set_text (uuid_field (header_at v a.place))

  -- which is that of a uuid
  pub copies_have : (q : ℕ) → (q ≡ 0) ⊎ (q ≡ hdr_size (header_at v a.place)) → IsUuid (text_of (uuid_field (header_at w q)))
  copies_have q at = subst IsUuid (sym (copies_say q at)) set_is
