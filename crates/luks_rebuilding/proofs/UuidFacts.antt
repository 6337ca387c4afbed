-- The uuid of the new header, by where it was found.
use Rattle.std.proofs.Common.{◌≡◌, ℕ, List, ◌++◌, replicate, Some, None, refl, inl, inr}
use Rattle.luks_area.specs.Text.{text_of}
use Rattle.luks2_header.specs.Header2.{header_at, uuid_field}
use Rattle.luks2_header.specs.NewUuid.{uuid_text}
use Rattle.luks2_header.proofs.UuidFacts.{uuid_text-is}
use Rattle.luks_rebuilding.specs.Found.{FindsUuid, IsOwnField}
use Rattle.luks_rebuilding.specs.Rebuilt.{other_at, uuid_bytes}

module _ (v : List ℕ) (size at : ℕ) (random field_ : List ℕ) where
  pub kept_own : FindsUuid v at (Some field_) → IsOwnField v size at None random field_
  kept_own found = record {
    uuid = text_of (uuid_field (header_at v at));
    own = inl (record { there = found.0; is = refl });
    is_uuid = found.0.uuid;
    fills = found.1;
  }

  pub other_own : FindsUuid v at None → FindsUuid v (other_at size at) (Some field_) → IsOwnField v size at None random field_
  other_own lacks found = record {
    uuid = text_of (uuid_field (header_at v (other_at size at)));
    own = inr (lacks, inl (record { there = found.0; is = refl }));
    is_uuid = found.0.uuid;
    fills = found.1;
  }

  pub new_own : FindsUuid v at None → FindsUuid v (other_at size at) None → field_ ≡ uuid_text (uuid_bytes random) ++ replicate 4 0 → IsOwnField v size at None random field_
  new_own lacks none is = record {
    uuid = uuid_text (uuid_bytes random);
    own = inr (lacks, inr (none, refl));
    is_uuid = uuid_text-is (uuid_bytes random);
    fills = is;
  }
