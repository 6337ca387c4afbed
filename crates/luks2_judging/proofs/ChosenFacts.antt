-- What the copy that was read says of the volume.
use Rattle.std.proofs.Common.{◌≡◌, ℕ, List, ap, subst}
use Rattle.serde_json.specs.Data.{Data as Value}
use Rattle.luks2_header.specs.Selection.{Choice, luks1, luks2, nothing}
use Rattle.luks2_header.proofs.ChoiceFacts.{choices_agree}
use Rattle.luks_rules.specs.MetaFault.{Json}
use Rattle.luks_rules.proofs.AreaFaults.{one_value}
use Rattle.luks_meta.specs.Content.{content}
use Rattle.luks_reading.specs.declared.header.ChosenCopy.{ChosenCopy}
use Rattle.luks_reading.specs.Header.{json_at, IsChosenCopy}
use Rattle.luks2_edit_laws.specs.Metadata.{HasMetadata}
use Rattle.luks2_edit_laws.specs.Refused.{HasSaid}

abbrev place_of : Choice → ℕ
place_of luks1 = 0
place_of (luks2 o copies) = o
place_of nothing = 0

pub metadata_of : (v : List ℕ) (c : ChosenCopy) → IsChosenCopy v c → HasMetadata v c.header.hdr_offset (content c.meta)
metadata_of v c x = record { copies = c.copies; chosen = x.chosen; holds = x.metadata.json }

module _ (v : List ℕ) (o : ℕ) (j : Value) (m : HasMetadata v o j) where
  -- what a volume's metadata says is said of the copy that was read
  pub said : (says : ℕ → Value → Type 0) → HasSaid v says → says o j
  said says s =
      let place : s.place ≡ o = ap place_of (choices_agree v (luks2 s.place s.metadata.copies) (luks2 o m.copies) s.metadata.chosen m.chosen) in
      let same : s.value ≡ j = one_value (json_at v o) s.value j (subst (λ n. Json (json_at v n) s.value) place s.metadata.holds) m.holds in
      subst (λ i. says o i) same (subst (λ n. says n s.value) place s.is)

  pub say : (says : ℕ → Value → Type 0) → says o j → HasSaid v says
  say says x = record { place = o; value = j; metadata = m; is = x }
