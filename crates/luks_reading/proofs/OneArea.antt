-- A name has one area.
use Rattle.std.proofs.Common.{◌≡◌, ℕ, List, length, subst}
use Rattle.luks_area.specs.declared.area.Area.{Area}
use Rattle.luks_area.specs.declared.area.AreaName.{AreaName}
use Rattle.luks_area.specs.Ranges.{part}
use Rattle.luks2_header.specs.Header2.{header_at, hdr_size}
use Rattle.luks2_header.specs.Selection.{Choice, luks1, luks2, nothing}
use Rattle.luks2_header.proofs.ChoiceFacts.{choices_agree}
use Rattle.luks_rules.proofs.AreaFaults.{one_value}
use Rattle.luks_reading.specs.declared.report.Data.{Data}
use Rattle.luks_reading.specs.Checked.{AreaOf, HasAreaAs}
use Rattle.luks_reading.specs.Header.{json_at}
use Rattle.luks_reading.specs.Layout2.{Luks2Area}
use Rattle.luks_reading.proofs.Luks1AreaFacts.{luks1_area-unique}
use Rattle.luks_reading.proofs.Luks2AreaFacts.{luks2_area-unique}

one_as : (v : List ℕ) (payload : Data) (c : Choice) (n : AreaName) (a b : Area) → HasAreaAs v payload c n a → HasAreaAs v payload c n b → a ≡ b
one_as v payload luks1 n a b x y = luks1_area-unique (part v 0 592) payload (length v) n a b x y
one_as v payload (luks2 o copies) n a b x y =
    luks2_area-unique x.value (hdr_size (header_at v o)) payload (length v) n a b x.area
    (subst (λ j. Luks2Area j (hdr_size (header_at v o)) payload (length v) n b) (one_value (json_at v o) y.value x.value y.holds x.holds) y.area)
one_as v payload nothing n a b x y = absurd x

pub one_area : (v : List ℕ) (payload : Data) (n : AreaName) (a b : Area) → AreaOf v payload n a → AreaOf v payload n b → a ≡ b
one_area v payload n a b x y =
    one_as v payload x.choice n a b x.area
    (subst (λ c. HasAreaAs v payload c n b) (choices_agree v y.choice x.choice y.chosen x.chosen) y.area)
