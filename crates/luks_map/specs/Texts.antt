-- What an area is, as its row says it.
use Rattle.std.specs.Prelude.{ℕ, List, ◌++◌, codes}
use Rattle.std.specs.Fmt.{decimal}
use Rattle.luks1_header.specs.declared.luks1.SlotState.TheVariants.{Enabled, Disabled}
use Rattle.luks_map.specs.declared.part.Part.{Part}
use Rattle.luks_map.specs.declared.part.Part.TheVariants.{Luks1Header, FirstCopy, SecondCopy, Luks1Keyslot, Luks2Keyslot, Segment, InHand}

abbrev pub part_text : Part → List ℕ
part_text Luks1Header = codes "header"
part_text FirstCopy = codes "header, copy 1"
part_text SecondCopy = codes "header, copy 2"
part_text (Luks1Keyslot n Enabled) = codes "keyslot " ++ decimal n ++ codes " enabled"
part_text (Luks1Keyslot n Disabled) = codes "keyslot " ++ decimal n ++ codes " disabled"
part_text (Luks2Keyslot n) = codes "keyslot " ++ decimal n
part_text (Segment n) = codes "segment " ++ decimal n
part_text (InHand n) = codes "segment " ++ decimal n ++ codes " in hand"
