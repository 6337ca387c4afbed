-- The fields of the texts that a LUKS2 binary header has, its uuid, its label and its subsystem (LUKS2 On-Disk
-- Format 1.1, 2.1), as they are and as an edit sets them.
use Rattle.luks2_header.specs.declared.bin2.Bin2.{Bin2}
use Rattle.luks_edit.specs.declared.deed.Rewritten.{Rewritten}
use Rattle.luks2_edit_laws.specs.Copies.{field_after}
use Rattle.luks2_judging.specs.declared.judged.TextFields.{TextFields}

abbrev pub texts_of : Bin2 → TextFields
texts_of h = record { uuid = h.uuid; label = h.label; subsystem = h.subsystem }

-- the label's and the subsystem's are set; that of the uuid is set where its random bytes are at hand
abbrev pub texts_after : Rewritten → TextFields → TextFields
texts_after r t = record { uuid = t.uuid; label = field_after r.label t.label; subsystem = field_after r.subsystem t.subsystem }
