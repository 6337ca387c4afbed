use Rattle.std.proofs.Output.{has_written_of_eq}
use Rattle.luks_show.specs.Texts.{escaped}
use Rattle.std.specs.Fmt.{decimal}
use Rattle.luks_show.proofs.Luks1Facts.{joined}
use Rattle.luks_show.proofs.luks1.list_common.Goals as goal

pub returns : goal.returns
returns g c plain ok =
    let common = c.args.common.now in
    has_written_of_eq _ _ _ _ _
    (rw (c.as_bytes.ensures.value, c.as_str.ensures.value, c.as_bytes-2.ensures.value, c.as_str-2.ensures.value, c.as_bytes-3.ensures.value, c.as_str-3.ensures.value, c.as_bytes-4.ensures.value, c.as_str-4.ensures.value)
    (joined (escaped common.uuid.bytes) (escaped common.cipher_name.bytes) (escaped common.cipher_mode.bytes) (decimal common.key_bytes) (escaped common.hash_spec.bytes) (decimal common.payload_offset)))
    (c.write.ensures.writes plain ok)
