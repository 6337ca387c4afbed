use Rattle.std.proofs.Common.{refl}
use Rattle.luks1_header.proofs.CommonWriting.{HasRoom, common_written}
use Rattle.luks1_header.proofs.luks1_writing.put_common.Goals as goal

pub returns-clause-written : goal.returns-clause-written
returns-clause-written c =
    let room : HasRoom c.args.common.now = record {
      cipher_name = c.put_text.ensures.fits;
      cipher_mode = c.put_text-2.ensures.fits;
      hash_spec = c.put_text-3.ensures.fits;
      mk_digest = search (c.told-common);
      mk_digest_salt = search (c.told-common);
      uuid = c.put_text-4.ensures.fits;
    } in
    common_written c.args.common.now c.args.bytes.now _ _ _ _ _ _ _ _ _ _ _ _ c.requires.long room (record { long = refl; blank = λ k past. c.requires.blank k })
    c.put.ensures c.put_u16.ensures.written c.put_text.ensures.written c.put_text-2.ensures.written c.put_text-3.ensures.written
    c.put_u32.ensures.written c.put_u32-2.ensures.written c.put-2.ensures c.put-3.ensures c.put_u32-3.ensures.written c.put_text-4.ensures.written
    c.put_u32.ensures.fits c.put_u32-2.ensures.fits c.put_u32-3.ensures.fits
