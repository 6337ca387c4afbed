use Rattle.luks2_header.proofs.BinaryHeaderWriting.{HasLengths, header_written}
use Rattle.luks2_header.proofs.bin2_writing.put_header.Goals as goal

pub returns : goal.returns
returns c =
    let lengths : HasLengths c.args.header.now = record {
      magic = search (c.told-header);
      label = search (c.told-header);
      csum_alg = search (c.told-header);
      salt = search (c.told-header);
      uuid = search (c.told-header);
      subsystem = search (c.told-header);
      csum = search (c.told-header);
    } in
    header_written c.args.header.now c.args.bytes.now _ _ _ _ _ _ _ _ _ _ _ lengths (record { long = c.requires.long; blank = λ k past. c.requires.blank k })
    c.put.ensures c.put_u16.ensures.written c.put_u64.ensures.written c.put_u64-2.ensures.written c.put-2.ensures c.put-3.ensures
    c.put-4.ensures c.put-5.ensures c.put-6.ensures c.put_u64-3.ensures.written c.put-7.ensures
    c.put_u16.ensures.fits c.put_u64.ensures.fits c.put_u64-2.ensures.fits c.put_u64-3.ensures.fits
