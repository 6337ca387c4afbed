use Rattle.std.proofs.Common.{◌≡◌, length, rules}
use Rattle.luks1_header.proofs.EntryWriting.{entry_written}
use Rattle.luks1_header.proofs.luks1_writing.put_entry.Goals as goal

pub returns : goal.returns
returns c =
    let salt : length c.args.slot.now.salt ≡ 32 = (search rules) in
    entry_written c.args.slot.now c.args.bytes.now c.put_u32.new.bytes c.put_u32-2.new.bytes c.put.new.bytes
    c.put_u32-3.new.bytes c.put_u32-4.new.bytes c.active_word.result (record { long = c.requires.long; blank = λ k past. c.requires.blank k }) salt c.active_word.ensures
    c.put_u32.ensures.written c.put_u32-2.ensures.written c.put.ensures c.put_u32-3.ensures.written c.put_u32-4.ensures.written
    c.put_u32.ensures.fits c.put_u32-2.ensures.fits c.put_u32-3.ensures.fits c.put_u32-4.ensures.fits
