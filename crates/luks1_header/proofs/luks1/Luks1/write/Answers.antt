use Rattle.std.proofs.Common.{◌≡◌, ◌+◌, ◌*◌, ◌∙◌, ap, length, slice_index_or, arith}
use Rattle.luks_area.proofs.RangeFacts.{length-written}
use Rattle.luks1_header.specs.Header1.{entry}
use Rattle.luks1_header.proofs.Luks1FaultFacts.{slot_default}
use Rattle.luks1_header.proofs.EntryFacts.{entries_agree}
use Rattle.luks1_header.proofs.Luks1WritingFacts.{common_under_slot, header_reads_back, slots_stay}
use Rattle.luks1_header.proofs.PutFacts.{slice_index-zeros}
use Rattle.luks1_header.proofs.luks1.Luks1.write.Goals as goal

pub put_common-requires-clause-blank : goal.put_common-requires-clause-blank
put_common-requires-clause-blank c = slice_index-zeros 592

pub loop-n-preserved : goal.loop-n-preserved
loop-n-preserved c =
    let size : length c.slot_bytes.result ≡ 48 = (c.slot_bytes.ensures (slice_index_or c.args.self.now.slots 0 slot_default)).long in
    let long : length c.loop-n.bytes ≡ 592 = c.loop-n.invariant.long in
    record {
      long = ap length c.put.ensures ∙ length-written c.loop-n.bytes (208 + 48 * c.loop-n.n) c.slot_bytes.result (omega arith) ∙ long;
      common = common_under_slot c.loop-n.bytes c.put.new.bytes c.slot_bytes.result c.args.self.now.common c.loop-n.n long (omega arith) size c.put.ensures c.loop-n.invariant.common;
      slots = slots_stay c.loop-n.bytes c.put.new.bytes c.slot_bytes.result c.args.self.now.slots c.loop-n.n long (omega arith) c.put.ensures c.slot_bytes.ensures c.loop-n.invariant.slots;
    }

pub returns-clause-read_back : goal.returns-clause-read_back
returns-clause-read_back c = λ v good.
    header_reads_back v c.loop-n.bytes c.args.self.now good (record {
      long = c.loop-n.invariant.long;
      common = c.loop-n.invariant.common;
      slots = λ n s lt. c.loop-n.invariant.slots n s (omega (arith, lt));
    })

pub returns-clause-entries : goal.returns-clause-entries
returns-clause-entries c = λ n s e lt says.
    entries_agree (entry c.loop-n.bytes n) e (slice_index_or c.args.self.now.slots n s) (c.loop-n.invariant.slots n s (omega (arith, lt))) says
