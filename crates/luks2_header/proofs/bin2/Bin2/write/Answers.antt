use Rattle.luks1_header.proofs.PutFacts.{slice_index-zeros}
use Rattle.luks2_header.proofs.bin2.Bin2.write.Goals as goal

pub put_header-requires-clause-blank : goal.put_header-requires-clause-blank
put_header-requires-clause-blank c = slice_index-zeros 4096
