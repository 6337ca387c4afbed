use Rattle.luks1_header.proofs.PutFacts.{slice_index-zeros}
use Rattle.luks1_header.proofs.luks1_writing.entry_bytes.Goals as goal

pub put_entry-requires-clause-blank : goal.put_entry-requires-clause-blank
put_entry-requires-clause-blank c = slice_index-zeros 48
