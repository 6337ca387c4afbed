use Rattle.std.proofs.Common.{lit≤}
use Rattle.luks1_header.proofs.CommonFacts.{common_agrees}
use Rattle.luks1_header.proofs.EntryFacts.{entries_agree}
use Rattle.luks1_header.proofs.NumberFacts.{bytes_within}
use Rattle.luks1_header.proofs.laws.luks1_written_again_is_the_same.Goals as goal

pub returns-clause-common : goal.returns-clause-common
returns-clause-common c = common_agrees

pub returns-clause-entry : goal.returns-clause-entry
returns-clause-entry c = λ e f s long bytes says written.
    entries_agree f e s written (record {
      long = long;
      fields = says;
      before_salt = bytes_within e 0 48 0 8 (lit≤ tt) (lit≤ tt) bytes;
      after_salt = bytes_within e 0 48 40 48 (lit≤ tt) (lit≤ tt) bytes;
    })
