use Rattle.std.proofs.Common.{ℕ, List, OnOk, subst}
use Rattle.luks_writing.specs.Copy.{HasCopy, IsCopyHeader}
use Rattle.luks_rebuilding.proofs.CopyFacts.{of_copy, rebuilt_copy}
use Rattle.luks_rebuilding.specs.Found.{source_of}
use Rattle.luks_rebuilding.proofs.copies.write_rebuilt_copy.Goals as goal

pub returns-clause-copy : goal.returns-clause-copy
returns-clause-copy g c tells =
    rebuilt_copy c.args.uuid c.args.salt (source_of c.args.found.now) c.args.at c.new_header-header.result c.new_header-header.ensures.made c.requires.listed c.requires.place
    (g.D.Device.bytes c.write_copy.new.device) c.write_copy.result
    (subst (λ (j : List ℕ). IsCopyHeader c.new_header-header.result → OnOk c.write_copy.result (HasCopy (g.D.Device.bytes c.write_copy.new.device) j c.new_header-header.result))
    c.as_slice-json.ensures.value (c.write_copy.ensures.copy tells))

pub returns-clause-rest : goal.returns-clause-rest
returns-clause-rest g c tells =
    of_copy c.new_header-header.result c.args.found.now.place.size c.args.at c.new_header-header.ensures.hdr_size c.new_header-header.ensures.hdr_offset (c.write_copy.ensures.rest tells)
