use Rattle.luks_converting.proofs.CopyFacts.{converted_copy, header_there, of_copy}
use Rattle.luks_converting.proofs.copies.write_converted_copy.Goals as goal

pub returns-clause-rest : goal.returns-clause-rest
returns-clause-rest g c tells =
    of_copy c.args.uuid.now c.args.salt c.args.at c.new_header-header.result c.new_header-header.ensures (c.write_copy.ensures.rest tells)

pub returns-clause-copy : goal.returns-clause-copy
returns-clause-copy g c tells =
    converted_copy c.args.uuid.now c.args.salt c.args.at c.new_header-header.result c.new_header-header.ensures c.write_copy.result
    (g.D.Device.bytes c.write_copy.new.device) c.args.json.now
    (c.write_copy.ensures.copy tells (header_there c.args.uuid.now c.args.salt c.args.at c.new_header-header.result c.new_header-header.ensures c.requires.place))
