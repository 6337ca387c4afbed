use Rattle.luks_formatting.proofs.NewHeader2Facts.{header_there, new_copy, of_new_copy}
use Rattle.luks_formatting.proofs.new_header2.write_new_copy.Goals as goal

pub returns-clause-rest : goal.returns-clause-rest
returns-clause-rest g c tells =
    of_new_copy c.args.given.now c.args.random.now c.args.salt c.args.at c.new_header-header.result c.new_header-header.ensures (c.write_copy.ensures.rest tells)

pub returns-clause-copy : goal.returns-clause-copy
returns-clause-copy g c tells =
    new_copy c.args.given.now c.args.random.now c.args.salt c.args.at c.new_header-header.result c.new_header-header.ensures c.write_copy.result
    (g.D.Device.bytes c.write_copy.new.device) c.args.json.now
    (c.write_copy.ensures.copy tells (header_there c.args.given.now c.args.random.now c.args.salt c.args.at c.new_header-header.result c.new_header-header.ensures c.requires.place))
