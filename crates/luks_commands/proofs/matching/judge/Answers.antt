-- A header that isn't read refuses the key; of one that is read neither the device nor memory does.
use Rattle.std.proofs.lemmas.Result.{err_from_is_err_and}
use Rattle.luks_reading.proofs.KeyFacts.{own_answered, unread_answered}
use Rattle.luks_commands.proofs.matching.judge.Goals as goal

pub returns-in_err-header-clause-told : goal.returns-in_err-header-clause-told
returns-in_err-header-clause-told g c = λ tells.
    let p = err_from_is_err_and c.from_residual.result c.from_residual.ensures.1 in
    rw (p.1, p.2)
    (unread_answered (g.D.Device.bytes c.args.device.now) c.args.matching.now.digest c.args.matching.now.older c.args.key.now c.in_err-header.field-0.0
    (c.in_err-header.ensures.refused tells))

pub returns-clause-told : goal.returns-clause-told
returns-clause-told g c = λ tells.
    own_answered (g.D.Device.bytes c.args.device.now) c.args.matching.now.digest c.args.matching.now.older c.args.key.now
    c.match_header_key-judged.result c.match_header_key-judged.ensures.own
    (c.match_header_key-judged.ensures.answers (g.D.Device.bytes c.args.device.now) (c.in_ok-header.ensures.read tells))
