use Rattle.luks2_header.proofs.ChoiceFacts.{choices_agree}
use Rattle.luks_reading.proofs.CheckFacts.{unread_refused}
use Rattle.luks_volume.proofs.NeedFacts.{unread_untold}
use Rattle.luks_volume.proofs.UnreadFacts.{refused_as_edit}
use Rattle.luks_volume.proofs.header.edited_header.Goals as goal

pub returns-in-Err-clause-refused : goal.returns-in-Err-clause-refused
returns-in-Err-clause-refused g c = λ tells payload.
    let v = g.D.Device.bytes c.args.device.now in
    rw c.unread.ensures
    (refused_as_edit v payload c.in-Err.fault (unread_refused choices_agree v payload c.in-Err.fault (c.in-Err.ensures.refused tells)))

pub returns-in-Err-clause-untold : goal.returns-in-Err-clause-untold
returns-in-Err-clause-untold g c = λ tells payload edit.
    unread_untold (g.D.Device.bytes c.args.device.now) payload edit c.unread.result (returns-in-Err-clause-refused g c tells payload)
