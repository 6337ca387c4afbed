-- The answer is that of the keyslot, or that of the volume key, which takes no call of the device.
use Rattle.luks1_edits.proofs.unlocking.unlock.Goals as goal

pub unlock_keyslot-requires-clause-used : goal.unlock_keyslot-requires-clause-used
unlock_keyslot-requires-clause-used g c = λ v holds. rw c.in-Keyslot.is at (c.requires.usable v holds)

pub returns-in-Key-clause-opened : goal.returns-in-Key-clause-opened
returns-in-Key-clause-opened g c = λ tells x. rw c.in-Key.is (c.own_volume_key.ensures.opened (g.D.Device.bytes c.args.device.now) x)

pub returns-in-Key-clause-refused : goal.returns-in-Key-clause-refused
returns-in-Key-clause-refused g c = λ tells x. rw c.in-Key.is (c.own_volume_key.ensures.refused (g.D.Device.bytes c.args.device.now) x)
