-- The answer is that of the keyslot, or that of the volume key, which takes no call of the device.
use Rattle.std.proofs.Common.{Some, ap, ◌∙◌}
use Rattle.std.proofs.lemmas.Result.{err_from_is_err_and, IfErr-weaker}
use Rattle.luks_meta.specs.Content.{content}
use Rattle.luks2_judging.proofs.GivenFacts.{given_length, given_opens}
use Rattle.luks2_judging.proofs.KeyFacts.{own_unopened, unkeyed_memory}
use Rattle.luks2_judging.proofs.unlocking.unlock.Goals as goal

pub returns-in_err-key-in-Keyslot-clause-refused : goal.returns-in_err-key-in-Keyslot-clause-refused
returns-in_err-key-in-Keyslot-clause-refused g c = λ tells is payload e well same asked there.
    let p = err_from_is_err_and c.from_residual.result c.from_residual.ensures.1 in
    rw (p.1, p.2) (c.in_err-key-in-Keyslot.ensures.refused tells is payload e well same (asked ∙ ap Some c.in-Keyslot.is) there)

pub returns-in-Key-clause-length : goal.returns-in-Key-clause-length
returns-in-Key-clause-length g c =
    let own = c.own_volume_key.ensures in
    given_length c.in-Key.key (content c.args.copy.now.meta) c.own_volume_key.result own.key own.like

pub returns-in-Key-clause-no_memory : goal.returns-in-Key-clause-no_memory
returns-in-Key-clause-no_memory g c = λ none.
    let key = c.in-Key.key in
    IfErr-weaker c.own_volume_key.result _ _ (λ f bad. unkeyed_memory key.allowed.older (content c.args.copy.now.meta) key.bytes.now f bad) c.own_volume_key.ensures.refused

pub returns-in-Key-clause-opened : goal.returns-in-Key-clause-opened
returns-in-Key-clause-opened g c = λ tells is e same asked.
    let own = c.own_volume_key.ensures in
    given_opens (g.D.Device.bytes c.args.device.now) c.args.copy.now is e c.in-Key.key (asked ∙ ap Some c.in-Key.is) c.own_volume_key.result own.key own.like own.accepted

pub returns-in-Key-clause-refused : goal.returns-in-Key-clause-refused
returns-in-Key-clause-refused g c = λ tells is payload e well same asked there.
    IfErr-weaker c.own_volume_key.result _ _ (λ f bad. own_unopened (g.D.Device.bytes c.args.device.now) c.args.copy.now is e c.in-Key.key (asked ∙ ap Some c.in-Key.is) f bad)
    c.own_volume_key.ensures.refused

pub returns-in-Key-clause-like : goal.returns-in-Key-clause-like
returns-in-Key-clause-like g c = rw c.in-Key.is c.own_volume_key.ensures.like
