use Rattle.std.proofs.Common.{List, ℕ, inr, subst}
use Rattle.luks_commands.specs.OpenAnswers.{allowed_of}
use Rattle.luks_keeping_commands.specs.KeepingKey.{IsKeyFound}
use Rattle.luks_keeping_commands.proofs.key.run.Goals as goal

pub returns-clause-answers : goal.returns-clause-answers
returns-clause-answers g c = λ apart there.
    let keeping = c.args.keeping.now in
    let v = g.D.Device.bytes c.in-Ok-volume.device in
    rw c.in-Ok-volume.is
    (inr (record {
      passphrase = c.in-Ok.words;
      words = c.in-Ok.ensures.whole;
      opened = c.open_key-opened.result;
      counted = c.open_key-opened.ensures.count;
      told = λ t. subst (λ (p : List ℕ). IsKeyFound (allowed_of keeping.memory keeping.older) v keeping.slot p c.open_key-opened.result) c.as_slice.ensures.value
          (c.open_key-opened.ensures.opened t);
      is = c.keep_opened.ensures;
    }))
