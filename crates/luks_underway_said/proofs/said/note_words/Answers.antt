use Rattle.std.proofs.KnownBytes.{Appends-trans}
use Rattle.std.proofs.lemmas.Result.{on_ok_weaker}
use Rattle.luks_underway_said.proofs.said.note_words.Goals as goal

pub returns : goal.returns
returns g c = on_ok_weaker c.say_resuming.result (λ second. Appends-trans _ _ _ _ _ c.in_ok-say_words.ensures second) c.say_resuming.ensures
