use Rattle.std.proofs.Common.{[], refl}
use Rattle.std.proofs.KnownBytes.{Appends-nil}
use Rattle.std.proofs.lemmas.Result.{on_ok_weaker}
use Rattle.luks_underway_said.specs.Said.{nothing, said}
use Rattle.luks_underway_said.proofs.said.note_under_way.Goals as goal

pub returns-in_default : goal.returns-in_default
returns-in_default g c = ([], nothing (λ n below. c.in_default.ensures n below) refl, Appends-nil _)

pub returns : goal.returns
returns g c =
    on_ok_weaker c.note_words.result
    (λ appends. (_, said c.in-Some.slot c.sides.result.old c.sides.result.new c.part_in_hand.result c.in-Some.ensures c.sides.ensures.old c.sides.ensures.new c.part_in_hand.ensures refl, appends))
    c.note_words.ensures
