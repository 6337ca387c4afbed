use Rattle.std.proofs.Common.{[], inl, inr, refl}
use Rattle.std.proofs.KnownBytes.{Appends-nil}
use Rattle.std.proofs.lemmas.Result.{on_ok_weaker}
use Rattle.luks_keeping_commands.proofs.underway.note_moment.Goals as goal

pub returns-in_default : goal.returns-in_default
returns-in_default g c = ([], inl (λ n below. c.in_default.ensures n below, refl), Appends-nil _)

pub returns : goal.returns
returns g c =
    let first = c.in-Some.ensures.is in
    on_ok_weaker c.say_moment.result (λ appends. (_, inr (c.in-Some.slot.number, (first.below, first.holds, refl)), appends)) c.say_moment.ensures
