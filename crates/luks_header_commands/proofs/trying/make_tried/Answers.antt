use Rattle.std.proofs.Common.{◌≡◌, List, ℕ, inr, sym, subst}
use Rattle.luks_commands.specs.Files.{IsWhole}
use Rattle.luks_header_commands.specs.Trying.{KeepsTried}
use Rattle.luks_header_commands.proofs.TryingFacts.{keeps_words, leaves_as}
use Rattle.luks_header_commands.proofs.trying.make_tried.Goals as goal

pub returns-clause-rest : goal.returns-clause-rest
returns-clause-rest g c =
    let HasWords : List ℕ → Type 0 = IsWhole g.R.Read.remaining c.args.inputs.now.passphrase in
    leaves_as g.D.Device.tells g.D.Device.size g.D.Device.bytes (KeepsTried c.args.rebuilding.now (λ words. words ≡ c.as_slice.result.now)) (KeepsTried c.args.rebuilding.now HasWords)
    (keeps_words c.args.rebuilding.now HasWords c.as_slice.result.now (subst HasWords (sym c.as_slice.ensures.value) c.in-Ok.ensures.whole))
    c.args.inputs.now.volume c.args.inputs.now.target c.make_header.new.inputs.target c.make_header.ensures.rest

pub returns-clause-answers : goal.returns-clause-answers
returns-clause-answers g c = λ apart.
    let HasWords : List ℕ → Type 0 = IsWhole g.R.Read.remaining c.args.inputs.now.passphrase in
    inr (record { words = c.as_slice.result.now; has = subst HasWords (sym c.as_slice.ensures.value) c.in-Ok.ensures.whole; is = c.make_header.ensures.answers apart })
