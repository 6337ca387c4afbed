use Rattle.std.proofs.Common.{inr, subst}
use Rattle.std.proofs.lemmas.List.{append-nil}
use Rattle.sha2.specs.Hashers.{Holds256}
use Rattle.luks_vouching.proofs.composing.compose.Goals as goal

-- with none of the two areas that are cut, and none of sectors
pub returns-clause-found : goal.returns-clause-found
returns-clause-found g c = λ done held is.
    let again : Holds256 c.fed-again.result done = subst (Holds256 c.fed-again.result) (append-nil done) (c.fed-again.ensures done held) in (
      c.may_begin.ensures.0 c.if-not-may_begin.false,
      inr (
        (c.try_cut.ensures.not_met done held c.if-try_cut.false, c.try_cut-2.ensures.not_met done held c.if-try_cut-2.false),
        inr (c.compose_sectors.ensures.none done held c.if-compose_sectors.false, c.compose_pieces.ensures.found done again is),
      ),
    )
