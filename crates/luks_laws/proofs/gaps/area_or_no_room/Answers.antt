use Rattle.luks_laws.proofs.GapVolumes.{area_or_no_room}
use Rattle.luks_laws.proofs.gaps.area_or_no_room.Goals as goal

pub returns : goal.returns
returns c = λ v payload place j like formed metadata there. area_or_no_room v payload place j metadata formed like there
