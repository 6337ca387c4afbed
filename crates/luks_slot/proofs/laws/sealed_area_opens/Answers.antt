use Rattle.luks_slot.specs.Opening.{hash_by_name}
use Rattle.luks_slot.proofs.SealingFacts.{sealed_opens}
use Rattle.luks_slot.proofs.laws.sealed_area_opens.Goals as goal

pub returns : goal.returns
returns c plan area passphrase key random some key_length random_length sealed =
    sealed_opens plan area passphrase key random some key_length random_length
    (c.merge_undoes_split.ensures (hash_by_name plan.splitter_hash.now)) sealed
