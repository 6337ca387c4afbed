use Rattle.luks_kdf.proofs.keyed.Keyed.of_block.Goals as goal

pub returns : goal.returns
returns g c key whole = (rw whole at c.padded_start-inner.ensures, rw whole at c.padded_start-outer.ensures)
