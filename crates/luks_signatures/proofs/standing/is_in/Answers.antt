use Rattle.luks_signatures.proofs.standing.is_in.Goals as goal

pub returns-in-Uberblock-clause-is_in : goal.returns-in-Uberblock-clause-is_in
returns-in-Uberblock-clause-is_in g c = λ t. rw c.in-Uberblock.is (c.has_uberblock.ensures.has t)
