use Rattle.luks_new_meta.proofs.adding.derived_as.Goals as goal

pub returns-in-None : goal.returns-in-None
returns-in-None c = λ d x. rw c.in-None.is (c.derived_like.ensures d x.5.0)
