use Rattle.std.proofs.Common.{refl}
use Rattle.luks_new_meta.proofs.adding.made_from.Goals as goal

pub returns : goal.returns
returns c = λ d x. record {
  key_size = x.1;
  stripes = x.3.2;
  splitter_hash = x.3.1;
  encryption = x.4.1;
  area_key_size = x.4.2;
  derivation = c.derived_as.ensures d x;
  offset = refl;
  size = refl;
  salt = refl;
}
