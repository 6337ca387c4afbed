use Rattle.luks_json.proofs.Encodings.{encoded_says, encoded_told}
use Rattle.luks_json.proofs.laws.encodings_say_bytes.Goals as goal

pub returns-clause-says : goal.returns-clause-says
returns-clause-says c = encoded_says

pub returns-clause-told : goal.returns-clause-told
returns-clause-told c = encoded_told
