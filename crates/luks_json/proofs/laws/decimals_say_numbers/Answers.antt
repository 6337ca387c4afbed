use Rattle.luks_json.proofs.Decimals.{decimal_says, decimal_told}
use Rattle.luks_json.proofs.laws.decimals_say_numbers.Goals as goal

pub returns-clause-says : goal.returns-clause-says
returns-clause-says c = decimal_says

pub returns-clause-told : goal.returns-clause-told
returns-clause-told c = decimal_told
