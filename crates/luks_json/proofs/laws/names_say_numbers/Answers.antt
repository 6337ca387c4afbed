use Rattle.luks_json.proofs.NameLists.{reads_names}
use Rattle.luks_json.proofs.Numbers.{number_of_text, text_of_named}
use Rattle.luks_json.proofs.laws.names_say_numbers.Goals as goal

pub returns-clause-says : goal.returns-clause-says
returns-clause-says c = text_of_named

pub returns-clause-told : goal.returns-clause-told
returns-clause-told c = number_of_text

pub returns-clause-lists : goal.returns-clause-lists
returns-clause-lists c = reads_names
