use Rattle.luks_aes.proofs.ScheduleFacts.{last_word_is}
use Rattle.luks_aes.proofs.key_schedule.last_word.Goals as goal

pub returns : goal.returns
returns c = last_word_is c.args.words.now c.args.count c.requires.some c.requires.written
