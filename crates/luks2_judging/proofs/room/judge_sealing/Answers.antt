use Rattle.std.proofs.Common.{◌+◌, sym, ◌∙◌}
use Rattle.luks_meta.specs.Content.{area_len, content}
use Rattle.luks2_judging.proofs.RoomFacts.{area_excludes}
use Rattle.luks2_judging.proofs.room.judge_sealing.Goals as goal

pub returns-then-has_few_turns-clause-refused : goal.returns-then-has_few_turns-clause-refused
returns-then-has_few_turns-clause-refused c = λ payload lists. record {
  room = λ none. area_excludes (area_len c.args.room.now.meta.now + 4096) c.args.room.now.total payload (content c.args.room.now.meta.now) c.args.like c.in-Some.area (c.in-Some.ensures.new payload lists) none;
  turns = sym c.has_few_turns.ensures ∙ c.if-has_few_turns.true;
}

pub returns-then-is_beyond-clause-refused : goal.returns-then-is_beyond-clause-refused
returns-then-is_beyond-clause-refused c = λ payload lists. record {
  room = λ none. area_excludes (area_len c.args.room.now.meta.now + 4096) c.args.room.now.total payload (content c.args.room.now.meta.now) c.args.like c.in-Some.area (c.in-Some.ensures.new payload lists) none;
  turns = sym c.has_few_turns.ensures ∙ c.if-has_few_turns.false;
  beyond = sym c.is_beyond.ensures ∙ c.if-is_beyond.true;
}
