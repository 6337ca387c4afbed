use Rattle.luks1_edits.proofs.EditedFacts.{after_rest, keeps, leaves, removed_area}
use Rattle.luks1_edits.proofs.laws.luks1_edit_keeps_volume.Goals as goal

pub returns-clause-keeps : goal.returns-clause-keeps
returns-clause-keeps c = λ payload e v random w chosen well free after.
    keeps payload v chosen well e random w free after

pub returns-clause-chosen : goal.returns-clause-chosen
returns-clause-chosen c = λ payload e v random w chosen well free after.
    (leaves payload v chosen well e random w free after).chosen

pub returns-clause-rest : goal.returns-clause-rest
returns-clause-rest c = λ payload e v random w chosen well free after.
    after_rest payload v chosen well e random w after

pub returns-clause-removed : goal.returns-clause-removed
returns-clause-removed c = λ payload e v random w n a chosen well after is has.
    removed_area payload v chosen well e random w n a after is has
