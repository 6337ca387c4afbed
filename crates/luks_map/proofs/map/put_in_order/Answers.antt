use Rattle.std.proofs.Common.{arith, rules}
use Rattle.std.proofs.lemmas.List.Sorted.{answers_always}
use Rattle.luks_map.specs.Rows.{place, rank}
use Rattle.luks_map.proofs.OrderFacts.{not_after}
use Rattle.luks_map.proofs.map.put_in_order.Goals as goal

pub returns-clause-ordered : goal.returns-clause-ordered
returns-clause-ordered c = λ k d lt.
    not_after _ _
    (c.sort_unstable_by_key.ensures.sorted (λ r. (place r, rank r)) (answers_always _ _ _ (λ f a r g h. search rules)) k d (omega arith) lt)
