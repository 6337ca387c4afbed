-- How many bytes a plan leaves.
use Rattle.std.proofs.Common.{◌≡◌, ℕ, ◌-◌, ◌≤◌, List, [], ◌∷◌, length, take, drop, ◌∙◌, arith, length-drop, length-take}
use Rattle.luks_area.specs.Ranges.{written}
use Rattle.luks_area.proofs.RangeFacts.{length-written}
use Rattle.luks_given.specs.declared.planned_writes.PlannedCall.{PlannedCall}
use Rattle.luks_given.specs.Plan.{furthest, planned_length, played}

-- as many as there were
pub length-played : (calls : List PlannedCall) (bytes v : List ℕ) → furthest calls ≤ length v → planned_length calls ≤ length bytes → length (played calls bytes v) ≡ length v
unfolding played furthest planned_length
length-played [] bytes v inside counted = omega arith
length-played (c ∷ cs) bytes v inside counted =
    let from : List ℕ = take c.len bytes in
    let some : length from ≡ c.len = length-take c.len bytes ∙ omega (arith, counted) in
    let left : length (drop c.len bytes) ≡ length bytes - c.len = length-drop c.len bytes in
    let long : length (written v c.at from) ≡ length v = length-written v c.at from (omega (arith, inside, some)) in
    length-played cs (drop c.len bytes) (written v c.at from) (omega (arith, inside, long)) (omega (arith, counted, left)) ∙ long

-- of a volume of that length
pub length-planned : (calls : List PlannedCall) (bytes : List ℕ) (total : ℕ) (v : List ℕ) → length v ≡ total → furthest calls ≤ total → planned_length calls ≡ length bytes
    → length (played calls bytes v) ≡ total
length-planned calls bytes total v whole inside counted = length-played calls bytes v (omega (arith, whole, inside)) (omega (arith, counted)) ∙ whole
