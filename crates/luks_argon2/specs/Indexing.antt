-- Which block is referred to (RFC 9106, 3.4.2). A lane's blocks are numbered in the order in which they
-- are constructed, over all passes: slice s, counted over all passes, has the blocks s * g to
-- s * g + g - 1 of each lane, where g is the length of a segment.
use Rattle.std.specs.Prelude.{ℕ, ◌+◌, ◌-◌, ◌*◌, ◌/◌, ◌%◌, ◌^◌, Bool, nat_eq, if◌then◌else◌}

-- the first block of a lane that may be referred to: the last three segments that are finished
abbrev pub window_start : ℕ → ℕ → ℕ
window_start s g = (s - 3) * g

-- how many blocks may be referred to from block i of a segment: in the own lane all from `start` to
-- the one before the previous; in another lane the finished segments, without the last block where i
-- is the first of its segment
unfoldable pub window_length : ℕ → ℕ → ℕ → Bool → ℕ
window_length start end i is_own =
    if is_own then end + i - 1 - start else if nat_eq i 0 then end - 1 - start else end - start

-- the place in a window of `count` blocks: |W| - 1 - y, of J_1
unfoldable pub place_in_window : ℕ → ℕ → ℕ
place_in_window count j = count - 1 - count * (j * j / 2 ^ 32) / 2 ^ 32

-- the lane, of J_2
unfoldable pub reference_lane : ℕ → ℕ → ℕ → ℕ → ℕ
reference_lane s l p j = if nat_eq s 0 then l else j % p

-- the lane and the number of the block that block i of slice s in lane l refers to, by the pair j
unfoldable pub reference : ℕ → ℕ → ℕ → ℕ → ℕ → ℕ → ℕ × ℕ
reference s g p l i j =
    let other = reference_lane s l p (j / 2 ^ 32) in
    let start = window_start s g in
    (other, start + place_in_window (window_length start (s * g) i (nat_eq other l)) (j % 2 ^ 32))
