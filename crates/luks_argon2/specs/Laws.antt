-- What the definitions give on small cases.
use Rattle.std.specs.Prelude.{◌≡◌, ◌-◌, ◌^◌, [], ◌∷◌, codes}
use Rattle.luks_argon2.specs.Blake2b.{blake2b}
use Rattle.luks_argon2.specs.Indexing.{reference}

-- BLAKE2b of "abc" (RFC 7693, appendix A)
abbrev pub DigestOfAbc : Type 0
DigestOfAbc = blake2b 64 (codes "abc")
    ≡ 186 ∷ 128 ∷ 165 ∷ 63 ∷ 152 ∷ 28 ∷ 77 ∷ 13 ∷ 106 ∷ 39 ∷ 151 ∷ 182 ∷ 159 ∷ 18 ∷ 246 ∷ 233
    ∷ 76 ∷ 33 ∷ 47 ∷ 20 ∷ 104 ∷ 90 ∷ 196 ∷ 183 ∷ 75 ∷ 18 ∷ 187 ∷ 111 ∷ 219 ∷ 255 ∷ 162 ∷ 209
    ∷ 125 ∷ 135 ∷ 197 ∷ 57 ∷ 42 ∷ 171 ∷ 121 ∷ 45 ∷ 194 ∷ 82 ∷ 213 ∷ 222 ∷ 69 ∷ 51 ∷ 204 ∷ 149
    ∷ 24 ∷ 211 ∷ 138 ∷ 168 ∷ 219 ∷ 241 ∷ 146 ∷ 90 ∷ 185 ∷ 35 ∷ 134 ∷ 237 ∷ 212 ∷ 0 ∷ 153 ∷ 35 ∷ []

-- The first segment of the first pass has four blocks in each of two lanes. Block 2 can only refer to
-- block 0 of its own lane, whatever the pair; block 3 can refer to blocks 0 and 1, and J_1 = 0 takes
-- the last of them (RFC 9106, 3.4.2).
abbrev pub IndexesFirstBlocks : Type 0
IndexesFirstBlocks = (reference 0 4 2 1 2 (2 ^ 32) ≡ (1, 0)) × (reference 0 4 2 1 3 0 ≡ (1, 1))

-- Slice 4 is the first of the second pass; a lane has blocks 0 to 15 then. Block 16 may refer to blocks
-- 4 to 14 of its own lane, which are all of the last three segments but the block before it, and to the
-- same of another lane, since it is the first of its segment; block 17 to blocks 4 to 15 of both.
abbrev pub IndexesLaterBlocks : Type 0
IndexesLaterBlocks =
    (reference 4 4 2 0 0 (2 ^ 32) ≡ (1, 14))
    × (reference 4 4 2 0 1 (2 ^ 32) ≡ (1, 15))
    × (reference 4 4 2 0 0 (2 ^ 32 - 1) ≡ (0, 4))
