-- The text of metadata that is put together of a keyslot, a digest and a segment (LUKS2 On-Disk Format 1.1, 3.1 to 3.5), and its area.
use Rattle.std.specs.Prelude.{ℕ, ◌-◌, List, ◌++◌, codes, decimal, length, replicate, take}
use Rattle.luks_json.specs.Number.{number_text}

-- a JSON area of the shortest header, of 16384 bytes, has so many
abbrev pub area_length : ℕ
area_length = 12288

-- the region of key areas begins behind both copies of that header
abbrev pub region_start : ℕ
region_start = 32768

-- the configuration: `size` is that of the region of key areas
abbrev pub config_text : ℕ → List ℕ
config_text size = codes "{\"config\":{\"json_size\":\"12288\",\"keyslots_size\":\"" ++ decimal size ++ codes "\"},"

-- Digest `m`, which names keyslot `n` and segment 0. Its own names, if it has any, come before those that count: of two members of
-- one name the last does.
abbrev pub digest_text : ℕ → ℕ → List ℕ → List ℕ
digest_text m n digest = codes "\"digests\":{\"" ++ number_text m ++ codes "\":" ++ take (length digest - 1) digest
    ++ codes ",\"keyslots\":[\"" ++ number_text n ++ codes "\"],\"segments\":[\"0\"]}},"

abbrev pub keyslot_text : ℕ → List ℕ → List ℕ
keyslot_text n keyslot = codes "\"keyslots\":{\"" ++ number_text n ++ codes "\":" ++ keyslot ++ codes "},"

abbrev pub segment_text : List ℕ → List ℕ
segment_text segment = codes "\"segments\":{\"0\":" ++ segment ++ codes "},\"tokens\":{}}"

abbrev pub made_text : (size n m : ℕ) → (keyslot digest segment : List ℕ) → List ℕ
made_text size n m keyslot digest segment = config_text size ++ digest_text m n digest ++ keyslot_text n keyslot ++ segment_text segment

-- an area with the text, and zeros behind it if there is room
abbrev pub area_of : List ℕ → List ℕ
area_of text = text ++ replicate (area_length - length text) 0
