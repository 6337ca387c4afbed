-- Bytes that are in the metadata as base64.
use Rattle.std.specs.Prelude.{◌≡◌, ℕ, ◌≤◌, ◌&&◌, nat_lt, nat_le, true, List, length, codes, Option, Some, None, if◌then◌else◌}
use Rattle.std.specs.List.{list_all}
use Rattle.std.specs.Str.{bytes_eq}
use Rattle.base64.specs.Engines.{standard}
use Rattle.base64.specs.GeneralPurpose.{IsBytes, decoded_bytes_of}
use Rattle.base64.specs.Rfc4648.{encode}

-- RFC 4648, section 4, table 1
abbrev pub alphabet : List ℕ
alphabet = codes "ABCDEFGHIJKLMNOPQRSTUVWXYZabcdefghijklmnopqrstuvwxyz0123456789+/"

-- RFC 4648, section 4: the text encodes the bytes, in the standard alphabet and padded by `=`, 61. At most 128 bytes stand so.
pub record IsBase64 (text bytes : List ℕ) : Type 0 where
  pub are_bytes : IsBytes bytes
  pub at_most : length bytes ≤ 128
  pub encodes : text ≡ encode alphabet 61 true bytes

-- the bytes that a text so encodes, if it does
unfoldable pub encoded_of : List ℕ → Option (List ℕ)
encoded_of text =
    if bytes_eq text (encode alphabet 61 true (decoded_bytes_of standard text))
    && list_all (λ c. nat_lt c 256) (decoded_bytes_of standard text)
    && nat_le (length (decoded_bytes_of standard text)) 128
    then Some (decoded_bytes_of standard text) else None
