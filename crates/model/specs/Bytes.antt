-- Numbers in bytes (document 01, "Turn sheets"): "Numbers are little-endian."
use Rattle.std.specs.Prelude.{ℕ, ◌+◌, ◌*◌, ◌/◌, ◌%◌, List, [], ◌∷◌, get_or}

-- ---- read

-- Byte i of a list of bytes; 0 past its end.
abbrev pub byte_at : List ℕ → ℕ → ℕ
byte_at s i = get_or s i 0

-- The 16-bit number at byte i.
abbrev pub word16 : List ℕ → ℕ → ℕ
word16 s i = byte_at s i + 256 * byte_at s (i + 1)

-- The 32-bit number at byte i.
abbrev pub word32 : List ℕ → ℕ → ℕ
word32 s i = word16 s i + 65536 * word16 s (i + 2)

-- ---- written

-- A 16-bit number.
abbrev pub bytes16 : ℕ → List ℕ
bytes16 v = v % 256 ∷ v / 256 % 256 ∷ []

-- A 32-bit number.
abbrev pub bytes32 : ℕ → List ℕ
bytes32 v = v % 256 ∷ v / 256 % 256 ∷ v / 65536 % 256 ∷ v / 16777216 % 256 ∷ []
