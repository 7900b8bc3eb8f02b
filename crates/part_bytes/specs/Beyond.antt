-- Past the end of a list of bytes every byte reads as 0, and so does every number.
use Rattle.std.specs.Prelude.{◌+◌, ◌≤◌, ◌≡◌}
use Rattle.base.specs.Prelude.{ℕ, arith, List, length, get_or-eq_default}
use Rattle.model.specs.Bytes.{byte_at, word16, word32}

module _ (s : List ℕ) where
  pub byte_beyond : (i : ℕ) → length s ≤ i → byte_at s i ≡ 0
  byte_beyond i h = get_or-eq_default s 0 h

  pub word16_beyond : (i : ℕ) → length s ≤ i → word16 s i ≡ 0
  word16_beyond i h = rw (byte_beyond i h, byte_beyond (i + 1) (omega arith))

  pub word32_beyond : (i : ℕ) → length s ≤ i → word32 s i ≡ 0
  word32_beyond i h = rw (word16_beyond i h, word16_beyond (i + 2) (omega arith))
