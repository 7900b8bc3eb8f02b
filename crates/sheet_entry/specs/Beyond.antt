-- Past the end of a sheet every entry reads as six bytes of 0.
use Rattle.std.specs.Prelude.{◌+◌, ◌≤◌, ◌≡◌}
use Rattle.base.specs.Prelude.{ℕ, arith, List, length}
use Rattle.model.specs.Sheet.{entry_of, entry_at}
use Rattle.part_bytes.specs.Beyond.{byte_beyond, word32_beyond}

pub entry_beyond : (s : List ℕ) (i : ℕ) → length s ≤ i → entry_at s i ≡ entry_of 0 0 0
entry_beyond s i h =
    rw (byte_beyond s i h, byte_beyond s (i + 1) (omega arith), word32_beyond s (i + 2) (omega arith))
