-- The answers of the read-out of the standing values, by what its tests say. Assumes nothing.
use Rattle.std.specs.Prelude.{◌≤◌, ◌<◌, ◌≡◌, ◌++◌}
use Rattle.base.specs.Prelude.{ℕ, true, false, List, length, drop, lt-ltb, le-ltb}
use Rattle.model_laws.specs.Types.{Session, CountAnswer}
use Rattle.model.specs.Sound.{sound}
use Rattle.model.specs.ReadOut.{standing_values, standing_refusal, standing_answer, standing_buffer}

-- The two equations of the contract.
abbrev Meets : Session → (buffer : List ℕ) → CountAnswer → (after : List ℕ) → Type 0
Meets s buffer answer after = (answer ≡ standing_answer s buffer) × (after ≡ standing_buffer s buffer)

module _ (s : Session) (buffer : List ℕ) where
  -- 3: the session is not sound.
  pub unsound : sound s ≡ false → Meets s buffer (record { code = 3; count = 0 }) buffer
  unfolding standing_refusal
  unsound t = (rw t, rw t)

  module _ (n : ℕ) (t : sound s ≡ true) (size : length (standing_values s) ≡ n) where
    -- 15: the buffer is shorter than the list.
    pub short : length buffer < n → Meets s buffer (record { code = 15; count = 0 }) buffer
    unfolding standing_refusal
    short h = (rw (t, size, lt-ltb _ _ h), rw (t, size, lt-ltb _ _ h))

    -- Otherwise the list is put to the buffer's first places.
    pub list_written : n ≤ length buffer → (after : List ℕ) → after ≡ standing_values s ++ drop n buffer
        → Meets s buffer (record { code = 0; count = n }) after
    unfolding standing_refusal
    list_written h after put = (rw (t, size, le-ltb _ _ h), rw (t, size, le-ltb _ _ h, size) put)
