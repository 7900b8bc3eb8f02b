-- A sound process accesses no register outside 1 to L.
use Rattle.std.specs.Prelude.{◌≤◌}
use Rattle.base.specs.Prelude.{ℕ, arith, Bool}
use Rattle.model_laws.specs.Types.{Phase, Idle, Waiting, Write, Scan, Adopt, Compare, Flag, CheckMark, CheckValue, Commit, Exhausted}
use Rattle.model_laws.specs.Types.{Crashed, Decided, HasCommitted, HasAdopted, Access, Nothing, ReadValue, WriteValue, ReadMark}
use Rattle.model_laws.specs.Types.{SetMark, ReadDecision, WriteDecision}
use Rattle.model.specs.Step.{phase_access}
use Rattle.model_laws.specs.Phases.{PhaseSound}
use Rattle.model_laws.specs.WaitingRules.{waiting_cases}

-- The register that is accessed, if any, is one of 1 to L.
abbrev pub InRange : (L : ℕ) → Access → Type 0
InRange L Nothing = Unit {0}
InRange L (ReadValue j) = (1 ≤ j) × (j ≤ L)
InRange L (WriteValue j) = (1 ≤ j) × (j ≤ L)
InRange L (ReadMark j) = (1 ≤ j) × (j ≤ L)
InRange L (SetMark j) = (1 ≤ j) × (j ≤ L)
InRange L ReadDecision = Unit {0}
InRange L WriteDecision = Unit {0}

-- A work turn of a sound process accesses registers 1 to L alone, and so registers 1 to M, where L is at most M.
pub access_range : (W L M r : ℕ) (φ : Phase) (leader : Bool) → r ≤ L → L ≤ M → PhaseSound W L r φ → InRange M (phase_access L r φ leader)
unfolding phase_access
access_range W L M r Idle leader low few f = tt
access_range W L M r Waiting leader low few f = waiting_cases (InRange M) L r leader (λ e. tt) tt (λ b. omega arith)
access_range W L M r Write leader low few f = omega arith
access_range W L M r (Scan k) leader low few f = omega arith
access_range W L M r (Adopt k) leader low few f = omega arith
access_range W L M r (Compare i) leader low few f = omega arith
access_range W L M r (Flag i) leader low few f = omega arith
access_range W L M r (CheckMark i) leader low few f = omega arith
access_range W L M r (CheckValue i) leader low few f = omega arith
access_range W L M r Commit leader low few f = tt
access_range W L M r Exhausted leader low few f = tt
access_range W L M r Crashed leader low few f = tt
access_range W L M r Decided leader low few f = tt
access_range W L M r HasCommitted leader low few f = tt
access_range W L M r HasAdopted leader low few f = tt
