-- Document 01, "Numbers returned", last paragraph: when a session is sound; and document 02, wish 6: when a poll is.
use Rattle.std.specs.Prelude.{ℕ, min, Bool, true, false, cond, not, ◌&&◌, ◌||◌, List, [], ◌∷◌, drop, leb, ltb, eqb}
use Rattle.model.specs.declared.Phase.{Phase}
use Rattle.model.specs.declared.Phase.TheVariants.{Idle, Waiting, Write, Scan, Adopt, Compare, Flag, CheckMark}
use Rattle.model.specs.declared.Phase.TheVariants.{CheckValue, Commit, Exhausted, Crashed, Decided, HasCommitted, HasAdopted}
use Rattle.model.specs.declared.Process.{Process}
use Rattle.model.specs.declared.Session.{Session}
use Rattle.model.specs.Window.{window}
use Rattle.model.specs.Board.{max_processes, max_rounds}
use Rattle.model.specs.Refusal.{status, is_outside}

-- Whether a test holds of every element.
abbrev pub every : {A : Type 0} → (A → Bool) → List A → Bool
every test [] = true
every test (x ∷ xs) = test x && every test xs

-- The rules of each phase, of a session and (poll true) of a poll. 01: "out has round 0 ..; put has round 1 or more; seek k has 1 ≤ r < k ≤
-- L; take k has 1 ≤ r ≤ k ≤ L; compare and flag have r ≥ 1 and i below the smaller of r and W; the checks have r ≥ W and i < W; commit has
-- r ≥ W; spent has r = L." 02, wish 6: "A sound poll keeps a session's rules and has .. no spent or decided seat, gate only below round W,
-- and answered seats at round W; no sound session has an answered seat."
unfoldable pub sound_phase_as : (poll : Bool) → (W L r : ℕ) → Phase → Bool
sound_phase_as poll W L r Idle = eqb r 0
sound_phase_as poll W L r Waiting = not poll || ltb r W
sound_phase_as poll W L r Write = leb 1 r
sound_phase_as poll W L r (Scan k) = leb 1 r && ltb r k && leb k L
sound_phase_as poll W L r (Adopt k) = leb 1 r && leb r k && leb k L
sound_phase_as poll W L r (Compare i) = leb 1 r && ltb i (min r W)
sound_phase_as poll W L r (Flag i) = leb 1 r && ltb i (min r W)
sound_phase_as poll W L r (CheckMark i) = leb W r && ltb i W
sound_phase_as poll W L r (CheckValue i) = leb W r && ltb i W
sound_phase_as poll W L r Commit = leb W r
sound_phase_as poll W L r Exhausted = not poll && eqb r L
sound_phase_as poll W L r Crashed = true
sound_phase_as poll W L r Decided = not poll
sound_phase_as poll W L r HasCommitted = poll && eqb r W
sound_phase_as poll W L r HasAdopted = poll && eqb r W

-- 01: "out has .. value 0, every other stance a value above 0 and a round of at most L", and the phase's own clause.
unfoldable pub sound_process_as : (poll : Bool) → (W L : ℕ) → Process → Bool
sound_process_as poll W L q =
    cond (is_outside (status q.phase)) (eqb q.estimate 0) (ltb 0 q.estimate)
    && leb q.round L
    && sound_phase_as poll W L q.round q.phase

-- 02, wish 6: a sound poll "has L = W, a blank D"; wish 10: "Polls have no close, and a sound one is open."
unfoldable pub poll_registers : (poll : Bool) → (W : ℕ) → Session → Bool
poll_registers poll W s = not poll || (eqb s.limit W && eqb s.decision 0 && not s.closed)

-- "A session is sound if: n is 1 to 64, L is W to 256; registers and marks past L are blank and unmarked; records from n on are out", and
-- each record is sound; a poll, if its rules hold too. The window is a value, since requests change it. 02, wish 9: "soundness, 3, stays
-- with the server's" limits, which are what a session holds, so that every operation but opening takes a cart's session as it is. Wish 10
-- has, of the closed mark of a session: "Soundness allows both."
unfoldable pub sound_for_as : (poll : Bool) → (W : ℕ) → Session → Bool
sound_for_as poll W s =
    (leb 1 s.n && leb s.n max_processes)
    && (leb W s.limit && leb s.limit max_rounds)
    && poll_registers poll W s
    && every (λ x. eqb x 0) (drop s.limit s.values)
    && every not (drop s.limit s.marks)
    && every (λ q. is_outside (status q.phase)) (drop s.n s.processes)
    && every (sound_process_as poll W s.limit) s.processes

-- ---- of a session

abbrev pub sound_phase : (W L r : ℕ) → Phase → Bool
sound_phase W L r φ = sound_phase_as false W L r φ

abbrev pub sound_process : (W L : ℕ) → Process → Bool
sound_process W L q = sound_process_as false W L q

abbrev pub sound_for : (W : ℕ) → Session → Bool
sound_for W s = sound_for_as false W s

-- ---- in service: at the window of its n

unfoldable pub sound_as : (poll : Bool) → Session → Bool
sound_as poll s = sound_for_as poll (window s.n) s

abbrev pub sound : Session → Bool
sound s = sound_as false s

abbrev pub sound_poll : Session → Bool
sound_poll s = sound_as true s
