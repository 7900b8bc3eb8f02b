-- The public operations on any session at all, damaged ones included: the machine with one test more. At any window W (02, wish 7: "the
-- window a parameter of the machine"), and in service, at the window of the session's n.
-- (Opening takes no session: `Machine.opening`.)
use Rattle.std.specs.Prelude.{ℕ, Bool, false, not, [], ◌∷◌}
use Rattle.model.specs.declared.Session.{Session}
use Rattle.model.specs.declared.Counts.{Counts}
use Rattle.model.specs.declared.Operation.{Operation}
use Rattle.model.specs.declared.Operation.TheVariants.{Propose, Step, Learn, Crash}
use Rattle.model.specs.Answers.{Changed, Stepped}
use Rattle.model.specs.Window.{window}
use Rattle.model.specs.Board.{no_counts, with_closed}
use Rattle.model.specs.Numbers.{unsound}
use Rattle.model.specs.Refusal.{refusal, tests, changed}
use Rattle.model.specs.Machine.{Command, acts, closes, answered}
use Rattle.model.specs.Sound.{sound_for_as, sound_for}

-- An answer with the counts that the caller lent, as they stand at the end: "The caller lends its tally, which a turn updates where
-- it stands".
abbrev pub with_counts : Changed → Counts → Stepped
with_counts a c = record { code = a.code; session = a.session; counts = c }

-- And without them: proposals, crashes and closes count nothing, and are lent none.
abbrev pub without_counts : Stepped → Changed
without_counts a = record { code = a.code; session = a.session }

-- ---- at any window

-- 3, "session not sound", tested first; "session, tally, buffer unchanged". Proposals and crashes are those of polls too (02, wish 6),
-- where 3 is by a poll's soundness: `poll` says which. (A poll's turn is its own: `model_poll`.)
unfoldable pub operate_for_as : (poll : Bool) → (W : ℕ) → Session → Counts → Operation → Stepped
operate_for_as poll W s c o = answered ((not (sound_for_as poll W s), unsound) ∷ tests s c o) W s c o

-- "Proposal 3, 4, 5, 6"; 02, wish 10: 18, "tested last, after 6".
unfoldable pub propose_for_as : (poll : Bool) → (W : ℕ) → Session → (p v : ℕ) → Changed
propose_for_as poll W s p v = without_counts (operate_for_as poll W s no_counts (Propose p v))

abbrev pub propose_for : (W : ℕ) → Session → (p v : ℕ) → Changed
propose_for W s p v = propose_for_as false W s p v

-- "Work 3, 4, 7, 8, 9, 16."
unfoldable pub step_for : (W : ℕ) → Session → (p : ℕ) → (leader : Bool) → Counts → Stepped
step_for W s p leader c = operate_for_as false W s c (Step p leader)

-- "Look 3, 4, 7, 8, 16."
unfoldable pub learn_for : (W : ℕ) → Session → (p : ℕ) → Counts → Stepped
learn_for W s p c = operate_for_as false W s c (Learn p)

-- "Crash 3, 4, 7, 8."
unfoldable pub crash_for_as : (poll : Bool) → (W : ℕ) → Session → (p : ℕ) → Changed
crash_for_as poll W s p = without_counts (operate_for_as poll W s no_counts (Crash p))

abbrev pub crash_for : (W : ℕ) → Session → (p : ℕ) → Changed
crash_for W s p = crash_for_as false W s p

-- 02, wish 10: "Close: 3."
unfoldable pub close_for : (W : ℕ) → Session → Changed
close_for W s = changed (refusal ((not (sound_for W s), unsound) ∷ [])) s (with_closed s)

-- ---- in service: at the window of the session's n

abbrev pub operate_as : (poll : Bool) → Session → Counts → Operation → Stepped
operate_as poll s c o = operate_for_as poll (window s.n) s c o

abbrev pub operate : Session → Counts → Operation → Stepped
operate s c o = operate_as false s c o

abbrev pub propose_as : (poll : Bool) → Session → (p v : ℕ) → Changed
propose_as poll s p v = propose_for_as poll (window s.n) s p v

abbrev pub propose : Session → (p v : ℕ) → Changed
propose s p v = propose_as false s p v

abbrev pub step : Session → (p : ℕ) → (leader : Bool) → Counts → Stepped
step s p leader c = step_for (window s.n) s p leader c

abbrev pub learn : Session → (p : ℕ) → Counts → Stepped
learn s p c = learn_for (window s.n) s p c

abbrev pub crash_as : (poll : Bool) → Session → (p : ℕ) → Changed
crash_as poll s p = crash_for_as poll (window s.n) s p

abbrev pub crash : Session → (p : ℕ) → Changed
crash s p = crash_as false s p

abbrev pub close : Session → Changed
close s = close_for (window s.n) s

-- What a command gives: an operation as above, or a close, which leaves the counts.
abbrev pub commanded : Session → Counts → Command → Stepped
commanded s c (acts o) = operate s c o
commanded s c closes = with_counts (close s) c
