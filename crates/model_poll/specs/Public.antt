-- The public operations on any poll at all, damaged ones included: the machine with one test more, 3 (`sound_poll` of `model`). At any
-- window W (02, wish 7), and in service, at the window of the poll's n.
-- (Opening takes no poll: `Machine.poll_opening`.)
use Rattle.std.specs.Prelude.{ℕ, true, not, ◌∷◌}
use Rattle.model.specs.declared.Session.{Session}
use Rattle.model.specs.declared.Counts.{Counts}
use Rattle.model.specs.Answers.{Changed, ProcessAnswer}
use Rattle.model.specs.Window.{window}
use Rattle.model.specs.Numbers.{unsound}
use Rattle.model.specs.Sound.{sound_for_as}
use Rattle.model.specs.Public.{propose_for_as, crash_for_as}
use Rattle.model.specs.ReadOut.{process_record_as}
use Rattle.model_poll.specs.Answers.{PollStepped, PollChanged}
use Rattle.model_poll.specs.Machine.{turn_tests, turned}

-- ---- at any window

-- Proposal 3, 4, 5, 6. (A sound poll is open, so that none is refused with 18: `theory_poll`, `never_closed`.)
abbrev pub poll_propose_for : (W : ℕ) → Session → (p v : ℕ) → Changed
poll_propose_for W s p v = propose_for_as true W s p v

-- Turn 3, 4, 7, 8, 16.
unfoldable pub poll_turn_for : (W : ℕ) → Session → (p : ℕ) → Counts → PollStepped
poll_turn_for W s p c = turned ((not (sound_for_as true W s), unsound) ∷ turn_tests s c p) W s c p

-- Crash 3, 4, 7, 8.
abbrev pub poll_crash_for : (W : ℕ) → Session → (p : ℕ) → Changed
poll_crash_for W s p = crash_for_as true W s p

-- ---- in service: at the window of the poll's n

abbrev pub poll_propose : Session → (p v : ℕ) → Changed
poll_propose s p v = poll_propose_for (window s.n) s p v

abbrev pub poll_turn : Session → (p : ℕ) → Counts → PollStepped
poll_turn s p c = poll_turn_for (window s.n) s p c

abbrev pub poll_crash : Session → (p : ℕ) → Changed
poll_crash s p = poll_crash_for (window s.n) s p

-- "Seats are read out as in sessions": 3, 4.
abbrev pub poll_record : Session → (p : ℕ) → ProcessAnswer
poll_record s p = process_record_as true s p

-- ---- the counts

-- A turn's answer with the counts that the caller lent, as they stand at the end.
abbrev pub with_lent : PollChanged → Counts → PollStepped
with_lent a c = record { code = a.code; session = a.session; counts = c; answer = a.answer }

-- And without them.
abbrev pub without_lent : PollStepped → PollChanged
without_lent a = record { code = a.code; session = a.session; answer = a.answer }
