-- Document 01, "Standing values", and 02, wish 1: the read-outs. "Read-outs 3, then 4, 14 or 15 as the read-out has a seat, a round or a
-- buffer."
use Rattle.std.specs.Prelude.{ℕ, suc, zero, Bool, false, cond, not, ◌&&◌, ◌||◌, List, [], ◌∷◌, ◌++◌, length, get_or, take, drop, leb, ltb, eqb}
use Rattle.model.specs.declared.Process.{Process}
use Rattle.model.specs.declared.Session.{Session}
use Rattle.model.specs.Answers.{RegisterAnswer, ProcessAnswer, DecisionAnswer, CountAnswer}
use Rattle.model.specs.Board.{value_at, mark_at, process_at, idle}
use Rattle.model.specs.Numbers.{unsound, no_such_process, no_such_round, bad_buffer}
use Rattle.model.specs.Refusal.{refusal}
use Rattle.model.specs.Sound.{sound_as, sound}

-- ---- T[r] and C[r]: 3, 14

abbrev pub register_answer : ℕ → (value : ℕ) (marked : Bool) → RegisterAnswer
register_answer zero v m = record { code = 0; value = v; marked = m }
register_answer (suc k) v m = record { code = suc k; value = 0; marked = false }

-- 14: "read-out of a round not 1 to L".
unfoldable pub register : Session → (r : ℕ) → RegisterAnswer
register s r =
    register_answer (refusal ((not (sound s), unsound) ∷ (not (leb 1 r && leb r s.limit), no_such_round) ∷ [])) (value_at s r) (mark_at s r)

-- ---- a process' record: 3, 4

abbrev pub process_answer : ℕ → Process → ProcessAnswer
process_answer zero q = record { code = 0; process = q }
process_answer (suc k) q = record { code = suc k; process = idle }

-- Of a session and, 02, wish 6, of a poll: "Seats are read out as in sessions".
unfoldable pub process_record_as : (poll : Bool) → Session → (p : ℕ) → ProcessAnswer
process_record_as poll s p = process_answer (refusal ((not (sound_as poll s), unsound) ∷ (leb s.n p, no_such_process) ∷ [])) (process_at s p)

abbrev pub process_record : Session → (p : ℕ) → ProcessAnswer
process_record s p = process_record_as false s p

-- ---- D: 3

abbrev pub decision_answer : ℕ → (value : ℕ) → DecisionAnswer
decision_answer zero v = record { code = 0; value = v }
decision_answer (suc k) v = record { code = suc k; value = 0 }

unfoldable pub decision : Session → DecisionAnswer
decision s = decision_answer (refusal ((not (sound s), unsound) ∷ [])) s.decision

-- ---- standing values: 3, 15

-- Whether x stands in a list.
abbrev pub holds : ℕ → List ℕ → Bool
holds x [] = false
holds x (y ∷ ys) = eqb x y || holds x ys

-- A list with v at its end, unless v is blank or, 01, "a value already found in an earlier round".
abbrev pub with_new : (earlier : List ℕ) (v : ℕ) (listed : List ℕ) → List ℕ
with_new earlier v listed = cond (eqb v 0 || holds v earlier) listed (listed ++ v ∷ [])

-- 02, wish 1: "List each value by the first round in which it stands, lowest first": the values of T[1] to T[r], round by round.
unfoldable pub values_to : (T : List ℕ) (r : ℕ) → List ℕ
values_to T zero = []
values_to T (suc r) = with_new (take r T) (get_or T r 0) (values_to T r)

-- 01: "the values held by the filled registers among T[1] to T[L]".
abbrev pub standing_values : Session → List ℕ
standing_values s = values_to s.values s.limit

-- "15 is returned exactly when the buffer is shorter than that count."
unfoldable pub standing_refusal : Session → (buffer : List ℕ) → ℕ
standing_refusal s buffer = refusal ((not (sound s), unsound) ∷ (ltb (length buffer) (length (standing_values s)), bad_buffer) ∷ [])

abbrev pub count_answer : ℕ → (count : ℕ) → CountAnswer
count_answer zero c = record { code = 0; count = c }
count_answer (suc k) c = record { code = suc k; count = 0 }

-- "It returns how many".
abbrev pub standing_answer : Session → (buffer : List ℕ) → CountAnswer
standing_answer s buffer = count_answer (standing_refusal s buffer) (length (standing_values s))

abbrev pub buffered : ℕ → (listed buffer : List ℕ) → List ℕ
buffered zero listed buffer = listed ++ drop (length listed) buffer
buffered (suc k) listed buffer = buffer

-- The buffer after: the list "from its first place on .. later buffer places keep their numbers"; refused, it is as it was.
abbrev pub standing_buffer : Session → (buffer : List ℕ) → List ℕ
standing_buffer s buffer = buffered (standing_refusal s buffer) (standing_values s) buffer
