-- What the code leaves after a turn of a sound poll is what the machine leaves; i is the index of process p. Assumes nothing.
use Rattle.std.specs.Prelude.{◌<◌, ◌≡◌}
use Rattle.base.specs.Prelude.{ℕ, refl, sym, ◌∙◌, ap, Bool, true, List, set, length, get_or, get_or-set_same}
use Rattle.model_laws.specs.Types.{Access, Nothing, ReadValue, WriteValue, ReadMark, SetMark, ReadDecision, WriteDecision, Process, Session}
use Rattle.model_laws.specs.Types.{Counts}
use Rattle.model.specs.Board.{process_at, idle, with, max_rounds}
use Rattle.model.specs.Step.{access, counted}
use Rattle.model_laws.specs.Ranges.{InRange}
use Rattle.model_poll.specs.Turn.{without_decision, poll_access, poll_next, answer_of}
use Rattle.model_poll.specs.Machine.{turn_after, turn_counts}
use Rattle.model_poll.specs.declared.Answer.{Answer}
use Rattle.model_laws.specs.Registers.{value_in, mark_in, values_after, marks_after, decision_after, NoLook, step_no_look, turn_counts_law}
use Rattle.model_laws.specs.Registers.{turn_leaves}

-- No turn reads D, and none writes it.
quiet_look : (a : Access) → NoLook a → NoLook (without_decision a)
unfolding without_decision
quiet_look Nothing look = look
quiet_look (ReadValue r) look = look
quiet_look (WriteValue r) look = look
quiet_look (ReadMark r) look = look
quiet_look (SetMark r) look = look
quiet_look ReadDecision look = look
quiet_look WriteDecision look = tt

quiet_write : (d : ℕ) (a : Access) (e : ℕ) → d ≡ decision_after d (without_decision a) e
unfolding without_decision
quiet_write d Nothing e = refl
quiet_write d (ReadValue r) e = refl
quiet_write d (WriteValue r) e = refl
quiet_write d (ReadMark r) e = refl
quiet_write d (SetMark r) e = refl
quiet_write d ReadDecision e = refl
quiet_write d WriteDecision e = refl

no_look : (L : ℕ) (q : Process) → NoLook (poll_access L q)
unfolding poll_access access
no_look L q = quiet_look (access L q true) (step_no_look L q.round q.phase true)

no_write : (d L : ℕ) (q : Process) (e : ℕ) {a : Access} → a ≡ poll_access L q → d ≡ decision_after d a e
unfolding poll_access
no_write d L q e ea = rw ea (quiet_write d (access L q true) e)

module _ (s : Session) (p : ℕ) {i v x : ℕ} {a : Access} (ok : InRange max_rounds (poll_access s.limit (process_at s p))) (ei : i ≡ p)
    (ea : a ≡ poll_access s.limit (process_at s i)) (er : v ≡ value_in s.values a) (ex : x ≡ mark_in v s.marks a) where
  pub turned_counts : (c : Counts) → counted a x c ≡ turn_counts s c p
  unfolding turn_counts
  turned_counts c = turn_counts_law s p (poll_access s.limit) (no_look s.limit (process_at s p)) ok ei ea er ex c

  pub turned_poll : (W : ℕ) {values : List ℕ} {marks : List Bool} {q : Process} →
      values ≡ values_after s.values a (process_at s i).estimate →
      marks ≡ marks_after s.marks a → q ≡ poll_next W s.limit (process_at s i) x →
      with s values marks s.decision (set s.processes i q) ≡ turn_after W s p
  unfolding turn_after
  turned_poll W ev em eq =
      turn_leaves s p (poll_access s.limit) (no_look s.limit (process_at s p)) ok ei ea er ex (poll_next W s.limit) ev em
      (no_write s.decision s.limit (process_at s i) (process_at s i).estimate ea) eq

-- The answer is read off the record that was stored.
pub turned_answer : (qs : List Process) (i p : ℕ) (q : Process) {b : Answer} → i ≡ p → p < length qs → b ≡ answer_of q →
    b ≡ answer_of (get_or (set qs i q) p idle)
turned_answer qs i p q ei below eb = eb ∙ ap answer_of (rw ei (sym (get_or-set_same qs p q idle below)))
