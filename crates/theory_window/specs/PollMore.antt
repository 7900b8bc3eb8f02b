-- More processes, which take no part in a poll, change nothing of what it comes to.
use Rattle.std.specs.Prelude.{◌+◌, ◌<◌, ◌≡◌}
use Rattle.base.specs.Prelude.{ℕ, arith, add-zero, refl, ◌∙◌, ap, Bool, true, List, ltb, lt-leb, ltb-true}
use Rattle.model_laws.specs.Types.{Session, Propose, Crash}
use Rattle.model.specs.Board.{process_at, no_counts}
use Rattle.model.specs.Step.{turn}
use Rattle.model.specs.Refusal.{refusal}
use Rattle.model_poll.specs.Turn.{poll_access, poll_next}
use Rattle.model_poll.specs.Machine.{PollOperation, proposes, turns, crashes, turn_tests, turn_after, turned, poll_perform}
use Rattle.model_poll_laws.specs.Performs.{poll_process_of}
use Rattle.model_rule.specs.Event.{Event}
use Rattle.model_rule.specs.PollCalls.{poll_events_of, polls}
use Rattle.theory_window.specs.More.{grown, turn_grown, stepped_grown, perform_grown, watched, Same, watched_same}

-- Whether the operation is of a process of the poll.
abbrev pub inside : Session → PollOperation → Bool
inside s o = ltb (poll_process_of o) s.n

after_grown : (W a : ℕ) (s : Session) (p : ℕ) → turn_after W (grown a 0 s) p ≡ grown a 0 (turn_after W s p)
unfolding turn_after
after_grown W a s p =
    let q = process_at s p in
    turn_grown a 0 s p _ _ ∙ ap (λ L. grown a 0 (turn s p (poll_access L q) (poll_next W L q))) (add-zero s.limit)

-- One operation of such a process: the number, the poll, and its events where it is accepted.
performed_grown : (W a : ℕ) (s : Session) (o : PollOperation) → poll_process_of o < s.n →
    let x = poll_perform W s no_counts o in
    let y = poll_perform W (grown a 0 s) no_counts o in
    ((y.session ≡ grown a 0 x.session) × (y.code ≡ x.code)) × (poll_events_of (grown a 0 s) o ≡ poll_events_of s o)
unfolding poll_perform turned
performed_grown W a s (proposes p v) below = (perform_grown W a 0 s (Propose p v) below refl, refl)
performed_grown W a s (turns p) below =
    let number : refusal (turn_tests (grown a 0 s) no_counts p) ≡ refusal (turn_tests s no_counts p) =
    rw (lt-leb (s.n + a) p (omega arith), lt-leb s.n p below) refl in
    (rw (number, after_grown W a s p) (stepped_grown a 0 (refusal (turn_tests s no_counts p)) s (turn_after W s p) no_counts _ _), refl)
performed_grown W a s (crashes p) below = (perform_grown W a 0 s (Crash p) below refl, refl)

-- A list of them.
pub polls_same : (W a : ℕ) (s : Session) (h : List Event) (os : List PollOperation) (end : Session → List Event → Bool) →
    watched (polls W) inside s h os end ≡ true → Same (polls W) inside a 0 s h os end
polls_same W a =
    watched_same (polls W) inside a 0
    (λ s o ok. let k = performed_grown W a s o (ltb-true (poll_process_of o) s.n ok) in (k.0.0, rw (k.0.1, k.1) refl))
