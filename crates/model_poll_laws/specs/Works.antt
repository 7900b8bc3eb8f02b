-- What a turn makes of a process of a sound poll that works, whatever it finds: it works on, or has its answer.
use Rattle.std.specs.Prelude.{◌≡◌, ◌⊎◌}
use Rattle.base.specs.Prelude.{ℕ, arith, refl, true, inl, inr, ltb-true}
use Rattle.base.specs.Bools.{cond_cases}
use Rattle.model_laws.specs.Types.{Phase, Idle, Waiting, Write, Scan, Adopt, Compare, Flag, CheckMark, CheckValue, Commit, Exhausted}
use Rattle.model_laws.specs.Types.{Crashed, Decided, HasCommitted, HasAdopted, Process}
use Rattle.model.specs.declared.Status.TheVariants.{Active}
use Rattle.model.specs.Refusal.{status}
use Rattle.model.specs.Step.{next}
use Rattle.model.specs.Sound.{sound_phase_as, sound_process_as}
use Rattle.model_laws.specs.Works.{next_works}
use Rattle.model_poll.specs.Turn.{is_waiting, ending, poll_next, phase_answer, answer_of, is_answered}
use Rattle.model_poll_laws.specs.Sounds.{phase_rule}

-- A session's turn leads where it leads, or to an answer.
ending_cases : (P : Phase → Type 0) (φ left : Phase) → P HasAdopted → P HasCommitted → P left → P (ending φ left)
unfolding ending
ending_cases P Idle left a c p = p
ending_cases P Waiting left a c p = p
ending_cases P Write left a c p = p
ending_cases P (Scan k) left a c p = p
ending_cases P (Adopt k) left a c p = p
ending_cases P (Compare i) left a c p = p
ending_cases P (Flag i) left a c p = p
ending_cases P (CheckMark i) left a c p = cond_cases P (is_waiting left) (λ t. a) (λ t. p)
ending_cases P (CheckValue i) left a c p = cond_cases P (is_waiting left) (λ t. a) (λ t. p)
ending_cases P Commit left a c p = c
ending_cases P Exhausted left a c p = p
ending_cases P Crashed left a c p = p
ending_cases P Decided left a c p = p
ending_cases P HasCommitted left a c p = p
ending_cases P HasAdopted left a c p = p

-- The phase works, or is an answer.
abbrev WorksOrAnswers : (e : ℕ) → Phase → Type 0
WorksOrAnswers e φ = (status φ ≡ Active) ⊎ (is_answered (phase_answer φ e) ≡ true)

pub poll_next_works : (W : ℕ) (q : Process) (x : ℕ) → sound_process_as true W W q ≡ true → status q.phase ≡ Active →
    let r = poll_next W W q x in (status r.phase ≡ Active) ⊎ (is_answered (answer_of r) ≡ true)
unfolding poll_next answer_of sound_phase_as
poll_next_works W q x sound a =
    let P : Phase → Type 0 = WorksOrAnswers (next W W q true x).estimate in
    ending_cases P q.phase _ (inr refl) (inr refl)
    (next_works P W W q true x (λ φ e. inl e)
    (λ waits last. absurd (omega (arith, ltb-true q.round W (rw waits at (phase_rule W W q sound)))))
    a)
