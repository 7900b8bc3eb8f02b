-- The clauses of a session's test, or a poll's: where one fails the test does, and where the first ones hold the records are left. Assumes
-- nothing.
use Rattle.std.specs.Prelude.{◌≤◌, ◌≡◌, ◌&&◌}
use Rattle.base.specs.Prelude.{ℕ, sym, ◌∙◌, Bool, true, false, not, and_assoc, and-false, leb-true, not-true, not-false}
use Rattle.base.specs.Prelude.{leb, eqb, drop}
use Rattle.base.specs.Bools.{and_right}
use Rattle.model_laws.specs.Types.{Process, Session}
use Rattle.model.specs.Window.{window}
use Rattle.model.specs.Refusal.{status, is_outside}
use Rattle.model.specs.Sound.{every, sound_process_as, poll_registers, sound_for_as, sound_as}
use Rattle.model_laws.specs.Passes.{rest, begins}

abbrev pub outside : Process → Bool
outside q = is_outside (status q.phase)

-- Seven tests, of which the second to the fifth are one.
joined : (a b g c d e f : Bool) → (a && b && g && c && d && e && f) ≡ (a && (b && g && (c && d)) && (e && f))
joined a b g c d e f = simp and_assoc

module _ (poll : Bool) (s : Session) where
  abbrev processes : Bool
  processes = leb 1 s.n && leb s.n 64

  -- The rounds' number at a window, and what a poll has besides; the registers and marks past it.
  abbrev rounds : ℕ → Bool
  rounds W = leb W s.limit && leb s.limit 256 && poll_registers poll W s

  abbrev blank : Bool
  blank = every (λ x. eqb x 0) (drop s.limit s.values) && every not (drop s.limit s.marks)

  pub few : processes ≡ true → s.n ≤ 64
  few p = leb-true s.n 64 (and_right (leb 1 s.n) _ p)

  module _ {W : ℕ} (w : W ≡ window s.n) where
    clauses : sound_as poll s ≡ (processes && (rounds W && blank) && rest outside (sound_process_as poll W s.limit) s.n s.processes 0)
    unfolding sound_as sound_for_as
    clauses = rw (← w, begins outside (sound_process_as poll W s.limit) s.n s.processes) (joined processes _ _ _ _ _ _)

    -- The answer b of the test of the registers and marks.
    module _ {b : Bool} (told : b ≡ blank) where
      pub rounds_fail : not (rounds W && b) ≡ true → false ≡ sound_as poll s
      rounds_fail p = sym (clauses ∙ rw (sym told, not-true (rounds W && b) p, and-false processes))

      pub records_left : not processes ≡ false → not (rounds W && b) ≡ false
          → sound_as poll s ≡ rest outside (sound_process_as poll W s.limit) s.n s.processes 0
      records_left p q = clauses ∙ rw (sym told, not-false processes p, not-false (rounds W && b) q)

  pub processes_fail : not processes ≡ true → false ≡ sound_as poll s
  unfolding sound_as sound_for_as
  processes_fail p = rw (not-true processes p)
