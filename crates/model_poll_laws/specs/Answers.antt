-- The answer of a turn, by the number of its first refusal and by what is left where it is 0.
use Rattle.std.specs.Prelude.{◌<◌, ◌%◌, ◌≡◌, ◌∷◌}
use Rattle.base.specs.Prelude.{ℕ, arith, refl, sym, ◌∙◌, Bool, true, false, cond, not, leb-false}
use Rattle.model_laws.specs.Types.{Session, Counts}
use Rattle.model.specs.Window.{window}
use Rattle.model.specs.Board.{process_at}
use Rattle.model.specs.Numbers.{unsound}
use Rattle.model.specs.Refusal.{refusal, status, is_outside, is_gone, full, stepped}
use Rattle.model.specs.Sound.{sound_as, sound_poll}
use Rattle.model_laws.specs.Accepted.{none_holds}
use Rattle.model_laws.specs.Answers.{index_is, refused_alike}
use Rattle.model_poll.specs.Answers.{PollStepped}
use Rattle.model_poll.specs.declared.Answer.{Answer}
use Rattle.model_poll.specs.declared.Answer.TheVariants.{Pending}
use Rattle.model_poll.specs.Turn.{answer_of}
use Rattle.model_poll.specs.Machine.{turn_tests, turn_after, turn_counts, polled, turned}
use Rattle.model_poll.specs.Public.{poll_turn_for, poll_turn}

-- What an accepted turn knows: its process is one of the n, has proposed, is not gone; and the counts are not full.
pub record TurnAccepted (s : Session) (c : Counts) (p : ℕ) : Type 0 where
  pub below : p < s.n
  pub inside : is_outside (status (process_at s p).phase) ≡ false
  pub here : is_gone (status (process_at s p).phase) ≡ false
  pub room : full c ≡ false

pub turn_accepted : (s : Session) (c : Counts) (p : ℕ) → refusal (turn_tests s c p) ≡ 0 → TurnAccepted s c p
turn_accepted s c p e =
    let a = none_holds (turn_tests s c p) (omega arith) e in
    record { below = leb-false s.n p a.0; inside = a.1.0; here = a.1.1.0; room = a.1.1.1.0 }

-- ---- a turn of any poll

module _ (s : Session) (c : Counts) (p : ℕ) {k : ℕ} (code : k ≡ refusal ((not (sound_poll s), unsound) ∷ turn_tests s c p)) where
  -- Refused: nothing changes, and no answer is given.
  pub turn_refused : (k ≡ 0 → ⊥) → record { code = k; session = s; counts = c; answer = Pending } ≡ poll_turn s p c
  unfolding poll_turn_for turned sound_as
  turn_refused =
      refused_alike {A = PollStepped} (λ k. record { code = k; session = s; counts = c; answer = Pending })
      (λ m. polled (stepped m s (turn_after (window s.n) s p) c (turn_counts s c p)) p) (λ m. refl) code

  module _ (none : k ≡ 0) where
    -- What the accepted turn knows.
    pub turn_known : (sound_poll s ≡ true) × TurnAccepted s c p
    turn_known = go (sound_poll s) refl (sym code ∙ none)
      where
        go : (b : Bool) → sound_poll s ≡ b → cond (not b) 3 (refusal (turn_tests s c p)) ≡ 0 → (sound_poll s ≡ true) × TurnAccepted s c p
        go true eb e = (eb, turn_accepted s c p e)
        go false eb e = absurd (omega arith)

    pub turn_index : p % 64 ≡ p
    turn_index = index_is true s p turn_known.0 turn_known.1.below

    -- The poll, the counts and the answer that the code leaves.
    pub turn_left : {t : Session} {d : Counts} {a : Answer} → t ≡ turn_after (window s.n) s p → d ≡ cond (full c) c (turn_counts s c p) →
        a ≡ answer_of (process_at t p) → record { code = k; session = t; counts = d; answer = a } ≡ poll_turn s p c
    unfolding poll_turn_for turned sound_as
    turn_left et ed ea =
        let zero_is : 0 ≡ refusal ((not (sound_poll s), unsound) ∷ turn_tests s c p) = sym none ∙ code in
        let counts = rw turn_known.1.room at ed in
        rw (ea, none, ← zero_is, counts, et) refl
