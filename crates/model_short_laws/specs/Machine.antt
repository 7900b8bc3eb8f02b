-- The sessions that the lists meet: sound ones of n processes. There what an entry gives is what the machine answers.
use Rattle.std.specs.Prelude.{◌+◌, ◌-◌, ◌*◌, ◌≤◌, ◌≡◌}
use Rattle.base.specs.Prelude.{ℕ, suc, zero, refl, ap, ◌∙◌, true, false, inl, inr, arith}
use Rattle.model.specs.declared.Session.{Session}
use Rattle.model.specs.declared.Counts.{Counts}
use Rattle.model.specs.Answers.{Stepped}
use Rattle.model.specs.declared.Operation.{Operation}
use Rattle.model.specs.declared.Entry.{Entry}
use Rattle.model.specs.declared.Entry.TheVariants.{Acts, Closes, Malformed}
use Rattle.model.specs.Window.{window, root_up, root_from}
use Rattle.model.specs.Board.{opened, with_closed, max_processes, max_rounds}
use Rattle.model.specs.Refusal.{refusal, tests, stepped}
use Rattle.model.specs.Machine.{perform, answered, after, counts_after, execute}
use Rattle.model.specs.Sound.{sound_for}
use Rattle.model.specs.Public.{with_counts, operate_for_as, close_for, commanded}
use Rattle.model.specs.Runner.{entry_answer}
use Rattle.model_laws.specs.Answers.{operate_sound}
use Rattle.model_laws.specs.Operations.{after_same, perform_sound, opened_sound}
use Rattle.model_laws.specs.Sounds.{closed_sound}
use Rattle.model_short.specs.declared.RawEntry.{RawEntry}
use Rattle.model_short.specs.Short.{said}
use Rattle.model_short_laws.specs.Choosing.{raw_answer}
use Rattle.model_short_laws.specs.Order.{OneOrTwo}
use Rattle.model_short_laws.specs.Numbers.{one_or_two}

pub record Met (n : ℕ) (s : Session) : Type 0 where
  pub sound : sound_for (window n) s ≡ true
  pub processes : s.n ≡ n

known_window : (n : ℕ) → OneOrTwo n → (1 ≤ window n) × (window n ≤ max_rounds)
unfolding window root_up root_from
known_window n (inl e) = rw e (omega arith, omega arith)
known_window n (inr e) = rw e (omega arith, omega arith)

pub met_fresh : (n : ℕ) → OneOrTwo n → Met n (opened n (window n))
unfolding opened
met_fresh n h =
    record {
      sound = opened_sound (window n) n (window n) (few h).0 (few h).1 (omega arith) (known_window n h).1;
      processes = refl;
    }
  where
    few : OneOrTwo n → (1 ≤ n) × (n ≤ max_processes)
    few (inl e) = (omega arith, omega arith)
    few (inr e) = (omega arith, omega arith)

-- No operation changes n.
perform_n : (W : ℕ) (s : Session) (c : Counts) (o : Operation) → (perform W s c o).session.n ≡ s.n
unfolding perform answered
perform_n W s c o = go (refusal (tests s c o))
  where
    go : (k : ℕ) → (stepped k s (after W s o) c (counts_after s c o)).session.n ≡ s.n
    go zero = (after_same W s o).0
    go (suc k) = refl

module _ (n : ℕ) (s : Session) (m : Met n s) (c : Counts) where
  pub apply_machine : (e : RawEntry) → entry_answer commanded s c (said e) ≡ raw_answer n s c e
  unfolding raw_answer execute close_for
  apply_machine e = go (said e)
    where
      closed : with_counts (close_for (window n) s) c ≡ record { code = 0; session = with_closed s; counts = c }
      closed = rw m.sound refl

      go : (x : Entry) → entry_answer commanded s c x ≡ entry_answer (execute (window n)) s c x
      go (Acts o) = ap (λ (k : ℕ). operate_for_as false (window k) s c o) m.processes ∙ operate_sound false (window n) s c o m.sound
      go Closes = ap (λ (k : ℕ). with_counts (close_for (window k) s) c) m.processes ∙ closed
      go Malformed = refl

  pub applied : (e : RawEntry) {a : Stepped} → a ≡ entry_answer commanded s c (said e) → a ≡ raw_answer n s c e
  applied e h = h ∙ apply_machine e

  -- What an entry leaves is such a session too.
  pub met_after : OneOrTwo n → (e : RawEntry) → Met n (raw_answer n s c e).session
  unfolding raw_answer execute
  met_after h e = go (said e)
    where
      go : (x : Entry) → Met n (entry_answer (execute (window n)) s c x).session
      go (Acts o) =
          record {
            sound = perform_sound (window n) (known_window n h).0 s c o m.sound;
            processes = perform_n (window n) s c o ∙ m.processes;
          }
      go Closes = record { sound = closed_sound (window n) s ∙ m.sound; processes = m.processes }
      go Malformed = m

-- What a search for a list is given: one or two processes, room for the entries that are left, and such a session.
pub record SearchReady (n left at : ℕ) (s : Session) : Type 0 where
  pub one : 1 ≤ n
  pub two : n ≤ 2
  pub room : at + 6 * left ≤ 36
  pub met : Met n s

-- Behind an entry that is accepted the search goes on.
pub ready_after : (n left at : ℕ) (s t : Session) (c d : Counts) (e : RawEntry) → SearchReady n left at s → 1 ≤ left
    → record { code = 0; session = t; counts = d } ≡ entry_answer commanded s c (said e) → SearchReady n (left - 1) (at + 6) t
ready_after n left at s t c d e r more done =
    let accepted = applied n s r.met c e done in
    record {
      one = r.one;
      two = r.two;
      room = omega (arith, r.room);
      met = rw (← accepted) at (met_after n s r.met c (one_or_two n r.one r.two) e);
    }
