-- What is known where an operation is accepted: none of its tests holds.
use Rattle.std.specs.Prelude.{◌<◌, ◌≡◌, ◌∷◌, ◌++◌}
use Rattle.base.specs.Prelude.{ℕ, arith, refl, Bool, true, false, cond, List, [], eqb, ne_eqb, leb-false, lt-leb}
use Rattle.base.specs.Bools.{cond_cases}
use Rattle.model_laws.specs.Types.{Phase, Session, Counts, Operation, Propose, Step, Learn, Crash}
use Rattle.model.specs.Board.{process_at}
use Rattle.model.specs.Machine.{process_of}
use Rattle.model.specs.Numbers.{unsound}
use Rattle.model.specs.declared.Status.TheVariants.{Active}
use Rattle.model.specs.Refusal.{Test, status, is_outside, full, refusal, propose_tests, step_tests, learn_tests, crash_tests, process_tests}
use Rattle.model.specs.Refusal.{tests}

-- No test of the list holds.
abbrev pub NoneHolds : List Test → Type 0
NoneHolds [] = Unit {0}
NoneHolds (t ∷ ts) = (t.0 ≡ false) × NoneHolds ts

-- No test of the list has the number k.
abbrev pub Without : (k : ℕ) → List Test → Type 0
Without k [] = Unit {0}
Without k (t ∷ ts) = (t.1 ≡ k → ⊥) × Without k ts

-- A number that no test has is 0, and no test holds.
pub returned : (k : ℕ) (ts : List Test) → Without k ts → refusal ts ≡ k → (0 ≡ k) × NoneHolds ts
returned k [] other = λ e. (e, tt)
returned k (t ∷ ts) other =
    cond_cases (λ n. n ≡ k → (0 ≡ k) × NoneHolds (t ∷ ts)) t.0
    (λ b e. absurd (other.0 e))
    (λ b e. let later = returned k ts other.1 e in (later.0, (b, later.1)))

pub none_holds : (ts : List Test) → Without 0 ts → refusal ts ≡ 0 → NoneHolds ts
none_holds ts other e = (returned 0 ts other e).1

-- Tests in front of others: the first refusal among them, else that of the others.
pub refusal_append : (ts us : List Test) → Without 0 ts → refusal (ts ++ us) ≡ cond (eqb (refusal ts) 0) (refusal us) (refusal ts)
refusal_append [] us other = refl
refusal_append (t ∷ ts) us other = front t.0 (refusal_append ts us other.1)
  where
    front : (b : Bool) → refusal (ts ++ us) ≡ cond (eqb (refusal ts) 0) (refusal us) (refusal ts)
        → cond b t.1 (refusal (ts ++ us)) ≡ cond (eqb (cond b t.1 (refusal ts)) 0) (refusal us) (cond b t.1 (refusal ts))
    front true later = rw (ne_eqb t.1 0 other.0)
    front false later = later

-- The own tests of an operation, by the closed mark and the phase of its process, and that 4 is in front of them.
abbrev pub own_tests : (closed : Bool) → Phase → Counts → Operation → List Test
own_tests closed φ c (Propose p v) = propose_tests closed φ v
own_tests closed φ c (Step p leader) = step_tests φ c
own_tests closed φ c (Learn p) = learn_tests φ c
own_tests closed φ c (Crash p) = crash_tests φ

pub tests_are : (s : Session) (c : Counts) (o : Operation) → tests s c o ≡ process_tests s (process_of o) (λ φ. own_tests s.closed φ c o)
tests_are s c (Propose p v) = refl
tests_are s c (Step p leader) = refl
tests_are s c (Learn p) = refl
tests_are s c (Crash p) = refl

-- They have numbers from 5 on: not 0, and not 3.
own_without : (k : ℕ) → k < 5 → (closed : Bool) (φ : Phase) (c : Counts) (o : Operation) → Without k (own_tests closed φ c o)
own_without k low closed φ c (Propose p v) = omega arith
own_without k low closed φ c (Step p leader) = omega arith
own_without k low closed φ c (Learn p) = omega arith
own_without k low closed φ c (Crash p) = omega arith

tests_without : (k : ℕ) → k < 4 → (s : Session) (c : Counts) (o : Operation) → Without k (tests s c o)
tests_without k low s c o = rw (tests_are s c o) (omega arith, own_without k (omega arith) s.closed _ c o)

-- The machine never returns 3.
pub never_three : (s : Session) (c : Counts) (o : Operation) → refusal (tests s c o) ≡ unsound → ⊥
never_three s c o e = omega (arith, (returned unsound (tests s c o) (tests_without unsound (omega arith) s c o) e).0)

-- An accepted operation is of a process of the session, and none of its own tests holds.
pub record Accepted (s : Session) (c : Counts) (o : Operation) : Type 0 where
  pub below : process_of o < s.n
  pub own : NoneHolds (own_tests s.closed (process_at s (process_of o)).phase c o)

pub accepted : (s : Session) (c : Counts) (o : Operation) → refusal (tests s c o) ≡ 0 → Accepted s c o
accepted s c o e =
    let a = rw (tests_are s c o) at (none_holds (tests s c o) (tests_without 0 (omega arith) s c o) e) in
    record { below = leb-false s.n (process_of o) a.0; own = a.1 }

-- The other way round: what is enough for an operation to be accepted.
module _ (s : Session) (c : Counts) (p : ℕ) (below : p < s.n) where
  pub propose_accepts : (v : ℕ) → 0 < v → is_outside (status (process_at s p).phase) ≡ true → s.closed ≡ false →
      refusal (tests s c (Propose p v)) ≡ 0
  propose_accepts v some out unclosed = rw (lt-leb s.n p below, ne_eqb v 0 (λ z. omega arith), out, unclosed) refl

  pub step_accepts : (leader : Bool) → status (process_at s p).phase ≡ Active → full c ≡ false → refusal (tests s c (Step p leader)) ≡ 0
  step_accepts leader works room = rw (lt-leb s.n p below, works, room) refl

  pub learn_accepts : status (process_at s p).phase ≡ Active → full c ≡ false → refusal (tests s c (Learn p)) ≡ 0
  learn_accepts works room = rw (lt-leb s.n p below, works, room) refl
