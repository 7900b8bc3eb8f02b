-- The test of a record, by its phase and the clause that the phase has. Assumes nothing.
use Rattle.std.specs.Prelude.{◌≡◌, ◌&&◌, ◌||◌}
use Rattle.base.specs.Prelude.{ℕ, min, refl, sym, ap, ◌∙◌, Bool, true, false, and_assoc, and-true, or-false, or-true}
use Rattle.base.specs.Prelude.{arith, ltb-true, ltb-false, lt-ltb, le-ltb, leb, ltb, eqb}
use Rattle.model_laws.specs.Types.{Phase, Idle, Process}
use Rattle.model.specs.Refusal.{status, is_outside}
use Rattle.model.specs.Sound.{sound_phase_as, sound_process_as}

-- The clause of compare and flag: below both of two numbers is below the smaller.
pub near : (i r W : ℕ) → (leb 1 r && ltb i r && ltb i W) ≡ (leb 1 r && ltb i (min r W))
near i r W = rw and_assoc (ap (λ b. leb 1 r && b) (by (ltb i r) (ltb i W) refl refl))
  where
    by : (x y : Bool) → ltb i r ≡ x → ltb i W ≡ y → (x && y) ≡ ltb i (min r W)
    by true true p q = sym (lt-ltb i (min r W) (omega (arith, ltb-true i r p, ltb-true i W q)))
    by true false p q = sym (le-ltb i (min r W) (omega (arith, ltb-false i W q)))
    by false y p q = sym (le-ltb i (min r W) (omega (arith, ltb-false i r p)))

-- The test of the record, by its phase and the clause that the phase has.
module _ (poll : Bool) (W L : ℕ) (member : Bool) (q : Process) where
  abbrev pub Tested : Bool
  Tested = (member || is_outside (status q.phase)) && sound_process_as poll W L q

  -- A process that has not proposed.
  pub out : {b : Bool} → q.phase ≡ Idle → b ≡ (eqb q.estimate 0 && leb q.round L && eqb q.round 0) → b ≡ Tested
  unfolding sound_process_as sound_phase_as
  out told p = rw (told, or-true member) p

  -- Any other, by the number of tests that the clause of its phase has.
  module _ {φ : Phase} (told : q.phase ≡ φ) (ins : is_outside (status φ) ≡ false) where
    abbrev pub held : Bool
    held = member && ltb 0 q.estimate && leb q.round L

    abbrev pub clause : Bool
    clause = sound_phase_as poll W L q.round φ

    pub one : {a : Bool} → a ≡ clause → (held && a) ≡ Tested
    unfolding sound_process_as
    one p = rw (told, ins, p) (simp (or-false, and_assoc))

    pub free : true ≡ clause → held ≡ Tested
    free p = sym (and-true held) ∙ one p

    pub two : (a b : Bool) → (a && b) ≡ clause → (held && a && b) ≡ Tested
    two a b p = and_assoc held a b ∙ one p

    pub three : (a b c : Bool) → (a && b && c) ≡ clause → (held && a && b && c) ≡ Tested
    three a b c p = ap (λ x. x && c) (and_assoc held a b) ∙ and_assoc held (a && b) c ∙ one p
