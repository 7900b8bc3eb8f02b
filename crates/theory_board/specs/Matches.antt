-- The registers of a session are what the past wrote; one register operation with its event keeps this.
use Rattle.std.specs.Prelude.{◌-◌, ◌≤◌, ◌≡◌, ◌∷◌}
use Rattle.base.specs.Prelude.{ℕ, arith, ℕ_discrete, refl, sym, ◌∙◌, ap, Bool, true, false, cond, List, length, get_or}
use Rattle.base.specs.Prelude.{set, length-set, get_or-set_same, get_or-set_other, eqb, eqb-true, eqb-false, eq-eqb, ne_eqb}
use Rattle.base.specs.Bools.{cond_cases}
use Rattle.model_laws.specs.Types.{Access, Nothing, ReadValue, WriteValue, ReadMark, SetMark, ReadDecision, WriteDecision, Session}
use Rattle.model.specs.Board.{value_at, mark_at}
use Rattle.model.specs.Step.{found, stored}
use Rattle.model_laws.specs.Ranges.{InRange}
use Rattle.model_rule.specs.Event.{Event, write, flag, commit, here, there, Happened}
use Rattle.theory_board.specs.Epoch.{last}
use Rattle.theory_board.specs.Past.{happened_past, happened_older}
use Rattle.theory_board.specs.Lawful.{IsCommitted}
use Rattle.theory_board.specs.Place.{Found}

-- A mark of round j is set exactly if the round was flagged.
abbrev pub Marked : (j : ℕ) → Bool → List Event → Type 0
Marked j b h = (b ≡ true → Happened (flag j) h) × (Happened (flag j) h → b ≡ true)

-- The value registers and the marks are those of the past; the decision register is blank or holds a committed value.
pub record Matches (s : Session) (h : List Event) : Type 0 where
  pub values : (j : ℕ) → 1 ≤ j → value_at s j ≡ last h j
  pub marks : (j : ℕ) → 1 ≤ j → Marked j (mark_at s j) h
  pub decision : (s.decision ≡ 0 → ⊥) → IsCommitted s.decision h

-- The arrays have a place for each round and each process.
pub record Long (s : Session) : Type 0 where
  pub values : s.limit ≤ length s.values
  pub marks : s.limit ≤ length s.marks
  pub processes : s.n ≤ length s.processes

-- ---- what is written

-- Place r - 1 of a list that is set, read at place j - 1.
set_read : {A : Type 0} (xs : List A) (r j : ℕ) (x d : A) → 1 ≤ r → 1 ≤ j → r ≤ length xs →
    get_or (set xs (r - 1) x) (j - 1) d ≡ cond (eqb r j) x (get_or xs (j - 1) d)
set_read xs r j x d hr hj long =
    elim (ℕ_discrete r j) [
      | yes e ↦ rw (eq-eqb r j e, ← e) (get_or-set_same xs (r - 1) x d (omega arith))
      | no ne ↦ rw (ne_eqb r j ne) (get_or-set_other xs (r - 1) (j - 1) x d (λ e. ne (omega arith)))
    ]

-- An event that is no flag of round j leaves its mark.
still_marked : {j : ℕ} {b : Bool} {x : Event} {h : List Event} → (x ≡ flag j → ⊥) → Marked j b h → Marked j b (x ∷ h)
still_marked other m = (λ t. happened_past (there here) (m.0 t), λ f. m.1 (happened_older other f))

-- What was committed stays so.
committed_event : {d : ℕ} {x : Event} {h : List Event} → ((d ≡ 0 → ⊥) → IsCommitted d h) → (d ≡ 0 → ⊥) → IsCommitted d (x ∷ h)
committed_event c some = ((c some).0, happened_past (there here) (c some).1)

-- An event of no register.
pub silent_matches : {s : Session} {x : Event} {h : List Event} → ((j : ℕ) → last (x ∷ h) j ≡ last h j) → ((j : ℕ) → x ≡ flag j → ⊥) →
    Matches s h → Matches s (x ∷ h)
silent_matches same other k =
    record {
      values = λ j b. k.values j b ∙ sym (same j);
      marks = λ j b. still_marked (other j) (k.marks j b);
      decision = committed_event k.decision;
    }

module _ {s : Session} {h : List Event} (long : Long s) (k : Matches s h) where
  -- A value that is written to register r.
  pub write_matches : (p r v : ℕ) → InRange s.limit (WriteValue r) →
      Long (stored s (WriteValue r) v) × Matches (stored s (WriteValue r) v) (write p r v ∷ h)
  unfolding stored
  write_matches p r v ok = (
    record { values = simp length-set long.values; marks = long.marks; processes = long.processes },
    record {
      values = λ j b. set_read s.values r j v 0 ok.0 b (omega (arith, long.values)) ∙ ap (cond (eqb r j) v) (k.values j b);
      marks = λ j b. still_marked (λ e. let z : ◌≡◌ {A = ℕ} 0 1 = cc in omega arith) (k.marks j b);
      decision = committed_event k.decision;
    },
  )

  -- A mark that is set, of round i.
  pub flag_matches : (i v : ℕ) → InRange s.limit (SetMark i) →
      Long (stored s (SetMark i) v) × Matches (stored s (SetMark i) v) (flag i ∷ h)
  unfolding stored
  flag_matches i v ok = (
    record { values = long.values; marks = simp length-set long.marks; processes = long.processes },
    record {
      values = k.values;
      marks =
          λ j b.
          rw (set_read s.marks i j true false ok.0 b (omega (arith, long.marks)))
          (cond_cases (λ m. Marked j m (flag i ∷ h)) (eqb i j)
          (λ t. (λ m. record { before = h; past = rw (eqb-true i j t) here }, λ f. refl))
          (λ t. still_marked (λ e. eqb-false i j t (cc)) (k.marks j b)));
      decision = committed_event k.decision;
    },
  )

  -- A value that is written to the decision register.
  pub commit_matches : (r v : ℕ) → Long (stored s WriteDecision v) × Matches (stored s WriteDecision v) (commit r v ∷ h)
  unfolding stored
  commit_matches r v = (
    record { values = long.values; marks = long.marks; processes = long.processes },
    record {
      values = k.values;
      marks = λ j b. still_marked (λ e. let z : ◌≡◌ {A = ℕ} 0 1 = cc in omega arith) (k.marks j b);
      decision = λ some. (r, record { before = h; past = here });
    },
  )

-- ---- what is read

-- What an access finds in the session, in the words of the past.
pub found_matches : (s : Session) (a : Access) (h : List Event) → InRange s.limit a → Matches s h → Found h a (found s a)
unfolding found
found_matches s Nothing h ok k = tt
found_matches s (ReadValue j) h ok k = k.values j ok.0
found_matches s (WriteValue j) h ok k = tt
found_matches s (ReadMark j) h ok k =
    λ z e f.
    let marked = (k.marks j ok.0).1 (record { before = f.before; past = f.past }) in
    omega (arith, rw marked at z)
found_matches s (SetMark j) h ok k = tt
found_matches s ReadDecision h ok k = k.decision
found_matches s WriteDecision h ok k = tt
