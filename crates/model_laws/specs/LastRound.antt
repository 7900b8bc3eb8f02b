-- The last round (document 02, wish 5): what its sentences say of the machine, at any window, of any session and counts.
use Rattle.std.specs.Prelude.{◌<◌, ◌≤◌, ◌≡◌, ◌⊎◌}
use Rattle.base.specs.Prelude.{ℕ, zero, suc, refl, inl, inr, ⊎_elim, Bool, false, true≢false, get_or-set_other}
use Rattle.base.specs.Prelude.{ℕ_discrete, eqb, eqb-false, lt-leb, lt-ltb, le-ltb}
use Rattle.std.proofs.Math.Seq.{set-get_or}
use Rattle.base.specs.Arrays.{get_or_set_keeps}
use Rattle.base.specs.Bools.{cond_cases}
use Rattle.model_laws.specs.Types.{Phase, Waiting, Exhausted, Process, Session, Counts, Operation, Propose, Step, Learn, Crash}
use Rattle.model.specs.declared.Status.TheVariants.{Spent, Gone}
use Rattle.model.specs.Board.{process_at, with_process, idle}
use Rattle.model.specs.Step.{waiting_rule, phase_access, access, phase_next, next, learnt, found, stored, turn, counted, process}
use Rattle.model.specs.Numbers.{process_spent}
use Rattle.model.specs.Refusal.{status, refusal, full, tests, stepped}
use Rattle.model.specs.Machine.{access_of, becomes, after, counts_after, answered, perform, process_of}
use Rattle.model_laws.specs.Accepted.{NoneHolds, own_tests, Accepted, accepted}
use Rattle.model_laws.specs.Operations.{stored_same}

module _ (W : ℕ) (s : Session) (c : Counts) (p : ℕ) (below : p < s.n) where
  -- "The round limit is read first from now on. A work turn with hint no at that place now gives spent": a work turn at gate in round L,
  -- whatever its hint, changes the record alone and counts nothing. (With a full tally it is refused, 16.)
  pub last_round_spends : (leader : Bool) → (process_at s p).phase ≡ Waiting → s.limit ≤ (process_at s p).round → full c ≡ false →
      let q = process_at s p in
      perform W s c (Step p leader) ≡ record {
        code = 0;
        session = with_process s p (process Exhausted q.round q.estimate);
        counts = c;
      }
  unfolding perform answered after counts_after turn access_of becomes access next phase_access phase_next waiting_rule stored found counted
  last_round_spends leader waits last room =
      rw (lt-leb s.n p below, waits, room, le-ltb (process_at s p).round s.limit last) refl

  -- ".. and each later one 9 while the seat stays spent", whatever its hint.
  pub spent_refused : (leader : Bool) → (process_at s p).phase ≡ Exhausted →
      perform W s c (Step p leader) ≡ record { code = process_spent; session = s; counts = c }
  unfolding perform answered
  spent_refused leader spent = rw (lt-leb s.n p below, spent) refl

  -- "Hint no: nothing happens", below round L.
  pub hint_no_waits : (process_at s p).phase ≡ Waiting → (process_at s p).round < s.limit → full c ≡ false →
      perform W s c (Step p false) ≡ record { code = 0; session = s; counts = c }
  unfolding perform answered after counts_after turn access_of becomes access next phase_access phase_next waiting_rule stored found counted
  hint_no_waits waits more room =
      let q = process_at s p in
      let same : process Waiting q.round q.estimate ≡ q = rw (← waits) refl in
      rw (lt-leb s.n p below, waits, room, lt-ltb q.round s.limit more, same, set-get_or s.processes p idle) refl

-- ---- "while the seat stays spent"

-- What ends that: its own look, where D is filled, and its own crash.
abbrev pub Ends : Session → (p : ℕ) → Operation → Type 0
Ends s p o = ((o ≡ Learn p) × (s.decision ≡ 0 → ⊥)) ⊎ (o ≡ Crash p)

-- An accepted operation of a spent process ends it, or leaves its record.
own_spent : (W : ℕ) (s : Session) (c : Counts) (o : Operation) → Accepted s c o → (process_at s (process_of o)).phase ≡ Exhausted →
    (process_at (after W s o) (process_of o) ≡ process_at s (process_of o)) ⊎ Ends s (process_of o) o
unfolding after turn access_of becomes learnt stored found
own_spent W s c (Propose p v) a spent = absurd (true≢false (rw spent at a.own.1.0))
own_spent W s c (Step p leader) a spent = absurd (true≢false (rw spent at a.own.1.1.0))
own_spent W s c (Learn p) a spent =
    cond_cases (λ (q : Process). (process_at (with_process s p q) p ≡ process_at s p) ⊎ Ends s p (Learn p)) (eqb s.decision 0)
    (λ t. inl (rw (set-get_or s.processes p idle) refl))
    (λ t. inr (inl (refl, eqb-false s.decision 0 t)))
own_spent W s c (Crash p) a spent = inr (inr refl)

-- Every other operation, accepted or refused, of whatever process, leaves the record of a spent process as it is.
pub spent_stays : (W : ℕ) (s : Session) (c : Counts) (o : Operation) (p : ℕ) → (process_at s p).phase ≡ Exhausted →
    (process_at (perform W s c o).session p ≡ process_at s p) ⊎ Ends s p o
unfolding perform answered after turn
spent_stays W s c o p spent = go (refusal (tests s c o)) refl
  where
    turned : Accepted s c o → (process_at (after W s o) p ≡ process_at s p) ⊎ Ends s p o
    turned a =
        elim (ℕ_discrete p (process_of o)) [
          | yes e ↦ rw e (own_spent W s c o a (rw e at spent))
          | no ne ↦ inl (rw (stored_same s _ _).processes (get_or-set_other s.processes (process_of o) p _ idle ne))
        ]

    go : (k : ℕ) → refusal (tests s c o) ≡ k → (process_at (stepped k s (after W s o) c (counts_after s c o)).session p ≡ process_at s p)
        ⊎ Ends s p o
    go zero e = turned (accepted s c o e)
    go (suc k) e = inl refl

-- A process that works no more: spent, or crashed or decided.
abbrev pub Ended : Phase → Type 0
Ended φ = (status φ ≡ Spent) ⊎ (status φ ≡ Gone)

-- What an accepted operation makes of such a process: a look leaves it or makes it decided, a crash makes it crashed, and no other is
-- accepted.
becomes_ended : (W L : ℕ) (q : Process) (closed : Bool) (c : Counts) (o : Operation) (x : ℕ) → NoneHolds (own_tests closed q.phase c o) →
    Ended q.phase → Ended (becomes W L q o x).phase
unfolding becomes learnt
becomes_ended W L q closed c (Propose p v) x own ended =
    ⊎_elim (λ e. absurd (true≢false (rw e at own.1.0))) (λ e. absurd (true≢false (rw e at own.1.0))) ended
becomes_ended W L q closed c (Step p leader) x own ended =
    ⊎_elim (λ e. absurd (true≢false (rw e at own.1.1.0))) (λ e. absurd (true≢false (rw e at own.1.0))) ended
becomes_ended W L q closed c (Learn p) x own ended = cond_cases (λ (r : Process). Ended r.phase) (eqb x 0) (λ t. ended) (λ t. inr refl)
becomes_ended W L q closed c (Crash p) x own ended = inr refl

-- No operation, accepted or refused, of whatever process, has such a process work again.
pub ended_stays : (W : ℕ) (s : Session) (c : Counts) (o : Operation) (p : ℕ) → Ended (process_at s p).phase →
    Ended (process_at (perform W s c o).session p).phase
unfolding perform answered after turn
ended_stays W s c o p ended = go (refusal (tests s c o)) refl
  where
    turned : Accepted s c o → Ended (process_at (after W s o) p).phase
    turned a =
        let m = process_of o in
        rw (stored_same s _ _).processes
        (elim (ℕ_discrete p m) [
          | yes e ↦
              rw e
              (get_or_set_keeps (λ (q : Process). Ended q.phase) s.processes m _ idle
              (becomes_ended W s.limit _ s.closed c o _ a.own (rw e at ended))
              (rw e at ended))
          | no ne ↦ rw (get_or-set_other s.processes m p _ idle ne) ended
        ])

    go : (k : ℕ) → refusal (tests s c o) ≡ k → Ended (process_at (stepped k s (after W s o) c (counts_after s c o)).session p).phase
    go zero e = turned (accepted s c o e)
    go (suc k) e = ended
