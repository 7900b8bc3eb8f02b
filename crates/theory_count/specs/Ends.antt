-- The end of an epoch: the longest older part of a past in which no higher round is written, and the newest write to a register in a past.
use Rattle.std.specs.Prelude.{◌≤◌, ◌≡◌, ◌∷◌}
use Rattle.base.specs.Prelude.{ℕ, arith, ℕ_discrete, refl, ◌∙◌, ap, cond, List, [], ⊎_elim, leb, leb-true, leb-false, eq-eqb}
use Rattle.base.specs.Bools.{cond_cases}
use Rattle.model_rule.specs.Event.{Event, proposal, write, flag, commit, decision, Past}
use Rattle.model_rule.specs.Event.Past.{here, there}
use Rattle.theory_board.specs.Epoch.{top, last}
use Rattle.theory_board.specs.Past.{past_trans, past_cons, past_older}
use Rattle.theory_board.specs.Registers.{last_since}

-- The longest older part whose highest written round is at most m.
abbrev pub up_to : (m : ℕ) → List Event → List Event
up_to m [] = []
up_to m (x ∷ h) = cond (leb (top (x ∷ h)) m) (x ∷ h) (up_to m h)

pub up_past : (m : ℕ) (h : List Event) → Past (up_to m h) h
up_past m [] = here
up_past m (x ∷ h) = cond_cases (λ (g : List Event). Past g (x ∷ h)) (leb (top (x ∷ h)) m) (λ t. here) (λ t. there (up_past m h))

pub up_top : (m : ℕ) (h : List Event) → top (up_to m h) ≤ m
up_top m [] = omega arith
up_top m (x ∷ h) = cond_cases (λ (g : List Event). top g ≤ m) (leb (top (x ∷ h)) m) (leb-true (top (x ∷ h)) m) (λ t. up_top m h)

-- Every older part with so low a round is a part of it.
pub up_most : (m : ℕ) {g h : List Event} → Past g h → top g ≤ m → Past g (up_to m h)
up_most m {h = []} q low = q
up_most m {g = g} {h = x ∷ h} q low =
    cond_cases (λ (f : List Event). Past g f) (leb (top (x ∷ h)) m) (λ t. q)
    (λ t.
    ⊎_elim
    (λ same. absurd (omega (arith, leb-false (top (x ∷ h)) m t, ap top same)))
    (λ older. up_most m older low)
    (past_cons q))

-- The newest write to register j in a past: every other is older.
pub record Newest (j : ℕ) (g : List Event) : Type 0 where
  pub process : ℕ
  pub value : ℕ
  pub before : List Event
  pub past : Past (write process j value ∷ before) g
  pub newest : (q w : ℕ) (b : List Event) → Past (write q j w ∷ b) g → Past (write q j w ∷ b) (write process j value ∷ before)

-- An event more, which is no write to j.
newest_event : {j : ℕ} {x : Event} {g : List Event} → ((q w : ℕ) → write q j w ≡ x → ⊥) → Newest j g → Newest j (x ∷ g)
newest_event none n =
    record {
      process = n.process;
      value = n.value;
      before = n.before;
      past = there n.past;
      newest = λ q w b p. ⊎_elim (λ e. absurd (none q w (cc))) (λ older. n.newest q w b older) (past_cons p);
    }

-- The event is a write to j.
newest_here : (p j w : ℕ) (b : List Event) → Newest j (write p j w ∷ b)
newest_here p j w b = record { process = p; value = w; before = b; past = here; newest = λ q w' b' p'. p' }

-- Where there is a write to j there is a newest one.
pub newest_write : {p j w : ℕ} {b g : List Event} → Past (write p j w ∷ b) g → Newest j g
newest_write {p} {j} {w} {b} here = newest_here p j w b
newest_write (there {e = proposal v} q) = newest_event (λ q w e. let z : ◌≡◌ {A = ℕ} 0 1 = cc in omega arith) (newest_write q)
newest_write {j = j} (there {e = write o r v} {h = g} q) =
    elim (ℕ_discrete r j) [
      | yes same ↦ rw same (newest_here o j v g)
      | no other ↦ newest_event (λ q w e. other (cc)) (newest_write q)
    ]
newest_write (there {e = flag i} q) = newest_event (λ q w e. let z : ◌≡◌ {A = ℕ} 0 1 = cc in omega arith) (newest_write q)
newest_write (there {e = commit r v} q) = newest_event (λ q w e. let z : ◌≡◌ {A = ℕ} 0 1 = cc in omega arith) (newest_write q)
newest_write (there {e = decision o v} q) = newest_event (λ q w e. let z : ◌≡◌ {A = ℕ} 0 1 = cc in omega arith) (newest_write q)

-- From the newest write on the register holds its value.
pub newest_holds : {j : ℕ} {g : List Event} (n : Newest j g) {a : List Event} → Past (write n.process j n.value ∷ n.before) a →
    Past a g →
    last a j ≡ n.value
newest_holds {j} n since until =
    ⊎_elim
    (λ e. e ∙ rw (eq-eqb j j refl) refl)
    (λ s.
    let older = n.newest s.0 _ s.1 (past_trans s.3 until) in
    absurd (past_older (past_trans older s.2)))
    (last_since j since)
