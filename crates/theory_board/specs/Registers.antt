-- What the highest written round and the registers tell of the writes of a past.
use Rattle.std.specs.Prelude.{◌≤◌, ◌<◌, ◌≡◌, ◌∷◌, ◌⊎◌}
use Rattle.base.specs.Prelude.{ℕ, refl, List, inl, inr, ⊎_elim, eqb, eqb-true, le_refl, le_trans, arith}
use Rattle.model_rule.specs.Event.{Event, proposal, write, flag, commit, decision, Past, Happened, Written}
use Rattle.model_rule.specs.Event.Past.{here, there}
use Rattle.theory_board.specs.Epoch.{top, last, HappenedIn, WrittenIn}
use Rattle.base.specs.Bools.{cond_cases}
use Rattle.theory_board.specs.Past.{past_empty}

-- ---- the highest written round

-- An event does not lower the highest written round.
pub top_event : (x : Event) (h : List Event) → top h ≤ top (x ∷ h)
top_event (proposal v) h = le_refl (top h)
top_event (write p r v) h = omega arith
top_event (flag j) h = le_refl (top h)
top_event (commit r v) h = le_refl (top h)
top_event (decision p v) h = le_refl (top h)

-- The highest written round only grows.
pub top_le : {h h' : List Event} → Past h h' → top h ≤ top h'
top_le {h} here = le_refl (top h)
top_le (there {e = x} {h = g} q) = le_trans (top_le q) (top_event x g)

-- An event's epoch is at most the highest written round.
pub epoch_top : {e : ℕ} {x : Event} {h : List Event} → HappenedIn e x h → e ≤ top h
epoch_top x = omega (arith, x.epoch, top_le x.past)

-- A written round is at most the highest one.
pub wrote_round : {p r v : ℕ} {h : List Event} → Happened (write p r v) h → r ≤ top h
wrote_round x = omega (arith, top_le x.past)

-- A value of the highest written register was written in the epoch of that round.
pub written_fresh : {r v : ℕ} {h : List Event} → Written r v h → top h ≤ r → WrittenIn r v r h
written_fresh w low = (w.0, record { before = w.1.before; past = w.1.past; epoch = omega (arith, top_le w.1.past) })

-- What was written in an epoch was written.
pub written_in : {r v e : ℕ} {h : List Event} → WrittenIn r v e h → Written r v h
written_in w = (w.0, record { before = w.1.before; past = w.1.past })

-- ---- the registers

-- v was written to register j since a.
abbrev pub WrittenSince : (a : List Event) (j v : ℕ) → List Event → Type 0
WrittenSince a j v h = (p : ℕ) × (b : List Event) × Past a b × Past (write p j v ∷ b) h

later : {a h : List Event} {x : Event} {j u v : ℕ} → (u ≡ v) ⊎ WrittenSince a j u h → (u ≡ v) ⊎ WrittenSince a j u (x ∷ h)
later = ⊎_elim inl (λ s. inr (s.0, s.1, s.2, there s.3))

-- A register holds what it held in an older part, or what was written to it since.
pub last_since : {a h : List Event} (j : ℕ) → Past a h → (last h j ≡ last a j) ⊎ WrittenSince a j (last h j) h
last_since j here = inl refl
last_since j (there {e = proposal v} q) = later (last_since j q)
last_since {a} j (there {e = write p r v} {h = h} q) =
    cond_cases (λ u. (u ≡ last a j) ⊎ WrittenSince a j u (write p r v ∷ h)) (eqb r j)
    (λ t. inr (p, h, q, rw (← eqb-true r j t) here))
    (λ t. later (last_since j q))
last_since j (there {e = flag i} q) = later (last_since j q)
last_since j (there {e = commit r v} q) = later (last_since j q)
last_since j (there {e = decision p v} q) = later (last_since j q)

-- A filled register holds a value that was written to it.
pub last_written : (h : List Event) (j : ℕ) → 0 < last h j → Written j (last h j) h
last_written h j some =
    ⊎_elim (λ e. absurd (omega arith)) (λ s. (s.0, record { before = s.1; past = s.3 })) (last_since j (past_empty h))
