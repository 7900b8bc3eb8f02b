-- Older parts of a past: what was true of one stays true, and what an event on top of it can add.
use Rattle.std.specs.Prelude.{◌≤◌, ◌≡◌, ◌∷◌, ◌++◌, ◌⊎◌}
use Rattle.base.specs.Prelude.{ℕ, refl, List, [], inl, inr, ⊎_elim, length, le_refl, arith}
use Rattle.model_rule.specs.Event.{Event, write, Past, Happened}
use Rattle.model_rule.specs.Event.Past.{here, there}
use Rattle.theory_board.specs.Epoch.{top, HappenedIn, ComparedBy, Passed, PassedBy}

-- A part of a part is a part.
pub past_trans : {a b c : List Event} → Past a b → Past b c → Past a c
past_trans p here = p
past_trans p (there q) = there (past_trans p q)

-- What came before an event of the past is a part of the past.
pub past_before : {x : Event} {b h : List Event} → Past (x ∷ b) h → Past b h
past_before q = past_trans (there here) q

-- Nothing stands in the empty past.
pub past_none : {x : Event} {b : List Event} → Past (x ∷ b) [] → ⊥
past_none q = elim q [ ]

-- The empty past is the oldest part of every one.
pub past_empty : (h : List Event) → Past [] h
past_empty [] = here
past_empty (x ∷ h) = there (past_empty h)

-- Events in front of a past make it longer.
pub past_append : (es : List Event) {h : List Event} → Past h (es ++ h)
past_append [] = here
past_append (e ∷ es) = there (past_append es)

-- Of two older parts of a past one is an older part of the other.
pub past_total : {a b h : List Event} → Past a h → Past b h → Past a b ⊎ Past b a
past_total here q = inr q
past_total (there p) here = inl (there p)
past_total (there p) (there q) = past_total p q

-- An older part of a past is all of it, or is older than its newest event.
pub past_cons : {x : Event} {a h : List Event} → Past a (x ∷ h) → (a ≡ x ∷ h) ⊎ Past a h
past_cons here = inl refl
past_cons (there p) = inr p

-- No part is longer than the whole, so that none is a part of what came before it.
past_length : {a h : List Event} → Past a h → length a ≤ length h
past_length {h = h} here = le_refl (length h)
past_length (there q) = omega (arith, past_length q)

pub past_older : {x : Event} {b : List Event} → Past (x ∷ b) b → ⊥
past_older q = omega (arith, past_length q)

-- ---- what was true of an older part is true of the whole

module _ {h h' : List Event} (q : Past h h') where
  pub happened_past : {x : Event} → Happened x h → Happened x h'
  happened_past x = record { before = x.before; past = past_trans x.past q }

  in_past : {e : ℕ} {x : Event} → HappenedIn e x h → HappenedIn e x h'
  in_past x = record { before = x.before; past = past_trans x.past q; epoch = x.epoch }

  -- Whoever passed the round.
  pub passed_past : {W p i v : ℕ} → PassedBy W p i v h → Passed W i v h'
  passed_past x =
      record {
        written = (x.written.0, in_past x.written.1);
        compared =
            λ j a b c.
            ⊎_elim (λ y. inl (y.0, y.1, in_past y.2))
            (λ y. inr (record { moment = y.moment; past = past_trans y.past q; epoch = y.epoch; holds = y.holds }))
            (x.compared j a b c);
      }

-- ---- what the newest event can add

-- An event that happened in `y ∷ h` is y or happened in h.
pub happened_cases : {x y : Event} {h : List Event} → Happened x (y ∷ h) → (y ≡ x) ⊎ Happened x h
happened_cases x = ⊎_elim (λ c. inl (cc)) (λ q. inr (record { before = x.before; past = q })) (past_cons x.past)

-- In h, where y is another.
pub happened_older : {x y : Event} {h : List Event} → (y ≡ x → ⊥) → Happened x (y ∷ h) → Happened x h
happened_older other x = ⊎_elim (λ e. absurd (other e)) (λ z. z) (happened_cases x)

-- And in which epoch: y in the one that it makes.
pub in_cases : {e : ℕ} {x y : Event} {h : List Event} →
    HappenedIn e x (y ∷ h) → ((y ≡ x) × (top (x ∷ h) ≡ e)) ⊎ HappenedIn e x h
in_cases x =
    ⊎_elim
    (λ c. inl (cc, cc))
    (λ q. inr (record { before = x.before; past = q; epoch = x.epoch }))
    (past_cons x.past)

-- ---- what process p compared after its own writes

-- The event is no write of process p.
abbrev pub NoWrite : (p : ℕ) → Event → Type 0
NoWrite p x = (r w : ℕ) → x ≡ write p r w → ⊥

-- It stays so while p writes nothing.
pub compared_event : {p i j v : ℕ} {x : Event} {h : List Event} → NoWrite p x → ComparedBy p i j v h → ComparedBy p i j v (x ∷ h)
compared_event none (inl c) = inl (c.0, c.1, in_past (there here) c.2)
compared_event none (inr c) =
    inr
    (record {
      moment = c.moment;
      past = there c.past;
      epoch = c.epoch;
      holds = c.holds;
      own = λ r w b q. c.own r w b (⊎_elim (λ e. absurd (none r w (cc))) (λ z. z) (past_cons q));
    })

pub passed_event : {W p i v : ℕ} {x : Event} {h : List Event} → NoWrite p x → PassedBy W p i v h → PassedBy W p i v (x ∷ h)
passed_event none a =
    record {
      written = (a.written.0, in_past (there here) a.written.1);
      compared = λ j b c d. compared_event none (a.compared j b c d);
    }
