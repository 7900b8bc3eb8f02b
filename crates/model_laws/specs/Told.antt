-- What a `Result` says of an answer (`model`, `Answers`), by the number of the first refusal; and the counts of `Counts::default`.
use Rattle.std.specs.Prelude.{◌≡◌, Result, Ok, Err}
use Rattle.base.specs.Prelude.{ℕ, refl}
use Rattle.model.specs.declared.refusal.Refusal.{Refusal}
use Rattle.model.specs.Board.{opened, no_counts}
use Rattle.model.specs.Numbers.{number}
use Rattle.model.specs.Answers.{code, told, told_opened}
use Rattle.model.specs.Refusal.{changed}
use Rattle.model_laws.specs.Types.{Session, Counts, Changed}
use Rattle.model_laws.specs.Answers.{number_some, refused_alike}

-- Refused, the session stays; accepted, it is the one after.
pub changed_err : (e : Refusal) {k : ℕ} (s t : Session) → number e ≡ k → told s (Err e) ≡ changed k s t
changed_err e s t ek =
    refused_alike {A = Changed} (λ k. record { code = k; session = s }) (λ k. changed k s t) (λ m. refl) ek (number_some e)

pub changed_ok : {k : ℕ} (s t : Session) → 0 ≡ k → told s (Ok t) ≡ changed k s t
changed_ok s t ek = rw (← ek)

-- An opening.
pub opened_err : (e : Refusal) {k : ℕ} (t : Session) → number e ≡ k → told_opened (Err e) ≡ changed k (opened 0 0) t
opened_err e t ek = changed_err e (opened 0 0) t ek

pub opened_ok : {k : ℕ} (t : Session) → 0 ≡ k → told_opened (Ok t) ≡ changed k (opened 0 0) t
opened_ok t ek = changed_ok (opened 0 0) t ek

-- What is not refused has the number 0.
pub code_accepted : {A : Type 0} (r : Result A Refusal) → ((e : Refusal) → r ≡ Err e → ⊥) → code r ≡ 0
code_accepted (Ok x) h = refl
code_accepted (Err e) h = absurd (h e refl)

-- ---- the default

-- A tally of three zeros, as `Counts::default` promises it, is the empty one.
pub default_counts : (c : Counts) → (c.reads ≡ 0) × ((c.writes ≡ 0) × (c.contested ≡ 0)) → c ≡ no_counts
default_counts c zeros = go c.reads c.writes c.contested zeros.0 zeros.1.0 zeros.1.1
  where
    go : (r w k : ℕ) → r ≡ 0 → w ≡ 0 → k ≡ 0 → record { reads = r; writes = w; contested = k } ≡ no_counts
    go r w k er ew ek = rw (er, ew, ek)
