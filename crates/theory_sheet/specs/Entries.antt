-- The proposals of a sheet: which entries they were, and that their numbers have 32 bits.
use Rattle.std.specs.Prelude.{◌+◌, ◌/◌, ◌<◌, ◌≡◌, ◌&&◌, ◌∷◌, ◌++◌, ◌⊎◌}
use Rattle.base.specs.Prelude.{ℕ, suc, zero, arith, refl, Bool, true, cond, List, [], inl, inr}
use Rattle.base.specs.Prelude.{⊎_elim, get_or, take, eqb, ltb, ltb-true, lt-ltb}
use Rattle.base.specs.Bools.{cond_cases, and_both}
use Rattle.model_laws.specs.Types.{Session, Counts, Operation, Propose, Step, Learn, Crash, Command, acts, closes, Entry, Acts, Closes}
use Rattle.model_laws.specs.Types.{Malformed}
use Rattle.model.specs.Board.{process_at}
use Rattle.model.specs.Bytes.{byte_at, word32}
use Rattle.model.specs.Machine.{execute}
use Rattle.model.specs.Sheet.{EntryRun, runs, entry_of, entries_at, entries_of, entries}
use Rattle.model.specs.Sound.{every}
use Rattle.model_laws.specs.Every.{every_get}
use Rattle.model_laws.specs.ByteLaws.{AreBytes, word32_low}
use Rattle.model_rule.specs.Event.{Event, proposal, look_events, command_events, Proposed}
use Rattle.model_rule.specs.System.{machine, if_accepted, past}
use Rattle.model_rule.specs.Calls.{Input, sessions}
use Rattle.theory_board.specs.Past.{happened_cases, happened_older}
use Rattle.theory_board.specs.Step.{step_older}
use Rattle.theory_sheet.specs.Runs.{told, commands, fed}

-- ---- where a proposal comes from

-- One of the first k entries proposed v.
abbrev pub ProposedBy : (v : ℕ) → (k : ℕ) → List Entry → Type 0
ProposedBy v k es = (i : ℕ) × (i < k) × (p : ℕ) × (get_or es i Malformed ≡ Acts (Propose p v))

look_older : {v : ℕ} (p x : ℕ) {h : List Event} → Proposed v (look_events p x ++ h) → Proposed v h
look_older p zero a = a
look_older p (suc x) a = happened_older (λ e. let z : ◌≡◌ {A = ℕ} 0 1 = cc in omega arith) a

-- An event of a proposal comes from a command that proposes.
command_proposed : {v : ℕ} (s : Session) (x : Command) {h : List Event} → Proposed v (command_events s x ++ h) →
    ((p : ℕ) × (x ≡ acts (Propose p v))) ⊎ Proposed v h
command_proposed s (acts (Propose p u)) a = ⊎_elim (λ e. inl (p, cc)) inr (happened_cases a)
command_proposed {v} s (acts (Step p leader)) a =
    let q = process_at s p in inr (step_older (proposal v) p q.round q.estimate q.phase (λ z. z) a)
command_proposed s (acts (Learn p)) a = inr (look_older p s.decision a)
command_proposed s (acts (Crash p)) a = inr a
command_proposed s closes a = inr a

accepted_proposed : {v : ℕ} (code : ℕ) (s : Session) (x : Command) {h : List Event} →
    Proposed v (if_accepted code (command_events s x) ++ h) → ((p : ℕ) × (x ≡ acts (Propose p v))) ⊎ Proposed v h
accepted_proposed zero s x a = command_proposed s x a
accepted_proposed (suc k) s x a = inr a

-- One command is fed: what was proposed by it, or is proposed by an entry behind it.
module _ (W : ℕ) (start : Session) (c : Counts) (k : ℕ) (es : List Entry) (fs : List (Input Command)) where
  later : {v : ℕ} {e : Entry} → ProposedBy v k es → ProposedBy v (suc k) (e ∷ es)
  later y = (suc y.0, omega (arith, y.1), y.2, y.3)

  fed_by : {v : ℕ} (x : Command) {e : Entry} → ((p : ℕ) → x ≡ acts (Propose p v) → e ≡ Acts (Propose p v)) →
      ProposedBy v k es ⊎ Proposed v (past (sessions W) start (told x c ∷ fs)) →
      ProposedBy v (suc k) (e ∷ es) ⊎ Proposed v (past (sessions W) start fs)
  fed_by x says =
      let m = machine (sessions W) start fs in
      ⊎_elim (λ y. inl (later y))
      (λ y. ⊎_elim (λ z. inl (0, omega arith, z.0, says z.0 z.1)) inr (accepted_proposed (execute W m c x).code m x y))

-- What was proposed while the commands of entries were fed was proposed by one of them, or before.
pub fed_proposed : {v : ℕ} (W : ℕ) (start : Session) (c : Counts) (k : ℕ) (es : List Entry) (fs : List (Input Command)) →
    Proposed v (past (sessions W) start (fed W start c (commands (take k es)) fs)) →
    ProposedBy v k es ⊎ Proposed v (past (sessions W) start fs)
fed_proposed W start c zero es fs a = inr a
fed_proposed W start c (suc k) [] fs a = inr a
fed_proposed W start c (suc k) (Malformed ∷ es) fs a =
    ⊎_elim (λ y. inl (later W start c k es fs y)) inr (fed_proposed W start c k es fs a)
fed_proposed W start c (suc k) (Acts o ∷ es) fs a =
    let d = (execute W (machine (sessions W) start fs) c (acts o)).counts in
    fed_by W start c k es fs (acts o) (λ p e. cc) (fed_proposed W start d k es (told (acts o) c ∷ fs) a)
fed_proposed W start c (suc k) (Closes ∷ es) fs a =
    let d = (execute W (machine (sessions W) start fs) c closes).counts in
    fed_by W start c k es fs closes (λ p e. absurd (let z : ◌≡◌ {A = ℕ} 0 1 = cc in omega arith))
    (fed_proposed W start d k es (told closes c ∷ fs) a)

-- ---- its number

-- Whether the number of an operation, if it proposes, has 32 bits.
abbrev is_low : Operation → Bool
is_low (Propose p v) = ltb v 4294967296
is_low (Step p leader) = true
is_low (Learn p) = true
is_low (Crash p) = true

-- And of an entry.
abbrev is_low_entry : Entry → Bool
is_low_entry (Acts o) = is_low o
is_low_entry Closes = true
is_low_entry Malformed = true

-- Of two entries the one that is chosen.
low_choice : (t : Bool) (a b : Entry) → is_low_entry a ≡ true → is_low_entry b ≡ true → is_low_entry (cond t a b) ≡ true
low_choice t a b p q = cond_cases (λ e. is_low_entry e ≡ true) t (λ z. p) (λ z. q)

low_entry : (kind p v : ℕ) → v < 4294967296 → is_low_entry (entry_of kind p v) ≡ true
low_entry kind p v low =
    low_choice (eqb kind 0) _ _ (lt-ltb v 4294967296 low)
    (low_choice (eqb kind 1) _ _ (low_choice (eqb v 0) _ _ refl (low_choice (eqb v 1) _ _ refl refl))
    (low_choice (eqb kind 2) _ _ (low_choice (eqb v 0) _ _ refl refl)
    (low_choice (eqb kind 3) _ _ (low_choice (eqb v 0) _ _ refl refl)
    (low_choice (eqb kind 4) _ _ (low_choice (eqb p 0 && eqb v 0) _ _ refl refl) refl))))

module _ (t : List ℕ) (bytes : AreBytes t) where
  low_run : (offset count : ℕ) (es : List Entry) → every is_low_entry es ≡ true → every is_low_entry (entries_at t offset count ++ es) ≡ true
  low_run i zero es low = low
  low_run i (suc k) es low =
      and_both (low_entry (byte_at t i) (byte_at t (i + 1)) (word32 t (i + 2)) (word32_low t (i + 2) bytes)) (low_run (i + 6) k es low)

  low_runs : (rs : List EntryRun) → every is_low_entry (entries_of t rs) ≡ true
  low_runs [] = refl
  low_runs (r ∷ rs) = low_run r.offset (r.size / 6) (entries_of t rs) (low_runs rs)

  -- A number proposed by an entry of a sheet.
  pub entry_low : {v k : ℕ} → ProposedBy v k (entries t) → v < 4294967296
  unfolding entries
  entry_low {v} a = ltb-true v 4294967296 (rw a.3 at (every_get is_low_entry (entries_of t (runs t)) a.0 Malformed refl
      (low_runs (runs t))))
