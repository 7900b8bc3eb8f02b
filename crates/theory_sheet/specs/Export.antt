-- What the C entry writes to its buffer, in the words of the agreement rule.
use Rattle.std.specs.Prelude.{◌*◌, ◌<◌, ◌≡◌}
use Rattle.base.specs.Prelude.{ℕ, arith, ℕ_discrete, refl, List, [], ⊎_elim, length}
use Rattle.model_laws.specs.Types.{Server, Phase, Idle, Waiting, Write, Scan, Adopt, Compare, Flag, CheckMark, CheckValue, Commit}
use Rattle.model_laws.specs.Types.{Exhausted, Crashed, Decided, HasCommitted, HasAdopted}
use Rattle.model.specs.Board.{limits_of, process_at, no_counts, max_processes}
use Rattle.model.specs.Bytes.{word32}
use Rattle.model.specs.Sheet.{entries, sheet_refusal}
use Rattle.model.specs.Runner.{run_within, run}
use Rattle.model.specs.Export.{decided_value, export_buffer}
use Rattle.model_laws.specs.Callers.{caller_limits}
use Rattle.model_laws.specs.ByteLaws.{AreBytes, decided_at, decided_word}
use Rattle.model_rule.specs.Event.{DecidedOn}
use Rattle.model_rule.specs.System.{past}
use Rattle.model_rule.specs.Calls.{sessions}
use Rattle.theory_board.specs.Past.{past_none, past_before, happened_past}
use Rattle.theory_sheet.specs.Runs.{window_of, opened_by, run_inputs, run_rule, run_bytes_law}
use Rattle.theory_sheet.specs.Entries.{ProposedBy, fed_proposed, entry_low}

-- ---- the claim

-- The number that the buffer holds for process p afterwards.
abbrev pub number_of : (sheet : List ℕ) (budget : ℕ) (buffer : List ℕ) → (p : ℕ) → ℕ
number_of t budget b p = word32 (export_buffer t budget b) (4 * p)

-- All non-zero numbers in the buffer are equal, and that number was proposed by an entry that was carried out.
pub record BufferAgrees (sheet : List ℕ) (budget : ℕ) (buffer : List ℕ) : Type 0 where
  pub equal : (p q : ℕ) → p < max_processes → q < max_processes →
      (number_of sheet budget buffer p ≡ 0 → ⊥) → (number_of sheet budget buffer q ≡ 0 → ⊥) →
      number_of sheet budget buffer p ≡ number_of sheet budget buffer q
  pub proposed : (p : ℕ) → p < max_processes → (number_of sheet budget buffer p ≡ 0 → ⊥) →
      ProposedBy (number_of sheet budget buffer p) (run Server sheet budget).carried (entries sheet)

-- Of every accepted sheet, budget and buffer of 256 bytes.
abbrev pub ExportAgreement : Type 0
ExportAgreement =
    (sheet : List ℕ) (budget : ℕ) (buffer : List ℕ)
    → AreBytes sheet
    → sheet_refusal (limits_of Server) sheet ≡ 0
    → length buffer ≡ 256
    → BufferAgrees sheet budget buffer

-- ---- the proof

-- A decided value above 0 is that of a process at Decided.
decided_phase : (φ : Phase) (e : ℕ) → (decided_value φ e ≡ 0 → ⊥) → (φ ≡ Decided) × (e ≡ decided_value φ e)
decided_phase Idle e some = absurd (some refl)
decided_phase Waiting e some = absurd (some refl)
decided_phase Write e some = absurd (some refl)
decided_phase (Scan k) e some = absurd (some refl)
decided_phase (Adopt k) e some = absurd (some refl)
decided_phase (Compare i) e some = absurd (some refl)
decided_phase (Flag i) e some = absurd (some refl)
decided_phase (CheckMark i) e some = absurd (some refl)
decided_phase (CheckValue i) e some = absurd (some refl)
decided_phase Commit e some = absurd (some refl)
decided_phase Exhausted e some = absurd (some refl)
decided_phase Crashed e some = absurd (some refl)
decided_phase Decided e some = (refl, refl)
decided_phase HasCommitted e some = absurd (some refl)
decided_phase HasAdopted e some = absurd (some refl)

module _ (t : List ℕ) (budget : ℕ) (ok : sheet_refusal (limits_of Server) t ≡ 0) where
  -- The decided value of process p after the run.
  abbrev value_of : ℕ → ℕ
  value_of p = decided_at (run_within (limits_of Server) t budget).session.processes p

  -- It was decided.
  value_decided : (p : ℕ) → (value_of p ≡ 0 → ⊥) → DecidedOn p (value_of p)
      (past (sessions (window_of t)) (opened_by t) (run_inputs (limits_of Server) t budget))
  value_decided p some =
      let q = process_at (run_within (limits_of Server) t budget).session p in
      (run_rule (limits_of Server) (caller_limits Server) t budget ok).looked p (value_of p) (decided_phase q.phase q.estimate some)

  -- It was proposed by an entry that was carried out.
  value_proposed : (p : ℕ) → (value_of p ≡ 0 → ⊥) → ProposedBy (value_of p) (run_within (limits_of Server) t budget).carried (entries t)
  value_proposed p some =
      let f = (run_rule (limits_of Server) (caller_limits Server) t budget ok).validity p (value_of p) (value_decided p some) in
      ⊎_elim (λ x. x) (λ x. absurd (past_none x.past))
      (fed_proposed (window_of t) (opened_by t) no_counts (run_within (limits_of Server) t budget).carried (entries t) []
      (happened_past (past_before f.commits) f.proposed))

  value_equal : (p q : ℕ) → (value_of p ≡ 0 → ⊥) → (value_of q ≡ 0 → ⊥) → value_of p ≡ value_of q
  value_equal p q some other = (run_rule (limits_of Server) (caller_limits Server) t budget ok).agreement p q _ _ (value_decided p some)
      (value_decided q other)

  -- The buffer holds it.
  number_value : (b : List ℕ) → AreBytes t → length b ≡ 256 → (p : ℕ) → number_of t budget b p ≡ value_of p
  number_value b bytes size p =
      rw (run_bytes_law t budget ok b size)
      (decided_word (run_within (limits_of Server) t budget).session.processes p
      (λ q. elim (ℕ_discrete (value_of q) 0) [ yes e ↦ rw e (omega arith) | no some ↦ entry_low t bytes (value_proposed q some) ]))

pub export_agreement : ExportAgreement
unfolding run
export_agreement t budget b bytes ok size =
    record {
      equal = λ p q low high some other. rw (e p, e q) (value_equal t budget ok p q (rw (e p) at some) (rw (e q) at other));
      proposed = λ p low some. rw (e p) (value_proposed t budget ok p (rw (e p) at some));
    }
  where
    e : (p : ℕ) → number_of t budget b p ≡ value_of t budget ok p
    e = number_value t budget ok b bytes size
