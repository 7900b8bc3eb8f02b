-- A sheet that is stored part by part, and what the call then gives.
use Rattle.std.specs.Prelude.{◌+◌, ◌*◌, ◌≤◌, ◌≡◌, ◌∷◌, ◌++◌, Err}
use Rattle.base.specs.Prelude.{ℕ, zero, suc, zero-add, refl, sym, ◌∙◌, ap, List, length, drop, set}
use Rattle.base.specs.Prelude.{sets, sets-eq}
use Rattle.base.specs.Arrays.{sets_append}
use Rattle.model.specs.declared.refusal.Refusal.{Refusal}
use Rattle.model_laws.specs.Types.{Caller, CountAnswer, Limits}
use Rattle.model.specs.Answers.{told_count}
use Rattle.model.specs.Bytes.{bytes16}
use Rattle.model.specs.Board.{limits_of}
use Rattle.model.specs.Numbers.{number}
use Rattle.model_laws.specs.Answers.{number_some}
use Rattle.model_write.specs.Write.{laid_out, pair_bytes, sheet_of, write_refusal, WriteResult, wrote, write_result}
use Rattle.model_write.specs.WriteExport.{export_of, size_left, write_export}
use Rattle.model_write_laws.specs.Sizes.{length_laid_out, length_pair_bytes}

module _ (n L : ℕ) (es ms out : List ℕ) where
  -- The header, the pairs and the entries stored one behind another: the sheet, and the rest of the output as it was.
  pub sheet_stored : length (sheet_of n L es ms) ≤ length out →
      sets (sets (sets (set (set out 0 n) 1 (length ms)) 2 (bytes16 L)) 4 (pair_bytes (laid_out (4 + 4 * length ms) ms)))
      (4 + 4 * length ms) es
      ≡ sheet_of n L es ms ++ drop (length (sheet_of n L es ms)) out
  unfolding sheet_of
  sheet_stored fits =
      let header = n ∷ length ms ∷ bytes16 L in
      let pairs = pair_bytes (laid_out (4 + 4 * length ms) ms) in
      let size : length pairs ≡ 4 * length ms = simp (length_pair_bytes, length_laid_out) in
      let behind : sets out 0 (header ++ (pairs ++ es)) ≡ sets (sets (sets out 0 header) 4 pairs) (4 + 4 * length ms) es =
      rw (sets_append out 0 header (pairs ++ es), sets_append (sets out 0 header) 4 pairs es, size) in
      sym behind ∙ sets-eq (header ++ (pairs ++ es)) out 0 (rw zero-add fits) ∙ rw zero-add

module _ (most : Limits) (n L : ℕ) (es ms out : List ℕ) where
  -- A refused call.
  pub written_refused : (k : ℕ) → k ≡ write_refusal most n L es ms (length out) → (k ≡ 0 → ⊥)
      → wrote (record { code = k; count = 0 }) out ≡ write_result most n L es ms out
  unfolding write_result
  written_refused zero e some = absurd (some refl)
  written_refused (suc k) e some = rw (← e)

  -- The same of a call that answers an error: no refusal has the number 0.
  pub told_refused : (e : Refusal) → number e ≡ write_refusal most n L es ms (length out)
      → wrote (told_count (Err e)) out ≡ write_result most n L es ms out
  told_refused e told = written_refused (number e) told (number_some e)

  -- An accepted one.
  pub written_accepted : {size : ℕ} {after : List ℕ} → write_refusal most n L es ms (length out) ≡ 0
      → size ≡ length (sheet_of n L es ms) → after ≡ sheet_of n L es ms ++ drop (length (sheet_of n L es ms)) out
      → wrote (record { code = 0; count = size }) after ≡ write_result most n L es ms out
  unfolding write_result
  written_accepted e s a = rw (e, s, a)

-- What C gets of a call within a caller's limits.
pub exported : (caller : Caller) (n L : ℕ) (es ms out : List ℕ) (before : ℕ) {a : CountAnswer} {after : List ℕ} {size : ℕ}
    → wrote a after ≡ write_result (limits_of caller) n L es ms out → size ≡ size_left a before
    → export_of a.code after size ≡ write_export caller n L es ms out before
unfolding write_export
exported caller n L es ms out before e s = rw s (ap (λ (w : WriteResult). export_of w.answer.code w.buffer
    (size_left w.answer before)) e)
