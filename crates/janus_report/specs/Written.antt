-- What a caller gets where the text, the first n of the bytes, fits.
use Rattle.std.specs.Prelude.{◌≤◌, ◌≡◌, ◌++◌}
use Rattle.std.proofs.Common.{take_at}
use Rattle.base.specs.Prelude.{ℕ, sym, List, length, take, drop, le-leb}
use Rattle.model_report.specs.ReportExport.{text_code, text_buffer}

pub text_written : (t b : List ℕ) {bytes : List ℕ} {n : ℕ} (rest : List ℕ) → n ≡ length t → bytes ≡ t ++ rest → n ≤ length b
    → (n ≡ text_code t b) × (take n bytes ++ drop n b ≡ text_buffer t b)
text_written t b rest size whole h =
    let fits = le-leb _ _ h in
    (rw (← size, fits), rw (whole, ← size, fits, take_at t rest _ (sym size)))
