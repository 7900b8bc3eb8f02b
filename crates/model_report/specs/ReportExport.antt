-- The board report for callers in C: what they get for a sheet and a buffer. 15, "lent buffer of wrong length" and "buffer unchanged"
-- (document 01, "Numbers returned"): here one that is shorter than the text.
use Rattle.std.specs.Prelude.{ℕ, Bool, cond, List, ◌++◌, length, drop, leb, Result, Ok, Err}
use Rattle.model.specs.declared.refusal.Refusal.{Refusal}
use Rattle.model.specs.Numbers.{bad_buffer, number}
use Rattle.model_report.specs.Report.{report}

-- Whether the text fits.
abbrev pub fits : (text buffer : List ℕ) → Bool
fits t b = leb (length t) (length b)

-- The text's size, or 15.
abbrev pub text_code : (text buffer : List ℕ) → ℕ
text_code t b = cond (fits t b) (length t) bad_buffer

-- What the code's answer says in these words: one number for the two.
abbrev pub told_size : Result ℕ Refusal → ℕ
told_size (Ok size) = size
told_size (Err e) = number e

-- The text from the first byte on, and the other bytes as they were.
abbrev pub text_buffer : (text buffer : List ℕ) → List ℕ
text_buffer t b = cond (fits t b) (t ++ drop (length t) b) b

-- Of the report of a sheet.
unfoldable pub report_code : (sheet buffer : List ℕ) → ℕ
report_code s b = text_code (report s) b

unfoldable pub report_buffer : (sheet buffer : List ℕ) → List ℕ
report_buffer s b = text_buffer (report s) b
