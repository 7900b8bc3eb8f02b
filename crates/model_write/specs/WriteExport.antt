-- The writer for callers in C (document 02, wish 3): the refusal or 0; the size goes to a lent number, which a refused call leaves as it
-- was.
use Rattle.std.specs.Prelude.{ℕ, cond, List, eqb}
use Rattle.model.specs.declared.Caller.{Caller}
use Rattle.model.specs.Answers.{CountAnswer}
use Rattle.model.specs.Board.{limits_of}
use Rattle.model_write.specs.Write.{write_result}

-- What C gets: the code, what the output buffer holds, and the lent number.
pub record WriteExport : Type 0 where
  pub code : ℕ
  pub buffer : List ℕ
  pub size : ℕ

-- These three together, as a contract has them.
abbrev pub export_of : (code : ℕ) (buffer : List ℕ) (size : ℕ) → WriteExport
export_of code buffer size = record { code = code; buffer = buffer; size = size }

-- The size where the call was accepted, else the number as it was.
abbrev pub size_left : CountAnswer → (size : ℕ) → ℕ
size_left a before = cond (eqb a.code 0) a.count before

-- Within the caller's limits. (02, wish 9: "the C entry .. use the server's".)
unfoldable pub write_export : Caller → (n L : ℕ) (entries lengths output : List ℕ) (size : ℕ) → WriteExport
write_export caller n L es ms out size =
    let w = write_result (limits_of caller) n L es ms out in
    export_of w.answer.code w.buffer (size_left w.answer size)
