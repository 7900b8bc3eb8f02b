-- Document 02, wish 3: what is written is read again.
use Rattle.std.specs.Prelude.{◌≤◌, ◌<◌, ◌≡◌}
use Rattle.base.specs.Prelude.{ℕ, zero, suc, arith, refl, sym, ◌∙◌, true, List, length, take-append_seam, leb-true, le-leb}
use Rattle.base.specs.Prelude.{not-false}
use Rattle.base.specs.Bools.{and_right, and_both}
use Rattle.model_laws.specs.Types.{Limits}
use Rattle.model.specs.ReadOut.{count_answer}
use Rattle.model.specs.Sheet.{run_count, round_limit, runs, header_end, has_header, sheet_refusal}
use Rattle.model.specs.Runner.{run_within}
use Rattle.model_write.specs.Write.{sheet_of, write_refusal, write_result}
use Rattle.model_write.specs.RoundTrip.{gapless, ReadsAs, WrittenReads}
use Rattle.theory_write.specs.Follow.{follow_in_order}
use Rattle.model_write_laws.specs.Sizes.{length_sheet_of}
use Rattle.theory_write.specs.SheetOf.{process_count_sheet_of, run_count_sheet_of, round_limit_sheet_of}
use Rattle.theory_write.specs.SheetOf.{whole_sheet_of, gapless_sheet_of, lengths_of_sheet_of, entry_bytes_sheet_of, entries_sheet_of}
use Rattle.model_write_laws.specs.Facts.{WriteFacts, write_facts}

module _ (most : Limits) (n L : ℕ) (es ms : List ℕ) (room : ℕ) (rounds : most.rounds < 65536) (a : WriteFacts most n L es ms room) where
  -- The round limit has 16 bits, and is read.
  limit_read : round_limit (sheet_of n L es ms) ≡ L
  limit_read =
      let limit : L ≤ most.rounds = search (and_right, leb-true, not-false) in
      round_limit_sheet_of n L es ms (omega arith)

  -- The reader accepts the sheet.
  sheet_accepted : sheet_refusal most (sheet_of n L es ms) ≡ 0
  unfolding sheet_refusal gapless
  sheet_accepted =
      let s = sheet_of n L es ms in
      let size = length_sheet_of n L es ms in
      let p = run_count_sheet_of n L es ms in
      let some : 4 ≤ length s = omega arith in
      let count : run_count s ≤ 16 = omega arith in
      let pairs : header_end s ≤ length s = omega arith in
      let header : has_header s ≡ true = search (and_both, le-leb) in
      let ordered = follow_in_order (header_end s) (length s) (runs s) (gapless_sheet_of n L es ms a.few a.whole) in
      rw (header, ordered, whole_sheet_of n L es ms a.few a.whole)
      (rw (process_count_sheet_of n L es ms, limit_read, a.opens.0, a.opens.1.0))

  -- It finds in it what was to be written.
  sheet_reads : ReadsAs most n L es ms (sheet_of n L es ms)
  unfolding run_within
  sheet_reads =
      let operations = entries_sheet_of n L es ms a.few a.whole in
      record {
        accepted = sheet_accepted;
        processes = process_count_sheet_of n L es ms;
        limit = limit_read;
        cuts = lengths_of_sheet_of n L es ms a.few a.whole;
        bytes = entry_bytes_sheet_of n L es ms a.few a.whole;
        operations = operations;
        no_gaps = gapless_sheet_of n L es ms a.few a.whole;
        runs = λ budget. rw (sheet_accepted, process_count_sheet_of n L es ms, limit_read, operations);
      }

-- The code of an answer with a count.
count_answer_code : (k c : ℕ) → (count_answer k c).code ≡ k
count_answer_code zero c = refl
count_answer_code (suc k) c = refl

-- The sheet that an accepted call wrote stands first in the output, and so it reads.
pub written_reads : WrittenReads
unfolding write_result
written_reads most n L es ms out rounds ok =
    let code : write_refusal most n L es ms (length out) ≡ 0 = sym (count_answer_code _ _) ∙ ok in
    rw (code, take-append_seam) (sheet_reads most n L es ms (length out) rounds (write_facts most n L es ms (length out) code))
