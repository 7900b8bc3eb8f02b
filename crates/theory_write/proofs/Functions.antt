-- Document 02, wish 3, the two round trips of the functions: `sheet_refusal::refusal` and a reader find again what a call of
-- `sheet_write::write` wrote, and what they read is written again. Of each call nothing is used but its contract (`FunctionContracts`).
-- (They stand here, and not in specs/, so that an edit of a definition in specs/ is refused because they are false of the edited one.)
use Rattle.std.specs.Prelude.{get_or, ◌+◌, ◌/◌, ◌≤◌, ◌<◌, ◌≡◌, ◌∷◌, ◌++◌, Some, None, Option}
use Rattle.base.specs.Prelude.{ℕ, suc, zero, arith, add-zero, zero-add, refl, ap, sym, subst, ◌∙◌, true}
use Rattle.base.specs.Prelude.{List, [], length, take, drop}
use Rattle.model_laws.specs.Types.{Caller, CountAnswer, Entry}
use Rattle.model.specs.Board.{limits_of}
use Rattle.model.specs.Bytes.{byte_at}
use Rattle.model.specs.ReadOut.{count_answer}
use Rattle.model.specs.Sheet.{run_at, runs_from, run_count, process_count, round_limit, entries}
use Rattle.model_laws.specs.Callers.{caller_limits}
use Rattle.model_write.specs.Write.{WriteResult, well_formed, wrote}
use Rattle.model_write.specs.RoundTrip.{lengths, lengths_of, entry_bytes, gapless, ReadsAs}
use Rattle.sheet_laws.specs.Places.{begin, handed, advanced, rest, Inside, Proper}
use Rattle.sheet_laws.specs.PlaceLaws.{begin_rest, begin_proper, advanced_proper, rest_next, rest_end}
use Rattle.sheet_laws.specs.Ordered.{accepted_inside}
use Rattle.std.specs.Borrow.{Bor}
use Rattle.sheet_laws.specs.declared.Reader.{Reader}
use Rattle.sheet_laws.specs.Reading.{attached, moved_on}
use Rattle.theory_write.specs.FunctionContracts.{Writes, Refuses, FirstPlace, Attaches}
use Rattle.theory_write.specs.Functions.{HandsOut, HandsOutBy, Finds}
use Rattle.theory_write.specs.Written.{written_reads}
use Rattle.theory_write.specs.Read.{length_lengths_of, read_writes}

-- ---- a reader that goes from place to place

module _ (sheet : List ℕ) where
  -- They are the entries from that place on, and no others.
  handed_rest : (place : ℕ) → Proper sheet place → (es : List Entry) → HandsOut sheet place es → es ≡ rest sheet place
  handed_rest place h [] end = sym (rest_end sheet place h (sym end))
  handed_rest place h (e ∷ es) (first, (next, (after, others))) =
      let q : Proper sheet next = rw after (advanced_proper sheet place h) in
      sym (rest_next sheet place h (sym first) ∙ rw (← after, ← handed_rest next q es others))

  -- And they are handed out.
  abbrev AllHandedOut : (place : ℕ) → Type 0
  AllHandedOut place = HandsOut sheet place (rest sheet place)

  -- By what the place hands out: from the next one on there are fewer.
  handed_out : (place : ℕ) → Proper sheet place → (x : Option Entry) → handed sheet place ≡ x
      → (length (rest sheet (advanced sheet place)) < length (rest sheet place) → AllHandedOut (advanced sheet place))
      → AllHandedOut place
  handed_out place h None e others = subst (HandsOut sheet place) (sym (rest_end sheet place h e)) (sym e)
  handed_out place h (Some o) e others =
      let next = rest_next sheet place h e in
      subst (HandsOut sheet place) (sym next) (sym e, (_, (refl, others (rw next (omega arith)))))

  -- k bounds how many there are.
  rest_handed_out : (k place : ℕ) → Proper sheet place → length (rest sheet place) < k → AllHandedOut place
  rest_handed_out zero place h low = absurd (omega arith)
  rest_handed_out (suc k) place h low =
      handed_out place h (handed sheet place) refl (λ fewer. rest_handed_out k _ (advanced_proper sheet place h) (omega arith))

  -- From the first place on these are the entries of the sheet, where its runs lie inside it.
  module _ (h : Inside sheet) (first : ℕ) (e : FirstPlace sheet first) where
    entries_handed : HandsOut sheet first (entries sheet)
    entries_handed =
        rw (e, ← begin_rest sheet h)
        (rest_handed_out (suc (length (rest sheet (begin sheet)))) (begin sheet) (begin_proper sheet h) (omega arith))

    handed_entries : (os : List Entry) → HandsOut sheet first os → os ≡ entries sheet
    handed_entries os hands = handed_rest first (rw e (begin_proper sheet h)) os hands ∙ rw e (begin_rest sheet h)

  -- The cuts, one by one.
  lengths_at : (k i j : ℕ) → j < k → get_or (lengths (runs_from sheet i k)) j 0 ≡ (run_at sheet (i + j)).size / 6
  lengths_at zero i j low = absurd (omega arith)
  lengths_at (suc k) i zero low = rw add-zero
  lengths_at (suc k) i (suc j) low =
      let same : suc i + j ≡ i + suc j = omega arith in
      lengths_at k (suc i) j (omega arith) ∙ ap (λ r. (run_at sheet r).size / 6) same

-- ---- a reader that stays attached hands out what its place does

-- What a reader hands out is handed out from its place on,
by_place : (es : List Entry) (r : Reader) → HandsOutBy r es → HandsOut r.sheet.now r.place es
by_place [] r end = end
by_place (e ∷ es) r (first, (next, (moves, others))) =
    let q : HandsOut r.sheet.now (advanced r.sheet.now r.place) es =
    subst (λ (x : Reader). HandsOut x.sheet.now x.place es) moves (by_place es next others) in
    (first, (_, (refl, q)))

-- and what is handed out from its place on the reader hands out.
by_reader : (es : List Entry) (r : Reader) → HandsOut r.sheet.now r.place es → HandsOutBy r es
by_reader [] r end = end
by_reader (e ∷ es) r (first, (next, (after, others))) =
    let q : HandsOut r.sheet.now (advanced r.sheet.now r.place) es = subst (λ p. HandsOut r.sheet.now p es) after others in
    (first, (moved_on r, (refl, by_reader es (moved_on r) q)))

-- Of one attached to a sheet whose runs lie inside it these are the sheet's entries.
module _ (b : Bor (List ℕ)) (h : Inside b.now) where
  reader_entries : HandsOutBy (attached b) (entries b.now)
  reader_entries = by_reader (entries b.now) (attached b) (entries_handed b.now h (begin b.now) refl)

  entries_read : (os : List Entry) → HandsOutBy (attached b) os → os ≡ entries b.now
  entries_read os hands = handed_entries b.now h (begin b.now) refl os (by_place os (attached b) hands)

-- ---- written, then read

-- Of a sheet that reads as what was given, by the definitions.
module _ (caller : Caller) (n L : ℕ) (es ms sheet : List ℕ) (a : ReadsAs (limits_of caller) n L es ms sheet) where
  reads_count : run_count sheet ≡ length ms
  reads_count = sym (length_lengths_of sheet) ∙ ap length a.cuts

  reads_finds : Finds caller n L es ms sheet
  reads_finds =
      let inside = accepted_inside (limits_of caller) sheet a.accepted in
      record {
        accepted = λ code e. e ∙ a.accepted;
        processes = λ value e. e ∙ a.processes;
        limit = λ value e. e ∙ a.limit;
        cut_count = λ value e. e ∙ reads_count;
        cuts = λ i low x e. rw (e.size_is, ← a.cuts) (sym (rw zero-add at (lengths_at sheet (run_count sheet) 0 i (rw reads_count low))));
        hands_out = λ first e. rw (← a.operations) (entries_handed sheet inside first e);
        nothing_else = λ first e os hands. handed_entries sheet inside first e os hands ∙ a.operations;
        reader_hands_out = λ b same r attaches.
            rw attaches (subst (HandsOutBy (attached b)) (ap entries same ∙ a.operations) (reader_entries b (rw same inside)));
        reader_nothing_else = λ b same r attaches os hands.
            entries_read b (rw same inside) os (subst (λ x. HandsOutBy x os) attaches hands) ∙ ap entries same ∙ a.operations;
        reads = a;
      }

-- So the functions find in the sheet that an accepted call of the writer wrote what the call was given, by the same caller. The sheet is
-- the first bytes of the output, as many as the call answers.
pub write_finds : (caller : Caller) (n L : ℕ) (es ms out : List ℕ) (answer : CountAnswer) (after : List ℕ)
    → Writes caller n L es ms out answer after → answer.code ≡ 0
    → Finds caller n L es ms (take answer.count after)
write_finds caller n L es ms out answer after e ok =
    let low : (limits_of caller).rounds < 65536 = omega (arith, (caller_limits caller).rounds) in
    let code = sym (ap (λ (w : WriteResult). w.answer.code) e) ∙ ok in
    reads_finds caller n L es ms _
    (rw (ap (λ (w : WriteResult). w.answer.count) e, ap (λ (w : WriteResult). w.buffer) e)
    (written_reads (limits_of caller) n L es ms out low code))

-- ---- read, then written

-- "A sheet with an accepted header, well-formed entries, no gaps and no trailing bytes, read and written again, comes back byte for byte":
-- where the refusal answers 0 and a reader hands out well-formed entries, a call of the writer on what was read writes the same sheet, to
-- every output that is long enough.
pub read_writes_again : (caller : Caller) (s out : List ℕ) (code first : ℕ) (os : List Entry) (answer : CountAnswer) (after : List ℕ)
    → ((i : ℕ) → byte_at s i < 256)
    → Refuses caller s code → code ≡ 0
    → FirstPlace s first → HandsOut s first os → well_formed os ≡ true
    → gapless s ≡ true
    → length s ≤ length out
    → Writes caller (process_count s) (round_limit s) (entry_bytes s) (lengths_of s) out answer after
    → wrote answer after ≡ wrote (count_answer 0 (length s)) (s ++ drop (length s) out)
read_writes_again caller s out code first os answer after bytes refuses ok begins hands formed gap room writes =
    let accepted = sym refuses ∙ ok in
    let inside = accepted_inside (limits_of caller) s accepted in
    let same : os ≡ entries s = handed_entries s inside first begins os hands in
    writes ∙ read_writes (limits_of caller) s out bytes accepted (rw (← same) formed) gap room

-- The same where an attached reader hands them out.
pub reader_writes_again : (caller : Caller) (b : Bor (List ℕ)) (out : List ℕ) (code : ℕ) (r : Reader) (os : List Entry)
    (answer : CountAnswer) (after : List ℕ)
    → ((i : ℕ) → byte_at b.now i < 256)
    → Refuses caller b.now code → code ≡ 0
    → Attaches b r → HandsOutBy r os → well_formed os ≡ true
    → gapless b.now ≡ true
    → length b.now ≤ length out
    → Writes caller (process_count b.now) (round_limit b.now) (entry_bytes b.now) (lengths_of b.now) out answer after
    → wrote answer after ≡ wrote (count_answer 0 (length b.now)) (b.now ++ drop (length b.now) out)
reader_writes_again caller b out code r os answer after bytes refuses ok attaches hands formed gap room writes =
    read_writes_again caller b.now out code (begin b.now) os answer after bytes refuses ok refl
    (by_place os (attached b) (subst (λ x. HandsOutBy x os) attaches hands)) formed gap room writes
