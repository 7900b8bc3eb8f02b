-- What the functions of the round trips promise of a call, read off the functions: the writer, the refusal of a sheet, a reader that goes
-- from place to place, the attached reader, by which the runner goes, and what reads the header and the pairs. Each one requires nothing, and
-- ensures what the round trips start from. Any other contract is refused here.
use Rattle.std.specs.Prelude.{◌≡◌, Option}
use Rattle.base.specs.Prelude.{ℕ, refl, List}
use seplogic.Ra.Ura.{Ura}
use base.Logic.{SProp}
use base.Fml.{Lft}
use prog.Memory.{Memory}
use prog.Routine.{Routine}
use types.Logic.{Logic}
use contract.Monad.{Fun}
use Rattle.std.specs.Borrow.{Bor, MutBor}
use Rattle.model_laws.specs.Types.{Caller, CountAnswer, Entry}
use Rattle.model.specs.Answers.{code, told_count}
use Rattle.model.specs.Board.{limits_of}
use Rattle.model.specs.Bytes.{byte_at, word16}
use Rattle.model.specs.Sheet.{sheet_refusal}
use Rattle.model_write.specs.Write.{wrote, write_result}
use Rattle.sheet_layout.specs.declared.Span.{Span}
use Rattle.sheet_layout.specs.Runs.{IsRun}
use Rattle.sheet_laws.specs.declared.Reader.{Reader}
use Rattle.sheet_laws.specs.Places.{begin, handed, advanced}
use Rattle.sheet_laws.specs.Reading.{attached, handed_by, moved_on}
use Rattle.theory_functions.specs.FunctionContracts.{ensures}
use Rattle.sheet_write.specs.contracts.write as write
use Rattle.sheet_refusal.specs.contracts.refusal as refusal
use Rattle.sheet_reader.specs.contracts.first_place as first-place
use Rattle.sheet_reader.specs.contracts.entry_at as entry_at
use Rattle.sheet_reader.specs.contracts.place_after as place_after
use Rattle.sheet_reader_held.specs.contracts.attach as attach
use Rattle.sheet_reader_held.specs.contracts.entry as entry
use Rattle.sheet_reader_held.specs.contracts.moved as moved
use Rattle.sheet_layout.specs.contracts.run_at as run_at
use Rattle.part_bytes.specs.contracts.byte as byte
use Rattle.part_bytes.specs.contracts.word16 as word

-- ---- what is promised of a call: its answer, and of the writer what the output holds after it

abbrev pub Writes : Caller → (n L : ℕ) (es ms out : List ℕ) → CountAnswer → (after : List ℕ) → Type 0
Writes caller n L es ms out answer after = wrote answer after ≡ write_result (limits_of caller) n L es ms out

abbrev pub Refuses : Caller → (sheet : List ℕ) (code : ℕ) → Type 0
Refuses caller sheet code = code ≡ sheet_refusal (limits_of caller) sheet

abbrev pub FirstPlace : (sheet : List ℕ) (place : ℕ) → Type 0
FirstPlace sheet place = place ≡ begin sheet

abbrev pub EntryAt : (sheet : List ℕ) (place : ℕ) → Option Entry → Type 0
EntryAt sheet place h = h ≡ handed sheet place

abbrev pub PlaceAfter : (sheet : List ℕ) (place next : ℕ) → Type 0
PlaceAfter sheet place next = next ≡ advanced sheet place

-- Of a reader that stays attached: the one that `attach` answers, what `entry` answers of it, and the one that `moved` answers.
abbrev pub Attaches : (sheet : Bor (List ℕ)) → Reader → Type 0
Attaches sheet r = r ≡ attached sheet

abbrev pub Hands : Reader → Option Entry → Type 0
Hands r h = h ≡ handed_by r

abbrev pub Moves : (r next : Reader) → Type 0
Moves r next = next ≡ moved_on r

abbrev pub ByteAt : (sheet : List ℕ) (i value : ℕ) → Type 0
ByteAt sheet i value = value ≡ byte_at sheet i

abbrev pub Word16At : (sheet : List ℕ) (i value : ℕ) → Type 0
Word16At sheet i value = value ≡ word16 sheet i

abbrev pub RunAt : (sheet : List ℕ) (i : ℕ) → Span → Type 0
RunAt sheet i x = IsRun sheet i x.offset x.size

-- ---- that it is promised, and that nothing is required

module _ {M : Type 1} {𝓤 : Ura M} (𝓛 : Logic 𝓤) (mem : Memory → SProp 𝓤) (run : Routine → Fun 𝓤) where
  -- The writer is lent the output: e has it as it stands at exit.
  pub write_contract : (κ κ₁ κ₂ : Lft) (caller : Caller) (n L : ℕ) (es ms : Bor (List ℕ)) (out : MutBor (List ℕ)) →
      write.clauses 𝓛 mem run (κ, (κ₁, (κ₂, tt))) (caller, (n, (L, (es, (ms, (out, tt))))))
      ≡ ensures 𝓤 (λ r e. Writes caller n L es.now ms.now out.now (told_count r) e.1.1.1.1.1.0.now)
  write_contract κ κ₁ κ₂ caller n L es ms out = refl

  module _ (κ : Lft) (sheet : Bor (List ℕ)) where
    pub refusal_contract : (caller : Caller) →
        refusal.clauses 𝓛 mem run (κ, tt) (caller, (sheet, tt)) ≡ ensures 𝓤 (λ r e. Refuses caller sheet.now (code r))
    refusal_contract caller = refl

    pub first_place_contract : first-place.clauses 𝓛 mem run (κ, tt) (sheet, tt) ≡ ensures 𝓤 (λ r e. FirstPlace sheet.now r)
    first_place_contract = refl

    pub entry_at_contract : (place : ℕ) →
        entry_at.clauses 𝓛 mem run (κ, tt) (sheet, (place, tt)) ≡ ensures 𝓤 (λ r e. EntryAt sheet.now place r)
    entry_at_contract place = refl

    pub place_after_contract : (place : ℕ) →
        place_after.clauses 𝓛 mem run (κ, tt) (sheet, (place, tt)) ≡ ensures 𝓤 (λ r e. PlaceAfter sheet.now place r)
    place_after_contract place = refl

    pub attach_contract : attach.clauses 𝓛 mem run (κ, tt) (sheet, tt) ≡ ensures 𝓤 (λ r e. Attaches sheet r)
    attach_contract = refl

    pub byte_contract : (i : ℕ) → byte.clauses 𝓛 mem run (κ, tt) (sheet, (i, tt)) ≡ ensures 𝓤 (λ r e. ByteAt sheet.now i r)
    byte_contract i = refl

    pub word16_contract : (i : ℕ) → word.clauses 𝓛 mem run (κ, tt) (sheet, (i, tt)) ≡ ensures 𝓤 (λ r e. Word16At sheet.now i r)
    word16_contract i = refl

    pub run_at_contract : (i : ℕ) → run_at.clauses 𝓛 mem run (κ, tt) (sheet, (i, tt)) ≡ ensures 𝓤 (λ r e. RunAt sheet.now i r)
    run_at_contract i = refl

  module _ (κ : Lft) (r : Reader) where
    pub entry_contract : entry.clauses 𝓛 mem run (κ, tt) (r, tt) ≡ ensures 𝓤 (λ h e. Hands r h)
    entry_contract = refl

    pub moved_contract : moved.clauses 𝓛 mem run (κ, tt) (r, tt) ≡ ensures 𝓤 (λ next e. Moves r next)
    moved_contract = refl
