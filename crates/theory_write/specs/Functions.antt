-- Document 02, wish 3: what it means that a reader hands out entries, and that the functions find in a sheet what it was written from. The
-- two round trips of the functions say it; they stand in proofs/Functions.antt.
use Rattle.std.specs.Prelude.{get_or, ◌/◌, ◌<◌, ◌≡◌, ◌∷◌, Some, None}
use Rattle.base.specs.Prelude.{ℕ, List, [], length}
use Rattle.model_laws.specs.Types.{Caller, Entry}
use Rattle.model.specs.Board.{limits_of}
use Rattle.model_write.specs.Write.{buffer_entries}
use Rattle.model_write.specs.RoundTrip.{ReadsAs}
use Rattle.std.specs.Borrow.{Bor}
use Rattle.sheet_layout.specs.declared.Span.{Span}
use Rattle.sheet_laws.specs.declared.Reader.{Reader}
use Rattle.theory_write.specs.FunctionContracts.{Refuses, FirstPlace, EntryAt, PlaceAfter, Attaches, Hands, Moves, ByteAt, Word16At, RunAt}

-- ---- a reader that goes from place to place

-- From a place on these entries are handed out, and then no more: `entry_at` answers the first of them, and the others are handed out from
-- the place on that `place_after` answers. Where there is none, `entry_at` answers that none is left.
abbrev pub HandsOut : (sheet : List ℕ) (place : ℕ) → List Entry → Type 0
HandsOut sheet place [] = EntryAt sheet place None
HandsOut sheet place (e ∷ es) = EntryAt sheet place (Some e) × ((next : ℕ) × (PlaceAfter sheet place next × HandsOut sheet next es))

-- ---- a reader that stays attached, by which the runner goes

-- The same of a reader: `entry` answers the first of the entries, and the others are handed out by the reader that `moved` answers.
abbrev pub HandsOutBy : Reader → List Entry → Type 0
HandsOutBy r [] = Hands r None
HandsOutBy r (e ∷ es) = Hands r (Some e) × ((next : Reader) × (Moves r next × HandsOutBy next es))

-- ---- written, then read

-- "The reader finds in it the same header, entries and cuts", of the functions: what a call of theirs on the sheet answers.
pub record Finds (caller : Caller) (n L : ℕ) (es ms sheet : List ℕ) : Type 0 where
  pub accepted : (code : ℕ) → Refuses caller sheet code → code ≡ 0
  pub processes : (value : ℕ) → ByteAt sheet 0 value → value ≡ n
  pub limit : (value : ℕ) → Word16At sheet 2 value → value ≡ L
  pub cut_count : (value : ℕ) → ByteAt sheet 1 value → value ≡ length ms
  pub cuts : (i : ℕ) → i < length ms → (x : Span) → RunAt sheet i x → x.size / 6 ≡ get_or ms i 0
  -- A reader that starts at the first place hands out the entries given, in their order, and then no more; and it hands out nothing else.
  pub hands_out : (first : ℕ) → FirstPlace sheet first → HandsOut sheet first (buffer_entries es)
  pub nothing_else : (first : ℕ) → FirstPlace sheet first → (os : List Entry) → HandsOut sheet first os → os ≡ buffer_entries es
  -- The same of a reader attached to the sheet.
  pub reader_hands_out : (b : Bor (List ℕ)) → b.now ≡ sheet → (r : Reader) → Attaches b r → HandsOutBy r (buffer_entries es)
  pub reader_nothing_else : (b : Bor (List ℕ)) → b.now ≡ sheet → (r : Reader) → Attaches b r → (os : List Entry) → HandsOutBy r os
      → os ≡ buffer_entries es
  -- By the definitions also: its entries have the bytes given, there are no gaps, and running it is running the entries.
  pub reads : ReadsAs (limits_of caller) n L es ms sheet
