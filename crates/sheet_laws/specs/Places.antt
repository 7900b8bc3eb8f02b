-- Document 01, "Turn sheets": "A reader that stays attached to the sheet's bytes and its place hands the entries out." The place is one
-- number.
use Rattle.std.specs.Prelude.{◌+◌, ◌-◌, ◌*◌, ◌/◌, ◌%◌, ◌≤◌, ◌<◌, ◌≡◌, ◌∷◌, ◌++◌, Some, None, Option}
use Rattle.base.specs.Prelude.{ℕ, suc, zero, Bool, false, cond, List, [], leb}
use Rattle.model.specs.declared.Entry.{Entry}
use Rattle.model.specs.Sheet.{EntryRun, run_at, run_count, runs_from, entry_at, entries_at, entries_of}

-- ---- what a place says, and how it is one number

-- The next run to be opened, the offset of the next entry, and how many entries of the current run are still to be handed out.
pub record Position : Type 0 where
  pub run : ℕ
  pub at : ℕ
  pub left : ℕ

-- The offset in the lowest 16 bits, the entries left in the 14 above them, the run above these.
abbrev pub encode : Position → ℕ
encode q = q.at + 65536 * q.left + 1073741824 * q.run

abbrev pub decode : ℕ → Position
decode p = record { run = p / 1073741824; at = p % 65536; left = p / 65536 % 16384 }

-- Whether the entries left end within the bytes that a sheet can have: then the two fit their bits.
abbrev pub Within : Position → Type 0
Within q = q.at + 6 * q.left ≤ 65535

-- ---- positions

-- Whether an entry of the current run is left.
abbrev pub has_entry : Position → Bool
has_entry q = leb 1 q.left

-- Run i, opened: its entries, "6 bytes" each, are to be handed out, and i + 1 is the next run.
abbrev pub opened_run : (i : ℕ) → EntryRun → Position
opened_run i x = record { run = i + 1; at = x.offset; left = x.size / 6 }

-- No entry of a run is left, and run i is the next.
abbrev pub between : (i : ℕ) → Position
between i = record { run = i; at = 0; left = 0 }

-- The first of the runs i, i + 1, .., as many as told, that has an entry, opened. ("Length 0 is allowed".)
unfoldable pub open_from : List ℕ → (i count : ℕ) → Position
open_from s i zero = between i
open_from s i (suc k) = cond (leb 6 (run_at s i).size) (opened_run i (run_at s i)) (open_from s (i + 1) k)

-- The position itself where its run has an entry left, else the next run that has one, opened.
unfoldable pub settled : List ℕ → Position → Position
settled s q = cond (has_entry q) q (open_from s q.run (run_count s - q.run))

-- The same run, behind the next entry.
abbrev pub passed : Position → Position
passed q = cond (has_entry q) (record { run = q.run; at = q.at + 6; left = q.left - 1 }) q

-- The entries from a position on: those left of its run, and those of the runs still to be opened.
unfoldable pub rest_from : List ℕ → Position → List Entry
rest_from s q = entries_at s q.at q.left ++ entries_of s (runs_from s q.run (run_count s - q.run))

-- ---- places

-- Where a reader starts.
unfoldable pub begin : List ℕ → ℕ
begin s = encode (settled s (between 0))

-- What a place hands out: an entry, or none where no run has one left.
unfoldable pub handed : List ℕ → ℕ → Option Entry
handed s p = cond (has_entry (decode p)) (Some (entry_at s (decode p).at)) None

-- The place behind the entry that this one hands out.
unfoldable pub advanced : List ℕ → ℕ → ℕ
advanced s p = encode (settled s (passed (decode p)))

-- The entries from a place on.
unfoldable pub rest : List ℕ → ℕ → List Entry
rest s p = rest_from s (decode p)

-- What was handed out, and the entries after it; none where no entry is left.
abbrev pub before : Option Entry → List Entry → List Entry
before (Some e) es = e ∷ es
before None es = []

-- 01: "ends within the sheet", which has 65,535 bytes at most: so it is with every run of an accepted sheet.
pub record Inside (s : List ℕ) : Type 0 where
  pub ends : (i : ℕ) → i < run_count s → (run_at s i).offset + (run_at s i).size ≤ 65535

-- A place at which a reader of such a sheet can stand: where its run has no entry left, no run is left.
pub record Proper (s : List ℕ) (p : ℕ) : Type 0 where
  pub inside : Inside s
  pub within : Within (decode p)
  pub last : has_entry (decode p) ≡ false → run_count s ≤ (decode p).run
