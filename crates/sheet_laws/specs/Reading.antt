-- Document 01, "Turn sheets": "A reader that stays attached to the sheet's bytes and its place hands the entries out."
-- A reference stands for its bytes, `now`, and for itself: a reader that moves on keeps it.
use Rattle.std.specs.Prelude.{Option}
use Rattle.base.specs.Prelude.{ℕ, List}
use Rattle.std.specs.Borrow.{Bor}
use Rattle.model.specs.declared.Entry.{Entry}
use Rattle.sheet_laws.specs.Places.{begin, handed, advanced, rest}
use Rattle.sheet_laws.specs.declared.Reader.{Reader}

-- A reader of the sheet, at the place of its first entry.
abbrev pub attached : Bor (List ℕ) → Reader
attached s = record { sheet = s; place = begin s.now }

-- What a reader hands out: the entry at its place, or none where none is left.
abbrev pub handed_by : Reader → Option Entry
handed_by r = handed r.sheet.now r.place

-- The same reader, one entry on.
abbrev pub moved_on : Reader → Reader
moved_on r = record { sheet = r.sheet; place = advanced r.sheet.now r.place }

-- The entries that it has still to hand out.
abbrev pub left_to : Reader → List Entry
left_to r = rest r.sheet.now r.place
