-- Document 02, wish 9: what each of the two callers gets for the same call, and that every row holds of the definitions.
use Rattle.std.specs.Prelude.{ℕ, ◌≡◌, refl, Bool, true, ◌&&◌, List, [], ◌∷◌, eqb}
use Rattle.model.specs.declared.Caller.{Caller}
use Rattle.model.specs.declared.Caller.TheVariants.{Server, Cart}
use Rattle.model.specs.Window.{window, root_up, root_from}
use Rattle.model.specs.Board.{limits_of, opened}
use Rattle.model.specs.Machine.{opening_for, opening}
use Rattle.model.specs.Sheet.{sheet_refusal}
use Rattle.model.specs.Sound.{every}
use Rattle.model_poll.specs.Machine.{poll_opening_for, poll_opening}
use Rattle.model_write.specs.Write.{sheet_of, write_refusal}

-- "Opening, of polls too, and sheet reading and writing take the caller's limits": the calls that do.
pub data Request : Type 0 where
  opens : (n L : ℕ) → Request
  opens_poll : (n : ℕ) → Request
  reads : (sheet : List ℕ) → Request
  writes : (n L : ℕ) (entries lengths : List ℕ) (room : ℕ) → Request

-- The number that the caller gets.
abbrev number_of : Caller → Request → ℕ
number_of caller (opens n L) = (opening caller n L).code
number_of caller (opens_poll n) = (poll_opening caller n).code
number_of caller (reads s) = sheet_refusal (limits_of caller) s
number_of caller (writes n L es ms room) = write_refusal (limits_of caller) n L es ms room

-- A row of the table: the call, and both callers' numbers.
pub record Row : Type 0 where
  pub call : Request
  pub server : ℕ
  pub cart : ℕ

unfoldable pub holds : Row → Bool
holds r = eqb (number_of Server r.call) r.server && eqb (number_of Cart r.call) r.cart

pub table : List Row
table =
    -- sessions: no process; one round fewer than W, and W; "at most 16 seats and 64 rounds"; one more of either, and of both: 1 is tested
    -- first
    record { call = opens 0 16; server = 1; cart = 1 }
    ∷ record { call = opens 16 7; server = 2; cart = 2 }
    ∷ record { call = opens 16 8; server = 0; cart = 0 }
    ∷ record { call = opens 16 64; server = 0; cart = 0 }
    ∷ record { call = opens 16 65; server = 0; cart = 2 }
    ∷ record { call = opens 17 64; server = 0; cart = 1 }
    ∷ record { call = opens 17 65; server = 0; cart = 1 }
    ∷ record { call = opens 1 64; server = 0; cart = 0 }
    ∷ record { call = opens 1 65; server = 0; cart = 2 }
    -- "the server stays at 64 and 256"
    ∷ record { call = opens 64 256; server = 0; cart = 1 }
    ∷ record { call = opens 64 257; server = 2; cart = 1 }
    ∷ record { call = opens 65 256; server = 1; cart = 1 }
    ∷ record { call = opens 1 257; server = 2; cart = 2 }
    -- polls: 1 above 16 for the cart, above 64 for the server
    ∷ record { call = opens_poll 0; server = 1; cart = 1 }
    ∷ record { call = opens_poll 16; server = 0; cart = 0 }
    ∷ record { call = opens_poll 17; server = 0; cart = 1 }
    ∷ record { call = opens_poll 64; server = 0; cart = 1 }
    ∷ record { call = opens_poll 65; server = 1; cart = 1 }
    -- sheets without pairs, of 16 and 17 seats, of 64 and 65 rounds
    ∷ record { call = reads (16 ∷ 0 ∷ 64 ∷ 0 ∷ []); server = 0; cart = 0 }
    ∷ record { call = reads (17 ∷ 0 ∷ 64 ∷ 0 ∷ []); server = 0; cart = 1 }
    ∷ record { call = reads (16 ∷ 0 ∷ 65 ∷ 0 ∷ []); server = 0; cart = 2 }
    -- in the sheet's own order, "Sheet 10, 1, 2, 11 over all pairs, 12 over all runs": 17 pairs; 1 before 2; a pair that begins in the
    -- header, behind 1 and behind 2; a run of one byte, likewise
    ∷ record { call = reads (17 ∷ 17 ∷ 65 ∷ 0 ∷ []); server = 10; cart = 10 }
    ∷ record { call = reads (17 ∷ 0 ∷ 65 ∷ 0 ∷ []); server = 0; cart = 1 }
    ∷ record { call = reads (17 ∷ 1 ∷ 64 ∷ 0 ∷ 0 ∷ 0 ∷ 0 ∷ 0 ∷ []); server = 11; cart = 1 }
    ∷ record { call = reads (16 ∷ 1 ∷ 65 ∷ 0 ∷ 0 ∷ 0 ∷ 0 ∷ 0 ∷ []); server = 11; cart = 2 }
    ∷ record { call = reads (17 ∷ 1 ∷ 64 ∷ 0 ∷ 8 ∷ 0 ∷ 1 ∷ 0 ∷ 0 ∷ []); server = 12; cart = 1 }
    ∷ record { call = reads (16 ∷ 1 ∷ 65 ∷ 0 ∷ 8 ∷ 0 ∷ 1 ∷ 0 ∷ 0 ∷ []); server = 12; cart = 2 }
    -- the writer, with no entries, likewise: an output of four bytes is long enough, and one of three is not
    ∷ record { call = writes 16 64 [] [] 4; server = 0; cart = 0 }
    ∷ record { call = writes 17 64 [] [] 4; server = 0; cart = 1 }
    ∷ record { call = writes 16 65 [] [] 4; server = 0; cart = 2 }
    ∷ record { call = writes 17 65 [] [] 4; server = 0; cart = 1 }
    -- in its order, "1, 2, 12 for the entry buffer, 17, 13, then 15 if the output is too short", each behind 1 and behind 2: a buffer of
    -- one byte; a run of one entry that is not there; an entry of an unknown kind; an output too short
    ∷ record { call = writes 17 64 (0 ∷ []) [] 4; server = 12; cart = 1 }
    ∷ record { call = writes 16 65 (0 ∷ []) [] 4; server = 12; cart = 2 }
    ∷ record { call = writes 17 64 [] (1 ∷ []) 8; server = 17; cart = 1 }
    ∷ record { call = writes 16 65 [] (1 ∷ []) 8; server = 17; cart = 2 }
    ∷ record { call = writes 17 64 (9 ∷ 0 ∷ 0 ∷ 0 ∷ 0 ∷ 0 ∷ []) (1 ∷ []) 14; server = 13; cart = 1 }
    ∷ record { call = writes 16 65 (9 ∷ 0 ∷ 0 ∷ 0 ∷ 0 ∷ 0 ∷ []) (1 ∷ []) 14; server = 13; cart = 2 }
    ∷ record { call = writes 17 64 [] [] 3; server = 15; cart = 1 }
    ∷ record { call = writes 16 65 [] [] 3; server = 15; cart = 2 }
    ∷ record { call = writes 16 64 [] [] 3; server = 15; cart = 15 }
    ∷ []

-- Every row holds.
pub caller_cases : every holds table ≡ true
unfolding table holds window root_up root_from opened opening_for poll_opening_for sheet_refusal sheet_of write_refusal
caller_cases = refl
