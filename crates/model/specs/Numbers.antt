-- Document 01, "Numbers returned": a name for each number, with the row's words beside it. 0 is accepted. The code has the same names
-- (`model::Refusal`), and docs/REFUSALS.md the order in which each operation tests them.
use Rattle.std.specs.Prelude.{ℕ}
use Rattle.model.specs.declared.refusal.Refusal.{Refusal}
use Rattle.model.specs.declared.refusal.Refusal.TheVariants.{BadProcessCount, BadRoundLimit, Unsound, NoSuchProcess, BlankProposal, SecondProposal, ProcessOut, ProcessGone}
use Rattle.model.specs.declared.refusal.Refusal.TheVariants.{ProcessSpent, BadSheet, BadPairs, BadRun, BadEntry, NoSuchRound, BadBuffer}
use Rattle.model.specs.declared.refusal.Refusal.TheVariants.{CountsFull, BadCuts, ClosedToProposals, BadWards, IllegalList, LastList}

-- 1: "seats not 1 to 64". 02, wish 9: "1 and 2 speak of the caller's limits"; wish 12: "1 for a seat count other than 1 or 2".
abbrev pub bad_process_count : ℕ
bad_process_count = 1

-- 2: "L below W or above 256".
abbrev pub bad_round_limit : ℕ
bad_round_limit = 2

-- 3: "session not sound".
abbrev pub unsound : ℕ
unsound = 3

-- 4: "seat number n or above".
abbrev pub no_such_process : ℕ
no_such_process = 4

-- 5: "proposal of 0".
abbrev pub blank_proposal : ℕ
blank_proposal = 5

-- 6: "proposal, seat not out".
abbrev pub second_proposal : ℕ
second_proposal = 6

-- 7: "work, look or crash, seat out".
abbrev pub process_out : ℕ
process_out = 7

-- 8: "work, look or crash, seat crashed or decided". 02, wish 6: "a turn or crash of an answered seat gives 8".
abbrev pub process_gone : ℕ
process_gone = 8

-- 9: "work, seat spent".
abbrev pub process_spent : ℕ
process_spent = 9

-- 10: "sheet under 4 or over 65,535 bytes, over 16 pairs, or too short for its pairs".
abbrev pub bad_sheet : ℕ
bad_sheet = 10

-- 11: "pairs unsorted, overlapping, before the end of the pairs, or past the sheet".
abbrev pub bad_pairs : ℕ
bad_pairs = 11

-- 12: "a run's length not a multiple of 6". 02, wish 3: "12 for the entry buffer".
abbrev pub bad_run : ℕ
bad_run = 12

-- 13: "entry with an unknown kind or a wrong value". 02, wish 10: "kind 4 with another seat or value is 13".
abbrev pub bad_entry : ℕ
bad_entry = 13

-- 14: "read-out of a round not 1 to L".
abbrev pub no_such_round : ℕ
no_such_round = 14

-- 15: "lent buffer of wrong length". 02, wish 12: "15 for a buffer not 6 times the length".
abbrev pub bad_buffer : ℕ
bad_buffer = 15

-- 16: "work or look, some tally count already 4,294,967,295".
abbrev pub counts_full : ℕ
counts_full = 16

-- 17, 02, wish 3: "more than 16 runs, over 65,535 bytes, or run lengths that do not add up to the entries"; wish 12: "17 for a length
-- over 6".
abbrev pub bad_cuts : ℕ
bad_cuts = 17

-- 18, 02, wish 10: "proposal to a closed session".
abbrev pub closed_to_proposals : ℕ
closed_to_proposals = 18

-- 19, 02, wish 11: "c not 1 to 4, over 16 workers, a worker's ward not 1 to c, or an empty ward; at opening".
abbrev pub bad_wards : ℕ
bad_wards = 19

-- 20, 02, wish 12: "the given list is not legal".
abbrev pub illegal_list : ℕ
illegal_list = 20

-- 21, 02, wish 12: "no list follows it".
abbrev pub last_list : ℕ
last_list = 21

-- 100: "100 for budget ended". No refusal: what the clinic server gets for a run that its budget ended.
abbrev pub budget_ended : ℕ
budget_ended = 100

-- The number of a refusal.
abbrev pub number : Refusal → ℕ
number BadProcessCount = bad_process_count
number BadRoundLimit = bad_round_limit
number Unsound = unsound
number NoSuchProcess = no_such_process
number BlankProposal = blank_proposal
number SecondProposal = second_proposal
number ProcessOut = process_out
number ProcessGone = process_gone
number ProcessSpent = process_spent
number BadSheet = bad_sheet
number BadPairs = bad_pairs
number BadRun = bad_run
number BadEntry = bad_entry
number NoSuchRound = no_such_round
number BadBuffer = bad_buffer
number CountsFull = counts_full
number BadCuts = bad_cuts
number ClosedToProposals = closed_to_proposals
number BadWards = bad_wards
number IllegalList = illegal_list
number LastList = last_list
