-- The recursion of `legal`: one entry after the other, so the number that is left falls.
use Rattle.sheet_short_refusal.proofs.+legal.Given as goal

abbrev pub decreases-legal : goal.decreases-legal
decreases-legal l = l.search.now.left
