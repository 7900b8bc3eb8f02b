-- The measure is the number: a tenth of a number that is not 0 is less.
use Rattle.use_text.proofs.Page.+put_number.Given as goal

abbrev pub decreases-put_number : goal.decreases-put_number
decreases-put_number l = l.v
