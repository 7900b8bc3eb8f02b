-- A number of at least 10 is its tenth and its last digit; any other is its last digit alone.
use Rattle.std.proofs.Common.{arith, sym, ap, ◌∙◌, ◌≡◌, ◌+◌, ◌%◌, ◌∷◌, []}
use Rattle.use_text.specs.Page.{after, same}
use Rattle.use_text.specs.Numbers.{digits_low, digits_last}
use Rattle.use_text.proofs.Page.+put_number.Goals as goal
use Rattle.use_text.proofs.Page.+put_number.Goals.{then-v-ge10, else-v-ge10}

pub returns : goal.returns
returns t c =
    let v = c.args.v in
    elim c.if-v-ge10.branch [
      | then-v-ge10 w ↦ same (sym (digits_last 18 v (omega arith) w.if-v-ge10.true))
          (after w.put_number.ensures (rw (← w.self-is) c.put_byte.ensures))
      | else-v-ge10 w ↦ let alone : v % 10 ≡ v = omega arith in
          same (ap (λ d. (48 + d) ∷ []) alone ∙ sym (digits_low 19 v w.if-v-ge10.false)) (rw (← w.self-is) c.put_byte.ensures)
    ]
