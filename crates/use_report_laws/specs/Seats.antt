-- The seats' lines, one after another.
use Rattle.std.specs.Prelude.{◌+◌, ◌≤◌, ◌<◌, ◌≡◌, ◌∷◌, ◌++◌}
use Rattle.base.specs.Prelude.{ℕ, zero, suc, zero-add, add-zero, add-suc, suc-add, not-suc-le-zero, le_of_suc-le-suc}
use Rattle.base.specs.Prelude.{add-one, arith, min, ℕ_discrete, sym, ap, ◌∙◌}
use Rattle.base.specs.Prelude.{List, [], append_assoc, append-nil, length, get_or, take, take_all}
use Rattle.model.specs.declared.Process.{Process}
use Rattle.model_report.specs.Report.{bytes, field, newline, status_words, seat_line, seat_lines}
use Rattle.use_text.specs.declared.Page.{Page}
use Rattle.use_text.specs.Page.{Put, after, after_parts}

abbrev status : Process → List ℕ
status q = status_words q.phase q.round q.estimate

seats_more : (k p : ℕ) (l : List Process) (d : Process) → p < length l
    → seat_lines k (take (suc p) l) ≡ seat_lines k (take p l) ++ seat_line (k + p) (get_or l p d)
seats_more k p [] d h = absurd (not-suc-le-zero h)
seats_more k zero (q ∷ l) d h = cc (append-nil (seat_line k q), add-zero k)
seats_more k (suc p) (q ∷ l) d h =
    let line = seat_line (suc (k + p)) (get_or l p d) in
    cc (
      seats_more (suc k) p l d (le_of_suc-le-suc h),
      append_assoc (seat_line k q) (seat_lines (suc k) (take p l)) line,
      suc-add k p,
      add-suc k p,
    )

-- One seat more: its number, and its status with the line's end.
pub seat_put : (l : List Process) (d : Process) (p : ℕ) {e x y z : Page} → p < length l
    → Put e (seat_lines 0 (take p l)) x
    → Put x (bytes "seat" ++ field p) y
    → Put y (status (get_or l p d) ++ newline) z
    → Put e (seat_lines 0 (take (p + 1) l)) z
seat_put l d p h u v w =
    rw (add-one p, seats_more 0 p l d h, zero-add) (after u (after_parts (status (get_or l p d)) newline v w))

-- Where every seat is put, none is left.
pub seats_all : (l : List Process) (p n : ℕ) → length l ≤ p → p ≤ n → take n l ≡ take p l
seats_all l p n h i = rw (take_all n l (omega arith), take_all p l h)

-- The seats that are lent are the first m of all, where m is n, or all are fewer. Where each of them is put, none is left.
pub seats_lent : (l : List Process) (p n m : ℕ) → length (take m l) ≤ p → m ≡ min n (length l) → take p (take m l) ≡ take n l
seats_lent l p n m h e =
    take_all p (take m l) h
    ∙ elim (ℕ_discrete m n) [ yes all ↦ ap (λ k. take k l) all | no fewer ↦ sym (seats_all l m n (omega arith) (omega arith)) ]
