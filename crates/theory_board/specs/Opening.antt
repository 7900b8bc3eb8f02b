-- A session just opened, with nothing past, keeps the invariant, at any window.
use Rattle.std.specs.Prelude.{◌-◌, ◌≤◌, ◌≡◌}
use Rattle.base.specs.Prelude.{ℕ, suc, zero, refl, sym, ◌∙◌, true≢false, [], get_or, replicate, length-replicate}
use Rattle.model.specs.Board.{opened, idle, max_processes, max_rounds}
use Rattle.theory_board.specs.Past.{past_none}
use Rattle.theory_board.specs.Lawful.{none}
use Rattle.theory_board.specs.Invariant.{Invariant}

-- A list of one value holds that value everywhere, past its end too.
pub same_everywhere : {A : Type 0} (k i : ℕ) (a : A) → get_or (replicate k a) i a ≡ a
same_everywhere zero i a = refl
same_everywhere (suc k) zero a = refl
same_everywhere (suc k) (suc i) a = same_everywhere k i a

pub opened_invariant : (W n L : ℕ) → n ≤ max_processes → L ≤ max_rounds → Invariant W (opened n L) []
unfolding opened
opened_invariant W n L few low =
    record {
      long = record { values = simp length-replicate low; marks = simp length-replicate low; processes = simp length-replicate few };
      lawful = none;
      stands =
          λ p.
          rw (same_everywhere max_processes p idle)
          (record { placed = λ i. absurd (true≢false i); decided = λ v d. absurd (past_none d.past) });
      matches =
          record {
            values = λ j a. same_everywhere max_rounds (j - 1) 0;
            marks =
                λ j a.
                (λ m. absurd (true≢false (sym m ∙ same_everywhere max_rounds (j - 1) _)), λ f. absurd (past_none f.past));
            decision = λ some. absurd (some refl);
          };
    }
