-- Document 01, "Turn sheets": where the next place is, case by case.
use Rattle.std.specs.Prelude.{◌+◌, ◌-◌, ◌*◌, ◌%◌, ◌≤◌, ◌<◌, ◌≡◌}
use Rattle.base.specs.Prelude.{ℕ, arith, List, le-leb, lt-leb}
use Rattle.base.specs.Bools.{cond_cases}
use Rattle.model.specs.Sheet.{run_count}
use Rattle.sheet_laws.specs.Places.{encode, decode, has_entry, open_from, settled, advanced}

-- The entries left stand above the offset and below the run: a multiple of 65,536 says how many there are.
module _ (p n : ℕ) where
  above : p % 1073741824 ≡ (decode p).at + 65536 * (decode p).left
  above = omega arith

  pub left_more : n * 65536 ≤ p % 1073741824 → n ≤ (decode p).left
  left_more h = omega (arith, above)

  pub left_fewer : p % 1073741824 < n * 65536 → (decode p).left < n
  left_fewer h = omega (arith, above)

-- Two entries are left of the run: the next place is in it. Else it is in the next run that has an entry.
module _ (s : List ℕ) (p : ℕ) where
  pub next_within : 2 ≤ (decode p).left → advanced s p ≡ p - 65536 + 6
  unfolding advanced settled
  next_within h =
      let e : 1 ≤ (decode p).left = omega arith in
      let f : 1 ≤ (decode p).left - 1 = omega arith in
      rw (le-leb 1 _ e, le-leb 1 _ f) (omega arith)

  pub next_run : (decode p).left < 2 → advanced s p ≡ encode (open_from s (decode p).run (run_count s - (decode p).run))
  unfolding advanced settled
  next_run h =
      let q = decode p in
      let f : q.left - 1 < 1 = omega arith in
      cond_cases (λ r. encode (settled s r) ≡ encode (open_from s q.run (run_count s - q.run))) (has_entry q) (λ e. rw (lt-leb 1 _ f))
      (λ e. rw e)
