-- The way up to the round that a process takes part in: from waiting, through the scan, to a write or an adoption.
use Rattle.std.specs.Prelude.{◌+◌, ◌-◌, ◌≤◌, ◌<◌, ◌≡◌}
use Rattle.base.specs.Prelude.{ℕ, ◌∙◌, sym, cond, List, ltb, eqb, ltb-false, eqb-true, eqb-false, by_cases}
use Rattle.base.specs.Prelude.{add_assoc, dec_le, arith}
use Rattle.model_laws.specs.Types.{Phase, Write, Scan, Adopt, Compare, Waiting}
use Rattle.model.specs.Step.{process}
use Rattle.model_rule.specs.Event.{Event, Proposed, Written}
use Rattle.theory_board.specs.Epoch.{top, last, PassedBy}
use Rattle.theory_board.specs.Lawful.{Lawful, lawful_at, blank_above}
use Rattle.base.specs.Bools.{cond_cases}
use Rattle.theory_board.specs.Past.{past_before, happened_past}
use Rattle.theory_board.specs.Registers.{epoch_top, wrote_round, written_fresh, last_written}
use Rattle.theory_board.specs.Place.{Walked, Placed, RecordPlaced}

-- A round that is over was passed if no higher round was written.
walked_passed : {W p r v : ℕ} {h : List Event} → Walked W p r v h → top h ≡ r → PassedBy W p r v h
walked_passed x e = record { written = written_fresh x.written (omega arith); compared = x.compared e }

-- The next register is blank: the process will write to it.
write_placed : {W n : ℕ} (p r v : ℕ) {h : List Event} → Lawful W n h → Placed W p r v Waiting h → last h (r + 1) ≡ 0 →
    Placed W p (r + 1) v Write h
write_placed p r v {h} l a z =
    let low : top h < r + 1 = blank_above l (r + 1) (omega arith) z in
    let reached : r ≤ top h = by_cases (dec_le 1 r) (λ y. wrote_round (a y).written.1) (λ y. omega arith) in (
      omega arith,
      λ r' v' e' w. omega (arith, epoch_top w),
      λ i e b.
          let same : r ≡ i = omega arith in
          rw same at (walked_passed (a (omega arith)) (omega arith)),
    )

-- The scan goes on above a register that is found filled, or ends at the limit.
scan_on : (W L p r v k x : ℕ) (h : List Event) → x ≡ last h k → (x ≡ 0 → ⊥) → Placed W p r v (cond (ltb k L) (Scan (k + 1)) (Adopt L)) h
scan_on W L p r v k x h e some =
    let low : k ≤ top h = wrote_round (last_written h k (omega arith)).1 in
    cond_cases (λ (φ : Phase). Placed W p r v φ h) (ltb k L) (λ t. omega arith) (λ t. omega (arith, ltb-false k L t))

-- A step from waiting, by the register of the next round.
pub leads_placed : {W n : ℕ} (L p r v x : ℕ) {h : List Event} → Lawful W n h → Placed W p r v Waiting h → x ≡ last h (r + 1) →
    Placed W p (r + 1) v (cond (eqb x 0) Write (cond (ltb (r + 1) L) (Scan (r + 2)) (Adopt L))) h
leads_placed {W} L p r v x {h} l a e =
    cond_cases (λ (φ : Phase). Placed W p (r + 1) v φ h) (eqb x 0)
    (λ t. write_placed p r v l a (sym e ∙ eqb-true x 0 t))
    (λ t. rw (← (add_assoc r 1 1)) (scan_on W L p (r + 1) v (r + 1) x h e (eqb-false x 0 t)))

-- A step of the scan.
pub scan_placed : (W L p r v k x : ℕ) (h : List Event) → Placed W p r v (Scan k) h → x ≡ last h k →
    Placed W p r v (cond (eqb x 0) (Adopt (k - 1)) (cond (ltb k L) (Scan (k + 1)) (Adopt L))) h
scan_placed W L p r v k x h a e =
    cond_cases (λ (φ : Phase). Placed W p r v φ h) (eqb x 0)
    (λ t. omega arith)
    (λ t. scan_on W L p r v k x h e (eqb-false x 0 t))

-- A process has walked nothing of a round in which its value was just written or adopted.
pub walked_none : {p r v : ℕ} {h : List Event} → Written r v h → Walked 0 p r v h
walked_none w = record { written = w; compared = λ e j a b c. absurd (omega arith) }

-- A step that adopts the value of a filled register.
pub adopt_placed : {W n : ℕ} (p r v k x : ℕ) {h : List Event} → 1 ≤ k → Lawful W n h → Placed W p r v (Adopt k) h → x ≡ last h k →
    RecordPlaced W p (process (Compare 0) k (cond (eqb x 0) v x)) h
adopt_placed p r v k x {h} b l a e =
    cond_cases (λ (u : ℕ). Proposed u h × Walked 0 p k u h) (eqb x 0)
    (λ t. absurd (omega (arith, blank_above l k b (sym e ∙ eqb-true x 0 t))))
    (λ t.
    let some = eqb-false x 0 t in
    let w : Written k (last h k) h = last_written h k (omega arith) in
    rw e (happened_past (past_before w.1.past) (lawful_at l w.1.past).value, walked_none w))
