-- What is true of the past of every run: each event rests on what was before it.
use Rattle.std.specs.Prelude.{◌+◌, ◌≤◌, ◌<◌, ◌≡◌, ◌∷◌}
use Rattle.base.specs.Prelude.{ℕ, suc, max, List, [], inl, inr, eqb, eqb-false, arith}
use Rattle.base.specs.Bools.{cond_cases}
use Rattle.model_rule.specs.Event.{Event, proposal, write, flag, commit, decision, Past, Proposed, Written, Committed}
use Rattle.model_rule.specs.Event.Past.{here, there}
use Rattle.theory_board.specs.Epoch.{top, last, Wrote, Flagged, PassedBy}
use Rattle.theory_board.specs.Past.{past_before, past_total, happened_past, in_cases}
use Rattle.theory_board.specs.Registers.{top_le, wrote_round}

-- What a write of v to register r by process p rests on: p is one of the n, its earlier writes were in epochs below r, and it
-- passed the round before r.
pub record WriteLawful (W n p r v : ℕ) (h : List Event) : Type 0 where
  pub some : 0 < v
  pub reached : r ≤ top h + 1
  pub writer : p < n
  pub round : 1 ≤ r
  pub value : Proposed v h
  pub ordered : (r' v' e' : ℕ) → Wrote p r' v' e' h → e' < r
  pub passed : (i : ℕ) → r ≡ suc i → 1 ≤ i → PassedBy W p i v h

-- Of the last m rounds up to r none was flagged before epoch r.
abbrev pub Unflagged : (m r : ℕ) → List Event → Type 0
Unflagged m r h = (j e : ℕ) → j ≤ r → r < j + m → Flagged j e h → r ≤ e

-- What a commit of v in round r rests on: v was written to register r, no round of the window was flagged before epoch r, and v
-- had been proposed.
pub record CommitLawful (W r v : ℕ) (h : List Event) : Type 0 where
  pub window : W ≤ r
  pub written : Written r v h
  pub unflagged : Unflagged W r h
  pub proposed : Proposed v h

-- v was committed, in some round.
abbrev pub IsCommitted : (v : ℕ) → List Event → Type 0
IsCommitted v h = (r : ℕ) × Committed r v h

-- What an event rests on.
abbrev pub EventLawful : (W n : ℕ) → Event → List Event → Type 0
EventLawful W n (proposal v) h = Unit {0}
EventLawful W n (write p r v) h = WriteLawful W n p r v h
EventLawful W n (flag j) h = (1 ≤ j) × (j ≤ top h)
EventLawful W n (commit r v) h = CommitLawful W r v h
EventLawful W n (decision p v) h = IsCommitted v h

-- The past of a run of n processes with window W.
pub data Lawful (W n : ℕ) : List Event → Type 0 where
  none : Lawful W n []
  also : {x : Event} {h : List Event} → Lawful W n h → EventLawful W n x h → Lawful W n (x ∷ h)

-- Each event of a lawful past is lawful.
pub lawful_at : {W n : ℕ} {x : Event} {b h : List Event} → Lawful W n h → Past (x ∷ b) h → EventLawful W n x b
lawful_at none x = elim x [ ]
lawful_at (also l k) here = k
lawful_at (also l k) (there q) = lawful_at l q

-- A blank register is above the highest written round.
pub blank_above : {W n : ℕ} {h : List Event} → Lawful W n h → (j : ℕ) → 1 ≤ j → last h j ≡ 0 → top h < j
blank_above none j a z = a
blank_above (also {x = proposal v} l k) j a z = blank_above l j a z
blank_above (also {x = write p r v} {h = h} l k) j a z =
    cond_cases (λ (u : ℕ). u ≡ 0 → max r (top h) < j) (eqb r j)
    (λ t e. absurd (omega (arith, k.some)))
    (λ t e. omega (arith, k.reached, eqb-false r j t, blank_above l j a e))
    z
blank_above (also {x = flag i} l k) j a z = blank_above l j a z
blank_above (also {x = commit r v} l k) j a z = blank_above l j a z
blank_above (also {x = decision p v} l k) j a z = blank_above l j a z

-- A commit stays lawful: a later flag is of no lower epoch.
pub commit_lawful : {W n r v : ℕ} {h : List Event} → Lawful W n h → Committed r v h → CommitLawful W r v h
commit_lawful l c =
    let k = lawful_at l c.past in
    let before = past_before c.past in
    record {
      window = k.window;
      written = (k.written.0, happened_past before k.written.1);
      unflagged =
          λ j e low inside f.
          elim (past_total f.past c.past) [
            | inl older ↦
                elim (in_cases (record { before = f.before; past = older; epoch = f.epoch })) [
                  | inl same ↦ let z : ◌≡◌ {A = ℕ} 0 1 = cc in absurd (omega arith)
                  | inr flagged ↦ k.unflagged j e low inside flagged
                ]
            | inr newer ↦ omega (arith, f.epoch, top_le newer, wrote_round k.written.1)
          ];
      proposed = happened_past before k.proposed;
    }
