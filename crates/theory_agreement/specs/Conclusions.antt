-- From the invariant to the rule, where n is below the threshold of the window.
use Rattle.std.specs.Prelude.{◌*◌, ◌≤◌, ◌<◌, ◌≡◌, ◌∷◌, ◌⊎◌}
use Rattle.base.specs.Prelude.{ℕ, arith, ℕ_discrete, subst, false, List, inl, inr, ⊎_elim}
use Rattle.model_laws.specs.Types.{Phase, Session}
use Rattle.model.specs.Board.{process_at}
use Rattle.model_rule.specs.Event.{Event, proposal, write, flag, commit, decision, here, there, Committed}
use Rattle.model_rule.specs.Rule.{ProposedFirst, Rule}
use Rattle.model_rule.specs.Safe.{threshold}
use Rattle.theory_board.specs.Past.{past_none, happened_older}
use Rattle.theory_board.specs.Lawful.{EventLawful, Lawful, none, also}
use Rattle.theory_count.specs.Grid.{wide_below}
use Rattle.theory_count.specs.Agreed.{agreed, agreed_commits}
use Rattle.theory_board.specs.Place.{Placed}
use Rattle.theory_board.specs.Start.{decided_committed}
use Rattle.theory_board.specs.Invariant.{Invariant}
use Rattle.theory_board.specs.Reached.{Reached}

-- v was never committed.
abbrev Never : (v : ℕ) → List Event → Type 0
Never v h = (r : ℕ) → Committed r v h → ⊥

-- The newest event, where v was not committed before it: a commit of v is the first, and v was proposed before it.
first_or_never : (W n v : ℕ) (x : Event) (h : List Event) → EventLawful W n x h → Never v h → ProposedFirst v (x ∷ h) ⊎ Never v (x ∷ h)
first_or_never W n v (proposal w) h k never = inr (λ r c. never r (happened_older (λ e. let z : ◌≡◌ {A = ℕ} 0 1 = cc in omega arith) c))
first_or_never W n v (write p r w) h k never = inr (λ r c. never r (happened_older (λ e. let z : ◌≡◌ {A = ℕ} 0 1 = cc in omega arith) c))
first_or_never W n v (flag j) h k never = inr (λ r c. never r (happened_older (λ e. let z : ◌≡◌ {A = ℕ} 0 1 = cc in omega arith) c))
first_or_never W n v (commit r w) h k never =
    elim (ℕ_discrete w v) [
      | yes e ↦ inl (record { round = r; before = h; commits = rw e here; first = never; proposed = rw e at k.proposed })
      | no ne ↦ inr (λ r c. never r (happened_older (λ e. ne (cc)) c))
    ]
first_or_never W n v (decision p w) h k never = inr (λ r c. never r (happened_older (λ e. let z : ◌≡◌ {A = ℕ} 0 1 = cc in omega arith) c))

-- Of the commits of v one is the first, if there are any.
first_commit : {W n : ℕ} (v : ℕ) {h : List Event} → Lawful W n h → ProposedFirst v h ⊎ Never v h
first_commit v none = inr (λ r c. past_none c.past)
first_commit {W} {n} v (also {x = x} {h = h} l k) =
    ⊎_elim
    (λ f. inl (record { round = f.round; before = f.before; commits = there f.commits; first = f.first; proposed = f.proposed }))
    (first_or_never W n v x h k)
    (first_commit v l)

-- The rule holds of every session and past with the invariant, where the window is wide enough.
invariant_rule : {W : ℕ} {s : Session} {h : List Event} → Invariant W s h → 2 ≤ W → s.n < threshold W → Rule s h
invariant_rule {W} {s} {h} i wide few =
    let l = i.lawful in
    record {
      holds = λ p v d. (i.stands p).decided v d;
      looked =
          λ p v d.
          let q = process_at s p in
          rw (← d.1) (subst (λ (φ : Phase). Placed W p q.round q.estimate φ h) d.0 ((i.stands p).placed (rw d.0)).1);
      agreement = λ p q u v d e. agreed_commits W s.n h wide few l (decided_committed l d).1 (decided_committed l e).1;
      validity =
          λ p v d.
          let c = decided_committed l d in
          ⊎_elim (λ f. f) (λ never. absurd (never c.0 c.1)) (first_commit v l);
      commitment = λ R r u v. agreed W s.n h wide few l;
    }

-- The rule of every session that the machine reached.
pub reached_below : {W n L : ℕ} {s : Session} {h : List Event} → 2 ≤ W → n < threshold W → Reached false W n L s h → Rule s h
reached_below wide few i = invariant_rule i.invariant wide (rw i.size few)

pub reached_rule : {W n L : ℕ} {s : Session} {h : List Event} → 2 ≤ W → 4 * n ≤ W * W → Reached false W n L s h → Rule s h
reached_rule {W} {n} wide square i = reached_below wide (wide_below W n square) i
