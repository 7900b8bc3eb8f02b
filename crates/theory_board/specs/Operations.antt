-- Each accepted operation of the machine, at any window, keeps the invariant: the one lemma, applied.
use Rattle.std.specs.Prelude.{◌-◌, ◌≡◌, ◌∷◌, ◌++◌}
use Rattle.base.specs.Prelude.{ℕ, zero, suc, refl, sym, ◌∙◌, Bool, true, false, true≢false, List, [], not, not-false}
use Rattle.base.specs.Prelude.{arith}
use Rattle.model_laws.specs.Types.{Phase, Idle, Waiting, Write, Scan, Adopt, Compare, Flag, CheckMark, CheckValue, Commit, Exhausted}
use Rattle.model_laws.specs.Types.{Crashed, Decided, HasCommitted, HasAdopted, Session, Counts, Operation, Propose, Step, Learn, Crash}
use Rattle.model.specs.Board.{process_at}
use Rattle.model.specs.Step.{phase_access, access, found, stored}
use Rattle.model.specs.Refusal.{status, is_outside, is_gone}
use Rattle.model.specs.Machine.{access_of, becomes, after, process_of}
use Rattle.model.specs.Sound.{sound_process}
use Rattle.model_laws.specs.Phases.{process_facts, inside_some, outside_start}
use Rattle.model_laws.specs.Accepted.{Accepted}
use Rattle.model_laws.specs.Ranges.{InRange}
use Rattle.model_laws.specs.WaitingRules.{waiting_cases}
use Rattle.model_laws.specs.Operations.{operation_range}
use Rattle.model_rule.specs.Event.{Event, proposal, step_events, look_events, events_of}
use Rattle.theory_board.specs.Lawful.{also}
use Rattle.theory_board.specs.Step.{step_lawful, step_spares, step_stands}
use Rattle.theory_board.specs.Start.{proposal_stands, crash_stands, learnt_stands}
use Rattle.theory_board.specs.Matches.{Matches, Long, silent_matches, write_matches, flag_matches, commit_matches, found_matches}
use Rattle.theory_board.specs.Invariant.{Invariant, turn_invariant}

-- ---- the registers that an operation leaves are those of the past with its event

pub step_events_law : {s : Session} {h : List Event} (p r v : ℕ) (φ : Phase) (leader : Bool) → Long s → Matches s h →
    InRange s.limit (phase_access s.limit r φ leader) →
    let t = stored s (phase_access s.limit r φ leader) v in Long t × Matches t (step_events p r v φ ++ h)
unfolding phase_access stored
step_events_law p r v Idle leader l k ok = (l, k)
step_events_law {s} {h} p r v Waiting leader l k ok =
    waiting_cases (λ a. Long (stored s a v) × Matches (stored s a v) h) s.limit r leader (λ e. (l, k)) (l, k) (λ b. (l, k))
step_events_law p r v Write leader l k ok = write_matches l k p r v ok
step_events_law p r v (Scan j) leader l k ok = (l, k)
step_events_law p r v (Adopt j) leader l k ok = (l, k)
step_events_law p r v (Compare i) leader l k ok = (l, k)
step_events_law p r v (Flag i) leader l k ok = flag_matches l k (r - i) v ok
step_events_law p r v (CheckMark i) leader l k ok = (l, k)
step_events_law p r v (CheckValue i) leader l k ok = (l, k)
step_events_law p r v Commit leader l k ok = commit_matches l k r v
step_events_law p r v Exhausted leader l k ok = (l, k)
step_events_law p r v Crashed leader l k ok = (l, k)
step_events_law p r v Decided leader l k ok = (l, k)
step_events_law p r v HasCommitted leader l k ok = (l, k)
step_events_law p r v HasAdopted leader l k ok = (l, k)

look_matches : {s : Session} {h : List Event} (p x : ℕ) → Matches s h → Matches s (look_events p x ++ h)
look_matches p zero k = k
look_matches p (suc v) k = silent_matches (λ j. refl) (λ j e. let z : ◌≡◌ {A = ℕ} 0 1 = cc in omega arith) k

-- ---- what an accepted operation knows of its process

-- It is not decided: a test of a decided process does not hold of it.
pub not_decided : {φ : Phase} (test : Phase → Bool) → test Decided ≡ true → test φ ≡ false → φ ≡ Decided → ⊥
not_decided test holds fails e = true≢false (sym holds ∙ (rw e at fails))

-- ---- an accepted operation

-- The process that it names is sound, as one of a session; of the others nothing is asked.
module _ {W : ℕ} {s : Session} {h : List Event} (i : Invariant W s h) (c : Counts) where
  pub operation_invariant : (o : Operation) → sound_process W s.limit (process_at s (process_of o)) ≡ true → Accepted s c o →
      Invariant W (after W s o) (events_of (process_at s (process_of o)) s.decision o ++ h)
  unfolding after access_of access becomes stored found
  operation_invariant (Propose p v) one a =
      let q = process_at s p in
      turn_invariant i p _ _ (proposal v ∷ []) a.below
      (i.long, silent_matches (λ j. refl) (λ j e. let z : ◌≡◌ {A = ℕ} 0 1 = cc in omega arith) i.matches)
      (also i.lawful tt)
      (λ o ne. (tt, tt))
      (proposal_stands (not_decided (λ φ. not (is_outside (status φ))) refl a.own.1.0) (i.stands p) v
      (outside_start W s.limit q.round q.phase (not-false _ a.own.1.0) (process_facts W s.limit q one).phase))
  operation_invariant (Step p leader) one a =
      let q = process_at s p in
      let inside = a.own.0 in
      let facts = process_facts W s.limit q one in
      let range = operation_range W s.limit q (Step p leader) one in
      turn_invariant i p _ _ (step_events p q.round q.estimate q.phase) a.below
      (step_events_law p q.round q.estimate q.phase leader i.long i.matches range)
      (step_lawful s.limit p q.round q.estimate q.phase a.below (inside_some facts inside) facts.phase i.lawful
      ((i.stands p).placed inside))
      (λ o ne. step_spares o p q.round q.estimate q.phase ne)
      (step_stands s.limit p q leader _ (not_decided (λ φ. is_gone (status φ)) refl a.own.1.0) inside facts.phase i.lawful
      (i.stands p) (found_matches s (access s.limit q leader) h range i.matches))
  operation_invariant (Learn p) one a =
      let look =
      learnt_stands (not_decided (λ φ. is_gone (status φ)) refl a.own.1.0) (i.stands p) i.lawful s.decision
      i.matches.decision in
      turn_invariant i p _ _ (look_events p s.decision) a.below (i.long, look_matches p s.decision i.matches) look.0
      look.1
      look.2
  operation_invariant (Crash p) one a =
      turn_invariant i p _ _ [] a.below (i.long, i.matches) i.lawful (λ o ne. tt)
      (crash_stands (not_decided (λ φ. is_gone (status φ)) refl a.own.1.0) (i.stands p) a.own.0)
