-- After a close the proposals stand (document 02, wish 10): the closed mark stays, and where it is set no proposal is accepted.
use Rattle.std.specs.Prelude.{◌≡◌, ◌∷◌, ◌++◌}
use Rattle.base.specs.Prelude.{ℕ, suc, zero, refl, sym, ◌∙◌, ap, subst, true, true≢false, List, []}
use Rattle.model_laws.specs.Types.{Phase, Idle, Waiting, Write, Scan, Adopt, Compare, Flag, CheckMark, CheckValue, Commit, Exhausted}
use Rattle.model_laws.specs.Types.{Crashed, Decided, HasCommitted, HasAdopted, Session, Counts, Operation, Propose, Step, Learn, Crash}
use Rattle.model_laws.specs.Types.{Command, acts, closes}
use Rattle.model.specs.Board.{process_at}
use Rattle.model.specs.Refusal.{refusal, tests, stepped}
use Rattle.model.specs.Machine.{after, counts_after, answered, perform, execute}
use Rattle.model_laws.specs.Accepted.{accepted}
use Rattle.model_laws.specs.Operations.{after_same}
use Rattle.model_rule.specs.Event.{Event, proposal, write, flag, commit, decision, step_events, look_events, command_events, proposals}
use Rattle.model_rule.specs.Event.{Past, here, there, Proposed}
use Rattle.model_rule.specs.System.{inputs, if_accepted, machine, past}
use Rattle.model_rule.specs.Calls.{SessionCall, sessions}
use Rattle.model_rule.specs.Rule.{ProposalsStand}

-- ---- the closed mark

-- No command opens a session again.
stays_closed : (W : ℕ) (s : Session) (c : Counts) (x : Command) → s.closed ≡ true → (execute W s c x).session.closed ≡ true
unfolding execute perform answered
stays_closed W s c (acts o) e = go (refusal (tests s c o))
  where
    go : (k : ℕ) → (stepped k s (after W s o) c (counts_after s c o)).session.closed ≡ true
    go zero = (after_same W s o).2 ∙ e
    go (suc k) = e
stays_closed W s c closes e = refl

-- ---- what is proposed

step_proposals : (p r v : ℕ) (φ : Phase) (h : List Event) → proposals (step_events p r v φ ++ h) ≡ proposals h
step_proposals p r v Idle h = refl
step_proposals p r v Waiting h = refl
step_proposals p r v Write h = refl
step_proposals p r v (Scan k) h = refl
step_proposals p r v (Adopt k) h = refl
step_proposals p r v (Compare i) h = refl
step_proposals p r v (Flag i) h = refl
step_proposals p r v (CheckMark i) h = refl
step_proposals p r v (CheckValue i) h = refl
step_proposals p r v Commit h = refl
step_proposals p r v Exhausted h = refl
step_proposals p r v Crashed h = refl
step_proposals p r v Decided h = refl
step_proposals p r v HasCommitted h = refl
step_proposals p r v HasAdopted h = refl

look_proposals : (p x : ℕ) (h : List Event) → proposals (look_events p x ++ h) ≡ proposals h
look_proposals p zero h = refl
look_proposals p (suc x) h = refl

-- What is listed was proposed, and the other way round. (A number stands in a list where some older part begins with it: `Past`.)
proposed_listed : {v : ℕ} {h' h : List Event} → Past (proposal v ∷ h') h → (vs : List ℕ) × Past (v ∷ vs) (proposals h)
proposed_listed here = (_, here)
proposed_listed (there {e = proposal u} k) = let x = proposed_listed k in (x.0, there x.1)
proposed_listed (there {e = write p r u} k) = proposed_listed k
proposed_listed (there {e = flag r} k) = proposed_listed k
proposed_listed (there {e = commit r u} k) = proposed_listed k
proposed_listed (there {e = decision p u} k) = proposed_listed k

older : {v : ℕ} {e : Event} {h : List Event} → Proposed v h → Proposed v (e ∷ h)
older a = record { before = a.before; past = there a.past }

listed_proposed : {v : ℕ} {vs : List ℕ} (h : List Event) → Past (v ∷ vs) (proposals h) → Proposed v h
listed_proposed [] k = elim k [ ]
listed_proposed (proposal u ∷ h) here = record { before = h; past = here }
listed_proposed (proposal u ∷ h) (there k) = older (listed_proposed h k)
listed_proposed (write p r u ∷ h) k = older (listed_proposed h k)
listed_proposed (flag r ∷ h) k = older (listed_proposed h k)
listed_proposed (commit r u ∷ h) k = older (listed_proposed h k)
listed_proposed (decision p u ∷ h) k = older (listed_proposed h k)

module _ (W : ℕ) (s : Session) (c : Counts) (h : List Event) (closed : s.closed ≡ true) where
  -- No command to a closed session adds a proposal.
  none_proposed : (x : Command) → proposals (if_accepted (execute W s c x).code (command_events s x) ++ h) ≡ proposals h
  unfolding execute perform answered
  none_proposed closes = refl
  none_proposed (acts o) = go o (refusal (tests s c o)) refl
    where
      go : (o : Operation) (k : ℕ) → refusal (tests s c o) ≡ k →
          proposals (if_accepted (stepped k s (after W s o) c (counts_after s c o)).code (command_events s (acts o)) ++ h) ≡ proposals h
      go (Propose p v) zero e = absurd (true≢false (sym closed ∙ (accepted s c (Propose p v) e).own.1.1.0))
      go (Step p leader) zero e = let q = process_at s p in step_proposals p q.round q.estimate q.phase h
      go (Learn p) zero e = look_proposals p s.decision h
      go (Crash p) zero e = refl
      go o (suc k) e = refl

-- ---- a close in a list of calls

module _ (W : ℕ) (start : Session) where
  since : {c : SessionCall} {older cs : List SessionCall} → Past (c ∷ older) cs → c.input.operation ≡ closes →
      ((machine (sessions W) start (inputs cs)).closed ≡ true)
      × (proposals (past (sessions W) start (inputs cs)) ≡ proposals (past (sessions W) start (inputs older)))
  unfolding execute
  since {c} {older} here close =
      let m = machine (sessions W) start (inputs older) in
      let h = past (sessions W) start (inputs older) in (
        ap (λ (x : Command). (execute W m c.input.counts x).session.closed) close,
        ap (λ (x : Command). proposals (if_accepted (execute W m c.input.counts x).code (command_events m x) ++ h)) close,
      )
  since (there {e = d} later) close =
      let k = since later close in (
        stays_closed W _ d.input.counts d.input.operation k.0,
        none_proposed W _ d.input.counts _ k.0 d.input.operation ∙ k.1,
      )

  pub proposals_stand : {cs : List SessionCall} → ProposalsStand W start cs
  proposals_stand c older at close = (since at close).1

  -- In the request's own words, of the set: what was proposed by the end was proposed before the close.
  pub proposed_before : {c : SessionCall} {older cs : List SessionCall} → Past (c ∷ older) cs → c.input.operation ≡ closes → (v : ℕ) →
      Proposed v (past (sessions W) start (inputs cs)) → Proposed v (past (sessions W) start (inputs older))
  proposed_before at close v a =
      let x = proposed_listed a.past in listed_proposed _ (subst (Past (v ∷ x.0)) (since at close).1 x.1)
