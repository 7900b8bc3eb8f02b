-- For each part of the rule of polls: what a list of calls and the poll after it may show, by computation, and that the rule is then false
-- of them (as `Refuted`, of sessions).
use Rattle.std.specs.Prelude.{◌≡◌, ◌&&◌, ◌∷◌, ◌++◌}
use Rattle.base.specs.Prelude.{ℕ, zero, suc, refl, sym, ◌∙◌, Bool, true, false, true≢false, cond, List, []}
use Rattle.base.specs.Prelude.{ltb, eqb, ltb-true, ltb-false, eqb-true, eq-eqb, arith}
use Rattle.base.specs.Bools.{and_left, and_right, cond_cases}
use Rattle.model.specs.declared.Status.TheVariants.{Active}
use Rattle.model.specs.declared.Session.{Session}
use Rattle.model.specs.Board.{process_at}
use Rattle.model.specs.Refusal.{status}
use Rattle.model.specs.Sound.{every}
use Rattle.model_poll.specs.declared.Answer.{Answer}
use Rattle.model_poll.specs.declared.Answer.TheVariants.{Pending, Commits, Adopts}
use Rattle.model_poll.specs.Turn.{answer_of, Carries, pass_turns}
use Rattle.model_poll.specs.Machine.{PollOperation, proposes, turns, crashes}
use Rattle.model_rule.specs.Event.{Event, proposal, write, flag, commit, decision, Past, here, there}
use Rattle.model_rule.specs.System.{inputs, machine, events, past}
use Rattle.model_rule.specs.PollCalls.{polls, PollCall, is_turn_of, turns_of}
use Rattle.model_rule.specs.PollRule.{Gave, PollRule}
use Rattle.model_rule_cases.specs.Events.{occurs, past_occurs}
use Rattle.model_rule_cases.specs.Refuted.{unlike}

-- ---- the answers that the calls gave

-- An answer as two numbers, the first of which says its kind, and back.
abbrev numbers : Answer → ℕ × ℕ
numbers Pending = (0, 0)
numbers (Commits v) = (1, v)
numbers (Adopts v) = (2, v)

abbrev answer : (kind v : ℕ) → Answer
answer zero v = Pending
answer (suc zero) v = Commits v
answer (suc (suc k)) v = Adopts v

back : (a : Answer) → answer (numbers a).0 (numbers a).1 ≡ a
back Pending = refl
back (Commits v) = refl
back (Adopts v) = refl

-- Whether b is the answer a.
abbrev pub is_answer : (a b : Answer) → Bool
is_answer a b = eqb (numbers b).0 (numbers a).0 && eqb (numbers b).1 (numbers a).1

pub answer_only : (a b : Answer) → is_answer a b ≡ true → b ≡ a
answer_only a b t =
    let k = numbers a in
    let l = numbers b in
    let kind = eqb l.0 k.0 in
    let value = eqb l.1 k.1 in
    sym (back b) ∙ rw (eqb-true l.0 k.0 (and_left kind value t), eqb-true l.1 k.1 (and_right kind value t)) (back a)

pub answer_itself : (a b : Answer) → b ≡ a → is_answer a b ≡ true
answer_itself a b e = rw (e, eq-eqb (numbers a).0 (numbers a).0 refl, eq-eqb (numbers a).1 (numbers a).1 refl) refl

-- Whether one of the calls is a turn of process p that gave the answer a.
abbrev pub gave : (p : ℕ) (a : Answer) → PollCall → Bool
gave p a c = is_turn_of p c.input.operation && is_answer a c.answer.answer

abbrev pub gives : (p : ℕ) (a : Answer) → List PollCall → Bool
gives p a [] = false
gives p a (c ∷ cs) = cond (gave p a c) true (gives p a cs)

turn_of_law : (p : ℕ) (o : PollOperation) → is_turn_of p o ≡ true → o ≡ turns p
turn_of_law p (proposes o v) t = absurd (true≢false (sym t))
turn_of_law p (turns o) t = rw (eqb-true o p t) refl
turn_of_law p (crashes o) t = absurd (true≢false (sym t))

pub gives_gave : (p : ℕ) (a : Answer) (cs : List PollCall) → gives p a cs ≡ true → Gave p a cs
gives_gave p a [] = λ t. absurd (true≢false (sym t))
gives_gave p a (c ∷ cs) =
    cond_cases (λ (b : Bool). b ≡ true → Gave p a (c ∷ cs)) (gave p a c)
    (λ t u.
    let own = is_turn_of p c.input.operation in
    let same = is_answer a c.answer.answer in
    record {
      turn = c;
      older = cs;
      stood = here;
      own = turn_of_law p c.input.operation (and_left own same t);
      answer = answer_only a c.answer.answer (and_right own same t);
    })
    (λ t u.
    let g = gives_gave p a cs u in
    record { turn = g.turn; older = g.older; stood = there g.stood; own = g.own; answer = g.answer })

pub gave_gives : (p : ℕ) (a : Answer) {cs : List PollCall} → Gave p a cs → gives p a cs ≡ true
gave_gives p a g = go g.stood
  where
    go : {cs : List PollCall} → Past (g.turn ∷ g.older) cs → gives p a cs ≡ true
    go here = rw (g.own, eq-eqb p p refl, answer_itself a g.turn.answer.answer g.answer) refl
    go (there {e = c} {h = cs} k) = cond_cases (λ (b : Bool). b ≡ true) (gave p a c) (λ t. refl) (λ t. go k)

-- ---- what was proposed

-- Whether an event is no proposal of another number.
abbrev no_other : (v : ℕ) → Event → Bool
no_other v (proposal w) = eqb w v
no_other v (write p r u) = true
no_other v (flag r) = true
no_other v (commit r u) = true
no_other v (decision p u) = true

-- Whether nothing but v was proposed.
abbrev pub only_proposed : (v : ℕ) → List Event → Bool
only_proposed v h = every (no_other v) h

pub only_proposed_law : (v w : ℕ) {h' h : List Event} → only_proposed v h ≡ true → Past (proposal w ∷ h') h → w ≡ v
only_proposed_law v w t here = eqb-true w v (and_left (eqb w v) _ t)
only_proposed_law v w t (there {e = e} k) = only_proposed_law v w (and_right (no_other v e) _ t) k

-- What was proposed before a call was proposed.
added : (es : List Event) {h' h : List Event} → Past h' h → Past h' (es ++ h)
added [] k = k
added (e ∷ es) k = there (added es k)

pub older_past : (W : ℕ) (start : Session) {c : PollCall} {older cs : List PollCall} {h : List Event} → Past (c ∷ older) cs →
    Past h (past (polls W) start (inputs older)) → Past h (past (polls W) start (inputs cs))
older_past W start {c = c} {older = older} here k = added (events (polls W) (machine (polls W) start (inputs older)) c.input) k
older_past W start (there {e = d} {h = cs} stood) k =
    added (events (polls W) (machine (polls W) start (inputs cs)) d.input) (older_past W start stood k)

-- ---- the parts

-- What is shown, and why no rule of polls allows it.
pub record PollRefutation : Type 1 where
  pub Shown : (W : ℕ) → (start : Session) → List PollCall → Session → Type 0
  pub refuted : {W : ℕ} {start : Session} {cs : List PollCall} {s : Session} → Shown W start cs s → PollRule W start cs s → ⊥

-- `validity`: process p answered a, which carries v, and v was never proposed.
abbrev pub not_proposed : (p : ℕ) (a : Answer) (v : ℕ) → PollRefutation
not_proposed p a v =
    record {
      Shown = λ W start cs s. (gives p a cs ≡ true) × Carries a v × (occurs (proposal v) (past (polls W) start (inputs cs)) ≡ false);
      refuted =
          λ {W} {start} {cs} {s} shown rule.
          let g = gives_gave p a cs shown.0 in
          let before = rule.validity v g.stood (rw g.answer shown.1) in
          true≢false (sym (past_occurs (proposal v) (older_past W start g.stood before.past)) ∙ shown.2);
    }

-- `agreement`: process p answered committed v, and process q answered a, which carries u, another number.
abbrev pub two_numbers : (p v q : ℕ) (a : Answer) (u : ℕ) → PollRefutation
two_numbers p v q a u =
    record {
      Shown = λ W start cs s. (gives p (Commits v) cs ≡ true) × (gives q a cs ≡ true) × Carries a u × (eqb u v ≡ false);
      refuted =
          λ {W} {start} {cs} {s} shown rule.
          let g = gives_gave p (Commits v) cs shown.0 in
          let f = gives_gave q a cs shown.1 in
          unlike shown.3 (rule.agreement u v g.stood f.stood g.answer (rw f.answer shown.2));
    }

-- `unanimity`: nothing but v was proposed, and process p answered a, which carries u and is not committed v.
abbrev pub not_committed : (p : ℕ) (a : Answer) (u v : ℕ) → PollRefutation
not_committed p a u v =
    record {
      Shown =
          λ W start cs s.
          (gives p a cs ≡ true) × Carries a u × (only_proposed v (past (polls W) start (inputs cs)) ≡ true)
          × (is_answer (Commits v) a ≡ false);
      refuted =
          λ {W} {start} {cs} {s} shown rule.
          let g = gives_gave p a cs shown.0 in
          let e = rule.unanimity u v (λ w h. only_proposed_law v w shown.2 h.past) g.stood (rw g.answer shown.1) in
          true≢false (sym (answer_itself (Commits v) a (sym g.answer ∙ e)) ∙ shown.3);
    }

-- `kept`: process p answered a, which carries v, and its record does not show it.
abbrev pub not_kept : (p : ℕ) (a : Answer) (v : ℕ) → PollRefutation
not_kept p a v =
    record {
      Shown = λ W start cs s. (gives p a cs ≡ true) × Carries a v × (is_answer a (answer_of (process_at s p)) ≡ false);
      refuted =
          λ {W} {start} {cs} {s} shown rule.
          true≢false (sym (answer_itself a (answer_of (process_at s p)) (rule.kept v (gives_gave p a cs shown.0) shown.1)) ∙ shown.2);
    }

-- `shown`: the record of process p shows an answer that carries v, and it gave none such.
abbrev pub not_given : (p v : ℕ) → PollRefutation
not_given p v =
    record {
      Shown = λ W start cs s. Carries (answer_of (process_at s p)) v × (gives p (answer_of (process_at s p)) cs ≡ false);
      refuted = λ {W} {start} {cs} {s} shown rule. true≢false
          (sym (gave_gives p (answer_of (process_at s p)) (rule.shown p v shown.0)) ∙ shown.1);
    }

-- `one_pass`: process p took k turns, more than one pass has.
abbrev pub too_many : (p k : ℕ) → PollRefutation
too_many p k =
    record {
      Shown = λ W start cs s. (turns_of p cs ≡ k) × (ltb (pass_turns W) k ≡ true);
      refuted = λ {W} {start} {cs} {s} shown rule. let few = rule.one_pass p in omega
          (arith, shown.0, ltb-true (pass_turns W) k shown.1);
    }

-- `working`: process p still works, and took k turns, as many as one pass has.
abbrev pub still_works : (p k : ℕ) → PollRefutation
still_works p k =
    record {
      Shown = λ W start cs s. (status (process_at s p).phase ≡ Active) × (turns_of p cs ≡ k) × (ltb k (pass_turns W) ≡ false);
      refuted =
          λ {W} {start} {cs} {s} shown rule.
          let fewer = rule.working p shown.0 in
          omega (arith, shown.1, ltb-false k (pass_turns W) shown.2);
    }
