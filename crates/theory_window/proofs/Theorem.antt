-- Windows that are too short (document 02, wish 7), and which windows are safe for how many processes.
use Rattle.std.specs.Prelude.{◌+◌, ◌*◌, ◌-◌, ◌/◌, ◌≤◌, ◌<◌, ◌≡◌, ◌&&◌, ◌∷◌, ◌++◌}
use Rattle.base.specs.Prelude.{ℕ, suc, zero, arith, mul-le-mul, add-zero, add_assoc, refl, sym, ◌∙◌, ap}
use Rattle.base.specs.Prelude.{ap₂, subst, ℕ_discrete, dec_le, lt_of_not-le, Bool, true, cond, List, [], leb, ltb, le-leb}
use Rattle.base.specs.Bools.{and_left, and_right}
use Rattle.model_laws.specs.Types.{Limits, Session}
use Rattle.model.specs.Window.{window, root_up, root_from}
use Rattle.model.specs.Board.{UpToServer, opened, max_processes}
use Rattle.model.specs.Machine.{opening_for}
use Rattle.model.specs.Sound.{every}
use Rattle.model.specs.ReadOut.{holds}
use Rattle.model_laws.specs.Operations.{opening_accepted}
use Rattle.model_rule.specs.Event.{Event, commit, DecidedOn}
use Rattle.model_rule.specs.Calls.{sessions, RunWith}
use Rattle.model_rule.specs.Rule.{Rule, AgreementWithin}
use Rattle.model_rule.specs.Safe.{threshold, ExactWindows, TwoDecisions, DifferentDecisions}
use Rattle.model_rule_cases.specs.Play.{fed_by, played, played_append, Called, called, called_past, breaks_rule}
use Rattle.model_rule_cases.specs.Events.{occurs}
use Rattle.model_rule_cases.specs.Refuted.{written_later}
use Rattle.model_rule_cases.specs.Breaks.{differ_shows}
use Rattle.theory_agreement.specs.Theorem.{below_threshold}
use Rattle.theory_window.specs.Construction.{from, Plan, construction}
use Rattle.theory_window.specs.More.{grown, inside, Same, sessions_same}
use Rattle.theory_window.specs.Broken.{written_over, two_decisions, after_first, broken, all_broken}

-- ---- the list of a window, with more processes and more rounds

-- No rule allows a past in which 1 is committed in round W and 2 is written there.
never_over : (W : ℕ) (c : Plan) (s : Session) (h : List Event) → written_over W c h ≡ true → Rule s h → ⊥
unfolding written_over
never_over W c s h t =
    let committed = occurs (commit W 1) h in
    (written_later W 1 c.other W 2).refuted (and_left committed _ t, and_right committed _ t, le-leb W W (omega arith), refl)

grown_twice : (a b c : ℕ) (s : Session) → grown a c (grown 0 b s) ≡ grown a (b + c) s
grown_twice a b c s = rw (add-zero s.n, add_assoc s.limit b c) refl

module _ (most : Limits) (W n L : ℕ) (t : broken W ≡ true) (enough : threshold W ≤ n) (accepted : (opening_for most W n L).code ≡ 0) where
  abbrev start : Session
  start = (opening_for most W n L).session

  abbrev more : ℕ
  more = n - threshold W

  abbrev plan : Plan
  plan = construction W

  -- What is opened has so many processes and rounds more than the first part needs.
  opens : start ≡ grown more (L - W) (opened (threshold W) W)
  unfolding opened
  opens =
      let o = opening_accepted most W n L accepted in
      let size : n ≡ threshold W + more = omega arith in
      let rounds : L ≡ W + (L - W) = omega (arith, o.2) in
      o.4 ∙ ap₂ opened size rounds

  first_part : Same (sessions W) inside more (L - W) (opened (threshold W) W) [] plan.first (after_first W plan)
  unfolding broken
  first_part = sessions_same W _ _ _ _ _ _ t

  first_played : played (sessions W) start [] plan.first ≡ (grown more (L - W) first_part.left, first_part.past)
  first_played = ap (λ s. played (sessions W) s [] plan.first) opens ∙ first_part.played

  pub rule_broken : AgreementWithin most (λ m. W) n L → ⊥
  unfolding after_first
  rule_broken =
      let over = and_left (written_over W plan first_part.past) _ first_part.holds in
      breaks_rule most (λ m. W) n L plan.first accepted
      (λ s rule. never_over W plan s first_part.past over (subst (Rule s) (ap (λ x. x.1) first_played) rule))

  -- The second part, in 2W - 1 rounds or more.
  module _ (some : 1 ≤ W) (long : 2 * W - 1 ≤ L) where
    abbrev later : ℕ
    later = L - (2 * W - 1)

    second_part : Same (sessions W) inside more later (grown 0 (W - 1) first_part.left) first_part.past plan.second
        (λ s h. two_decisions W plan h)
    unfolding after_first
    second_part = sessions_same W _ _ _ _ _ _ (and_right (written_over W plan first_part.past) _ first_part.holds)

    resumes : grown more (L - W) first_part.left ≡ grown more later (grown 0 (W - 1) first_part.left)
    resumes = let rounds : L - W ≡ W - 1 + later = omega arith in rw rounds (sym (grown_twice more (W - 1) later first_part.left))

    both_parts : (played (sessions W) start [] (plan.first ++ plan.second)).1 ≡ second_part.past
    both_parts =
        ap (λ x. x.1)
        (played_append (sessions W) start [] plan.first plan.second
        ∙ ap (λ x. played (sessions W) x.0 x.1 plan.second) first_played
        ∙ ap (λ s. played (sessions W) s first_part.past plan.second) resumes
        ∙ second_part.played)

    pub decisions_differ : TwoDecisions most W n L
    unfolding two_decisions
    decisions_differ =
        let os = plan.first ++ plan.second in
        let c : Called (RunWith (λ m. W) start) (fed_by os []) = called (fed_by os []) in
        let same = sym (called_past (sessions W) start os c.calls c.same ∙ both_parts) in
        let d = differ_shows second_part.past _ _ second_part.holds in
        record {
          calls = c.calls;
          left = c.left;
          run = c.run;
          p = plan.one;
          q = plan.other;
          u = 1;
          v = 2;
          one = subst (DecidedOn plan.one 1) same d.0;
          other = subst (DecidedOn plan.other 2) same d.1;
          unlike = d.2;
        }

-- ---- the windows from 2 to 15

-- A test of all the numbers from k on holds of each.
pub every_from : (test : ℕ → Bool) (k length i : ℕ) → k ≤ i → i < k + length → every test (from k length) ≡ true → test i ≡ true
every_from test k zero i low high all = absurd (omega arith)
every_from test k (suc length) i low high all =
    elim (ℕ_discrete k i) [
      | yes e ↦ subst (λ (x : ℕ). test x ≡ true) e (and_left (test k) _ all)
      | no other ↦ every_from test (suc k) length i (omega arith) (omega arith) (and_right (test k) _ all)
    ]

-- A longer one would take more processes than a session has.
high_threshold : (W : ℕ) → 16 ≤ W → max_processes < threshold W
high_threshold W high =
    let half = W / 2 in
    let rest = W - half in
    let one : 8 ≤ rest = omega arith in
    let other : 8 ≤ half = omega arith in
    let product : 8 * 8 ≤ rest * half = mul-le-mul one other in
    omega arith

-- So a window from 2 on, with as many processes as its threshold, is one of those that the lists break.
pub too_short : (W n : ℕ) → 2 ≤ W → threshold W ≤ n → n ≤ max_processes → W ≤ 15
too_short W n least enough few = elim (dec_le W 15) [ yes low ↦ low | no high ↦ absurd (omega (arith, high_threshold W (omega arith))) ]

-- ---- from both sides

-- The processes of an accepted opening are no more than a session has.
is_broken : (most : Limits) → UpToServer most → (W n L : ℕ) → 2 ≤ W → (opening_for most W n L).code ≡ 0 → threshold W ≤ n → broken W ≡ true
is_broken most limits W n L least accepted enough =
    let few = (opening_accepted most W n L accepted).1 in
    every_from broken 2 14 W least (omega (arith, too_short W n least enough (omega (arith, limits.processes)))) all_broken

pub exact_windows : ExactWindows
exact_windows most limits W n L least accepted = (
  λ below. below_threshold (λ m. W) n L below most limits,
  λ rule.
      lt_of_not-le λ enough. rule_broken most W n L (is_broken most limits W n L least accepted enough) enough accepted rule,
)

pub different_decisions : DifferentDecisions
different_decisions most limits W n L least accepted enough long =
    decisions_differ most W n L (is_broken most limits W n L least accepted enough) enough accepted (omega arith) long

-- The smallest safe window for n from 2 to 64: for these n it is one less than the window in service, for every other it is the window in
-- service. (A window is safe exactly where n is below its threshold: `exact_windows`.)
abbrev shorter_too : List ℕ
shorter_too = 13 ∷ 17 ∷ 21 ∷ 26 ∷ 31 ∷ 32 ∷ 37 ∷ 38 ∷ 43 ∷ 44 ∷ 50 ∷ 51 ∷ 57 ∷ 58 ∷ 59 ∷ []

pub smallest_safe : every
    (λ n.
    let W = window n in
    cond (holds n shorter_too) (ltb n (threshold (W - 1)) && leb (threshold (W - 2)) n) (leb (threshold (W - 1)) n))
    (from 2 63) ≡ true
unfolding window root_up root_from
smallest_safe = refl
