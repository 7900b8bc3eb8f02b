-- Accepted proposals, house looks and crashes keep the invariant: they change the record of their worker, and no board.
use Rattle.std.specs.Prelude.{◌<◌, ◌≡◌, ◌∷◌, ◌++◌}
use Rattle.std.proofs.lemmas.List.{set-get_or}
use Rattle.base.specs.Prelude.{ℕ, suc, zero, arith, refl, sym, true, true≢false, List, [], eqb-false, not-false}
use Rattle.base.specs.Prelude.{ne_eqb, ⊎_elim}
use Rattle.model_laws.specs.Types.{Counts}
use Rattle.model.specs.Window.{window}
use Rattle.model.specs.Refusal.{status, is_outside}
use Rattle.model_laws.specs.Accepted.{NoneHolds}
use Rattle.model_rule.specs.Event.{Event, proposal, decision, look_events, here}
use Rattle.theory_board.specs.Past.{past_cons, happened_cases, happened_older}
use Rattle.model_house.specs.House.{no_worker, worker_at, ward_of, worker, with_worker}
use Rattle.model_house.specs.Machine.{proposes, learns, crashes, phase_of, worker_tests, house_learnt, house_after}
use Rattle.model_house.specs.Sound.{seats_fit}
use Rattle.theory_house.specs.Types.{ProposeWard, Stance, Idle, Working, Exhausted, Crashed, Decided, House}
use Rattle.theory_house.specs.Core.{HouseCommitted, unmoved, committed_grown, house_proposed}
use Rattle.theory_house.specs.Invariant.{ward_seat, poll_seat, Fits, memory, Held}
use Rattle.theory_house.specs.Store.{house_known}
use Rattle.theory_house.specs.Workers.{fits_next, next_held, quiet_held}

idle_is : (x : Stance) → is_outside (status (phase_of x)) ≡ true → x ≡ Idle
idle_is Idle e = refl
idle_is (Working x) e = absurd (true≢false (sym e))
idle_is Exhausted e = absurd (true≢false (sym e))
idle_is Crashed e = absurd (true≢false (sym e))
idle_is Decided e = absurd (true≢false (sym e))

module _ {h : House} {x : List Event} (i : Held h x) (p : ℕ) (low : p < h.n) (c : Counts) where
  abbrev fit : Fits (window h.n) (memory i.polls h.table x) (worker_at h p) (ward_seat h.wards h.sessions p)
      (poll_seat h.polls p) (ward_of h p)
  fit = i.worker p low

  pub proposal_held : (v : ℕ) → NoneHolds (worker_tests (phase_of (worker_at h p).stance) c (proposes p v)) →
      Held (house_after h c (proposes p v)) (proposal v ∷ x)
  unfolding house_after seats_fit
  proposal_held v own =
      let out = idle_is (worker_at h p).stance (not-false _ own.1.0) in
      let k = rw out at fit.knows in
      let known = house_known i.known (proposal v ∷ []) h.decision i.known.decision in
      quiet_held i p low (proposal v ∷ []) (worker (Working ProposeWard) 1 v) known.0 known.1 (λ j l other o l₁. (refl, refl))
      (record {
        start = omega arith;
        few = omega arith;
        some = λ t. omega (arith, eqb-false v 0 own.0);
        later = λ o from l. fit.later o (omega (arith, k.0, fit.start)) l;
        seats = rw k.0 at k.1;
        knows = (record { before = x; past = here }, rw k.0 at k.2);
      })
      (λ e. let z : ◌≡◌ {A = ℕ} 0 1 = cc in absurd (omega arith))
      (λ e. let z : ◌≡◌ {A = ℕ} 0 1 = cc in absurd (omega arith))
      (λ j u b k. ⊎_elim (λ e. let z : ◌≡◌ {A = ℕ} 0 1 = cc in absurd (omega arith)) (λ k. k) (past_cons k))

  -- "A crash .. changes no ward or poll seat."
  pub crash_held : NoneHolds (worker_tests (phase_of (worker_at h p).stance) c (crashes p)) → Held (house_after h c (crashes p)) x
  unfolding house_after seats_fit
  crash_held own =
      quiet_held i p low [] _ i.known unmoved (λ j l other o l₁. (refl, refl))
      (fits_next fit (fit.some own.0) Crashed (λ o from l. (refl, refl)) refl tt)
      (λ e. true≢false (rw e at own.1.0))
      (λ e. let z : ◌≡◌ {A = ℕ} 0 1 = cc in absurd (omega arith))
      (λ j u b k. k)

  -- A house look that finds v.
  found_held : (v : ℕ) → HouseCommitted (window h.n) (memory i.polls h.table x) v → 0 < v → ((worker_at h p).stance ≡ Decided → ⊥) →
      Held (with_worker h p (worker Decided (worker_at h p).outer v)) (decision p v ∷ x)
  unfolding seats_fit
  found_held v committed some was =
      let known = house_known i.known (decision p v ∷ []) h.decision i.known.decision in
      next_held i p low (decision p v ∷ []) _ known.0 known.1 (λ j l other o l₁. (refl, refl))
      (fits_next fit some Decided (λ o from l. (refl, refl)) refl tt)
      (record {
        holds = λ u k. ⊎_elim (λ e. (refl, cc)) (λ old. absurd (was ((i.told p).holds u old).0)) (happened_cases k);
        looked = λ e. record { before = x; past = here };
      })
      (λ j u other k. happened_older (λ e. other (cc)) k)
      (λ j u b k.
      ⊎_elim
      (λ e.
      let eu : u ≡ v = cc in
      let eb : b ≡ x = cc in
      rw (eu, eb) (house_proposed i.known committed, committed_grown i.known known.1 committed))
      (λ old. let r = i.rests j u b old in (r.0, committed_grown i.known known.1 r.1))
      (past_cons k))

  -- "A house look at the house register .. ends it as decided if filled."
  pub look_held : NoneHolds (worker_tests (phase_of (worker_at h p).stance) c (learns p)) →
      Held (house_after h c (learns p)) (look_events p h.decision ++ x)
  unfolding house_after
  look_held own = go h.decision refl
    where
      go : (d : ℕ) → h.decision ≡ d → Held (with_worker h p (house_learnt (worker_at h p) d)) (look_events p d ++ x)
      go zero e = rw (set-get_or h.workers p no_worker) i
      go (suc d) e =
          rw (ne_eqb (suc d) 0 (λ z. omega arith))
          (found_held (suc d) (⊎_elim (λ z. absurd (omega arith)) (λ k. rw e at k) i.known.decision) (omega arith)
          (λ e. true≢false (rw e at own.1.0)))
