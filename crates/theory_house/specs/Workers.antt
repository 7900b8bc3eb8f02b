-- The record of one worker changes, with what its operation stores: the others stay as they were, and the house is held.
use Rattle.std.specs.Prelude.{◌+◌, ◌-◌, ◌≤◌, ◌<◌, ◌≡◌, ◌∷◌, ◌++◌}
use Rattle.base.specs.Prelude.{ℕ, suc, arith, refl, sym, ◌∙◌, true, List, length, length-set, set}
use Rattle.base.specs.Prelude.{get_or-set_same, get_or-set_other, ℕ_discrete, ltb, ltb-true}
use Rattle.base.specs.Bools.{cond_cases}
use Rattle.model_laws.specs.Types.{Process, Session}
use Rattle.model.specs.Window.{window}
use Rattle.model_rule.specs.Event.{Event, decision, Past, DecidedOn}
use Rattle.theory_board.specs.Past.{happened_past}
use Rattle.model_house.specs.House.{no_worker, worker_at, ward_of, worker}
use Rattle.model_house.specs.Turn.{round_over}
use Rattle.model_house.specs.Sound.{seats_fit}
use Rattle.theory_house.specs.Types.{Place, ProposeWard, StepWard, LearnWard, WriteTable, ProposePoll, StepPoll, ReadTable}
use Rattle.theory_house.specs.Types.{WriteHouse, Stance, Idle, Working, Exhausted, Crashed, Decided, Worker, Table, House}
use Rattle.theory_house.specs.Core.{Memory, Begins, Known, Grown, begins_grown, committed_grown}
use Rattle.theory_house.specs.Invariant.{ward_seat, poll_seat, KnowsAt, Knows, Fits, Told, Rests, memory, Held}

-- ---- a worker that stands as it stood, while memory grows

module _ {n c d : ℕ} {S P : List Session} {g : List (List Event)} {m m' : Memory} (i : Known n c S P d g m) (more : Grown m m') where
  knows_at_grown : (x : Place) (r v w : ℕ) (b : Process) → KnowsAt (window n) m x r v w b → KnowsAt (window n) m' x r v w b
  knows_at_grown ProposeWard r v w b k = (begins_grown i more r v k.0, k.1)
  knows_at_grown StepWard r v w b k = k
  knows_at_grown LearnWard r v w b k = k
  knows_at_grown WriteTable r v w b k = k
  knows_at_grown ProposePoll r v w b k = λ z. k (sym (more.table r (w - 1) k) ∙ z)
  knows_at_grown StepPoll r v w b k = tt
  knows_at_grown ReadTable r v w b k = tt
  knows_at_grown WriteHouse r v w b k = (begins_grown i more (suc r) v k.0, committed_grown i more k.1)

  knows_grown : (x : Stance) (r v w : ℕ) (a b : Process) → Knows (window n) m x r v w a b → Knows (window n) m' x r v w a b
  knows_grown Idle r v w a b k = k
  knows_grown (Working x) r v w a b k = knows_at_grown x r v w b k
  knows_grown Exhausted r v w a b k = tt
  knows_grown Crashed r v w a b k = tt
  knows_grown Decided r v w a b k = tt

  -- With the same seats.
  pub fits_grown : {q : Worker} {a b a' b' : ℕ → Process} {w : ℕ} → ((o : ℕ) → o < 8 → (a' o ≡ a o) × (b' o ≡ b o)) →
      Fits (window n) m q a b w → Fits (window n) m' q a' b' w
  fits_grown {q} {w = w} same f =
      let here = same (q.outer - 1) (omega (arith, f.start, f.few)) in
      record {
        start = f.start;
        few = f.few;
        some = f.some;
        later = λ o from l. rw ((same o l).0, (same o l).1) (f.later o from l);
        seats = rw (here.0, here.1) f.seats;
        knows = rw (here.0, here.1) (knows_grown q.stance (q.outer - 1) q.value w _ _ f.knows);
      }

-- ---- a worker's own record

module _ {W : ℕ} {m m' : Memory} {q : Worker} {a b : ℕ → Process} {w : ℕ} (f : Fits W m q a b w) {v : ℕ} (some : 0 < v) where
  -- In the same round, with another stance and value: its seats of later rounds are as they were.
  pub fits_next : (x : Stance) {a' b' : ℕ → Process} → ((o : ℕ) → q.outer ≤ o → o < 8 → (a' o ≡ a o) × (b' o ≡ b o)) →
      seats_fit x (a' (q.outer - 1)) (b' (q.outer - 1)) ≡ true →
      Knows W m' x (q.outer - 1) v w (a' (q.outer - 1)) (b' (q.outer - 1)) → Fits W m' (worker x q.outer v) a' b' w
  fits_next x same seats knows =
      record {
        start = f.start;
        few = f.few;
        some = λ t. some;
        later = λ o from l. rw ((same o from l).0, (same o from l).1) (f.later o from l);
        seats = seats;
        knows = knows;
      }

  -- "Either way the next outer round follows", or it is spent.
  pub fits_over : Begins W m' (suc (q.outer - 1)) v → Fits W m' (round_over q.outer v) a b w
  unfolding seats_fit
  fits_over begins =
      cond_cases (λ (q' : Worker). Fits W m' q' a b w) (ltb q.outer 8)
      (λ t.
      let below = ltb-true q.outer 8 t in
      let e : q.outer + 1 - 1 ≡ suc (q.outer - 1) = omega (arith, f.start) in
      let l = f.later (suc (q.outer - 1)) (omega (arith, f.start)) (omega (arith, f.start)) in
      record {
        start = omega arith;
        few = omega arith;
        some = λ u. some;
        later = λ o from. f.later o (omega arith);
        seats = rw e l.0;
        knows = rw e (begins, l.1);
      })
      (λ t. fits_next Exhausted (λ o from l. (refl, refl)) refl tt)

-- ---- the house

-- With another record of worker p, and what its operation stored.
abbrev pub left : House → (p : ℕ) → Worker → (sessions polls : List Session) → Table → (d : ℕ) → House
left h p q S P t d =
    record {
      n = h.n;
      c = h.c;
      wards = h.wards;
      workers = set h.workers p q;
      sessions = S;
      polls = P;
      table = t;
      decision = d;
    }

module _ {h : House} {x : List Event} (i : Held h x) (p : ℕ) (low : p < h.n) (es : List Event) (q : Worker) {S P : List Session}
    {t : Table} {d : ℕ} {g gp : List (List Event)} (known : Known h.n h.c S P d g (memory gp t (es ++ x)))
    (more : Grown (memory i.polls h.table x) (memory gp t (es ++ x)))
    (seats : (j : ℕ) → j < h.n → (j ≡ p → ⊥) → (o : ℕ) → o < 8 →
    (ward_seat h.wards S j o ≡ ward_seat h.wards h.sessions j o) × (poll_seat P j o ≡ poll_seat h.polls j o))
    (fits : Fits (window h.n) (memory gp t (es ++ x)) q (ward_seat h.wards S p) (poll_seat P p) (ward_of h p)) where
  -- An operation of worker p with the events es, of which those of others are no decision.
  pub next_held : Told p q (es ++ x) → ((j v : ℕ) → (j ≡ p → ⊥) → DecidedOn j v (es ++ x) → DecidedOn j v x) →
      Rests (window h.n) (memory gp t (es ++ x)) → Held (left h p q S P t d) (es ++ x)
  next_held told older rests =
      let long : p < length h.workers = omega (arith, i.long, i.numbers.few) in
      record {
        sessions = g;
        polls = gp;
        numbers = i.numbers;
        long = simp length-set i.long;
        known = known;
        worker =
            λ j l.
            elim (ℕ_discrete j p) [
              | yes e ↦ rw (e, get_or-set_same h.workers p q no_worker long) fits
              | no other ↦
                  rw (get_or-set_other h.workers p j q no_worker other)
                  (fits_grown i.known more (seats j l other) (i.worker j l))
            ];
        told =
            λ j.
            elim (ℕ_discrete j p) [
              | yes e ↦ rw (e, get_or-set_same h.workers p q no_worker long) told
              | no other ↦
                  rw (get_or-set_other h.workers p j q no_worker other)
                  (record {
                    holds = λ v d. (i.told j).holds v (older j v other d);
                    looked = λ e. happened_past more.past ((i.told j).looked e);
                  })
            ];
        rests = rests;
      }

  -- One that decides nobody.
  pub quiet_held : ((worker_at h p).stance ≡ Decided → ⊥) → (q.stance ≡ Decided → ⊥) →
      ((j v : ℕ) (b : List Event) → Past (decision j v ∷ b) (es ++ x) → Past (decision j v ∷ b) x) → Held (left h p q S P t d) (es ++ x)
  quiet_held was now older =
      let same : (j v : ℕ) → DecidedOn j v (es ++ x) → DecidedOn j v x =
      λ j v k. record { before = k.before; past = older j v k.before k.past } in
      next_held (record { holds = λ v k. absurd (was ((i.told p).holds v (same p v k)).0); looked = λ e. absurd (now e) })
      (λ j v other k. same j v k)
      (λ j v b k. let r = i.rests j v b (older j v b k) in (r.0, committed_grown i.known more r.1))
