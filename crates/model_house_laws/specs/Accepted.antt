-- The answer of a call on a house, by the number of its first refusal and by what is left where it is 0. Assumes nothing.
use Rattle.std.specs.Prelude.{◌%◌, ◌<◌, ◌≡◌, ◌∷◌}
use Rattle.base.specs.Prelude.{ℕ, arith, refl, sym, ◌∙◌, ap, Bool, true, false, cond, not, leb}
use Rattle.base.specs.Prelude.{leb-false}
use Rattle.model.specs.declared.Counts.{Counts}
use Rattle.model.specs.declared.Phase.{Phase}
use Rattle.model.specs.Numbers.{unsound, no_such_process}
use Rattle.model.specs.Board.{no_counts}
use Rattle.model.specs.Refusal.{refusal, full}
use Rattle.model_laws.specs.Accepted.{NoneHolds, Without, none_holds, returned}
use Rattle.model_laws.specs.Answers.{refused_alike}
use Rattle.model_house.specs.Answers.{HouseStepped}
use Rattle.model_house.specs.declared.House.{House}
use Rattle.model_house.specs.declared.Stance.TheVariants.{Working, Crashed}
use Rattle.model_house.specs.declared.Place.TheVariants.{ProposeWard}
use Rattle.model_house.specs.declared.Worker.{Worker}
use Rattle.model_house.specs.House.{worker, worker_at, with_worker}
use Rattle.model_house.specs.Turn.{one_read, standing}
use Rattle.model_house.specs.Machine.{HouseOperation, proposes, turns, learns, crashes, worker_of, phase_of, worker_tests, house_tests}
use Rattle.model_house.specs.Machine.{house_learnt, house_after, house_counts, house_stepped, house_answered}
use Rattle.model_house.specs.Sound.{sound_wards, sound_house}
use Rattle.model_house.specs.Public.{house_operate, without_house_counts}
use Rattle.base.specs.Bools.{and_left}
use Rattle.model_house_laws.specs.Sounds.{SoundNumbers, wards_facts}

abbrev pub house_code : House → Counts → HouseOperation → ℕ
house_code h c o = refusal ((not (sound_house h), unsound) ∷ house_tests h c o)

-- A sound house has sound numbers.
pub numbers_of : (h : House) → sound_house h ≡ true → SoundNumbers h
unfolding sound_house
numbers_of h t = wards_facts h (and_left (sound_wards h) _ (and_left _ _ (and_left _ _ t)))

-- What an accepted call knows.
pub record HouseAccepted (h : House) (c : Counts) (o : HouseOperation) : Type 0 where
  pub whole : sound_house h ≡ true
  pub below : worker_of o < h.n
  pub few : worker_of o < 16
  pub own : NoneHolds (worker_tests (phase_of (worker_at h (worker_of o)).stance) c o)

-- The machine's tests have numbers from 4 on: not 0, and not 3.
tests_without : (k : ℕ) → k < 4 → (h : House) (c : Counts) (o : HouseOperation) → Without k (house_tests h c o)
tests_without k low h c o = (omega arith, own (phase_of (worker_at h (worker_of o)).stance) o)
  where
    own : (φ : Phase) (o : HouseOperation) → Without k (worker_tests φ c o)
    own φ (proposes p v) = omega arith
    own φ (turns p hint) = omega arith
    own φ (learns p) = omega arith
    own φ (crashes p) = omega arith

pub house_never_three : (h : House) (c : Counts) (o : HouseOperation) → refusal (house_tests h c o) ≡ unsound → ⊥
house_never_three h c o e = omega (arith, (returned unsound (house_tests h c o) (tests_without unsound (omega arith) h c o) e).0)

-- What they tell where none refuses.
pub tests_known : (h : House) (c : Counts) (o : HouseOperation) → refusal (house_tests h c o) ≡ 0 →
    (worker_of o < h.n) × NoneHolds (worker_tests (phase_of (worker_at h (worker_of o)).stance) c o)
tests_known h c o e =
    let a = none_holds (house_tests h c o) (tests_without 0 (omega arith) h c o) e in
    (leb-false h.n (worker_of o) a.0, a.1)

module _ (h : House) (c : Counts) (o : HouseOperation) where
  -- The number, with the own tests made by the phase of the record that the code reads.
  pub house_code_law : {b : Bool} {φ : Phase} {own k : ℕ} → b ≡ sound_house h →
      φ ≡ phase_of (worker_at h (worker_of o % 16)).stance → own ≡ refusal (worker_tests φ c o) →
      k ≡ cond (not b) unsound (cond (leb h.n (worker_of o)) no_such_process own) → k ≡ house_code h c o
  house_code_law eb eφ eo ek = ek ∙ rw (eb, eo, eφ) (go (sound_house h) (leb h.n (worker_of o)) refl refl)
    where
      go : (b t : Bool) → sound_house h ≡ b → leb h.n (worker_of o) ≡ t →
          cond (not b) unsound (cond t no_such_process (refusal (worker_tests (phase_of (worker_at h (worker_of o % 16)).stance) c o)))
          ≡ cond (not b) unsound (cond t no_such_process (refusal (worker_tests (phase_of (worker_at h (worker_of o)).stance) c o)))
      go true true eb et = refl
      go true false eb et =
          let e : worker_of o % 16 ≡ worker_of o = omega (arith, leb-false h.n (worker_of o) et, (numbers_of h eb).few) in
          rw e
      go false t eb et = refl

  module _ {k : ℕ} (code : k ≡ house_code h c o) where
    pub house_refused : (k ≡ 0 → ⊥) → record { code = k; house = h; counts = c } ≡ house_operate h c o
    unfolding house_operate house_answered
    house_refused =
        refused_alike {A = HouseStepped} (λ k. record { code = k; house = h; counts = c })
        (λ m. house_stepped m h (house_after h c o) c (house_counts h c o)) (λ m. refl) code

    module _ (none : k ≡ 0) where
      pub house_known : HouseAccepted h c o
      house_known = go (sound_house h) refl (sym code ∙ none)
        where
          go : (b : Bool) → sound_house h ≡ b → cond (not b) unsound (refusal (house_tests h c o)) ≡ 0 → HouseAccepted h c o
          go true eb e =
              let a = tests_known h c o e in
              record { whole = eb; below = a.0; few = omega (arith, a.0, (numbers_of h eb).few); own = a.1 }
          go false eb e = absurd (omega arith)

      pub house_index : worker_of o % 16 ≡ worker_of o
      house_index = omega (arith, house_known.few)

      pub house_left : {u : House} {d : Counts} → u ≡ house_after h c o → d ≡ house_counts h c o →
          record { code = k; house = u; counts = d } ≡ house_operate h c o
      unfolding house_operate house_answered
      house_left eu ed = let z : 0 ≡ house_code h c o = sym none ∙ code in rw (eu, ed, none, ← z)

-- The same of an operation that is lent no counts.
module _ (h : House) (o : HouseOperation) {k : ℕ} (code : k ≡ house_code h no_counts o) where
  pub uncounted_refused : (k ≡ 0 → ⊥) → record { code = k; house = h } ≡ without_house_counts (house_operate h no_counts o)
  uncounted_refused some = ap without_house_counts (house_refused h no_counts o code some)

  pub uncounted_left : k ≡ 0 → {u : House} → u ≡ house_after h no_counts o →
      record { code = k; house = u } ≡ without_house_counts (house_operate h no_counts o)
  uncounted_left none eu = ap without_house_counts (house_left h no_counts o code none eu refl)

-- ---- what an operation that changes no board leaves, at the index i that the code uses

module _ (h : House) (p : ℕ) {i : ℕ} (ei : i ≡ p) where
  pub proposed_is : (c : Counts) (v : ℕ) → with_worker h i (worker (Working ProposeWard) 1 v) ≡ house_after h c (proposes p v)
  unfolding house_after
  proposed_is c v = rw ei

  pub crashed_is : (c : Counts) → with_worker h i (standing Crashed (worker_at h i)) ≡ house_after h c (crashes p)
  unfolding house_after
  crashed_is c = rw ei

  pub learnt_is : (c : Counts) {q : Worker} → q ≡ house_learnt (worker_at h i) h.decision →
      with_worker h i q ≡ house_after h c (learns p)
  unfolding house_after
  learnt_is c eq = rw (eq, ei)

pub learnt_counts : (h : House) (c : Counts) (p : ℕ) {d : Counts} → HouseAccepted h c (learns p) → d ≡ cond (full c) c (one_read c) →
    d ≡ house_counts h c (learns p)
unfolding house_counts
learnt_counts h c p a ed = ed ∙ rw a.own.1.1.0
