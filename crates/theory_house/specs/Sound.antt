-- A house that is held is sound: no call returns 3.
use Rattle.std.specs.Prelude.{◌-◌, ◌*◌, ◌≤◌, ◌<◌, ◌≡◌, ◌||◌}
use Rattle.base.specs.Prelude.{ℕ, suc, arith, refl, ◌∙◌, ap, Bool, true, false, List, length, get_or, leb, ltb}
use Rattle.base.specs.Prelude.{le-leb, lt-ltb, eq-eqb, eqb-true, ℕ_discrete}
use Rattle.base.specs.Bools.{and_both}
use Rattle.model_laws.specs.Types.{Process, Session}
use Rattle.model.specs.Window.{window}
use Rattle.model.specs.Board.{process_at, idle}
use Rattle.model.specs.Refusal.{status, is_outside}
use Rattle.model.specs.Sound.{sound_as}
use Rattle.model_laws.specs.Phases.{process_facts, outside_here}
use Rattle.model_poll_laws.specs.Sounds.{poll_process}
use Rattle.model_rule.specs.Event.{Event, Proposed}
use Rattle.theory_board.specs.Epoch.{last}
use Rattle.theory_board.specs.Past.{past_before, happened_past}
use Rattle.theory_board.specs.Lawful.{lawful_at}
use Rattle.theory_board.specs.Registers.{last_written}
use Rattle.theory_board.specs.Reached.{Reached}
use Rattle.model_house.specs.House.{ward_rounds, worker_at}
use Rattle.model_house.specs.Machine.{phase_of}
use Rattle.model_house.specs.Sound.{sound_ward, sound_numbers, sound_vote, sound_worker, sound_wards, sound_house}
use Rattle.model_house_laws.specs.Below.{below_all, every_all}
use Rattle.theory_house.specs.Types.{House}
use Rattle.theory_house.specs.Invariant.{Held}

reached_sound : {poll : Bool} {k L : ℕ} {s : Session} {h : List Event} → Reached poll (window k) k L s h → sound_as poll s ≡ true
unfolding sound_as
reached_sound {k = k} {s = s} i = let same : window s.n ≡ window k = ap window i.size in rw same i.sound

ward_sound : {k : ℕ} {s : Session} {h : List Event} → Reached false (window k) k ward_rounds s h → s.closed ≡ false → sound_ward k s ≡ true
unfolding sound_ward
ward_sound {k} {s} i unclosed =
    and_both
    (and_both (and_both (eq-eqb s.n k i.size) (eq-eqb s.limit ward_rounds i.rounds)) (rw unclosed refl))
    (reached_sound i)

-- "A poll number above c": none, since each was proposed.
module _ {n c : ℕ} {s : Session} {h : List Event} (i : Reached true (window n) n (window n) s h)
    (named : (u : ℕ) → Proposed u h → u ≤ c) where
  register_low : (j : ℕ) → get_or s.values j 0 ≤ c
  register_low j =
      let back : suc j - 1 ≡ j = omega arith in
      let same : get_or s.values j 0 ≡ last h (suc j) = rw back at (i.invariant.matches.values (suc j) (omega arith)) in
      elim (ℕ_discrete (last h (suc j)) 0) [
        | yes z ↦ omega (arith, same, z)
        | no some ↦
            let x = last_written h (suc j) (omega (arith, some)) in
            let l = lawful_at i.invariant.lawful x.1.past in
            omega (arith, same, named (last h (suc j)) (happened_past (past_before x.1.past) l.value))
      ]

  seat_low : (j : ℕ) → (process_at s j).estimate ≤ c
  seat_low j = go (is_outside (status (process_at s j).phase)) refl
    where
      go : (b : Bool) → is_outside (status (process_at s j).phase) ≡ b → (process_at s j).estimate ≤ c
      go true o =
          let q = process_at s j in
          let f = process_facts (window n) s.limit q (poll_process (window n) s i.sound j (outside_here (status q.phase) o)) in
          omega (arith, eqb-true q.estimate 0 (rw o at f.estimate))
      go false o = named (process_at s j).estimate ((i.invariant.stands j).placed o).0

  vote_sound : sound_vote n c s ≡ true
  unfolding sound_vote sound_numbers
  vote_sound =
      and_both
      (and_both (eq-eqb s.n n i.size) (reached_sound i))
      (and_both
      (every_all (λ x. leb x c) s.values 0 refl ∙ below_all _ (length s.values) (λ j l. le-leb _ c (register_low j)))
      (every_all (λ (q : Process). leb q.estimate c) s.processes idle refl
      ∙ below_all _ (length s.processes) (λ j l. le-leb _ c (seat_low j))))

module _ {h : House} {x : List Event} (i : Held h x) where
  worker_sound : (p : ℕ) → p < h.n → sound_worker h p ≡ true
  unfolding sound_worker
  worker_sound p low =
      let f = i.worker p low in
      let q = worker_at h p in
      and_both
      (and_both (and_both (le-leb 1 q.outer f.start) (le-leb q.outer 8 f.few))
      (has_value (is_outside (status (phase_of q.stance))) q.value f.some))
      f.seats
    where
      has_value : (b : Bool) (v : ℕ) → (b ≡ false → 0 < v) → (b || ltb 0 v) ≡ true
      has_value true v some = refl
      has_value false v some = lt-ltb 0 v (some refl)

  pub house_sound : sound_house h ≡ true
  unfolding sound_house sound_wards
  house_sound =
      let nums = i.numbers in
      and_both
      (and_both
      (and_both
      (and_both (and_both (le-leb 1 h.n nums.some) (le-leb h.n 16 nums.few)) nums.allow)
      (below_all _ (8 * h.c) (λ j l. let b = i.known.wards.each j (omega (arith, nums.most)) in ward_sound b.0 b.1)))
      (below_all _ 8 (λ j l. vote_sound (i.known.votes.each j l).0 (λ u t. (i.known.polled j u t).0))))
      (below_all _ h.n worker_sound)
