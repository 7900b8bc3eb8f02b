-- What an accepted turn of a house knows of its view, and what it leaves. Assumes nothing.
use Rattle.std.specs.Prelude.{◌-◌, ◌*◌, ◌%◌, ◌≤◌, ◌<◌, ◌≡◌, ◌&&◌}
use Rattle.base.specs.Prelude.{ℕ, arith, ◌∙◌, Bool, true, not, cond, eqb, length}
use Rattle.base.specs.Bools.{and_left, and_right, and_both}
use Rattle.model.specs.declared.Session.{Session}
use Rattle.model.specs.declared.Counts.{Counts}
use Rattle.model.specs.Refusal.{full}
use Rattle.model.specs.Sound.{sound, sound_poll}
use Rattle.model_house.specs.declared.House.{House}
use Rattle.model_house.specs.declared.View.{View}
use Rattle.model_house.specs.House.{all_below, ward_of, worker_at, session_index, session_at, poll_at, seat_of, ward_seats, outer_rounds}
use Rattle.model_house.specs.Machine.{turns, view_of, with_view, turn_by, turned, house_after, house_counts}
use Rattle.model_house.specs.Sound.{sound_ward, sound_vote, sound_numbers, sound_worker, sound_wards, sound_house}
use Rattle.model_house_laws.specs.Below.{below_at}
use Rattle.model_house_laws.specs.Sounds.{sessions_sound, polls_sound, numbers_sound, ward_range, outer_range}
use Rattle.model_house_laws.specs.Accepted.{HouseAccepted, numbers_of}
use Rattle.model_house_laws.specs.Views.{view_fits}

-- ---- the parts of soundness

module _ (h : House) (t : sound_house h ≡ true) where
  sessions_of : all_below (8 * h.c) (sessions_sound h) ≡ true
  unfolding sound_house
  sessions_of = and_right (sound_wards h) _ (and_left _ _ (and_left _ _ t))

  polls_of : all_below outer_rounds (polls_sound h) ≡ true
  unfolding sound_house
  polls_of =
      and_right (sound_wards h && all_below (8 * h.c) (sessions_sound h)) (all_below outer_rounds (polls_sound h))
      (and_left _ (all_below h.n (sound_worker h)) t)

  workers_of : all_below h.n (sound_worker h) ≡ true
  unfolding sound_house
  workers_of =
      and_right (sound_wards h && all_below (8 * h.c) (sessions_sound h) && all_below outer_rounds (polls_sound h))
      (all_below h.n (sound_worker h)) t

  worker_outer : (p : ℕ) → p < h.n → (1 ≤ (worker_at h p).outer) × ((worker_at h p).outer ≤ 8)
  unfolding sound_worker
  worker_outer p low =
      outer_range (worker_at h p) (and_left (numbers_sound (worker_at h p)) _ (below_at (sound_worker h) h.n p workers_of low))

ward_sound : (seats : ℕ) (s : Session) → sound_ward seats s ≡ true → sound s ≡ true
unfolding sound_ward
ward_sound seats s t = and_right (eqb s.n seats && eqb s.limit 64 && not s.closed) (sound s) t

vote_sound : (n c : ℕ) (s : Session) → sound_vote n c s ≡ true → sound_poll s ≡ true
unfolding sound_vote
vote_sound n c s t = and_right (eqb s.n n) (sound_poll s) (and_left (eqb s.n n && sound_poll s) (sound_numbers c s) t)

-- ---- an accepted turn of worker p

pub record Known (h : House) (c : Counts) (p : ℕ) (hint : Bool) : Type 0 where
  pub accepted : HouseAccepted h c (turns p hint)
  pub ward_low : 1 ≤ ward_of h p
  pub ward_high : ward_of h p ≤ h.c
  pub wards : h.c ≤ 4
  pub outer_low : 1 ≤ (worker_at h p).outer
  pub outer_high : (worker_at h p).outer ≤ 8

known_of : (h : House) (c : Counts) (p : ℕ) (hint : Bool) → length h.wards ≡ 16 → HouseAccepted h c (turns p hint) → Known h c p hint
known_of h c p hint size a =
    let f = numbers_of h a.whole in
    let w = ward_range h f size p a.below in
    let o = worker_outer h a.whole p a.below in
    record { accepted = a; ward_low = w.0; ward_high = w.1; wards = f.most; outer_low = o.0; outer_high = o.1 }

module _ (h : House) (c : Counts) (p : ℕ) (hint : Bool) (k : Known h c p hint) where
  fits_of : view_fits (view_of h c p) ≡ true
  unfolding view_fits view_of
  fits_of =
      let a = k.accepted in
      let o = (worker_at h p).outer in
      let w = ward_of h p in
      let low : session_index o w < 8 * h.c = omega arith in
      let round : o - 1 < outer_rounds = omega arith in
      let room : not (full c) ≡ true = rw a.own.1.1.1.0 in
      and_both
      (and_both
      (ward_sound (ward_seats h.n h.c) (session_at h o w) (below_at (sessions_sound h) (8 * h.c) _ (sessions_of h a.whole) low))
      (vote_sound h.n h.c (poll_at h o) (below_at (polls_sound h) outer_rounds _ (polls_of h a.whole) round))) room

  -- The view that the code leaves is the machine's.
  pub turned_is : {s : ℕ} {left : View} → s ≡ seat_of h.wards (p % 16) →
      left ≡ (let v = view_of h c p in cond (view_fits v) (turn_by p (ward_of h p) s hint (worker_at h p).stance v) v) →
      left ≡ turned h c p hint
  unfolding turned
  turned_is e el = let i : p % 16 ≡ p = omega (arith, k.accepted.few) in el ∙ rw (fits_of, e, i)

-- The same at the index i that the code uses.
module _ (h : House) (c : Counts) (p : ℕ) (hint : Bool) {i : ℕ} (ei : i ≡ p) where
  pub known_at : length h.wards ≡ 16 → HouseAccepted h c (turns p hint) → Known h c i hint
  known_at size a = rw ei (known_of h c p hint size a)

  pub turned_house : {left : View} → left ≡ turned h c i hint → with_view h i left ≡ house_after h c (turns p hint)
  unfolding house_after
  turned_house el = rw (el, ei)

  pub turned_counts : {left : View} → left ≡ turned h c i hint → left.counts ≡ house_counts h c (turns p hint)
  unfolding house_counts
  turned_counts el = rw (el, ei)
