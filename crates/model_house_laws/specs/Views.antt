-- A turn on what it can read and change. On a sound session or poll a public operation is the machine's; on another it changes nothing.
-- Assumes nothing.
use Rattle.std.specs.Prelude.{◌≡◌, ◌&&◌}
use Rattle.base.specs.Prelude.{ℕ, ◌∙◌, ap, Bool, true, false, not, not-true, cond}
use Rattle.base.specs.Bools.{and_left, and_right, cond_cases}
use Rattle.model.specs.declared.Session.{Session}
use Rattle.model.specs.declared.Counts.{Counts}
use Rattle.model.specs.Answers.{Changed, Stepped}
use Rattle.model.specs.declared.Operation.{Operation}
use Rattle.model.specs.declared.Operation.TheVariants.{Propose}
use Rattle.model.specs.Window.{window}
use Rattle.model.specs.Refusal.{full}
use Rattle.model.specs.Machine.{perform, answered}
use Rattle.model.specs.Sound.{sound_as, sound, sound_poll}
use Rattle.model.specs.Public.{operate_for_as, operate, operate_as}
use Rattle.model_laws.specs.Answers.{propose_counts}
use Rattle.model_poll.specs.Answers.{PollStepped}
use Rattle.model_poll.specs.Machine.{PollOperation, proposes, turns, turned, poll_perform}
use Rattle.model_poll.specs.Public.{poll_propose, poll_turn, poll_turn_for}
use Rattle.model_house.specs.declared.Stance.{Stance}
use Rattle.model_house.specs.declared.View.{View}
use Rattle.model_house.specs.Turn.{view, stands, in_ward, in_poll}

-- Where a turn can be taken: its session and its poll are sound, and a register operation can be counted.
unfoldable pub view_fits : View → Bool
view_fits v = sound v.session && sound_poll v.poll && not (full v.counts)

-- What an operation on a session or (poll true) on a poll leaves, of whatever is made of it; and what a turn of a poll leaves.
module _ (s : Session) (c : Counts) (F : Session → Counts → View) where
  operate_leaves : (poll : Bool) (o : Operation) → let a = operate_as poll s c o in let b = perform (window s.n) s c o in
      F a.session a.counts ≡ cond (sound_as poll s) (F b.session b.counts) (F s c)
  unfolding sound_as operate_for_as perform answered
  operate_leaves poll o =
      let a = operate_as poll s c o in
      cond_cases (λ x. F a.session a.counts ≡ x) (sound_as poll s) (λ t. rw t) (λ t. rw t)

  turn_leaves : (p : ℕ) → let a = poll_turn s p c in let b = poll_perform (window s.n) s c (turns p) in
      F a.session a.counts ≡ cond (sound_poll s) (F b.session b.counts) (F s c)
  unfolding sound_as poll_turn_for poll_perform turned
  turn_leaves p =
      let a = poll_turn s p c in
      cond_cases (λ x. F a.session a.counts ≡ x) (sound_poll s) (λ t. rw t) (λ t. rw t)

module _ (v : View) where
  pub ward_performs : (o : Operation) {a : Stepped} → a ≡ operate v.session v.counts o →
      view a.session v.poll v.table v.decision v.worker a.counts ≡ cond (sound v.session) (in_ward v o) v
  ward_performs o e =
      rw e (operate_leaves v.session v.counts (λ s c. view s v.poll v.table v.decision v.worker c) false o)

  abbrev with_poll : Session → Counts → View
  with_poll s c = view v.session s v.table v.decision v.worker c

  pub proposal_performs : (p w : ℕ) {a : Changed} → a ≡ poll_propose v.poll p w →
      view v.session a.session v.table v.decision v.worker v.counts
      ≡ cond (sound_poll v.poll) (in_poll v (proposes p w)) v
  unfolding poll_perform
  proposal_performs p w e =
      let s = v.poll in
      let same = propose_counts true (window s.n) s v.counts p w in
      rw e (ap (λ (x : Stepped). with_poll x.session x.counts) same ∙ operate_leaves s v.counts with_poll true (Propose p w))

  pub turn_performs : (p : ℕ) {a : PollStepped} → a ≡ poll_turn v.poll p v.counts →
      view v.session a.session v.table v.decision v.worker a.counts ≡ cond (sound_poll v.poll) (in_poll v (turns p)) v
  turn_performs p e = rw e (turn_leaves v.poll v.counts with_poll p)

-- ---- a view that fits

module _ (v : View) (fits : view_fits v ≡ true) where
  pub fits_ward : sound v.session ≡ true
  unfolding view_fits
  fits_ward = and_left _ (sound_poll v.poll) (and_left _ (not (full v.counts)) fits)

  pub fits_poll : sound_poll v.poll ≡ true
  unfolding view_fits
  fits_poll = and_right (sound v.session) _ (and_left _ (not (full v.counts)) fits)

  pub fits_room : full v.counts ≡ false
  unfolding view_fits
  fits_room = not-true _ (and_right (sound v.session && sound_poll v.poll) _ fits)

  -- What is left of it by a turn in the ward's session, in the poll, and at a register of the house's own. The stance f may depend on the
  -- board as it is left.
  pub ward_left : (o : Operation) (f : View → Stance) {r b : View} {a : Stance} →
      b ≡ cond (sound v.session) (in_ward v o) v → a ≡ f b → r ≡ stands b a → r ≡ stands (in_ward v o) (f (in_ward v o))
  ward_left o f eb ea er = let e = rw fits_ward at eb in rw (er, ea, e)

  pub poll_left : (o : PollOperation) (f : View → Stance) {r b : View} {a : Stance} →
      b ≡ cond (sound_poll v.poll) (in_poll v o) v → a ≡ f b → r ≡ stands b a → r ≡ stands (in_poll v o) (f (in_poll v o))
  poll_left o f eb ea er = let e = rw fits_poll at eb in rw (er, ea, e)

  pub register_left : {r left : View} → r ≡ cond (full v.counts) v left → r ≡ left
  register_left er = rw fits_room at er
