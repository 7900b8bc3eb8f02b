-- Lemmas 13 and 14 of source document 002 (02, wish 11): what is committed for the house was proposed to it, and is one number. From what
-- the boards, the table and the pasts have in common; of workers nothing is said here. Rounds and wards count from 0, as the arrays do; the
-- numbers of a poll are wards, from 1.
use Rattle.std.specs.Prelude.{◌+◌, ◌*◌, ◌-◌, ◌%◌, ◌≤◌, ◌<◌, ◌≡◌, ◌⊎◌}
use Rattle.base.specs.Prelude.{ℕ, suc, zero, arith, refl, sym, ◌∙◌, Bool, true, false, List, [], length}
use Rattle.base.specs.Prelude.{get_or, get_or-eq_default, dec_le, dec_lt, ℕ_discrete}
use Rattle.model_laws.specs.Types.{Session}
use Rattle.model.specs.Window.{window}
use Rattle.model_laws.specs.Windows.{window_square, window_least}
use Rattle.model_rule.specs.Event.{Event, Past, here, Proposed, Written, Committed}
use Rattle.theory_board.specs.Past.{past_before, happened_past}
use Rattle.theory_board.specs.Lawful.{Lawful, none, IsCommitted, lawful_at, commit_lawful}
use Rattle.theory_board.specs.Reached.{Reached}
use Rattle.theory_count.specs.Grid.{wide_below}
use Rattle.theory_count.specs.Agreed.{agreed}
use Rattle.model_house.specs.House.{ward_rounds, ward_seats, no_session, no_row}
use Rattle.theory_house.specs.Types.{Table}

-- ---- what is remembered

-- The past of board i.
abbrev pub past_at : List (List Event) → (i : ℕ) → List Event
past_at g i = get_or g i []

-- The table's entry of round o and ward j.
abbrev pub cell : Table → (o j : ℕ) → ℕ
cell t o j = get_or (get_or t o no_row) j 0

abbrev pub Filled : ℕ → Type 0
Filled v = v ≡ 0 → ⊥

-- What the values of a round rest on: the pasts of the polls, the table, and the past of the house.
pub record Memory : Type 0 where
  pub polls : List (List Event)
  pub table : Table
  pub past : List Event

-- v is a value with which a worker can begin round o: proposed to the house, or in the table at the ward of an answer. (Every answer of a
-- poll was written to its register W.)
abbrev pub Begins : (W : ℕ) → Memory → (o v : ℕ) → Type 0
Begins W m zero v = Proposed v m.past
Begins W m (suc o) v = (u : ℕ) × Written W u (past_at m.polls o) × (cell m.table o (u - 1) ≡ v)

-- v was committed for the house in some round: it is in the table at the ward of a committed answer.
abbrev pub HouseCommitted : (W : ℕ) → Memory → (v : ℕ) → Type 0
HouseCommitted W m v = (o u : ℕ) × Committed W u (past_at m.polls o) × (cell m.table o (u - 1) ≡ v)

-- ---- what the boards and the table have

-- Boards of k seats and L rounds, each as its machine reaches it, and open.
pub record Boards (poll : Bool) (k L size : ℕ) (l : List Session) (g : List (List Event)) : Type 0 where
  pub long : length l ≡ size
  pub many : length g ≡ size
  pub each : (i : ℕ) → i < size →
      Reached poll (window k) k L (get_or l i no_session) (past_at g i) × ((get_or l i no_session).closed ≡ false)

pub boards_lawful : {poll : Bool} {k L size : ℕ} {l : List Session} {g : List (List Event)} → Boards poll k L size l g →
    (i : ℕ) → Lawful (window k) k (past_at g i)
boards_lawful {k = k} {size = size} {g = g} b i =
    elim (dec_lt i size) [
      | yes low ↦ let r = (b.each i low).0 in rw r.size at r.invariant.lawful
      | no high ↦ rw (get_or-eq_default g [] {n = i} (omega (arith, b.many, high))) none
    ]

-- The sessions, ward by ward, and the polls; n workers in c wards; d stands in the house's decision register.
pub record Known (n c : ℕ) (sessions polls : List Session) (d : ℕ) (g : List (List Event)) (m : Memory) : Type 0 where
  pub wards : Boards false (ward_seats n c) ward_rounds 32 sessions g
  pub votes : Boards true n (window n) 8 polls m.polls
  pub rows : length m.table ≡ 8
  pub columns : (o : ℕ) → o < 8 → length (get_or m.table o no_row) ≡ 4
  -- an entry was committed in its ward's session
  pub table : (o j : ℕ) → Filled (cell m.table o j) → (o < 8) × IsCommitted (cell m.table o j) (past_at g (8 * j + o))
  -- a number proposed to a poll is a ward, with an entry
  pub polled : (o u : ℕ) → Proposed u (past_at m.polls o) → (u ≤ c) × Filled (cell m.table o (u - 1))
  -- a value proposed to a session is one with which its round can begin
  pub begun : (i v : ℕ) → Proposed v (past_at g i) → Begins (window n) m (i % 8) v
  pub decision : (d ≡ 0) ⊎ HouseCommitted (window n) m d

module _ {n c d : ℕ} {S P : List Session} {g : List (List Event)} {m : Memory} (i : Known n c S P d g m) where
  -- What was written in a poll was proposed to it, so that its entry is filled.
  pub filled : (o u : ℕ) → Written (window n) u (past_at m.polls o) → Filled (cell m.table o (u - 1))
  filled o u w = (i.polled o u (happened_past (past_before w.1.past) (lawful_at (boards_lawful i.votes o) w.1.past).value)).1

  -- Lemma 13.
  begins_before : (o v : ℕ) → Begins (window n) m (suc o) v → Begins (window n) m o v
  begins_before o v b =
      let f = i.table o (b.0 - 1) (filled o b.0 b.1) in
      let e : (8 * (b.0 - 1) + o) % 8 ≡ o = omega (arith, f.0) in
      rw (e, b.2) at (i.begun _ _ (commit_lawful (boards_lawful i.wards (8 * (b.0 - 1) + o)) f.1.1).proposed)

  begins_since : (a b v : ℕ) → a ≤ b → Begins (window n) m b v → Begins (window n) m a v
  begins_since a zero v low x = let same : a ≡ 0 = omega arith in rw same x
  begins_since a (suc b) v low x =
      elim (ℕ_discrete a (suc b)) [
        | yes same ↦ rw same x
        | no other ↦ begins_since a b v (omega (arith, other)) (begins_before b v x)
      ]

  -- The next round can begin with what was committed.
  pub committed_begins : {v : ℕ} (k : HouseCommitted (window n) m v) → Begins (window n) m (suc k.0) v
  committed_begins k = (k.1, (commit_lawful (boards_lawful i.votes k.0) k.2).written, k.3)

  -- "Some worker proposed it to the house."
  pub house_proposed : {v : ℕ} → HouseCommitted (window n) m v → Proposed v m.past
  house_proposed {v} k = begins_since 0 (suc k.0) v (omega arith) (committed_begins k)

  module _ (some : 1 ≤ n) where
    -- A value that begins a later round is the committed one,
    ordered : {u v : ℕ} (a : HouseCommitted (window n) m u) (b : HouseCommitted (window n) m v) → a.0 ≤ b.0 → v ≡ u
    ordered {u} {v} a b low =
        let x = begins_since (suc a.0) (suc b.0) v (omega arith) (committed_begins b) in
        let wide = wide_below (window n) n (window_square n) in
        let same = agreed (window n) n _ (window_least n some) wide (boards_lawful i.votes a.0) a.2 x.1 (omega arith) in
        sym x.2 ∙ (rw (← same) at a.3)

    -- Lemma 14: so that one number is committed.
    pub house_agreed : {u v : ℕ} → HouseCommitted (window n) m u → HouseCommitted (window n) m v → u ≡ v
    house_agreed a b = elim (dec_le a.0 b.0) [ yes low ↦ sym (ordered a b low) | no high ↦ ordered b a (omega (arith, high)) ]

-- ---- all of it is kept while memory grows

-- Pasts are longer, and filled entries stand.
pub record Grown (m m' : Memory) : Type 0 where
  pub polls : (o : ℕ) → Past (past_at m.polls o) (past_at m'.polls o)
  pub table : (o j : ℕ) → Filled (cell m.table o j) → cell m'.table o j ≡ cell m.table o j
  pub past : Past m.past m'.past

pub unmoved : {m : Memory} → Grown m m
unmoved = record { polls = λ o. here; table = λ o j f. refl; past = here }

module _ {n c d : ℕ} {S P : List Session} {g : List (List Event)} {m m' : Memory} (i : Known n c S P d g m) (more : Grown m m') where
  pub begins_grown : (o v : ℕ) → Begins (window n) m o v → Begins (window n) m' o v
  begins_grown zero v b = happened_past more.past b
  begins_grown (suc o) v b =
      (b.0, (b.1.0, happened_past (more.polls o) b.1.1), more.table o (b.0 - 1) (filled i o b.0 b.1) ∙ b.2)

  pub committed_grown : {v : ℕ} → HouseCommitted (window n) m v → HouseCommitted (window n) m' v
  committed_grown k =
      let f = filled i k.0 k.1 (commit_lawful (boards_lawful i.votes k.0) k.2).written in
      (k.0, k.1, happened_past (more.polls k.0) k.2, more.table k.0 (k.1 - 1) f ∙ k.3)
