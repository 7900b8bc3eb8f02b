-- What one operation may store so that the boards and the table stay known, and the house held: a session with a longer past, a poll with a
-- longer past, an entry that was committed, and the record of its own worker.
use Rattle.std.specs.Prelude.{◌+◌, ◌-◌, ◌*◌, ◌%◌, ◌≤◌, ◌<◌, ◌≡◌, ◌++◌, ◌⊎◌}
use Rattle.base.specs.Prelude.{ℕ, arith, refl, ◌∙◌, ap, Bool, true, false, List, [], length}
use Rattle.base.specs.Prelude.{length-set, set, get_or, get_or-set_same, get_or-set_other, inl, inr, ⊎_elim, ℕ_discrete}
use Rattle.base.specs.Arrays.{get_or_set_cases}
use Rattle.model_laws.specs.Types.{Session}
use Rattle.model_laws.specs.Windows.{window_square, window_least}
use Rattle.model.specs.Window.{window}
use Rattle.model_rule.specs.Event.{Event, Past, here, Proposed}
use Rattle.model_poll_laws.specs.Sounds.{poll_open}
use Rattle.theory_board.specs.Past.{happened_past, past_append}
use Rattle.theory_board.specs.Lawful.{IsCommitted}
use Rattle.theory_board.specs.Reached.{Reached}
use Rattle.theory_count.specs.Grid.{wide_below}
use Rattle.theory_count.specs.Agreed.{agreed_commits}
use Rattle.model_house.specs.House.{no_session, no_row, ward_seats, ward_rounds, with_entry}
use Rattle.theory_house.specs.Types.{Table}
use Rattle.theory_house.specs.Core.{past_at, cell, Filled, Memory, Begins, HouseCommitted, Boards, Known, Grown, boards_lawful}
use Rattle.theory_house.specs.Core.{begins_grown, committed_grown}
use Rattle.theory_house.specs.Invariant.{memory}

-- ---- boards and table

boards_set : {poll : Bool} {k L size : ℕ} {l : List Session} {g : List (List Event)} → Boards poll k L size l g → {i : ℕ} → i < size →
    {s : Session} {h : List Event} → Reached poll (window k) k L s h → s.closed ≡ false → Boards poll k L size (set l i s) (set g i h)
boards_set {l = l} {g = g} b {i} low {s} {h} r o =
    record {
      long = simp length-set b.long;
      many = simp length-set b.many;
      each =
          λ j l₁.
          elim (ℕ_discrete j i) [
            | yes e ↦
                rw (e, get_or-set_same l i s no_session (omega (arith, b.long)), get_or-set_same g i h [] (omega (arith, b.many))) (r, o)
            | no ne ↦ rw (get_or-set_other l i j s no_session ne, get_or-set_other g i j h [] ne) (b.each j l₁)
          ];
    }

-- A past that events in front made longer.
longer : (g : List (List Event)) (i j : ℕ) (es : List Event) → Past (past_at g j) (past_at (set g i (es ++ past_at g i)) j)
longer g i j es = get_or_set_cases (λ l. Past (past_at g j) l) g i j _ [] (λ e. rw e (past_append es)) here

-- Another entry: what holds of it, and of the one before, holds of each.
cell_cases : (P : ℕ → Type 0) (t : Table) (o w v r j : ℕ) → (r ≡ o - 1 → j ≡ w - 1 → P v) → P (cell t r j) →
    P (cell (with_entry t o w v) r j)
cell_cases P t o w v r j new old =
    get_or_set_cases (λ y. P (get_or y j 0)) t (o - 1) r _ no_row
    (λ eo. get_or_set_cases P (get_or t (o - 1) no_row) (w - 1) j v 0 (new eo) (rw eo at old))
    old

module _ {n c d : ℕ} {S P : List Session} {g : List (List Event)} {m : Memory} (i : Known n c S P d g m) where
  -- Session j, where what was proposed to it may begin its round.
  pub ward_known : (j : ℕ) → j < 32 → {s : Session} (es : List Event) →
      Reached false (window (ward_seats n c)) (ward_seats n c) ward_rounds s (es ++ past_at g j) → s.closed ≡ false →
      ((v : ℕ) → Proposed v (es ++ past_at g j) → Proposed v (past_at g j) ⊎ Begins (window n) m (j % 8) v) →
      Known n c (set S j s) P d (set g j (es ++ past_at g j)) m
  ward_known j low es r o proposed =
      record {
        wards = boards_set i.wards low r o;
        votes = i.votes;
        rows = i.rows;
        columns = i.columns;
        table = λ o u f. let t = i.table o u f in (t.0, (t.1.0, happened_past (longer g j (8 * u + o) es) t.1.1));
        polled = i.polled;
        begun =
            λ k v.
            get_or_set_cases (λ l. Proposed v l → Begins (window n) m (k % 8) v) g j k _ []
            (λ e t. rw e (⊎_elim (i.begun j v) (λ b. b) (proposed v t))) (i.begun k v);
        decision = i.decision;
      }

  -- A longer past of the house, and what was committed for it in its decision register.
  pub house_known : (es : List Event) (v : ℕ) → (v ≡ 0) ⊎ HouseCommitted (window n) m v →
      let m' = memory m.polls m.table (es ++ m.past) in Known n c S P v g m' × Grown m m'
  house_known es v k =
      let more : Grown m (memory m.polls m.table (es ++ m.past)) =
      record { polls = λ o. here; table = λ o j f. refl; past = past_append es } in (
        record {
          wards = i.wards;
          votes = i.votes;
          rows = i.rows;
          columns = i.columns;
          table = i.table;
          polled = i.polled;
          begun = λ k v t. begins_grown i more (k % 8) v (i.begun k v t);
          decision = ⊎_elim inl (λ k. inr (committed_grown i more k)) k;
        },
        more,
      )

  -- The poll of round r, where what was proposed to it is a ward with an entry.
  pub poll_known : (r : ℕ) → r < 8 → {s : Session} (es : List Event) →
      Reached true (window n) n (window n) s (es ++ past_at m.polls r) →
      ((u : ℕ) → Proposed u (es ++ past_at m.polls r) →
      Proposed u (past_at m.polls r) ⊎ ((u ≤ c) × Filled (cell m.table r (u - 1)))) →
      let m' = memory (set m.polls r (es ++ past_at m.polls r)) m.table m.past in Known n c S (set P r s) d g m' × Grown m m'
  poll_known r low {s} es reached proposed =
      let m' = memory (set m.polls r (es ++ past_at m.polls r)) m.table m.past in
      let more : Grown m m' = record { polls = λ o. longer m.polls r o es; table = λ o j f. refl; past = here } in (
        record {
          wards = i.wards;
          votes = boards_set i.votes low reached (poll_open (window n) s reached.sound);
          rows = i.rows;
          columns = i.columns;
          table = i.table;
          polled =
              λ o u.
              get_or_set_cases (λ l. Proposed u l → (u ≤ c) × Filled (cell m.table o (u - 1))) m.polls r o _ []
              (λ e t. rw e (⊎_elim (i.polled r u) (λ b. b) (proposed u t))) (i.polled o u);
          begun = λ k v t. begins_grown i more (k % 8) v (i.begun k v t);
          decision = ⊎_elim inl (λ k. inr (committed_grown i more k)) i.decision;
        },
        more,
      )

  -- The entry of outer round o and ward w: a filled one is written again with the number that it has, since its session commits one alone.
  pub table_known : (o w v : ℕ) → o - 1 < 8 → w - 1 < 4 → 1 ≤ ward_seats n c → Filled v → IsCommitted v (past_at g (8 * (w - 1) + (o - 1))) →
      let m' = memory m.polls (with_entry m.table o w v) m.past in
      Known n c S P d g m' × Grown m m' × (cell m'.table (o - 1) (w - 1) ≡ v)
  table_known o w v low lw some f k =
      let t = m.table in
      let m' = memory m.polls (with_entry t o w v) m.past in
      let seats = ward_seats n c in
      let again : Filled (cell t (o - 1) (w - 1)) → v ≡ cell t (o - 1) (w - 1) =
      λ f. agreed_commits (window seats) seats _ (window_least seats some) (wide_below (window seats) seats (window_square seats))
      (boards_lawful i.wards (8 * (w - 1) + (o - 1))) k.1 (i.table (o - 1) (w - 1) f).1.1 in
      let more : Grown m m' =
      record {
        polls = λ r. here;
        table = λ r j f. cell_cases (λ x. x ≡ cell t r j) t o w v r j (λ eo ew. rw (eo, ew) (again (rw (eo, ew) at f))) refl;
        past = here;
      } in (
        record {
          wards = i.wards;
          votes = i.votes;
          rows = simp length-set i.rows;
          columns =
              λ r l.
              get_or_set_cases (λ y. length y ≡ 4) t (o - 1) r _ no_row
              (λ e. simp length-set (i.columns (o - 1) low)) (i.columns r l);
          table =
              λ r j.
              cell_cases (λ x. Filled x → (r < 8) × IsCommitted x (past_at g (8 * j + r))) t o w v r j
              (λ eo ew f. rw (eo, ew) (low, k)) (i.table r j);
          polled =
              λ r u p.
              let b = i.polled r u p in (b.0, cell_cases Filled t o w v r (u - 1) (λ eo ew. f) b.1);
          begun = λ k v t. begins_grown i more (k % 8) v (i.begun k v t);
          decision = ⊎_elim inl (λ k. inr (committed_grown i more k)) i.decision;
        },
        more,
        ap (λ y. get_or y (w - 1) 0) (get_or-set_same t (o - 1) _ no_row (omega (arith, i.rows)))
            ∙ get_or-set_same (get_or t (o - 1) no_row) (w - 1) v 0 (omega (arith, i.columns (o - 1) low)),
      )
