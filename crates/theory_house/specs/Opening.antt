-- A house just opened, with nothing past, is held.
use Rattle.std.specs.Prelude.{◌+◌, ◌-◌, ◌*◌, ◌≡◌, ◌++◌}
use Rattle.std.proofs.lemmas.List.{get_or-replicate}
use Rattle.base.specs.Prelude.{ℕ, zero, suc, arith, refl, ap, Bool, true≢false, List, [], length, get_or, replicate}
use Rattle.base.specs.Prelude.{length-replicate, inl}
use Rattle.model_laws.specs.Types.{Session}
use Rattle.model.specs.Window.{window}
use Rattle.model.specs.Board.{process_at, opened, idle, max_processes}
use Rattle.model_laws.specs.Windows.{window_low}
use Rattle.model_rule.specs.Event.{Event}
use Rattle.theory_board.specs.Past.{past_none}
use Rattle.theory_board.specs.Opening.{same_everywhere}
use Rattle.theory_board.specs.Reached.{Reached, opened_session}
use Rattle.theory_poll.specs.Machine.{opened_poll}
use Rattle.model_house.specs.House.{no_session, no_worker, no_row, opened_house, ward_seats, worker, ward_rounds, seat_of}
use Rattle.model_house.specs.Sound.{seats_fit}
use Rattle.theory_house.specs.Types.{Idle, Worker}
use Rattle.theory_house.specs.Core.{past_at, Boards}
use Rattle.theory_house.specs.Invariant.{Numbers, ward_seat, poll_seat, Out, Held}

-- Equal boards, with nothing past.
opened_boards : {poll : Bool} {k L : ℕ} (size : ℕ) → Reached poll (window k) k L (opened k L) [] →
    Boards poll k L size (replicate size (opened k L)) (replicate size [])
unfolding opened
opened_boards {k = k} {L = L} size r =
    record {
      long = length-replicate size (opened k L);
      many = length-replicate {A = List Event} size [];
      each = λ i low. rw (get_or-replicate size i (opened k L) no_session low, same_everywhere {A = List Event} size i []) (r, refl);
    }

-- What holds of the value of a list of one value, and of no place, holds of each place.
each_place : {A : Type 0} (P : A → Type 0) (k i : ℕ) {a d : A} → P a → P d → P (get_or (replicate k a) i d)
each_place P zero i here past = past
each_place P (suc k) zero here past = here
each_place P (suc k) (suc i) here past = each_place P k i here past

-- All seats are out.
opened_out : (size i k L p : ℕ) → Out (process_at (get_or (replicate size (opened k L)) i no_session) p)
unfolding opened
opened_out size i k L p = each_place (λ (s : Session). Out (process_at s p)) size i (rw (same_everywhere max_processes p idle) refl) refl

pub opened_held : (c : ℕ) (ws : List ℕ) → Numbers (length ws) c (ws ++ replicate (16 - length ws) 0) → Held (opened_house c ws) []
unfolding opened_house seats_fit
opened_held c ws k =
    let n = length ws in
    let seats = ward_seats n c in
    let wards = ws ++ replicate (16 - n) 0 in
    let blank : List ℕ = replicate 4 0 in
    let empty : (size i : ℕ) → past_at (replicate size []) i ≡ [] = λ size i. same_everywhere size i [] in
    record {
      sessions = replicate 32 [];
      polls = replicate 8 [];
      numbers = k;
      long = refl;
      known =
          record {
            wards =
                opened_boards 32
                (opened_session (window seats) seats ward_rounds (omega (arith, k.seat 0 k.some)) (omega (arith, k.few))
                (omega (arith, k.few, window_low seats)) (omega arith));
            votes = opened_boards 8 (opened_poll (window n) n k.some (omega (arith, k.few)) (omega (arith, k.few, window_low n)));
            rows = refl;
            columns = λ o low. ap length (get_or-replicate 8 o blank no_row low);
            table = λ o j f. absurd (f (each_place (λ r. get_or r j 0 ≡ 0) 8 o {a = blank} (same_everywhere 4 j 0) refl));
            polled = λ o u p. absurd (past_none (rw (empty 8 o) at p.past));
            begun = λ i v p. absurd (past_none (rw (empty 32 i) at p.past));
            decision = inl refl;
          };
      worker =
          λ p low.
          let out : (o : ℕ) → Out (ward_seat wards (replicate 32 (opened seats ward_rounds)) p o)
          × Out (poll_seat (replicate 8 (opened n (window n))) p o) =
          λ o. (opened_out 32 (8 * (get_or wards p 0 - 1) + o) seats ward_rounds (seat_of wards p), opened_out 8 o n (window n) p) in
          rw (get_or-replicate 16 p (worker Idle 1 0) no_worker (omega (arith, k.few)))
          (record {
            start = omega arith;
            few = omega arith;
            some = λ i. absurd (true≢false i);
            later = λ o from l. out o;
            seats = refl;
            knows = (refl, (out 0).0, (out 0).1);
          });
      told =
          λ p.
          let out = each_place (λ (q : Worker). q.stance ≡ Idle) 16 p {a = worker Idle 1 0} {d = no_worker} refl refl in
          record {
            holds = λ v d. absurd (past_none d.past);
            looked = λ e. let z : ◌≡◌ {A = ℕ} 0 1 = cc in absurd (omega arith);
          };
      rests = λ p v before q. absurd (past_none q);
    }
