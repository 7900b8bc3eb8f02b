-- The limits of the callers (document 02, wish 9): both are up to the server's, and what is opened within such limits is a session as the
-- server's.
use Rattle.std.specs.Prelude.{◌≤◌, ◌≡◌}
use Rattle.base.specs.Prelude.{ℕ, arith, sym, ◌∙◌, true, List, le-leb}
use Rattle.model_laws.specs.Types.{Caller, Server, Cart, Limits}
use Rattle.model.specs.Window.{window}
use Rattle.model.specs.Board.{limits_of, UpToServer, opened, max_processes, max_rounds}
use Rattle.model.specs.Refusal.{refusal, open_tests_for}
use Rattle.model.specs.Machine.{opening_for}
use Rattle.model.specs.Sheet.{process_count, round_limit, sheet_tests, sheet_refusal}
use Rattle.model.specs.Runner.{run_within}
use Rattle.model.specs.Sound.{sound_for}
use Rattle.model_laws.specs.Accepted.{none_holds}
use Rattle.model_laws.specs.Operations.{opened_sound, open_accepted, opening_accepts, opening_accepted}

-- Of each of the two callers.
pub caller_limits : (caller : Caller) → UpToServer (limits_of caller)
caller_limits Server = record { processes = omega arith; rounds = omega arith }
caller_limits Cart = record { processes = omega arith; rounds = omega arith }

module _ (most : Limits) (up : UpToServer most) (W n L : ℕ) where
  -- What passes the tests of an opening is what a session holds.
  pub open_held : refusal (open_tests_for most W n L) ≡ 0 → (1 ≤ n) × (n ≤ max_processes) × (W ≤ L) × (L ≤ max_rounds)
  open_held ok =
      let a = open_accepted most W n L ok in
      (a.0, omega (arith, a.1, up.processes), a.2, omega (arith, a.3, up.rounds))

  -- So an accepted opening, and what it opens.
  pub opening_held : (opening_for most W n L).code ≡ 0 →
      (1 ≤ n) × (n ≤ max_processes) × (W ≤ L) × (L ≤ max_rounds) × ((opening_for most W n L).session ≡ opened n L)
  opening_held ok =
      let a = opening_accepted most W n L ok in
      (a.0, omega (arith, a.1, up.processes), a.2, omega (arith, a.3, up.rounds), a.4)

  -- It is sound, by the server's limits,
  pub opening_sound : (opening_for most W n L).code ≡ 0 → sound_for W (opening_for most W n L).session ≡ true
  opening_sound ok = let a = opening_held ok in rw a.4 (opened_sound W n L a.0 a.1 a.2 a.3)

  -- and the server opens the same.
  pub opening_server : (opening_for most W n L).code ≡ 0 →
      ((opening_for (limits_of Server) W n L).code ≡ 0) × ((opening_for (limits_of Server) W n L).session ≡ (opening_for most W n L).session)
  opening_server ok =
      let a = opening_held ok in
      let b = opening_accepts (limits_of Server) W n L a.0 a.1 a.2 a.3 in
      (b.0, b.1 ∙ sym a.4)

-- The same of sheets: one that is accepted within such limits
module _ (most : Limits) (up : UpToServer most) (s : List ℕ) (ok : sheet_refusal most s ≡ 0) where
  -- is accepted by the server too,
  pub sheet_server : sheet_refusal (limits_of Server) s ≡ 0
  unfolding sheet_refusal
  sheet_server =
      let n = process_count s in
      let L = round_limit s in
      let a = none_holds (sheet_tests most s) (omega arith) ok in
      let h = open_held most up (window n) n L (rw (a.1.0, a.1.1.0)) in
      rw (
        a.0,
        le-leb 1 n h.0,
        le-leb n max_processes h.1,
        le-leb (window n) L h.2,
        le-leb L max_rounds h.3,
        a.1.1.1.0,
        a.1.1.1.1.0,
      )

  -- and run to the same end.
  pub run_server : (budget : ℕ) → run_within most s budget ≡ run_within (limits_of Server) s budget
  unfolding run_within
  run_server budget = rw (ok, sheet_server)
