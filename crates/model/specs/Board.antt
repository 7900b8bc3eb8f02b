-- Document 01, "The board and the seats": the registers, the processes, and a session just opened.
use Rattle.std.specs.Prelude.{ℕ, suc, ◌-◌, ◌≤◌, Bool, true, false, cond, List, [], ◌∷◌, get_or, set, replicate, eqb}
use Rattle.model.specs.declared.Phase.TheVariants.{Idle}
use Rattle.model.specs.declared.Process.{Process}
use Rattle.model.specs.declared.Session.{Session}
use Rattle.model.specs.declared.Counts.{Counts}
use Rattle.model.specs.declared.Caller.{Caller}
use Rattle.model.specs.declared.Caller.TheVariants.{Server, Cart}
use Rattle.model.specs.declared.Limits.{Limits}

-- "Seats n: 1 to 64, numbered from 0." The most processes that a session holds.
abbrev pub max_processes : ℕ
max_processes = 64

-- "Round limit L: W to 256." The most rounds that a session holds.
abbrev pub max_rounds : ℕ
max_rounds = 256

-- 02, wish 9: "A cart runs the same library with at most 16 seats and 64 rounds; the server stays at 64 and 256." There is "one pair for
-- each of the two callers". The server's is what a session holds.
abbrev pub limits_of : Caller → Limits
limits_of Server = record { processes = max_processes; rounds = max_rounds }
limits_of Cart = record { processes = 16; rounds = 64 }

-- Limits "up to the server's", as both callers' are.
pub record UpToServer (most : Limits) : Type 0 where
  pub processes : most.processes ≤ (limits_of Server).processes
  pub rounds : most.rounds ≤ (limits_of Server).rounds

-- ---- what a session holds

-- 01: "a value register T[r]", r from 1; 0 is blank.
abbrev pub value_at : Session → ℕ → ℕ
value_at s r = get_or s.values (r - 1) 0

-- 01: "a mark C[r]", r from 1.
abbrev pub mark_at : Session → ℕ → Bool
mark_at s r = get_or s.marks (r - 1) false

-- A process before it proposes (01: a seat that is out, round 0 and own value 0).
abbrev pub idle : Process
idle = record { phase = Idle; round = 0; estimate = 0 }

-- "The number picks a row": the record of process p, from 0.
abbrev pub process_at : Session → ℕ → Process
process_at s p = get_or s.processes p idle

-- The highest filled round, 0 for none: of the registers from round r + 1 on, where the highest so far is `top`.
abbrev pub highest_from : (top r : ℕ) → List ℕ → ℕ
highest_from top r [] = top
highest_from top r (x ∷ xs) = highest_from (cond (eqb x 0) top (suc r)) (suc r) xs

abbrev pub highest_filled : Session → ℕ
highest_filled s = highest_from 0 0 s.values

-- ---- sessions

-- A session just opened: all registers blank, all rounds unmarked, no process has proposed. 02, wish 10: "The session gains a closed mark,
-- open at first."
unfoldable pub opened : ℕ → ℕ → Session
opened n limit =
    record {
      n = n;
      limit = limit;
      values = replicate max_rounds 0;
      marks = replicate max_rounds false;
      decision = 0;
      processes = replicate max_processes idle;
      closed = false;
    }

-- The session with other registers and records, all else as it was.
abbrev pub with : Session → (values : List ℕ) (marks : List Bool) (decision : ℕ) (processes : List Process) → Session
with s values marks decision processes =
    record {
      n = s.n;
      limit = s.limit;
      values = values;
      marks = marks;
      decision = decision;
      processes = processes;
      closed = s.closed;
    }

-- With one of them alone.
abbrev pub with_values : Session → List ℕ → Session
with_values s values = with s values s.marks s.decision s.processes

abbrev pub with_marks : Session → List Bool → Session
with_marks s marks = with s s.values marks s.decision s.processes

abbrev pub with_decision : Session → ℕ → Session
with_decision s decision = with s s.values s.marks decision s.processes

-- With another record for process p.
abbrev pub with_process : Session → ℕ → Process → Session
with_process s p q = with s s.values s.marks s.decision (set s.processes p q)

-- With the closed mark set, all else as it was.
abbrev pub with_closed : Session → Session
with_closed s =
    record {
      n = s.n;
      limit = s.limit;
      values = s.values;
      marks = s.marks;
      decision = s.decision;
      processes = s.processes;
      closed = true;
    }

-- ---- the counts

-- An empty tally.
abbrev pub no_counts : Counts
no_counts = record { reads = 0; writes = 0; contested = 0 }
