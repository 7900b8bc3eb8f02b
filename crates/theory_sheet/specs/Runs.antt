-- A run of a sheet is the public operations, one after another, and the machine after the entries that were carried out.
use Rattle.std.specs.Prelude.{◌+◌, ◌≤◌, ◌≡◌, ◌∷◌}
use Rattle.base.specs.Prelude.{ℕ, suc, zero, arith, refl, sym, ◌∙◌, ap, cond, List, [], length, take, eqb, eq-eqb}
use Rattle.base.specs.Prelude.{false}
use Rattle.base.specs.Bools.{cond_cases}
use Rattle.model_laws.specs.Types.{Limits, Server, Session, Counts, Command, acts, closes, Entry, Acts, Closes, Malformed, Ending, Finished, Refused}
use Rattle.model_laws.specs.Types.{BudgetEnded, Process, Ran}
use Rattle.model.specs.Window.{window}
use Rattle.model.specs.Board.{limits_of, UpToServer, opened, no_counts}
use Rattle.model.specs.Numbers.{unsound, bad_entry}
use Rattle.model.specs.Machine.{execute}
use Rattle.model.specs.Refusal.{refusal, open_tests}
use Rattle.model.specs.Sheet.{process_count, round_limit, entries, sheet_refusal}
use Rattle.model.specs.Export.{decided_bytes, ending_buffer, export_buffer}
use Rattle.model.specs.Runner.{ran, entry_answer, run_by, run_from, run_within, run}
use Rattle.model_laws.specs.Windows.{window_least, window_square}
use Rattle.model_laws.specs.SheetFacts.{sheet_facts}
use Rattle.model_laws.specs.Callers.{caller_limits, open_held}
use Rattle.model_rule.specs.Event.{Event}
use Rattle.model_rule.specs.System.{machine, past}
use Rattle.model_rule.specs.Calls.{Input, sessions, promised}
use Rattle.model_rule.specs.Rule.{Rule}
use Rattle.theory_board.specs.Reached.{Reached, command_reached, machine_reached, opened_session}
use Rattle.theory_agreement.specs.Conclusions.{reached_rule}
use Rattle.theory_agreement.specs.Theorem.{promised_as, never_unsound}

-- A command and the counts that it brings, as the machine is fed them.
abbrev pub told : Command → Counts → Input Command
told x c = record { operation = x; counts = c }

-- ---- the public operations

module _ {n L : ℕ} (wide : 1 ≤ window n) where
  -- One entry, of a session that the machine reached: it answers as the machine does, and not 3, and leaves such a session.
  pub entry_reached : {s : Session} {h : List Event} (c : Counts) (e : Entry) → Reached false (window n) n L s h →
      let a = entry_answer (execute (window n)) s c e in
      (entry_answer promised s c e ≡ a) × (a.code ≡ unsound → ⊥) × (h' : List Event) × Reached false (window n) n L a.session h'
  entry_reached {s} {h} c (Acts o) i =
      (promised_as window i c (acts o), never_unsound (window n) s c (acts o), _, command_reached wide (told (acts o) c) i)
  entry_reached {s} {h} c Closes i =
      (promised_as window i c closes, never_unsound (window n) s c closes, _, command_reached wide (told closes c) i)
  entry_reached {s} {h} c Malformed i = (refl, λ e. omega arith, h, i)

  -- Entry after entry: they answer as the machine does, and none is refused with 3.
  promised_runs : {s : Session} {h : List Event} (b k : ℕ) (c : Counts) (es : List Entry) → Reached false (window n) n L s h →
      let r = run_from (window n) b k s c es in
      (run_by promised b k s c es ≡ r) × ((j : ℕ) → r.ending ≡ Refused unsound j → ⊥)
  unfolding run_by
  promised_runs b k c [] i = (refl, λ j e. let z : ◌≡◌ {A = ℕ} 0 1 = cc in omega arith)
  promised_runs zero k c (e ∷ es) i = (refl, λ j t. let z : ◌≡◌ {A = ℕ} 0 1 = cc in omega arith)
  promised_runs {s = s} (suc b) k c (e ∷ es) i =
      let a = entry_answer (execute (window n)) s c e in
      let one = entry_reached c e i in
      let rest = promised_runs {s = a.session} b (suc k) a.counts es one.3 in (
        rw one.0 (ap (λ (r : Ran). cond (eqb a.code 0) r (ran k s c (Refused a.code k))) rest.0),
        λ j. cond_cases (λ (r : Ran). r.ending ≡ Refused unsound j → ⊥) (eqb a.code 0) (λ z. rest.1 j) (λ z u. one.1 (cc)),
      )

-- ---- the machine

-- What the entries tell a session, in their order. (An entry that is carried out is not malformed.)
abbrev pub commands : List Entry → List Command
commands [] = []
commands (Acts o ∷ es) = acts o ∷ commands es
commands (Closes ∷ es) = closes ∷ commands es
commands (Malformed ∷ es) = commands es

-- The commands, oldest first, each with the counts that the one before left, on top of what the machine was fed before.
abbrev pub fed : (W : ℕ) → Session → Counts → List Command → List (Input Command) → List (Input Command)
fed W start c [] fs = fs
fed W start c (x ∷ xs) fs = fed W start (execute W (machine (sessions W) start fs) c x).counts xs (told x c ∷ fs)

-- And the counts that the last one left.
abbrev pub counts_left : (W : ℕ) → Session → Counts → List Command → List (Input Command) → Counts
counts_left W start c [] fs = c
counts_left W start c (x ∷ xs) fs = counts_left W start (execute W (machine (sessions W) start fs) c x).counts xs (told x c ∷ fs)

-- Of a run after k entries: how many more were carried out, that its session and counts are the machine's after them, and that a session
-- was made.
record Follows (W : ℕ) (start : Session) (fs : List (Input Command)) (c : Counts) (es : List Entry) (k : ℕ) (r : Ran) : Type 0 where
  pub count : ℕ
  pub carried : r.carried ≡ k + count
  pub session : r.session ≡ machine (sessions W) start (fed W start c (commands (take count es)) fs)
  pub counts : r.counts ≡ counts_left W start c (commands (take count es)) fs
  pub made : (qs : List Process) (b : List ℕ) → ending_buffer r.ending qs b ≡ decided_bytes qs

-- No entry more.
follows_none : {W : ℕ} {start : Session} {fs : List (Input Command)} (c : Counts) (es : List Entry) (k : ℕ) (e : Ending) →
    ((qs : List Process) (b : List ℕ) → ending_buffer e qs b ≡ decided_bytes qs) →
    Follows W start fs c es k (ran k (machine (sessions W) start fs) c e)
follows_none c es k e made = record { count = 0; carried = omega arith; session = refl; counts = refl; made = made }

run_follows_from : (W : ℕ) (start : Session) (fs : List (Input Command)) (b k : ℕ) (c : Counts) (es : List Entry) →
    Follows W start fs c es k (run_from W b k (machine (sessions W) start fs) c es)
unfolding run_by execute
run_follows_from W start fs b k c [] = follows_none c [] k Finished (λ qs b. refl)
run_follows_from W start fs zero k c (e ∷ es) = follows_none c (e ∷ es) k BudgetEnded (λ qs b. refl)
run_follows_from W start fs (suc b) k c (Malformed ∷ es) = follows_none c (Malformed ∷ es) k (Refused bad_entry k) (λ qs b. refl)
run_follows_from W start fs (suc b) k c (Acts o ∷ es) =
    let a = execute W (machine (sessions W) start fs) c (acts o) in
    cond_cases (Follows W start fs c (Acts o ∷ es) k) (eqb a.code 0)
    (λ z.
    let r = run_follows_from W start (told (acts o) c ∷ fs) b (suc k) a.counts es in
    record { count = suc r.count; carried = omega (arith, r.carried); session = r.session; counts = r.counts; made = r.made })
    (λ z. follows_none c (Acts o ∷ es) k (Refused a.code k) (λ qs b. refl))
run_follows_from W start fs (suc b) k c (Closes ∷ es) =
    let r = run_follows_from W start (told closes c ∷ fs) b (suc k) c es in
    record { count = suc r.count; carried = omega (arith, r.carried); session = r.session; counts = r.counts; made = r.made }

-- ---- a sheet

-- The machine of a sheet: its window and its session just opened.
abbrev pub window_of : (sheet : List ℕ) → ℕ
window_of t = window (process_count t)

abbrev pub opened_by : (sheet : List ℕ) → Session
opened_by t = opened (process_count t) (round_limit t)

-- What it was fed: the entries that were carried out, newest first, each with the counts that the one before left.
abbrev pub run_inputs : Limits → (sheet : List ℕ) (budget : ℕ) → List (Input Command)
run_inputs most t budget = fed (window_of t) (opened_by t) no_counts (commands (take (run_within most t budget).carried (entries t))) []

module _ (most : Limits) (up : UpToServer most) (t : List ℕ) (budget : ℕ) (ok : sheet_refusal most t ≡ 0) where
  -- An accepted sheet is run by the machine, from the session that it opens.
  run_accepted : run_within most t budget ≡ run_from (window_of t) budget 0 (opened_by t) no_counts (entries t)
  unfolding run_within
  run_accepted = rw ok

  -- The header's n and L open a session.
  pub sheet_opens : refusal (open_tests most (process_count t) (round_limit t)) ≡ 0
  sheet_opens = let a = (sheet_facts most t ok).opens in rw (a.0, a.1.0)

  pub sheet_reached : (1 ≤ process_count t) × Reached false (window_of t) (process_count t) (round_limit t) (opened_by t) []
  sheet_reached =
      let a = open_held most up (window_of t) (process_count t) (round_limit t) sheet_opens in
      (a.0, opened_session (window_of t) (process_count t) (round_limit t) a.0 a.1 a.2 a.3)

  wide : 1 ≤ window_of t
  wide = omega (arith, window_least (process_count t) sheet_reached.0)

  -- The public operations, one after another, give the same as the machine, up to the budget or the first refused entry.
  pub run_public : run_by promised budget 0 (opened_by t) no_counts (entries t) ≡ run_within most t budget
  run_public = (promised_runs wide budget 0 no_counts (entries t) sheet_reached.1).0 ∙ sym run_accepted

  -- No entry is refused with 3.
  pub run_never_three : (k : ℕ) → (run_within most t budget).ending ≡ Refused unsound k → ⊥
  run_never_three k e = (promised_runs wide budget 0 no_counts (entries t) sheet_reached.1).1 k (rw run_accepted at e)

  -- The session and the counts that a run leaves are the machine's, after the entries that were carried out.
  run_follows : Follows (window_of t) (opened_by t) [] no_counts (entries t) 0 (run_within most t budget)
  run_follows = rw run_accepted (run_follows_from (window_of t) (opened_by t) [] budget 0 no_counts (entries t))

  carried_count : (run_within most t budget).carried ≡ run_follows.count
  carried_count = omega (arith, run_follows.carried)

  pub run_machine : (run_within most t budget).session ≡ machine (sessions (window_of t)) (opened_by t) (run_inputs most t budget)
  run_machine = rw carried_count run_follows.session

  pub run_counts : (run_within most t budget).counts ≡ counts_left (window_of t) (opened_by t) no_counts
      (commands (take (run_within most t budget).carried (entries t))) []
  run_counts = rw carried_count run_follows.counts

  -- So the rule holds of it.
  pub run_rule : Rule (run_within most t budget).session (past (sessions (window_of t)) (opened_by t) (run_inputs most t budget))
  run_rule =
      rw run_machine
      (reached_rule (window_least (process_count t) sheet_reached.0) (window_square (process_count t))
      (machine_reached wide sheet_reached.1 (run_inputs most t budget)))

-- And the bytes that the C entry writes are those of its processes.
pub run_bytes_law : (t : List ℕ) (budget : ℕ) → sheet_refusal (limits_of Server) t ≡ 0 → (b : List ℕ) → length b ≡ 256 →
    export_buffer t budget b ≡ decided_bytes (run_within (limits_of Server) t budget).session.processes
unfolding export_buffer run
run_bytes_law t budget ok b size =
    let r = run_within (limits_of Server) t budget in
    rw (eq-eqb (length b) 256 size) ((run_follows (limits_of Server) (caller_limits Server) t budget ok).made r.session.processes b)
