-- Contested is the number of marked rounds, after every list of calls on one tally and after every sheet.
use Rattle.std.specs.Prelude.{◌≤◌, ◌≡◌, ◌∷◌}
use Rattle.base.specs.Prelude.{ℕ, suc, zero, arith, refl, sym, false, List, [], eqb}
use Rattle.base.specs.Bools.{cond_cases}
use Rattle.model_laws.specs.Types.{Session, Counts, acts, closes, Entry, Acts, Closes, Malformed, Ran, Stepped}
use Rattle.model.specs.Window.{window}
use Rattle.model.specs.Board.{no_counts, opened}
use Rattle.model.specs.Machine.{execute}
use Rattle.model.specs.Sheet.{process_count, round_limit, entries, sheet_refusal}
use Rattle.model.specs.Runner.{entry_answer, run_by, run_from, ran_or, run_within}
use Rattle.model_laws.specs.Windows.{window_least}
use Rattle.model_laws.specs.Callers.{opening_held}
use Rattle.model_rule.specs.Event.{Event}
use Rattle.model_rule.specs.Calls.{sessions}
use Rattle.model_rule.specs.Contested.{marked_rounds, ContestedRule, ContestedRun}
use Rattle.theory_board.specs.Marks.{GrowAlike, reached_adds, opened_unmarked, calls_contested}
use Rattle.theory_board.specs.Reached.{Reached, machine_reached}
use Rattle.theory_agreement.specs.Theorem.{sessions_followed, opening_reached}
use Rattle.theory_sheet.specs.Runs.{entry_reached, sheet_reached}

module _ {n L : ℕ} (wide : 1 ≤ window n) where
  -- One entry.
  entry_adds : {s : Session} {h : List Event} (c : Counts) (e : Entry) → Reached false (window n) n L s h →
      let a = entry_answer (execute (window n)) s c e in GrowAlike c s a.counts a.session
  entry_adds c (Acts o) i = reached_adds c (acts o) i
  entry_adds c Closes i = reached_adds c closes i
  entry_adds c Malformed i = refl

  -- Entry after entry.
  runs_contested : {s : Session} {h : List Event} (b k : ℕ) (c : Counts) (es : List Entry) → Reached false (window n) n L s h →
      c.contested ≡ marked_rounds s →
      let r = run_from (window n) b k s c es in r.counts.contested ≡ marked_rounds r.session
  unfolding run_by
  runs_contested b k c [] i same = same
  runs_contested zero k c (e ∷ es) i same = same
  runs_contested {s = s} (suc b) k c (e ∷ es) i same =
      let a = entry_answer (execute (window n)) s c e in
      cond_cases (λ (r : Ran). r.counts.contested ≡ marked_rounds r.session) (eqb a.code 0)
      (λ z.
      runs_contested {s = a.session} b (suc k) a.counts es (entry_reached wide c e i).3 (omega (arith, entry_adds c e i)))
      (λ z. same)

pub contested : ContestedRule
contested most up n L ok cs s c run tally =
    let o = opening_reached most up (window n) n L ok in
    let wide : 1 ≤ window n = omega (arith, window_least n o.0) in
    let f = sessions_followed window wide o.1 run in
    rw f.1
    (calls_contested (sessions (window n)) (λ (a : Stepped). a.counts) marked_rounds _
    (rw (opening_held most up (window n) n L ok).4 (opened_unmarked n L))
    (λ fs f. reached_adds f.counts f.operation (machine_reached wide o.1 fs))
    cs c f.0 tally)

pub run_contested : ContestedRun
unfolding run_within
run_contested most up t budget = go (sheet_refusal most t) refl
  where
    go : (k : ℕ) → sheet_refusal most t ≡ k →
        let r = ran_or k (run_from (window (process_count t)) budget 0 (opened (process_count t) (round_limit t)) no_counts (entries t)) in
        r.counts.contested ≡ marked_rounds r.session
    go zero e =
        let o = sheet_reached most up t budget e in
        let wide : 1 ≤ window (process_count t) = omega (arith, window_least (process_count t) o.0) in
        runs_contested wide budget 0 no_counts (entries t) o.1 (sym (opened_unmarked (process_count t) (round_limit t)))
    go (suc k) e = sym (opened_unmarked 0 0)
