-- What the runner's loop keeps, and the laws of its turns.
use Rattle.std.specs.Prelude.{◌+◌, ◌-◌, ◌≤◌, ◌<◌, ◌≡◌, ◌||◌, ◌∷◌, Some, None}
use Rattle.base.specs.Prelude.{ℕ, suc, zero, arith, add-one, refl, sym, ◌∙◌, subst₃, Bool, true, false, cond}
use Rattle.base.specs.Prelude.{true≢false, List, length, leb, ne_eqb, leb-true, leb-false, lt-leb}
use Rattle.base.specs.Bools.{cond_cases}
use Rattle.model_laws.specs.Types.{Caller, Limits, Session, Counts, Operation, Entry, Acts, Closes, Malformed, Finished, Refused}
use Rattle.model_laws.specs.Types.{BudgetEnded, Rejected, Ran}
use Rattle.model.specs.Window.{window}
use Rattle.model.specs.Board.{limits_of, UpToServer, process_at, opened, no_counts, with_closed}
use Rattle.model.specs.Numbers.{no_such_process, bad_entry}
use Rattle.model.specs.Refusal.{refusal, full, tests}
use Rattle.model.specs.Machine.{after, counts_after, answered, perform, execute, process_of}
use Rattle.model.specs.Sound.{sound_for}
use Rattle.model.specs.Runner.{ran, run_by, run_from, run_within, run}
use Rattle.model.specs.Sheet.{process_count, round_limit, entries, sheet_refusal}
use Rattle.model_laws.specs.Accepted.{own_tests, Accepted, accepted}
use Rattle.model_laws.specs.SheetFacts.{sheet_facts}
use Rattle.model_laws.specs.Answers.{accepted_counts}
use Rattle.model_laws.specs.Operations.{opened_sound, after_sound}
use Rattle.model_laws.specs.Callers.{open_held}
use Rattle.model_laws.specs.Sounds.{sound_facts, closed_sound}
use Rattle.model_laws.specs.Windows.{window_least}
use Rattle.sheet_laws.specs.declared.Reader.{Reader}
use Rattle.sheet_laws.specs.Places.{handed, advanced, rest, Inside, Proper}
use Rattle.sheet_laws.specs.Reading.{handed_by, moved_on, left_to}
use Rattle.sheet_laws.specs.Ordered.{accepted_inside}
use Rattle.sheet_laws.specs.PlaceLaws.{advanced_proper, rest_next, rest_end}
use Rattle.sheet_laws.specs.Entries.{halt_of, entry_refusal, number_refusal}

-- A session to start from: sound at window W.
pub record Opened (W : ℕ) (s : Session) : Type 0 where
  pub wide : 1 ≤ W
  pub sound : sound_for W s ≡ true

-- What a run starts from: such a session, and a sheet whose runs lie inside it.
pub record Begun (t : List ℕ) (W : ℕ) (s : Session) : Type 0 where
  pub opened : Opened W s
  pub inside : Inside t

-- ---- the start of a run

-- An accepted sheet opens a sound session, within limits up to the server's.
pub sheet_opens : (most : Limits) → UpToServer most → (t : List ℕ) {W : ℕ} {s : Session} → sheet_refusal most t ≡ 0 →
    W ≡ window (process_count t) →
    s ≡ opened (process_count t) (round_limit t) → Begun t W s
unfolding opened
sheet_opens most up t e ew es =
    let inside = accepted_inside most t e in
    let a = (sheet_facts most t e).opens in
    let f = open_held most up (window (process_count t)) (process_count t) (round_limit t) (rw (a.0, a.1.0)) in
    rw (ew, es)
    (record {
      opened = record {
        wide = omega (arith, window_least (process_count t) f.0);
        sound = opened_sound _ (process_count t) (round_limit t) f.0 f.1 f.2 f.3;
      };
      inside = inside;
    })

-- "no session made": a refused sheet.
pub run_rejected : (caller : Caller) (t : List ℕ) (budget r : ℕ) → r ≡ sheet_refusal (limits_of caller) t → (r ≡ 0 → ⊥) →
    ran 0 (opened 0 0) no_counts (Rejected r) ≡ run caller t budget
unfolding run run_within
run_rejected caller t budget zero e some = absurd (some refl)
run_rejected caller t budget (suc r) e some = rw (← e)

-- An accepted one.
pub run_accepted : (caller : Caller) (t : List ℕ) (budget : ℕ) {W : ℕ} → W ≡ window (process_count t) →
    sheet_refusal (limits_of caller) t ≡ 0 →
    run_from W budget 0 (opened (process_count t) (round_limit t)) no_counts (entries t) ≡ run caller t budget
unfolding run run_within
run_accepted caller t budget ew e = rw (e, ew)

-- ---- one entry of a run

module _ (W b k : ℕ) (s : Session) (c : Counts) (o : Operation) (es : List Entry) where
  -- An operation that is not refused is carried out, and the run goes on.
  one_more : refusal (tests s c o) ≡ 0 →
      run_from W (suc b) k s c (Acts o ∷ es) ≡ run_from W b (suc k) (after W s o) (counts_after s c o) es
  unfolding run_by execute perform answered
  one_more h = rw h

  -- A refused one ends it.
  one_refused : (r : ℕ) → refusal (tests s c o) ≡ r → (r ≡ 0 → ⊥) →
      run_from W (suc b) k s c (Acts o ∷ es) ≡ ran k s c (Refused r k)
  unfolding run_by execute perform answered
  one_refused zero h some = absurd (some refl)
  one_refused (suc r) h some = rw (h, ne_eqb (suc r) 0 some)

-- ---- where the code stands in a turn

-- An operation o, its process p, which is one of the n, and the number r of its refusal.
pub record Entered (s : Session) (c : Counts) (o : Operation) (p r : ℕ) : Type 0 where
  pub named : p ≡ process_of o
  pub below : p < s.n
  pub code : r ≡ refusal (own_tests s.closed (process_at s p).phase c o)

module _ {s : Session} {c : Counts} {o : Operation} {p : ℕ} where
  pub entered_none : {r : ℕ} → Entered s c o p r → r ≡ 0 → Entered s c o p 0
  entered_none f none = record { named = f.named; below = f.below; code = sym none ∙ f.code }

  -- The number is that of the machine's tests.
  entered_code : {r : ℕ} → Entered s c o p r → r ≡ refusal (tests s c o)
  entered_code f =
      let low : process_of o < s.n = rw (← f.named) f.below in
      f.code ∙ rw f.named (sym (entry_refusal s c o low))

  entered_accepted : Entered s c o p 0 → Accepted s c o
  entered_accepted f = accepted s c o (sym (entered_code f))

  -- The counts that the code leaves are the machine's: they are not full.
  pub tallied : {d d' : Counts} → Entered s c o p 0 → d' ≡ counts_after s c o → d ≡ cond (full c) c d' → d ≡ counts_after s c o
  unfolding counts_after
  tallied f e' ed = ed ∙ rw e' (accepted_counts s.limit (process_at s (process_of o)) _ s.closed c o (entered_accepted f).own)

-- Past the test of the budget and of the process' number there is budget left, and the process is one of the n.
pub due : (budget k n p : ℕ) → (leb budget k || leb n p) ≡ false → (k < budget) × (p < n)
due budget k n p = go (leb budget k) refl
  where
    go : (b : Bool) → leb budget k ≡ b → (b || leb n p) ≡ false → (k < budget) × (p < n)
    go true e o = absurd (true≢false o)
    go false e o = (leb-false budget k e, leb-false n p o)

-- What the loop keeps, at a place of sheet t: the answer is that of the run from here on, with k entries carried out; the session is sound.
pub record Carrying (answer : Ran) (t : List ℕ) (budget W : ℕ) (s : Session) (c : Counts) (k : ℕ) (place : ℕ) : Type 0 where
  pub same : answer ≡ run_from W (budget - k) k s c (rest t place)
  pub proper : Proper t place
  pub within : k ≤ budget
  pub opened : Opened W s

-- The same by other names of the session, the counts and the place.
carrying_at : {answer : Ran} {t : List ℕ} {budget W k : ℕ} {s s' : Session} {c c' : Counts} {place place' : ℕ} →
    s ≡ s' → c ≡ c' → place ≡ place' → Carrying answer t budget W s c k place → Carrying answer t budget W s' c' k place'
carrying_at {answer} {t} {budget} {W} {k} es ec ep h =
    subst₃ (λ s c place. Carrying answer t budget W s c k place) es ec ep h

module _ {answer : Ran} {t : List ℕ} {budget W : ℕ} {s : Session} {c : Counts} {k : ℕ} {place : ℕ}
    (h : Carrying answer t budget W s c k place) where
  -- "It ends finished when none is left".
  pub ends : handed t place ≡ None → answer ≡ ran k s c Finished
  unfolding run_by
  ends e = h.same ∙ rw (rest_end t place h.proper e)

  -- A process of the session is one of the 64 rows.
  pub row_low : {p : ℕ} → p < s.n → p < 64
  row_low below = omega (arith, (sound_facts false W s h.opened.sound).few)

  -- So is one past the test of the budget and of its number.
  pub row_past : {p : ℕ} → false ≡ (leb budget k || leb s.n p) → p < 64
  row_past {p} past = row_low (due budget k s.n p (sym past)).1

  module _ {e : Entry} (next : handed t place ≡ Some e) where
    -- One entry fewer is left behind it.
    pub shorter : {next_place : ℕ} → next_place ≡ advanced t place → length (rest t next_place) < length (rest t place)
    shorter ep = rw (ep, rest_next t place h.proper next) (omega arith)

    -- "budget ended after as many entries as the budget allows with more left".
    spent : budget ≤ k → answer ≡ ran k s c BudgetEnded
    unfolding run_by
    spent low =
        let z : budget - k ≡ 0 = omega arith in
        h.same ∙ rw (rest_next t place h.proper next, z)

    here : k < budget → answer ≡ run_from W (suc (budget - (k + 1))) k s c (e ∷ rest t (advanced t place))
    here left =
        let z : budget - k ≡ suc (budget - (k + 1)) = omega arith in
        rw (← z, ← rest_next t place h.proper next) h.same

    -- "that next one is not tried", or it is refused with this number.
    ended : (code : ℕ) → (k < budget → answer ≡ ran k s c (Refused code k)) → answer ≡ ran k s c (halt_of budget k code)
    ended code refused = cond_cases (λ x. answer ≡ ran k s c x) (leb budget k) (λ b. spent (leb-true budget k b))
        (λ b. refused (leb-false budget k b))

  -- An entry that says nothing.
  pub malformed : handed t place ≡ Some Malformed → answer ≡ ran k s c (halt_of budget k bad_entry)
  unfolding run_by
  malformed next = ended next bad_entry (here next)

  -- A close: one more is carried out, or "that next one is not tried".
  module _ (next : handed t place ≡ Some Closes) where
    pub close_spent : budget ≤ k → answer ≡ ran k s c BudgetEnded
    close_spent = spent next

    pub closes : {s₁ : Session} {d : Counts} {next_place : ℕ} → k < budget → s₁ ≡ with_closed s → d ≡ c →
        next_place ≡ advanced t place → Carrying answer t budget W s₁ d (k + 1) next_place
    unfolding run_by execute
    closes left es ed ep =
        carrying_at (sym es) (sym ed) (sym ep)
        (record {
          same = here next left ∙ rw (add-one k);
          proper = advanced_proper t place h.proper;
          within = omega arith;
          opened = record { wide = h.opened.wide; sound = closed_sound W s ∙ h.opened.sound };
        })

  module _ {o : Operation} (next : handed t place ≡ Some (Acts o)) where
    module _ (left : k < budget) where
      -- "with the refusal and the entry's index (from 0) at the first refused one".
      pub refused : {p r : ℕ} → Entered s c o p r → (r ≡ 0 → ⊥) → answer ≡ ran k s c (Refused r k)
      refused {p} {r} f some = here next left ∙ one_refused W _ k s c o _ r (sym (entered_code f)) some

      -- An accepted entry: what the code leaves is what the one form has, and one more is carried out.
      pub goes_on : {p : ℕ} {s₁ : Session} {d : Counts} {next_place : ℕ} →
          Entered s c o p 0 →
          s₁ ≡ after W s o →
          d ≡ counts_after s c o →
          next_place ≡ advanced t place →
          Carrying answer t budget W s₁ d (k + 1) next_place
      goes_on f es ed ep =
          carrying_at (sym es) (sym ed) (sym ep)
          (record {
            same = here next left ∙ one_more W _ k s c o _ (sym (entered_code f)) ∙ rw (add-one k);
            proper = advanced_proper t place h.proper;
            within = omega arith;
            opened = record {
              wide = h.opened.wide;
              sound = after_sound W h.opened.wide s c o h.opened.sound (entered_accepted f);
            };
          })

    -- The budget has ended, or the process is n or above.
    pub halted : {p : ℕ} → p ≡ process_of o → (leb budget k || leb s.n p) ≡ true → answer ≡ ran k s c (halt_of budget k no_such_process)
    halted {p} named stops =
        ended next no_such_process
        (λ left.
        here next left
        ∙ one_refused W _ k s c o _ no_such_process
        (number_refusal s c o (rw (← named) (leb-true s.n p (rw (lt-leb budget k left) at stops))))
        (λ z. omega arith))

-- ---- by the reader that stands there

-- What the loop keeps: the same, of the sheet and the place of its reader.
abbrev pub Reads : (answer : Ran) (budget W : ℕ) (s : Session) (c : Counts) (k : ℕ) → Reader → Type 0
Reads answer budget W s c k r = Carrying answer r.sheet.now budget W s c k r.place

-- One entry fewer is left to the reader that has moved on.
pub fewer_left : {answer : Ran} {budget W k : ℕ} {s : Session} {c : Counts} {e : Entry} {r r' : Reader} →
    Reads answer budget W s c k r → handed_by r ≡ Some e → r' ≡ moved_on r → length (left_to r') < length (left_to r)
fewer_left h next er = rw er (shorter h next refl)

-- The reader moves on.
pub reads_on : {answer : Ran} {budget W k : ℕ} {s : Session} {c : Counts} (r : Reader) {r' : Reader} → r' ≡ moved_on r →
    Carrying answer r.sheet.now budget W s c k (advanced r.sheet.now r.place) → Reads answer budget W s c k r'
reads_on r er h = rw er h
